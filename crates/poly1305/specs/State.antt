-- What the state of a Poly1305 stands for.
use Rattle.std.specs.Prelude.{◌≡◌, ℕ, ◌+◌, ◌-◌, ◌*◌, ◌/◌, ◌%◌, ◌^◌, ◌==◌, if◌then◌else◌, List, ◌∷◌, ◌++◌, length, drop, replicate}
use Rattle.octets.specs.Endian.{le}
use Rattle.poly1305.specs.Poly1305.{prime, absorb_all}
use Rattle.poly1305.specs.Limbs.{value, Zero}
use Rattle.poly1305.specs.declared.state.Poly1305.{Poly1305}

-- The sum of the blocks so far.
abbrev pub accumulator : Poly1305 → ℕ
accumulator p = value p.acc % prime

-- The clamped half of the key.
abbrev pub multiplier : Poly1305 → ℕ
multiplier p = value p.r

-- The half of the key that is added last.
abbrev pub added : Poly1305 → ℕ
added p = p.s0 + 2 ^ 64 * p.s1

-- What follows the whole blocks of a part, then the byte `end`, and zeros up to a block.
abbrev pub last_block : (part : List ℕ) (end : ℕ) → List ℕ
last_block part end = drop (16 * (length part / 16)) part ++ end ∷ replicate (15 - length part % 16) 0

-- An accumulator a after a part: its whole blocks, and its last block, if anything follows them, with `top` behind it.
abbrev pub absorb_part : (r a : ℕ) (part : List ℕ) (end top : ℕ) → ℕ
absorb_part r a part end top =
    let whole = absorb_all r a (length part / 16) part in
    if length part % 16 == 0 then whole else ((whole + (le (last_block part end) + 2 ^ 104 * top)) * r) % prime

-- Nothing of a key or a message is left: every limb and both words are 0.
pub record Idle (p : Poly1305) : Type 0 where
  pub acc_zero : Zero p.acc
  pub r_zero : Zero p.r
  pub s0_zero : p.s0 ≡ 0
  pub s1_zero : p.s1 ≡ 0
