-- Numbers of 130 bits as five limbs of 26.
use Rattle.std.specs.Prelude.{◌≡◌, ℕ, ◌+◌, ◌*◌, ◌^◌}
use Rattle.poly1305.specs.declared.limbs.Limbs.{Limbs}
use Rattle.poly1305.specs.declared.limbs.Sum.{Sum}

-- The number that five limbs write, the lowest first.
unfoldable pub number : (l0 l1 l2 l3 l4 : ℕ) → ℕ
number l0 l1 l2 l3 l4 = l0 + 2 ^ 26 * l1 + 2 ^ 52 * l2 + 2 ^ 78 * l3 + 2 ^ 104 * l4

abbrev pub value : Limbs → ℕ
value x = number x.l0 x.l1 x.l2 x.l3 x.l4

-- The number that a sum stands for.
abbrev pub total : Sum → ℕ
total x = number x.l0 x.l1 x.l2 x.l3 x.l4

-- Every limb is 0.
pub record Zero (x : Limbs) : Type 0 where
  pub z0 : x.l0 ≡ 0
  pub z1 : x.l1 ≡ 0
  pub z2 : x.l2 ≡ 0
  pub z3 : x.l3 ≡ 0
  pub z4 : x.l4 ≡ 0
