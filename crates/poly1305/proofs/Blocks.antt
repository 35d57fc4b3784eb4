-- Blocks as words, and the last block of a part.
use Rattle.std.proofs.Common.{◌≡◌, ℕ, zero, suc, ◌+◌, ◌-◌, ◌*◌, ◌/◌, ◌%◌, ◌^◌, ◌<◌, ◌≤◌, List, [], ◌∷◌, ◌++◌, length, get_or, take, drop, set, replicate, sym, refl, ap, ◌∙◌, arith, ◌≢◌, ◌==◌, false, inl, inr}
use native.Mathlib.Nat.{div-div-eq-div-mul}
use Rattle.std.proofs.lemmas.List.{length-append, length-take-le, length-drop, length-replicate, take-append-drop, take-take, drop-take, drop-drop, take_all, drop-append-le, append_assoc, append-nil, set-append_right, drop-replicate}
use Rattle.octets.specs.Endian.{le, le_bytes}
use Rattle.octets.proofs.Laws.{le-append, le-one, le_zeros, le_bytes-mod}
use Rattle.poly1305.specs.Poly1305.{prime, absorb, absorb_all, blocks, padded}
use Rattle.poly1305.specs.State.{last_block, absorb_part}
use Rattle.std.specs.Simd.{first_chunks}
use Rattle.std.proofs.lemmas.Bool.{cases_eq}
use Rattle.std.proofs.lemmas.Bool.Decides.{nat_tests}
use Rattle.poly1305.proofs.Field.{reduced_first}
use Rattle.poly1305.proofs.Laws.{absorb_all_more, absorb_all-front}

-- 16 bytes are two words.
pub two_words : (s : List ℕ) (at next : ℕ) → at + 16 ≤ length s → next ≡ at + 8
    → le (take 16 (drop at s)) ≡ le (take 8 (drop at s)) + 2 ^ 64 * le (take 8 (drop next s))
two_words s at next h e =
    let l : 8 ≤ length (drop at s) = simp length-drop (omega arith) in
    let p : take 16 (drop at s) ≡ take 8 (drop at s) ++ take 8 (drop (at + 8) s)
    = sym (take-append-drop 8 (take 16 (drop at s)))
    ∙ ap (λ x. x ++ drop 8 (take 16 (drop at s))) (take-take 8 16 (drop at s) (omega arith))
    ∙ ap (λ x. take 8 (drop at s) ++ x) (drop-take 8 8 (drop at s) ∙ ap (take 8) (drop-drop 8 at s)) in
    let q = ap le p ∙ le-append (take 8 (drop at s)) (take 8 (drop (at + 8) s)) in
    let k = ap (λ n. 256 ^ n * le (take 8 (drop (at + 8) s))) (length-take-le 8 (drop at s) l) in
    let n = ap (λ i. le (take 8 (drop i s))) e in
    omega arith

-- A whole block with its mark.
marked : (block : List ℕ) → length block ≡ 16 → le (block ++ 1 ∷ []) ≡ le block + 2 ^ 104 * 2 ^ 24
marked block h =
    let p = le-append block (1 ∷ []) in
    let k = ap (λ n. 256 ^ n * le (1 ∷ [])) h in
    let o = le-one 1 in
    omega arith

-- One block: b is the number that is added.
added : (r a b : ℕ) (block : List ℕ) → le (block ++ 1 ∷ []) ≡ b → ((a + b) * r) % prime ≡ absorb r a block
unfolding absorb
added r a b block e = ap (λ n. ((a + n) * r) % prime) (sym e)

-- The same from what the limbs hold, h.
reduced : (r h a b : ℕ) → h % prime ≡ a → ((h + b) * r) % prime ≡ ((a + b) * r) % prime
reduced r h a b e = sym (reduced_first h b r) ∙ ap (λ n. ((n + b) * r) % prime) e

-- The chunk i of a part.
chunk_at : (k i : ℕ) (xs : List ℕ) → i < k → get_or (first_chunks 16 k xs) i [] ≡ take 16 (drop (16 * i) xs)
chunk_at zero i xs h = elim h [ ]
chunk_at (suc k) zero xs h = refl
chunk_at (suc k) (suc i) xs h =
    let e : 16 * suc i ≡ 16 + 16 * i = omega arith in
    rw (e, ← drop-drop (16 * i) 16 xs) (chunk_at k i (drop 16 xs) (omega arith))

-- One more whole block: x is what the limbs hold after it.
pub one_more : (r a h x i k : ℕ) (m block : List ℕ) → 16 * i + 16 ≤ length m → i < k → block ≡ get_or (first_chunks 16 k m) i []
    → h % prime ≡ absorb_all r a i m → x % prime ≡ ((h + (le block + 2 ^ 104 * 2 ^ 24)) * r) % prime
    → x % prime ≡ absorb_all r a (i + 1) m
one_more r a h x i k m block n o e f g =
    let c : block ≡ take 16 (drop (16 * i) m) = e ∙ chunk_at k i m o in
    let l : length block ≡ 16 = ap length c ∙ length-take-le 16 (drop (16 * i) m) (simp length-drop (omega arith)) in
    g ∙ reduced r h (absorb_all r a i m) _ f ∙ added r (absorb_all r a i m) _ block (marked block l) ∙ ap (absorb r (absorb_all r a i m)) c ∙ sym (absorb_all_more r a i m)

-- A block filled up after the bytes xs: the byte `end` at k, where they stop.
pub filled : (ys xs : List ℕ) (d at k end : ℕ) → ys ≡ xs → length xs ≡ k → k < 16 → d ≡ k → at ≡ k
    → set (ys ++ drop d (replicate 16 0)) at end ≡ xs ++ end ∷ replicate (15 - k) 0
filled ys xs d at k end e l h f g =
    let j : k - k ≡ 0 = omega arith in
    let s : 16 - k ≡ suc (15 - k) = omega arith in
    rw (e, f, g) (set-append_right xs (drop k (replicate 16 0)) k k end l (omega arith) ∙ rw (drop-replicate {X = ℕ} k 16 0, j, s))

-- The number of a block that is filled up, with or without the mark after it.
filled_number : (t : List ℕ) (b k : ℕ) → le (t ++ b ∷ replicate k 0) ≡ le (t ++ b ∷ [])
filled_number t b k =
    let z = le_zeros k in
    let p = ap le (append_assoc t (b ∷ []) (replicate k 0)) in
    let q = le-append (t ++ b ∷ []) (replicate k 0) in
    let m = ap (λ n. 256 ^ length (t ++ b ∷ []) * n) z in
    omega arith

length_filled : (m : List ℕ) (b : ℕ) → length (last_block m b) ≡ 16
length_filled m b = simp (length-append, length-drop, length-replicate) (omega arith)

pub block_words : (block : List ℕ) → length block ≡ 16 → le block ≡ le (take 8 block) + 2 ^ 64 * le (take 8 (drop 8 block))
block_words block h =
    sym (ap le (take_all 16 block (omega arith))) ∙ two_words block 0 8 (omega arith) refl

-- The limbs hold x after a part, and h after its whole blocks.
pub part_whole : (r a h end top : ℕ) (m : List ℕ) → length m % 16 ≡ 0 → h % prime ≡ absorb_all r a (length m / 16) m → h % prime ≡ absorb_part r a m end top
part_whole r a h end top m n e = rw n e

pub part_more : (r a h x end top : ℕ) (m block : List ℕ) → length m % 16 ≢ 0 → h % prime ≡ absorb_all r a (length m / 16) m → block ≡ last_block m end
    → x % prime ≡ ((h + (le block + 2 ^ 104 * top)) * r) % prime → x % prime ≡ absorb_part r a m end top
part_more r a h x end top m block n e f g =
    let t : (length m % 16 == 0) ≡ false = grind (arith, nat_tests) in
    rw t (g ∙ reduced r h (absorb_all r a (length m / 16) m) _ e ∙ ap (λ l. ((absorb_all r a (length m / 16) m + (le l + 2 ^ 104 * top)) * r) % prime) f)

-- A part of whole blocks has no other last block, and no padding.
pub blocks-whole : (m : List ℕ) → length m % 16 ≡ 0 → length m / 16 ≡ blocks (length m)
unfolding blocks
blocks-whole m h = omega arith

pub padded-whole : (m : List ℕ) → length m % 16 ≡ 0 → padded m ≡ m
unfolding blocks padded
padded-whole m h =
    let k : 16 * ((length m + 15) / 16) - length m ≡ 0 = omega arith in
    ap (λ n. m ++ replicate n 0) k ∙ append-nil m

-- The mark of the last block stands inside it.
pub last_short : (r a : ℕ) (m : List ℕ) → absorb_part r a m 1 0 ≡ absorb_all r a (blocks (length m)) m
unfolding blocks
last_short r a m =
    elim (cases_eq (length m % 16) 0) [
      | inl n ↦ rw (n, ← blocks-whole m n) refl
      | inr n ↦
          let t : (length m % 16 == 0) ≡ false = grind (arith, nat_tests) in
          let c : (length m + 15) / 16 ≡ length m / 16 + 1 = omega arith in
          let d : take 16 (drop (16 * (length m / 16)) m) ≡ drop (16 * (length m / 16)) m = take_all 16 _ (simp length-drop (omega arith)) in
          let f = filled_number (drop (16 * (length m / 16)) m) 1 (15 - length m % 16) in
          rw (t, c)
          (added r (absorb_all r a (length m / 16) m) _ (drop (16 * (length m / 16)) m) (omega arith)
          ∙ ap (absorb r (absorb_all r a (length m / 16) m)) (sym d)
          ∙ sym (absorb_all_more r a (length m / 16) m))
    ]

-- The last block is filled up with zeros.
pub last_padded : (r a : ℕ) (m : List ℕ) → absorb_part r a m 0 (2 ^ 24) ≡ absorb_all r a (blocks (length m)) (padded m)
unfolding blocks padded
last_padded r a m =
    elim (cases_eq (length m % 16) 0) [
      | inl n ↦ rw (n, padded-whole m n, ← blocks-whole m n) refl
      | inr n ↦
          let t : (length m % 16 == 0) ≡ false = grind (arith, nat_tests) in
          let c : (length m + 15) / 16 ≡ length m / 16 + 1 = omega arith in
          let z : 16 * ((length m + 15) / 16) - length m ≡ suc (15 - length m % 16) = omega arith in
          let s : padded m ≡ m ++ 0 ∷ replicate (15 - length m % 16) 0 = ap (λ d. m ++ replicate d 0) z in
          let d : take 16 (drop (16 * (length m / 16)) (padded m)) ≡ last_block m 0
          = ap (λ l. take 16 (drop (16 * (length m / 16)) l)) s
          ∙ ap (take 16) (drop-append-le (16 * (length m / 16)) m _ (omega arith))
          ∙ take_all 16 (last_block m 0) (omega (arith, length_filled m 0)) in
          let q : absorb_all r a (length m / 16) m ≡ absorb_all r a (length m / 16) (padded m) = sym (absorb_all-front r a (length m / 16) m _ (omega arith)) in
          rw (t, q)
          (added r (absorb_all r a (length m / 16) (padded m)) _ (last_block m 0) (marked (last_block m 0) (length_filled m 0))
          ∙ ap (absorb r (absorb_all r a (length m / 16) (padded m))) (sym d)
          ∙ sym (absorb_all_more r a (length m / 16) (padded m))
          ∙ ap (λ n. absorb_all r a n (padded m)) (sym c))
    ]

-- 16 bytes of a number, one by one.
abbrev sixteen : ℕ → List ℕ
sixteen x =
    (x % 256) ∷ (x / 256 % 256) ∷ (x / 65536 % 256) ∷ (x / 16777216 % 256) ∷ (x / 4294967296 % 256) ∷ (x / 1099511627776 % 256) ∷ (x / 281474976710656 % 256) ∷ (x / 72057594037927936 % 256) ∷ (x / 18446744073709551616 % 256) ∷ (x / 4722366482869645213696 % 256) ∷ (x / 1208925819614629174706176 % 256) ∷ (x / 309485009821345068724781056 % 256) ∷ (x / 79228162514264337593543950336 % 256) ∷ (x / 20282409603651670423947251286016 % 256) ∷ (x / 5192296858534827628530496329220096 % 256) ∷ (x / 1329227995784915872903807060280344576 % 256) ∷ []

sixteen_is : (x : ℕ) → sixteen x ≡ le_bytes 16 x
unfolding le_bytes
sixteen_is x = simp div-div-eq-div-mul

-- The bytes of a sum modulo 2 ^ 128: x is the accumulator's part of it, and t what was added.
pub tag-bytes : (tag : List ℕ) (x t m s : ℕ) → tag ≡ sixteen ((x + t) % 2 ^ 128) → x ≡ m % 2 ^ 128 → t ≡ s → tag ≡ le_bytes 16 (m + s)
tag-bytes tag x t m s e f g =
    let q : m + s ≡ (x + t) % 2 ^ 128 + 256 ^ 16 * ((m + s) / 2 ^ 128) = omega arith in
    e ∙ sixteen_is ((x + t) % 2 ^ 128) ∙ sym (ap (le_bytes 16) q ∙ le_bytes-mod 16 ((x + t) % 2 ^ 128) ((m + s) / 2 ^ 128))
