-- Laws of `le` and `le_bytes`.
use Rattle.std.proofs.Common.{◌≡◌, ℕ, zero, suc, ◌+◌, ◌*◌, ◌/◌, ◌%◌, ◌^◌, ◌<◌, List, [], ◌∷◌, ◌++◌, length, get_or, drop, replicate, refl, ap, mul_comm, suc-add, pow-suc, zero-add, div-one, arith}
use native.Mathlib.Nat.{div-div-eq-div-mul}
use Rattle.std.proofs.lemmas.List.{drop_more, drop_all}
use Rattle.octets.specs.Endian.{le, le_bytes}

pub le-none : le [] ≡ 0
unfolding le
le-none = refl

pub le-one : (b : ℕ) → le (b ∷ []) ≡ b
unfolding le
le-one b = omega arith

-- One byte taken off the front of what is left.
pub le_front : (s : List ℕ) (at next : ℕ) → at < length s → next ≡ at + 1 → le (drop at s) ≡ get_or s at 0 + 256 * le (drop next s)
unfolding le
le_front s at next h e = rw (drop_more s at 0 h, e)

-- Nothing is left.
pub le_end : (s : List ℕ) (at : ℕ) → length s ≡ at → le (drop at s) ≡ 0
unfolding le
le_end s at h = rw (drop_all at s (omega arith))

-- The number of joined strings.
pub le-append : (xs ys : List ℕ) → le (xs ++ ys) ≡ le xs + 256 ^ length xs * le ys
unfolding le
le-append [] ys = omega arith
le-append (x ∷ xs) ys = rw (le-append xs ys, pow-suc 256 (length xs)) (omega arith)

-- Zeros at the end add nothing.
pub le_zeros : (n : ℕ) → le (replicate n 0) ≡ 0
unfolding le
le_zeros zero = refl
le_zeros (suc n) = rw (le_zeros n)

pub length-le_bytes : (n x : ℕ) → length (le_bytes n x) ≡ n
unfolding le_bytes
length-le_bytes zero x = refl
length-le_bytes (suc n) x = ap suc (length-le_bytes n (x / 256))

-- The first m bytes, and the others.
pub le_bytes-append : (m n x : ℕ) → le_bytes (m + n) x ≡ le_bytes m x ++ le_bytes n (x / 256 ^ m)
unfolding le_bytes
le_bytes-append zero n x = rw (zero-add n, div-one x)
le_bytes-append (suc m) n x =
    rw (suc-add m n, le_bytes-append m n (x / 256), div-div-eq-div-mul x 256 (256 ^ m), mul_comm 256 (256 ^ m), ← pow-suc 256 m)

-- What lies past the bytes that are written doesn't matter.
pub le_bytes-mod : (n x y : ℕ) → le_bytes n (x + 256 ^ n * y) ≡ le_bytes n x
unfolding le_bytes
le_bytes-mod zero x y = refl
le_bytes-mod (suc n) x y =
    let p : x + 256 ^ suc n * y ≡ x + 256 * (256 ^ n * y) = rw (pow-suc 256 n) (omega arith) in
    let m : (x + 256 * (256 ^ n * y)) % 256 ≡ x % 256 = omega arith in
    let d : (x + 256 * (256 ^ n * y)) / 256 ≡ x / 256 + 256 ^ n * y = omega arith in
    rw (p, m, d, le_bytes-mod n (x / 256) y)

-- A number that fits is written by its bytes.
pub le-le_bytes : (n x : ℕ) → x < 256 ^ n → le (le_bytes n x) ≡ x
unfolding le le_bytes
le-le_bytes zero x h = omega arith
le-le_bytes (suc n) x h =
    let h2 : x < 256 ^ n * 256 = rw (pow-suc 256 n) at h in
    rw (le-le_bytes n (x / 256) (omega arith)) (omega arith)

-- The four bytes of a word, one by one.
pub four_bytes : (x : ℕ) → (x % 256) ∷ (x / 256 % 256) ∷ (x / 65536 % 256) ∷ (x / 16777216 % 256) ∷ [] ≡ le_bytes 4 x
unfolding le_bytes
four_bytes x =
    let a : x / 65536 ≡ x / 256 / 256 = omega arith in
    let b : x / 16777216 ≡ x / 256 / 256 / 256 = omega arith in
    rw (a, b)

-- The eight bytes of a word, one by one.
pub eight_bytes : (x : ℕ)
    → (x % 256) ∷ (x / 256 % 256) ∷ (x / 65536 % 256) ∷ (x / 16777216 % 256) ∷ (x / 4294967296 % 256) ∷ (x / 1099511627776 % 256) ∷ (x / 281474976710656 % 256) ∷ (x / 72057594037927936 % 256) ∷ [] ≡ le_bytes 8 x
unfolding le_bytes
eight_bytes x =
    let a : x / 65536 ≡ x / 256 / 256 = omega arith in
    let b : x / 16777216 ≡ x / 256 / 256 / 256 = omega arith in
    let c : x / 4294967296 ≡ x / 256 / 256 / 256 / 256 = omega arith in
    let d : x / 1099511627776 ≡ x / 256 / 256 / 256 / 256 / 256 = omega arith in
    let e : x / 281474976710656 ≡ x / 256 / 256 / 256 / 256 / 256 / 256 = omega arith in
    let f : x / 72057594037927936 ≡ x / 256 / 256 / 256 / 256 / 256 / 256 / 256 = omega arith in
    rw (a, b, c, d, e, f)
