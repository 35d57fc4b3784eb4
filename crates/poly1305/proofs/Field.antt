-- Arithmetic modulo the prime, in limbs of 26 bits.
use Rattle.std.proofs.Common.{◌≡◌, ℕ, ◌+◌, ◌-◌, ◌*◌, ◌/◌, ◌%◌, ◌^◌, ◌<◌, sym, ap, ◌∙◌, arith}
use native.Mathlib.Nat.{add-mul-mod_self_left}
use lib.Bits.{bit_and, bit_or}
use Rattle.std.proofs.lemmas.Nat.{and_mask, and_shr, and_mod, or_shifted, mod-pow-add}
use Rattle.poly1305.specs.Poly1305.{prime, clamp}
use Rattle.poly1305.specs.Limbs.{number}

pub low26 : (n : ℕ) → bit_and n 0x3ff_ffff ≡ n % 2 ^ 26
low26 n = and_mask n 26

low_part : (q t b : ℕ) → t < 2 ^ 14 → b < 2 ^ 12 → ((q * 2 ^ 14 + t) * 2 ^ 12 + b) % 2 ^ 26 ≡ b + 2 ^ 12 * t
low_part q t b h l = omega arith

-- The limb that has bits of both words.
pub middle : (lo hi : ℕ) → lo < 2 ^ 64
    → bit_and (bit_or ((hi * 2 ^ 12) % 2 ^ 64) (lo / 2 ^ 52)) 0x3ff_ffff ≡ lo / 2 ^ 52 + 2 ^ 12 * (hi % 2 ^ 14)
middle lo hi h =
    let e : (hi * 2 ^ 12) % 2 ^ 64 ≡ (hi % 2 ^ 52) * 2 ^ 12 = omega arith in
    rw (e, or_shifted (hi % 2 ^ 52) 12 (lo / 2 ^ 52) (omega arith), low26)
    (ap (λ n. (n * 2 ^ 12 + lo / 2 ^ 52) % 2 ^ 26) (mod-pow-add hi 38 14)
    ∙ low_part (hi / 2 ^ 14 % 2 ^ 38) (hi % 2 ^ 14) (lo / 2 ^ 52) (omega arith) (omega arith))

-- The 25 products of two numbers' limbs: what passes 130 bits comes round as its fivefold. Linear in the products.
spread : (p00 p01 p02 p03 p04 p10 p11 p12 p13 p14 p20 p21 p22 p23 p24 p30 p31 p32 p33 p34 p40 p41 p42 p43 p44 : ℕ)
    → number (number p00 p01 p02 p03 p04) (number p10 p11 p12 p13 p14) (number p20 p21 p22 p23 p24) (number p30 p31 p32 p33 p34) (number p40 p41 p42 p43 p44)
    ≡ number (p00 + 5 * p14 + 5 * p23 + 5 * p32 + 5 * p41) (p01 + p10 + 5 * p24 + 5 * p33 + 5 * p42) (p02 + p11 + p20 + 5 * p34 + 5 * p43) (p03 + p12 + p21 + p30 + 5 * p44) (p04 + p13 + p22 + p31 + p40) + (2 ^ 130 - 5) * ((p14 + p23 + p32 + p41) + 2 ^ 26 * (p24 + p33 + p42) + 2 ^ 52 * (p34 + p43) + 2 ^ 78 * p44)
unfolding number
spread p00 p01 p02 p03 p04 p10 p11 p12 p13 p14 p20 p21 p22 p23 p24 p30 p31 p32 p33 p34 p40 p41 p42 p43 p44 = omega arith

row : (a r0 r1 r2 r3 r4 : ℕ) → a * number r0 r1 r2 r3 r4 ≡ number (a * r0) (a * r1) (a * r2) (a * r3) (a * r4)
unfolding number
row a r0 r1 r2 r3 r4 = omega arith

column : (h0 h1 h2 h3 h4 x : ℕ) → number h0 h1 h2 h3 h4 * x ≡ number (h0 * x) (h1 * x) (h2 * x) (h3 * x) (h4 * x)
unfolding number
column h0 h1 h2 h3 h4 x = omega arith

-- The five sums of a product.
pub products : (h0 h1 h2 h3 h4 r0 r1 r2 r3 r4 d0 d1 d2 d3 d4 : ℕ)
    → d0 ≡ h0 * r0 + h1 * (5 * r4) + h2 * (5 * r3) + h3 * (5 * r2) + h4 * (5 * r1)
    → d1 ≡ h0 * r1 + h1 * r0 + h2 * (5 * r4) + h3 * (5 * r3) + h4 * (5 * r2)
    → d2 ≡ h0 * r2 + h1 * r1 + h2 * r0 + h3 * (5 * r4) + h4 * (5 * r3)
    → d3 ≡ h0 * r3 + h1 * r2 + h2 * r1 + h3 * r0 + h4 * (5 * r4)
    → d4 ≡ h0 * r4 + h1 * r3 + h2 * r2 + h3 * r1 + h4 * r0
    → number d0 d1 d2 d3 d4 % prime ≡ (number h0 h1 h2 h3 h4 * number r0 r1 r2 r3 r4) % prime
unfolding prime
products h0 h1 h2 h3 h4 r0 r1 r2 r3 r4 d0 d1 d2 d3 d4 a b c d e =
    let e0 : d0 ≡ h0 * r0 + 5 * (h1 * r4) + 5 * (h2 * r3) + 5 * (h3 * r2) + 5 * (h4 * r1) = omega arith in
    let e1 : d1 ≡ h0 * r1 + h1 * r0 + 5 * (h2 * r4) + 5 * (h3 * r3) + 5 * (h4 * r2) = omega arith in
    let e2 : d2 ≡ h0 * r2 + h1 * r1 + h2 * r0 + 5 * (h3 * r4) + 5 * (h4 * r3) = omega arith in
    let e3 : d3 ≡ h0 * r3 + h1 * r2 + h2 * r1 + h3 * r0 + 5 * (h4 * r4) = omega arith in
    let s : number h0 h1 h2 h3 h4 * number r0 r1 r2 r3 r4
    ≡ number d0 d1 d2 d3 d4 + (2 ^ 130 - 5) * ((h1 * r4 + h2 * r3 + h3 * r2 + h4 * r1) + 2 ^ 26 * (h2 * r4 + h3 * r3 + h4 * r2) + 2 ^ 52 * (h3 * r4 + h4 * r3) + 2 ^ 78 * (h4 * r4))
    = rw (column, row h0, row h1, row h2, row h3, row h4, e0, e1, e2, e3, e) (spread (h0 * r0) (h0 * r1) (h0 * r2) (h0 * r3) (h0 * r4) (h1 * r0) (h1 * r1) (h1 * r2) (h1 * r3) (h1 * r4) (h2 * r0) (h2 * r1) (h2 * r2) (h2 * r3) (h2 * r4) (h3 * r0) (h3 * r1) (h3 * r2) (h3 * r3) (h3 * r4) (h4 * r0) (h4 * r1) (h4 * r2) (h4 * r3) (h4 * r4)) in
    sym (ap (λ n. n % (2 ^ 130 - 5)) s ∙ add-mul-mod_self_left _ (2 ^ 130 - 5) _)

carries : (d0 d1 d2 d3 d4 : ℕ)
    → let e1 = d1 + d0 / 2 ^ 26 in let e2 = d2 + e1 / 2 ^ 26 in let e3 = d3 + e2 / 2 ^ 26 in let e4 = d4 + e3 / 2 ^ 26 in
    let e0 = d0 % 2 ^ 26 + 5 * (e4 / 2 ^ 26) in
    number d0 d1 d2 d3 d4 ≡ number (e0 % 2 ^ 26) (e1 % 2 ^ 26 + e0 / 2 ^ 26) (e2 % 2 ^ 26) (e3 % 2 ^ 26) (e4 % 2 ^ 26) + (2 ^ 130 - 5) * (e4 / 2 ^ 26)
unfolding number
carries d0 d1 d2 d3 d4 = omega arith

-- A carry keeps the number, modulo the prime.
pub carry_keeps : (d0 d1 d2 d3 d4 : ℕ)
    → let e1 = d1 + d0 / 2 ^ 26 in let e2 = d2 + e1 / 2 ^ 26 in let e3 = d3 + e2 / 2 ^ 26 in let e4 = d4 + e3 / 2 ^ 26 in
    let e0 = bit_and d0 0x3ff_ffff + 5 * (e4 / 2 ^ 26) in
    number (bit_and e0 0x3ff_ffff) (bit_and e1 0x3ff_ffff + e0 / 2 ^ 26) (bit_and e2 0x3ff_ffff) (bit_and e3 0x3ff_ffff) (bit_and e4 0x3ff_ffff) % prime
    ≡ number d0 d1 d2 d3 d4 % prime
unfolding prime
carry_keeps d0 d1 d2 d3 d4 =
    simp low26 (sym (ap (λ n. n % (2 ^ 130 - 5)) (carries d0 d1 d2 d3 d4) ∙ add-mul-mod_self_left _ (2 ^ 130 - 5) _))

quotient_out : (h q m b r : ℕ) → h ≡ (2 ^ 130 - 5) * q + m → (h + b) * r ≡ (m + b) * r + (2 ^ 130 - 5) * (q * r)
quotient_out h q m b r e = rw e (omega arith)

-- A sum may be reduced before it is multiplied.
pub reduced_first : (h b r : ℕ) → ((h % prime + b) * r) % prime ≡ ((h + b) * r) % prime
unfolding prime
reduced_first h b r =
    sym (ap (λ n. n % (2 ^ 130 - 5)) (quotient_out h (h / (2 ^ 130 - 5)) (h % (2 ^ 130 - 5)) b r (omega arith))
    ∙ add-mul-mod_self_left _ (2 ^ 130 - 5) _)

-- Whether a number reaches the prime: the carry out of its limbs with 5 added.
overflow : (l0 l1 l2 l3 l4 : ℕ)
    → (l4 + (l3 + (l2 + (l1 + (l0 + 5) / 2 ^ 26) / 2 ^ 26) / 2 ^ 26) / 2 ^ 26) / 2 ^ 26 ≡ (number l0 l1 l2 l3 l4 + 5) / 2 ^ 130
unfolding number
overflow l0 l1 l2 l3 l4 = omega arith

below_twice : (n : ℕ) → n < 2 * (2 ^ 130 - 5) → n % prime + 2 ^ 130 * ((n + 5) / 2 ^ 130) ≡ n + 5 * ((n + 5) / 2 ^ 130)
unfolding prime
below_twice n h = omega arith

joined : (l0 l1 l2 l3 l4 v m : ℕ) → m + 2 ^ 130 * v ≡ number l0 l1 l2 l3 l4 + 5 * v
    → (l0 + 5 * v + (l1 * 2 ^ 26) % 2 ^ 128 + (l2 * 2 ^ 52) % 2 ^ 128 + (l3 * 2 ^ 78) % 2 ^ 128 + (l4 * 2 ^ 104) % 2 ^ 128) % 2 ^ 128 ≡ m % 2 ^ 128
unfolding number
joined l0 l1 l2 l3 l4 v m e = omega arith

-- The lowest 128 bits of a number modulo the prime, from its limbs.
pub low_bits : (l0 l1 l2 l3 l4 : ℕ) → number l0 l1 l2 l3 l4 < 2 * (2 ^ 130 - 5)
    → let v = (l4 + (l3 + (l2 + (l1 + (l0 + 5) / 2 ^ 26) / 2 ^ 26) / 2 ^ 26) / 2 ^ 26) / 2 ^ 26 in
    (l0 + 5 * v + (l1 * 2 ^ 26) % 2 ^ 128 + (l2 * 2 ^ 52) % 2 ^ 128 + (l3 * 2 ^ 78) % 2 ^ 128 + (l4 * 2 ^ 104) % 2 ^ 128) % 2 ^ 128
    ≡ (number l0 l1 l2 l3 l4 % prime) % 2 ^ 128
low_bits l0 l1 l2 l3 l4 h =
    joined l0 l1 l2 l3 l4 _ (number l0 l1 l2 l3 l4 % prime) (rw (overflow l0 l1 l2 l3 l4) (below_twice (number l0 l1 l2 l3 l4) h))

-- The mask of the clamp on both words.
pub clamp_words : (lo hi : ℕ) → lo < 2 ^ 64 → clamp (lo + 2 ^ 64 * hi) ≡ bit_and lo 0x0ffffffc0fffffff + 2 ^ 64 * bit_and hi 0x0ffffffc0ffffffc
unfolding clamp
clamp_words lo hi h =
    let d : (lo + 2 ^ 64 * hi) / 2 ^ 64 ≡ hi = omega arith in
    let m : (lo + 2 ^ 64 * hi) % 2 ^ 64 ≡ lo = omega arith in
    let p = and_shr (lo + 2 ^ 64 * hi) 0x0ffffffc0ffffffc0ffffffc0fffffff 64 ∙ ap (λ n. bit_and n 0x0ffffffc0ffffffc) d in
    let q = and_mod (lo + 2 ^ 64 * hi) 0x0ffffffc0ffffffc0ffffffc0fffffff 64 ∙ ap (λ n. bit_and n 0x0ffffffc0fffffff) m in
    omega (arith, p, q)
