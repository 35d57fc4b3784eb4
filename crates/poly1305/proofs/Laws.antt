-- Laws of `absorb_all`, `padded` and `mac`.
use Rattle.std.proofs.Common.{◌≡◌, ℕ, zero, suc, ◌+◌, ◌*◌, ◌/◌, ◌%◌, ◌≤◌, List, ◌++◌, length, take, drop, refl, ap, ◌∙◌, suc-add, zero-add, arith}
use Rattle.std.proofs.lemmas.List.{length-append, length-drop, length-replicate, nil_from_length, take-append-le, drop-append-le, drop-drop}
use Rattle.octets.specs.Endian.{le, le_bytes}
use Rattle.octets.proofs.Laws.{length-le_bytes}
use Rattle.poly1305.specs.Poly1305.{clamp, absorb, absorb_all, blocks, mac, padded}

-- Joined parts, the first of whole blocks.
pub absorb_all_join : (r a i j : ℕ) (xs ys : List ℕ) → length xs ≡ 16 * i
    → absorb_all r a (i + j) (xs ++ ys) ≡ absorb_all r (absorb_all r a i xs) j ys
unfolding absorb_all
absorb_all_join r a zero j xs ys h = rw (zero-add j, nil_from_length xs (omega arith))
absorb_all_join r a (suc i) j xs ys h =
    let l : 16 ≤ length xs = omega arith in
    ap (λ n. absorb_all r a n (xs ++ ys)) (suc-add i j)
    ∙ ap (λ b. absorb_all r (absorb r a b) (i + j) (drop 16 (xs ++ ys))) (take-append-le 16 xs ys l)
    ∙ ap (absorb_all r (absorb r a (take 16 xs)) (i + j)) (drop-append-le 16 xs ys l)
    ∙ absorb_all_join r (absorb r a (take 16 xs)) i j (drop 16 xs) ys (simp length-drop (omega arith))

-- What follows the blocks that are absorbed doesn't matter.
pub absorb_all-front : (r a i : ℕ) (xs ys : List ℕ) → 16 * i ≤ length xs → absorb_all r a i (xs ++ ys) ≡ absorb_all r a i xs
unfolding absorb_all
absorb_all-front r a zero xs ys h = refl
absorb_all-front r a (suc i) xs ys h =
    let l : 16 ≤ length xs = omega arith in
    rw (take-append-le 16 xs ys l, drop-append-le 16 xs ys l)
    (absorb_all-front r (absorb r a (take 16 xs)) i (drop 16 xs) ys (simp length-drop (omega arith)))

-- One more block at the end.
pub absorb_all_more : (r a i : ℕ) (m : List ℕ) → absorb_all r a (i + 1) m ≡ absorb r (absorb_all r a i m) (take 16 (drop (16 * i) m))
unfolding absorb_all
absorb_all_more r a zero m = refl
absorb_all_more r a (suc i) m =
    let e : 16 * suc i ≡ 16 + 16 * i = omega arith in
    rw (suc-add i 1, e, ← drop-drop (16 * i) 16 m) (absorb_all_more r (absorb r a (take 16 m)) i (drop 16 m))

pub length-padded : (m : List ℕ) → length (padded m) ≡ 16 * blocks (length m)
unfolding padded blocks
length-padded m = simp (length-append, length-replicate) (omega arith)

pub length-mac : (key m : List ℕ) → length (mac key m) ≡ 16
length-mac key m = length-le_bytes 16 _

-- The tag of two parts, the first of whole blocks.
pub mac_join : (key xs ys : List ℕ) → length xs % 16 ≡ 0
    → let r = clamp (le (take 16 key)) in
    mac key (xs ++ ys) ≡ le_bytes 16 (absorb_all r (absorb_all r 0 (blocks (length xs)) xs) (blocks (length ys)) ys + le (take 16 (drop 16 key)))
unfolding blocks
mac_join key xs ys h =
    let e : (length (xs ++ ys) + 15) / 16 ≡ (length xs + 15) / 16 + (length ys + 15) / 16 = simp length-append (omega arith) in
    ap (λ n. le_bytes 16 (n + le (take 16 (drop 16 key))))
    (ap (λ n. absorb_all (clamp (le (take 16 key))) 0 n (xs ++ ys)) e
    ∙ absorb_all_join (clamp (le (take 16 key))) 0 ((length xs + 15) / 16) ((length ys + 15) / 16) xs ys (omega arith))

whole : (i j n : ℕ) → blocks (16 * i + (16 * j + n)) ≡ i + (j + blocks n)
unfolding blocks
whole i j n = omega arith

count : (xs ys zs : List ℕ) → blocks (length (padded xs ++ (padded ys ++ zs))) ≡ blocks (length xs) + (blocks (length ys) + blocks (length zs))
count xs ys zs = simp (length-append, length-padded) (whole (blocks (length xs)) (blocks (length ys)) (length zs))

-- The tag of two padded parts and a last one.
pub mac-padded : (key xs ys zs : List ℕ)
    → let r = clamp (le (take 16 key)) in
    let a = absorb_all r 0 (blocks (length xs)) (padded xs) in
    let b = absorb_all r a (blocks (length ys)) (padded ys) in
    mac key (padded xs ++ (padded ys ++ zs)) ≡ le_bytes 16 (absorb_all r b (blocks (length zs)) zs + le (take 16 (drop 16 key)))
mac-padded key xs ys zs =
    ap (λ n. le_bytes 16 (n + le (take 16 (drop 16 key))))
    (ap (λ n. absorb_all (clamp (le (take 16 key))) 0 n (padded xs ++ (padded ys ++ zs))) (count xs ys zs)
    ∙ absorb_all_join (clamp (le (take 16 key))) 0 (blocks (length xs)) (blocks (length ys) + blocks (length zs)) (padded xs) (padded ys ++ zs) (length-padded xs)
    ∙ absorb_all_join (clamp (le (take 16 key))) _ (blocks (length ys)) (blocks (length zs)) (padded ys) zs (length-padded ys))
