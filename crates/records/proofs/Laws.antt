-- Laws of records and of the lists that they are written into.
use Rattle.std.proofs.Common.{◌≡◌, ℕ, ◌+◌, ◌-◌, ◌≤◌, Bool, true, false, cond, List, [], ◌++◌, length, take, drop, sym, refl, ap, ◌∙◌, arith}
use Rattle.std.proofs.lemmas.List.{take_at, drop_at, drop-drop, append_assoc}
use Rattle.records.specs.Format.{key, content, out, be2, be4, head, encode}
use borrow.Rule.Slice.PartMut.{put_mid, post_of}

-- The front of a list, written in two parts.
pub two_parts : {X : Type 0} (xs a b : List X) (m n : ℕ) → length a ≡ m → m ≤ n → put_mid m (n - m) (a ++ post_of 0 m xs) b ≡ a ++ (b ++ drop n xs)
two_parts xs a b m n e h =
    let t : take m (a ++ drop m xs) ≡ a = take_at a (drop m xs) m e in
    let d : drop m (a ++ drop m xs) ≡ drop m xs = drop_at a (drop m xs) m e in
    let k : m + (n - m) ≡ n = omega arith in
    let r : drop (n - m) (drop m (a ++ drop m xs)) ≡ drop n xs = ap (drop (n - m)) d ∙ drop-drop (n - m) m xs ∙ ap (λ z. drop z xs) k in
    ap (λ z. take m (a ++ drop m xs) ++ (b ++ z)) r ∙ ap (λ z. z ++ (b ++ drop n xs)) t

-- Two strings joined to a list, one after the other; or, where the second had no room, none.
pub append-done : {X : Type 0} {one two : List X} {b : Bool} (was xs ys : List X) → one ≡ was ++ xs → b ≡ true → two ≡ cond b (one ++ ys) one → two ≡ cond b (was ++ (xs ++ ys)) was
append-done {one} {two} {b} was xs ys p t e =
    e ∙ ap (λ v. cond v (one ++ ys) one) t ∙ ap (λ v. v ++ ys) p ∙ append_assoc was xs ys ∙ sym (ap (λ v. cond v (was ++ (xs ++ ys)) was) t)

pub append_undone : {X : Type 0} {one two three : List X} {b : Bool} (n : ℕ) (was xs ys : List X) → one ≡ was ++ xs → b ≡ false → two ≡ cond b (one ++ ys) one → three ≡ take n two → length was ≡ n
    → three ≡ cond b (was ++ (xs ++ ys)) was
append_undone {one} {two} {three} {b} n was xs ys p t e q l =
    q ∙ ap (take n) (e ∙ ap (λ v. cond v (one ++ ys) one) t ∙ p) ∙ take_at was xs n l ∙ sym (ap (λ v. cond v (was ++ (xs ++ ys)) was) t)

-- The bytes of a record, written in two parts.
pub encode-key : (node number under : ℕ) (front sealed : List ℕ) → front ≡ head 75 node number ++ (be4 under ++ []) → front ++ sealed ≡ encode (key node number under sealed)
unfolding encode head be4
encode-key node number under front sealed e = ap (λ x. x ++ sealed) e

pub encode-content : (node number : ℕ) (front sealed : List ℕ) → front ≡ head 67 node number ++ (be2 (length sealed - 16) ++ []) → front ++ sealed ≡ encode (content node number sealed)
unfolding encode head be4 be2
encode-content node number front sealed e = ap (λ x. x ++ sealed) e

pub encode-out : (node next : ℕ) → head 69 node next ≡ encode (out node next)
unfolding encode
encode-out node next = refl
