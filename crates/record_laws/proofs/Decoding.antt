-- Decoding and encoding undo each other.
use Rattle.std.proofs.Common.{◌≡◌, ℕ, ◌+◌, ◌-◌, ◌*◌, ◌/◌, ◌%◌, ◌^◌, ◌<◌, ◌≤◌, Bool, true, false, cond, ◌&&◌, eqb, ltb, leb, List, [], ◌∷◌, ◌++◌, length, get_or, take, drop, sym, refl, ap, ◌∙◌, subst, inl, inr, arith, pow_mono}
use Rattle.std.proofs.lemmas.List.{take_at, drop_at, drop-drop, append_assoc, length-append, length-take-le, get_or-take, drop_more, take-append-drop, length-drop}
use Rattle.std.proofs.lemmas.Bool.{cases_lt, cond_both, eqb-true, ltb-false, and_parts}
use Rattle.std.proofs.lemmas.Bool.Decides.{nat_tests}
use Rattle.records.specs.Format.{Record, key, content, out, be2, be4, head, encode, Proper}
use Rattle.records.specs.Decode.{Decoded, one, ends, other, number2, number4, decoded, is_place, is_number, key_at, content_at, out_at, by_tag}
use Rattle.record_laws.specs.Laws.{Bytes, DecodesEncoded, EncodesDecoded, TornEnds}
use Rattle.records.specs.Values.{is_key, is_out}

-- Four digits of base 256.
pub four_digits : (x : ℕ) → x < 2 ^ 32 → (x / 16777216 % 256) * 16777216 + (x / 65536 % 256) * 65536 + (x / 256 % 256) * 256 + x % 256 ≡ x
four_digits x h =
    let a : x / 65536 ≡ x / 256 / 256 = omega arith in
    let b : x / 16777216 ≡ x / 256 / 256 / 256 = omega arith in
    rw (a, b) (omega arith)

-- What stands in a string of bytes that begins with a head.
module _ (tag n m : ℕ) (t : List ℕ) where
  pub head-tag : get_or (head tag n m ++ t) 0 0 ≡ tag
  unfolding head
  head-tag = refl

  pub head-node : n < 2 ^ 32 → number4 (head tag n m ++ t) 1 ≡ n
  unfolding head be4 number4
  head-node h = four_digits n h

  pub head-number : m < 2 ^ 32 → number4 (head tag n m ++ t) 5 ≡ m
  unfolding head be4 number4
  head-number h = four_digits m h

  pub head-length : length (head tag n m ++ t) ≡ 9 + length t
  unfolding head be4
  head-length = omega arith

  pub head_rest : drop 9 (head tag n m ++ t) ≡ t
  unfolding head be4
  head_rest = refl

module _ (tag n m u : ℕ) (t : List ℕ) where
  pub front-under : u < 2 ^ 32 → number4 (head tag n m ++ (be4 u ++ t)) 9 ≡ u
  unfolding head be4 number4
  front-under h = four_digits u h

  pub front_count : u < 65536 → number2 (head tag n m ++ (be2 u ++ t)) 9 ≡ u
  unfolding head be4 be2 number2
  front_count h = omega arith

-- Which bytes decode to which record.
module _ (levels : ℕ) (bs : List ℕ) (n m : ℕ) (rest : List ℕ) where
  pub key_decodes : (u : ℕ) (s : List ℕ) → get_or bs 0 0 ≡ 75 → 61 ≤ length bs → number4 bs 1 ≡ n → number4 bs 5 ≡ m → number4 bs 9 ≡ u → take 48 (drop 13 bs) ≡ s → drop 61 bs ≡ rest
      → Proper levels (key n m u s) → decoded levels bs ≡ one (key n m u s) rest
  unfolding decoded
  key_decodes u s t l en em eu es er p = grind (arith, nat_tests)

  pub content_decodes : (k : ℕ) (s : List ℕ) → get_or bs 0 0 ≡ 67 → 27 + k ≤ length bs → number4 bs 1 ≡ n → number4 bs 5 ≡ m → number2 bs 9 ≡ k → take (k + 16) (drop 11 bs) ≡ s → drop (27 + k) bs ≡ rest
      → length s ≡ k + 16 → Proper levels (content n m s) → decoded levels bs ≡ one (content n m s) rest
  unfolding decoded
  content_decodes k s t l en em ek es er q p = grind (arith, nat_tests)

  pub out_decodes : get_or bs 0 0 ≡ 69 → 9 ≤ length bs → number4 bs 1 ≡ n → number4 bs 5 ≡ m → drop 9 bs ≡ rest → Proper levels (out n m) → decoded levels bs ≡ one (out n m) rest
  unfolding decoded
  out_decodes t l en em er p = grind (arith, nat_tests)

-- A node of a tree of at most 20 levels has four bytes.
small_node : (levels n : ℕ) → levels ≤ 20 → n < 2 ^ (levels + 1) → n < 2 ^ 32
small_node levels n h k =
    let l : levels + 1 ≤ 32 = omega arith in
    let p : 2 ^ (levels + 1) ≤ 2 ^ 32 = pow_mono l in
    omega arith

split_key : (n m u : ℕ) (s rest : List ℕ) → encode (key n m u s) ++ rest ≡ head 75 n m ++ (be4 u ++ (s ++ rest))
unfolding encode head be4
split_key n m u s rest = refl

split_content : (n m : ℕ) (s rest : List ℕ) → encode (content n m s) ++ rest ≡ head 67 n m ++ (be2 (length s - 16) ++ (s ++ rest))
unfolding encode head be4 be2
split_content n m s rest = refl

split_out : (n m : ℕ) (rest : List ℕ) → encode (out n m) ++ rest ≡ head 69 n m ++ rest
unfolding encode
split_out n m rest = refl

length-be4 : (x : ℕ) (t : List ℕ) → length (be4 x ++ t) ≡ 4 + length t
unfolding be4
length-be4 x t = omega arith

length-be2 : (x : ℕ) (t : List ℕ) → length (be2 x ++ t) ≡ 2 + length t
unfolding be2
length-be2 x t = omega arith

past_be4 : (tag n m x k : ℕ) (t : List ℕ) → drop (13 + k) (head tag n m ++ (be4 x ++ t)) ≡ drop k t
unfolding head be4
past_be4 tag n m x k t = sym (drop-drop k 13 (head tag n m ++ (be4 x ++ t)))

past_be2 : (tag n m x k : ℕ) (t : List ℕ) → drop (11 + k) (head tag n m ++ (be2 x ++ t)) ≡ drop k t
unfolding head be4 be2
past_be2 tag n m x k t = sym (drop-drop k 11 (head tag n m ++ (be2 x ++ t)))

pub decodes_encoded : DecodesEncoded
decodes_encoded levels (key n m u s) rest h p =
    let bs = head 75 n m ++ (be4 u ++ (s ++ rest)) in
    let l : length bs ≡ 13 + (48 + length rest) = simp (head-length, length-be4, length-append) (omega arith) in
    let d : drop 13 bs ≡ s ++ rest = past_be4 75 n m u 0 (s ++ rest) in
    let dr : drop 61 bs ≡ rest = past_be4 75 n m u 48 (s ++ rest) ∙ drop_at s rest 48 p.5 in
    ap (decoded levels) (split_key n m u s rest) ∙ key_decodes levels bs n m rest u s (head-tag 75 n m _) (omega arith) (head-node 75 n m _ (small_node levels n h p.1)) (head-number 75 n m _ (omega arith)) (front-under 75 n m u _ (omega arith)) (ap (take 48) d ∙ take_at s rest 48 p.5) dr p
decodes_encoded levels (content n m s) rest h p =
    let k = length s - 16 in
    let bs = head 67 n m ++ (be2 k ++ (s ++ rest)) in
    let q : length s ≡ k + 16 = omega arith in
    let l : length bs ≡ 11 + (length s + length rest) = simp (head-length, length-be2, length-append) (omega arith) in
    let d : drop 11 bs ≡ s ++ rest = past_be2 67 n m k 0 (s ++ rest) in
    let j : 27 + k ≡ 11 + (k + 16) = omega arith in
    let dr : drop (27 + k) bs ≡ rest = ap (λ z. drop z bs) j ∙ past_be2 67 n m k (k + 16) (s ++ rest) ∙ drop_at s rest (k + 16) q in
    ap (decoded levels) (split_content n m s rest) ∙ content_decodes levels bs n m rest k s (head-tag 67 n m _) (omega arith) (head-node 67 n m _ (small_node levels n h p.1)) (head-number 67 n m _ (omega arith)) (front_count 67 n m k _ (omega arith)) (ap (take (k + 16)) d ∙ take_at s rest (k + 16) q) dr q p
decodes_encoded levels (out n m) rest h p =
    let bs = head 69 n m ++ rest in
    let l : length bs ≡ 9 + length rest = head-length 69 n m rest in
    ap (decoded levels) (split_out n m rest) ∙ out_decodes levels bs n m rest (head-tag 69 n m _) (omega arith) (head-node 69 n m _ (small_node levels n h p.1)) (head-number 69 n m _ (omega arith)) (head_rest 69 n m rest) p

-- Which bytes end too early.
module _ (levels : ℕ) (bs : List ℕ) where
  none_ends : length bs ≡ 0 → decoded levels bs ≡ ends
  unfolding decoded
  none_ends l = grind (arith, nat_tests)

  key-ends : get_or bs 0 0 ≡ 75 → 0 < length bs → length bs < 61 → decoded levels bs ≡ ends
  unfolding decoded
  key-ends t g l = grind (arith, nat_tests)

  content-ends-front : get_or bs 0 0 ≡ 67 → 0 < length bs → length bs < 11 → decoded levels bs ≡ ends
  unfolding decoded
  content-ends-front t g l = grind (arith, nat_tests)

  content-ends : (n m k : ℕ) (s : List ℕ) → get_or bs 0 0 ≡ 67 → 11 ≤ length bs → length bs < 27 + k → number4 bs 1 ≡ n → number4 bs 5 ≡ m → number2 bs 9 ≡ k → length s ≡ k + 16 → Proper levels (content n m s)
      → decoded levels bs ≡ ends
  unfolding decoded
  content-ends n m k s t l g en em ek q p = grind (arith, nat_tests)

  out-ends : get_or bs 0 0 ≡ 69 → 0 < length bs → length bs < 9 → decoded levels bs ≡ ends
  unfolding decoded
  out-ends t g l = grind (arith, nat_tests)

-- What stands in a front of a string of bytes.
module _ (xs : List ℕ) (j i : ℕ) where
  number4-take : i + 4 ≤ j → number4 (take j xs) i ≡ number4 xs i
  unfolding number4
  number4-take h =
      let a : i < j = omega arith in
      let b : i + 1 < j = omega arith in
      let c : i + 2 < j = omega arith in
      let d : i + 3 < j = omega arith in
      rw (get_or-take j xs i 0 a, get_or-take j xs (i + 1) 0 b, get_or-take j xs (i + 2) 0 c, get_or-take j xs (i + 3) 0 d)

  number2-take : i + 2 ≤ j → number2 (take j xs) i ≡ number2 xs i
  unfolding number2
  number2-take h =
      let a : i < j = omega arith in
      let b : i + 1 < j = omega arith in
      rw (get_or-take j xs i 0 a, get_or-take j xs (i + 1) 0 b)

encode-key-is : (n m u : ℕ) (s : List ℕ) → encode (key n m u s) ≡ head 75 n m ++ (be4 u ++ s)
unfolding encode
encode-key-is n m u s = refl

encode-content-is : (n m : ℕ) (s : List ℕ) → encode (content n m s) ≡ head 67 n m ++ (be2 (length s - 16) ++ s)
unfolding encode
encode-content-is n m s = refl

encode-out-is : (n m : ℕ) → encode (out n m) ≡ head 69 n m ++ []
unfolding encode head be4
encode-out-is n m = refl

-- The cases of a record that is cut off after j bytes.
torn_key : (levels n m u : ℕ) (s : List ℕ) (j : ℕ) → length s ≡ 48 → 0 < j → j < length (encode (key n m u s)) → decoded levels (take j (encode (key n m u s))) ≡ ends
torn_key levels n m u s j q g h =
    let e = encode-key-is n m u s in
    let xs = head 75 n m ++ (be4 u ++ s) in
    let l : length xs ≡ 61 = simp (head-length, length-be4) (omega arith) in
    let h2 : j < length xs = rw e at h in
    let lj : length (take j xs) ≡ j = length-take-le j xs (omega arith) in
    ap (λ z. decoded levels (take j z)) e ∙ key-ends levels (take j xs) (get_or-take j xs 0 0 g ∙ head-tag 75 n m _) (omega arith) (omega arith)

torn_content : (levels n m : ℕ) (s : List ℕ) (j : ℕ) → levels ≤ 20 → Proper levels (content n m s) → 0 < j → j < length (encode (content n m s)) → decoded levels (take j (encode (content n m s))) ≡ ends
torn_content levels n m s j hl p g h =
    let e = encode-content-is n m s in
    let k = length s - 16 in
    let q : length s ≡ k + 16 = omega arith in
    let xs = head 67 n m ++ (be2 k ++ s) in
    let l : length xs ≡ 11 + length s = simp (head-length, length-be2) (omega arith) in
    let h2 : j < length xs = rw e at h in
    let lj : length (take j xs) ≡ j = length-take-le j xs (omega arith) in
    let t : get_or (take j xs) 0 0 ≡ 67 = get_or-take j xs 0 0 g ∙ head-tag 67 n m _ in
    ap (λ z. decoded levels (take j z)) e ∙ elim (cases_lt j 11) [
      | inl f ↦ content-ends-front levels (take j xs) t (omega arith) (omega arith)
      | inr f ↦ content-ends levels (take j xs) n m k s t (omega arith) (omega arith) (number4-take xs j 1 (omega arith) ∙ head-node 67 n m _ (small_node levels n hl p.1)) (number4-take xs j 5 (omega arith) ∙ head-number 67 n m _ (omega arith)) (number2-take xs j 9 (omega arith) ∙ front_count 67 n m k _ (omega arith)) q p
    ]

torn_out : (levels n m j : ℕ) → 0 < j → j < length (encode (out n m)) → decoded levels (take j (encode (out n m))) ≡ ends
torn_out levels n m j g h =
    let e = encode-out-is n m in
    let xs = head 69 n m ++ [] in
    let l : length xs ≡ 9 = head-length 69 n m [] in
    let h2 : j < length xs = rw e at h in
    let lj : length (take j xs) ≡ j = length-take-le j xs (omega arith) in
    ap (λ z. decoded levels (take j z)) e ∙ out-ends levels (take j xs) (get_or-take j xs 0 0 g ∙ head-tag 69 n m []) (omega arith) (omega arith)

torn_some : (levels : ℕ) (r : Record) (j : ℕ) → levels ≤ 20 → Proper levels r → 0 < j → j < length (encode r) → decoded levels (take j (encode r)) ≡ ends
torn_some levels (key n m u s) j hl p g h = torn_key levels n m u s j p.5 g h
torn_some levels (content n m s) j hl p g h = torn_content levels n m s j hl p g h
torn_some levels (out n m) j hl p g h = torn_out levels n m j g h

pub torn_ends : TornEnds
torn_ends levels r j hl p h =
    elim (cases_lt 0 j) [
      | inl g ↦ torn_some levels r j hl p g h
      | inr g ↦ none_ends levels (take j (encode r)) (length-take-le j (encode r) (omega arith) ∙ (let z : j ≡ 0 = omega arith in z))
    ]

-- Digits of base 256 come back.
be4_digits : (a b c d : ℕ) → a < 256 → b < 256 → c < 256 → d < 256 → be4 (a * 16777216 + b * 65536 + c * 256 + d) ≡ a ∷ b ∷ c ∷ d ∷ []
unfolding be4
be4_digits a b c d ha hb hc hd =
    let x = a * 16777216 + b * 65536 + c * 256 + d in
    let e : x / 16777216 % 256 ≡ a = omega arith in
    let f : x / 65536 % 256 ≡ b = omega arith in
    let g : x / 256 % 256 ≡ c = omega arith in
    let h : x % 256 ≡ d = omega arith in
    rw (e, f, g, h)

be2_digits : (a b : ℕ) → a < 256 → b < 256 → be2 (a * 256 + b) ≡ a ∷ b ∷ []
unfolding be2
be2_digits a b ha hb =
    let x = a * 256 + b in
    let e : x / 256 % 256 ≡ a = omega arith in
    let f : x % 256 ≡ b = omega arith in
    rw (e, f)

module _ (bs : List ℕ) (all : Bytes bs) where
  drop_four : (i : ℕ) → i + 4 ≤ length bs → drop i bs ≡ be4 (number4 bs i) ++ drop (i + 4) bs
  unfolding number4
  drop_four i h =
      let a = drop_more bs i 0 (omega arith) in
      let b : drop (i + 1) bs ≡ get_or bs (i + 1) 0 ∷ drop (i + 2) bs = drop_more bs (i + 1) 0 (omega arith) ∙ ap (λ z. get_or bs (i + 1) 0 ∷ drop z bs) (let z : i + 1 + 1 ≡ i + 2 = omega arith in z) in
      let c : drop (i + 2) bs ≡ get_or bs (i + 2) 0 ∷ drop (i + 3) bs = drop_more bs (i + 2) 0 (omega arith) ∙ ap (λ z. get_or bs (i + 2) 0 ∷ drop z bs) (let z : i + 2 + 1 ≡ i + 3 = omega arith in z) in
      let d : drop (i + 3) bs ≡ get_or bs (i + 3) 0 ∷ drop (i + 4) bs = drop_more bs (i + 3) 0 (omega arith) ∙ ap (λ z. get_or bs (i + 3) 0 ∷ drop z bs) (let z : i + 3 + 1 ≡ i + 4 = omega arith in z) in
      let e = be4_digits (get_or bs i 0) (get_or bs (i + 1) 0) (get_or bs (i + 2) 0) (get_or bs (i + 3) 0) (all i) (all (i + 1)) (all (i + 2)) (all (i + 3)) in
      a ∙ ap (λ z. get_or bs i 0 ∷ z) (b ∙ ap (λ z. get_or bs (i + 1) 0 ∷ z) (c ∙ ap (λ z. get_or bs (i + 2) 0 ∷ z) d)) ∙ sym (ap (λ z. z ++ drop (i + 4) bs) e)

  drop_two : (i : ℕ) → i + 2 ≤ length bs → drop i bs ≡ be2 (number2 bs i) ++ drop (i + 2) bs
  unfolding number2
  drop_two i h =
      let a = drop_more bs i 0 (omega arith) in
      let b : drop (i + 1) bs ≡ get_or bs (i + 1) 0 ∷ drop (i + 2) bs = drop_more bs (i + 1) 0 (omega arith) ∙ ap (λ z. get_or bs (i + 1) 0 ∷ drop z bs) (let z : i + 1 + 1 ≡ i + 2 = omega arith in z) in
      let e = be2_digits (get_or bs i 0) (get_or bs (i + 1) 0) (all i) (all (i + 1)) in
      a ∙ ap (λ z. get_or bs i 0 ∷ z) b ∙ sym (ap (λ z. z ++ drop (i + 2) bs) e)

  begins : (tag : ℕ) → get_or bs 0 0 ≡ tag → 9 ≤ length bs → bs ≡ head tag (number4 bs 1) (number4 bs 5) ++ drop 9 bs
  unfolding head
  begins tag t h =
      let a : bs ≡ get_or bs 0 0 ∷ drop 1 bs = drop_more bs 0 0 (omega arith) in
      let n = be4 (number4 bs 1) in
      let m = be4 (number4 bs 5) in
      let b : drop 1 bs ≡ n ++ (m ++ drop 9 bs) = drop_four 1 (omega arith) ∙ ap (λ z. n ++ z) (drop_four 5 (omega arith)) in
      a ∙ ap (λ z. z ∷ drop 1 bs) t ∙ ap (λ z. tag ∷ z) (b ∙ sym (append_assoc n m (drop 9 bs)))

  -- The bytes of what stands at the front, and then the rest.
  key_back : get_or bs 0 0 ≡ 75 → 61 ≤ length bs → bs ≡ encode (key (number4 bs 1) (number4 bs 5) (number4 bs 9) (take 48 (drop 13 bs))) ++ drop 61 bs
  key_back t h =
      let s = take 48 (drop 13 bs) in
      let u = number4 bs 9 in
      let hd = head 75 (number4 bs 1) (number4 bs 5) in
      let c : drop 13 bs ≡ s ++ drop 61 bs = sym (take-append-drop 48 (drop 13 bs)) ∙ ap (λ z. s ++ z) (drop-drop 48 13 bs) in
      begins 75 t (omega arith) ∙ ap (λ z. hd ++ z) (drop_four 9 (omega arith) ∙ ap (λ z. be4 u ++ z) c) ∙ sym (split_key (number4 bs 1) (number4 bs 5) u s (drop 61 bs))

  content-back : get_or bs 0 0 ≡ 67 → 27 + number2 bs 9 ≤ length bs → bs ≡ encode (content (number4 bs 1) (number4 bs 5) (take (number2 bs 9 + 16) (drop 11 bs))) ++ drop (27 + number2 bs 9) bs
  content-back t h =
      let k = number2 bs 9 in
      let s = take (k + 16) (drop 11 bs) in
      let r = drop (27 + k) bs in
      let hd = head 67 (number4 bs 1) (number4 bs 5) in
      let j : 11 + (k + 16) ≡ 27 + k = omega arith in
      let ls : length s ≡ k + 16 = length-take-le (k + 16) (drop 11 bs) (simp length-drop (omega arith)) in
      let q : k ≡ length s - 16 = omega arith in
      let c : drop 11 bs ≡ s ++ r = sym (take-append-drop (k + 16) (drop 11 bs)) ∙ ap (λ z. s ++ z) (drop-drop (k + 16) 11 bs ∙ ap (λ z. drop z bs) j) in
      begins 67 t (omega arith) ∙ ap (λ z. hd ++ z) (drop_two 9 (omega arith) ∙ ap (λ z. be2 k ++ z) c ∙ ap (λ z. be2 z ++ (s ++ r)) q) ∙ sym (split_content (number4 bs 1) (number4 bs 5) s r)

  out-back : get_or bs 0 0 ≡ 69 → 9 ≤ length bs → bs ≡ encode (out (number4 bs 1) (number4 bs 5)) ++ drop 9 bs
  out-back t h = begins 69 t h ∙ sym (split_out (number4 bs 1) (number4 bs 5) (drop 9 bs))

-- That what came out is proper, and encoded gives the bytes that went in.
abbrev Came : (levels : ℕ) (bs : List ℕ) → Decoded → Type 0
Came levels bs (one r rest) = Proper levels r × (bs ≡ encode r ++ rest)
Came levels bs ends = Unit {0}
Came levels bs other = Unit {0}

module _ (levels : ℕ) (bs : List ℕ) (all : Bytes bs) where
  key-proper : 61 ≤ length bs → is_key levels (number4 bs 1) (number4 bs 5) (number4 bs 9) ≡ true
      → Proper levels (key (number4 bs 1) (number4 bs 5) (number4 bs 9) (take 48 (drop 13 bs)))
  key-proper h t =
      let ls : length (take 48 (drop 13 bs)) ≡ 48 = length-take-le 48 (drop 13 bs) (simp length-drop (omega arith)) in
      (grind (arith, nat_tests), grind (arith, nat_tests), grind (arith, nat_tests), grind (arith, nat_tests), grind (arith, nat_tests), ls)

  place-proper : is_out levels (number4 bs 1) (number4 bs 5) ≡ true
      → Proper levels (out (number4 bs 1) (number4 bs 5))
  place-proper t = (grind (arith, nat_tests), grind (arith, nat_tests), grind (arith, nat_tests), grind (arith, nat_tests))

  count_proper : (leb 1 (number2 bs 9) && leb (number2 bs 9) 4096) ≡ true → (1 ≤ number2 bs 9) × (number2 bs 9 ≤ 4096)
  count_proper t = (grind (arith, nat_tests), grind (arith, nat_tests))

  came_if : (b : Bool) (x y : Decoded) → (b ≡ true → Came levels bs x) → (b ≡ false → Came levels bs y) → Came levels bs (cond b x y)
  came_if b x y p q = cond_both b x y (Came levels bs) p q

  key_came : get_or bs 0 0 ≡ 75 → Came levels bs (key_at levels bs)
  key_came t =
      let it = one (key (number4 bs 1) (number4 bs 5) (number4 bs 9) (take 48 (drop 13 bs))) (drop 61 bs) in
      let good = is_key levels (number4 bs 1) (number4 bs 5) (number4 bs 9) in
      came_if (ltb (length bs) 61) ends (cond good it other) (λ _. tt) (λ l.
      let h : 61 ≤ length bs = ltb-false (length bs) 61 l in
      came_if good it other (λ p. (key-proper h p, key_back bs all t h)) (λ _. tt))

  content_came : get_or bs 0 0 ≡ 67 → Came levels bs (content_at levels bs)
  content_came t =
      let k = number2 bs 9 in
      let s = take (k + 16) (drop 11 bs) in
      let it = one (content (number4 bs 1) (number4 bs 5) s) (drop (27 + k) bs) in
      let place = is_place levels (number4 bs 1) && is_number (number4 bs 5) in
      let fits = leb 1 k && leb k 4096 in
      let whole = cond (ltb (length bs) (27 + k)) ends it in
      came_if (ltb (length bs) 11) ends (cond (place && fits) whole other) (λ _. tt) (λ l.
      came_if (place && fits) whole other (λ p. came_if (ltb (length bs) (27 + k)) ends it (λ _. tt) (λ g.
      let h : 27 + k ≤ length bs = ltb-false (length bs) (27 + k) g in
      let ls : length s ≡ k + 16 = length-take-le (k + 16) (drop 11 bs) (simp length-drop (omega arith)) in
      let w = and_parts place fits p in
      let a = place-proper w.0 in
      let b = count_proper w.1 in
      ((a.0, a.1, a.2, a.3, omega arith, omega arith), content-back bs all t h))) (λ _. tt))

  out_came : get_or bs 0 0 ≡ 69 → Came levels bs (out_at levels bs)
  out_came t =
      let it = one (out (number4 bs 1) (number4 bs 5)) (drop 9 bs) in
      let good = is_place levels (number4 bs 1) && is_number (number4 bs 5) in
      came_if (ltb (length bs) 9) ends (cond good it other) (λ _. tt) (λ l.
      let h : 9 ≤ length bs = ltb-false (length bs) 9 l in
      came_if good it other (λ p. (place-proper p, out-back bs all t h)) (λ _. tt))

  came : Came levels bs (decoded levels bs)
  unfolding decoded
  came =
      let tag = get_or bs 0 0 in
      let outs = cond (eqb tag 69) (out_at levels bs) other in
      let contents = cond (eqb tag 67) (content_at levels bs) outs in
      came_if (eqb (length bs) 0) ends (by_tag levels bs) (λ _. tt) (λ _.
      came_if (eqb tag 75) (key_at levels bs) contents (λ e. key_came (eqb-true tag 75 e)) (λ _.
      came_if (eqb tag 67) (content_at levels bs) outs (λ e. content_came (eqb-true tag 67 e)) (λ _.
      came_if (eqb tag 69) (out_at levels bs) other (λ e. out_came (eqb-true tag 69 e)) (λ _. tt))))

pub encodes_decoded : EncodesDecoded
encodes_decoded levels bs r rest all e = subst (Came levels bs) e (came levels bs all)
