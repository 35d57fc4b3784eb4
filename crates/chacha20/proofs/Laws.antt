-- Laws of the definitions: lengths, and the text in parts.
use Rattle.std.proofs.Common.{◌≡◌, ℕ, zero, suc, ◌+◌, ◌*◌, ◌/◌, ◌%◌, ◌^◌, ◌<◌, ◌≤◌, ◌⊎◌, List, [], ◌∷◌, ◌++◌, length, get_or, take, drop, sym, refl, ap, ◌∙◌, inl, inr, arith}
use lib.Lanes.{zip2}
use lib.Bits.{bit_xor, xor_assoc, xor_self, xor_zero_r}
use Rattle.std.proofs.lemmas.List.{append_assoc, append-nil, take_more, take_at, take_all, take-take, take-append-drop, drop_at, drop_all, drop-drop, drop-take, length-append, length-take-le, length-drop, length-set}
use borrow.Rule.Slice.PartMut.{put_mid}
use Rattle.octets.specs.Endian.{le_bytes}
use Rattle.octets.proofs.Laws.{length-le_bytes}
use Rattle.chacha20.proofs.Places.{length-zip2-le, zip2-append, zip2_twice}
use Rattle.chacha20.specs.Stream.{advanced}
use Rattle.chacha20.specs.ChaCha20.{plus, line, double_rounds, initial, serialize, output, block, key_stream, encrypt}

pub serialize-append : (xs ys : List ℕ) → serialize (xs ++ ys) ≡ serialize xs ++ serialize ys
unfolding serialize
serialize-append [] ys = refl
serialize-append (x ∷ xs) ys = rw (serialize-append xs ys, append_assoc (le_bytes 4 x) (serialize xs) (serialize ys))

serialize_more : (ws : List ℕ) (i : ℕ) → i < length ws → serialize (take (i + 1) ws) ≡ serialize (take i ws) ++ le_bytes 4 (get_or ws i 0)
unfolding serialize
serialize_more ws i h =
    rw (take_more ws i 0 h, serialize-append (take i ws) (get_or ws i 0 ∷ []), append-nil (le_bytes 4 (get_or ws i 0)))

-- One more word of a state written out.
pub written_more : (ws was out : List ℕ) (i : ℕ) → i < length ws → 4 * i + 4 ≤ length was
    → out ≡ take (4 * i) was ++ (le_bytes 4 (get_or ws i 0) ++ drop (4 * i + 4) was)
    → take (4 * i) was ≡ serialize (take i ws)
    → (take (4 * (i + 1)) out ≡ serialize (take (i + 1) ws)) × (length out ≡ length was)
written_more ws was out i h l e p =
    let a = length-take-le (4 * i) was (omega arith) in
    let b = length-le_bytes 4 (get_or ws i 0) in
    let d = length-drop (4 * i + 4) was in
    let n : length (take (4 * i) was ++ le_bytes 4 (get_or ws i 0)) ≡ 4 * (i + 1) = simp length-append (omega arith) in
    let f = e ∙ sym (append_assoc (take (4 * i) was) (le_bytes 4 (get_or ws i 0)) (drop (4 * i + 4) was)) in
    let g = take_at (take (4 * i) was ++ le_bytes 4 (get_or ws i 0)) (drop (4 * i + 4) was) (4 * (i + 1)) n in (
      ap (take (4 * (i + 1))) f ∙ g ∙ ap (λ (x : List ℕ). x ++ le_bytes 4 (get_or ws i 0)) p ∙ sym (serialize_more ws i h),
      rw f (simp length-append (omega arith)),
    )

length-serialize : (ws : List ℕ) → length (serialize ws) ≡ 4 * length ws
unfolding serialize
length-serialize [] = refl
length-serialize (w ∷ ws) =
    let a = length-le_bytes 4 w in
    let b = length-serialize ws in
    simp length-append (omega arith)

length-line : (s : List ℕ) (a b d n : ℕ) → length (line s a b d n) ≡ length s
unfolding line
length-line s a b d n = simp length-set

length_rounds : (n : ℕ) (s : List ℕ) → length (double_rounds n s) ≡ length s
unfolding double_rounds
length_rounds zero s = refl
length_rounds (suc n) s = simp length-line (length_rounds n s)

length-initial : (key : List ℕ) (counter : ℕ) (nonce : List ℕ) → length (initial key counter nonce) ≡ 16
unfolding initial
length-initial key counter nonce = refl

length-output : (s : List ℕ) → length (output s) ≡ 4 * length s
unfolding output
length-output s =
    let r = length_rounds 10 s in
    length-serialize (zip2 plus (double_rounds 10 s) s) ∙ ap (λ n. 4 * n) (length-zip2-le plus (double_rounds 10 s) s (omega arith) ∙ r)

-- A block has 64 bytes.
pub length-block : (key : List ℕ) (counter : ℕ) (nonce : List ℕ) → length (block key counter nonce) ≡ 64
length-block key counter nonce = length-output (initial key counter nonce) ∙ ap (λ n. 4 * n) (length-initial key counter nonce)

length-key_stream : (key : List ℕ) (counter : ℕ) (nonce : List ℕ) (n : ℕ) → length (key_stream key counter nonce n) ≡ 64 * n
unfolding key_stream
length-key_stream key counter nonce zero = refl
length-key_stream key counter nonce (suc n) =
    let a = length-block key counter nonce in
    let b = length-key_stream key (counter + 1) nonce n in
    simp length-append (omega arith)

key_stream-append : (key : List ℕ) (counter : ℕ) (nonce : List ℕ) (i j : ℕ)
    → key_stream key counter nonce (i + j) ≡ key_stream key counter nonce i ++ key_stream key (counter + i) nonce j
unfolding key_stream
key_stream-append key counter nonce zero j =
    let a : 0 + j ≡ j = omega arith in
    let b : counter + 0 ≡ counter = omega arith in
    rw (a, b)
key_stream-append key counter nonce (suc i) j =
    let a : suc i + j ≡ suc (i + j) = omega arith in
    let b : counter + suc i ≡ counter + 1 + i = omega arith in
    rw (a, b, key_stream-append key (counter + 1) nonce i j, append_assoc (block key counter nonce) (key_stream key (counter + 1) nonce i) (key_stream key (counter + 1 + i) nonce j))

-- A text is as long under the key stream.
pub length-encrypt : (key : List ℕ) (counter : ℕ) (nonce text : List ℕ) → length (encrypt key counter nonce text) ≡ length text
unfolding encrypt
length-encrypt key counter nonce text =
    let a = length-key_stream key counter nonce ((length text + 63) / 64) in
    length-zip2-le bit_xor text (key_stream key counter nonce ((length text + 63) / 64)) (omega arith)

-- A text in two parts, the first of whole blocks, is encrypted part by part.
pub encrypt-append : (key : List ℕ) (counter : ℕ) (nonce xs ys : List ℕ) (i : ℕ) → length xs ≡ 64 * i
    → encrypt key counter nonce (xs ++ ys) ≡ encrypt key counter nonce xs ++ encrypt key (counter + i) nonce ys
unfolding encrypt
encrypt-append key counter nonce xs ys i h =
    let l = length-append xs ys in
    let a : (length (xs ++ ys) + 63) / 64 ≡ i + (length ys + 63) / 64 = omega arith in
    let b : (length xs + 63) / 64 ≡ i = omega arith in
    let k = length-key_stream key counter nonce i in
    rw (a, b, key_stream-append key counter nonce i ((length ys + 63) / 64))
    (zip2-append bit_xor xs ys (key_stream key counter nonce i) (key_stream key (counter + i) nonce ((length ys + 63) / 64)) (h ∙ sym k))

-- One block or a part of one.
encrypt-one : (key : List ℕ) (counter : ℕ) (nonce text : List ℕ) → 0 < length text → length text ≤ 64
    → encrypt key counter nonce text ≡ zip2 bit_xor text (block key counter nonce)
unfolding encrypt key_stream
encrypt-one key counter nonce text h l =
    let a : (length text + 63) / 64 ≡ 1 = omega arith in
    rw (a, append-nil (block key counter nonce))

-- The next part of a text that the loop takes: a whole block, or what is left.
module _ (was : List ℕ) (n k : ℕ) (fits : n + k ≤ length was) (few : k ≤ 64) (whole : (k ≡ 64) ⊎ (n + k ≡ length was)) where
  next-part : take 64 (drop n was) ≡ take k (drop n was)
  next-part =
      elim whole [
        | inl e ↦ ap (λ j. take j (drop n was)) (sym e)
        | inr e ↦
            let l = length-drop n was in
            take_all 64 (drop n was) (omega arith) ∙ sym (take_all k (drop n was) (omega arith))
      ]

  next_rest : drop k (drop n was) ≡ drop (n + 64) was
  next_rest =
      elim whole [
        | inl e ↦ drop-drop k n was ∙ ap (λ j. drop (n + j) was) e
        | inr e ↦ drop-drop k n was ∙ drop_all (n + k) was (omega arith) ∙ sym (drop_all (n + 64) was (omega arith))
      ]

-- A front that is longer by m.
take-add : (was : List ℕ) (n m : ℕ) → take (n + m) was ≡ take n was ++ take m (drop n was)
take-add was n m =
    sym (take-append-drop n (take (n + m) was))
    ∙ ap (λ (x : List ℕ). x ++ drop n (take (n + m) was)) (take-take n (n + m) was (omega arith))
    ∙ ap (λ (x : List ℕ). take n was ++ x) (drop-take n m was)

-- One more block: a front of i blocks is encrypted, and the next part was put under the block of that counter.
pub encrypt_more : (key : List ℕ) (counter : ℕ) (nonce was s part : List ℕ) (i k : ℕ)
    → s ≡ encrypt key counter nonce (take (64 * i) was) ++ drop (64 * i) was
    → 64 * i + k ≤ length was → 0 < k → k ≤ 64 → (k ≡ 64) ⊎ (64 * i + k ≡ length was)
    → part ≡ zip2 bit_xor (take k (drop (64 * i) s)) (block key (counter + i) nonce)
    → put_mid (64 * i) k s part ≡ encrypt key counter nonce (take (64 * (i + 1)) was) ++ drop (64 * (i + 1)) was
encrypt_more key counter nonce was s part i k e fits pos few whole p =
    let front = take (64 * i) was in
    let here = take k (drop (64 * i) was) in
    let lf : length (take (64 * i) was) ≡ 64 * i = length-take-le (64 * i) was (omega arith) in
    let le : length (encrypt key counter nonce (take (64 * i) was)) ≡ 64 * i = length-encrypt key counter nonce (take (64 * i) was) ∙ lf in
    let ld = length-drop (64 * i) was in
    let lh : length (take k (drop (64 * i) was)) ≡ k = length-take-le k (drop (64 * i) was) (omega arith) in
    let a : take (64 * i) s ≡ encrypt key counter nonce (take (64 * i) was) = ap (take (64 * i)) e ∙ take_at (encrypt key counter nonce (take (64 * i) was)) (drop (64 * i) was) (64 * i) le in
    let b : drop (64 * i) s ≡ drop (64 * i) was = ap (drop (64 * i)) e ∙ drop_at (encrypt key counter nonce (take (64 * i) was)) (drop (64 * i) was) (64 * i) le in
    let n : 64 * (i + 1) ≡ 64 * i + 64 = omega arith in
    let q : part ≡ encrypt key (counter + i) nonce (take k (drop (64 * i) was)) =
    p ∙ ap (λ (x : List ℕ). zip2 bit_xor (take k x) (block key (counter + i) nonce)) b
    ∙ sym (encrypt-one key (counter + i) nonce (take k (drop (64 * i) was)) (omega arith) (omega arith)) in
    let t : take (64 * i + 64) was ≡ take (64 * i) was ++ take k (drop (64 * i) was) =
    take-add was (64 * i) 64 ∙ ap (λ (x : List ℕ). take (64 * i) was ++ x) (next-part was (64 * i) k fits few whole) in
    rw (n, a, b, q, t, encrypt-append key counter nonce (take (64 * i) was) (take k (drop (64 * i) was)) i lf, next_rest was (64 * i) k fits few whole)
    (sym (append_assoc (encrypt key counter nonce (take (64 * i) was)) (encrypt key (counter + i) nonce (take k (drop (64 * i) was))) (drop (64 * i + 64) was)))

-- The counter of a state goes on.
pub advance : (key : List ℕ) (n : ℕ) (nonce : List ℕ) → advanced (initial key n nonce) ≡ initial key ((n + 1) % 2 ^ 32) nonce
unfolding initial
advance key n nonce = refl

pub encrypt_none : (key : List ℕ) (counter : ℕ) (nonce : List ℕ) → encrypt key counter nonce [] ≡ []
unfolding encrypt
encrypt_none key counter nonce = refl

xor_twice : (a b : ℕ) → bit_xor (bit_xor a b) b ≡ a
xor_twice a b = xor_assoc a b b ∙ ap (bit_xor a) (xor_self b) ∙ xor_zero_r a

encrypt-is : (key : List ℕ) (counter : ℕ) (nonce text : List ℕ) (n : ℕ) → (length text + 63) / 64 ≡ n
    → encrypt key counter nonce text ≡ zip2 bit_xor text (key_stream key counter nonce n)
unfolding encrypt
encrypt-is key counter nonce text n e = ap (λ n. zip2 bit_xor text (key_stream key counter nonce n)) e

-- Encrypting twice is nothing: decrypting is encrypting.
pub encrypt_twice : (key : List ℕ) (counter : ℕ) (nonce text : List ℕ) → encrypt key counter nonce (encrypt key counter nonce text) ≡ text
encrypt_twice key counter nonce text =
    let n : ℕ = (length text + 63) / 64 in
    let l = length-encrypt key counter nonce text in
    let k = length-key_stream key counter nonce ((length text + 63) / 64) in
    encrypt-is key counter nonce (encrypt key counter nonce text) ((length text + 63) / 64) (omega arith)
    ∙ ap (λ (x : List ℕ). zip2 bit_xor x (key_stream key counter nonce ((length text + 63) / 64))) (encrypt-is key counter nonce text ((length text + 63) / 64) refl)
    ∙ zip2_twice bit_xor xor_twice text (key_stream key counter nonce ((length text + 63) / 64)) (omega arith)
