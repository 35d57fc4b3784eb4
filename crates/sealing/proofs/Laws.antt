-- Laws of sealing, and lemmas on the parts that a mark is made of.
use Rattle.std.proofs.Common.{◌≡◌, ℕ, ◌+◌, ◌≤◌, List, ◌++◌, length, take, drop, Ok, Err, Result, refl, ap, ◌∙◌, arith, rules}
use Rattle.std.proofs.lemmas.List.{append-nil, take_at, drop_all, length-append, length-drop}
use Rattle.chacha20.specs.Stream.{Encrypts}
use Rattle.octets.specs.Endian.{le, le_bytes}
use Rattle.octets.proofs.Laws.{length-le_bytes}
use Rattle.chacha20.proofs.Laws.{length-encrypt, encrypt_twice}
use Rattle.poly1305.specs.Poly1305.{clamp, blocks, padded}
use Rattle.poly1305.proofs.Laws.{mac-padded, length-mac}
use Rattle.sealing.specs.Aead.{one_time_key, ciphertext, mac_data, tag, longest, Applies, Seals, RoundTrip}
use Rattle.sealing.specs.declared.opening.Mark.{Mark}
use Rattle.std.specs.Result.{IsOk}
use Rattle.sealing.specs.Work.{absorbed_text}

-- Two words written one after the other into sixteen bytes.
pub two_words : (zeros one two : List ℕ) (x y : ℕ) → length zeros ≡ 16
    → one ≡ le_bytes 8 x ++ drop 8 zeros → two ≡ take 8 one ++ (le_bytes 8 y ++ drop 16 one)
    → two ≡ le_bytes 8 x ++ le_bytes 8 y
two_words zeros one two x y l e f =
    let lx = length-le_bytes 8 x in
    let ld = length-drop 8 zeros in
    let a = ap (take 8) e ∙ take_at (le_bytes 8 x) (drop 8 zeros) 8 lx in
    let n : length one ≡ 16 = rw e (simp length-append (omega arith)) in
    let b = drop_all 16 one (omega arith) in
    f ∙ rw (a, b, append-nil (le_bytes 8 y))

-- A message of one block needs no padding.
padded-block : (m : List ℕ) → length m ≡ 16 → padded m ≡ m
unfolding padded blocks
padded-block m h = rw h (append-nil m)

-- The mark, by the accumulator after its parts.
pub tag_parts : (key nonce marked sealed : List ℕ) (r a s : ℕ) → r ≡ clamp (le (take 16 (one_time_key key nonce)))
    → a ≡ absorbed_text r 0 marked sealed → s ≡ le (take 16 (drop 16 (one_time_key key nonce)))
    → le_bytes 16 (a + s) ≡ tag key nonce marked sealed
unfolding tag mac_data
tag_parts key nonce marked sealed r a s h e f =
    let lens = le_bytes 8 (length marked) ++ le_bytes 8 (length sealed) in
    let n : length (le_bytes 8 (length marked) ++ le_bytes 8 (length sealed)) ≡ 16 = simp (length-append, length-le_bytes) in
    let p = padded-block (le_bytes 8 (length marked) ++ le_bytes 8 (length sealed)) n in
    let m = mac-padded (one_time_key key nonce) marked sealed (le_bytes 8 (length marked) ++ le_bytes 8 (length sealed)) in
    rw (m, n, e, f, h, p)

-- What is sealed is as long as the text.
pub length-ciphertext : (key nonce text : List ℕ) → length (ciphertext key nonce text) ≡ length text
unfolding ciphertext
length-ciphertext key nonce text = length-encrypt key 1 nonce text

pub length-tag : (key nonce marked sealed : List ℕ) → length (tag key nonce marked sealed) ≡ 16
unfolding tag
length-tag key nonce marked sealed = length-mac (one_time_key key nonce) (mac_data marked sealed)

-- Opening what was sealed gives the text again.
pub ciphertext_twice : (key nonce text : List ℕ) → ciphertext key nonce (ciphertext key nonce text) ≡ text
unfolding ciphertext
ciphertext_twice key nonce text = encrypt_twice key 1 nonce text

pub round_trip : RoundTrip
round_trip key nonce marked text fits =
    record {
      authentic = record { fits = rw (length-ciphertext key nonce text) fits; agrees = refl };
      text_again = ciphertext_twice key nonce text;
    }

-- What encrypting from counter 1 on comes to.
pub applied : {X E : Type 0} (key nonce text : List ℕ) (r : Result X E) (after : List ℕ) → Encrypts key 1 nonce text r after → Applies key nonce text r after
unfolding ciphertext longest
applied key nonce text (Ok x) after p = (omega arith, p.1)
applied key nonce text (Err e) after p = (omega arith, p.1)

-- A text that the standard allows is sealed.
pub seals : {E : Type 0} (key nonce marked text : List ℕ) (r : Result Mark E) (after : List ℕ) → length text ≤ longest → Seals key nonce marked text r after → IsOk r
seals key nonce marked text (Ok mark) after h s = search rules
seals key nonce marked text (Err e) after h s = absurd (omega arith)
