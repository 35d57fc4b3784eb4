-- Laws of hex.
use Rattle.std.proofs.Common.{◌≡◌, ℕ, zero, suc, ◌+◌, ◌*◌, ◌/◌, ◌%◌, ◌<◌, ◌≤◌, List, [], ◌∷◌, ◌++◌, length, get_or, drop, Some, None, Option, sym, refl, ap, ◌∙◌, append_assoc, append-nil, arith}
use native.Mathlib.Nat.{div-add-mod}
use Rattle.std.proofs.lemmas.List.{at_drop_more, at_drop_all}
use Rattle.std.proofs.lemmas.Bool.Decides.{nat_tests}
use Rattle.std.specs.Simd.{first_chunks}
use Rattle.hex_text.specs.Hex.{digit, byte, before, decode, letter, pair, encode, DecodesAgain}

digit-letter : (d : ℕ) → d < 16 → digit (letter d) ≡ Some d
digit-letter d h = grind (arith, nat_tests)

pub decodes_again : DecodesAgain
decodes_again [] _ = refl
decodes_again (b ∷ bytes) (h, hs) =
    let high : b / 16 < 16 = omega arith in
    let low : b % 16 < 16 = omega arith in
    let parts : 16 * (b / 16) + b % 16 ≡ b = div-add-mod b 16 in
    rw (digit-letter (b / 16) high, digit-letter (b % 16) low, decodes_again bytes hs, parts) refl

-- Bytes that were read before the rest of a text.
abbrev pub ahead : List ℕ → Option (List ℕ) → Option (List ℕ)
ahead bytes None = None
ahead bytes (Some more) = Some (bytes ++ more)

pub ahead_more : (bytes : List ℕ) (b : ℕ) (o : Option (List ℕ)) → ahead (bytes ++ b ∷ []) o ≡ ahead bytes (before (Some b) o)
ahead_more bytes b None = refl
ahead_more bytes b (Some more) = ap Some (append_assoc bytes (b ∷ []) more)

pub ahead_nothing : (o : Option (List ℕ)) → ahead [] o ≡ o
ahead_nothing None = refl
ahead_nothing (Some more) = refl

-- What pairs of characters decode to.
abbrev pub paired : List (List ℕ) → Option (List ℕ)
paired [] = Some []
paired (p ∷ pairs) = before (byte (get_or p 0 0) (get_or p 1 0)) (paired pairs)

pub in_pairs : (n : ℕ) (text : List ℕ) → length text ≡ n * 2 → decode text ≡ paired (first_chunks 2 n text)
in_pairs zero [] h = refl
in_pairs zero (c ∷ text) h = absurd (omega arith)
in_pairs (suc n) [] h = absurd (omega arith)
in_pairs (suc n) (c ∷ []) h = absurd (omega arith)
in_pairs (suc n) (c ∷ d ∷ text) h = ap (before (byte c d)) (in_pairs n text (omega arith))

-- A character is left over.
pub odd_none : (n : ℕ) (text : List ℕ) → length text ≡ n * 2 + 1 → decode text ≡ None
odd_none n [] h = absurd (omega arith)
odd_none n (c ∷ []) h = refl
odd_none zero (c ∷ d ∷ text) h = absurd (omega arith)
odd_none (suc n) (c ∷ d ∷ text) h = before_none (byte c d) (decode text) (odd_none n text (omega arith))
  where
    before_none : (b : Option ℕ) (o : Option (List ℕ)) → o ≡ None → before b o ≡ None
    before_none None o e = refl
    before_none (Some b) o e = ap (before (Some b)) e

-- One pair more.
pub next_pair : (pairs : List (List ℕ)) (i : ℕ) (bytes : List ℕ) (b : Option ℕ) (all : Option (List ℕ)) → i < length pairs → b ≡ byte (get_or (get_or pairs i []) 0 0) (get_or (get_or pairs i []) 1 0) → ahead bytes (paired (drop i pairs)) ≡ all → ahead bytes (before b (paired (drop (i + 1) pairs))) ≡ all
next_pair pairs i bytes b all lt is inv = ap (λ o. ahead bytes (before o (paired (drop (i + 1) pairs)))) is ∙ sym (at_drop_more (λ l. ahead bytes (paired l)) pairs i [] lt) ∙ inv

-- No pair is left.
pub last_pair : (pairs : List (List ℕ)) (i : ℕ) (bytes : List ℕ) (all : Option (List ℕ)) → length pairs ≤ i → ahead bytes (paired (drop i pairs)) ≡ all → Some bytes ≡ all
last_pair pairs i bytes all past inv = ap Some (sym (append-nil bytes)) ∙ sym (at_drop_all (λ l. ahead bytes (paired l)) pairs i past) ∙ inv

-- One byte more of a byte string.
pub encode_more : (bytes : List ℕ) (i : ℕ) (was text : List ℕ) → i < length bytes → text ≡ was ++ pair (get_or bytes i 0) → was ++ encode (drop i bytes) ≡ encode bytes → text ++ encode (drop (i + 1) bytes) ≡ encode bytes
encode_more bytes i was text lt push inv =
    ap (λ l. l ++ encode (drop (i + 1) bytes)) push
    ∙ append_assoc was (pair (get_or bytes i 0)) (encode (drop (i + 1) bytes))
    ∙ sym (at_drop_more (λ l. was ++ encode l) bytes i 0 lt)
    ∙ inv
