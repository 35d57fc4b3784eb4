-- A sealed text and its mark in one part.
use Rattle.std.specs.Prelude.{◌≡◌, ℕ, ◌+◌, ◌-◌, ◌≤◌, List, ◌++◌, length, take, drop, ◌≢◌, Ok, Err, Result, refl}
use Rattle.std.proofs.Math.Path.{sym, ap}
use Rattle.std.proofs.Common.{◌∙◌, arith}
use borrow.Rule.Slice.PartMut.{put_mid}
use Rattle.std.proofs.lemmas.List.{append_cancel_right, take_at, drop_at, drop_all, append-nil, length-append, length-take-le, length-drop, take-append-drop}
use Rattle.sealing.specs.Aead.{ciphertext, tag, longest, Authentic}
use Rattle.sealing.specs.Open as Aead
use Rattle.sealing.proofs.Laws.{length-ciphertext, length-tag, ciphertext_twice}
use Rattle.cipher.specs.Sealed.{standard, transparent, text_of, Comes}

-- A part of which the end was written last.
pub written_last : (text rest mark : List ℕ) (at : ℕ) → length text ≡ at → put_mid at (length (text ++ rest) - at) (text ++ rest) mark ≡ text ++ mark
written_last text rest mark at h =
    let l = length-append text rest in
    rw (take_at text rest at h, drop_at text rest at h, drop_all (length (text ++ rest) - at) rest (omega arith), append-nil mark)

-- A part of which the end was written.
pub end-written : (part mark : List ℕ) (at : ℕ) → at ≤ length part → put_mid at (length part - at) part mark ≡ take at part ++ mark
end-written part mark at h =
    let l = length-drop at part in
    rw (drop_all (length part - at) (drop at part) (omega arith), append-nil mark)

-- Lists that are joined of two, the first as long.
take_same : (xs ys us vs : List ℕ) → length xs ≡ length us → xs ++ ys ≡ us ++ vs → xs ≡ us
take_same xs ys us vs h e = sym (take_at xs ys (length us) h) ∙ ap (take (length us)) e ∙ take_at us vs (length us) refl

drop-same : (xs ys us vs : List ℕ) → length xs ≡ length us → xs ++ ys ≡ us ++ vs → ys ≡ vs
drop-same xs ys us vs h e = sym (drop_at xs ys (length us) h) ∙ ap (drop (length us)) e ∙ drop_at us vs (length us) refl

pub length-standard : (key nonce marked text : List ℕ) → length (standard key nonce marked text) ≡ length text + 16
unfolding standard
length-standard key nonce marked text =
    simp (length-append, length-ciphertext, length-tag)

pub length-transparent : (key nonce marked text : List ℕ) → length key ≡ 32 → length (transparent key nonce marked text) ≡ length text + 16
unfolding transparent
length-transparent key nonce marked text h =
    let l = length-take-le 16 key (omega arith) in
    simp length-append (omega arith)

pub transparent-apart : (key nonce marked one other : List ℕ) → transparent key nonce marked one ≡ transparent key nonce marked other → one ≡ other
unfolding transparent
transparent-apart key nonce marked one other e = append_cancel_right one other (take 16 key) e

-- The sealed text and the mark that a sealed part is made of.
standard-front : (key nonce marked text sealed mark : List ℕ) → length sealed ≡ length text → standard key nonce marked text ≡ sealed ++ mark
    → (ciphertext key nonce text ≡ sealed) × (tag key nonce marked (ciphertext key nonce text) ≡ mark)
unfolding standard
standard-front key nonce marked text sealed mark l e =
    let n = length-ciphertext key nonce text in (
      take_same (ciphertext key nonce text) (tag key nonce marked (ciphertext key nonce text)) sealed mark (omega arith) e,
      drop-same (ciphertext key nonce text) (tag key nonce marked (ciphertext key nonce text)) sealed mark (omega arith) e,
    )

standard-is : (key nonce marked text : List ℕ) → standard key nonce marked text ≡ ciphertext key nonce text ++ tag key nonce marked (ciphertext key nonce text)
unfolding standard
standard-is key nonce marked text = refl

pub standard-apart : (key nonce marked one other : List ℕ) → standard key nonce marked one ≡ standard key nonce marked other → one ≡ other
standard-apart key nonce marked one other e =
    let m = length-standard key nonce marked one in
    let n = length-standard key nonce marked other in
    let k = length-ciphertext key nonce other in
    let l : length one ≡ length other = omega (arith, ap length e) in
    let f = standard-front key nonce marked one (ciphertext key nonce other) (tag key nonce marked (ciphertext key nonce other)) (omega arith) (e ∙ standard-is key nonce marked other) in
    sym (ciphertext_twice key nonce one) ∙ ap (ciphertext key nonce) f.0 ∙ ciphertext_twice key nonce other

module _ (key nonce marked part : List ℕ) (at : ℕ) (whole : at + 16 ≡ length part) (fits : at ≤ longest) where
  front : length (take at part) ≡ at
  front = length-take-le at part (omega arith)

  back : length (drop at part) ≡ 16
  back = let l = length-drop at part in omega arith

  joined : take at part ++ drop at part ≡ part
  joined = take-append-drop at part

  -- The text that an opened part holds.
  text_in : (text : List ℕ) → length text ≡ at → text_of (text ++ drop at part) ≡ text
  text_in text l =
      let b = back in
      let n = length-append text (drop at part) in
      take_at text (drop at part) (length (text ++ drop at part) - 16) (omega arith)

  sealed_again : (text mark : List ℕ) → mark ≡ drop at part → mark ≡ tag key nonce marked (take at part) → text ≡ ciphertext key nonce (take at part)
      → part ≡ standard key nonce marked text
  sealed_again text mark m g e =
      let c : ciphertext key nonce text ≡ take at part = ap (ciphertext key nonce) e ∙ ciphertext_twice key nonce (take at part) in
      sym (rw (standard-is key nonce marked text, c, sym g, m) joined)

  none_sealed : (mark : List ℕ) → mark ≡ drop at part → (Authentic key nonce marked (take at part) mark → ⊥) → (text : List ℕ) → part ≢ standard key nonce marked text
  none_sealed mark m shut text e =
      let n = length-standard key nonce marked text in
      let l : length text + 16 ≡ length part = omega (arith, ap length e) in
      let f = front in
      let p = standard-front key nonce marked text (take at part) (drop at part) (omega arith) (sym e ∙ sym joined) in
      shut (record { fits = omega arith; agrees = m ∙ sym p.1 ∙ ap (tag key nonce marked) p.0 })

  -- What opening the text of a part says of the part.
  pub opened-part : {X E : Type 0} (r : Result X E) (mark text : List ℕ) → mark ≡ drop at part → length text ≡ at
      → Aead.Comes key nonce marked (take at part) mark r text → Comes (standard key nonce marked) part r (text ++ drop at part)
  opened-part (Ok _) mark text m l c =
      let n : length part - 16 ≡ at = omega arith in
      (rw (text_in text l) (sealed_again text mark m c.0.agrees c.1), rw n (drop_at text (drop at part) at l))
  opened-part (Err _) mark text m l c =
      (none_sealed mark m c.0, ap (λ (x : List ℕ). x ++ drop at part) c.1 ∙ joined)

-- A part that ends with a key's number is sealed transparently, and no other is.
module _ (key nonce marked part : List ℕ) (long : length key ≡ 32) (whole : 16 ≤ length part) where
  pub number-opens : drop (length part - 16) part ≡ take 16 key → part ≡ transparent key nonce marked (text_of part)
  unfolding transparent
  number-opens e = sym (rw (sym e) (take-append-drop (length part - 16) part))

  pub number_shuts : (drop (length part - 16) part ≢ take 16 key) → (text : List ℕ) → part ≢ transparent key nonce marked text
  unfolding transparent
  number_shuts f text e =
      let k = length-take-le 16 key (omega arith) in
      let n = length-append text (take 16 key) in
      let l : length text ≡ length part - 16 = omega (arith, ap length e) in
      f (ap (drop (length part - 16)) e ∙ drop_at text (take 16 key) (length part - 16) l)
