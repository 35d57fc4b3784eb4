-- Laws of the words of a line.
use Rattle.std.proofs.Common.{◌≡◌, ℕ, ◌+◌, ◌<◌, ◌≤◌, Bool, true, false, not, cond, ltb, suc, List, [], ◌∷◌, length, get_or, take, drop, Some, None, inl, inr, sym, refl, ap, ◌∙◌, arith, add-zero, length-drop, length-take, take_all}
use Rattle.std.specs.List.{filter, slice_split, position, position_or_len}
use Rattle.std.specs.Option.{unwrap_or}
use Rattle.std.proofs.lemmas.Bool.{cases_lt, cond-true, cond-false, le-ltb, lt-ltb, ne_eqb, not-true}
use Rattle.std.proofs.lemmas.List.{drop_all, drop_more, get_or-drop}
use Rattle.std.proofs.lemmas.List.Quantifiers.{position-Some}
use Rattle.std.proofs.lemmas.List.Splits.{slice_split-cons_yes, slice_split_first, slice_split_none}
use Rattle.std.proofs.lemmas.List.Sums.{fails_before_first, passes_at_first, prefix_len-le-length}
use Rattle.words.specs.Words.{blank, filled, words_in}

-- No blank.
abbrev pub inked : ℕ → Bool
inked c = not (blank c)

skipped_one : (c : ℕ) (text : List ℕ) (b : Bool) → blank c ≡ b → words_in (drop (position_or_len inked text) text) ≡ words_in text → words_in (drop (cond (not (not b)) (1 + position_or_len inked text) 0) (c ∷ text)) ≡ words_in (c ∷ text)
skipped_one c text true e h =
    let more : 1 + position_or_len inked text ≡ suc (position_or_len inked text) = omega arith in
    ap (λ n. words_in (drop n (c ∷ text))) more ∙ h ∙ sym (ap (filter filled) (slice_split-cons_yes blank c text e))
skipped_one c text false e h = refl

-- The blanks before a word are part of none.
skipped : (text : List ℕ) → words_in (drop (position_or_len inked text) text) ≡ words_in text
skipped [] = refl
skipped (c ∷ text) = skipped_one c text (blank c) refl (skipped text)

filled_some : (word : List ℕ) (parts : List (List ℕ)) → 0 < length word → filter filled (word ∷ parts) ≡ word ∷ filter filled parts
filled_some word parts h = cond-true (filled word) (word ∷ filter filled parts) (filter filled parts) (ap not (ne_eqb (length word) 0 (λ e. omega arith)))

-- A word goes on up to a blank or the end.
first : (text : List ℕ) → 0 < position_or_len blank text → words_in text ≡ take (position_or_len blank text) text ∷ words_in (drop (position_or_len blank text) text)
first text some =
    let n = position_or_len blank text in
    let within : n ≤ length text = prefix_len-le-length (λ c. not (blank c)) text in
    elim (cases_lt n (length text)) [
      | inl lt ↦
          ap (filter filled) (slice_split_first blank text 0 lt)
          ∙ filled_some (take n text) (slice_split blank (drop (n + 1) text)) (simp length-take (omega arith))
          ∙ ap (λ parts. take n text ∷ filter filled parts) (sym (ap (slice_split blank) (drop_more text n 0 lt) ∙ slice_split-cons_yes blank (get_or text n 0) (drop (n + 1) text) (passes_at_first blank text 0 lt)))
      | inr ge ↦
          ap (filter filled) (slice_split_none blank text (λ k d l. fails_before_first blank text k d (omega arith)))
          ∙ filled_some text [] (omega arith)
          ∙ ap (λ w. w ∷ []) (sym (take_all n text ge))
          ∙ ap (λ rest. take n text ∷ words_in rest) (sym (drop_all n text ge))
    ]

-- The first place that passes, or the length.
place : (p : ℕ → Bool) (text : List ℕ) → unwrap_or (position p text) (length text) ≡ position_or_len p text
place p text =
    let n = position_or_len p text in
    let within : n ≤ length text = prefix_len-le-length (λ c. not (p c)) text in
    elim (cases_lt n (length text)) [
      | inl lt ↦ ap (λ o. unwrap_or o (length text)) (cond-true (ltb n (length text)) (Some n) None (lt-ltb n (length text) lt))
      | inr ge ↦ ap (λ o. unwrap_or o (length text)) (cond-false (ltb n (length text)) (Some n) None (le-ltb n (length text) ge)) ∙ omega arith
    ]

-- Where there are only blanks.
pub none : (text : List ℕ) → position inked text ≡ None → words_in text ≡ []
none text e =
    let all : length text ≡ position_or_len inked text = sym (ap (λ o. unwrap_or o (length text)) e) ∙ place inked text in
    sym (skipped text) ∙ ap words_in (drop_all (position_or_len inked text) text (omega arith))

begins : (text : List ℕ) → 0 < length text → blank (get_or text 0 0) ≡ false → 0 < position_or_len blank text
begins [] h e = absurd (omega arith)
begins (c ∷ text) h e = rw e (omega arith)

module _ (text from : List ℕ) (start end : ℕ) (start_is : position inked text ≡ Some start) (from_is : from ≡ drop start text) (end-is : end ≡ unwrap_or (position blank from) (length from)) where
  within : start < length text
  within = (position-Some inked text start 0 start_is).0

  some : 0 < end
  some =
      let inside = within in
      let stop = place blank from in
      rw (end-is, stop, from_is)
      (begins (drop start text) (simp length-drop (omega arith)) (ap blank (get_or-drop start text 0 0 ∙ ap (λ n. get_or text n 0) (add-zero start)) ∙ not-true (blank (get_or text start 0)) (position-Some inked text start 0 start_is).1))

  -- The first word stands between the blanks before it and the first one behind it.
  pub found : words_in text ≡ take end from ∷ words_in (drop end from)
  found =
      let more = some in
      let begin : position_or_len inked text ≡ start = sym (place inked text) ∙ ap (λ o. unwrap_or o (length text)) start_is in
      let stop : end ≡ position_or_len blank from = end-is ∙ place blank from in
      sym (skipped text) ∙ ap (λ n. words_in (drop n text)) begin ∙ ap words_in (sym from_is) ∙ rw stop (first from (omega arith))

  -- What follows the word is shorter.
  pub shorter : length (drop end from) < length text
  shorter =
      let inside = within in
      let more = some in
      simp (length-drop, from_is) (omega arith)
