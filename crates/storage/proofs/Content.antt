-- The content of a place: what was read and opened is what the medium shows.
use Rattle.std.proofs.Common.{◌≡◌, ℕ, zero, suc, ◌+◌, ◌^◌, ◌<◌, ◌≤◌, Bool, true, false, List, ◌∷◌, length, take, drop, Some, Err, Option, sym, refl, ap, ◌∙◌, subst, inl, inr, arith}
use Rattle.cipher.specs.Sealed.{slot_nonce}
use Rattle.records.specs.Format.{head}
use Rattle.forgetting.specs.Tree.{Tree, bare, leaf, node, key_of, even_of, odd_of, Holds, to_even, turn, place_in, content_of}
use Rattle.forgetting.specs.Change.{Numbered}
use Rattle.change.specs.Coded.{Cipher}
use Rattle.index.specs.declared.row.ContentRow.{ContentRow}
use Rattle.index.specs.Rows.{content_row}
use Rattle.index.specs.Noted.{Rows}
use Rattle.shown.specs.Shown.{Shows, ContentShown, ContentSealed, Marks16}
use Rattle.devices.specs.Events.{Event, got, held, changes, Faithful}
use Rattle.devices.proofs.Laws.{same-held, faithful_got, changes-got}
use Rattle.descent.specs.Opened.{Opens}
use Rattle.descent.specs.Path.{Showing, OfShown, KeyAt, Fails}
use Rattle.descent.specs.declared.failure.Failure.{Failure}
use Rattle.descent.specs.declared.failure.Failure.TheVariants.{Refused, Memory, Device, Stopped}
use Rattle.descent.proofs.Down.{TextsApart, same_text}

-- What a place holds, the tree holds.
place-holds : (d p : ℕ) (t : Tree Numbered (List ℕ)) (c : List ℕ) → content_of (place_in d p t) ≡ Some c → Holds t c
place-holds zero p bare c e = absurd (let z : ◌≡◌ {A = ℕ} 0 1 = cc in omega arith)
place-holds zero p (leaf k x) c e = let is : c ≡ x = cc in is
place-holds zero p (node k l r) c e = absurd (let z : ◌≡◌ {A = ℕ} 0 1 = cc in omega arith)
place-holds (suc d) p t c e = side t (to_even d p) (place-holds d p (turn (to_even d p) (even_of t) (odd_of t)) c e)
  where
    side : (t : Tree Numbered (List ℕ)) (b : Bool) → Holds (turn b (even_of t) (odd_of t)) c → Holds t c
    side bare true h = h
    side bare false h = h
    side (leaf k x) true h = absurd h
    side (leaf k x) false h = absurd h
    side (node k l r) true h = inl h
    side (node k l r) false h = inr h

-- A place whose row says that it holds something holds a content under a key.
pub record InPlace (sealed : Cipher) (bytes : List ℕ) (at : ℕ) (row : ContentRow) (t : Tree Numbered (List ℕ)) : Type 0 where
  pub key : Numbered
  pub content : List ℕ
  pub has_key : key_of t ≡ Some key
  pub has_content : content_of t ≡ Some content
  pub stands : ContentSealed sealed bytes at row.number row.length row.offset key content

in_place : (sealed : Cipher) (bytes : List ℕ) (at : ℕ) (row : ContentRow) (t : Tree Numbered (List ℕ)) → ContentShown sealed bytes at (Some row) t → InPlace sealed bytes at row t
in_place sealed bytes at row bare s = absurd s
in_place sealed bytes at row (leaf k c) s = record { key = k; content = c; has_key = refl; has_content = refl; stands = s }
in_place sealed bytes at row (node k l r) s = absurd s

module _ (sealed : Cipher) (levels place : ℕ) (row : ContentRow) (rows : Rows) (lp : place < 2 ^ levels) (is_row : content_row rows.contents place ≡ Some row) where
  row_in_place : (bytes : List ℕ) (t : Tree Numbered (List ℕ)) → Shows sealed levels bytes rows t → InPlace sealed bytes (2 ^ levels + place) row (place_in levels place t)
  row_in_place bytes t s =
      let P : Option ContentRow → Type 0 = λ r. ContentShown sealed bytes (2 ^ levels + place) r (place_in levels place t) in
      in_place sealed bytes (2 ^ levels + place) row (place_in levels place t) (subst P is_row (s.contents place lp))

  -- How long it is.
  pub row_long : (root : List ℕ) (before after : List Event) → OfShown sealed levels rows root before after (λ t. (c : List ℕ) × (content_of (place_in levels place t) ≡ Some c) × (row.length ≡ length c) × (length c ≤ 4096))
  row_long root before after first last t f s =
      let i = row_in_place (held first before) t s.shows in
      (i.content, i.has_content, i.stands.length-is, (s.counts.contents i.content (place-holds levels place t i.content i.has_content)).1)

  module _ (marks : Marks16 sealed) (apart : TextsApart sealed) (root : List ℕ) (before middle after : List Event) (key : List ℕ) (lk : length key ≡ 32) (same : changes middle ≡ changes before)
      (above : OfShown sealed levels rows root before middle (KeyAt key levels place)) where
    -- What stands there, sealed under the key at hand.
    sealed_here : (first : List ℕ) (last : ℕ) (t : Tree Numbered (List ℕ)) → Faithful first middle → Showing sealed levels last first before rows root t
        → (c : List ℕ) × (content_of (place_in levels place t) ≡ Some c) × (row.length ≡ length c) × (take (length c + 16) (drop row.offset (held first middle)) ≡ sealed key (slot_nonce 0) (head 67 (2 ^ levels + place) row.number) c)
    sealed_here first last t f s =
        let i = row_in_place (held first before) t s.shows in
        let is = above first last t f s i.key i.has_key in (
          i.content,
          i.has_content,
          i.stands.length-is,
          ap (λ b. take (length i.content + 16) (drop row.offset b)) (same-held first middle before same) ∙ i.stands.text ∙ ap (λ k. sealed k (slot_nonce 0) (head 67 (2 ^ levels + place) row.number) i.content) (sym is),
        )

    -- Opened, it is the place's content.
    pub content-opened : (text : List ℕ) → length text ≡ row.length → after ≡ got row.offset (sealed key (slot_nonce 0) (head 67 (2 ^ levels + place) row.number) text) ∷ middle
        → OfShown sealed levels rows root before after (λ t. content_of (place_in levels place t) ≡ Some text)
    content-opened text lt e first last t f s =
        let w = faithful_got first row.offset (sealed key (slot_nonce 0) (head 67 (2 ^ levels + place) row.number) text) middle (subst (Faithful first) e f) in
        let i = sealed_here first last t w.1 s in
        let n : length text + 16 ≡ length i.0 + 16 = omega (arith, i.2) in
        i.1 ∙ ap Some (sym (same_text sealed marks apart (held first middle) row.offset (length i.0 + 16) key (slot_nonce 0) (head 67 (2 ^ levels + place) row.number) text i.0 lk n w.0 i.3))

    -- It opens; where it ends early, the medium failed.
    pub content-ends : (X : Type 0) (why : Failure) (text : List ℕ) → Opens {X = X} (sealed key (slot_nonce 0) (head 67 (2 ^ levels + place) row.number)) row.offset (row.length + 16) middle after (Err why) text
        → (changes after ≡ changes before) × OfShown sealed levels rows root before after (λ t. Fails why)
    content-ends X (Refused why) text o = (
      ap changes o.1.was_read ∙ changes-got row.offset o.1.part middle ∙ same,
      λ first last t f s.
          let w = faithful_got first row.offset o.1.part middle (subst (Faithful first) o.1.was_read f) in
          let i = sealed_here first last t w.1 s in
          let n : length o.1.part ≡ length i.0 + 16 = o.1.long ∙ ap (λ x. x + 16) i.2 in
          o.1.no_text i.0 (sym w.0.0 ∙ ap (λ x. take x (drop row.offset (held first middle))) n ∙ i.3),
    )
    content-ends X Device text o = (ap changes o ∙ same, λ first last t f s. tt)
    content-ends X Memory text o = absurd o
    content-ends X Stopped text o = absurd o
