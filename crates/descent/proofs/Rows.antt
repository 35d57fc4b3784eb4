-- What a row of the index leads to, whichever row it is.
use Rattle.std.proofs.Common.{◌≡◌, ℕ, suc, ◌+◌, ◌-◌, ◌/◌, ◌^◌, List, [], ◌∷◌, length, Some, None, Ok, Err, Option, Result, sym, refl, ap, ◌∙◌, subst, arith}
use Rattle.forgetting.specs.Tree.{Tree, key_of, place_in}
use Rattle.forgetting.specs.Change.{Numbered}
use Rattle.change.specs.Coded.{Cipher}
use Rattle.index.specs.declared.row.KeyRow.{KeyRow}
use Rattle.index.specs.Rows.{key_row}
use Rattle.index.specs.Noted.{Rows}
use Rattle.shown.specs.Shown.{KeyShown, Marks16}
use Rattle.shown.proofs.Reading.{row_no_key}
use Rattle.devices.specs.Events.{Event, got, held, changes, Faithful}
use Rattle.devices.proofs.Laws.{faithful_got, changes-got}
use Rattle.descent.specs.Opened.{Opens, OpensRow, Follows, key_seals}
use Rattle.descent.specs.Path.{Showing, OfShown, KeyAt, Fails, Running, StillRuns}
use Rattle.descent.specs.declared.failure.Failure.{Failure}
use Rattle.descent.specs.declared.failure.Failure.TheVariants.{Refused, Memory, Device, Stopped}
use Rattle.descent.proofs.Down.{TextsApart, Hangs, turn_down, turn-ends}

-- What was read before one more reading was the medium's.
before_it : (offset : ℕ) (bytes : List ℕ) (middle after : List Event) → after ≡ got offset bytes ∷ middle → (first : List ℕ) → Faithful first after → Faithful first middle
before_it offset bytes middle after e first f = (faithful_got first offset bytes middle (subst (Faithful first) e f)).1

-- A key that is shown with its number and its bytes is the one.
shown_key : (sealed : Cipher) (bytes : List ℕ) (at : ℕ) (row : KeyRow) (above below : Option Numbered) (key : List ℕ) → KeyShown sealed bytes at (Some row) above below
    → ((k : Numbered) → below ≡ Some k → key ≡ k.bytes) → Some (record { number = row.number; bytes = key }) ≡ below
shown_key sealed bytes at row above None key s e = absurd s
shown_key sealed bytes at row None (Some k) key s e = absurd s
shown_key sealed bytes at row (Some u) (Some k) key s e =
    ap (λ x. Some (record { number = x; bytes = key })) s.number_is ∙ ap (λ x. Some (record { number = k.number; bytes = x })) (e k refl)

module _ (sealed : Cipher) (long : Marks16 sealed) (apart : TextsApart sealed) (levels place g i at : ℕ) (rows : Rows) (root : List ℕ) (before middle after : List Event) (u : List ℕ) (lu : length u ≡ 32)
    (hangs : Hangs levels place g i at) (same : changes middle ≡ changes before) (above : OfShown sealed levels rows root before middle (KeyAt u g (place / 2 ^ (levels - g)))) where
  -- The row of a node as it is shown.
  row_shown : (row : Option KeyRow) → key_row rows.keys at ≡ row → (first : List ℕ) (last : ℕ) (t : Tree Numbered (List ℕ)) → Showing sealed levels last first before rows root t
      → KeyShown sealed (held first before) at row (key_of (place_in g (place / 2 ^ (levels - g)) t)) (key_of (place_in (suc g) i t))
  row_shown row e first last t s =
      let P : ℕ → ℕ → Type 0 = λ x y. KeyShown sealed (held first before) x (key_row rows.keys x) (key_of (place_in g y t)) (key_of (place_in (suc g) i t)) in
      let Q : Option KeyRow → Type 0 = λ r. KeyShown sealed (held first before) at r (key_of (place_in g (place / 2 ^ (levels - g)) t)) (key_of (place_in (suc g) i t)) in
      subst Q e (subst (λ x. P x (place / 2 ^ (levels - g))) (sym hangs.number_is) (subst (λ y. P (2 ^ suc g + i) y) hangs.half (s.shows.keys g i hangs.deep hangs.below)))

  -- A turn that is answered: the medium is as it was, what is known of the node, and what was read before was the medium's if this was.
  pub record Turn (Known : Tree Numbered (List ℕ) → Type 0) : Type 0 where
    pub unchanged : changes after ≡ changes before
    pub known : OfShown sealed levels rows root before after Known
    pub still : (first : List ℕ) → Faithful first after → Faithful first middle

  pub opened_row : (X : Type 0) (x : X) (row : Option KeyRow) (key : Option Numbered) → key_row rows.keys at ≡ row → OpensRow {X = X} sealed at row u middle after (Ok x) key → Turn (λ t. key ≡ key_of (place_in (suc g) i t))
  opened_row X x None key e o =
      record {
        unchanged = ap changes o.0 ∙ same;
        known = λ first last t f s. o.1 ∙ sym (row_no_key sealed (held first before) at None (key_of (place_in g (place / 2 ^ (levels - g)) t)) (key_of (place_in (suc g) i t)) (row_shown None e first last t s) refl);
        still = λ first f. subst (Faithful first) o.0 f;
      }
  opened_row X x (Some row) key e o =
      record {
        unchanged = ap changes o.was_read ∙ changes-got row.offset (key_seals sealed at row.number u o.bytes) middle ∙ same;
        known = λ first last t f s.
            o.is ∙ shown_key sealed (held first before) at row (key_of (place_in g (place / 2 ^ (levels - g)) t)) (key_of (place_in (suc g) i t)) o.bytes (row_shown (Some row) e first last t s)
            (turn_down sealed long apart levels place g i at row rows root before middle after u hangs e same above o.bytes lu o.long o.was_read first last t f s);
        still = before_it row.offset (key_seals sealed at row.number u o.bytes) middle after o.was_read;
      }

  pub followed_row : (X : Type 0) (x : X) (row : Option KeyRow) (key : List ℕ) → length key ≡ 32 → key_row rows.keys at ≡ row → Follows {X = X} sealed at row u middle after (Ok x) key → Turn (KeyAt key (suc g) i)
  followed_row X x None key lk e o =
      record {
        unchanged = ap changes o.0 ∙ same;
        known = λ first last t f s k is.
            let none = row_no_key sealed (held first before) at None (key_of (place_in g (place / 2 ^ (levels - g)) t)) (key_of (place_in (suc g) i t)) (row_shown None e first last t s) refl in
            let z : ◌≡◌ {A = ℕ} 0 1 = cc in absurd (omega arith);
        still = λ first f. subst (Faithful first) o.0 f;
      }
  followed_row X x (Some row) key lk e o =
      record {
        unchanged = ap changes o ∙ changes-got row.offset (key_seals sealed at row.number u key) middle ∙ same;
        known = turn_down sealed long apart levels place g i at row rows root before middle after u hangs e same above key lu lk o;
        still = before_it row.offset (key_seals sealed at row.number u key) middle after o;
      }

  -- A turn that is not: a device failed.
  pub ended_row : (X : Type 0) (why : Failure) (row : Option KeyRow) (key : Option Numbered) → key_row rows.keys at ≡ row → OpensRow {X = X} sealed at row u middle after (Err why) key
      → (changes after ≡ changes before) × OfShown sealed levels rows root before after (λ t. Fails why)
  ended_row X why None key e o = absurd o
  ended_row X why (Some row) key e o = turn-ends sealed long apart levels place g i at row rows root before middle after u hangs e same above (Unit {0}) why [] o

  pub unfollowed_row : (X : Type 0) (why : Failure) (row : Option KeyRow) (key : List ℕ) → key_row rows.keys at ≡ row → Follows {X = X} sealed at row u middle after (Err why) key
      → (changes after ≡ changes before) × OfShown sealed levels rows root before after (λ t. Fails why)
  unfollowed_row X why None key e o = absurd o
  unfollowed_row X why (Some row) key e o = turn-ends sealed long apart levels place g i at row rows root before middle after u hangs e same above X why key o

-- Whatever row it is, nothing says that the store has stopped.
pub opens_runs : (X : Type 0) (seals : List ℕ → List ℕ) (offset count : ℕ) (before after : List Event) (why : Failure) (text : List ℕ) → Opens {X = X} seals offset count before after (Err why) text → Running why
opens_runs X seals offset count before after (Refused why) text o = tt
opens_runs X seals offset count before after Memory text o = tt
opens_runs X seals offset count before after Device text o = tt
opens_runs X seals offset count before after Stopped text o = o

pub row_runs : (X : Type 0) (sealed : Cipher) (at : ℕ) (row : Option KeyRow) (above : List ℕ) (before after : List Event) (r : Result X Failure) (key : Option Numbered) → OpensRow sealed at row above before after r key → StillRuns r
row_runs X sealed at row above before after (Ok x) key o = tt
row_runs X sealed at None above before after (Err why) key o = absurd o
row_runs X sealed at (Some row) above before after (Err why) key o = opens_runs (Unit {0}) (key_seals sealed at row.number above) row.offset 48 before after why [] o

pub follow_runs : (X : Type 0) (sealed : Cipher) (at : ℕ) (row : Option KeyRow) (above : List ℕ) (before after : List Event) (why : Failure) (key : List ℕ) → Follows {X = X} sealed at row above before after (Err why) key → Running why
follow_runs X sealed at None above before after why key o = absurd o
follow_runs X sealed at (Some row) above before after why key o = opens_runs X (key_seals sealed at row.number above) row.offset 48 before after why key o
