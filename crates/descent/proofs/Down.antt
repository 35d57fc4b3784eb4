-- One step down: what was read and opened is what the medium shows.
use Rattle.std.proofs.Common.{◌≡◌, ℕ, suc, ◌+◌, ◌-◌, ◌/◌, ◌%◌, ◌^◌, ◌<◌, List, ◌∷◌, length, take, drop, Some, None, Err, Option, sym, refl, ap, ◌∙◌, subst, arith}
use Rattle.cipher.specs.Sealed.{slot_nonce}
use Rattle.records.specs.Format.{head}
use Rattle.forgetting.specs.Change.{Numbered}
use Rattle.change.specs.Coded.{Cipher}
use Rattle.change.proofs.Bridge.{path_number, sibling_number}
use Rattle.forgetting.specs.Tree.{Tree, key_of, place_in, content_of}
use Rattle.tree.specs.Nodes.{sibling_of}
use Rattle.index.specs.declared.row.KeyRow.{KeyRow}
use Rattle.index.specs.Rows.{key_row}
use Rattle.index.specs.Noted.{Rows}
use Rattle.shown.specs.Shown.{KeyShown, Marks16}
use Rattle.shown.proofs.NodeNumbers.{shifted, beside, beside_half, beside_below, index_below}
use Rattle.shown.proofs.Reading.{reads_shown}
use Rattle.devices.specs.Events.{Event, got, held, changes, StandsAt, Faithful}
use Rattle.devices.proofs.Laws.{same-held, faithful_got, changes-got}
use Rattle.descent.specs.Opened.{Shut, Opens}
use Rattle.descent.specs.Path.{Showing, OfShown, KeyAt, Fails, Ends}
use Rattle.descent.specs.declared.failure.Failure.{Failure}
use Rattle.descent.specs.declared.failure.Failure.TheVariants.{Refused, Memory, Device, Stopped}

-- Different texts are sealed to different bytes.
abbrev pub TextsApart : Cipher → Type 0
TextsApart sealed = (key nonce marked one other : List ℕ) → length key ≡ 32 → sealed key nonce marked one ≡ sealed key nonce marked other → one ≡ other

module _ (sealed : Cipher) (long : Marks16 sealed) (apart : TextsApart sealed) where
  pub same_text : (bytes : List ℕ) (offset count : ℕ) (key nonce marked text plain : List ℕ) → length key ≡ 32 → length text + 16 ≡ count
      → StandsAt bytes offset (sealed key nonce marked text) → take count (drop offset bytes) ≡ sealed key nonce marked plain → text ≡ plain
  same_text bytes offset count key nonce marked text plain lk lt st e =
      apart key nonce marked text plain lk (sym st.0 ∙ ap (λ n. take n (drop offset bytes)) (long key nonce marked text lk ∙ lt) ∙ e)

  pub stepped : (bytes : List ℕ) (at : ℕ) (row : KeyRow) (above below : Option Numbered) (u key : List ℕ) → KeyShown sealed bytes at (Some row) above below
      → ((k : Numbered) → above ≡ Some k → u ≡ k.bytes) → length u ≡ 32 → length key ≡ 32 → StandsAt bytes row.offset (sealed u (slot_nonce (at % 2)) (head 75 at row.number) key)
      → (k : Numbered) → below ≡ Some k → key ≡ k.bytes
  stepped bytes at row above None u key s top lu lk st k e = absurd s
  stepped bytes at row None (Some b) u key s top lu lk st k e = absurd s
  stepped bytes at row (Some a) (Some b) u key s top lu lk st k e =
      let is : b ≡ k = cc in
      let t = top a refl in
      same_text bytes row.offset 48 u (slot_nonce (at % 2)) (head 75 at row.number) key b.bytes lu (omega arith) st (s.text ∙ ap (λ x. sealed x (slot_nonce (at % 2)) (head 75 at row.number) b.bytes) (sym t))
      ∙ ap (λ (x : Numbered). x.bytes) is

  -- What is shown opens.
  pub opens : (bytes : List ℕ) (at : ℕ) (row : KeyRow) (above below : Option Numbered) (u part : List ℕ) → KeyShown sealed bytes at (Some row) above below
      → ((k : Numbered) → above ≡ Some k → u ≡ k.bytes) → length part ≡ 48 → StandsAt bytes row.offset part
      → ((text : List ℕ) → part ≡ sealed u (slot_nonce (at % 2)) (head 75 at row.number) text → ⊥) → ⊥
  opens bytes at row above None u part s top lp st shut = s
  opens bytes at row None (Some b) u part s top lp st shut = s
  opens bytes at row (Some a) (Some b) u part s top lp st shut =
      shut b.bytes (sym st.0 ∙ ap (λ n. take n (drop row.offset bytes)) lp ∙ s.text ∙ ap (λ x. sealed x (slot_nonce (at % 2)) (head 75 at row.number) b.bytes) (sym (top a refl)))

-- A node with g + 1 levels above it and index i hangs on the path to a place: its number, and that of the node above.
pub record Hangs (levels place g i at : ℕ) : Type 0 where
  pub deep : g < levels
  pub below : i < 2 ^ suc g
  pub half : i / 2 ≡ place / 2 ^ (levels - g)
  pub number_is : at ≡ 2 ^ suc g + i

-- The path node itself.
pub path_hangs : (levels place g at : ℕ) → g < levels → place < 2 ^ levels → at ≡ (2 ^ levels + place) / 2 ^ (levels - 1 - g) → Hangs levels place g (place / 2 ^ (levels - 1 - g)) at
path_hangs levels place g at lg lp e =
    let h = levels - 1 - g in
    let i = place / 2 ^ h in
    let n : levels - h ≡ suc g = omega arith in
    let m : suc h ≡ levels - g = omega arith in
    record {
      deep = lg;
      below = index_below levels (suc g) h place (omega arith) lp;
      half = shifted (suc h) 1 h place (omega arith) ∙ ap (λ x. place / 2 ^ x) m;
      number_is = e ∙ sym (path_number levels place h (omega arith)) ∙ ap (λ x. 2 ^ x + i) n;
    }

-- Its sibling.
pub sibling_hangs : (levels place g at : ℕ) → g < levels → place < 2 ^ levels → at ≡ sibling_of ((2 ^ levels + place) / 2 ^ (levels - 1 - g)) → Hangs levels place g (beside (place / 2 ^ (levels - 1 - g))) at
sibling_hangs levels place g at lg lp e =
    let h = levels - 1 - g in
    let i = place / 2 ^ h in
    let n : levels - h ≡ suc g = omega arith in
    let m : suc h ≡ levels - g = omega arith in
    let l = index_below levels (suc g) h place (omega arith) lp in
    record {
      deep = lg;
      below = beside_below g i l;
      half = beside_half i ∙ shifted (suc h) 1 h place (omega arith) ∙ ap (λ x. place / 2 ^ x) m;
      number_is = e ∙ sym (sibling_number levels place h (omega arith)) ∙ ap (λ x. 2 ^ x + beside i) n;
    }

module _ (sealed : Cipher) (long : Marks16 sealed) (apart : TextsApart sealed) (levels place g i at : ℕ) (row : KeyRow) (rows : Rows) (root : List ℕ) (before middle after : List Event) (u : List ℕ)
    (hangs : Hangs levels place g i at) (is_row : key_row rows.keys at ≡ Some row) (same : changes middle ≡ changes before)
    (above : OfShown sealed levels rows root before middle (KeyAt u g (place / 2 ^ (levels - g)))) where
  shown_row : (first : List ℕ) (last : ℕ) (t : Tree Numbered (List ℕ)) → Showing sealed levels last first before rows root t
      → KeyShown sealed (held first middle) at (Some row) (key_of (place_in g (place / 2 ^ (levels - g)) t)) (key_of (place_in (suc g) i t))
  shown_row first last t s =
      let P : List ℕ → ℕ → ℕ → Type 0 = λ b x y. KeyShown sealed b x (key_row rows.keys x) (key_of (place_in g y t)) (key_of (place_in (suc g) i t)) in
      let Q : Option KeyRow → Type 0 = λ r. KeyShown sealed (held first middle) at r (key_of (place_in g (place / 2 ^ (levels - g)) t)) (key_of (place_in (suc g) i t)) in
      subst Q is_row (subst (λ b. P b at (place / 2 ^ (levels - g))) (sym (same-held first middle before same))
      (subst (λ x. P (held first before) x (place / 2 ^ (levels - g))) (sym hangs.number_is) (subst (λ y. P (held first before) (2 ^ suc g + i) y) hangs.half (s.shows.keys g i hangs.deep hangs.below))))

  -- Opened, it is the key of that node.
  pub turn_down : (key : List ℕ) → length u ≡ 32 → length key ≡ 32 → after ≡ got row.offset (sealed u (slot_nonce (at % 2)) (head 75 at row.number) key) ∷ middle
      → OfShown sealed levels rows root before after (KeyAt key (suc g) i)
  turn_down key lu lk e first last t f s =
      let w = faithful_got first row.offset (sealed u (slot_nonce (at % 2)) (head 75 at row.number) key) middle (subst (Faithful first) e f) in
      stepped sealed long apart (held first middle) at row (key_of (place_in g (place / 2 ^ (levels - g)) t)) (key_of (place_in (suc g) i t)) u key
      (shown_row first last t s) (above first last t w.1 s) lu lk w.0

  -- It opens.
  turn-opens : Shut (sealed u (slot_nonce (at % 2)) (head 75 at row.number)) row.offset 48 middle after → OfShown sealed levels rows root before after (λ t. ⊥)
  turn-opens shut first last t f s =
      let w = faithful_got first row.offset shut.part middle (subst (Faithful first) shut.was_read f) in
      opens sealed long apart (held first middle) at row (key_of (place_in g (place / 2 ^ (levels - g)) t)) (key_of (place_in (suc g) i t)) u shut.part
      (shown_row first last t s) (above first last t w.1 s) shut.long w.0 shut.no_text

  -- Where it ends early, the medium failed.
  pub turn-ends : (X : Type 0) (why : Failure) (key : List ℕ) → Opens {X = X} (sealed u (slot_nonce (at % 2)) (head 75 at row.number)) row.offset 48 middle after (Err why) key
      → (changes after ≡ changes before) × OfShown sealed levels rows root before after (λ t. Fails why)
  turn-ends X (Refused why) key o =
      (ap changes o.1.was_read ∙ changes-got row.offset o.1.part middle ∙ same, λ first last t f s. turn-opens o.1 first last t f s)
  turn-ends X Device key o = (ap changes o ∙ same, λ first last t f s. tt)
  turn-ends X Memory key o = absurd o
  turn-ends X Stopped key o = absurd o

pub fails_ends : (why : Failure) (holds : Option (List ℕ)) → Fails why → Ends why holds
fails_ends (Refused why) holds f = absurd f
fails_ends Device holds f = tt
fails_ends Memory holds f = absurd f
fails_ends Stopped holds f = absurd f

-- Where the row of a path node says that it has no key, the place holds nothing.
pub no_row : (sealed : Cipher) (levels place g at : ℕ) (rows : Rows) (root : List ℕ) (before middle : List Event) → g < levels → place < 2 ^ levels → at ≡ (2 ^ levels + place) / 2 ^ (levels - 1 - g)
    → key_row rows.keys at ≡ None → OfShown sealed levels rows root before middle (λ t. content_of (place_in levels place t) ≡ None)
no_row sealed levels place g at rows root before middle lg lp e row first last t f s =
    (reads_shown sealed levels (held first before) rows t s.shows place lp).2 (levels - 1 - g) (omega arith) (ap (key_row rows.keys) (sym e) ∙ row)
