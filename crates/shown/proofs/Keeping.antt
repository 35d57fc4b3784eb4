-- A change that is added to the bytes and noted: the medium shows the changed tree.
use Rattle.std.proofs.Common.{◌≡◌, ℕ, suc, ◌+◌, ◌-◌, ◌/◌, ◌^◌, ◌<◌, ◌≤◌, true, ◌≢◌, List, [], ◌∷◌, map, length, Some, None, Option, sym, ap, ◌∙◌, subst, inl, inr, pow-suc, arith, pow_pos}
use native.Mathlib.Nat.{div-eq_of_lt}
use Rattle.std.proofs.lemmas.Bool.{cases_eq}
use Rattle.forgetting.specs.Tree.{Tree, key_of, place_in}
use Rattle.forgetting.specs.Change.{Record, sealings, Numbered, records, edited, single, draws, counted}
use Rattle.forgetting.specs.History.{root}
use Rattle.forgetting.specs.Climb.{path_node, sibling_node, path_slot, sibling_slot, sibling_key, path_key, first_record, climbed}
use Rattle.forgetting.proofs.Members.{either}
use Rattle.forgetting.proofs.Keys.{edited-keys}
use Rattle.forgetting.proofs.Invariant.{edited_levels}
use Rattle.forgetting.proofs.Places.{single-draws}
use Rattle.forgetting.proofs.Climbing.{climbs, single-key}
use Rattle.change.specs.Coded.{Cipher, coded, bytes_of}
use Rattle.change.specs.Outcome.{is_content}
use Rattle.index.specs.declared.row.ContentRow.{ContentRow}
use Rattle.index.specs.Rows.{key_row, content_row}
use Rattle.index.specs.Noted.{Rows, AllProper}
use Rattle.shown.specs.Shown.{KeyShown, ContentShown, Shows, Counts, Marks16, Keeps}
use Rattle.shown.specs.Theorems.{ChangeKeeps}
use Rattle.shown.proofs.NodeNumbers.{shifted, beside, beside_half, beside_other, beside_below, beside_only, index_below, level_below, same-level}
use Rattle.shown.proofs.Descent.{sibling_beside}
use Rattle.shown.proofs.Reading.{no_key_row}
use Rattle.shown.proofs.Editing.{lowest, on_path, off_path, drawn-one, held_after}
use Rattle.shown.proofs.Growing.{Fine, content_grows}
use Rattle.shown.proofs.Noting.{after, key-proper}
use Rattle.shown.proofs.KeyNumbers.{counted_fine, lowest_suc, path_fine, path_none}
use Rattle.shown.proofs.First.{content-long, first_places, first_other, first_here, first_proper}
use Rattle.shown.proofs.Changing as Turns
use Rattle.shown.proofs.Changing.{tree_fine, fine_more}

module _ (sealed : Cipher) (marks : Marks16 sealed) (d p last : ℕ) (w : Option (List ℕ)) (keys : ℕ → List ℕ) (bytes : List ℕ) (rows : Rows) (t : Tree Numbered (List ℕ))
    (some : 1 ≤ d) (inside : p < 2 ^ d) (fits : is_content w ≡ true) (long : (j : ℕ) → j < draws w d → length (keys j) ≡ 32) (room : last + draws w d ≤ 4294967294)
    (shows : Shows sealed d bytes rows t) (counts : Counts last t) where
  abbrev K : ℕ → Numbered
  K = counted w last keys

  abbrev S : ℕ → Option Numbered
  S h = sibling_key d p h t

  abbrev t' : Tree Numbered (List ℕ)
  t' = edited (single w K d p) t

  abbrev B : ℕ → List ℕ
  B = Turns.B sealed d p (last + 1) w K S bytes rows

  abbrev R : ℕ → Rows
  R = Turns.R sealed d p (last + 1) w K S bytes rows

  abbrev N : ℕ → ℕ
  N = Turns.N sealed d p (last + 1) w K S bytes rows

  abbrev M : ℕ → ℕ
  M = Turns.M sealed d p (last + 1) w K S bytes rows

  -- The keys drawn for the nodes above the place.
  good : (h : ℕ) → h < d → (length (K (suc h)).bytes ≡ 32) × (last < (K (suc h)).number) × ((K (suc h)).number ≤ last + draws w d)
  good h l = counted_fine w last keys d (suc h) long (lowest_suc w h) (omega arith)

  good_fine : (h : ℕ) → h < d → Fine (suc (K (suc h)).number) (Some (K (suc h)))
  good_fine h l = let f = good h l in (f.0, omega arith, omega arith)

  -- A node with g + 1 levels above it, m above the place, by its index.
  module _ (g m : ℕ) (e : d ≡ g + suc m) where
    level : d - m ≡ suc g
    level = omega arith

    abbrev q : ℕ
    q = p / 2 ^ m

    q_below : q < 2 ^ suc g
    q_below = index_below d (suc g) m p (omega arith) inside

    b_below : beside q < 2 ^ suc g
    b_below = beside_below g q q_below

    q_half : q / 2 ≡ p / 2 ^ suc m
    q_half = shifted (suc m) 1 m p (omega arith)

    N-is : N m ≡ 2 ^ suc g + q
    N-is = ap (λ n. 2 ^ n + p / 2 ^ m) level

    M-is : M m ≡ 2 ^ suc g + beside q
    M-is = ap (λ n. 2 ^ n + beside q) level

    apart : N m ≢ M m
    apart f = beside_other q (omega arith)

    sibling_fine : Fine (suc last) (S m)
    sibling_fine = subst (Fine (suc last)) (sym (sibling_beside d g m p t e)) (tree_fine last (suc g) (beside q) t counts)

    -- No other level's turn writes of it.
    touch : (i h : ℕ) → i < 2 ^ suc g → h < d → h ≢ m → (2 ^ suc g + i ≢ N h) × (2 ^ suc g + i ≢ M h)
    touch i h b l ne =
        let f = d - suc h in
        let x : d ≡ suc f + h = omega arith in
        let y : d - h ≡ suc f = omega arith in
        let qb : p / 2 ^ h < 2 ^ suc f = index_below d (suc f) h p x inside in (
          (λ z. ne (let s = same-level (suc g) (suc f) i (p / 2 ^ h) b qb (z ∙ ap (λ n. 2 ^ n + p / 2 ^ h) y) in omega arith)),
          (λ z. ne (let s = same-level (suc g) (suc f) i (beside (p / 2 ^ h)) b (beside_below f (p / 2 ^ h) qb) (z ∙ ap (λ n. 2 ^ n + beside (p / 2 ^ h)) y) in omega arith)),
        )

    node_inside : (i : ℕ) → i < 2 ^ suc g → 2 ^ suc g + i < length rows.keys
    node_inside i b = subst (λ n. 2 ^ suc g + i < n) (sym shows.nodes) (level_below (suc g) (d + 1) i (omega arith) b)

    -- The keys afterwards.
    above_new : key_of (place_in g (p / 2 ^ suc m) t') ≡ Some (K (suc m))
    above_new = ap key_of (on_path w K d g (suc m) p t e) ∙ single-key w K (suc m) p (place_in g (p / 2 ^ suc m) t)

    path_new : key_of (place_in (suc g) q t') ≡ path_key w K m
    path_new = ap key_of (on_path w K d (suc g) m p t (omega arith)) ∙ single-key w K m p (place_in (suc g) q t)

    sibling_new : key_of (place_in (suc g) (beside q) t') ≡ S m
    sibling_new = ap key_of (off_path w K d (suc g) m p (beside q) t (omega arith) inside b_below (beside_other q)) ∙ sym (sibling_beside d g m p t e)

    -- Off the path: as it was.
    off : (i : ℕ) → i < 2 ^ suc g → (i / 2 ≡ p / 2 ^ suc m → ⊥)
        → KeyShown sealed (B d) (2 ^ suc g + i) (key_row (R d).keys (2 ^ suc g + i)) (key_of (place_in g (i / 2) t')) (key_of (place_in (suc g) i t'))
    off i b ne =
        let n = 2 ^ suc g + i in
        let s = pow-suc 2 g in
        let hb : i / 2 < 2 ^ g = omega arith in
        let above : key_of (place_in g (i / 2) t') ≡ key_of (place_in g (i / 2) t) = ap key_of (off_path w K d g (suc m) p (i / 2) t e inside hb ne) in
        let key : key_of (place_in (suc g) i t') ≡ key_of (place_in (suc g) i t) = ap key_of (off_path w K d (suc g) m p i t (omega arith) inside b (λ x. ne (ap (λ y. y / 2) x ∙ q_half))) in
        let here : (n ≢ N m) × (n ≢ M m) = (
          (λ z. ne (ap (λ y. y / 2) (let v : i ≡ q = omega (arith, z ∙ N-is) in v) ∙ q_half)),
          (λ z. ne (ap (λ y. y / 2) (let v : i ≡ beside q = omega (arith, z ∙ M-is) in v) ∙ beside_half q ∙ q_half)),
        ) in
        let free : (h : ℕ) → 0 ≤ h → h < d → (n ≢ N h) × (n ≢ M h) =
        λ h z l. elim (cases_eq h m) as (λ _. (n ≢ N h) × (n ≢ M h)) [ inl f ↦ subst (λ x. (n ≢ N x) × (n ≢ M x)) (sym f) here | inr f ↦ touch i h b l f ] in
        let ka = key_of (place_in g (i / 2) t) in
        let kk = key_of (place_in (suc g) i t) in
        let fa = tree_fine last g (i / 2) t counts in
        let fk = tree_fine last (suc g) i t counts in
        let old = shows.keys g i (omega arith) b in
        let first = Turns.shown_first sealed d p (last + 1) w K S bytes rows marks n (suc last) (suc last) ka kk fa fk (free 0 (omega arith) (omega arith)).0 old in
        let all = Turns.shown_kept sealed d p (last + 1) w K S bytes rows marks n (suc last) (suc last) ka kk fa fk 0 d (omega arith) free first in
        subst (λ (x : Option Numbered). KeyShown sealed (B d) n (key_row (R d).keys n) x (key_of (place_in (suc g) i t'))) (sym above)
        (subst (λ (x : Option Numbered). KeyShown sealed (B d) n (key_row (R d).keys n) ka x) (sym key) all)

    -- A node that a turn wrote of stays as it is after the turn.
    on : (i : ℕ) (k : Option Numbered) (bound : ℕ) → i < 2 ^ suc g → i / 2 ≡ p / 2 ^ suc m → Fine bound k → key_of (place_in (suc g) i t') ≡ k
        → KeyShown sealed (B (suc m)) (2 ^ suc g + i) (key_row (R (suc m)).keys (2 ^ suc g + i)) (Some (K (suc m))) k
        → KeyShown sealed (B d) (2 ^ suc g + i) (key_row (R d).keys (2 ^ suc g + i)) (key_of (place_in g (i / 2) t')) (key_of (place_in (suc g) i t'))
    on i k bound b half fine is s =
        let n = 2 ^ suc g + i in
        let above : key_of (place_in g (i / 2) t') ≡ Some (K (suc m)) = ap (λ x. key_of (place_in g x t')) half ∙ above_new in
        let u = Some (K (suc m)) in
        let all = Turns.shown_kept sealed d p (last + 1) w K S bytes rows marks n (suc (K (suc m)).number) bound u k (good_fine m (omega arith)) fine (suc m) d (omega arith)
        (λ h z l. touch i h b l (λ f. omega arith)) s in
        subst (λ (x : Option Numbered). KeyShown sealed (B d) n (key_row (R d).keys n) x (key_of (place_in (suc g) i t'))) (sym above)
        (subst (λ (x : Option Numbered). KeyShown sealed (B d) n (key_row (R d).keys n) u x) (sym is) all)

    path_none_row : path_key w K m ≡ None → key_row (R m).keys (N m) ≡ None
    path_none_row f =
        let z = path_none w K m f in
        let l : N m < length rows.keys = subst (λ n. n < length rows.keys) (sym N-is) (node_inside q q_below) in
        subst (λ x. key_row (R x).keys (N x) ≡ None) (sym z)
        (Turns.first_none sealed d p (last + 1) w K S bytes rows (subst (λ x. path_key w K x ≡ None) z f) (subst (λ x. N x < length rows.keys) z l))

    on_the_path : KeyShown sealed (B d) (2 ^ suc g + q) (key_row (R d).keys (2 ^ suc g + q)) (key_of (place_in g (q / 2) t')) (key_of (place_in (suc g) q t'))
    on_the_path =
        let l : N m < length rows.keys = subst (λ n. n < length rows.keys) (sym N-is) (node_inside q q_below) in
        let fine = path_fine w last keys d m long (omega arith) in
        let s = Turns.path_shown sealed d p (last + 1) w K S bytes rows marks m (omega arith) apart (good_fine m (omega arith)) (K (suc m)).number fine l path_none_row in
        on q (path_key w K m) (K (suc m)).number q_below q_half fine path_new
        (subst (λ n. KeyShown sealed (B (suc m)) n (key_row (R (suc m)).keys n) (Some (K (suc m))) (path_key w K m)) N-is s)

    sibling_none_row : S m ≡ None → key_row (R m).keys (M m) ≡ None
    sibling_none_row f =
        let n = 2 ^ suc g + beside q in
        let o = shows.keys g (beside q) (omega arith) b_below in
        let old : key_row rows.keys n ≡ None =
        no_key_row sealed bytes n (key_row rows.keys n) (key_of (place_in g (beside q / 2) t)) (key_of (place_in (suc g) (beside q) t)) o (sym (sibling_beside d g m p t e) ∙ f) in
        let free : (h : ℕ) → 0 ≤ h → h < m → (M m ≢ N h) × (M m ≢ M h) =
        λ h z l. subst (λ x. (x ≢ N h) × (x ≢ M h)) (sym M-is) (touch (beside q) h b_below (omega arith) (λ v. omega arith)) in
        let first : M m ≢ N 0 =
        elim (cases_eq 0 m) as (λ _. M m ≢ N 0) [
          | inl v ↦ subst (λ x. M m ≢ N x) (sym v) (λ z. apart (sym z))
          | inr v ↦ subst (λ x. x ≢ N 0) (sym M-is) (touch (beside q) 0 b_below (omega arith) v).0
        ] in
        Turns.rows-kept sealed d p (last + 1) w K S bytes rows 0 m (M m) (omega arith) free
        ∙ Turns.first_kept sealed d p (last + 1) w K S bytes rows (M m) first
        ∙ ap (key_row rows.keys) M-is ∙ old

    beside_the_path : KeyShown sealed (B d) (2 ^ suc g + beside q) (key_row (R d).keys (2 ^ suc g + beside q)) (key_of (place_in g (beside q / 2) t')) (key_of (place_in (suc g) (beside q) t'))
    beside_the_path =
        let l : M m < length rows.keys = subst (λ n. n < length rows.keys) (sym M-is) (node_inside (beside q) b_below) in
        let s = Turns.sibling_shown sealed d p (last + 1) w K S bytes rows marks m (omega arith) apart (good_fine m (omega arith)) (suc last) sibling_fine l sibling_none_row in
        on (beside q) (S m) (suc last) b_below (beside_half q ∙ q_half) sibling_fine sibling_new
        (subst (λ n. KeyShown sealed (B (suc m)) n (key_row (R (suc m)).keys n) (Some (K (suc m))) (S m)) M-is s)

    key-after : (i : ℕ) → i < 2 ^ suc g → KeyShown sealed (B d) (2 ^ suc g + i) (key_row (R d).keys (2 ^ suc g + i)) (key_of (place_in g (i / 2) t')) (key_of (place_in (suc g) i t'))
    key-after i b =
        let P : ℕ → Type 0 = λ x. KeyShown sealed (B d) (2 ^ suc g + x) (key_row (R d).keys (2 ^ suc g + x)) (key_of (place_in g (x / 2) t')) (key_of (place_in (suc g) x t')) in
        elim (cases_eq (i / 2) (p / 2 ^ suc m)) as (λ _. P i) [
          | inr ne ↦ off i b ne
          | inl half ↦ (elim (cases_eq i q) as (λ _. P i) [
            | inl f ↦ subst P (sym f) on_the_path
            | inr f ↦ subst P (sym (beside_only i q (half ∙ sym q_half) f)) beside_the_path
          ])
        ]

  -- The place's own number.
  place-number : N 0 ≡ 2 ^ d + p
  place-number = let a : d - 0 ≡ d = omega arith in let b : p / 1 ≡ p = omega arith in ap (λ n. 2 ^ n + p / 1) a ∙ ap (λ n. 2 ^ d + n) b

  place-index : N 0 - 2 ^ d ≡ p
  place-index = omega (arith, place-number)

  first_long : (c : List ℕ) → w ≡ Some c → (length (K 0).bytes ≡ 32) × (last < (K 0).number) × ((K 0).number ≤ last + draws w d)
  first_long c e = counted_fine w last keys d 0 long (subst (λ (x : Option (List ℕ)). lowest x ≤ 0) (sym e) (omega arith)) (omega arith)

  -- The contents afterwards.
  content_here : ContentShown sealed (B d) (2 ^ d + p) (content_row (R d).contents p) (place_in d p t')
  content_here =
      let x = place_in d (p / 1) t in
      let one : p / 1 ≡ p = omega arith in
      let is : place_in d p t' ≡ edited (single w K 0 p) x = ap (λ n. place_in d n t') (sym one) ∙ on_path w K d d 0 p t (omega arith) in
      let fine : Fine (K 1).number (key_of (edited (single w K 0 p) x)) = subst (Fine (K 1).number) (sym (single-key w K 0 p x)) (path_fine w last keys d 0 long (omega arith)) in
      let within : N 0 - 2 ^ d < length rows.contents = omega (arith, place-index, shows.places) in
      let row = content_row (after sealed d bytes (first_record (last + 1) p w K ∷ []) rows).contents (N 0 - 2 ^ d) in
      let first = first_here sealed d bytes p (last + 1) K rows marks w x (λ c f. (first_long c f).0) within in
      let zero-turns : ContentShown sealed (B 0) (N 0) row (edited (single w K 0 p) x) =
      subst (λ (b : List ℕ). ContentShown sealed b (N 0) row (edited (single w K 0 p) x)) (sym (Turns.first_bytes sealed d p (last + 1) w K S bytes rows)) first in
      let all = Turns.content-kept sealed d p (last + 1) w K S bytes rows marks (K 1).number (N 0) row (edited (single w K 0 p) x) fine d zero-turns in
      let same : content_row (R d).contents p ≡ row = ap (λ (y : List (Option ContentRow)). content_row y p) (Turns.all-contents sealed d p (last + 1) w K S bytes rows d)
      ∙ ap (content_row (after sealed d bytes (first_record (last + 1) p w K ∷ []) rows).contents) (sym place-index) in
      subst (λ (y : Tree Numbered (List ℕ)). ContentShown sealed (B d) (2 ^ d + p) (content_row (R d).contents p) y) (sym is)
      (subst (λ (y : Option ContentRow). ContentShown sealed (B d) (2 ^ d + p) y (edited (single w K 0 p) x)) (sym same)
      (subst (λ n. ContentShown sealed (B d) n row (edited (single w K 0 p) x)) place-number all))

  content_elsewhere : (q : ℕ) → q < 2 ^ d → (q ≡ p → ⊥) → ContentShown sealed (B d) (2 ^ d + q) (content_row (R d).contents q) (place_in d q t')
  content_elsewhere q l ne =
      let one : p / 1 ≡ p = omega arith in
      let is : place_in d q t' ≡ place_in d q t = off_path w K d d 0 p q t (omega arith) inside l (λ f. ne (f ∙ one)) in
      let old = content_grows sealed marks bytes (bytes_of sealed d (climbed (last + 1) p w K S d)) (2 ^ d + q) (suc last) (content_row rows.contents q) (place_in d q t) (tree_fine last d q t counts) (shows.contents q l) in
      let same : content_row (R d).contents q ≡ content_row rows.contents q = ap (λ (y : List (Option ContentRow)). content_row y q) (Turns.all-contents sealed d p (last + 1) w K S bytes rows d)
      ∙ first_other sealed d bytes p (last + 1) K rows w q (λ f. ne (f ∙ place-index)) in
      subst (λ (y : Tree Numbered (List ℕ)). ContentShown sealed (B d) (2 ^ d + q) (content_row (R d).contents q) y) (sym is)
      (subst (λ (y : Option ContentRow). ContentShown sealed (B d) (2 ^ d + q) y (place_in d q t)) (sym same) old)

  content-after : (q : ℕ) → q < 2 ^ d → ContentShown sealed (B d) (2 ^ d + q) (content_row (R d).contents q) (place_in d q t')
  content-after q l =
      let P : ℕ → Type 0 = λ x. ContentShown sealed (B d) (2 ^ d + x) (content_row (R d).contents x) (place_in d x t') in
      elim (cases_eq q p) as (λ _. P q) [ inl f ↦ subst P (sym f) content_here | inr f ↦ content_elsewhere q l f ]

  shows-after : Shows sealed d (B d) (R d) t'
  shows-after =
      record {
        deep = edited_levels d (single w K d p) t (single-draws Numbered (List ℕ) w K d p).0 shows.deep;
        nodes = Turns.all-nodes sealed d p (last + 1) w K S bytes rows d ∙ shows.nodes;
        places = ap length (Turns.all-contents sealed d p (last + 1) w K S bytes rows d) ∙ first_places sealed d bytes p (last + 1) K rows w ∙ shows.places;
        keys = λ g i l b. key-after g (d - suc g) (omega arith) i b;
        contents = content-after;
      }

  -- The keys and contents are counted on.
  counts-after : Counts (last + draws w d) t'
  counts-after =
      record {
        keys = λ k m.
            either (edited-keys (single w K d p) t k m)
            (λ x. drawn-one w K d p k x (λ h e lo hi.
            let f = counted_fine w last keys d h long lo hi in
            subst (λ (y : Numbered). (length y.bytes ≡ 32) × (1 ≤ y.number) × (y.number ≤ last + draws w d)) (sym e) (f.0, omega arith, f.2)))
            (λ x. let c = counts.keys k x in (c.0, c.1, omega arith));
        contents = λ c h. either (held_after w K d p t c h) (λ e. content-long c (subst (λ (x : Option (List ℕ)). is_content x ≡ true) e fits)) (λ x. counts.contents c x);
      }

  -- Each record is proper.
  turn-proper : (h : ℕ) → h < d → AllProper d (map (coded sealed d) (sealings (Turns.X sealed d p (last + 1) w K S bytes rows h)))
      × AllProper d (map (coded sealed d) (sealings (Turns.Y sealed d p (last + 1) w K S bytes rows h)))
  turn-proper h l =
      let g = d - suc h in
      let e : d ≡ g + suc h = omega arith in
      let f = good h l in
      let hi : (K (suc h)).number ≤ 4294967294 = omega arith in
      let s = pow-suc 2 g in
      let ps = pow_pos g in
      let n = N-is g h e in
      let m = M-is g h e in
      let a = level_below (suc g) (d + 1) (p / 2 ^ h) (omega arith) (q_below g h e) in
      let b = level_below (suc g) (d + 1) (beside (p / 2 ^ h)) (omega arith) (b_below g h e) in (
        key-proper sealed d bytes (path_node p h) (path_slot p h) (K (suc h)) rows marks (path_key w K h) f.0 (path_fine w last keys d h long l) hi (omega arith) (omega arith),
        key-proper sealed d bytes (sibling_node p h) (sibling_slot p h) (K (suc h)) rows marks (S h) f.0 (fine_more (suc last) (K (suc h)).number (S h) (omega arith) (sibling_fine g h e)) hi (omega arith) (omega arith),
      )

  proper-after : AllProper d (map (coded sealed d) (climbed (last + 1) p w K S d))
  proper-after =
      let one : 1 ≤ draws w d = draws_some w in
      let up = level_below d (d + 1) p (omega arith) inside in
      Turns.all-proper sealed d p (last + 1) w K S bytes rows d
      (first_proper sealed d bytes p (last + 1) K rows marks w fits (λ c e. let f = first_long c e in (f.0, omega arith, omega arith)) (omega arith) (omega arith) (omega (arith, place-number)) (omega (arith, place-number)))
      turn-proper
    where
      draws_some : (v : Option (List ℕ)) → 1 ≤ draws v d
      draws_some None = some
      draws_some (Some c) = omega arith

  pub keeps : Keeps sealed d bytes rows (records (last + 1) (root d) (single w K d p) t) t' (last + draws w d)
  keeps =
      let is : records (last + 1) (root d) (single w K d p) t ≡ climbed (last + 1) p w K S d =
      ap (λ (i : ℕ). records (last + 1) (record { level = d; index = i }) (single w K d p) t) (sym (div-eq_of_lt inside)) ∙ climbs Numbered (List ℕ) (last + 1) w K d p t in
      subst (λ (rs : List (Record Numbered (List ℕ))). Keeps sealed d bytes rows rs t' (last + draws w d)) (sym is) (record { shows = shows-after; counts = counts-after; proper = proper-after })

pub change_keeps : ChangeKeeps
change_keeps sealed marks levels place last w keys bytes rows t some inside fits long room shows counts =
    keeps sealed marks levels place last w keys bytes rows t some inside fits long room shows counts
