-- The change of one place, level by level: what the medium shows after so many turns.
use Rattle.std.proofs.Common.{◌≡◌, ℕ, zero, suc, ◌%◌, ◌<◌, ◌≤◌, ◌≢◌, List, [], ◌∷◌, ◌++◌, map, length, Some, None, Option, sym, refl, ap, ◌∙◌, subst, inl, inr, arith}
use Rattle.std.proofs.lemmas.List.{append_assoc, map-append}
use Rattle.std.proofs.lemmas.Bool.{cases_lt}
use Rattle.forgetting.specs.Secret.{Sealed}
use Rattle.forgetting.specs.Tree.{Tree, key_of, place_in, sealed_key}
use Rattle.forgetting.specs.Change.{Record, sealings, Numbered}
use Rattle.forgetting.specs.Climb.{path_node, sibling_node, path_slot, sibling_slot, path_key, first_record, climbed}
use Rattle.change.specs.Coded.{Cipher, node_number, coded, bytes_of}
use Rattle.change.proofs.Bridge.{bytes_of-append, path_number, path_slot_lem, sibling_number, sibling_slot_lem}
use Rattle.index.specs.declared.row.KeyRow.{KeyRow}
use Rattle.index.specs.declared.row.ContentRow.{ContentRow}
use Rattle.index.specs.Rows.{key_row}
use Rattle.index.specs.Noted.{Rows, AllProper}
use Rattle.shown.specs.Shown.{KeyShown, ContentShown, Counts, Marks16}
use Rattle.shown.proofs.Editing.{key_of_tree}
use Rattle.shown.proofs.Growing.{Fine, key_grows, content_grows}
use Rattle.shown.proofs.Noting.{after, after-append, sealings-append, key-contents, key-nodes, key-other, key_here, proper-append}
use Rattle.shown.proofs.First.{first_nodes, first_key-other, first_key_here}

-- The keys of a counted tree are fine.
pub tree_fine : (last g i : ℕ) (t : Tree Numbered (List ℕ)) → Counts last t → Fine (suc last) (key_of (place_in g i t))
tree_fine last g i t counts = go (key_of (place_in g i t)) refl
  where
    go : (k : Option Numbered) → key_of (place_in g i t) ≡ k → Fine (suc last) k
    go None e = tt
    go (Some k) e = let c = counts.keys k (key_of_tree g i t k e) in (c.0, c.1, omega arith)

pub fine_more : (a b : ℕ) (k : Option Numbered) → a ≤ b → Fine a k → Fine b k
fine_more a b None l f = tt
fine_more a b (Some k) l f = (f.0, f.1, omega arith)

module _ (sealed : Cipher) (d p next : ℕ) (w : Option (List ℕ)) (K : ℕ → Numbered) (siblings : ℕ → Option Numbered) (bytes : List ℕ) (rows : Rows) where
  -- The bytes and the rows after so many turns.
  abbrev pub B : ℕ → List ℕ
  B h = bytes ++ bytes_of sealed d (climbed next p w K siblings h)

  abbrev pub R : ℕ → Rows
  R h = after sealed d bytes (climbed next p w K siblings h) rows

  -- What a turn writes of the node on the path and of its sibling, and the numbers of the two.
  abbrev pub X : ℕ → List (Sealed Numbered (List ℕ))
  X h = sealed_key (path_node p h) (path_slot p h) (K (suc h)) (path_key w K h)

  abbrev pub Y : ℕ → List (Sealed Numbered (List ℕ))
  Y h = sealed_key (sibling_node p h) (sibling_slot p h) (K (suc h)) (siblings h)

  abbrev pub N : ℕ → ℕ
  N h = node_number d (path_node p h)

  abbrev pub M : ℕ → ℕ
  M h = node_number d (sibling_node p h)

  -- In the middle of a turn.
  abbrev pub B1 : ℕ → List ℕ
  B1 h = B h ++ bytes_of sealed d (sealings (X h))

  abbrev pub R1 : ℕ → Rows
  R1 h = after sealed d (B h) (sealings (X h)) (R h)

  climbed_none : climbed next p w K siblings 0 ≡ first_record next p w K ∷ []
  unfolding climbed
  climbed_none = refl

  climbed_more : (h : ℕ) → climbed next p w K siblings (suc h) ≡ (climbed next p w K siblings h ++ sealings (X h)) ++ sealings (Y h)
  unfolding climbed
  climbed_more h =
      let c = climbed next p w K siblings h in
      ap (λ (x : List (Record Numbered (List ℕ))). c ++ x) (sealings-append (X h) (Y h)) ∙ sym (append_assoc c (sealings (X h)) (sealings (Y h)))

  half_bytes : (h : ℕ) → bytes ++ bytes_of sealed d (climbed next p w K siblings h ++ sealings (X h)) ≡ B1 h
  half_bytes h =
      ap (λ (x : List ℕ). bytes ++ x) (bytes_of-append sealed d (climbed next p w K siblings h) (sealings (X h)))
      ∙ sym (append_assoc bytes (bytes_of sealed d (climbed next p w K siblings h)) (bytes_of sealed d (sealings (X h))))

  pub bytes_more : (h : ℕ) → B (suc h) ≡ B1 h ++ bytes_of sealed d (sealings (Y h))
  bytes_more h =
      let c = climbed next p w K siblings h ++ sealings (X h) in
      ap (λ (x : List (Record Numbered (List ℕ))). bytes ++ bytes_of sealed d x) (climbed_more h)
      ∙ ap (λ (x : List ℕ). bytes ++ x) (bytes_of-append sealed d c (sealings (Y h)))
      ∙ sym (append_assoc bytes (bytes_of sealed d c) (bytes_of sealed d (sealings (Y h))))
      ∙ ap (λ (x : List ℕ). x ++ bytes_of sealed d (sealings (Y h))) (half_bytes h)

  pub rows_more : (h : ℕ) → R (suc h) ≡ after sealed d (B1 h) (sealings (Y h)) (R1 h)
  rows_more h =
      let c = climbed next p w K siblings h ++ sealings (X h) in
      ap (λ (x : List (Record Numbered (List ℕ))). after sealed d bytes x rows) (climbed_more h)
      ∙ after-append sealed d bytes c (sealings (Y h)) rows
      ∙ ap (λ (x : Rows). after sealed d (bytes ++ bytes_of sealed d c) (sealings (Y h)) x) (after-append sealed d bytes (climbed next p w K siblings h) (sealings (X h)) rows)
      ∙ ap (λ (x : List ℕ). after sealed d x (sealings (Y h)) (R1 h)) (half_bytes h)

  -- What the turns leave as it is.
  pub all-nodes : (h : ℕ) → length (R h).keys ≡ length rows.keys
  all-nodes zero = ap (λ (x : List (Record Numbered (List ℕ))). length (after sealed d bytes x rows).keys) climbed_none ∙ first_nodes sealed d bytes p next K rows w
  all-nodes (suc h) =
      ap (λ (x : Rows). length x.keys) (rows_more h)
      ∙ key-nodes sealed d (B1 h) (sibling_node p h) (sibling_slot p h) (K (suc h)) (R1 h) (siblings h)
      ∙ key-nodes sealed d (B h) (path_node p h) (path_slot p h) (K (suc h)) (R h) (path_key w K h)
      ∙ all-nodes h

  pub all-contents : (h : ℕ) → (R h).contents ≡ (after sealed d bytes (first_record next p w K ∷ []) rows).contents
  all-contents zero = ap (λ (x : List (Record Numbered (List ℕ))). (after sealed d bytes x rows).contents) climbed_none
  all-contents (suc h) =
      ap (λ (x : Rows). x.contents) (rows_more h)
      ∙ key-contents sealed d (B1 h) (sibling_node p h) (sibling_slot p h) (K (suc h)) (R1 h) (siblings h)
      ∙ key-contents sealed d (B h) (path_node p h) (path_slot p h) (K (suc h)) (R h) (path_key w K h)
      ∙ all-contents h

  pub row_kept : (h n : ℕ) → n ≢ N h → n ≢ M h → key_row (R (suc h)).keys n ≡ key_row (R h).keys n
  row_kept h n a b =
      ap (λ (x : Rows). key_row x.keys n) (rows_more h)
      ∙ key-other sealed d (B1 h) (sibling_node p h) (sibling_slot p h) (K (suc h)) (R1 h) (siblings h) n b
      ∙ key-other sealed d (B h) (path_node p h) (path_slot p h) (K (suc h)) (R h) (path_key w K h) n a

  -- No turn from the one to the other writes of node n.
  abbrev pub Untouched : (from to n : ℕ) → Type 0
  Untouched from to n = (h : ℕ) → from ≤ h → h < to → (n ≢ N h) × (n ≢ M h)

  pub rows-kept : (from to n : ℕ) → from ≤ to → Untouched from to n → key_row (R to).keys n ≡ key_row (R from).keys n
  rows-kept from zero n l u = let z : zero ≡ from = omega arith in ap (λ x. key_row (R x).keys n) z
  rows-kept from (suc to) n l u =
      elim (cases_lt to from) [
        | inl g ↦ (let z : suc to ≡ from = omega arith in ap (λ x. key_row (R x).keys n) z)
        | inr g ↦ row_kept to n (u to g (omega arith)).0 (u to g (omega arith)).1 ∙ rows-kept from to n g (λ h a b. u h a (omega arith))
      ]

  pub first_kept : (n : ℕ) → n ≢ N 0 → key_row (R 0).keys n ≡ key_row rows.keys n
  first_kept n ne = ap (λ (x : List (Record Numbered (List ℕ))). key_row (after sealed d bytes x rows).keys n) climbed_none ∙ first_key-other sealed d bytes p next K rows w n ne

  pub first_none : path_key w K 0 ≡ None → N 0 < length rows.keys → key_row (R 0).keys (N 0) ≡ None
  first_none e l = ap (λ (x : List (Record Numbered (List ℕ))). key_row (after sealed d bytes x rows).keys (N 0)) climbed_none ∙ first_key_here sealed d bytes p next K rows w e l

  -- What is shown stays shown.
  module _ (marks : Marks16 sealed) (n bound bound' : ℕ) (above key : Option Numbered) (fine : Fine bound above) (fine' : Fine bound' key) where
    abbrev Shown : (b : List ℕ) (row : Option KeyRow) → Type 0
    Shown b row = KeyShown sealed b n row above key

    pub shown_more : (h : ℕ) → n ≢ N h → n ≢ M h → Shown (B h) (key_row (R h).keys n) → Shown (B (suc h)) (key_row (R (suc h)).keys n)
    shown_more h a c s =
        let row = key_row (R h).keys n in
        let one = key_grows sealed marks (B h) (bytes_of sealed d (sealings (X h))) n bound bound' row above key fine fine' s in
        let two = key_grows sealed marks (B1 h) (bytes_of sealed d (sealings (Y h))) n bound bound' row above key fine fine' one in
        subst (λ (x : Option KeyRow). Shown (B (suc h)) x) (sym (row_kept h n a c)) (subst (λ (x : List ℕ). Shown x row) (sym (bytes_more h)) two)

    pub shown_kept : (from to : ℕ) → from ≤ to → Untouched from to n → Shown (B from) (key_row (R from).keys n) → Shown (B to) (key_row (R to).keys n)
    shown_kept from zero l u s = let z : from ≡ zero = omega arith in subst (λ (x : ℕ). Shown (B x) (key_row (R x).keys n)) z s
    shown_kept from (suc to) l u s =
        elim (cases_lt to from) [
          | inl g ↦ (let z : from ≡ suc to = omega arith in subst (λ (x : ℕ). Shown (B x) (key_row (R x).keys n)) z s)
          | inr g ↦ shown_more to (u to g (omega arith)).0 (u to g (omega arith)).1 (shown_kept from to g (λ h a b. u h a (omega arith)) s)
        ]

    pub shown_first : n ≢ N 0 → Shown bytes (key_row rows.keys n) → Shown (B 0) (key_row (R 0).keys n)
    shown_first ne s =
        subst (λ (x : Option KeyRow). Shown (B 0) x) (sym (first_kept n ne)) (key_grows sealed marks bytes (bytes_of sealed d (climbed next p w K siblings 0)) n bound bound' (key_row rows.keys n) above key fine fine' s)

  -- The two nodes of a turn, after it.
  module _ (marks : Marks16 sealed) (h : ℕ) (below : h < d) (apart : N h ≢ M h) (good : Fine (suc (K (suc h)).number) (Some (K (suc h)))) where
    pub path_shown : (bound : ℕ) → Fine bound (path_key w K h) → N h < length rows.keys → (path_key w K h ≡ None → key_row (R h).keys (N h) ≡ None)
        → KeyShown sealed (B (suc h)) (N h) (key_row (R (suc h)).keys (N h)) (Some (K (suc h))) (path_key w K h)
    path_shown bound fine l none =
        let slot : path_slot p h ≡ N h % 2 = path_slot_lem d p h below ∙ ap (λ n. n % 2) (sym (path_number d p h below)) in
        let inside : N h < length (R h).keys = subst (λ n. N h < n) (sym (all-nodes h)) l in
        let row = key_row (R1 h).keys (N h) in
        let here : KeyShown sealed (B1 h) (N h) row (Some (K (suc h))) (path_key w K h) =
        key_here sealed d (B h) (path_node p h) (path_slot p h) (K (suc h)) (R h) marks (path_key w K h) bound good.0 fine slot inside none in
        let up = key_grows sealed marks (B1 h) (bytes_of sealed d (sealings (Y h))) (N h) (suc (K (suc h)).number) bound row (Some (K (suc h))) (path_key w K h) good fine here in
        let same : key_row (R (suc h)).keys (N h) ≡ row =
        ap (λ (x : Rows). key_row x.keys (N h)) (rows_more h) ∙ key-other sealed d (B1 h) (sibling_node p h) (sibling_slot p h) (K (suc h)) (R1 h) (siblings h) (N h) apart in
        subst (λ (x : Option KeyRow). KeyShown sealed (B (suc h)) (N h) x (Some (K (suc h))) (path_key w K h)) (sym same)
        (subst (λ (x : List ℕ). KeyShown sealed x (N h) row (Some (K (suc h))) (path_key w K h)) (sym (bytes_more h)) up)

    pub sibling_shown : (bound : ℕ) → Fine bound (siblings h) → M h < length rows.keys → (siblings h ≡ None → key_row (R h).keys (M h) ≡ None)
        → KeyShown sealed (B (suc h)) (M h) (key_row (R (suc h)).keys (M h)) (Some (K (suc h))) (siblings h)
    sibling_shown bound fine l none =
        let slot : sibling_slot p h ≡ M h % 2 = sibling_slot_lem d p h below ∙ ap (λ n. n % 2) (sym (sibling_number d p h below)) in
        let nodes : length (R1 h).keys ≡ length rows.keys = key-nodes sealed d (B h) (path_node p h) (path_slot p h) (K (suc h)) (R h) (path_key w K h) ∙ all-nodes h in
        let inside : M h < length (R1 h).keys = subst (λ n. M h < n) (sym nodes) l in
        let same : key_row (R1 h).keys (M h) ≡ key_row (R h).keys (M h) =
        key-other sealed d (B h) (path_node p h) (path_slot p h) (K (suc h)) (R h) (path_key w K h) (M h) (λ e. apart (sym e)) in
        let here = key_here sealed d (B1 h) (sibling_node p h) (sibling_slot p h) (K (suc h)) (R1 h) marks (siblings h) bound good.0 fine slot inside (λ e. same ∙ none e) in
        subst (λ (x : Rows). KeyShown sealed (B (suc h)) (M h) (key_row x.keys (M h)) (Some (K (suc h))) (siblings h)) (sym (rows_more h))
        (subst (λ (x : List ℕ). KeyShown sealed x (M h) (key_row (after sealed d (B1 h) (sealings (Y h)) (R1 h)).keys (M h)) (Some (K (suc h))) (siblings h)) (sym (bytes_more h)) here)

  -- A content that is shown stays shown.
  pub content-kept : Marks16 sealed → (bound n : ℕ) (row : Option ContentRow) (x : Tree Numbered (List ℕ)) → Fine bound (key_of x) → (h : ℕ) → ContentShown sealed (B 0) n row x → ContentShown sealed (B h) n row x
  content-kept marks bound n row x fine zero s = s
  content-kept marks bound n row x fine (suc h) s =
      let one = content_grows sealed marks (B h) (bytes_of sealed d (sealings (X h))) n bound row x fine (content-kept marks bound n row x fine h s) in
      let two = content_grows sealed marks (B1 h) (bytes_of sealed d (sealings (Y h))) n bound row x fine one in
      subst (λ (y : List ℕ). ContentShown sealed y n row x) (sym (bytes_more h)) two

  -- Each record is proper where that of the place is and those of each turn are.
  pub all-proper : (h : ℕ) → AllProper d (map (coded sealed d) (first_record next p w K ∷ []))
      → ((i : ℕ) → i < h → AllProper d (map (coded sealed d) (sealings (X i))) × AllProper d (map (coded sealed d) (sealings (Y i))))
      → AllProper d (map (coded sealed d) (climbed next p w K siblings h))
  all-proper zero first turns = subst (λ (x : List (Record Numbered (List ℕ))). AllProper d (map (coded sealed d) x)) (sym climbed_none) first
  all-proper (suc h) first turns =
      let c = climbed next p w K siblings h in
      let f = coded sealed d in
      let s = turns h (omega arith) in
      let below = all-proper h first (λ i l. turns i (omega arith)) in
      let half = subst (AllProper d) (sym (map-append f c (sealings (X h)))) (proper-append d (map f c) (map f (sealings (X h))) below s.0) in
      let whole = subst (AllProper d) (sym (map-append f (c ++ sealings (X h)) (sealings (Y h)))) (proper-append d (map f (c ++ sealings (X h))) (map f (sealings (Y h))) half s.1) in
      subst (λ (x : List (Record Numbered (List ℕ))). AllProper d (map f x)) (sym (climbed_more h)) whole

  pub first_bytes : B 0 ≡ bytes ++ bytes_of sealed d (first_record next p w K ∷ [])
  first_bytes = ap (λ (x : List (Record Numbered (List ℕ))). bytes ++ bytes_of sealed d x) climbed_none
