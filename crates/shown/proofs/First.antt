-- What is written first, of the place itself: what it leaves and shows.
use Rattle.std.proofs.Common.{◌≡◌, ℕ, ◌+◌, ◌-◌, ◌^◌, ◌<◌, ◌≤◌, true, ◌≢◌, List, [], ◌∷◌, ◌++◌, map, length, Some, None, Option, sym, refl, ap, subst, arith}
use Rattle.std.proofs.lemmas.Bool.Decides.{nat_tests}
use Rattle.forgetting.specs.Tree.{Tree}
use Rattle.forgetting.specs.Change.{Numbered, edited, placed}
use Rattle.forgetting.specs.Climb.{path_node, path_key, first_record}
use Rattle.change.specs.Coded.{Cipher, node_number, coded, bytes_of}
use Rattle.change.specs.Outcome.{is_content}
use Rattle.index.specs.declared.row.ContentRow.{ContentRow}
use Rattle.index.specs.Rows.{key_row, content_row}
use Rattle.index.specs.Noted.{Rows, AllProper}
use Rattle.shown.specs.Shown.{ContentShown, Marks16}
use Rattle.shown.proofs.Noting.{after, put_keys, put_places, put_other, put_here, put_proper, out-nodes, out-key-other, out-key_here, out-places, out-other, out_here}

pub content-long : (c : List ℕ) → is_content (Some c) ≡ true → (1 ≤ length c) × (length c ≤ 4096)
content-long c e = (grind (arith, nat_tests), grind (arith, nat_tests))

module _ (sealed : Cipher) (d : ℕ) (b : List ℕ) (p next : ℕ) (K : ℕ → Numbered) (rows : Rows) where
  abbrev at : ℕ
  at = node_number d (path_node p 0)

  pub first_nodes : (w : Option (List ℕ)) → length (after sealed d b (first_record next p w K ∷ []) rows).keys ≡ length rows.keys
  first_nodes None = out-nodes sealed d b (path_node p 0) next rows
  first_nodes (Some c) = ap length (put_keys sealed d b (path_node p 0) (K 0) c rows)

  pub first_places : (w : Option (List ℕ)) → length (after sealed d b (first_record next p w K ∷ []) rows).contents ≡ length rows.contents
  first_places None = out-places sealed d b (path_node p 0) next rows
  first_places (Some c) = put_places sealed d b (path_node p 0) (K 0) c rows

  pub first_key-other : (w : Option (List ℕ)) (n : ℕ) → n ≢ at → key_row (after sealed d b (first_record next p w K ∷ []) rows).keys n ≡ key_row rows.keys n
  first_key-other None n ne = out-key-other sealed d b (path_node p 0) next rows n ne
  first_key-other (Some c) n ne = ap (λ x. key_row x n) (put_keys sealed d b (path_node p 0) (K 0) c rows)

  pub first_key_here : (w : Option (List ℕ)) → path_key w K 0 ≡ None → at < length rows.keys → key_row (after sealed d b (first_record next p w K ∷ []) rows).keys at ≡ None
  first_key_here None e l = out-key_here sealed d b (path_node p 0) next rows l
  first_key_here (Some c) e l = cc

  pub first_other : (w : Option (List ℕ)) (q : ℕ) → q ≢ at - 2 ^ d → content_row (after sealed d b (first_record next p w K ∷ []) rows).contents q ≡ content_row rows.contents q
  first_other None q ne = out-other sealed d b (path_node p 0) next rows q ne
  first_other (Some c) q ne = put_other sealed d b (path_node p 0) (K 0) c rows q ne

  pub first_here : Marks16 sealed → (w : Option (List ℕ)) (x : Tree Numbered (List ℕ)) → ((c : List ℕ) → w ≡ Some c → length (K 0).bytes ≡ 32) → at - 2 ^ d < length rows.contents
      → ContentShown sealed (b ++ bytes_of sealed d (first_record next p w K ∷ [])) at (content_row (after sealed d b (first_record next p w K ∷ []) rows).contents (at - 2 ^ d)) (edited (placed w (K 0)) x)
  first_here marks None x long l =
      subst (λ (r : Option ContentRow). ContentShown sealed (b ++ bytes_of sealed d (first_record {C = List ℕ} next p None K ∷ [])) at r (edited {C = List ℕ} (placed None (K 0)) x))
      (sym (out_here sealed d b (path_node p 0) next rows l)) tt
  first_here marks (Some c) x long l = put_here sealed d b (path_node p 0) (K 0) c rows marks (long c refl) l

  pub first_proper : Marks16 sealed → (w : Option (List ℕ)) → is_content w ≡ true → ((c : List ℕ) → w ≡ Some c → (length (K 0).bytes ≡ 32) × (1 ≤ (K 0).number) × ((K 0).number ≤ 4294967294)) → 1 ≤ next → next ≤ 4294967294
      → 2 ^ d ≤ at → at < 2 ^ (d + 1) → AllProper d (map (coded sealed d) (first_record next p w K ∷ []))
  first_proper marks None fits long lo hi a z = ((a, z, lo, hi), tt)
  first_proper marks (Some c) fits long lo hi a z =
      let f = long c refl in
      let l = content-long c fits in
      put_proper sealed d b (path_node p 0) (K 0) c rows marks f.0 f.1 f.2 a z l.0 l.1
