-- What is shown stays shown where bytes are added at the end.
use Rattle.std.proofs.Common.{◌≡◌, ℕ, ◌+◌, ◌<◌, ◌≤◌, List, ◌++◌, length, take, drop, Some, None, Option, ap, ◌∙◌, arith}
use Rattle.std.proofs.lemmas.List.{length-take, length-drop, drop-append-le, take-append-le}
use Rattle.forgetting.specs.Tree.{Tree, bare, leaf, node, key_of}
use Rattle.forgetting.specs.Change.{Numbered}
use Rattle.change.specs.Coded.{Cipher}
use Rattle.index.specs.declared.row.KeyRow.{KeyRow}
use Rattle.index.specs.declared.row.ContentRow.{ContentRow}
use Rattle.shown.specs.Shown.{KeyShown, ContentShown, Marks16}

-- A key, where there is one, has 32 bytes and a number from 1 on, below a bound.
abbrev pub Fine : (bound : ℕ) → Option Numbered → Type 0
Fine bound None = Unit {0}
Fine bound (Some k) = (length k.bytes ≡ 32) × (1 ≤ k.number) × (k.number < bound)

-- A part that stands in the bytes ends before they do.
pub part-ends : (n o : ℕ) (bs s : List ℕ) → take n (drop o bs) ≡ s → length s ≡ n → 0 < n → o + n ≤ length bs
part-ends n o bs s e l g =
    let a = length-take n (drop o bs) in
    let b = length-drop o bs in
    let c = ap length e in
    omega arith

pub part_grows : (n o : ℕ) (bs more s : List ℕ) → take n (drop o bs) ≡ s → length s ≡ n → 0 < n → take n (drop o (bs ++ more)) ≡ s
part_grows n o bs more s e l g =
    let x = part-ends n o bs s e l g in
    let b = length-drop o bs in
    let y : o ≤ length bs = omega arith in
    let z : n ≤ length (drop o bs) = omega arith in
    ap (take n) (drop-append-le o bs more y) ∙ take-append-le n (drop o bs) more z ∙ e

module _ (sealed : Cipher) (marks : Marks16 sealed) (bytes more : List ℕ) (at : ℕ) where
  pub key_grows : (bound bound' : ℕ) (row : Option KeyRow) (above key : Option Numbered) → Fine bound above → Fine bound' key → KeyShown sealed bytes at row above key → KeyShown sealed (bytes ++ more) at row above key
  key_grows b b' None above None f g s = tt
  key_grows b b' None above (Some k) f g s = absurd s
  key_grows b b' (Some row) above None f g s = absurd s
  key_grows b b' (Some row) None (Some k) f g s = absurd s
  key_grows b b' (Some row) (Some u) (Some k) f g s =
      record {
        number_is = s.number_is;
        under-is = s.under-is;
        text = part_grows 48 row.offset bytes more _ s.text (marks u.bytes _ _ k.bytes f.0 ∙ ap (λ n. n + 16) g.0) (omega arith);
      }

  pub content_grows : (bound : ℕ) (row : Option ContentRow) (t : Tree Numbered (List ℕ)) → Fine bound (key_of t) → ContentShown sealed bytes at row t → ContentShown sealed (bytes ++ more) at row t
  content_grows b None bare f s = tt
  content_grows b None (leaf k c) f s = absurd s
  content_grows b None (node k l r) f s = absurd s
  content_grows b (Some row) bare f s = absurd s
  content_grows b (Some row) (leaf k c) f s =
      record {
        number_is = s.number_is;
        length-is = s.length-is;
        text = part_grows (length c + 16) row.offset bytes more _ s.text (marks k.bytes _ _ c f.0) (omega arith);
      }
  content_grows b (Some row) (node k l r) f s = absurd s

-- What a row shows lies within the bytes.
module _ (sealed : Cipher) (marks : Marks16 sealed) (bytes : List ℕ) (at : ℕ) where
  pub key_within : (row : KeyRow) (bound bound' : ℕ) (above key : Option Numbered) → Fine bound above → Fine bound' key → KeyShown sealed bytes at (Some row) above key → row.offset + 48 ≤ length bytes
  key_within row b b' above None f g s = absurd s
  key_within row b b' None (Some k) f g s = absurd s
  key_within row b b' (Some u) (Some k) f g s =
      part-ends 48 row.offset bytes _ s.text (marks u.bytes _ _ k.bytes f.0 ∙ ap (λ n. n + 16) g.0) (omega arith)

  pub content_within : (row : ContentRow) (bound : ℕ) (t : Tree Numbered (List ℕ)) → Fine bound (key_of t) → ContentShown sealed bytes at (Some row) t → row.offset + (row.length + 16) ≤ length bytes
  content_within row b bare f s = absurd s
  content_within row b (leaf k c) f s =
      let l = s.length-is in
      let e = part-ends (length c + 16) row.offset bytes _ s.text (marks k.bytes _ _ c f.0) (omega arith) in
      omega arith
  content_within row b (node k l r) f s = absurd s
