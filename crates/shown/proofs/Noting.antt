-- What noting one record leaves and shows.
use Rattle.std.proofs.Common.{◌≡◌, ℕ, ◌+◌, ◌-◌, ◌%◌, ◌^◌, ◌<◌, ◌≤◌, ◌≢◌, List, [], ◌∷◌, ◌++◌, map, length, take, drop, Some, None, Option, sym, refl, ap, ◌∙◌, subst, arith}
use Rattle.std.proofs.lemmas.List.{length-append, drop-drop, drop_at, take_at, length-set, get_or-set_same, get_or-set_other, map-append}
use Rattle.cipher.specs.Sealed.{slot_nonce}
use Rattle.records.specs.Format as Format
use Rattle.records.specs.Format.{head, be4, be2, encode, key_tag, content_tag}
use Rattle.forgetting.specs.Secret.{Node, Sealed}
use Rattle.forgetting.specs.Tree.{leaf, sealed_key}
use Rattle.forgetting.specs.Change.{Record, sealing, taking, sealings, Numbered}
use Rattle.change.specs.Coded.{Cipher, node_number, coded, bytes_of}
use Rattle.index.specs.declared.row.KeyRow.{KeyRow}
use Rattle.index.specs.declared.row.ContentRow.{ContentRow}
use Rattle.index.specs.Rows.{key_row, content_row}
use Rattle.index.specs.Noted.{Rows, noted, note_all, encode_all, AllProper}
use Rattle.shown.specs.Shown.{KeyShown, ContentShown, Marks16}
use Rattle.shown.proofs.Growing.{Fine}

-- What stands in an encoded record, after other bytes.
key-front : (n m u : ℕ) (s rest : List ℕ) → drop 13 (encode (Format.key n m u s) ++ rest) ≡ s ++ rest
unfolding encode head be4
key-front n m u s rest = refl

content-front : (n m : ℕ) (s rest : List ℕ) → drop 11 (encode (Format.content n m s) ++ rest) ≡ s ++ rest
unfolding encode head be4 be2
content-front n m s rest = refl

past : (b more : List ℕ) (k : ℕ) → drop (length b + k) (b ++ more) ≡ drop k more
past b more k = sym (drop-drop k (length b) (b ++ more)) ∙ ap (drop k) (drop_at b more (length b) refl)

pub key-text : (b rest s : List ℕ) (n m u : ℕ) → length s ≡ 48 → take 48 (drop (length b + 13) (b ++ (encode (Format.key n m u s) ++ rest))) ≡ s
key-text b rest s n m u l = ap (take 48) (past b (encode (Format.key n m u s) ++ rest) 13 ∙ key-front n m u s rest) ∙ take_at s rest 48 l

pub content-text : (b rest s : List ℕ) (n m k : ℕ) → length s ≡ k → take k (drop (length b + 11) (b ++ (encode (Format.content n m s) ++ rest))) ≡ s
content-text b rest s n m k l = ap (take k) (past b (encode (Format.content n m s) ++ rest) 11 ∙ content-front n m s rest) ∙ take_at s rest k l

-- Some records noted, and then others.
pub note_all-append : (levels at : ℕ) (xs ys : List Format.Record) (rows : Rows) → note_all levels at (xs ++ ys) rows ≡ note_all levels (at + length (encode_all xs)) ys (note_all levels at xs rows)
unfolding note_all encode_all
note_all-append levels at [] ys rows = let z : at ≡ at + 0 = omega arith in ap (λ n. note_all levels n ys rows) z
note_all-append levels at (x ∷ xs) ys rows =
    let l = length-append (encode x) (encode_all xs) in
    let z : at + length (encode x) + length (encode_all xs) ≡ at + length (encode x ++ encode_all xs) = omega arith in
    note_all-append levels (at + length (encode x)) xs ys (noted levels at x rows)
    ∙ ap (λ n. note_all levels n ys (note_all levels (at + length (encode x)) xs (noted levels at x rows))) z

-- The bytes of records, as the index reads them.
pub bytes_encoded : (sealed : Cipher) (levels : ℕ) (rs : List (Record Numbered (List ℕ))) → bytes_of sealed levels rs ≡ encode_all (map (coded sealed levels) rs)
unfolding bytes_of encode_all
bytes_encoded sealed levels [] = refl
bytes_encoded sealed levels (r ∷ rs) = ap (λ (x : List ℕ). encode (coded sealed levels r) ++ x) (bytes_encoded sealed levels rs)

pub sealings-append : (xs ys : List (Sealed Numbered (List ℕ))) → sealings (xs ++ ys) ≡ sealings xs ++ sealings ys
sealings-append [] ys = refl
sealings-append (x ∷ xs) ys = ap (λ (l : List (Record Numbered (List ℕ))). sealing x ∷ l) (sealings-append xs ys)

pub proper-append : (levels : ℕ) (xs ys : List Format.Record) → AllProper levels xs → AllProper levels ys → AllProper levels (xs ++ ys)
proper-append levels [] ys a b = b
proper-append levels (x ∷ xs) ys a b = (a.0, proper-append levels xs ys a.1 b)

module _ (sealed : Cipher) (levels : ℕ) where
  -- The rows after records that are added to the bytes.
  abbrev pub after : (bytes : List ℕ) → List (Record Numbered (List ℕ)) → Rows → Rows
  after bytes rs rows = note_all levels (length bytes) (map (coded sealed levels) rs) rows

  pub after-append : (bytes : List ℕ) (xs ys : List (Record Numbered (List ℕ))) (rows : Rows) → after bytes (xs ++ ys) rows ≡ after (bytes ++ bytes_of sealed levels xs) ys (after bytes xs rows)
  after-append bytes xs ys rows =
      let f = coded sealed levels in
      let l : length bytes + length (encode_all (map f xs)) ≡ length (bytes ++ bytes_of sealed levels xs) = sym (length-append bytes (bytes_of sealed levels xs) ∙ ap (λ (x : List ℕ). length bytes + length x) (bytes_encoded sealed levels xs)) in
      ap (λ (x : List Format.Record). note_all levels (length bytes) x rows) (map-append f xs ys)
      ∙ note_all-append levels (length bytes) (map f xs) (map f ys) rows
      ∙ ap (λ n. note_all levels n (map f ys) (note_all levels (length bytes) (map f xs) rows)) l

  -- The record of a node's key, as far as it has one: what it leaves, and what it shows.
  module _ (b : List ℕ) (at : Node) (slot : ℕ) (u : Numbered) (rows : Rows) where
    pub key-contents : (k : Option Numbered) → (after b (sealings (sealed_key at slot u k)) rows).contents ≡ rows.contents
    unfolding note_all
    key-contents None = refl
    key-contents (Some k) = refl

    pub key-nodes : (k : Option Numbered) → length (after b (sealings (sealed_key at slot u k)) rows).keys ≡ length rows.keys
    unfolding note_all
    key-nodes None = refl
    key-nodes (Some k) = length-set rows.keys (node_number levels at) _

    pub key-other : (k : Option Numbered) (n : ℕ) → n ≢ node_number levels at → key_row (after b (sealings (sealed_key at slot u k)) rows).keys n ≡ key_row rows.keys n
    unfolding note_all
    key-other None n ne = refl
    key-other (Some k) n ne = get_or-set_other rows.keys (node_number levels at) n _ None ne

    pub key_here : Marks16 sealed → (k : Option Numbered) (bound : ℕ) → length u.bytes ≡ 32 → Fine bound k → slot ≡ node_number levels at % 2 → node_number levels at < length rows.keys
        → (k ≡ None → key_row rows.keys (node_number levels at) ≡ None)
        → KeyShown sealed (b ++ bytes_of sealed levels (sealings (sealed_key at slot u k))) (node_number levels at) (key_row (after b (sealings (sealed_key at slot u k)) rows).keys (node_number levels at)) (Some u) k
    unfolding note_all bytes_of
    key_here marks None bound ul f s l none = subst (λ (x : Option KeyRow). KeyShown sealed (b ++ []) (node_number levels at) x (Some u) None) (sym (none refl)) tt
    key_here marks (Some k) bound ul f s l none =
        let n = node_number levels at in
        let t : List ℕ = sealed u.bytes (slot_nonce slot) (head key_tag n k.number) k.bytes in
        let long : length t ≡ 48 = marks u.bytes (slot_nonce slot) (head key_tag n k.number) k.bytes ul ∙ ap (λ x. x + 16) f.0 in
        let row : Option KeyRow = Some (record { number = k.number; under = u.number; offset = length b + 13 }) in
        subst (λ (x : Option KeyRow). KeyShown sealed (b ++ (encode (Format.key n k.number u.number t) ++ [])) n x (Some u) (Some k)) (sym (get_or-set_same rows.keys n row None l))
        (record {
          number_is = refl;
          under-is = refl;
          text = key-text b [] t n k.number u.number long ∙ ap (λ x. sealed u.bytes (slot_nonce x) (head key_tag n k.number) k.bytes) s;
        })

    pub key-proper : Marks16 sealed → (k : Option Numbered) → length u.bytes ≡ 32 → Fine u.number k → u.number ≤ 4294967294 → 2 ≤ node_number levels at → node_number levels at < 2 ^ (levels + 1)
        → AllProper levels (map (coded sealed levels) (sealings (sealed_key at slot u k)))
    key-proper marks None ul f hi lo up = tt
    key-proper marks (Some k) ul f hi lo up = (
      (lo, up, f.1, f.2, hi, marks u.bytes (slot_nonce slot) (head key_tag (node_number levels at) k.number) k.bytes ul ∙ ap (λ x. x + 16) f.0),
      tt,
    )

  -- The record of a place's content.
  module _ (b : List ℕ) (at : Node) (k : Numbered) (c : List ℕ) (rows : Rows) where
    pub put_keys : (after b (sealing (Sealed.Content at 0 k c) ∷ []) rows).keys ≡ rows.keys
    unfolding note_all
    put_keys = refl

    pub put_places : length (after b (sealing (Sealed.Content at 0 k c) ∷ []) rows).contents ≡ length rows.contents
    unfolding note_all
    put_places = length-set rows.contents (node_number levels at - 2 ^ levels) _

    pub put_other : (q : ℕ) → q ≢ node_number levels at - 2 ^ levels → content_row (after b (sealing (Sealed.Content at 0 k c) ∷ []) rows).contents q ≡ content_row rows.contents q
    unfolding note_all
    put_other q ne = get_or-set_other rows.contents (node_number levels at - 2 ^ levels) q _ None ne

    pub put_here : Marks16 sealed → length k.bytes ≡ 32 → node_number levels at - 2 ^ levels < length rows.contents
        → ContentShown sealed (b ++ bytes_of sealed levels (sealing (Sealed.Content at 0 k c) ∷ [])) (node_number levels at)
        (content_row (after b (sealing (Sealed.Content at 0 k c) ∷ []) rows).contents (node_number levels at - 2 ^ levels)) (leaf k c)
    unfolding note_all bytes_of
    put_here marks kl l =
        let n = node_number levels at in
        let t : List ℕ = sealed k.bytes (slot_nonce 0) (head content_tag n k.number) c in
        let long : length t ≡ length c + 16 = marks k.bytes (slot_nonce 0) (head content_tag n k.number) c kl in
        let row : Option ContentRow = Some (record { number = k.number; length = length t - 16; offset = length b + 11 }) in
        subst (λ (x : Option ContentRow). ContentShown sealed (b ++ (encode (Format.content n k.number t) ++ [])) n x (leaf k c)) (sym (get_or-set_same rows.contents (n - 2 ^ levels) row None l))
        (record { number_is = refl; length-is = omega arith; text = content-text b [] t n k.number (length c + 16) long })

    pub put_proper : Marks16 sealed → length k.bytes ≡ 32 → 1 ≤ k.number → k.number ≤ 4294967294 → 2 ^ levels ≤ node_number levels at → node_number levels at < 2 ^ (levels + 1) → 1 ≤ length c → length c ≤ 4096
        → AllProper levels (map (coded sealed levels) (sealing (Sealed.Content at 0 k c) ∷ []))
    put_proper marks kl n1 n2 lo up c1 c2 =
        let long = marks k.bytes (slot_nonce 0) (head content_tag (node_number levels at) k.number) c kl in
        ((lo, up, n1, n2, omega arith, omega arith), tt)

  -- The record of a place that was taken out.
  module _ (b : List ℕ) (at : Node) (next : ℕ) (rows : Rows) where
    pub out-nodes : length (after b (taking at next ∷ []) rows).keys ≡ length rows.keys
    unfolding note_all
    out-nodes = length-set rows.keys (node_number levels at) None

    pub out-key-other : (n : ℕ) → n ≢ node_number levels at → key_row (after b (taking at next ∷ []) rows).keys n ≡ key_row rows.keys n
    unfolding note_all
    out-key-other n ne = get_or-set_other rows.keys (node_number levels at) n None None ne

    pub out-key_here : node_number levels at < length rows.keys → key_row (after b (taking at next ∷ []) rows).keys (node_number levels at) ≡ None
    unfolding note_all
    out-key_here l = get_or-set_same rows.keys (node_number levels at) None None l

    pub out-places : length (after b (taking at next ∷ []) rows).contents ≡ length rows.contents
    unfolding note_all
    out-places = length-set rows.contents (node_number levels at - 2 ^ levels) None

    pub out-other : (q : ℕ) → q ≢ node_number levels at - 2 ^ levels → content_row (after b (taking at next ∷ []) rows).contents q ≡ content_row rows.contents q
    unfolding note_all
    out-other q ne = get_or-set_other rows.contents (node_number levels at - 2 ^ levels) q None None ne

    pub out_here : node_number levels at - 2 ^ levels < length rows.contents → content_row (after b (taking at next ∷ []) rows).contents (node_number levels at - 2 ^ levels) ≡ None
    unfolding note_all
    out_here l = get_or-set_same rows.contents (node_number levels at - 2 ^ levels) None None l
