-- What the turns write is what the records of the change are, as bytes.
use Rattle.std.proofs.Common.{◌≡◌, ℕ, zero, suc, ◌+◌, ◌-◌, ◌*◌, ◌/◌, ◌%◌, ◌^◌, ◌<◌, ◌≤◌, eqb, ◌⊎◌, List, [], ◌∷◌, ◌++◌, Some, None, Option, sym, refl, ap, ◌∙◌, inl, inr, mul_comm, pow-suc, arith, pow_pos, pow-add}
use native.Mathlib.Nat.{add-mul-div_left, div-eq_of_lt}
use Rattle.std.proofs.lemmas.List.{append-nil, append_assoc}
use Rattle.std.proofs.lemmas.Bool.{cases_eq}
use Rattle.records.specs.Format as Format
use Rattle.records.specs.Format.{encode}
use Rattle.forgetting.specs.Secret.{Node, Sealed}
use Rattle.forgetting.specs.Tree.{sealed_key, turn}
use Rattle.forgetting.specs.Change.{Record, sealing, sealings, Numbered, counted}
use Rattle.forgetting.specs.Tree.{Tree}
use Rattle.forgetting.specs.Change.{records, single}
use Rattle.forgetting.specs.History.{root}
use Rattle.forgetting.proofs.Climbing.{climbs, climbed-same}
use Rattle.forgetting.specs.Climb.{path_node, sibling_node, sibling_key, path_slot, sibling_slot, path_key, first_record, turn_records, climbed}
use Rattle.sealing.specs.declared.key.Key.{Key}
use Rattle.tree.specs.Nodes.{sibling_of}
use Rattle.change.specs.declared.node.NodeKey.{NodeKey}
use Rattle.change.specs.Coded.{Cipher, node_number, coded, coded_content, bytes_of, key_bytes}
use Rattle.change.specs.Nodes.{sibling_in, bytes_in, drawn_key, drawn_before, first_of}
use Rattle.change.specs.Turns.{place_bytes, turn_bytes, turns_bytes}

pub bytes_of-append : (sealed : Cipher) (levels : ℕ) (xs ys : List (Record Numbered (List ℕ))) → bytes_of sealed levels (xs ++ ys) ≡ bytes_of sealed levels xs ++ bytes_of sealed levels ys
unfolding bytes_of
bytes_of-append sealed levels [] ys = refl
bytes_of-append sealed levels (x ∷ xs) ys =
    rw (bytes_of-append sealed levels xs ys, append_assoc (encode (coded sealed levels x)) (bytes_of sealed levels xs) (bytes_of sealed levels ys))

sealings-append : (xs ys : List (Sealed Numbered (List ℕ))) → sealings (xs ++ ys) ≡ sealings xs ++ sealings ys
sealings-append [] ys = refl
sealings-append (x ∷ xs) ys = ap (λ (l : List (Record Numbered (List ℕ))). sealing x ∷ l) (sealings-append xs ys)

-- A node's key, as far as it has one.
key-bytes : (sealed : Cipher) (levels : ℕ) (at : Node) (slot : ℕ) (u : Numbered) (k : Option Numbered)
    → bytes_of sealed levels (sealings (sealed_key at slot u k)) ≡ key_bytes sealed (node_number levels at) slot u k
unfolding bytes_of
key-bytes sealed levels at slot u None = refl
key-bytes sealed levels at slot u (Some k) = append-nil (encode (coded sealed levels (sealing (Sealed.Key at slot u k))))

-- Of a number q added to an even one: its side, and its sibling.
side : (q : ℕ) → (q % 2 ≡ 0) ⊎ (q % 2 ≡ 1)
side q = elim (cases_eq (q % 2) 0) [ inl e ↦ inl e | inr n ↦ inr (omega arith) ]

slot_side : (P R q : ℕ) → P ≡ 2 * R → turn (eqb (q % 2) 0) 0 1 ≡ (P + q) % 2
slot_side P R q e = elim (side q) [ inl z ↦ rw z (omega arith) | inr z ↦ rw z (omega arith) ]

sibling_side : (P R q : ℕ) → P ≡ 2 * R → P + turn (eqb (q % 2) 0) (q + 1) (q - 1) ≡ sibling_of (P + q)
sibling_side P R q e =
    elim (side q) [
      | inl z ↦ (let m : (P + q) % 2 ≡ 0 = omega arith in rw (z, m) (omega arith))
      | inr z ↦ (let m : (P + q) % 2 ≡ 1 = omega arith in rw (z, m) (omega arith))
    ]

slot_sibling : (P R q : ℕ) → P ≡ 2 * R → turn (eqb (q % 2) 0) 1 0 ≡ sibling_of (P + q) % 2
slot_sibling P R q e =
    elim (side q) [
      | inl z ↦ (let m : (P + q) % 2 ≡ 0 = omega arith in rw (z, m) (omega arith))
      | inr z ↦ (let m : (P + q) % 2 ≡ 1 = omega arith in rw (z, m) (omega arith))
    ]

-- The node h levels above place p, by its number.
module _ (d p h : ℕ) (below : h < d) where
  twice : 2 ^ (d - h) ≡ 2 * 2 ^ (d - h - 1)
  twice =
      let e : d - h ≡ suc (d - h - 1) = omega arith in
      ap (λ n. 2 ^ n) e ∙ pow-suc 2 (d - h - 1) ∙ mul_comm (2 ^ (d - h - 1)) 2

  pub path_number : 2 ^ (d - h) + p / 2 ^ h ≡ (2 ^ d + p) / 2 ^ h
  path_number =
      let e : h + (d - h) ≡ d = omega arith in
      let w : 2 ^ d ≡ 2 ^ h * 2 ^ (d - h) = ap (λ n. 2 ^ n) (sym e) ∙ pow-add 2 h (d - h) in
      let s : 2 ^ d + p ≡ p + 2 ^ h * 2 ^ (d - h) = omega arith in
      let m = add-mul-div_left p (2 ^ (d - h)) (pow_pos h) in
      omega (arith, ap (λ n. n / 2 ^ h) s ∙ m)

  pub path_slot_lem : path_slot p h ≡ ((2 ^ d + p) / 2 ^ h) % 2
  path_slot_lem = slot_side (2 ^ (d - h)) (2 ^ (d - h - 1)) (p / 2 ^ h) twice ∙ ap (λ n. n % 2) path_number

  pub sibling_number : node_number d (sibling_node p h) ≡ sibling_of ((2 ^ d + p) / 2 ^ h)
  sibling_number = sibling_side (2 ^ (d - h)) (2 ^ (d - h - 1)) (p / 2 ^ h) twice ∙ ap sibling_of path_number

  pub sibling_slot_lem : sibling_slot p h ≡ sibling_of ((2 ^ d + p) / 2 ^ h) % 2
  sibling_slot_lem = slot_sibling (2 ^ (d - h)) (2 ^ (d - h - 1)) (p / 2 ^ h) twice ∙ ap (λ n. sibling_of n % 2) path_number

-- Keys that are counted on are those of the list, in its order.
counted-drawn : (w : Option (List ℕ)) (last : ℕ) (keys : List Key) (h : ℕ) → counted w last (bytes_in keys) (suc h) ≡ drawn_key last keys (h + first_of w)
counted-drawn None last keys h =
    let a : h + 0 ≡ h = omega arith in
    let b : last + suc h ≡ last + 1 + h = omega arith in
    rw (a, b)
counted-drawn (Some c) last keys h =
    let a : h + 1 ≡ suc h = omega arith in
    rw a

path_drawn : (w : Option (List ℕ)) (last : ℕ) (keys : List Key) (h : ℕ) → path_key w (counted w last (bytes_in keys)) h ≡ drawn_before last keys (h + first_of w)
path_drawn None last keys zero = refl
path_drawn (Some c) last keys zero = refl
path_drawn None last keys (suc h) =
    let a : suc h + 0 ≡ suc h = omega arith in
    let b : last + suc h ≡ last + 1 + h = omega arith in
    rw (a, b)
path_drawn (Some c) last keys (suc h) =
    let a : suc h + 1 ≡ suc (suc h) = omega arith in
    rw a

same_bytes : (sealed : Cipher) (n m s t : ℕ) (u v : Numbered) (k l : Option Numbered) → n ≡ m → s ≡ t → u ≡ v → k ≡ l → key_bytes sealed n s u k ≡ key_bytes sealed m t v l
same_bytes sealed n m s t u v k l a b c d =
    ap (λ x. key_bytes sealed x s u k) a ∙ ap (λ x. key_bytes sealed m x u k) b ∙ ap (λ (x : Numbered). key_bytes sealed m t x k) c ∙ ap (key_bytes sealed m t v) d

join : (a b c d : List ℕ) → a ≡ c → b ≡ d → a ++ b ≡ c ++ d
join a b c d p q = cc

-- One turn.
turn-bytes : (sealed : Cipher) (d p h : ℕ) (w : Option (List ℕ)) (last : ℕ) (keys : List Key) (siblings : Option Numbered) → h < d
    → bytes_of sealed d (turn_records p w (counted w last (bytes_in keys)) siblings h) ≡ turn_bytes sealed ((2 ^ d + p) / 2 ^ h) last keys (h + first_of w) siblings
turn-bytes sealed d p h w last keys siblings below =
    let u : Numbered = counted w last (bytes_in keys) (suc h) in
    let k : Option Numbered = path_key w (counted w last (bytes_in keys)) h in
    let on : List (Sealed Numbered (List ℕ)) = sealed_key (path_node p h) (path_slot p h) (counted w last (bytes_in keys) (suc h)) (path_key w (counted w last (bytes_in keys)) h) in
    let by : List (Sealed Numbered (List ℕ)) = sealed_key (sibling_node p h) (sibling_slot p h) (counted w last (bytes_in keys) (suc h)) siblings in
    ap (bytes_of sealed d) (sealings-append on by)
    ∙ bytes_of-append sealed d (sealings on) (sealings by)
    ∙ join _ _ _ _
    (key-bytes sealed d (path_node p h) (path_slot p h) u k
    ∙ same_bytes sealed _ _ _ _ _ _ _ _ (path_number d p h below) (path_slot_lem d p h below) (counted-drawn w last keys h) (path_drawn w last keys h))
    (key-bytes sealed d (sibling_node p h) (sibling_slot p h) u siblings
    ∙ same_bytes sealed _ _ _ _ _ _ _ _ (sibling_number d p h below) (sibling_slot_lem d p h below) (counted-drawn w last keys h) refl)

-- The first h turns: what is written of the place, and then what the turns write.
climbed-bytes : (sealed : Cipher) (d p next : ℕ) (w : Option (List ℕ)) (last : ℕ) (keys : List Key) (nodes : List (Option NodeKey)) (h : ℕ) → h ≤ d
    → bytes_of sealed d (climbed next p w (counted w last (bytes_in keys)) (sibling_in nodes) h)
    ≡ bytes_of sealed d (first_record next p w (counted w last (bytes_in keys)) ∷ []) ++ turns_bytes sealed (2 ^ d + p) (first_of w) last keys nodes h
unfolding climbed turns_bytes
climbed-bytes sealed d p next w last keys nodes zero l = sym (append-nil (bytes_of sealed d (first_record next p w (counted w last (bytes_in keys)) ∷ [])))
climbed-bytes sealed d p next w last keys nodes (suc h) l =
    bytes_of-append sealed d (climbed next p w (counted w last (bytes_in keys)) (sibling_in nodes) h) (turn_records p w (counted w last (bytes_in keys)) (sibling_in nodes h) h)
    ∙ join _ _ _ _ (climbed-bytes sealed d p next w last keys nodes h (omega arith)) (turn-bytes sealed d p h w last keys (sibling_in nodes h) (omega arith))
    ∙ append_assoc (bytes_of sealed d (first_record next p w (counted w last (bytes_in keys)) ∷ [])) (turns_bytes sealed (2 ^ d + p) (first_of w) last keys nodes h) (turn_bytes sealed ((2 ^ d + p) / 2 ^ h) last keys (h + first_of w) (sibling_in nodes h))

-- The records of the change of place p in a tree that has those siblings' keys.
pub change-bytes : (sealed : Cipher) (d p next : ℕ) (w : Option (List ℕ)) (last : ℕ) (keys : List Key) (nodes : List (Option NodeKey)) (t : Tree Numbered (List ℕ)) → p < 2 ^ d
    → ((h : ℕ) → h < d → sibling_in nodes h ≡ sibling_key d p h t)
    → bytes_of sealed d (records next (root d) (single w (counted w last (bytes_in keys)) d p) t)
    ≡ bytes_of sealed d (first_record next p w (counted w last (bytes_in keys)) ∷ []) ++ turns_bytes sealed (2 ^ d + p) (first_of w) last keys nodes d
change-bytes sealed d p next w last keys nodes t l b =
    ap (λ (i : ℕ). bytes_of sealed d (records next (record { level = d; index = i }) (single w (counted w last (bytes_in keys)) d p) t)) (sym (div-eq_of_lt l))
    ∙ ap (bytes_of sealed d) (climbs Numbered (List ℕ) next w (counted w last (bytes_in keys)) d p t
    ∙ sym (climbed-same next p w (counted w last (bytes_in keys)) (sibling_in nodes) (λ h. sibling_key d p h t) d b))
    ∙ climbed-bytes sealed d p next w last keys nodes d (omega arith)

place-number : (d p : ℕ) → 2 ^ (d - 0) + p / 2 ^ 0 ≡ 2 ^ d + p
place-number d p =
    let a : d - 0 ≡ d = omega arith in
    rw a (omega arith)

-- What is written of the place itself.
first_put : (sealed : Cipher) (d p next last : ℕ) (keys : List Key) (content : List ℕ)
    → bytes_of sealed d (first_record next p (Some content) (counted (Some content) last (bytes_in keys)) ∷ []) ≡ encode (coded_content sealed (2 ^ d + p) 0 (drawn_key last keys 0) content)
unfolding bytes_of
first_put sealed d p next last keys content =
    append-nil (encode (coded sealed d (first_record next p (Some content) (counted (Some content) last (bytes_in keys)))))
    ∙ ap (λ n. encode (coded_content sealed n 0 (drawn_key last keys 0) content)) (place-number d p)

first_out : (sealed : Cipher) (d p next last : ℕ) (keys : List Key)
    → bytes_of sealed d (first_record {C = List ℕ} next p None (counted {C = List ℕ} None last (bytes_in keys)) ∷ []) ≡ encode (Format.out (2 ^ d + p) next)
unfolding bytes_of
first_out sealed d p next last keys =
    append-nil (encode (coded sealed d (first_record {C = List ℕ} next p None (counted {C = List ℕ} None last (bytes_in keys)))))
    ∙ ap (λ n. encode (Format.out n next)) (place-number d p)

-- The whole of a change: of a put, and of a taking out.
module _ (sealed : Cipher) (d p node last : ℕ) (keys : List Key) (nodes : List (Option NodeKey)) (t : Tree Numbered (List ℕ)) (inside : p < 2 ^ d) (is : node ≡ 2 ^ d + p)
    (siblings : (h : ℕ) → h < d → sibling_in nodes h ≡ sibling_key d p h t) where
  put_bytes : (content : List ℕ)
      → encode (coded_content sealed node 0 (drawn_key last keys 0) content) ++ turns_bytes sealed node 1 last keys nodes d
      ≡ bytes_of sealed d (records (last + 1) (root d) (single (Some content) (counted (Some content) last (bytes_in keys)) d p) t)
  put_bytes content =
      ap (λ n. encode (coded_content sealed n 0 (drawn_key last keys 0) content) ++ turns_bytes sealed n 1 last keys nodes d) is
      ∙ sym (change-bytes sealed d p (last + 1) (Some content) last keys nodes t inside siblings
      ∙ ap (λ (x : List ℕ). x ++ turns_bytes sealed (2 ^ d + p) 1 last keys nodes d) (first_put sealed d p (last + 1) last keys content))

  out-bytes : encode (Format.out node (last + 1)) ++ turns_bytes sealed node 0 last keys nodes d
      ≡ bytes_of sealed d (records (last + 1) (root d) (single {C = List ℕ} None (counted {C = List ℕ} None last (bytes_in keys)) d p) t)
  out-bytes =
      ap (λ n. encode (Format.out n (last + 1)) ++ turns_bytes sealed n 0 last keys nodes d) is
      ∙ sym (change-bytes sealed d p (last + 1) None last keys nodes t inside siblings
      ∙ ap (λ (x : List ℕ). x ++ turns_bytes sealed (2 ^ d + p) 0 last keys nodes d) (first_out sealed d p (last + 1) last keys))

  pub whole_bytes : (w : Option (List ℕ))
      → place_bytes sealed node last keys w ++ turns_bytes sealed node (first_of w) last keys nodes d
      ≡ bytes_of sealed d (records (last + 1) (root d) (single w (counted w last (bytes_in keys)) d p) t)
  whole_bytes None = out-bytes
  whole_bytes (Some content) = put_bytes content
