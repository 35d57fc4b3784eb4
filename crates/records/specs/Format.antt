-- The records of the medium, byte for byte. Numbers have their high byte first.
use Rattle.std.specs.Prelude.{◌≡◌, ℕ, ◌+◌, ◌-◌, ◌/◌, ◌%◌, ◌^◌, ◌<◌, ◌≤◌, List, [], ◌∷◌, ◌++◌, length}

-- A record: the key of a node, sealed under the key of that number of the node above; a place's content, sealed under the key of its node; or that a place was taken out, with the number that the next key will have. sealed: with the 16 bytes of its mark.
pub data Record : Type 0 where
  key : (node number under : ℕ) (sealed : List ℕ) → Record
  content : (node number : ℕ) (sealed : List ℕ) → Record
  out : (node next : ℕ) → Record

-- A number of two, or of four bytes.
unfoldable pub be2 : ℕ → List ℕ
be2 x = (x / 256 % 256) ∷ (x % 256) ∷ []

unfoldable pub be4 : ℕ → List ℕ
be4 x = (x / 16777216 % 256) ∷ (x / 65536 % 256) ∷ (x / 256 % 256) ∷ (x % 256) ∷ []

-- The first nine bytes: what is marked besides.
unfoldable pub head : (tag node number : ℕ) → List ℕ
head tag node number = tag ∷ (be4 node ++ be4 number)

-- The first bytes of the three kinds: K, C and E.
abbrev pub key_tag : ℕ
key_tag = 75

abbrev pub content_tag : ℕ
content_tag = 67

abbrev pub out_tag : ℕ
out_tag = 69

-- The bytes of a mark, those of a key sealed with its mark, and the longest content.
abbrev pub mark_bytes : ℕ
mark_bytes = 16

abbrev pub sealed_key_bytes : ℕ
sealed_key_bytes = 48

abbrev pub longest_content : ℕ
longest_content = 4096

unfoldable pub encode : Record → List ℕ
encode (key node number under sealed) = head key_tag node number ++ (be4 under ++ sealed)
encode (content node number sealed) = head content_tag node number ++ (be2 (length sealed - mark_bytes) ++ sealed)
encode (out node next) = head out_tag node next

-- The highest number that a key can have.
abbrev pub highest : ℕ
highest = 4294967294

-- What a record of a tree of so many levels can have. Node 1 is the root, whose key is in no record; the places are the nodes from 2 ^ levels on.
abbrev pub Proper : (levels : ℕ) → Record → Type 0
Proper levels (key node number under sealed) =
    (2 ≤ node) × (node < 2 ^ (levels + 1)) × (1 ≤ number) × (number < under) × (under ≤ highest) × (length sealed ≡ sealed_key_bytes)
Proper levels (content node number sealed) =
    (2 ^ levels ≤ node) × (node < 2 ^ (levels + 1)) × (1 ≤ number) × (number ≤ highest) × (mark_bytes < length sealed) × (length sealed ≤ longest_content + mark_bytes)
Proper levels (out node next) = (2 ^ levels ≤ node) × (node < 2 ^ (levels + 1)) × (1 ≤ next) × (next ≤ highest)
