-- The records of a change as they stand on the medium: keys are numbered strings of 32 bytes, contents are strings of bytes.
use Rattle.std.specs.Prelude.{ℕ, ◌+◌, ◌-◌, ◌^◌, List, [], ◌∷◌, ◌++◌, Some, None, Option}
use Rattle.cipher.specs.Sealed.{slot_nonce}
use Rattle.records.specs.Format as Format
use Rattle.records.specs.Format.{head, key_tag, content_tag, encode}
use Rattle.forgetting.specs.Secret.{Node, Key, Content}
use Rattle.forgetting.specs.Change.{Record, sealing, taking, Numbered}

-- A way of sealing: key, nonce, what is marked besides, and the text give the sealed text with its mark.
abbrev pub Cipher : Type 0
Cipher = List ℕ → List ℕ → List ℕ → List ℕ → List ℕ

-- The number of a node in a tree of so many levels.
abbrev pub node_number : (levels : ℕ) → Node → ℕ
node_number levels at = 2 ^ (levels - at.level) + at.index

-- What is marked of a record is its first nine bytes.
abbrev pub coded_key : Cipher → (node slot : ℕ) (u k : Numbered) → Format.Record
coded_key sealed node slot u k =
    Format.key node k.number u.number (sealed u.bytes (slot_nonce slot) (head key_tag node k.number) k.bytes)

abbrev pub coded_content : Cipher → (node slot : ℕ) (u : Numbered) (content : List ℕ) → Format.Record
coded_content sealed node slot u content =
    Format.content node u.number (sealed u.bytes (slot_nonce slot) (head content_tag node u.number) content)

abbrev pub coded : Cipher → (levels : ℕ) → Record Numbered (List ℕ) → Format.Record
coded sealed levels (sealing (Key at slot u k)) = coded_key sealed (node_number levels at) slot u k
coded sealed levels (sealing (Content at slot u c)) = coded_content sealed (node_number levels at) slot u c
coded sealed levels (taking at next) = Format.out (node_number levels at) next

-- The bytes of records, one after another.
unfoldable pub bytes_of : Cipher → (levels : ℕ) → List (Record Numbered (List ℕ)) → List ℕ
bytes_of sealed levels [] = []
bytes_of sealed levels (r ∷ rs) = encode (coded sealed levels r) ++ bytes_of sealed levels rs

-- The bytes of the record of a node's key, as far as it has one.
abbrev pub key_bytes : Cipher → (node slot : ℕ) (u : Numbered) → Option Numbered → List ℕ
key_bytes sealed node slot u None = []
key_bytes sealed node slot u (Some k) = encode (coded_key sealed node slot u k)
