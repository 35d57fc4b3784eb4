-- WHAT CAN BE OPENED FROM RECORDS AS THEY STAND ON THE MEDIUM, by somebody who has some keys of 32 bytes and opens records with them.
use Rattle.std.specs.Prelude.{◌≡◌, ℕ, List, map, length}
use mathlib.Core.List.{Memᴰ}
use Rattle.cipher.specs.Sealed.{slot_nonce}
use Rattle.records.specs.Format as Format
use Rattle.records.specs.Format.{head, key_tag, content_tag}
use Rattle.forgetting.specs.Secret.{Sealed}
use Rattle.forgetting.specs.Change.{sealing, Numbered}
use Rattle.change.specs.Coded.{Cipher, coded}

-- A key that somebody has opens a record where the sealed part is a text sealed under that key, with the nonce of some slot, and with the record's first nine bytes marked. What a record of a key gives is a key, if it has 32 bytes.
pub data HasBytes (sealed : Cipher) (had : List (List ℕ)) (all : List Format.Record) : List ℕ → Type 0 where
  had_it : {k : List ℕ} → Memᴰ k had → HasBytes sealed had all k
  opened : {k : List ℕ} (node number under slot : ℕ) (u part : List ℕ) → HasBytes sealed had all u → Memᴰ (Format.key node number under part) all →
      part ≡ sealed u (slot_nonce slot) (head key_tag node number) k → length k ≡ 32 → HasBytes sealed had all k

pub data OpensBytes (sealed : Cipher) (had : List (List ℕ)) (all : List Format.Record) : List ℕ → Type 0 where
  by : {c : List ℕ} (node number slot : ℕ) (u part : List ℕ) → HasBytes sealed had all u → Memᴰ (Format.content node number part) all →
      part ≡ sealed u (slot_nonce slot) (head content_tag node number) c → OpensBytes sealed had all c

-- The bytes of keys, and the records of all that was written, in a store of so many levels. (That a place was taken out seals nothing.)
abbrev pub key_strings : List Numbered → List (List ℕ)
key_strings ks = map (λ (k : Numbered). k.bytes) ks

abbrev pub on_medium : Cipher → (levels : ℕ) → List (Sealed Numbered (List ℕ)) → List Format.Record
on_medium sealed levels ws = map (λ (w : Sealed Numbered (List ℕ)). coded sealed levels (sealing w)) ws
