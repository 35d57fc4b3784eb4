-- THE RULE ON BYTES: what can be opened from the records of a run as they stand on the medium.
use Rattle.std.specs.Prelude.{◌≡◌, ℕ, List, ◌∷◌, ◌++◌, map, length, replicate}
use mathlib.Core.List.{Memᴰ}
use Rattle.cipher.specs.Sealed.{transparent}
use Rattle.forgetting.specs.Secret.{Node, Sealed, Key, under, Opens}
use Rattle.forgetting.specs.Tree.{Tree}
use Rattle.forgetting.specs.Change.{Numbered}
use Rattle.forgetting.specs.Lawful.{Apart}
use Rattle.forgetting.specs.History.{AtPlaces}
use Rattle.change.specs.Coded.{Cipher}
use Rattle.runs.specs.Moments.{start, chip_key, Act, run, handed, Changes, Allowed, Stood, AllIn}
use Rattle.openable.specs.Opening.{OpensBytes, key_strings, on_medium}

-- A way of sealing is faithful for some keys where a sealed text tells which of them it is sealed under, and what it says: no two keys, and no two texts, give the same.
abbrev pub Faithful : List (List ℕ) → Cipher → Type 0
Faithful keys sealed =
    (u v nonce other marked besides x y : List ℕ) → Memᴰ u keys → Memᴰ v keys → sealed u nonce marked x ≡ sealed v other besides y → (u ≡ v) × (x ≡ y)

-- WHAT OPENS OF ALL THAT WAS WRITTEN OPENS FROM ITS RECORDS, for every way of sealing, where the sealed keys have 32 bytes.
abbrev pub RecordsOpen : Type 0
RecordsOpen =
    (sealed : Cipher) (levels : ℕ) (had : List Numbered) (ws : List (Sealed Numbered (List ℕ))) →
    ((at : Node) (s : ℕ) (u k : Numbered) → Memᴰ (Key at s u k) ws → length k.bytes ≡ 32) →
    (c : List ℕ) → Opens had ws c → OpensBytes sealed (key_strings had) (on_medium sealed levels ws) c

-- AND NOTHING ELSE DOES, for every way of sealing that is faithful for keys ks, among which are all that somebody has, that seal something and that are sealed, and no two of which have the same bytes.
abbrev pub RecordsOpenNoMore : Type 0
RecordsOpenNoMore =
    (sealed : Cipher) (levels : ℕ) (had : List Numbered) (ws : List (Sealed Numbered (List ℕ))) (ks : List Numbered) → Apart (key_strings ks) → Faithful (key_strings ks) sealed →
    AllIn had ks → ((w : Sealed Numbered (List ℕ)) → Memᴰ w ws → Memᴰ (under w) ks) → ((at : Node) (s : ℕ) (u k : Numbered) → Memᴰ (Key at s u k) ws → Memᴰ k ks) →
    (c : List ℕ) → OpensBytes sealed (key_strings had) (on_medium sealed levels ws) c → Opens had ws c

-- RUNS of the store on bytes.
abbrev pub Acts : Type 0
Acts = List (Act Numbered (List ℕ))

abbrev pub Looks : Type 0
Looks = List (Tree Numbered (List ℕ))

-- c can be opened with the chip's keys at these looks and the records of all that was ever written.
abbrev pub CanOpenBytes : Cipher → (d : ℕ) (z : Numbered) → Acts → Looks → List ℕ → Type 0
CanOpenBytes sealed d z acts rs c = OpensBytes sealed (key_strings (map (chip_key z) rs)) (on_medium sealed d (run d acts (start z)).written) c

-- WHAT STOOD OPENS, for every way of sealing, with keys of 32 bytes.
abbrev pub StoodOpens : Type 0
StoodOpens =
    (sealed : Cipher) (d : ℕ) (z : Numbered) (acts : Acts) → Allowed d z acts → ((k : Numbered) → Memᴰ k (handed acts) → length k.bytes ≡ 32) →
    (rs : Looks) → AllIn rs (run d acts (start z)).looks → (c : List ℕ) → Stood d rs c → CanOpenBytes sealed d z acts rs c

-- A run whose keys are new as strings of bytes, and none is the zeros that the chip has at first.
pub record NewBytes (d : ℕ) (z : Numbered) (acts : Acts) : Type 0 where
  pub places : Changes (AtPlaces d) acts
  pub new : Apart (key_strings (z ∷ handed acts))

-- NOTHING ELSE DOES, for every way of sealing that is faithful for the run's keys.
abbrev pub NothingElse : Type 0
NothingElse =
    (sealed : Cipher) (d : ℕ) (z : Numbered) (acts : Acts) → NewBytes d z acts → Faithful (key_strings (z ∷ handed acts)) sealed →
    (rs : Looks) → AllIn rs (run d acts (start z)).looks → (c : List ℕ) → CanOpenBytes sealed d z acts rs c → Stood d rs c

-- A number of 16 bytes as a key: zeros follow it.
abbrev pub IsNumber : List ℕ → Type 0
IsNumber k = (n : List ℕ) × (length n ≡ 16) × (k ≡ n ++ replicate 16 0)

-- TRANSPARENT SEALING is faithful for such keys. So with it just what stood in some place at one of the looks can be opened from the bytes.
abbrev pub TransparentFaithful : Type 0
TransparentFaithful = (keys : List (List ℕ)) → ((k : List ℕ) → Memᴰ k keys → IsNumber k) → Faithful keys transparent

abbrev pub RuleOnBytes : Type 0
RuleOnBytes =
    (d : ℕ) (z : Numbered) (acts : Acts) → NewBytes d z acts → ((k : Numbered) → Memᴰ k (z ∷ handed acts) → IsNumber k.bytes) →
    (rs : Looks) → AllIn rs (run d acts (start z)).looks → (c : List ℕ) → (CanOpenBytes transparent d z acts rs c → Stood d rs c) × (Stood d rs c → CanOpenBytes transparent d z acts rs c)
