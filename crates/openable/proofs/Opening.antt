-- What opens from records on the medium is what opens of all that was written, and the other way round.
use Rattle.std.proofs.Common.{◌≡◌, ℕ, List, [], ◌∷◌, ◌++◌, map, length, take, drop, replicate, sym, refl, ap, ◌∙◌, subst, arith}
use mathlib.Core.List.Memᴰ
use mathlib.Core.List.{Memᴰ}
use Rattle.std.proofs.lemmas.List.{take_at, drop_at, length-append}
use Rattle.cipher.specs.Sealed.{transparent, slot_nonce}
use Rattle.records.specs.Format as Format
use Rattle.records.specs.Format.{head, key_tag, content_tag}
use Rattle.forgetting.specs.Secret as Secret
use Rattle.forgetting.specs.Secret.{Node, Sealed, Key, Content, under, HasKey, Opens}
use Rattle.forgetting.specs.Change.{sealing, Numbered}
use Rattle.forgetting.specs.Lawful.{Apart}
use Rattle.forgetting.proofs.Members.{Within, in_none, in_cons}
use Rattle.change.specs.Coded.{Cipher, node_number, coded}
use Rattle.runs.specs.Moments.{start, chip_key, run, handed, Allowed}
use Rattle.runs.proofs.Running.{rule}
use Rattle.runs.proofs.Drawn.{keys-drawn, chip-drawn}
use Rattle.openable.specs.Opening.{HasBytes, had_it, opened, OpensBytes, by, key_strings, on_medium}
use Rattle.openable.specs.OnBytes.{RecordsOpen, RecordsOpenNoMore, Acts, StoodOpens, Faithful, NewBytes, NothingElse, IsNumber, TransparentFaithful, RuleOnBytes}

abbrev bytes_of : Numbered → List ℕ
bytes_of k = k.bytes

-- FROM WHAT WAS WRITTEN TO THE MEDIUM.
module _ (sealed : Cipher) (levels : ℕ) (had : List Numbered) (ws : List (Sealed Numbered (List ℕ))) (long : (at : Node) (s : ℕ) (u k : Numbered) → Memᴰ (Key at s u k) ws → length k.bytes ≡ 32) where
  abbrev stands : Sealed Numbered (List ℕ) → Format.Record
  stands w = coded sealed levels (sealing w)

  has_bytes : (k : Numbered) → HasKey had ws k → HasBytes sealed (key_strings had) (on_medium sealed levels ws) k.bytes
  has_bytes k (Secret.had_it m) = had_it (Memᴰ.map bytes_of m)
  has_bytes k (Secret.opened at s u h m) =
      opened (node_number levels at) k.number u.number s u.bytes (sealed u.bytes (slot_nonce s) (head key_tag (node_number levels at) k.number) k.bytes) (has_bytes u h)
      (Memᴰ.map stands m) refl (long at s u k m)

  opens-bytes : (c : List ℕ) → Opens had ws c → OpensBytes sealed (key_strings had) (on_medium sealed levels ws) c
  opens-bytes c (Secret.by at s u h m) =
      by (node_number levels at) u.number s u.bytes (sealed u.bytes (slot_nonce s) (head content_tag (node_number levels at) u.number) c) (has_bytes u h) (Memᴰ.map stands m) refl

-- KEYS APART AS BYTES: the bytes tell the key.
bytes_tell : (ks : List Numbered) → Apart (key_strings ks) → (j k : Numbered) → Memᴰ j ks → Memᴰ k ks → j.bytes ≡ k.bytes → j ≡ k
bytes_tell [] a j k m n e = in_none m
bytes_tell (x ∷ ks) a j k m n e =
    in_cons m
    (λ p. in_cons n (λ q. p ∙ sym q) (λ q. absurd (a.0 (Memᴰ.cast (ap bytes_of (sym p) ∙ e) (Memᴰ.map bytes_of q)))))
    (λ p. in_cons n (λ q. absurd (a.0 (Memᴰ.cast (ap bytes_of (sym q) ∙ sym e) (Memᴰ.map bytes_of p)))) (λ q. bytes_tell ks a.1 j k p q e))

apart-keys : (ks : List Numbered) → Apart (key_strings ks) → Apart ks
apart-keys [] a = tt
apart-keys (k ∷ ks) a = ((λ m. a.0 (Memᴰ.map bytes_of m)), apart-keys ks a.1)

-- A record of a key is none of a content, and each has one part.
key-part : {a b c d e f : ℕ} {p q : List ℕ} → Format.key a b c p ≡ Format.key d e f q → p ≡ q
key-part e = cc

content-part : {a b d e : ℕ} {p q : List ℕ} → Format.content a b p ≡ Format.content d e q → p ≡ q
content-part e = cc

key_no_content : {a b c d e : ℕ} {p q : List ℕ} → Format.key a b c p ≡ Format.content d e q → ⊥
key_no_content {a} {b} {c} {d} {e} {p} {q} x = let f : ◌≡◌ {A = ℕ} 0 1 = cc in omega arith

-- AND BACK, where the sealing is faithful for the keys ks.
module _ (sealed : Cipher) (levels : ℕ) (had : List Numbered) (ws : List (Sealed Numbered (List ℕ))) (ks : List Numbered) (apart : Apart (key_strings ks)) (faithful : Faithful (key_strings ks) sealed)
    (had_in : Within had ks) (over-in : (w : Sealed Numbered (List ℕ)) → Memᴰ w ws → Memᴰ (under w) ks) (inside-in : (at : Node) (s : ℕ) (u k : Numbered) → Memᴰ (Key at s u k) ws → Memᴰ k ks) where
  -- Somebody has the key of these bytes.
  record Found (k : List ℕ) : Type 0 where
    pub key : Numbered
    pub same : key.bytes ≡ k
    pub among : Memᴰ key ks
    pub has : HasKey had ws key

  -- What is under u as bytes, and really under v: u is v, and the text is the same.
  told : (u k : List ℕ) (f : Found u) (v : Numbered) (x nonce other marked besides : List ℕ) → Memᴰ v ks → sealed v.bytes nonce marked x ≡ sealed u other besides k → HasKey had ws v × (x ≡ k)
  told u k f v x nonce other marked besides m e =
      let t = faithful v.bytes u nonce other marked besides x k (Memᴰ.map bytes_of m) (Memᴰ.cast (sym f.same) (Memᴰ.map bytes_of f.among)) e in
      (subst (HasKey had ws) (bytes_tell ks apart f.key v f.among m (f.same ∙ sym t.0)) f.has, t.1)

  found : (k : List ℕ) → HasBytes sealed (key_strings had) (on_medium sealed levels ws) k → Found k
  found k (had_it m) = let o = Memᴰ.of_map bytes_of had m in record { key = o.0; same = o.2; among = had_in o.0 o.1; has = Secret.had_it o.1 }
  found k (opened node number above slot u part h m e l) =
      let o = Memᴰ.of_map (λ (w : Sealed Numbered (List ℕ)). coded sealed levels (sealing w)) ws m in go (found u h) o.0 o.1 o.2
    where
      go : Found u → (w : Sealed Numbered (List ℕ)) → Memᴰ w ws → coded sealed levels (sealing w) ≡ Format.key node number above part → Found k
      go f (Key at s v j) i q =
          let t = told u k f v j.bytes (slot_nonce s) (slot_nonce slot) (head key_tag (node_number levels at) j.number) (head key_tag node number) (over-in (Key at s v j) i) (key-part q ∙ e) in
          record { key = j; same = t.1; among = inside-in at s v j i; has = Secret.opened at s v t.0 i }
      go f (Content at s v c) i q = absurd (key_no_content (sym q))

  bytes_open : (c : List ℕ) → OpensBytes sealed (key_strings had) (on_medium sealed levels ws) c → Opens had ws c
  bytes_open c (by node number slot u part h m e) =
      let o = Memᴰ.of_map (λ (w : Sealed Numbered (List ℕ)). coded sealed levels (sealing w)) ws m in go o.0 o.1 o.2
    where
      go : (w : Sealed Numbered (List ℕ)) → Memᴰ w ws → coded sealed levels (sealing w) ≡ Format.content node number part → Opens had ws c
      go (Key at s v j) i q = absurd (key_no_content q)
      go (Content at s v x) i q =
          let t = told u c (found u h) v x (slot_nonce s) (slot_nonce slot) (head content_tag (node_number levels at) v.number) (head content_tag node number) (over-in (Content at s v x) i) (content-part q ∙ e) in
          subst (Opens had ws) t.1 (Secret.by at s v t.0 i)

pub records_open : RecordsOpen
records_open sealed levels had ws long c o = opens-bytes sealed levels had ws long c o

pub records_open_no_more : RecordsOpenNoMore
records_open_no_more sealed levels had ws ks apart faithful had_in over-in inside-in c o = bytes_open sealed levels had ws ks apart faithful had_in over-in inside-in c o

-- OF A RUN.
pub stood_opens : StoodOpens
stood_opens sealed d z acts allowed long rs sub c stood =
    opens-bytes sealed d (map (chip_key z) rs) (run d acts (start z)).written (λ at s u k m. long k ((keys-drawn Numbered (List ℕ) d z acts).1 at s u k m)) c
    ((rule Numbered (List ℕ) d z acts allowed rs sub c).1 stood)

allowed-by : (d : ℕ) (z : Numbered) (acts : Acts) → NewBytes d z acts → Allowed d z acts
allowed-by d z acts n = record { places = n.places; new = apart-keys (z ∷ handed acts) n.new }

pub nothing_else : NothingElse
nothing_else sealed d z acts new faithful rs sub c o =
    (rule Numbered (List ℕ) d z acts (allowed-by d z acts new) rs sub c).0
    (bytes_open sealed d (map (chip_key z) rs) (run d acts (start z)).written (z ∷ handed acts) new.new faithful had_in (λ w m. Memᴰ.tail ((keys-drawn Numbered (List ℕ) d z acts).0 w m))
    (λ at s u k m. Memᴰ.tail ((keys-drawn Numbered (List ℕ) d z acts).1 at s u k m)) c o)
  where
    had_in : Within (map (chip_key z) rs) (z ∷ handed acts)
    had_in k m = let q = Memᴰ.of_map (chip_key z) rs m in Memᴰ.cast (sym q.2) (chip-drawn d z acts q.0 (sub q.0 q.1))

-- TRANSPARENT SEALING. The text is followed by the number.
number_of : (k n : List ℕ) → length n ≡ 16 → k ≡ n ++ replicate 16 0 → take 16 k ≡ n
number_of k n l e = ap (take 16) e ∙ take_at n (replicate 16 0) 16 l

ends_same : (x m y n : List ℕ) → length m ≡ 16 → length n ≡ 16 → x ++ m ≡ y ++ n → (m ≡ n) × (x ≡ y)
ends_same x m y n lm ln e =
    let a = length-append x m in
    let b = length-append y n in
    let l : length x ≡ length y = omega (arith, ap length e) in (
      sym (drop_at x m (length y) l) ∙ ap (drop (length y)) e ∙ drop_at y n (length y) refl,
      sym (take_at x m (length y) l) ∙ ap (take (length y)) e ∙ take_at y n (length y) refl,
    )

transparent-is : (key nonce marked text n : List ℕ) → length n ≡ 16 → key ≡ n ++ replicate 16 0 → transparent key nonce marked text ≡ text ++ n
unfolding transparent
transparent-is key nonce marked text n l e = ap (λ x. text ++ x) (number_of key n l e)

pub transparent_faithful : TransparentFaithful
transparent_faithful keys numbers u v nonce other marked besides x y m n e =
    let a = numbers u m in
    let b = numbers v n in
    let s = ends_same x a.0 y b.0 a.1 b.1 (sym (transparent-is u nonce marked x a.0 a.1 a.2) ∙ e ∙ transparent-is v other besides y b.0 b.1 b.2) in
    (a.2 ∙ ap (λ (l : List ℕ). l ++ replicate 16 0) s.0 ∙ sym b.2, s.1)

number-long : (k : List ℕ) → IsNumber k → length k ≡ 32
number-long k (n, l, e) = let a = length-append n (replicate 16 0) in ap length e ∙ omega arith

pub rule_on_bytes : RuleOnBytes
rule_on_bytes d z acts new numbers rs sub c = (
  nothing_else transparent d z acts new (transparent_faithful (key_strings (z ∷ handed acts)) are_numbers) rs sub c,
  stood_opens transparent d z acts (allowed-by d z acts new) (λ k m. number-long k.bytes (numbers k (Memᴰ.tail m))) rs sub c,
)
  where
    are_numbers : (k : List ℕ) → Memᴰ k (key_strings (z ∷ handed acts)) → IsNumber k
    are_numbers k m = let o = Memᴰ.of_map bytes_of (z ∷ handed acts) m in subst IsNumber o.2 (numbers o.0 o.1)
