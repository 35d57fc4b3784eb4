-- A change that is prepared and made to last is the change of every tree that the store stands for.
use Rattle.std.proofs.Common.{◌≡◌, ℕ, zero, suc, pred, ◌+◌, ◌-◌, ◌^◌, ◌<◌, ◌≤◌, Bool, true, false, cond, ltb, leb, ◌⊎◌, List, [], ◌∷◌, ◌++◌, length, Some, None, Ok, Err, Option, Result, sym, refl, ap, ◌∙◌, subst, inl, inr, sub-one, arith, length-append}
use Rattle.std.proofs.lemmas.Bool.{leb-true}
use Rattle.sealing.specs.declared.key.Key.{Key}
use Rattle.records.specs.Format.{highest}
use Rattle.record_laws.proofs.Decoding.{decodes_encoded}
use Rattle.tree.specs.declared.answer.Refusal.TheVariants.{NoSuchPlace, FewKeys, NumbersSpent}
use Rattle.forgetting.specs.Tree.{Tree, bare, leaf, node, key_of, to_even}
use Rattle.forgetting.specs.Change.{Edit, edited, records, single, towards, draws, counted, Numbered}
use Rattle.forgetting.specs.History.{root}
use Rattle.change.specs.Coded.{Cipher}
use Rattle.change.specs.Nodes.{bytes_in}
use Rattle.change.specs.Outcome.{is_content, refusal}
use Rattle.index.specs.Noted.{Rows, scanned}
use Rattle.shown.specs.Shown.{Shows, Counts, Marks16, Keeps}
use Rattle.shown.proofs.Keeping.{change_keeps}
use Rattle.shown.proofs.Scanning.{scanned-shows}
use Rattle.devices.specs.Events.{Event, appended, synced, held, changes, Faithful}
use Rattle.devices.proofs.Laws.{same-held, held-written, changes-written, changes-synced, faithful_written, faithful_synced}
use Rattle.descent.specs.Path.{Showing, OfShown, Running}
use Rattle.descent.specs.declared.failure.Failure.{Failure}
use Rattle.descent.specs.declared.failure.Failure.TheVariants.{Refused, Memory, Device, Stopped}
use Rattle.storage.specs.Seats.{State, Breaks, Ends, Halts, Finishes}
use Rattle.storage.specs.Standing.{chip_of, Standing}
use Rattle.storage.specs.Prepares.{change_with, record_bytes, Prepares}
use Rattle.storage.specs.Changes.{new_root, Unchanged, Made, Broken, OfTrees, Changes}

-- The chip holds the root's key.
root-key : (t : Tree Numbered (List ℕ)) (k : Numbered) → key_of t ≡ Some k → chip_of t ≡ k
root-key bare k e = absurd (let z : ◌≡◌ {A = ℕ} 0 1 = cc in omega arith)
root-key (leaf x c) k e = let is : x ≡ k = cc in is
root-key (node x l r) k e = let is : x ≡ k = cc in is

pub showing : (sealed : Cipher) (levels : ℕ) (first : List ℕ) (log : List Event) (rows : Rows) (end : ℕ) (chip : Numbered) (t : Tree Numbered (List ℕ)) → Standing sealed levels first log rows end chip t
    → Showing sealed levels chip.number first log rows chip.bytes t
showing sealed levels first log rows end chip t s =
    record { shows = s.shows; counts = s.counts; top = λ k e. ap (λ (x : Numbered). x.bytes) (s.holds ∙ root-key t k e) }

-- What is not refused.
accepted : (levels place : ℕ) (w : Option (List ℕ)) (given last : ℕ) → refusal levels place w given last ≡ None → (is_content w ≡ true) × (last + draws w levels ≤ highest)
accepted levels place w given last e = go (leb levels 20) (ltb place (2 ^ levels)) (is_content w) (leb (draws w levels) given) (leb (last + draws w levels) highest) refl refl e
  where
    go : (a b c d h : Bool) → c ≡ is_content w → h ≡ leb (last + draws w levels) highest
        → cond a (cond b (cond c (cond d (cond h None (Some NumbersSpent)) (Some FewKeys)) (Some NoSuchPlace)) (Some NoSuchPlace)) (Some NoSuchPlace) ≡ None
        → (is_content w ≡ true) × (last + draws w levels ≤ highest)
    go true true true true true p q e = (sym p, leb-true (last + draws w levels) highest (sym q))
    go true true true true false p q e = absurd (let z : ◌≡◌ {A = ℕ} 0 1 = cc in omega arith)
    go true true true false h p q e = absurd (let z : ◌≡◌ {A = ℕ} 0 1 = cc in omega arith)
    go true true false d h p q e = absurd (let z : ◌≡◌ {A = ℕ} 0 1 = cc in omega arith)
    go true false c d h p q e = absurd (let z : ◌≡◌ {A = ℕ} 0 1 = cc in omega arith)
    go false b c d h p q e = absurd (let z : ◌≡◌ {A = ℕ} 0 1 = cc in omega arith)

-- Keys have 32 bytes.
key-long : (keys : List Key) (j : ℕ) → j < length keys → length (bytes_in keys j) ≡ 32
key-long [] j l = absurd (omega arith)
key-long (k ∷ ks) zero l = k.long
key-long (k ∷ ks) (suc j) l = key-long ks j (omega arith)

-- The last of the keys that are drawn is the root's.
last_key : (levels last number : ℕ) (w : Option (List ℕ)) (keys : List Key) → number ≡ last + draws w levels → ◌≡◌ {A = Numbered} (record { number = number; bytes = bytes_in keys (number - last - 1) }) (new_root levels last w keys)
last_key levels last number None keys e =
    let i : number - last - 1 ≡ pred levels = omega arith ∙ sub-one levels in
    ap (λ n. record { number = n; bytes = bytes_in keys (number - last - 1) }) e ∙ ap (λ i. record { number = last + levels; bytes = bytes_in keys i }) i
last_key levels last number (Some c) keys e =
    let n : number ≡ last + 1 + levels = omega arith in
    let i : number - last - 1 ≡ levels = omega arith in
    ap (λ n. record { number = n; bytes = bytes_in keys (number - last - 1) }) n ∙ ap (λ i. record { number = last + 1 + levels; bytes = bytes_in keys i }) i

-- The changed tree has it at its root.
new-top : (levels last place : ℕ) (w : Option (List ℕ)) (keys : List Key) (t : Tree Numbered (List ℕ)) → 1 ≤ levels → new_root levels last w keys ≡ chip_of (edited (change_with levels place last w keys) t)
new-top zero last place w keys t l = absurd (omega arith)
new-top (suc d) last place w keys t l = go (to_even d place) (counted w last (bytes_in keys) (suc d)) (single w (counted w last (bytes_in keys)) d place)
  where
    go : (b : Bool) (k : Numbered) (e : Edit Numbered (List ℕ)) → k ≡ chip_of (edited (towards b k e) t)
    go true k e = refl
    go false k e = refl

new-number : (levels last : ℕ) (w : Option (List ℕ)) (keys : List Key) → (new_root levels last w keys).number ≡ last + draws w levels
new-number levels last None keys = refl
new-number levels last (Some c) keys = omega arith

-- It is refused, or something went wrong, before anything was written.
pub not_prepared : (X : Type 0) (sealed : Cipher) (levels place : ℕ) (w : Option (List ℕ)) (before after : State) (chip : Numbered) (why : Failure) (written : List ℕ) → before.chip ≡ Some chip → Running why → Unchanged before after
    → OfShown sealed levels before.rows chip.bytes before.log after.log (Prepares sealed levels place chip.number w before.keys (Err why) written) → Changes {X = X} sealed levels place w before (Err why) after
not_prepared X sealed levels place w before after chip (Refused why) written e runs same o = (
  same,
  λ first now t is f s.
      let c : chip ≡ now = cc in
      let P : Numbered → Type 0 = λ k. Showing sealed levels k.number first before.log before.rows k.bytes t in
      let Q : Numbered → Type 0 = λ k. refusal levels place w (length before.keys) k.number ≡ Some why in
      subst Q c (o first chip.number t f (subst P (sym c) (showing sealed levels first before.log before.rows before.end now t s))),
)
not_prepared X sealed levels place w before after chip Memory written e runs same o = same
not_prepared X sealed levels place w before after chip Device written e runs same o = same
not_prepared X sealed levels place w before after chip Stopped written e runs same o = absurd runs

module _ (sealed : Cipher) (marks : Marks16 sealed) (levels place number : ℕ) (w : Option (List ℕ)) (before after : State) (middle : List Event) (chip : Numbered) (bs : List ℕ) (some : 1 ≤ levels) (few : levels ≤ 19)
    (there : place < 2 ^ levels) (is-chip : before.chip ≡ Some chip) (same : changes middle ≡ changes before.log)
    (free : refusal levels place w (length before.keys) chip.number ≡ None) (is_number : number ≡ chip.number + draws w levels) (enough : draws w levels ≤ length before.keys)
    (prepared : OfShown sealed levels before.rows chip.bytes before.log middle (λ t. bs ≡ record_bytes sealed levels place chip.number w before.keys t)) where
  abbrev key : Numbered
  key = record { number = number; bytes = bytes_in before.keys (number - chip.number - 1) }

  abbrev from : State
  from = record { log = middle; rows = before.rows; end = before.end; chip = before.chip; given = before.given; keys = before.keys }

  abbrev tree-after : Tree Numbered (List ℕ) → Tree Numbered (List ℕ)
  tree-after t = edited (change_with levels place chip.number w before.keys) t

  abbrev bytes_of_lem : Tree Numbered (List ℕ) → List ℕ
  bytes_of_lem t = record_bytes sealed levels place chip.number w before.keys t

  is_key : key ≡ new_root levels chip.number w before.keys
  is_key = last_key levels chip.number number w before.keys is_number

  abbrev Stood : (first : List ℕ) → Tree Numbered (List ℕ) → Type 0
  Stood first t = Standing sealed levels first before.log before.rows before.end chip t

  -- The records are those of the tree.
  bytes_are : (first : List ℕ) (t : Tree Numbered (List ℕ)) → Faithful first middle → Stood first t → bs ≡ bytes_of_lem t
  bytes_are first t f s = prepared first chip.number t f (showing sealed levels first before.log before.rows before.end chip t s)

  -- The log of what was changed, if they were to be written, and if they were synced.
  to_be_written : (t : Tree Numbered (List ℕ)) (log : List Event) → bs ≡ bytes_of_lem t → log ≡ appended bs ∷ middle → changes log ≡ appended (bytes_of_lem t) ∷ changes before.log
  to_be_written t log is e =
      ap changes e ∙ changes-written bs middle ∙ ap (λ l. appended bs ∷ l) same ∙ ap (λ b. appended b ∷ changes before.log) is

  and_synced : (t : Tree Numbered (List ℕ)) (log : List Event) → bs ≡ bytes_of_lem t → log ≡ synced ∷ (appended bs ∷ middle) → changes log ≡ synced ∷ (appended (bytes_of_lem t) ∷ changes before.log)
  and_synced t log is e = ap changes e ∙ changes-synced (appended bs ∷ middle) ∙ ap (λ l. synced ∷ l) (to_be_written t (appended bs ∷ middle) is refl)

  written_faithful : (first : List ℕ) (log : List Event) → log ≡ appended bs ∷ middle → Faithful first log → Faithful first middle
  written_faithful first log e f = faithful_written first bs middle (subst (Faithful first) e f)

  synced_faithful : (first : List ℕ) (log : List Event) → log ≡ synced ∷ (appended bs ∷ middle) → Faithful first log → Faithful first middle
  synced_faithful first log e f = written_faithful first (appended bs ∷ middle) refl (faithful_synced first (appended bs ∷ middle) (subst (Faithful first) e f))

  module _ (first : List ℕ) (t : Tree Numbered (List ℕ)) (s : Stood first t) where
    abbrev had : List ℕ
    had = held first before.log

    keeps : Keeps sealed levels had before.rows (records (chip.number + 1) (root levels) (change_with levels place chip.number w before.keys) t) (tree-after t) (chip.number + draws w levels)
    keeps =
        let a = accepted levels place w (length before.keys) chip.number free in
        change_keeps sealed marks levels place chip.number w (bytes_in before.keys) had before.rows t some there a.0 (λ j l. key-long before.keys j (omega arith)) a.1 s.shows s.counts

    now_shown : (rows : Rows) (all : List ℕ) → bs ≡ bytes_of_lem t → rows ≡ scanned levels (length bs) before.end bs before.rows → all ≡ had ++ bytes_of_lem t → Shows sealed levels all rows (tree-after t)
    now_shown rows all is r e =
        let sh = scanned-shows decodes_encoded sealed levels had before.rows (records (chip.number + 1) (root levels) (change_with levels place chip.number w before.keys) t) (tree-after t) (chip.number + draws w levels) (omega arith) keeps in
        let R : rows ≡ scanned levels (length (bytes_of_lem t)) (length had) (bytes_of_lem t) before.rows =
        r ∙ ap (λ b. scanned levels (length b) before.end b before.rows) is ∙ ap (λ n. scanned levels (length (bytes_of_lem t)) n (bytes_of_lem t) before.rows) s.ends in
        let P : List ℕ → Rows → Type 0 = λ b x. Shows sealed levels b x (tree-after t) in
        subst (λ x. P all x) (sym R) (subst (λ b. P b (scanned levels (length (bytes_of_lem t)) (length had) (bytes_of_lem t) before.rows)) (sym e) sh)

    made : Ends levels bs key from after → Faithful first after.log → Made sealed levels place w chip first before after t
    made x f =
        let is = bytes_are first t (synced_faithful first after.log x.lasts.written f) s in
        let all : held first after.log ≡ had ++ bytes_of_lem t = ap (held first) x.lasts.written ∙ held-written first bs middle ∙ ap (λ b. b ++ bs) (same-held first middle before.log same) ∙ ap (λ b. had ++ b) is in
        let C : ℕ → Type 0 = λ n. Counts n (tree-after t) in
        record {
          written = and_synced t after.log is x.lasts.written;
          turned = x.lasts.turned ∙ ap (λ k. record { key = k; after = length (changes after.log) } ∷ before.given) is_key;
          stands = record {
            shows = now_shown after.rows (held first after.log) is x.rows all;
            counts = subst C (sym (new-number levels chip.number w before.keys)) keeps.counts;
            holds = new-top levels chip.number place w before.keys t some;
            ends = x.end ∙ ap (λ n. n + length bs) s.ends ∙ ap (λ b. length had + length b) is ∙ sym (length-append had (bytes_of_lem t)) ∙ sym (ap length all);
          };
        }

    broken : Halts bs key from after → Faithful first after.log → Broken sealed levels place w chip before after t
    broken x f = record { written = go x.breaks }
      where
        turned-new : after.given ≡ record { key = key; after = length (changes after.log) } ∷ before.given → after.given ≡ record { key = new_root levels chip.number w before.keys; after = length (changes after.log) } ∷ before.given
        turned-new g = g ∙ ap (λ k. record { key = k; after = length (changes after.log) } ∷ before.given) is_key

        go : Breaks bs key middle before.given after.log after.given
            → ((changes after.log ≡ appended (bytes_of_lem t) ∷ changes before.log) × (after.given ≡ before.given))
            ⊎ ((changes after.log ≡ synced ∷ (appended (bytes_of_lem t) ∷ changes before.log))
            × ((after.given ≡ before.given) ⊎ (after.given ≡ record { key = new_root levels chip.number w before.keys; after = length (changes after.log) } ∷ before.given)))
        go (inl (l, g)) = inl (to_be_written t after.log (bytes_are first t (written_faithful first after.log l f) s) l, g)
        go (inr (inl (l, g))) = inr (and_synced t after.log (bytes_are first t (synced_faithful first after.log l f) s) l, inl g)
        go (inr (inr x)) = inr (and_synced t after.log (bytes_are first t (synced_faithful first after.log x.written f) s) x.written, inr (turned-new x.turned))

  -- Of the tree that the store stood for, by whichever name it is called.
  of_trees : (P : List ℕ → Numbered → Tree Numbered (List ℕ) → Type 0) → ((first : List ℕ) (t : Tree Numbered (List ℕ)) → Faithful first after.log → Stood first t → P first chip t)
      → OfTrees sealed levels before after P
  of_trees P known first now t e f s =
      let c : chip ≡ now = cc in
      let S : Numbered → Type 0 = λ k. Standing sealed levels first before.log before.rows before.end k t in
      subst (λ k. P first k t) c (known first t f (subst S (sym c) s))

  pub outcome : (X : Type 0) (r : Result X Failure) → Finishes levels bs key from r after → Changes sealed levels place w before r after
  outcome X (Ok x) e = (
    (λ now is.
        let c : chip ≡ now = cc in
        subst (λ (k : Numbered). (refusal levels place w (length before.keys) k.number ≡ None) × (after.chip ≡ Some (new_root levels k.number w before.keys))) c (free, e.chip ∙ ap Some is_key)),
    e.wiped,
    of_trees (λ first now t. Made sealed levels place w now first before after t) (λ first t f s. made first t s e f),
  )
  outcome X (Err (Refused why)) e = absurd e
  outcome X (Err Memory) e = absurd e
  outcome X (Err Device) e =
      record {
        log = ap (λ (x : State). changes x.log) e ∙ same;
        rows = ap (λ (x : State). x.rows) e;
        end = ap (λ (x : State). x.end) e;
        chip = ap (λ (x : State). x.chip) e;
        given = ap (λ (x : State). x.given) e;
        keys = ap (λ (x : State). x.keys) e;
      }
  outcome X (Err Stopped) e =
      (e.chip, inr (e.wiped, e.rows, e.end, of_trees (λ first now t. Broken sealed levels place w now before after t) (λ first t f s. broken first t s e f)))
