-- Scanning, one record after another.
use Rattle.std.proofs.Common.{◌≡◌, ℕ, zero, suc, ◌+◌, ◌-◌, ◌^◌, ◌<◌, ◌≤◌, Bool, true, false, cond, ◌&&◌, eqb, ltb, leb, List, [], ◌∷◌, ◌++◌, length, get_or, take, drop, Ok, Err, Result, sym, refl, ap, ◌∙◌, subst, arith, Bor}
use Rattle.std.proofs.lemmas.List.{length-take-le, length-drop, length-append}
use Rattle.std.proofs.lemmas.Bool.{cond_both, ltb-false, leb-true, le-leb, and_parts}
use Rattle.records.specs.Format.{Record, key, content, out, encode}
use Rattle.records.specs.Decode.{Decoded, one, ends, other, number2, number4, decoded, is_place, is_number, key_at, content_at, out_at, by_tag}
use Rattle.record_laws.specs.Laws.{DecodesEncoded}
use Rattle.records.specs.Values.{decoded_of, decoded_up_to20}
use Rattle.records.specs.declared.«record».Record.{Record as Rec}
use Rattle.records.specs.declared.«record».Undecoded.{Undecoded}
use Rattle.records.specs.declared.«record».Undecoded.TheVariants.{Ends, Other}
use Rattle.index.specs.Noted.{Rows, noted, note_all, encode_all, if_one, scanned, Short, AllProper}

-- Trees of at most 20 levels.
pub up_to_20 : (levels : ℕ) (bs : List ℕ) → levels ≤ 19 → decoded_up_to20 levels bs ≡ decoded levels bs
up_to_20 levels bs h = let e : leb levels 20 ≡ true = le-leb levels 20 (omega arith) in rw e

-- What is left after a record is shorter, and what the record has sealed is not too long.
abbrev Came : List ℕ → Decoded → Type 0
Came bs (one r rest) = (length rest < length bs) × Short r
Came bs ends = Unit {0}
Came bs other = Unit {0}

module _ (levels : ℕ) (bs : List ℕ) where
  came_if : (b : Bool) (x y : Decoded) → (b ≡ true → Came bs x) → (b ≡ false → Came bs y) → Came bs (cond b x y)
  came_if b x y p q = cond_both b x y (Came bs) p q

  key_came : Came bs (key_at levels bs)
  key_came =
      let it = one (key (number4 bs 1) (number4 bs 5) (number4 bs 9) (take 48 (drop 13 bs))) (drop 61 bs) in
      let good = (leb 2 (number4 bs 1) && ltb (number4 bs 1) (2 ^ (levels + 1))) && (leb 1 (number4 bs 5) && (ltb (number4 bs 5) (number4 bs 9) && leb (number4 bs 9) 4294967294)) in
      came_if (ltb (length bs) 61) ends (cond good it other) (λ _. tt) (λ l.
      let h : 61 ≤ length bs = ltb-false (length bs) 61 l in
      came_if good it other (λ p. (simp length-drop (omega arith), tt)) (λ _. tt))

  content_came : Came bs (content_at levels bs)
  content_came =
      let k = number2 bs 9 in
      let s = take (k + 16) (drop 11 bs) in
      let it = one (content (number4 bs 1) (number4 bs 5) s) (drop (27 + k) bs) in
      let place = is_place levels (number4 bs 1) && is_number (number4 bs 5) in
      let fits = leb 1 k && leb k 4096 in
      let whole = cond (ltb (length bs) (27 + k)) ends it in
      came_if (ltb (length bs) 11) ends (cond (place && fits) whole other) (λ _. tt) (λ l.
      came_if (place && fits) whole other (λ p. came_if (ltb (length bs) (27 + k)) ends it (λ _. tt) (λ g.
      let h : 27 + k ≤ length bs = ltb-false (length bs) (27 + k) g in
      let ls : length s ≡ k + 16 = length-take-le (k + 16) (drop 11 bs) (simp length-drop (omega arith)) in
      let w = and_parts place fits p in
      let m : k ≤ 4096 = leb-true k 4096 (and_parts (leb 1 k) (leb k 4096) w.1).1 in
      (simp length-drop (omega arith), omega arith))) (λ _. tt))

  out_came : Came bs (out_at levels bs)
  out_came =
      let it = one (out (number4 bs 1) (number4 bs 5)) (drop 9 bs) in
      let good = is_place levels (number4 bs 1) && is_number (number4 bs 5) in
      came_if (ltb (length bs) 9) ends (cond good it other) (λ _. tt) (λ l.
      let h : 9 ≤ length bs = ltb-false (length bs) 9 l in
      came_if good it other (λ p. (simp length-drop (omega arith), tt)) (λ _. tt))

  came : Came bs (decoded levels bs)
  unfolding decoded
  came =
      let tag = get_or bs 0 0 in
      let outs = cond (eqb tag 69) (out_at levels bs) other in
      let contents = cond (eqb tag 67) (content_at levels bs) outs in
      came_if (eqb (length bs) 0) ends (by_tag levels bs) (λ _. tt) (λ _.
      came_if (eqb tag 75) (key_at levels bs) contents (λ e. key_came) (λ _.
      came_if (eqb tag 67) (content_at levels bs) outs (λ e. content_came) (λ _.
      came_if (eqb tag 69) (out_at levels bs) other (λ e. out_came) (λ _. tt))))

  pub shorter : (r : Record) (rest : List ℕ) → decoded levels bs ≡ one r rest → (length rest < length bs) × Short r
  shorter r rest e = subst (Came bs) e came

-- No turn is taken where there are no bytes.
scanned_none : (levels g at : ℕ) (bs : List ℕ) (rows : Rows) → length bs ≡ 0 → scanned levels (suc g) at bs rows ≡ rows
unfolding scanned
scanned_none levels g at bs rows z = go (decoded levels bs) refl
  where
    go : (d : Decoded) → decoded levels bs ≡ d → if_one d (λ r rest. scanned levels g (at + (length bs - length rest)) rest (noted levels at r rows)) rows ≡ rows
    go (one r rest) e = absurd (let s = (shorter levels bs r rest e).0 in omega arith)
    go ends e = refl
    go other e = refl

-- Two ways on from what was decoded agree where they agree on each record.
if_one_lem : (d : Decoded) (f g : Record → List ℕ → Rows) (rows : Rows) → ((r : Record) (rest : List ℕ) → d ≡ one r rest → f r rest ≡ g r rest) → if_one d f rows ≡ if_one d g rows
if_one_lem (one r rest) f g rows same = same r rest refl
if_one_lem ends f g rows same = refl
if_one_lem other f g rows same = refl

-- More turns than bytes change nothing.
pub enough : (levels f g at : ℕ) (bs : List ℕ) (rows : Rows) → length bs ≤ f → length bs ≤ g → scanned levels f at bs rows ≡ scanned levels g at bs rows
unfolding scanned
enough levels zero zero at bs rows a b = refl
enough levels zero (suc g) at bs rows a b = sym (scanned_none levels g at bs rows (omega arith))
enough levels (suc f) zero at bs rows a b = scanned_none levels f at bs rows (omega arith)
enough levels (suc f) (suc g) at bs rows a b =
    if_one_lem (decoded levels bs) (λ r rest. scanned levels f (at + (length bs - length rest)) rest (noted levels at r rows))
    (λ r rest. scanned levels g (at + (length bs - length rest)) rest (noted levels at r rows)) rows
    (λ r rest e.
    let s = (shorter levels bs r rest e).0 in
    enough levels f g (at + (length bs - length rest)) rest (noted levels at r rows) (omega arith) (omega arith))

-- One record more, and none.
one_more : (levels n at : ℕ) (bs : List ℕ) (rows : Rows) (r : Record) (rest : List ℕ) → decoded levels bs ≡ one r rest
    → scanned levels (suc n) at bs rows ≡ scanned levels n (at + (length bs - length rest)) rest (noted levels at r rows)
unfolding scanned
one_more levels n at bs rows r rest e = rw e

pub scanned-one : (levels at : ℕ) (bs : List ℕ) (rows : Rows) (r : Record) (rest : List ℕ) → decoded levels bs ≡ one r rest
    → scanned levels (length bs) at bs rows ≡ scanned levels (length rest) (at + (length bs - length rest)) rest (noted levels at r rows)
scanned-one levels at bs rows r rest e =
    let s = (shorter levels bs r rest e).0 in
    enough levels (length bs) (suc (length bs)) at bs rows (omega arith) (omega arith)
    ∙ one_more levels (length bs) at bs rows r rest e
    ∙ enough levels (length bs) (length rest) (at + (length bs - length rest)) rest (noted levels at r rows) (omega arith) (omega arith)

-- What is left after a record gives what the whole gives.
pub scanned_again : (levels at : ℕ) (bs : List ℕ) (rows rows' whole : Rows) (r : Record) (rest : List ℕ) → decoded levels bs ≡ one r rest → rows' ≡ noted levels at r rows
    → scanned levels (length bs) at bs rows ≡ whole → scanned levels (length rest) (at + (length bs - length rest)) rest rows' ≡ whole
scanned_again levels at bs rows rows' whole r rest e n w =
    ap (scanned levels (length rest) (at + (length bs - length rest)) rest) n ∙ sym (scanned-one levels at bs rows r rest e) ∙ w

pub scanned-end : (levels at : ℕ) (bs : List ℕ) (rows : Rows) → ((r : Record) (rest : List ℕ) → decoded levels bs ≡ one r rest → ⊥) → scanned levels (length bs) at bs rows ≡ rows
unfolding scanned
scanned-end levels at bs rows never =
    enough levels (length bs) (suc (length bs)) at bs rows (omega arith) (omega arith)
    ∙ go (decoded levels bs) never
  where
    go : (d : Decoded) → ((r : Record) (rest : List ℕ) → d ≡ one r rest → ⊥) → if_one d (λ r rest. scanned levels (length bs) (at + (length bs - length rest)) rest (noted levels at r rows)) rows ≡ rows
    go (one r rest) n = absurd (n r rest refl)
    go ends n = refl
    go other n = refl

-- Scanning what records are encoded to notes those records.
pub scanned-all : DecodesEncoded → (levels most at : ℕ) (rs : List Record) (rows : Rows) → levels ≤ 20 → AllProper levels rs → length (encode_all rs) ≤ most
    → scanned levels most at (encode_all rs) rows ≡ note_all levels at rs rows
unfolding encode_all note_all scanned
scanned-all decodes levels most at [] rows h p l = enough levels most 0 at [] rows (omega arith) (omega arith)
scanned-all decodes levels most at (r ∷ rs) rows h p l =
    let e = decodes levels r (encode_all rs) h p.0 in
    let bs = encode r ++ encode_all rs in
    let n : length bs ≡ length (encode r) + length (encode_all rs) = length-append (encode r) (encode_all rs) in
    let x : length bs - length (encode_all rs) ≡ length (encode r) = omega arith in
    enough levels most (length bs) at bs rows l (omega arith)
    ∙ scanned-one levels at bs rows r (encode_all rs) e
    ∙ ap (λ z. scanned levels (length (encode_all rs)) (at + z) (encode_all rs) (noted levels at r rows)) x
    ∙ scanned-all decodes levels (length (encode_all rs)) (at + length (encode r)) rs (noted levels at r rows) h p.1 (omega arith)

-- What the code decoded: a record and the rest, or no record.
module _ (levels : ℕ) (bs : List ℕ) (few : levels ≤ 19) where
  pub decoded-one : (r : Record) (rest : List ℕ) → one r rest ≡ decoded_up_to20 levels bs → decoded levels bs ≡ one r rest
  decoded-one r rest e = sym (up_to_20 levels bs few) ∙ sym e

  pub decoded_shorter : (r : Record) (rest : List ℕ) → one r rest ≡ decoded_up_to20 levels bs → (length rest < length bs) × Short r
  decoded_shorter r rest e = shorter levels bs r rest (decoded-one r rest e)

  pub decoded_none : (d : Result (Rec × Bor (List ℕ)) Undecoded) → ((found : Rec × Bor (List ℕ)) → d ≡ Ok found → ⊥) → decoded_of d ≡ decoded_up_to20 levels bs → (r : Record) (rest : List ℕ) → decoded levels bs ≡ one r rest → ⊥
  decoded_none (Ok found) n e r rest f = n found refl
  decoded_none (Err Ends) n e r rest f = let u = up_to_20 levels bs few in cc
  decoded_none (Err Other) n e r rest f = let u = up_to_20 levels bs few in cc
