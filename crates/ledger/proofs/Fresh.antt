-- With keys that are all new, the run of every play is allowed; and there are such keys.
use Rattle.std.proofs.Common.{◌≡◌, ℕ, zero, suc, ◌≤◌, Bool, true, false, ◌⊎◌, List, [], ◌∷◌, ◌++◌, Some, None, Option, sym, ◌∙◌, subst, inl, inr, append-nil, zero-le, arith}
use mathlib.Core.List.{Memᴰ}
use Rattle.forgetting.specs.Tree.{Tree, bare, to_even}
use Rattle.forgetting.specs.Change.{Edit, edited, drawn, Record, records, towards, single}
use Rattle.forgetting.specs.Lawful.{Apart}
use Rattle.forgetting.specs.History.{AtPlaces, root}
use Rattle.forgetting.proofs.Members.{either, in_none, in_cons, in_joined, apart-joined}
use Rattle.forgetting.proofs.Places.{single-at-places}
use Rattle.runs.specs.Moments.{Act, starts, turns, stops, handed, Changes}
use Rattle.runs.specs.Consequences.{writes_of}
use Rattle.ledger.specs.declared.moves.Move.{Move}
use Rattle.ledger.specs.declared.moves.Move.TheVariants.{Put, PutCut, Out, OutCut, Look}
use Rattle.ledger.specs.Play.{some_writes, acts_from, Fresh, FreshAllowed, SomeFresh}

-- What a node above draws: its key, and what is drawn below.
towards-drawn : (b : Bool) (u : List ℕ) (e : Edit (List ℕ) ℕ) (k : List ℕ) → Memᴰ k (drawn (towards b u e)) → (k ≡ u) ⊎ Memᴰ k (drawn e)
towards-drawn true u e k m = in_cons m (λ f. inl f) (λ n. in_joined (drawn e) n (λ x. inr x) (λ x. in_none x))
towards-drawn false u e k m = in_cons m (λ f. inl f) (λ n. inr n)

towards-apart : (b : Bool) (u : List ℕ) (e : Edit (List ℕ) ℕ) → (Memᴰ u (drawn e) → ⊥) → Apart (drawn e) → Apart (drawn (towards b u e))
towards-apart true u e n a = subst (λ (ks : List (List ℕ)). Apart (u ∷ ks)) (sym (append-nil (drawn e))) (n, a)
towards-apart false u e n a = (n, a)

module _ (d : ℕ) (z : List ℕ) (keys : ℕ → ℕ → List ℕ) (f : Fresh z keys) where
  -- One change draws its own keys, no two the same.
  drawn_from : (w : Option ℕ) (j n p : ℕ) (k : List ℕ) → Memᴰ k (drawn (single w (keys j) n p)) → (h : ℕ) × (h ≤ n) × (k ≡ keys j h)
  drawn_from None j zero p k m = in_none m
  drawn_from (Some c) j zero p k m = in_cons m (λ e. (0, zero-le, e)) (λ x. in_none x)
  drawn_from w j (suc n) p k m =
      either (towards-drawn (to_even n p) (keys j (suc n)) (single w (keys j) n p) k m) (λ e. (suc n, omega arith, e))
      (λ x. let y = drawn_from w j n p k x in let l = y.1 in (y.0, omega arith, y.2))

  drawn-apart : (w : Option ℕ) (j n p : ℕ) → Apart (drawn (single w (keys j) n p))
  drawn-apart None j zero p = tt
  drawn-apart (Some c) j zero p = ((λ m. in_none m), tt)
  drawn-apart w j (suc n) p =
      towards-apart (to_even n p) (keys j (suc n)) (single w (keys j) n p)
      (λ m. let y = drawn_from w j n p (keys j (suc n)) m in let l = y.1 in let e = (f.apart j (suc n) j y.0 y.2).1 in omega arith) (drawn-apart w j n p)

  -- A key of change j, or of one after it.
  abbrev From : ℕ → List ℕ → Type 0
  From j k = (i : ℕ) × (j ≤ i) × ((h : ℕ) × (k ≡ keys i h))

  record Fit (j : ℕ) (acts : List (Act (List ℕ) ℕ)) : Type 0 where
    pub from : (k : List ℕ) → Memᴰ k (handed acts) → From j k
    pub apart : Apart (handed acts)
    pub places : Changes (AtPlaces d) acts

  fit_starts : (w : Option ℕ) (j p : ℕ) (acts : List (Act (List ℕ) ℕ)) → Fit (suc j) acts → Fit j (starts 0 (single w (keys j) d p) ∷ acts)
  fit_starts w j p acts g =
      record {
        from = λ k m.
            in_joined (drawn (single w (keys j) d p)) m (λ x. let y = drawn_from w j d p k x in (j, omega arith, (y.0, y.2)))
            (λ x. let y = g.from k x in let l = y.1 in (y.0, omega arith, y.2));
        apart =
            apart-joined (drawn (single w (keys j) d p)) (handed acts)
            (record {
              first = drawn-apart w j d p;
              second = g.apart;
              between = λ k m n.
                  let x = drawn_from w j d p k n in
                  let y = g.from k m in
                  let l = y.1 in
                  let e = (f.apart j x.0 y.0 y.2.0 (sym x.2 ∙ y.2.1)).0 in omega arith;
            });
        places = (single-at-places w (keys j) d p, g.places);
      }

  fit_whole : (rs : List (Record (List ℕ) ℕ)) (j : ℕ) (rest : List (Act (List ℕ) ℕ)) → Fit j rest → Fit j ((writes_of rs ++ turns ∷ []) ++ rest)
  fit_whole [] j rest g = record { from = g.from; apart = g.apart; places = g.places }
  fit_whole (r ∷ rs) j rest g = let x = fit_whole rs j rest g in record { from = x.from; apart = x.apart; places = x.places }

  fit_broken : (n j : ℕ) (rest : List (Act (List ℕ) ℕ)) → Fit j rest → Fit j ((some_writes n ++ stops ∷ []) ++ rest)
  fit_broken zero j rest g = record { from = g.from; apart = g.apart; places = g.places }
  fit_broken (suc n) j rest g = let x = fit_broken n j rest g in record { from = x.from; apart = x.apart; places = x.places }

  fit : (ms : List Move) (j i : ℕ) (t : Tree (List ℕ) ℕ) → Fit j (acts_from d keys j i t ms)
  fit [] j i t = record { from = λ k m. in_none m; apart = tt; places = tt }
  fit (Put p ∷ ms) j i t =
      let e : Edit (List ℕ) ℕ = single (Some i) (keys j) d p in
      let rest : List (Act (List ℕ) ℕ) = acts_from d keys (suc j) (suc i) (edited e t) ms in
      fit_starts (Some i) j p ((writes_of (records 0 (root d) e t) ++ turns ∷ []) ++ rest) (fit_whole (records 0 (root d) e t) (suc j) rest (fit ms (suc j) (suc i) (edited e t)))
  fit (PutCut p n ∷ ms) j i t =
      let rest : List (Act (List ℕ) ℕ) = acts_from d keys (suc j) (suc i) t ms in
      fit_starts (Some i) j p ((some_writes n ++ stops ∷ []) ++ rest) (fit_broken n (suc j) rest (fit ms (suc j) (suc i) t))
  fit (Out p ∷ ms) j i t =
      let e : Edit (List ℕ) ℕ = single None (keys j) d p in
      let rest : List (Act (List ℕ) ℕ) = acts_from d keys (suc j) i (edited e t) ms in
      fit_starts None j p ((writes_of (records 0 (root d) e t) ++ turns ∷ []) ++ rest) (fit_whole (records 0 (root d) e t) (suc j) rest (fit ms (suc j) i (edited e t)))
  fit (OutCut p n ∷ ms) j i t =
      let rest : List (Act (List ℕ) ℕ) = acts_from d keys (suc j) i t ms in
      fit_starts None j p ((some_writes n ++ stops ∷ []) ++ rest) (fit_broken n (suc j) rest (fit ms (suc j) i t))
  fit (Look ∷ ms) j i t = let x = fit ms j i t in record { from = x.from; apart = x.apart; places = x.places }

pub fresh_allowed : FreshAllowed
fresh_allowed d ms z keys f =
    let x = fit d z keys f ms 0 0 bare in
    record { places = x.places; new = ((λ m. let y = x.from z m in f.not_zeros y.0 y.2.0 (sym y.2.1)), x.apart) }

pub some_fresh : SomeFresh
some_fresh = ([], (λ j h. j ∷ h ∷ []), record { apart = λ j h j' h' e. (cc, cc); not_zeros = λ j h e. let n : ◌≡◌ {A = ℕ} 0 1 = cc in omega arith })
