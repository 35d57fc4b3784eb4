use Rattle.std.proofs.Common.{◌≡◌, ℕ, ◌+◌, ◌<◌, Bool, List, length, get_or, take, Some, None, Option, sym, ap, ◌∙◌, subst, add-one, take_all, take-suc}
use Rattle.ledger.specs.Book.{sees, looked}
use Rattle.ledger.proofs.Books.{looked_more}
use Rattle.ledger.proofs.ledger.see.Goals as goal
use Rattle.ledger.proofs.ledger.see.Goals.{in-Some, in_default}

-- One place more.
one_more : (os : List (Option ℕ)) (seen was : List Bool) (i : ℕ) (o : Option ℕ) → i < length os → get_or os i None ≡ o → was ≡ looked (take i os) seen → sees o was ≡ looked (take (i + 1) os) seen
one_more os seen was i o l e f =
    ap (sees o) f ∙ ap (λ (x : Option ℕ). sees x (looked (take i os) seen)) (sym e) ∙ sym (looked_more (take i os) (get_or os i None) seen)
    ∙ ap (λ (xs : List (Option ℕ)). looked xs seen) (sym (take-suc os i None l)) ∙ ap (λ (n : ℕ). looked (take n os) seen) (sym (add-one i))

pub bounds-seen-put : goal.bounds-seen-put
bounds-seen-put c = subst (λ (n : ℕ). c.in-Some.put < n) (sym c.loop-stands.auto.seen) (c.requires c.loop-stands.stands-index c.in-Some.put c.loop-stands-test.true c.in-Some.is)

pub loop-stands-preserved : goal.loop-stands-preserved
loop-stands-preserved c =
    elim c.match-stands.branch [
      | in-Some w ↦ w.seen-is ∙ one_more c.args.standing.now c.args.seen.now c.loop-stands.seen c.loop-stands.stands-index (Some w.in-Some.put) c.loop-stands-test.true w.in-Some.is c.loop-stands.invariant
      | in_default w ↦ w.seen-is ∙ one_more c.args.standing.now c.args.seen.now c.loop-stands.seen c.loop-stands.stands-index None c.loop-stands-test.true w.in_default.is c.loop-stands.invariant
    ]

pub returns : goal.returns
returns c = c.loop-stands.invariant ∙ ap (λ (xs : List (Option ℕ)). looked xs c.args.seen.now) (take_all c.loop-stands.stands-index c.args.standing.now c.loop-stands-test.false)
