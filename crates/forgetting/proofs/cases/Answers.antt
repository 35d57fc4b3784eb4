use Rattle.std.proofs.Common.{◌≡◌, sym, refl, subst}
use Rattle.forgetting.specs.Change.{records}
use Rattle.forgetting.specs.Cases.{Row, change_of}
use Rattle.forgetting.specs.History.{root}
use Rattle.forgetting.proofs.Members.{in_cons, in_none}
use Rattle.forgetting.proofs.cases.Goals as goal

-- A row's change writes what the row says.
Writes : Row → Type 0
Writes r = records r.next (root 2) (change_of r) r.before ≡ r.written

pub returns : goal.returns
unfolding Writes
returns c r m =
    in_cons m (λ e. subst Writes (sym e) refl) (λ n. in_cons n (λ e. subst Writes (sym e) refl) (λ o. in_cons o (λ e. subst Writes (sym e) refl) (λ z. in_none z)))
