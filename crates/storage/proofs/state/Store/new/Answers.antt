-- An empty medium shows the empty tree.
use Rattle.std.proofs.Common.{ℕ, List, length, sym, refl, ap, subst}
use Rattle.forgetting.specs.Tree.{bare}
use Rattle.forgetting.specs.Change.{Numbered}
use Rattle.index.specs.Noted.{rows_of}
use Rattle.shown.specs.Shown.{Shows, Counts}
use Rattle.shown.proofs.Reading.{empty_shows}
use Rattle.storage.proofs.state.Store.new.Goals as goal

pub returns : goal.returns
returns g c = (
  refl,
  refl,
  λ first e h.
      let x = empty_shows g.S.Sealing.sealed c.args.levels (rows_of c.in_ok-index.index) c.in_ok-index.ensures.0 in
      let P : List ℕ → Type 0 = λ b. Shows g.S.Sealing.sealed c.args.levels b (rows_of c.in_ok-index.index) bare in
      let Q : ℕ → Type 0 = λ n. Counts n bare in
      record { shows = subst P (sym e) x.0; counts = subst Q (sym (ap (λ (k : Numbered). k.number) h)) x.1; holds = h; ends = sym (ap length e) },
)
