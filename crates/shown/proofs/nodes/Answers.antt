use Rattle.shown.proofs.Descent.{steps_down, goes_through, sibling_is}
use Rattle.shown.proofs.nodes.Goals as goal

pub returns : goal.returns
returns g c =
    record {
      down = steps_down g.row.K.Denot g.row.C.Denot;
      through = goes_through g.row.K.Denot g.row.C.Denot;
      sibling = sibling_is g.row.K.Denot g.row.C.Denot;
    }
