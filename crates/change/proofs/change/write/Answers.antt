use Rattle.std.proofs.Common.{vec_items, sym}
use Rattle.change.proofs.Extending.{extends_failed, extends_then, kept_failed}
use Rattle.change.proofs.change.write.Goals as goal

pub returns-in_err-push_place : goal.returns-in_err-push_place
returns-in_err-push_place g c = extends_failed c.from_residual.result _ _ _ c.from_residual.ensures.0 (kept_failed _ _ c.in_err-push_place.ensures)

pub returns : goal.returns
returns g c = rw (sym c.first.ensures) (extends_then c.climb.result _ _ _ (vec_items c.push_place.new.out) _ c.in_ok-push_place.ensures c.climb.ensures)
