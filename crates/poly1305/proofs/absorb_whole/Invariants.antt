use Rattle.std.proofs.Common.{◌≡◌, ◌%◌}
use Rattle.poly1305.specs.Poly1305.{prime, absorb_all}
use Rattle.poly1305.specs.Limbs.{value}
use Rattle.poly1305.proofs.absorb_whole.Given as goal

abbrev pub invariant-loop-block : goal.invariant-loop-block
invariant-loop-block l = value l.acc % prime ≡ absorb_all (value l.r) (value l.initial.acc % prime) l.block-index l.part
