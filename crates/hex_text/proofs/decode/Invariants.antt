use Rattle.std.proofs.Common.{◌≡◌, drop, vec_items}
use Rattle.hex_text.specs.Hex.{decode}
use Rattle.hex_text.proofs.Laws.{ahead, paired}
use Rattle.hex_text.proofs.decode.Given as goal

abbrev pub invariant-loop-high : goal.invariant-loop-high
invariant-loop-high l = ahead (vec_items l.bytes) (paired (drop l.high-index l.pairs)) ≡ decode l.text
