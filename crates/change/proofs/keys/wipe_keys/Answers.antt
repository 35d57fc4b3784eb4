use Rattle.std.proofs.Common.{arith}
use Rattle.change.proofs.Reading.{wiped_more}
use Rattle.change.proofs.keys.wipe_keys.Goals as goal

pub loop-key-preserved : goal.loop-key-preserved
loop-key-preserved c = wiped_more c.loop-key.keys c.loop-key.key-index _ (omega arith) c.wipe.ensures c.loop-key.invariant

pub returns : goal.returns
returns c = λ j h. c.loop-key.invariant j (omega arith)
