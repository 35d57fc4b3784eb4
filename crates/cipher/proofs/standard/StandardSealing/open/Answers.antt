use Rattle.std.proofs.Common.{◌-◌, length, arith}
use Rattle.sealing.specs.Aead.{longest}
use Rattle.cipher.specs.Parts.{opened-part}
use Rattle.cipher.proofs.standard.StandardSealing.open.Goals as goal

pub returns-clause-value : goal.returns-clause-value
unfolding longest
returns-clause-value c =
    let d = rw c.unwrap.ensures at c.split_last_chunk_mut.ensures.cases in
    let o = rw d.0 at c.open.ensures.value in
    rw d.1 (opened-part c.args.key.now.bytes c.args.nonce.now.0 c.args.marked.now c.args.part.now (length c.args.part.now - 16) (omega arith) (omega arith)
    c.open.result c.unwrap.result.1.now c.open.new.sealed d.1 (omega (arith, c.open.auto.sealed, d.2)) o)
