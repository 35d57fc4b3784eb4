use Rattle.std.proofs.Common.{arith}
use Rattle.sealing.specs.Aead.{longest}
use Rattle.sealing.proofs.Laws.{seals}
use Rattle.cipher.specs.Sealed.{standard}
use Rattle.cipher.proofs.standard.StandardSealing.seal.Goals as goal

pub unwrap-mark-requires : goal.unwrap-mark-requires
unfolding longest
unwrap-mark-requires c =
    let d = rw c.unwrap.ensures at c.split_last_chunk_mut.ensures.cases in
    seals c.args.key.now.bytes c.args.nonce.now.0 c.args.marked.now _ c.seal.result c.seal.new.text (omega (arith, d.2)) c.seal.ensures.value

pub returns-clause-value : goal.returns-clause-value
unfolding standard
returns-clause-value c =
    let d = rw c.unwrap.ensures at c.split_last_chunk_mut.ensures.cases in
    let v = rw c.unwrap-mark.ensures at c.seal.ensures.value in
    rw (v.1, c.copy_from_slice.ensures.after, v.2, d.0)
