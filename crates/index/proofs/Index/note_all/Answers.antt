use Rattle.std.proofs.Common.{sym, ◌∙◌, arith}
use Rattle.records.specs.Values.{record_of}
use Rattle.index.specs.Noted.{rows_of}
use Rattle.index.proofs.Scanning.{scanned_again, scanned-end, decoded-one, decoded_shorter, decoded_none}
use Rattle.index.proofs.Index.note_all.Goals as goal

pub note-requires : goal.note-requires
note-requires c =
    let s = decoded_shorter c.args.levels c.loop-record.left.now c.requires.0 (record_of c.in-Ok.record) c.in-Ok.rest.now c.in-Ok.ensures.value in
    (c.requires.0, (omega arith, s.1))

pub loop-record-preserved : goal.loop-record-preserved
loop-record-preserved c =
    let e = decoded-one c.args.levels c.loop-record.left.now c.requires.0 (record_of c.in-Ok.record) c.in-Ok.rest.now c.in-Ok.ensures.value in (
      scanned_again c.args.levels c.loop-record.from c.loop-record.left.now (rows_of c.loop-record.self) (rows_of c.note.new.self) _ (record_of c.in-Ok.record) c.in-Ok.rest.now e
          c.note.ensures c.loop-record.invariant.0,
      omega (arith, c.in-Ok.ensures.shorter),
    )

pub returns : goal.returns
returns c =
    let n = decoded_none c.args.levels c.loop-record.left.now c.requires.0 c.decode.result c.in_default.not-Ok c.decode.ensures.value in
    sym (scanned-end c.args.levels c.loop-record.from c.loop-record.left.now (rows_of c.loop-record.self) n) ∙ c.loop-record.invariant.0
