use Rattle.std.proofs.Common.{[], ◌++◌, ap, ◌∙◌}
use Rattle.records.specs.Format.{head}
use Rattle.records.specs.Values.{record_of}
use Rattle.records.proofs.Laws.{encode-key, encode-content, encode-out}
use Rattle.records.proofs.encode.encode.Goals as goal

pub returns-in-Key : goal.returns-in-Key
returns-in-Key c =
    let w = c.in-Key in
    let e = encode-key w.node w.number w.under c.key_front.new.out w.sealed.now c.key_front.ensures in
    let i = ap record_of w.is in
    cc c.append.ensures

pub returns-in-Content : goal.returns-in-Content
returns-in-Content c =
    let w = c.in-Content in
    let e = encode-content w.node w.number c.content_front.new.out w.sealed.now (c.content_front.ensures ∙ ap (λ x. head 67 w.node w.number ++ (x ++ [])) c.count_of.ensures) in
    let i = ap record_of w.is in
    cc c.append-in-Content.ensures

pub returns-in-Out : goal.returns-in-Out
returns-in-Out c =
    let w = c.in-Out in
    let e = encode-out w.node w.next in
    let i = ap record_of w.is in
    cc (c.header.ensures, c.extend_from_slice.ensures.items)
