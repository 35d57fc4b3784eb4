use Rattle.std.proofs.Common.{◌≡◌, [], ◌++◌, drop, string_bytes, sym, ap, ◌∙◌, append-nil, drop_of_length-le}
use Rattle.hex_text.specs.Hex.{encode}
use Rattle.hex_text.proofs.Laws.{encode_more}
use Rattle.hex_text.proofs.encode.Goals as goal

pub loop-byte-preserved : goal.loop-byte-preserved
loop-byte-preserved c =
    encode_more c.args.bytes.now c.loop-byte.byte-index (string_bytes c.loop-byte.text) (string_bytes c.push_byte.new.text) c.loop-byte-test.true c.in_ok-push_byte.ensures c.loop-byte.invariant

pub returns : goal.returns
returns c =
    let none : drop c.loop-byte.byte-index c.args.bytes.now ≡ [] = drop_of_length-le _ c.loop-byte-test.false in
    sym (append-nil _) ∙ ap (λ l. string_bytes c.loop-byte.text ++ encode l) (sym none) ∙ c.loop-byte.invariant
