use Rattle.std.proofs.Common.{[], ◌∷◌, string_bytes, append_assoc}
use Rattle.hex_text.proofs.push_byte.Goals as goal

pub returns : goal.returns
returns c =
    let high = c.in_ok-push.ensures.ascii c.letter.ensures.ascii in
    let low = c.in_ok-push-2.ensures.ascii c.letter-2.ensures.ascii in
    let first = c.in_ok-push.ensures.bytes in
    let second = c.in_ok-push-2.ensures.bytes in
    let both = append_assoc (string_bytes c.args.text.now) (c.letter.result ∷ []) (c.letter-2.result ∷ []) in
    cc
