use Rattle.std.proofs.Common.{◌≡◌, ◌+◌, ◌≤◌, map, vec_items, vec_len, vec_capacity}
use Rattle.sealing.specs.declared.key.Key.{Key}
use Rattle.rehearsal.specs.Keys.{keys_after}
use Rattle.rehearsal.proofs.keys.Keys.draw.Given as goal

abbrev pub invariant-loop-number : goal.invariant-loop-number
invariant-loop-number l =
    (vec_len l.keys + l.first ≡ l.number) × (l.count ≤ vec_capacity l.keys) × (map (λ (k : Key). k.bytes) (vec_items l.keys) ≡ keys_after l.last (vec_len l.keys))
