-- Keys drawn one after another.
use Rattle.std.proofs.Common.{◌≡◌, ℕ, ◌+◌, List, [], ◌∷◌, ◌++◌, map, ap, add-one}
use mathlib.Core.List.{map-append}
use Rattle.sealing.specs.declared.key.Key.{Key}
use Rattle.rehearsal.specs.Keys.{key_of, keys_after}

pub none_drawn : (last : ℕ) (keys : List Key) → keys ≡ [] → map (λ (k : Key). k.bytes) keys ≡ keys_after last 0
unfolding keys_after
none_drawn last keys e = ap (map (λ (k : Key). k.bytes)) e

pub one_more : (last i : ℕ) (keys : List Key) (key : Key) → map (λ (k : Key). k.bytes) keys ≡ keys_after last i → key.bytes ≡ key_of (last + 1 + i) → map (λ (k : Key). k.bytes) (keys ++ key ∷ []) ≡ keys_after last (i + 1)
unfolding keys_after
one_more last i keys key e d = rw (map-append, add-one, e, d)
