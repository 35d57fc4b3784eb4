-- The keys that nodes have, one by one.
use Rattle.std.proofs.Common.{◌≡◌, ℕ, zero, suc, ◌<◌, ◌≤◌, List, [], ◌∷◌, ◌++◌, length, set, Some, None, Option, sym, refl, ap, arith}
use borrow.Author.Tests.{clash}
use Rattle.change.specs.Nodes.{key_in, sibling_in, Keyless}
use Rattle.change.specs.declared.node.NodeKey.{NodeKey}

pub held_here : (nodes : List (Option NodeKey)) (h : ℕ) (node : Option NodeKey) → h < length nodes → sibling_in (set nodes h node) h ≡ key_in node
held_here [] h x l = absurd (omega arith)
held_here (n ∷ ns) zero x l = refl
held_here (n ∷ ns) (suc h) x l = held_here ns h x (omega arith)

pub held_elsewhere : (nodes : List (Option NodeKey)) (h j : ℕ) (node : Option NodeKey) → (h ≡ j → ⊥) → sibling_in (set nodes h node) j ≡ sibling_in nodes j
held_elsewhere [] h j x other = refl
held_elsewhere (n ∷ ns) zero zero x other = absurd (other refl)
held_elsewhere (n ∷ ns) zero (suc j) x other = refl
held_elsewhere (n ∷ ns) (suc h) zero x other = refl
held_elsewhere (n ∷ ns) (suc h) (suc j) x other = held_elsewhere ns h j x (λ e. other (ap suc e))

-- Past the last node there is none.
pub held_past : (nodes : List (Option NodeKey)) (h : ℕ) → length nodes ≤ h → sibling_in nodes h ≡ None
held_past [] h l = refl
held_past (n ∷ ns) zero l = absurd (omega arith)
held_past (n ∷ ns) (suc h) l = held_past ns h (omega arith)

-- The last of nodes without keys has none, and nor have those before it.
pub keyless-last : (nodes : List (Option NodeKey)) (node : Option NodeKey) → Keyless (nodes ++ (node ∷ [])) → node ≡ None
keyless-last [] None k = refl
keyless-last [] (Some held) k = absurd (clash (sym (k 0)))
keyless-last (n ∷ ns) x k = keyless-last ns x (λ h. k (suc h))

pub keyless-front : (nodes : List (Option NodeKey)) (node : Option NodeKey) → Keyless (nodes ++ (node ∷ [])) → Keyless nodes
keyless-front [] x k h = refl
keyless-front (n ∷ ns) x k zero = k zero
keyless-front (n ∷ ns) x k (suc h) = keyless-front ns x (λ i. k (suc i)) h
