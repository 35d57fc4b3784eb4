-- Nodes by their numbers: the root is 1, and nodes 2 n and 2 n + 1 hang on node n. With so many levels, place p is node 2 ^ levels + p.
use Rattle.std.specs.Prelude.{ℕ, ◌+◌, ◌-◌, ◌%◌, cond, ◌==◌}
use Rattle.tree.specs.declared.node.Side.{Side}
use Rattle.tree.specs.declared.node.Side.TheVariants.{Even, Odd}

-- The other node that hangs on the same one.
abbrev pub sibling_of : ℕ → ℕ
sibling_of n = cond (n % 2 == 0) (n + 1) (n - 1)

-- The remainder by two of a node on that side, which is the last byte of its nonce.
abbrev pub slot_of : Side → ℕ
slot_of Even = 0
slot_of Odd = 1
