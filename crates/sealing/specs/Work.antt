-- The working memory.
use Rattle.std.specs.Prelude.{◌≡◌, ℕ, List, ◌++◌, length, replicate}
use Rattle.octets.specs.Endian.{le_bytes}
use Rattle.poly1305.specs.Poly1305.{absorb_all, blocks, padded}
use Rattle.chacha20.specs.Stream.{idle}
use Rattle.poly1305.specs.State as Mark
use Rattle.sealing.specs.declared.workspace.Workspace.{Workspace}

-- Nothing is left of a key, a block or a one-time key: everything is zeros.
pub record Idle (w : Workspace) : Type 0 where
  pub stream_zero : w.stream ≡ idle
  pub mark_zero : Mark.Idle w.mark
  pub block_zero : w.block ≡ replicate 64 0
  pub once_zero : w.once ≡ replicate 32 0

-- The accumulator of a mark that had a, once what is marked, the sealed text and their lengths were absorbed.
abbrev pub absorbed_text : (r a : ℕ) (marked sealed : List ℕ) → ℕ
absorbed_text r a marked sealed =
    absorb_all r (absorb_all r (absorb_all r a (blocks (length marked)) (padded marked)) (blocks (length sealed)) (padded sealed)) (blocks 16) (padded (le_bytes 8 (length marked) ++ le_bytes 8 (length sealed)))
