-- The working memory.
use Rattle.std.specs.Prelude.{◌≡◌}
use Rattle.chacha20.specs.declared.stream.Stream.{Stream}
use Rattle.chacha20.specs.Stream.{idle}
use Rattle.poly1305.specs.declared.Poly1305.{Poly1305}
use Rattle.poly1305.specs.State as Mark
use Rattle.sealing.specs.declared.workspace.Workspace.{Workspace}
use Rattle.sealing.specs.Work.{Idle}

-- Nothing is left of a key, a block or a one-time key: everything is zeros.
pub record Clear (sealing : Workspace) (stream : Stream) (mark : Poly1305) : Type 0 where
  pub sealing_zero : Idle sealing
  pub stream_zero : stream ≡ idle
  pub mark_zero : Mark.Idle mark
