-- What a slot holds.
use Rattle.forgetting.specs.Change.{Numbered}
use Rattle.std.specs.Prelude.{box_value}
use Rattle.slot.specs.declared.Slot.{Slot}

abbrev pub held : Slot → Numbered
held s = record { number = s.number; bytes = (box_value s.key).bytes }
