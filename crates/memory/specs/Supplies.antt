-- The power that one operation finds.
use Rattle.std.specs.Prelude.{◌≡◌, ℕ, ◌-◌, ◌<◌, min, Bool, true, false, Some, None}
use Rattle.memory.specs.declared.power.Power.{Power}
use Rattle.memory.specs.declared.power.Power.TheVariants.{On, Off}
use Rattle.memory.specs.declared.power.Stop.{Stop}
use Rattle.memory.specs.declared.power.Supply.{Supply}
use Rattle.memory.specs.declared.power.Supply.TheVariants.{Full, Part, Gone}

abbrev pub is_on : Power → Bool
is_on (On stop) = true
is_on Off = false

-- The stop that is to come, where it is on.
abbrev pub stopping : Stop → Power → Power
stopping stop (On other) = On (Some stop)
stopping stop Off = Off

-- It is on, and a stop to come is one operation nearer.
abbrev pub Nearer : Power → Power → Type 0
Nearer (On None) later = later ≡ On None
Nearer (On (Some s)) later = (0 < s.after) × (later ≡ On (Some (record { after = s.after - 1; kept = s.kept })))
Nearer Off later = ⊥

abbrev pub Supplies : Supply → Power → Power → Type 0
Supplies Full before later = Nearer before later
Supplies (Part k) before later = (before ≡ On (Some (record { after = 0; kept = k }))) × (later ≡ Off)
Supplies Gone before later = (before ≡ Off) × (later ≡ Off)

-- How many of so many bytes are written.
abbrev pub written : Supply → ℕ → ℕ
written Full n = n
written (Part k) n = min k n
written Gone n = 0
