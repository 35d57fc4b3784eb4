-- What a medium in memory keeps, with its events: tests in place of the facts, so that each has one proof at most.
use Rattle.std.specs.Prelude.{◌≡◌, ℕ, ◌+◌, ◌-◌, Bool, true, ◌&&◌, ◌||◌, List, [], ◌∷◌, ◌++◌, length, take, drop, nat_le}
use Rattle.std.specs.Str.{bytes_eq}
use Rattle.devices.specs.Events.{Event, appended, synced, cut, got, held}

-- Whether a stop can leave these bytes.
unfoldable pub is_left : List Event → List ℕ → Bool
is_left [] bytes = bytes_eq bytes []
is_left (synced ∷ log) bytes = bytes_eq bytes (held [] log)
is_left (got offset more ∷ log) bytes = is_left log bytes
is_left (cut n ∷ log) bytes = is_left log bytes || bytes_eq bytes (take n (held [] log))
is_left (appended more ∷ log) bytes =
    is_left log bytes || bytes_eq bytes (held [] log ++ take (length bytes - length (held [] log)) more)

-- Whether all that was read is what the medium then had.
unfoldable pub is_faithful : List Event → Bool
is_faithful [] = true
is_faithful (appended bytes ∷ log) = is_faithful log
is_faithful (synced ∷ log) = is_faithful log
is_faithful (cut n ∷ log) = is_faithful log
is_faithful (got offset bytes ∷ log) =
    (bytes_eq (take (length bytes) (drop offset (held [] log))) bytes && nat_le (offset + length bytes) (length (held [] log))) && is_faithful log

-- While it is on, it has what was asked; and the first part of its bytes, from those that last on, is what a stop can leave.
abbrev pub Whole : (on : Bool) (bytes : List ℕ) → List Event → Type 0
Whole on bytes log = on ≡ true → held [] log ≡ bytes

abbrev pub Lasting : (lasting : ℕ) (bytes : List ℕ) → List Event → Type 0
Lasting lasting bytes log = (k : ℕ) → is_left log (take (lasting + k) bytes) ≡ true
