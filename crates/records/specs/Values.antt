-- What the values of the code stand for.
use Rattle.std.specs.Prelude.{◌≡◌, ℕ, ◌+◌, ◌^◌, ◌<◌, Bool, cond, ◌&&◌, List, ◌++◌, length, IfOk, is_ok, if◌then◌else◌, Ok, Err, Result, nat_le, nat_lt}
use Rattle.std.specs.Borrow.{Bor}
use Rattle.records.specs.declared.«record».Record.{Record as Rec}
use Rattle.records.specs.declared.«record».Record.TheVariants.{Key, Content, Out}
use Rattle.records.specs.declared.«record».Undecoded.{Undecoded}
use Rattle.records.specs.declared.«record».Undecoded.TheVariants.{Ends, Other}
use Rattle.records.specs.Format.{Record, key, content, out, highest, longest_content}
use Rattle.records.specs.Decode.{Decoded, one, ends, other, decoded, is_place, is_number}

abbrev pub record_of : Rec → Record
record_of (Key node number under sealed) = key node number under sealed.now
record_of (Content node number sealed) = content node number sealed.now
record_of (Out node next) = out node next

abbrev pub decoded_of : Result (Rec × Bor (List ℕ)) Undecoded → Decoded
decoded_of (Ok found) = one (record_of found.0) found.1.now
decoded_of (Err Ends) = ends
decoded_of (Err Other) = other

-- What is left after a record is shorter than what it stands in front of.
abbrev pub Shortens : List ℕ → Result (Rec × Bor (List ℕ)) Undecoded → Type 0
Shortens bytes result = IfOk result (λ found. length found.1.now < length bytes)

-- Trees have at most 20 levels: for more, no bytes are a record.
abbrev pub decoded_up_to20 : (levels : ℕ) → List ℕ → Decoded
decoded_up_to20 levels bs = cond (nat_le levels 20) (decoded levels bs) other

-- Bytes at the end of a list, if there was room for them; else the list as it was.
abbrev pub Appends : {X E : Type 0} → Result X E → (bytes was now : List ℕ) → Type 0
Appends result bytes was now = now ≡ (if is_ok result then was ++ bytes else was)

-- Whether the numbers of a record are proper.
abbrev pub is_key : (levels node number under : ℕ) → Bool
is_key levels node number under = (nat_le 2 node && nat_lt node (2 ^ (levels + 1))) && (nat_le 1 number && (nat_lt number under && nat_le under highest))

abbrev pub is_out : (levels node next : ℕ) → Bool
is_out levels node next = is_place levels node && is_number next

abbrev pub is_content : (levels node number count : ℕ) → Bool
is_content levels node number count = (is_place levels node && is_number number) && (nat_le 1 count && nat_le count longest_content)
