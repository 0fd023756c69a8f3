-- Those whose time is up.
use Rattle.std.specs.Prelude.{ℕ, Bool, false, nat_le, Option, None, Some, if◌then◌else◌}
use Rattle.std.specs.Option.{option_map_or}
use Rattle.listeners.specs.declared.guests.Guest.{Guest}

-- what is in a place, unless this is so of it
abbrev pub unless : {T : Type 0} → (T → Bool) → Option T → Option T
unless test None = None
unless test (Some x) = if test x then None else Some x

-- the deadline of a guest has come; one that waits for its response has none
abbrev pub is_late : {S : Type 0} → ℕ → Guest S → Bool
is_late now guest = option_map_or (λ c. nat_le c.peer.deadline now) guest.client false
