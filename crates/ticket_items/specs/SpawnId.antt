-- The number of a spawn, and its text.
use Rattle.std.specs.Prelude.{ℕ, ◌+◌, ◌-◌, ◌*◌, ◌&&◌, ◌==◌, Bool, false, List, [], ◌∷◌, nat_lt}
use Rattle.std.specs.Prelude.{nat_le, if◌then◌else◌, Option, Some, None}
use Rattle.std.specs.Fmt.{decimal}
use Rattle.std.specs.List.{list_all}
use Rattle.ticket_items.specs.Names.{is_digit}

-- a spawn's number is 1 to 999,999,999
abbrev pub is_spawn_number : ℕ → Bool
is_spawn_number n = nat_le 1 n && nat_le n 999999999

-- the text of a spawn's number: the letter `S`, and the decimal digits without leading zeros
abbrev pub spawn_text : ℕ → List ℕ
spawn_text n = 83 ∷ decimal n

-- decimal digits, of which the first isn't 0
abbrev pub is_numeral : List ℕ → Bool
is_numeral [] = false
is_numeral (d ∷ ds) = nat_lt 48 d && list_all is_digit (d ∷ ds)

-- the number that decimal digits write, behind those that wrote n
abbrev pub number_read : ℕ → List ℕ → ℕ
number_read n [] = n
number_read n (d ∷ ds) = number_read (10 * n + (d - 48)) ds

-- the spawn's number that digits write
abbrev pub number_in : List ℕ → Option ℕ
number_in ds =
    if is_numeral ds && is_spawn_number (number_read 0 ds) then Some (number_read 0 ds) else None

-- the spawn's number that a text names: behind the letter `S`, in decimal digits
abbrev pub spawn_of : List ℕ → Option ℕ
spawn_of [] = None
spawn_of (c ∷ ds) = if c == 83 then number_in ds else None
