-- What tells of a withdrawal is short enough to be a text.
use Rattle.std.proofs.Common.{◌≡◌, ◌<◌, ◌&&◌, ℕ, ◌++◌, true, length, arith}
use Rattle.std.proofs.lemmas.Bool.{and_parts, le-leb, ltb-true}
use Rattle.std.specs.Fmt.{decimal}
use Rattle.std.specs.List.{list_all}
use Rattle.std.specs.Prelude.{codes, nat_lt}
use Rattle.ticket_items.proofs.SpawnTexts.{is_name-spawn_text}
use Rattle.ticket_items.specs.Names.{is_name_part, is_name_start, is_text}
use Rattle.ticket_items.specs.SpawnId.{is_spawn_number, spawn_text}

pub withdrawn_is_text : (n : ℕ) → is_spawn_number n ≡ true
    → is_text (codes "Withdrawn " ++ spawn_text n) ≡ true
withdrawn_is_text n number =
    let named = and_parts (is_name_start 83 && list_all is_name_part (decimal n)) (nat_lt (length (decimal n)) 64) (is_name-spawn_text n number) in
    let within : length (decimal n) < 64 = ltb-true (length (decimal n)) 64 named.1 in
    le-leb (length (codes "Withdrawn " ++ spawn_text n)) 1024 (omega (arith, within))
