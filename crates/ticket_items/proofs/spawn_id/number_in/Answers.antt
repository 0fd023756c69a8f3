use Rattle.std.proofs.Common.{◌∙◌, sym, ap}
use Rattle.ticket_items.proofs.SpawnTexts.{none_parsed, some_parsed}
use Rattle.ticket_items.specs.SpawnId as spawns
use Rattle.ticket_items.proofs.spawn_id.number_in.Goals as goal

pub returns-in-Err : goal.returns-in-Err
returns-in-Err c = none_parsed c.args.digits.now (ap spawns.is_numeral (sym c.as_bytes.ensures.value) ∙ sym c.if-not-is_numeral.ensures) c.in-Err.ensures.value.0

pub returns-then-not-is_spawn_number : goal.returns-then-not-is_spawn_number
returns-then-not-is_spawn_number c =
    some_parsed c.args.digits.now c.in-Ok.number _ (ap spawns.is_numeral (sym c.as_bytes.ensures.value) ∙ sym c.if-not-is_numeral.ensures) c.in-Ok.ensures.value.0 (sym c.if-not-is_spawn_number.ensures)

pub returns-else-not-is_spawn_number : goal.returns-else-not-is_spawn_number
returns-else-not-is_spawn_number c =
    some_parsed c.args.digits.now c.in-Ok.number _ (ap spawns.is_numeral (sym c.as_bytes.ensures.value) ∙ sym c.if-not-is_numeral.ensures) c.in-Ok.ensures.value.0 (sym c.if-not-is_spawn_number.ensures)
