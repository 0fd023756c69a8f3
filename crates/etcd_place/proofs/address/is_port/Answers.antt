use Rattle.std.proofs.Common.{◌∙◌, sym, ap}
use Rattle.std.specs.Char.{is_ascii_digit}
use Rattle.std.specs.List.{list_all}
use Rattle.etcd_place.proofs.Ports.{no_port}
use Rattle.etcd_place.proofs.address.is_port.Goals as goal

pub returns-in-Err : goal.returns-in-Err
returns-in-Err c = no_port c.args.text.now c.in-Err.field-0 c.in-Err.ensures.value.0 (ap (list_all is_ascii_digit) (sym c.as_bytes.ensures.value) ∙ sym c.if-not-are_digits.ensures)
