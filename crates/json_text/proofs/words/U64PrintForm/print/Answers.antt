use Rattle.std.proofs.Common.{ap, arith}
use Rattle.std.proofs.lemmas.Result.{on_ok_weaker}
use Rattle.std.specs.Option.{option_map}
use Rattle.serde_json.specs.Data.{number}
use Rattle.serde_json.proofs.Numbers.{number_of-decimal}
use Rattle.json_text.proofs.words.U64PrintForm.print.Goals as goal

pub returns-clause-printed : goal.returns-clause-printed
returns-clause-printed c =
    on_ok_weaker c.u64.result (λ tokens. record { appended = record { tokens = tokens; before = c.u64.ensures.room.0 }; again = ap (option_map number) (number_of-decimal c.args.self.now (omega arith)) }) c.u64.ensures.ok
