use Rattle.std.proofs.Common.{◌∙◌, sym, ap}
use Rattle.std.proofs.lemmas.Option.{same_Some}
use Rattle.serde_json.specs.Read.{read}
use Rattle.json_profile.proofs.text.value_printed.Goals as goal

pub returns-in-Ok : goal.returns-in-Ok
returns-in-Ok c = λ d before tokens again shallow.
    same_Some _ _ (sym c.in-Ok.ensures.ok.1 ∙ ap read c.as_slice.ensures.value ∙ c.written_text-text.ensures.again d before tokens again shallow)
