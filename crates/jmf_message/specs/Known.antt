-- What is known of the body of a message that is written.
use Rattle.std.specs.Prelude.{◌≡◌, ◌≤◌, Ok}
use Rattle.serde_json.specs.Data.{depth}
use Rattle.json_items.specs.PartForm.{part_read}
use Rattle.json_text.specs.PartWritten.{part_data}
use Rattle.ticket_tree.specs.Part.{PartCopy}
use Rattle.controller.specs.declared.body.Body.{Body}
use Rattle.controller.specs.declared.body.Body.TheVariants.{Submit, Return, Abort, Answer}

-- a part that is read again, and whose data nests little
pub record IsWritten (part : PartCopy) : Type 0 where
  pub again : part_read (part_data part) ≡ Ok part
  pub nests : depth (part_data part) ≤ 68

-- its part is one of these, if it has one
abbrev pub IsKnown : Body → Type 0
IsKnown (Submit part) = IsWritten part
IsKnown (Return part) = IsWritten part
IsKnown (Abort spawn) = Unit {0}
IsKnown (Answer asked spawn result) = Unit {0}
