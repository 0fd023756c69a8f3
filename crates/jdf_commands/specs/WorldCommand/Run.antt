-- What `world` writes for a script: what happens in one ticket with one table of holders.
use Rattle.std.specs.Prelude.{◌≡◌, ℕ, Bool, false, List, [], ◌∷◌, ◌++◌, Ok}
use Rattle.std.specs.List.{flat_map}
use Rattle.serde_json.specs.Written.{compact_text}
use Rattle.json_text.specs.Written.{shown_data}
use Rattle.plain_shop.specs.Replay.{TaggedShop, after_all, answers_to, opening}
use Rattle.plain_shop.specs.SeenTicket.{ticket_seen}
use Rattle.plain_shop.specs.Shop.{PlainState}
use Rattle.plain_shop.specs.Marks.{shop_marks}
use Rattle.world_items.specs.declared.answer.Answer.{Answer}
use Rattle.world_items.specs.declared.event.Event.{Event}
use Rattle.world_script.specs.AnswerText.{answer_text}
use Rattle.world_script.specs.Script.{IsReadAs}
use Rattle.world_script.specs.declared.script.Script.{Script}

-- the shop of a script before anything happened: its master holds all
abbrev pub shop_of_script : Script → TaggedShop
shop_of_script s = opening s.master s.workers s.ticket

-- the line of an answer, and a line for each of several
abbrev pub line_of : Answer → List ℕ
line_of a = answer_text a ++ 10 ∷ []

abbrev pub lines : List Answer → List ℕ
lines answers = flat_map line_of answers

-- the text of the ticket that a shop's master sees, with what it shows of the spawns that are out,
-- and the end of its line
abbrev pub shown_text : PlainState → List ℕ
shown_text p = compact_text (shown_data (shop_marks p) (ticket_seen p)) ++ 10 ∷ []

-- what is written for events in a shop: a line for each, and the text of the ticket at the end
abbrev pub run_text : List Event → TaggedShop → List ℕ
run_text events p = lines (answers_to events p) ++ shown_text (after_all events p).shop

-- what is written for a script
abbrev pub output_of : Script → List ℕ
output_of s = run_text s.events (shop_of_script s)

-- for this input, read as a script, this is written. Refused events are lines as any others
abbrev pub IsOutput : List ℕ → List ℕ → Bool → Type 0
IsOutput input text refused =
    (script : Script) × IsReadAs input (Ok script) × (text ≡ output_of script) × (refused ≡ false)
