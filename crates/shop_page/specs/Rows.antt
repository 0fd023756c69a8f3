-- The rows of open work on a page.
use Rattle.std.specs.Prelude.{ℕ, ◌-◌, ◌==◌, ◌++◌, ◌∷◌, Bool, List, [], codes, decimal}
use Rattle.std.specs.Prelude.{Option, Some, None, if◌then◌else◌}
use Rattle.std.specs.List.{before_first}
use Rattle.ticket_items.specs.SpawnId.{spawn_text}
use Rattle.job_list.specs.Work.{known_text, phase_word}
use Rattle.job_list.specs.declared.work.Work.{Work}
use Rattle.job_picture.specs.Moments.{moment_text, span_text}
use Rattle.refusal_rows.specs.Rows.{text_of}
use Rattle.shop_page.specs.Cells.{cell, link_cell}
use Rattle.shop_page.specs.Delays.{is_late, is_refused, refusal_of}
use Rattle.shop_page.specs.declared.open_work.OpenWork.{OpenWork}

-- the first line of a text
abbrev pub first_line : List ℕ → List ℕ
first_line text = before_first (λ b. b == 10) text

-- a refusal: the first line of its text, where the table has one, or its number
abbrev pub refusal_cell : Option (List ℕ) → ℕ → List ℕ
refusal_cell None number = decimal number
refusal_cell (Some text) number = first_line text

-- how a message fares that was refused, or wasn't and waits too long or doesn't
abbrev pub words_of : Option ℕ → Bool → List ℕ
words_of (Some number) late = codes "refused: " ++ refusal_cell (text_of (decimal number)) number
words_of None late = if late then codes "no answer yet" else []

-- how the message of work fares
unfoldable pub message_words : ℕ → OpenWork → List ℕ
message_words now w = words_of (refusal_of w.delivery) (is_late now w)

-- how a row looks
unfoldable pub class_of : ℕ → OpenWork → List ℕ
class_of now w =
    if is_refused w then codes "r" else (if is_late now w then codes "w" else codes "o")

-- the cells that tell what the work of a controller is
unfoldable pub work_cells : List ℕ → Work → List ℕ
work_cells controller w =
    link_cell controller ++ cell (known_text w.job) ++ cell (spawn_text w.spawn_id)
    ++ cell (phase_word w.phase) ++ cell w.other ++ cell (known_text w.node)
    ++ cell (known_text w.descriptive_name) ++ cell (known_text w.status)

-- those that tell since when it is so, for how long, and how its message fares
unfoldable pub time_cells : ℕ → OpenWork → List ℕ
time_cells now w =
    cell (moment_text w.work.now.at) ++ cell (span_text (now - w.work.now.at))
    ++ cell (message_words now w)

-- the row of work at a time
unfoldable pub row : ℕ → OpenWork → List ℕ
row now w =
    codes "<tr class=\"" ++ class_of now w ++ codes "\">" ++ work_cells w.controller.now w.work.now
    ++ time_cells now w ++ codes "</tr>" ++ 10 ∷ []
