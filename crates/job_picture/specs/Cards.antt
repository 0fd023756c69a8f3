-- The card of work that is open.
use Rattle.std.specs.Prelude.{ℕ, ◌-◌, ◌++◌, List, [], codes, Option, Some, None}
use Rattle.std.specs.Fmt.{decimal}
use Rattle.ticket_items.specs.SpawnId.{spawn_text}
use Rattle.spawn.specs.declared.records.phase.Phase.{Phase}
use Rattle.worker_core.specs.declared.stage.Stage.TheVariants.{Open, Done, Closed, Declined}
use Rattle.job_list.specs.Work.{known_text}
use Rattle.job_list.specs.declared.work.Work.{Work}
use Rattle.job_list.specs.declared.work_phase.WorkPhase.{WorkPhase}
use Rattle.job_list.specs.declared.work_phase.WorkPhase.TheVariants as phase
use Rattle.job_picture.specs.Moments.{moment_text, span_text}
use Rattle.job_picture.specs.Progress.{progress_of, shape_of}
use Rattle.job_picture.specs.Rows.{name_words}
use Rattle.job_picture.specs.Svg.{label, shade, shape}
use Rattle.job_picture.specs.Texts.{room_behind, short_text}

-- what happened at the moment of work: a part went out, was taken, or was given back
abbrev pub since_word : WorkPhase → List ℕ
since_word (phase.Spawn p) = codes "out since "
since_word (phase.Entry Open) = codes "here since "
since_word (phase.Entry (Done how)) = codes "given back "
since_word (phase.Entry (Closed how)) = codes "given back "
since_word (phase.Entry Declined) = codes "declined "

-- a name for people in a room of so many characters, behind a space, if there is one
abbrev pub short_name : ℕ → Option (List ℕ) → List ℕ
short_name room None = []
short_name room (Some name) = codes " " ++ short_text room name

-- work, whole
unfoldable pub work_words : Work → List ℕ
work_words w =
    spawn_text w.spawn_id ++ codes " " ++ w.other ++ codes ": " ++ known_text w.node
    ++ name_words w.descriptive_name ++ codes ": " ++ known_text w.status

-- with whom work is, and how long at a moment; no time where it is later
unfoldable pub card_head : ℕ → Work → List ℕ
card_head now w =
    label (codes "u") 16 36 (spawn_text w.spawn_id ++ codes " " ++ short_text 12 w.other)
    ++ label (codes "u e") 434 36 (span_text (now - w.at))

-- the node of work
unfoldable pub card_node : Work → List ℕ
card_node w =
    label (codes "n") 16 69
    (codes "<tspan class='b'>" ++ short_text 22 (known_text w.node) ++ codes "</tspan>"
    ++ short_name (room_behind 38 22 (known_text w.node)) w.descriptive_name)

-- the Status of the node of work, and since when it is so
unfoldable pub card_foot : Work → List ℕ
card_foot w =
    shape (shape_of (progress_of (known_text w.status))) 16 82
    ++ label (codes "n") 44 98 (short_text 14 (known_text w.status))
    ++ label (codes "s e") 434 98 (since_word w.phase ++ moment_text w.at)

-- the card of work at a moment: with whom it is, how long, the node, its Status, and since when
unfoldable pub card : ℕ → Work → List ℕ
card now w =
    codes "<title>" ++ work_words w ++ codes "</title><rect class='c"
    ++ decimal (shade (Some w.spawn_id))
    ++ codes " o' width='450' height='112' rx='8'/><svg width='450' height='112'>"
    ++ card_head now w ++ card_node w ++ card_foot w ++ codes "</svg>"
