-- A picture for a wall, of 1,920 by 1,080: what is out as cards, and below it nodes in columns.
use Rattle.std.specs.Prelude.{ℕ, ◌+◌, ◌*◌, ◌-◌, ◌/◌, ◌%◌, ◌++◌, ◌==◌, Bool, List, [], ◌∷◌, codes}
use Rattle.std.specs.Prelude.{length, map, nat_le, take, suc}
use Rattle.std.specs.Prelude.{Option, Some, None, if◌then◌else◌}
use Rattle.std.specs.Fmt.{decimal}
use Rattle.std.specs.List.{enumerate_from, filter, flat_map}
use Rattle.job_picture.specs.Moments.{moment_text}
use Rattle.job_picture.specs.Progress.{is_undone, shape_of}
use Rattle.job_picture.specs.Rows.{Line}
use Rattle.job_picture.specs.Svg.{label, placed_drawing, shape}
use Rattle.job_picture.specs.declared.progress.Progress.{Progress}
use Rattle.job_picture.specs.declared.progress.Progress.TheVariants.{Waiting, InProgress}
use Rattle.job_picture.specs.declared.progress.Progress.TheVariants.{Completed, Aborted}
use Rattle.job_picture.specs.declared.style.TheConstants.{STYLE}
use Rattle.job_picture.specs.declared.wall.TheConstants.{LEGEND}

-- ---- where things stand

-- how many cards there is room for
abbrev pub most_cards : ℕ
most_cards = 24

-- the rows of four cards that so many take
abbrev pub card_rows : ℕ → ℕ
card_rows cards = ((if nat_le cards most_cards then cards else most_cards) + 3) / 4

-- how far down the nodes begin below so many cards
abbrev pub nodes_top : ℕ → ℕ
nodes_top cards = 184 + 124 * card_rows cards

-- how many nodes there is room for below so many cards: in three columns, of 27 for each
abbrev pub room_below : ℕ → ℕ
room_below cards = 3 * ((1070 - nodes_top cards) / 27)

-- how many nodes stand in a column of three in which so many are spread
abbrev pub column_rows : ℕ → ℕ
column_rows count = suc ((count - 1) / 3)

-- ---- what is drawn

-- whether there is still work on a node
abbrev pub is_line_undone : Line → Bool
is_line_undone l = is_undone l.progress

-- the lines that are drawn where there is room for so many: all, or those of what isn't done
abbrev pub drawn_lines : ℕ → List Line → List Line
drawn_lines room lines =
    if nat_le (length lines) room then lines else take room (filter is_line_undone lines)

-- a card in the place of its number
abbrev pub place_card : ℕ × List ℕ → List ℕ
place_card e = placed_drawing (30 + 470 * (e.0 % 4)) (148 + 124 * (e.0 / 4)) e.1

-- the cards, each in its place
abbrev pub placed_cards : List (List ℕ) → List ℕ
placed_cards cards = flat_map place_card (enumerate_from 0 cards)

-- a line in the place of its number, from a height on, in columns of so many rows
abbrev pub place_line : ℕ → ℕ → ℕ × Line → List ℕ
place_line top rows e = placed_drawing (30 + 627 * (e.0 / rows)) (top + 27 * (e.0 % rows)) e.1.text

-- lines, each in its place, from a height on
abbrev pub placed_lines : ℕ → List Line → List ℕ
placed_lines top lines =
    flat_map (place_line top (column_rows (length lines))) (enumerate_from 0 lines)

-- ---- how many there are

-- whether a line is of a node that is so far
abbrev pub is_so_far : Progress → Line → Bool
is_so_far progress l = shape_of l.progress == shape_of progress

-- how many nodes are so far
abbrev pub count_of : Progress → List Line → ℕ
count_of progress lines = length (filter (is_so_far progress) lines)

-- a count of nodes that are so far, in words, with their shape
unfoldable pub tally : Progress → List ℕ → ℕ → ℕ → List ℕ
tally progress words x count =
    shape (shape_of progress) x 76
    ++ label (codes "n") (x + 28) 94 (decimal count ++ codes " " ++ words)

-- those of nodes that wait, are in progress, are completed and were aborted
unfoldable pub tallies : List Line → List ℕ
tallies lines =
    tally Waiting (codes "waiting") 30 (count_of Waiting lines)
    ++ tally InProgress (codes "in progress") 230 (count_of InProgress lines)
    ++ tally Completed (codes "completed") 460 (count_of Completed lines)
    ++ tally Aborted (codes "aborted") 690 (count_of Aborted lines)

-- how many are left out where there is room for so many, in words; nothing where none is
unfoldable pub count_left_out : ℕ → ℕ → List ℕ → List ℕ
count_left_out room count words =
    if nat_le count room then [] else codes ", " ++ decimal (count - room) ++ codes " " ++ words

-- what stands above the cards: how many there are, in words, and how many of those have no room
unfoldable pub cards_heading : List ℕ → ℕ → List ℕ
cards_heading words count =
    label (codes "h") 30 136
    (words ++ codes ": " ++ decimal count ++ count_left_out most_cards count (codes "without room here"))

-- how many nodes are folded, since they are done and there is no room for all, in words
unfoldable pub folded_words : ℕ → ℕ → ℕ → List ℕ
folded_words room count undone =
    if nat_le count room then []
    else codes ", " ++ decimal (count - undone) ++ codes " folded (completed or aborted)"

-- how many nodes there are, how many of them are done and so are folded, and how many others have
-- no room, in words
unfoldable pub nodes_words : ℕ → ℕ → ℕ → List ℕ
nodes_words room count undone =
    codes "Nodes: " ++ decimal count ++ folded_words room count undone
    ++ count_left_out room undone (codes "more without room here")

-- what stands above the nodes: that, and what is told of each
unfoldable pub nodes_heading : ℕ → List ℕ → List ℕ
nodes_heading top words =
    label (codes "h") 30 (top - 14) words ++ label (codes "s e") 1890 (top - 14) LEGEND.now

-- the moment when it was drawn
abbrev pub drawn_text : ℕ → List ℕ
drawn_text now = label (codes "n e") 1890 52 (codes "Drawn " ++ moment_text now)

-- what stands in front
unfoldable pub head : List ℕ → List ℕ → List ℕ
head title drawn =
    codes "<svg xmlns='http://www.w3.org/2000/svg' viewBox='0 0 1920 1080'>" ++ 10 ∷ []
    ++ codes "<title>" ++ title ++ codes "</title>" ++ 10 ∷ STYLE.now
    ++ codes "<rect width='1920' height='1080' fill='#fff'/>" ++ 10 ∷ []
    ++ label (codes "t") 30 52 title ++ drawn ++ 10 ∷ []

-- the cards below their heading
unfoldable pub cards_part : List ℕ → List (List ℕ) → List ℕ
cards_part words cards =
    cards_heading words (length cards) ++ 10 ∷ placed_cards (take most_cards cards)

-- the nodes below their heading, from a height on, where there is room for so many
unfoldable pub nodes_part : ℕ → ℕ → List Line → List ℕ
nodes_part top room lines =
    nodes_heading top
    (nodes_words room (length lines) (length (filter is_line_undone lines)))
    ++ 10 ∷ placed_lines top (drawn_lines room lines)

-- what stands above the cards and the nodes
unfoldable pub wall_head : ℕ → List ℕ → List ℕ → List Line → List ℕ
wall_head now title closed lines =
    head title (drawn_text now) ++ tallies lines ++ label (codes "n e") 1890 94 closed ++ 10 ∷ []

-- a picture of a title at a moment: what is closed, in words; what is open, in words and as cards;
-- and nodes
unfoldable pub wall : ℕ → List ℕ → List ℕ → List ℕ → List (List ℕ) → List Line → List ℕ
wall now title closed words cards lines =
    wall_head now title closed lines ++ cards_part words cards
    ++ nodes_part (nodes_top (length cards)) (room_below (length cards)) lines
    ++ codes "</svg>" ++ 10 ∷ []
