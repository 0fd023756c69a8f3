-- A line of a list with tabs between: what is known of work, and nothing where that isn't.
use Rattle.std.specs.Prelude.{ℕ, ◌-◌, ◌==◌, ◌||◌, List, [], ◌∷◌, ◌++◌, codes, chars, decimal}
use Rattle.std.specs.Prelude.{encode_utf8, if◌then◌else◌, nat_lt, Option, Some, None}
use Rattle.std.specs.List.{flat_map}
use Rattle.ticket_items.specs.SpawnId.{spawn_text}
use Rattle.job_list.specs.Work.{known_text, phase_word}
use Rattle.job_list.specs.declared.work.Work.{Work}

-- a tab between two places
abbrev pub then_tab : List ℕ → List ℕ → List ℕ
then_tab place more = place ++ 9 ∷ more

-- a character that ends neither a place nor a line: a tab, the two line ends and the backslash
-- stand behind a backslash, and another control character is U+FFFD
unfoldable pub plain_char : ℕ → List ℕ
plain_char c =
    if c == 9 then 92 ∷ codes "t" else
    if c == 10 then 92 ∷ codes "n" else
    if c == 13 then 92 ∷ codes "r" else
    if c == 92 then 92 ∷ 92 ∷ [] else
    if nat_lt c 32 || c == 127 then encode_utf8 0xFFFD else encode_utf8 c

-- the same of characters, one after another
abbrev pub plain_chars : List ℕ → List ℕ
plain_chars cs = flat_map plain_char cs

-- a name for people, or nothing
abbrev pub name_text : Option (List ℕ) → List ℕ
name_text None = []
name_text (Some name) = plain_chars (chars name)

-- how many bytes a message has, or nothing where there is none
abbrev pub size_text : Option ℕ → List ℕ
size_text None = []
size_text (Some bytes) = decimal bytes

-- the job, the spawn, the phase, the other controller, the node and its DescriptiveName
unfoldable pub work_part : Work → List ℕ
work_part w =
    then_tab (known_text w.job) (then_tab (spawn_text w.spawn_id) (then_tab (phase_word w.phase)
    (then_tab w.other (then_tab (known_text w.node) (name_text w.descriptive_name)))))

-- the time of work, how many seconds that is back, the Status and the size
unfoldable pub rest_part : Option ℕ → ℕ → Work → List ℕ
rest_part bytes now w =
    then_tab (decimal w.at) (then_tab (decimal (now - w.at))
    (then_tab (known_text w.status) (size_text bytes)))

-- the line of a controller's work at a time, whose message has so many bytes, if there is one
unfoldable pub tab_line : List ℕ → Option ℕ → ℕ → Work → List ℕ
tab_line controller bytes now w =
    then_tab controller (then_tab (work_part w) (rest_part bytes now w)) ++ 10 ∷ []
