-- A line of a list that is a JSON object: each member is always there, `null` where it isn't known.
use Rattle.std.specs.Prelude.{ℕ, ◌-◌, List, [], ◌∷◌, ◌++◌, codes, Option}
use Rattle.std.specs.Option.{option_map_or}
use Rattle.serde_json.specs.Data.{Data, Members, member, no_members, null, number, object, string}
use Rattle.serde_json.specs.Data.{unsigned}
use Rattle.serde_json.specs.Written.{compact_text}
use Rattle.ticket_items.specs.SpawnId.{spawn_text}
use Rattle.job_list.specs.Work.{phase_word}
use Rattle.job_list.specs.declared.work.Work.{Work}

-- the data of an item, if there is one
abbrev pub known_data : {A : Type 0} → (A → Data) → Option A → Data
known_data written item = option_map_or written item null

-- that of a whole number
abbrev pub number_data : ℕ → Data
number_data n = number (unsigned n)

-- what is told of a controller's work at a time, whose message has so many bytes, if there is one
abbrev pub work_data : List ℕ → Option ℕ → ℕ → Work → Data
work_data controller bytes now w =
    object
    (member (codes "At") (number_data w.at)
    (member (codes "Bytes") (known_data number_data bytes)
    (member (codes "Controller") (string controller)
    (member (codes "DescriptiveName") (known_data string w.descriptive_name)
    (member (codes "JobID") (known_data string w.job)
    (member (codes "Node") (known_data string w.node)
    (member (codes "Phase") (string (phase_word w.phase))
    (member (codes "Seconds") (number_data (now - w.at))
    (member (codes "SpawnID") (string (spawn_text w.spawn_id))
    (member (codes "Status") (known_data string w.status)
    (member (codes "With") (string w.other) no_members)))))))))))

-- the same as a line of text
abbrev pub json_line : List ℕ → Option ℕ → ℕ → Work → List ℕ
json_line controller bytes now w = compact_text (work_data controller bytes now w) ++ 10 ∷ []
