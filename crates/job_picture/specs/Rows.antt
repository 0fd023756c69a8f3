-- The row of a node in a picture, with the resources of its pool.
use Rattle.std.specs.Prelude.{ℕ, ◌+◌, ◌*◌, ◌++◌, ◌==◌, Bool, List, [], ◌∷◌, codes, length}
use Rattle.std.specs.Prelude.{if◌then◌else◌, Option, Some, None, string_bytes}
use Rattle.std.specs.Fmt.{decimal}
use Rattle.std.specs.List.{filter, flat_map}
use Rattle.std.specs.Str.{bytes_eq}
use Rattle.ticket_items.specs.SpawnId.{spawn_text}
use Rattle.ticket_items.specs.SpawnStatus.{status_word}
use Rattle.ticket_items.specs.declared.node_row.NodeRow.{NodeRow}
use Rattle.ticket_items.specs.declared.res_mark.ResMark.{ResMark}
use Rattle.ticket_items.specs.declared.resource.Resource.{Resource}
use Rattle.ticket_items.specs.declared.spawn_status.SpawnStatus.{SpawnStatus}
use Rattle.job_list.specs.Work.{descriptive_name}
use Rattle.job_picture.specs.Progress.{progress_of, shape_of}
use Rattle.job_picture.specs.Svg.{held_text, label, shade, shape}
use Rattle.job_picture.specs.Texts.{escaped_text, room_behind, short_text}
use Rattle.job_picture.specs.declared.progress.Progress.{Progress}
use Rattle.job_picture.specs.declared.node_line.NodeLine.{NodeLine}

-- the row of a node, and how far that is
pub record Line : Type 0 where
  pub progress : Progress
  pub text : List ℕ

abbrev pub line_of : NodeLine → Line
line_of l = record { progress = l.progress; text = string_bytes l.text }

-- ---- in words

-- with which spawns copies went
abbrev pub spawn_words : List ℕ → List ℕ
spawn_words spawns = flat_map (λ s. codes " " ++ spawn_text s) spawns

-- copies that are out, and with which spawns
abbrev pub copies_words : SpawnStatus → List ℕ → List ℕ
copies_words status spawns = codes " " ++ status_word status ++ spawn_words spawns

-- what a mark tells of copies, if there is one
abbrev pub mark_words : Option ResMark → List ℕ
mark_words None = []
mark_words (Some k) = copies_words k.status k.spawn_ids

-- a resource, on a line of its own, with what is told of copies
unfoldable pub resource_words : Resource → List ℕ → List ℕ
resource_words x copies =
    codes "&#10;" ++ x.id ++ codes " " ++ x.class ++ codes " " ++ x.name ++ codes " " ++ x.status
    ++ copies

-- each resource of a pool, by the marks of resources
abbrev pub pool_words : (List ℕ → Option ResMark) → List Resource → List ℕ
pool_words mark pool = flat_map (λ x. resource_words x (mark_words (mark x.id))) pool

-- copies that went with a spawn, each on a line of its own
abbrev pub copy_words : SpawnStatus → ℕ → List Resource → List ℕ
copy_words status s xs = flat_map (λ x. resource_words x (copies_words status (s ∷ []))) xs

-- a name for people, behind a comma, if there is one
abbrev pub name_words : Option (List ℕ) → List ℕ
name_words None = []
name_words (Some name) = codes ", " ++ escaped_text name

-- a node, whole
unfoldable pub node_words : NodeRow → List ℕ → List ℕ
node_words r pool =
    r.id ++ codes " " ++ r.kind ++ name_words (descriptive_name r) ++ codes ": " ++ r.status ++ pool

-- ---- drawn

-- whether a resource is there to be used
abbrev pub is_available : Resource → Bool
is_available x = bytes_eq x.status (codes "Available")

-- how many resources of a pool are there, of how many
unfoldable pub counts_text : List Resource → List ℕ
counts_text pool =
    decimal (length (filter is_available pool)) ++ codes "/" ++ decimal (length pool)

-- the same, and nothing where there are none
unfoldable pub pool_text : List Resource → List ℕ
pool_text pool = if length pool == 0 then [] else counts_text pool

-- what a node is called, in a room of so many characters: its DescriptiveName or, where it has
-- none, its Type
abbrev pub node_title : ℕ → NodeRow → Option (List ℕ) → List ℕ
node_title room r None = short_text room r.kind
node_title room r (Some name) = short_text room name

-- the id and the name of a node
unfoldable pub node_label : NodeRow → List ℕ
node_label r =
    codes "<tspan class='b'>" ++ short_text 20 r.id ++ codes "</tspan> "
    ++ node_title (room_behind 34 20 r.id) r (descriptive_name r)

-- the shape, the id and the name of a node
unfoldable pub node_drawn : NodeRow → Progress → List ℕ
node_drawn r progress =
    codes "<svg width='404' height='25'>" ++ shape (shape_of progress) (10 * r.depth) 3
    ++ label (codes "n") (10 * r.depth + 26) 18 (node_label r) ++ codes "</svg>"

-- the Status of a node, the spawn that holds it, and its resources
unfoldable pub node_facts : NodeRow → Option ℕ → List ℕ
node_facts r held =
    label (codes "s") 410 18 (short_text 13 r.status) ++ label (codes "s b") 514 18 (held_text held)
    ++ label (codes "s e") 604 18 (pool_text r.resources)

-- the row of a node that a spawn holds, or none, with its resources in words
unfoldable pub node_text : NodeRow → Option ℕ → Progress → List ℕ → List ℕ
node_text r held progress pool =
    codes "<title>" ++ node_words r pool ++ codes "</title><rect class='c"
    ++ decimal (shade held) ++ codes "' width='610' height='25'/>" ++ node_drawn r progress
    ++ node_facts r held

-- the line of a node that a spawn holds, or none, by the marks of resources, with copies in words
abbrev pub node_line : (List ℕ → Option ResMark) → NodeRow → Option ℕ → List ℕ → Line
node_line mark r held copies =
    record {
      progress = progress_of r.status;
      text =
          node_text r held (progress_of r.status) (pool_words mark r.resources ++ copies);
    }
