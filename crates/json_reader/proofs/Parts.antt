-- The groups of the resources of a part's root, and what is found of a part.
use Rattle.std.proofs.Common.{◌≡◌, ◌∙◌, ℕ, ◌+◌, Bool, true, false, cond, List, [], ◌∷◌, map, take, drop, codes, Option, Some, None, refl, sym, ap}
use Rattle.std.proofs.lemmas.List.{drop-map, take-map}
use Rattle.std.proofs.lemmas.List.Folds.{list_all-map}
use Rattle.std.specs.List.{list_all, prefix_len}
use Rattle.std.specs.Option.{option_and_then, option_map}
use Rattle.serde_json.specs.Data.{Data}
use Rattle.serde_json.specs.Find.{as_array, as_str, get}
use Rattle.ticket_items.specs.declared.ancestor.Ancestor.{Ancestor}
use Rattle.json_items.specs.Ancestors.{ancestor_form}
use Rattle.json_items.specs.Validation.{both_read}
use Rattle.json_items.specs.Listed.{items_read, list_form}
use Rattle.json_items.specs.Members.{three_form}
use Rattle.json_items.specs.PartDraft.{Groups, RowsAndCopies, ancestors_under, groups_of, is_change, is_read, part_form, part_members, raw_part, rows_and_copies, rows_and_copies_of}
use Rattle.json_items.specs.Resources.{MarkedResource}
use Rattle.json_items.specs.Shown.{shows_change, shows_nothing, shows_read}
use Rattle.json_items.specs.Spawns.{spawn_form, spawn_named}
use Rattle.json_items.specs.TicketDraft.{RawRow, are_bare, next_depth, node_rows, own_row, resources_of}
use Rattle.json_items.specs.declared.resources.shown_form.Showing.{Showing}
use Rattle.json_source.specs.Read.{◌>>=◌, some_if, text_under}
use Rattle.json_reader.proofs.Nodes.{node_rows-get}
use Rattle.json_reader.proofs.PartNames.{Outer}
use Rattle.json_reader.proofs.Rows.{none_then}
use Rattle.json_reader.specs.Found.{showings_of}
use Rattle.json_reader.specs.Gathered.{rows_under}
use Rattle.json_reader.specs.Groups.{group_sizes, split_rows, taken_form}
use Rattle.json_reader.specs.declared.part_groups.GroupSizes.{GroupSizes}

-- ---- groups, by how many resources stand in each

prefix_len-shown : (p : Showing → Bool) (pool : List MarkedResource) → prefix_len (λ m. p m.shown) pool ≡ prefix_len p (showings_of pool)
prefix_len-shown p [] = refl
prefix_len-shown p (m ∷ pool) = ap (λ n. cond (p m.shown) (1 + n) 0) (prefix_len-shown p pool)

abbrev sized : ℕ → ℕ → List MarkedResource → Groups
sized own rw pool = record { own = take own pool; rw = take rw (drop own pool); ro = drop rw (drop own pool) }

abbrev tested : ℕ → ℕ → List MarkedResource → Bool → Option Groups
tested own rw pool test = some_if test >>= λ _. Some (sized own rw pool)

abbrev changes_at : List ℕ → List MarkedResource → ℕ → ℕ
changes_at spawn pool own = prefix_len (is_change spawn) (drop own pool)

abbrev reads_at : List ℕ → List MarkedResource → ℕ → ℕ → Bool
reads_at spawn pool own rw = list_all (is_read spawn) (drop rw (drop own pool))

same_changes : (spawn : List ℕ) (pool : List MarkedResource) (own : ℕ) → prefix_len (shows_change spawn) (drop own (showings_of pool)) ≡ changes_at spawn pool own
same_changes spawn pool own = ap (prefix_len (shows_change spawn)) (drop-map (λ m. m.shown) own pool) ∙ sym (prefix_len-shown (shows_change spawn) (drop own pool))

same_reads : (spawn : List ℕ) (pool : List MarkedResource) (own rw : ℕ) → list_all (shows_read spawn) (drop rw (drop own (showings_of pool))) ≡ reads_at spawn pool own rw
same_reads spawn pool own rw =
    ap (list_all (shows_read spawn)) (ap (drop rw) (drop-map (λ m. m.shown) own pool) ∙ drop-map (λ m. m.shown) rw (drop own pool)) ∙ list_all-map (shows_read spawn) (λ m. m.shown) (drop rw (drop own pool))

tested-sizes : (pool : List MarkedResource) (s : GroupSizes) (test : Bool) → ((some_if test >>= λ _. Some s) >>= λ x. Some (sized x.own x.rw pool)) ≡ tested s.own s.rw pool test
tested-sizes pool s true = refl
tested-sizes pool s false = refl

groups_of-sizes : (spawn : List ℕ) (pool : List MarkedResource) → (group_sizes spawn (showings_of pool) >>= λ s. Some (sized s.own s.rw pool)) ≡ groups_of spawn pool
groups_of-sizes spawn pool =
    let shown = showings_of pool in
    let own = prefix_len shows_nothing shown in
    let rw = prefix_len (shows_change spawn) (drop own shown) in
    tested-sizes pool (record { own = own; rw = rw }) (list_all (shows_read spawn) (drop rw (drop own shown)))
    ∙ ap (tested own rw pool) (same_reads spawn pool own rw)
    ∙ ap (λ n. tested own n pool (reads_at spawn pool own n)) (same_changes spawn pool own)
    ∙ ap (λ n. tested n (changes_at spawn pool n) pool (reads_at spawn pool n (changes_at spawn pool n))) (sym (prefix_len-shown shows_nothing pool))

-- ---- the copies, taken out of the rows

same_split : (root : RawRow) (raws : List RawRow) (s : GroupSizes) → root.row.resources ≡ resources_of root.pool → rows_and_copies_of root.row raws (sized s.own s.rw root.pool) ≡ split_rows s (root.row ∷ map (λ r. r.row) raws)
same_split root raws s is =
    let behind : resources_of (drop s.own root.pool) ≡ drop s.own root.row.resources = sym (drop-map (λ m. m.resource) s.own root.pool) ∙ ap (drop s.own) (sym is) in
    let own : resources_of (take s.own root.pool) ≡ take s.own root.row.resources = sym (take-map (λ m. m.resource) s.own root.pool) ∙ ap (take s.own) (sym is) in
    let rw : resources_of (take s.rw (drop s.own root.pool)) ≡ take s.rw (drop s.own root.row.resources) = sym (take-map (λ m. m.resource) s.rw (drop s.own root.pool)) ∙ ap (take s.rw) behind in
    let ro : resources_of (drop s.rw (drop s.own root.pool)) ≡ drop s.rw (drop s.own root.row.resources) = sym (drop-map (λ m. m.resource) s.rw (drop s.own root.pool)) ∙ ap (drop s.rw) behind in
    λ i. record { rows = record root.row { resources = own i } ∷ map (λ r. r.row) raws; rw = rw i; ro = ro i }

-- the nodes below a part's root
abbrev pub below : Data → Option (List RawRow)
below d = rows_under (next_depth 1) (get (codes "JDF") d)

-- a root alone, without what its resources show
abbrev pub alone : RawRow → RawRow
alone root = record { row = root.row; pool = [] }

mapped_then : {X Y Z : Type 0} (o : Option X) (f : X → Y) (g : Y → Option Z) → (option_map f o >>= g) ≡ (o >>= λ x. g (f x))
mapped_then None f g = refl
mapped_then (Some x) f g = refl

named : (d : Data) (spawn : List ℕ) → text_under (codes "SpawnID") d ≡ Some spawn → taken_form d ≡ (node_rows part_members 1 d >>= rows_and_copies spawn)
named d spawn is = ap (λ o. o >>= λ s. node_rows part_members 1 d >>= rows_and_copies s) is

rooted : (d : Data) (spawn : List ℕ) (root : RawRow) → text_under (codes "SpawnID") d ≡ Some spawn → own_row part_members 1 d ≡ Some root → taken_form d ≡ (below d >>= λ raws. rows_and_copies spawn (root ∷ raws))
rooted d spawn root is own =
    named d spawn is
    ∙ ap (λ o. o >>= rows_and_copies spawn) (node_rows-get part_members 1 d ∙ ap (λ o. o >>= λ row. option_map (λ rows. row ∷ rows) (below d)) own)
    ∙ mapped_then (below d) (λ rows. root ∷ rows) (rows_and_copies spawn)

pub no_groups : (d : Data) (spawn : List ℕ) (root : RawRow) → text_under (codes "SpawnID") d ≡ Some spawn → own_row part_members 1 d ≡ Some root → group_sizes spawn (showings_of root.pool) ≡ None → taken_form d ≡ None
no_groups d spawn root is own none =
    let ungrouped : groups_of spawn root.pool ≡ None = sym (groups_of-sizes spawn root.pool) ∙ ap (λ o. o >>= λ s. Some (sized s.own s.rw root.pool)) none in
    rooted d spawn root is own
    ∙ none_then (below d) (λ raws. rows_and_copies spawn (root ∷ raws))
    (λ raws. none_then (some_if (list_all (λ r. are_bare r.pool) raws)) (λ _. groups_of spawn root.pool >>= λ g. Some (rows_and_copies_of root.row raws g)) (λ _. ap (λ o. o >>= λ g. Some (rows_and_copies_of root.row raws g)) ungrouped))

pub none_below : (d : Data) (spawn : List ℕ) (root : RawRow) → text_under (codes "SpawnID") d ≡ Some spawn → own_row part_members 1 d ≡ Some root → below d ≡ None → taken_form d ≡ None
none_below d spawn root is own none = rooted d spawn root is own ∙ ap (λ o. o >>= λ raws. rows_and_copies spawn (root ∷ raws)) none

tested_at : (bare : Bool) (spawn : List ℕ) (root : RawRow) (raws : List RawRow) → list_all (λ r. are_bare r.pool) raws ≡ bare → rows_and_copies spawn (root ∷ raws) ≡ (some_if bare >>= λ _. groups_of spawn root.pool >>= λ g. Some (rows_and_copies_of root.row raws g))
tested_at bare spawn root raws is = ap (λ b. some_if b >>= λ _. groups_of spawn root.pool >>= λ g. Some (rows_and_copies_of root.row raws g)) is

pub not_bare : (d : Data) (spawn : List ℕ) (root : RawRow) (raws : List RawRow) → text_under (codes "SpawnID") d ≡ Some spawn → own_row part_members 1 d ≡ Some root → below d ≡ Some raws → list_all (λ r. are_bare r.pool) raws ≡ false → taken_form d ≡ None
not_bare d spawn root raws is own read shows = rooted d spawn root is own ∙ ap (λ o. o >>= λ xs. rows_and_copies spawn (root ∷ xs)) read ∙ tested_at false spawn root raws shows

pub taken_read : (d : Data) (spawn : List ℕ) (root : RawRow) (raws : List RawRow) (s : GroupSizes) → text_under (codes "SpawnID") d ≡ Some spawn → own_row part_members 1 d ≡ Some root → root.row.resources ≡ resources_of root.pool → group_sizes spawn (showings_of root.pool) ≡ Some s
    → below d ≡ Some raws → list_all (λ r. are_bare r.pool) raws ≡ true → taken_form d ≡ Some (split_rows s (root.row ∷ map (λ r. r.row) raws))
taken_read d spawn root raws s is own pool sizes read shows =
    rooted d spawn root is own
    ∙ ap (λ o. o >>= λ xs. rows_and_copies spawn (root ∷ xs)) read
    ∙ tested_at true spawn root raws shows
    ∙ ap (λ o. o >>= λ g. Some (rows_and_copies_of root.row raws g)) (sym (groups_of-sizes spawn root.pool) ∙ ap (λ o. o >>= λ x. Some (sized x.own x.rw root.pool)) sizes)
    ∙ ap Some (same_split root raws s pool)

-- ---- from JSON data

abbrev pub outer : Data → Option Outer
outer d = three_form (codes "JobID") as_str (codes "SpawnID") spawn_form (codes "AncestorPool") (list_form ancestor_form) d

in_turn : (job spawn : Option (List ℕ)) (ancestors : Option (List Ancestor)) (raws : Option (List RawRow))
    → (job >>= λ j. spawn >>= λ s. ancestors >>= λ a. raws >>= λ r. rows_and_copies s r >>= λ t. Some (raw_part j (spawn_named s) a t))
    ≡ (both_read (both_read job (option_map spawn_named spawn)) ancestors >>= λ o. (spawn >>= λ s. raws >>= rows_and_copies s) >>= λ t. Some (raw_part o.0.0 o.0.1 o.1 t))
in_turn None spawn ancestors raws = refl
in_turn (Some j) None ancestors raws = refl
in_turn (Some j) (Some s) None raws = refl
in_turn (Some j) (Some s) (Some a) None = refl
in_turn (Some j) (Some s) (Some a) (Some r) = refl

-- the spawn under a name, by its text
spawn_under : (o : Option Data) → option_and_then spawn_form o ≡ option_map spawn_named (option_and_then as_str o)
spawn_under None = refl
spawn_under (Some d) = refl

-- the ancestors under a name
ancestors_listed : (o : Option Data) → option_and_then (list_form ancestor_form) o ≡ (option_and_then as_array o >>= items_read ancestor_form)
ancestors_listed None = refl
ancestors_listed (Some d) = refl

-- a part is what it has beside its nodes, and its nodes
in_parts : (d : Data) → part_form d ≡ (outer d >>= λ o. taken_form d >>= λ t. Some (raw_part o.0.0 o.0.1 o.1 t))
unfolding part_form
in_parts d =
    in_turn (text_under (codes "JobID") d) (text_under (codes "SpawnID") d) (ancestors_under (codes "AncestorPool") d) (node_rows part_members 1 d)
    ∙ (λ i. both_read (both_read (text_under (codes "JobID") d) (sym (spawn_under (get (codes "SpawnID") d)) i)) (sym (ancestors_listed (get (codes "AncestorPool") d)) i) >>= λ o. taken_form d >>= λ t. Some (raw_part o.0.0 o.0.1 o.1 t))

pub no_outer : (d : Data) → outer d ≡ None → part_form d ≡ None
no_outer d none = in_parts d ∙ ap (λ q. q >>= λ o. taken_form d >>= λ t. Some (raw_part o.0.0 o.0.1 o.1 t)) none

pub none_taken : (d : Data) → taken_form d ≡ None → part_form d ≡ None
none_taken d none =
    in_parts d ∙ none_then (outer d) (λ o. taken_form d >>= λ t. Some (raw_part o.0.0 o.0.1 o.1 t)) (λ o. ap (λ q. q >>= λ t. Some (raw_part o.0.0 o.0.1 o.1 t)) none)

pub part_read : (d : Data) (o : Outer) (t : RowsAndCopies) → outer d ≡ Some o → taken_form d ≡ Some t → part_form d ≡ Some (raw_part o.0.0 o.0.1 o.1 t)
part_read d o t outer_is taken_is =
    in_parts d ∙ ap (λ q. q >>= λ x. taken_form d >>= λ y. Some (raw_part x.0.0 x.0.1 x.1 y)) outer_is ∙ ap (λ q. q >>= λ y. Some (raw_part o.0.0 o.0.1 o.1 y)) taken_is
