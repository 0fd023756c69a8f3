-- The rows of a part's draft are an outline, so that a part is never refused for rows that are no tree.
use Rattle.std.proofs.Common.{◌≡◌, ℕ, true, List, [], ◌∷◌, Option, Some, None, Result, Ok, Err, IfErr, ap, ◌∙◌, subst, codes}
use Rattle.std.specs.Bool.{⊤}
use Rattle.std.specs.List.{list_all}
use Rattle.std.specs.Option.{IfSome, option_map_or}
use Rattle.serde_json.specs.Data.{Data}
use Rattle.ticket_rows.specs.Outline.{is_outline}
use Rattle.ticket_tree.specs.Part.{PartCopy}
use Rattle.ticket_rows.specs.Copies.{with_copies}
use Rattle.ticket_rows.specs.Ticket.{depths}
use Rattle.ticket_items.specs.declared.ancestor.Ancestor.{Ancestor}
use Rattle.ticket_items.specs.declared.refusal.Refusal.{Refusal}
use Rattle.ticket_items.specs.declared.refusal.Refusal.TheVariants.{NotATree, NotProfile}
use Rattle.json_items.specs.TicketDraft.{RawRow, are_bare, node_rows}
use Rattle.json_items.specs.Validation.{Answers, checked_value}
use Rattle.json_items.specs.PartDraft.{Groups, RawPart, RowsAndCopies, ancestors_under, groups_of, part_form, part_members, raw_part, rows_and_copies, rows_and_copies_of}
use Rattle.json_items.specs.PartForm.{built_fault, has_names, has_texts, part_fault, part_of_raw, part_read}
use Rattle.json_items.specs.Spawns.{spawn_named}
use Rattle.json_source.specs.Read.{◌>>=◌, some_if, text_under}
use Rattle.json_profile.proofs.Again.{raw_depths}
use Rattle.json_profile.proofs.Outlines.{root_is_tree, depths-raw, IsOther, fault_of-outline, draft_fault, judged_other, memory_or}

abbrev IsTree : RowsAndCopies → Type 0
IsTree t = is_outline (depths (with_copies t.rows t.rw t.ro)) ≡ true

groups_tree : (root : RawRow) (raws : List RawRow) (bare : Option ⊤) (groups : Option Groups) → is_outline (raw_depths (root ∷ raws)) ≡ true
    → IfSome {T = RowsAndCopies} (bare >>= λ _. groups >>= λ g. Some (rows_and_copies_of root.row raws g)) IsTree
groups_tree root raws None groups h = tt
groups_tree root raws (Some u) None h = tt
groups_tree root raws (Some u) (Some g) h = ap is_outline (ap (λ ds. root.row.depth ∷ ds) (depths-raw raws)) ∙ h

taken_tree : (spawn : List ℕ) (raws : List RawRow) → is_outline (raw_depths raws) ≡ true → IfSome (rows_and_copies spawn raws) IsTree
taken_tree spawn [] h = tt
taken_tree spawn (root ∷ raws) h = groups_tree root raws (some_if (list_all (λ r. are_bare r.pool) raws)) (groups_of spawn root.pool) h

rows_tree : (job : List ℕ) (spawn : ℕ) (ancestors : List Ancestor) (t : Option RowsAndCopies) → IfSome t IsTree → IfSome {T = RawPart} (t >>= λ x. Some (raw_part job spawn ancestors x)) (λ p. is_outline (depths (with_copies p.rows p.rw p.ro)) ≡ true)
rows_tree job spawn ancestors None h = tt
rows_tree job spawn ancestors (Some t) h = h

part_made : (job spawn : Option (List ℕ)) (ancestors : Option (List Ancestor)) (rows : Option (List RawRow)) → IfSome rows (λ raws. is_outline (raw_depths raws) ≡ true)
    → IfSome {T = RawPart} (job >>= λ j. spawn >>= λ s. ancestors >>= λ a. rows >>= λ raws. rows_and_copies s raws >>= λ t. Some (raw_part j (spawn_named s) a t)) (λ p. is_outline (depths (with_copies p.rows p.rw p.ro)) ≡ true)
part_made None spawn ancestors rows h = tt
part_made (Some j) None ancestors rows h = tt
part_made (Some j) (Some s) None rows h = tt
part_made (Some j) (Some s) (Some a) None h = tt
part_made (Some j) (Some s) (Some a) (Some raws) h = rows_tree j (spawn_named s) a (rows_and_copies s raws) (taken_tree s raws h)

part_is_outline : (d : Data) → IfSome (part_form d) (λ p. is_outline (depths (with_copies p.rows p.rw p.ro)) ≡ true)
unfolding part_form
part_is_outline d =
    part_made (text_under (codes "JobID") d) (text_under (codes "SpawnID") d) (ancestors_under (codes "AncestorPool") d) (node_rows part_members 1 d) (root_is_tree part_members d)

part_other : (p : RawPart) → is_outline (depths (with_copies p.rows p.rw p.ro)) ≡ true → IfErr (checked_value (part_fault p) (part_of_raw p)) IsOther
part_other p h = judged_other (part_fault p) (part_of_raw p) (draft_fault (has_names p) (has_texts p) (built_fault p) (fault_of-outline (with_copies p.rows p.rw p.ro) h))

read_other : (read : Option RawPart) → IfSome read (λ p. is_outline (depths (with_copies p.rows p.rw p.ro)) ≡ true) → IfErr (option_map_or (λ p. checked_value (part_fault p) (part_of_raw p)) read (Err NotProfile)) IsOther
read_other None h = tt
read_other (Some p) h = part_other p h

-- a part is never refused for rows that are no tree
pub never_no_part_tree : (d : Data) (result : Result PartCopy Refusal) → Answers result (part_read d) → IfErr result (λ e. e ≡ NotATree → ⊥)
never_no_part_tree d (Ok x) h = tt
never_no_part_tree d (Err e) h = λ same. subst IsOther same (memory_or e (part_read d) (read_other (part_form d) (part_is_outline d)) h)
