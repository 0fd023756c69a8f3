-- The rows of a draft are an outline: each child stands one deeper than its parent, as far as depths are counted.
use Rattle.std.proofs.Common.{◌≡◌, ℕ, suc, ◌≤◌, true, List, [], ◌∷◌, ◌++◌, map, Option, Some, None, refl, sym, ap, ◌∙◌, subst, arith, append_assoc, append-nil}
use Rattle.std.proofs.lemmas.Bool.{and_from, le-leb}
use Rattle.std.proofs.lemmas.List.{map-append}
use Rattle.std.specs.Bool.{⊤}
use Rattle.std.specs.Option.{IfSome, option_map, option_map_or}
use Rattle.std.specs.Cmp.Lexicographic.{slice_cmp}
use Rattle.std.specs.Ordering.{nat_cmp, match_ordering}
use Rattle.std.proofs.Common.{◌==◌, ◌⊎◌, inl, inr, Bool, false, Ordering, Less, Equal, Greater, codes, Result, Ok, Err, IfErr}
use Rattle.serde_json.specs.Data.{Data, null, boolean, number, string, array, object, Items, no_items, item, Members, no_members, member}
use Rattle.serde_json.specs.Find.{get}
use Rattle.ticket_items.specs.Attrs.{Pairs}
use Rattle.ticket_rows.specs.Outline.{goes_on, is_outline}
use Rattle.ticket_rows.specs.Ticket.{Job, depths, ids, are_unreserved, are_shallow, are_resolved, unless, first_of, fault_of}
use Rattle.ticket_items.specs.declared.audit.Audit.{Audit}
use Rattle.ticket_items.specs.declared.link.Link.{Link}
use Rattle.ticket_items.specs.declared.node_row.NodeRow.{NodeRow}
use Rattle.json_items.specs.Audits.{audit_form}
use Rattle.json_items.specs.Listed.{pool_form}
use Rattle.json_items.specs.Resources.{MarkedResource}
use Rattle.json_items.specs.Resources.{resource_form}
use Rattle.json_items.specs.Links.{link_form}
use Rattle.json_items.specs.TicketDraft.{RawRow, RawTicket, child_rows, item_rows, list_rows, next_depth, node_members, node_rows, own_row, raw_ticket, resources_of, root_members, ticket_form}
use Rattle.json_profile.proofs.Again.{raw_depths}
use Rattle.ticket_items.specs.Ids.{are_distinct}
use Rattle.ticket_items.specs.declared.refusal.Refusal.{Refusal}
use Rattle.ticket_items.specs.declared.refusal.Refusal.TheVariants.{BadId, DuplicateId, TooDeep, ReservedStatus, BadText, NotATree, NotProfile, UnresolvedLink, Memory}
use Rattle.json_items.specs.Validation.{Answers, checked_value}
use Rattle.json_items.specs.TicketForm.{has_names, has_texts, built_fault, ticket_fault, ticket_read}
use Rattle.json_source.specs.Read.{◌>>=◌, some_if, has_only, text_under, attrs_of}

-- ---- a node's own row

-- stands at its depth
abbrev StandsAt : ℕ → RawRow → Type 0
StandsAt depth r = r.row.depth ≡ depth

pools_made : (depth : ℕ) (i j k s : List ℕ) (a : Pairs) (resources : Option (List MarkedResource)) (links : Option (List Link)) (audits : Option (List Audit))
    → IfSome {T = RawRow} (resources >>= λ xs. links >>= λ ls. audits >>= λ us. Some (record { row = record { id = i; depth = depth; kind = k; job_part = j; status = s; attrs = a; resources = resources_of xs; links = ls; audits = us }; pool = xs })) (StandsAt depth)
pools_made depth i j k s a None links audits = tt
pools_made depth i j k s a (Some xs) None audits = tt
pools_made depth i j k s a (Some xs) (Some ls) None = tt
pools_made depth i j k s a (Some xs) (Some ls) (Some us) = refl

own_made : (depth : ℕ) (fits : Option ⊤) (id job_part kind status : Option (List ℕ)) (attrs : Option Pairs) (resources : Option (List MarkedResource)) (links : Option (List Link)) (audits : Option (List Audit))
    → IfSome {T = RawRow} (fits >>= λ _. id >>= λ i. job_part >>= λ j. kind >>= λ k. status >>= λ s. attrs >>= λ a. resources >>= λ xs. links >>= λ ls. audits >>= λ us.
    Some (record { row = record { id = i; depth = depth; kind = k; job_part = j; status = s; attrs = a; resources = resources_of xs; links = ls; audits = us }; pool = xs })) (StandsAt depth)
own_made depth None id job_part kind status attrs resources links audits = tt
own_made depth (Some u) None job_part kind status attrs resources links audits = tt
own_made depth (Some u) (Some i) None kind status attrs resources links audits = tt
own_made depth (Some u) (Some i) (Some j) None status attrs resources links audits = tt
own_made depth (Some u) (Some i) (Some j) (Some k) None attrs resources links audits = tt
own_made depth (Some u) (Some i) (Some j) (Some k) (Some s) None resources links audits = tt
own_made depth (Some u) (Some i) (Some j) (Some k) (Some s) (Some a) resources links audits = pools_made depth i j k s a resources links audits

own_depth : (names : List (List ℕ)) (depth : ℕ) (d : Data) → IfSome (own_row names depth d) (StandsAt depth)
unfolding own_row
own_depth names depth d =
    own_made depth (some_if (has_only names d)) (text_under (codes "ID") d) (text_under (codes "JobPartID") d) (text_under (codes "Type") d) (text_under (codes "Status") d) (attrs_of (get (codes "Attr") d))
    (pool_form resource_form (get (codes "ResourcePool") d)) (pool_form link_form (get (codes "ResourceLinkPool") d)) (pool_form audit_form (get (codes "AuditPool") d))

-- ---- nodes below the root

-- rows of nodes at this depth may follow any row that may have such a child, if what comes behind them may
abbrev Continues : ℕ → List RawRow → Type 0
Continues depth rows = (above : ℕ) (behind : List ℕ) → depth ≤ suc above → ((b : ℕ) → depth ≤ suc b → goes_on b behind ≡ true) → goes_on above (raw_depths rows ++ behind) ≡ true

next_near : (r depth : ℕ) → r ≡ depth → next_depth depth ≤ suc r
next_near r depth e = omega (arith, e)

next_far : (depth b : ℕ) → depth ≤ 33 → next_depth depth ≤ suc b → depth ≤ suc b
next_far depth b high later = omega (arith, high, later)

-- a row in front of its children
with_kids : (depth : ℕ) (row : RawRow) (kids : List RawRow) → 2 ≤ depth → depth ≤ 33 → row.row.depth ≡ depth → Continues (next_depth depth) kids → Continues depth (row ∷ kids)
with_kids depth row kids low high at below = λ above behind near go.
    and_from _ _
    (and_from _ _ (le-leb 2 row.row.depth (subst (λ n. 2 ≤ n) (sym at) low)) (le-leb row.row.depth (suc above) (subst (λ n. n ≤ suc above) (sym at) near)))
    (below row.row.depth behind (next_near row.row.depth depth at) (λ b later. go b (next_far depth b high later)))

-- the rows of a node in front of those of the nodes behind it
in_front : (depth : ℕ) (first rest : List RawRow) → Continues depth first → Continues depth rest → Continues depth (first ++ rest)
in_front depth first rest f r = λ above behind near go.
    ap (λ ds. goes_on above (ds ++ behind)) (map-append (λ r. r.row.depth) first rest) ∙ ap (goes_on above) (append_assoc (raw_depths first) (raw_depths rest) behind)
    ∙ f above (raw_depths rest ++ behind) near (λ b later. r b behind later go)

none_continues : (depth : ℕ) → Continues depth []
none_continues depth = λ above behind near go. go above near

headed : (depth : ℕ) (own : Option RawRow) (kids : Option (List RawRow)) → 2 ≤ depth → depth ≤ 33 → IfSome own (StandsAt depth) → IfSome kids (Continues (next_depth depth))
    → IfSome (own >>= λ row. option_map (λ rows. row ∷ rows) kids) (Continues depth)
headed depth None kids low high at below = tt
headed depth (Some row) None low high at below = tt
headed depth (Some row) (Some kids) low high at below = with_kids depth row kids low high at below

followed : (depth : ℕ) (first rest : Option (List RawRow)) → IfSome first (Continues depth) → IfSome rest (Continues depth) → IfSome (first >>= λ f. option_map (λ r. f ++ r) rest) (Continues depth)
followed depth None rest f r = tt
followed depth (Some x) None f r = tt
followed depth (Some x) (Some y) f r = in_front depth x y f r

chosen : (o : Ordering) (P : List RawRow → Type 0) (here others : Option (List RawRow)) → IfSome here P → IfSome others P → IfSome (match_ordering o others here others) P
chosen Less P here others h r = r
chosen Equal P here others h r = h
chosen Greater P here others h r = r

next_low : (depth : ℕ) → 1 ≤ depth → 2 ≤ next_depth depth
next_low depth low = omega (arith, low)

next_high : (depth : ℕ) → next_depth depth ≤ 33
next_high depth = omega arith

below_root : (depth : ℕ) → 2 ≤ depth → 1 ≤ depth
below_root depth low = omega (arith, low)

mutual
  node_continues : (names : List (List ℕ)) (depth : ℕ) (d : Data) → 2 ≤ depth → depth ≤ 33 → IfSome (node_rows names depth d) (Continues depth)
  node_continues names depth null low high = tt
  node_continues names depth (boolean b) low high = tt
  node_continues names depth (number n) low high = tt
  node_continues names depth (string s) low high = tt
  node_continues names depth (array ds) low high = tt
  node_continues names depth (object ms) low high =
      headed depth (own_row names depth (object ms)) (child_rows (next_depth depth) ms) low high (own_depth names depth (object ms))
      (children_continue (next_depth depth) ms (next_low depth (below_root depth low)) (next_high depth))

  children_continue : (depth : ℕ) (ms : Members) → 2 ≤ depth → depth ≤ 33 → IfSome (child_rows depth ms) (Continues depth)
  children_continue depth no_members low high = none_continues depth
  children_continue depth (member k d ms) low high =
      chosen (slice_cmp nat_cmp (codes "JDF") k) (Continues depth) (list_rows depth d) (child_rows depth ms) (list_continues depth d low high) (children_continue depth ms low high)

  list_continues : (depth : ℕ) (d : Data) → 2 ≤ depth → depth ≤ 33 → IfSome (list_rows depth d) (Continues depth)
  list_continues depth null low high = tt
  list_continues depth (boolean b) low high = tt
  list_continues depth (number n) low high = tt
  list_continues depth (string s) low high = tt
  list_continues depth (array ds) low high = items_continue depth ds low high
  list_continues depth (object ms) low high = tt

  items_continue : (depth : ℕ) (ds : Items) → 2 ≤ depth → depth ≤ 33 → IfSome (item_rows depth ds) (Continues depth)
  items_continue depth no_items low high = none_continues depth
  items_continue depth (item d ds) low high = followed depth (node_rows node_members depth d) (item_rows depth ds) (node_continues node_members depth d low high) (items_continue depth ds low high)

-- ---- the root

root_outline : (own : Option RawRow) (kids : Option (List RawRow)) → IfSome own (StandsAt 1) → IfSome kids (Continues 2) → IfSome (own >>= λ row. option_map (λ rows. row ∷ rows) kids) (λ rows. is_outline (raw_depths rows) ≡ true)
root_outline None kids at below = tt
root_outline (Some row) None at below = tt
root_outline (Some row) (Some kids) at below = and_from _ _ (ap (λ n. n == 1) at) (ap (goes_on 1) (sym (append-nil (raw_depths kids))) ∙ below 1 [] (next_low 1 (omega arith)) (λ b later. refl))

pub root_is_tree : (names : List (List ℕ)) (d : Data) → IfSome (node_rows names 1 d) (λ rows. is_outline (raw_depths rows) ≡ true)
root_is_tree names null = tt
root_is_tree names (boolean b) = tt
root_is_tree names (number n) = tt
root_is_tree names (string s) = tt
root_is_tree names (array ds) = tt
root_is_tree names (object ms) = root_outline (own_row names 1 (object ms)) (child_rows 2 ms) (own_depth names 1 (object ms)) (children_continue 2 ms (omega arith) (omega arith))

pub depths-raw : (raws : List RawRow) → depths (map (λ r. r.row) raws) ≡ raw_depths raws
depths-raw [] = refl
depths-raw (r ∷ raws) = ap (λ ds. r.row.depth ∷ ds) (depths-raw raws)

job_made : (job : Option (List ℕ)) (rows : Option (List RawRow)) → IfSome rows (λ rows. is_outline (raw_depths rows) ≡ true)
    → IfSome {T = RawTicket} (job >>= λ j. rows >>= λ rs. Some (raw_ticket j rs)) (λ t. is_outline (depths t.job.rows) ≡ true)
job_made None rows h = tt
job_made (Some j) None h = tt
job_made (Some j) (Some rs) h = ap is_outline (depths-raw rs) ∙ h

-- the rows of a ticket's draft are an outline
pub draft_is_outline : (d : Data) → IfSome (ticket_form d) (λ t. is_outline (depths t.job.rows) ≡ true)
unfolding ticket_form
draft_is_outline d = job_made (text_under (codes "JobID") d) (node_rows root_members 1 d) (root_is_tree root_members d)

-- ---- what is wrong with a draft

-- any refusal but that of rows that are no tree
abbrev pub IsOther : Refusal → Type 0
IsOther NotATree = ⊥
IsOther e = Unit {0}

rows_fault : (unreserved distinct shallow resolved : Bool)
    → IfSome (first_of (unless unreserved ReservedStatus ∷ unless distinct DuplicateId ∷ unless shallow TooDeep ∷ unless resolved UnresolvedLink ∷ [])) IsOther
rows_fault false distinct shallow resolved = tt
rows_fault true false shallow resolved = tt
rows_fault true true false resolved = tt
rows_fault true true true false = tt
rows_fault true true true true = tt

pub fault_of-outline : (rows : List NodeRow) → is_outline (depths rows) ≡ true → IfSome (fault_of rows) IsOther
fault_of-outline rows h =
    subst (λ b. IfSome (first_of (unless b NotATree ∷ unless (are_unreserved rows) ReservedStatus ∷ unless (are_distinct (ids rows)) DuplicateId ∷ unless (are_shallow rows) TooDeep ∷ unless (are_resolved rows) UnresolvedLink ∷ [])) IsOther) (sym h)
    (rows_fault (are_unreserved rows) (are_distinct (ids rows)) (are_shallow rows) (are_resolved rows))

made_fault : (bare : Bool) (f : Option Refusal) → IfSome f IsOther → IfSome (first_of (unless bare ReservedStatus ∷ f ∷ [])) IsOther
made_fault false f h = tt
made_fault true None h = tt
made_fault true (Some e) h = h

pub draft_fault : (names texts : Bool) (f : Option Refusal) → IfSome f IsOther → IfSome (first_of (unless names BadId ∷ unless texts BadText ∷ f ∷ [])) IsOther
draft_fault false texts f h = tt
draft_fault true false f h = tt
draft_fault true true None h = tt
draft_fault true true (Some e) h = h

pub judged_other : {X : Type 0} (f : Option Refusal) (x : X) → IfSome f IsOther → IfErr (checked_value f x) IsOther
judged_other None x h = tt
judged_other (Some e) x h = h

ticket_other : (t : RawTicket) → is_outline (depths t.job.rows) ≡ true → IfErr (checked_value (ticket_fault t) t.job) IsOther
ticket_other t h = judged_other (ticket_fault t) t.job (draft_fault (has_names t) (has_texts t) (built_fault t) (made_fault t.bare (fault_of t.job.rows) (fault_of-outline t.job.rows h)))

pub memory_or : {X : Type 0} (e : Refusal) (read : Result X Refusal) → IfErr read IsOther → (e ≡ Memory) ⊎ (read ≡ Err e) → IsOther e
memory_or e read h (inl m) = subst IsOther (sym m) tt
memory_or e read h (inr r) = subst (λ x. IfErr x IsOther) r h

read_other : (read : Option RawTicket) → IfSome read (λ t. is_outline (depths t.job.rows) ≡ true) → IfErr (option_map_or (λ t. checked_value (ticket_fault t) t.job) read (Err NotProfile)) IsOther
read_other None h = tt
read_other (Some t) h = ticket_other t h

-- a ticket is never refused for rows that are no tree
pub never_no_tree : (d : Data) (result : Result Job Refusal) → Answers result (ticket_read d) → IfErr result (λ e. e ≡ NotATree → ⊥)
never_no_tree d (Ok x) h = tt
never_no_tree d (Err e) h = λ same. subst IsOther same (memory_or e (ticket_read d) (read_other (ticket_form d) (draft_is_outline d)) h)
