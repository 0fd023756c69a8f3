-- What is wrong with parts, by the faults that were found in turn.
use Rattle.std.proofs.Common.{◌≡◌, ◌∙◌, ◌||◌, ◌==◌, Bool, true, false, List, [], ◌∷◌, ◌++◌, map, Option, Some, None, is_some, refl, ap, sym}
use Rattle.std.proofs.lemmas.Bool.{eq-eqb, or_parts, true≢false}
use Rattle.std.proofs.lemmas.List.Elements.{filter_map-append}
use Rattle.std.specs.List.{cons_option, filter_map, find, list_any}
use Rattle.std.specs.Option.{option_and_then, option_map_or}
use Rattle.ticket_items.proofs.Apart.{or_false}
use Rattle.ticket_items.proofs.Places.{is_some-find}
use Rattle.ticket_items.specs.Ids.{are_distinct}
use Rattle.ticket_items.specs.Refusal.{number_of}
use Rattle.ticket_items.specs.declared.refusal.Refusal.{Refusal}
use Rattle.ticket_items.specs.declared.refusal.Refusal.TheVariants.{DuplicateId, NotATree, ReservedStatus, TooDeep, UnresolvedLink}
use Rattle.ticket_rows.specs.Ticket.{are_resolved, are_shallow, are_unreserved, depths, first_of, ids, unless}
use Rattle.ticket_rows.specs.Outline.{is_outline}
use Rattle.json_items.specs.PartDraft.{RawPart}
use Rattle.json_items.specs.PartForm as part_form
use Rattle.spawn.proofs.Holding.{find_as}
use Rattle.worker_core.specs.declared.entry.Entry.{Entry}
use Rattle.controller_form.specs.States.EntryForm.{entry_fault, entry_in}
use Rattle.controller_form.specs.States.PartFaults.{is_among, part_faults}
use Rattle.controller_form.specs.States.WorkerForm.{is_fault, parts_fault}
use Rattle.controller_form.specs.declared.states.stored_entry.StoredEntry.{StoredEntry}

-- an entry, unless something is wrong with its part
abbrev entry_unless : Option Refusal → Entry → Option Entry
entry_unless f e = option_map_or (λ g. None) f (Some e)

abbrev built : StoredEntry → Option Entry
built d = entry_unless (entry_fault d) (entry_in d)

-- the faults of their parts, and the entries of the others
abbrev pub IsSoFar : List StoredEntry → List Refusal → List Entry → Type 0
IsSoFar ds found entries = (found ≡ filter_map entry_fault ds) × (entries ≡ filter_map built ds)

more : {Y : Type 0} (g : StoredEntry → Option Y) (ds : List StoredEntry) (d : StoredEntry) (y : Option Y) (ys : List Y) → g d ≡ y → ys ≡ filter_map g ds → ys ++ cons_option y [] ≡ filter_map g (ds ++ d ∷ [])
more g ds d y ys gives so =
    ap (λ zs. zs ++ cons_option y []) so ∙ ap (λ o. filter_map g ds ++ cons_option o []) (sym gives) ∙ sym (filter_map-append g ds (d ∷ []))

pub one_more : (ds : List StoredEntry) (d : StoredEntry) (found : List Refusal) (entries : List Entry) → IsSoFar ds found entries → (f : Option Refusal) → entry_fault d ≡ f → IsSoFar (ds ++ d ∷ []) (found ++ cons_option f []) (entries ++ cons_option (entry_unless f (entry_in d)) [])
one_more ds d found entries so f wrong =
    (more entry_fault ds d f found wrong so.0, more built ds d (entry_unless f (entry_in d)) entries (ap (λ g. entry_unless g (entry_in d)) wrong) so.1)

-- ---- the first of them

among_more : (f : Option Refusal) (found : List Refusal) (e : Refusal) → is_among (cons_option f found) e ≡ (option_map_or (λ g. number_of g == number_of e) f false || is_among found e)
among_more None found e = refl
among_more (Some f) found e = refl

are_among : (ds : List StoredEntry) (e : Refusal) → is_among (filter_map entry_fault ds) e ≡ list_any (is_fault e) ds
are_among [] e = refl
are_among (d ∷ ds) e =
    among_more (entry_fault d) (filter_map entry_fault ds) e ∙ ap (λ b. is_fault e d || b) (are_among ds e)

pub first_is : (ds seen : List StoredEntry) (found : List Refusal) → seen ≡ ds → found ≡ filter_map entry_fault seen → parts_fault ds ≡ find (is_among found) part_faults
first_is ds seen found all so =
    sym (find_as _ _ (are_among ds) part_faults) ∙ ap (λ fs. find (is_among fs) part_faults) (sym (so ∙ ap (filter_map entry_fault) all))

-- ---- where there is none

-- whether a fault is one of those that are looked for
abbrev is_known : Option Refusal → List Refusal → Bool
is_known f known = list_any (λ e. option_map_or (λ g. number_of g == number_of e) f false) known

-- what fails first is that for which it was tested
untold : (tests : List (Bool × Refusal)) → is_known (first_of (map (λ t. unless t.0 t.1) tests)) (map (λ t. t.1) tests) ≡ false → first_of (map (λ t. unless t.0 t.1) tests) ≡ None
untold [] none = refl
untold ((true, e) ∷ tests) none = untold tests (or_parts _ _ none).1
untold ((false, e) ∷ tests) none = absurd (true≢false (sym (eq-eqb (number_of e) (number_of e) refl) ∙ (or_parts _ _ none).0))

none_of : (part : Option RawPart) → is_known (option_and_then part_form.built_fault part) part_faults ≡ false → option_and_then part_form.built_fault part ≡ None
none_of None none = refl
none_of (Some p) none =
    let rows = part_form.all_rows p in
    untold ((is_outline (depths rows), NotATree) ∷ (are_unreserved rows, ReservedStatus) ∷ (are_distinct (ids rows), DuplicateId) ∷ (are_shallow rows, TooDeep) ∷ (are_resolved rows, UnresolvedLink) ∷ []) none

apart : {X : Type 0} (p q : X → Bool) (xs : List X) → list_any (λ x. p x || q x) xs ≡ false → (list_any p xs ≡ false) × (list_any q xs ≡ false)
apart p q [] none = (refl, refl)
apart p q (x ∷ xs) none =
    let parts = or_parts _ _ none in
    let here = or_parts _ _ parts.0 in
    let rest = apart p q xs parts.1 in
    (or_false _ _ here.0 rest.0, or_false _ _ here.1 rest.1)

all_by : (ds : List StoredEntry) → list_any (λ e. list_any (is_fault e) ds) part_faults ≡ false → filter_map built ds ≡ map entry_in ds
all_by [] none = refl
all_by (d ∷ ds) none =
    let x = entry_in d in
    let parts = apart (λ e. is_fault e d) (λ e. list_any (is_fault e) ds) part_faults none in
    ap (λ f. cons_option (entry_unless f x) (filter_map built ds)) (none_of d.part parts.0) ∙ ap (λ es. x ∷ es) (all_by ds parts.1)

pub all_built : (ds seen : List StoredEntry) (entries : List Entry) → seen ≡ ds → entries ≡ filter_map built seen → parts_fault ds ≡ None → entries ≡ map entry_in ds
all_built ds seen entries all so none =
    so ∙ ap (filter_map built) all ∙ all_by ds (sym (is_some-find (λ e. list_any (is_fault e) ds) part_faults) ∙ ap is_some none)
