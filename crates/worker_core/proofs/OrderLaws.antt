-- What a worker may change, what an order changes, and what is given back.
use Rattle.std.proofs.Common.{◌≡◌, ℕ, ◌==◌, ◌||◌, Bool, true, false, cond, List, [], ◌∷◌, Option, Some, None, is_some, inl, inr, refl, sym, ap, ◌∙◌, subst}
use Rattle.std.proofs.lemmas.Bool.{true≢false, eqb-true, or_left}
use Rattle.std.specs.List.{list_any}
use Rattle.std.specs.Option.{option_and_then, option_map, option_map_or}
use Rattle.std.specs.Str.{bytes_eq}
use Rattle.std.proofs.lemmas.Slice.Eq.{bytes_eq-Decides}
use Rattle.ticket_items.proofs.Places.{is_some-find, same_found}
use Rattle.ticket_items.specs.Ids.{mem}
use Rattle.ticket_items.specs.Resource.{resource_ids}
use Rattle.ticket_items.specs.declared.edit.Edit.{Edit}
use Rattle.ticket_items.specs.declared.node_row.NodeRow.{NodeRow}
use Rattle.ticket_items.specs.declared.refusal.Refusal.{Refusal}
use Rattle.ticket_items.specs.declared.refusal.Refusal.TheVariants.{NotOpen}
use Rattle.ticket_rows.specs.Copies.{with_copies}
use Rattle.ticket_rows.proofs.AtHome.{holds, mem-ids}
use Rattle.ticket_items.specs.Edit.{is_of_node, is_structural, target}
use Rattle.ticket_rows.specs.Homes.{has_resource}
use Rattle.ticket_rows.specs.Place.{Row}
use Rattle.ticket_rows.specs.Ticket.{IsValid, has_node, ids, unless}
use Rattle.ticket_tree.proofs.OnPlaces.{has_resource-any}
use Rattle.ticket_tree.proofs.PartEdits.{part_edit_of_places, part_edit_of_rows}
use Rattle.ticket_tree.specs.Part.{PartCopy, edited_part, refusal_of_part}
use Rattle.ticket_tree.specs.PartView.{part_row}
use Rattle.ticket_tree.specs.PlainEdit.{plain_changed, with_row_changed}
use Rattle.controller.specs.Step.{Step, unless_refused}
use Rattle.controller.specs.declared.message.Message.{Message}
use Rattle.worker_core.proofs.AtNumber.{find-at_number, find-other, found_holds}
use Rattle.worker_core.proofs.Closing.{has_ended}
use Rattle.worker_core.proofs.EditedPart.{ending_free, first_known}
use Rattle.worker_core.proofs.Kept.{kept_part, number_of}
use Rattle.worker_core.proofs.Refusals.{done_free, done_order, edit_free, of_open, open_free, ordered_on, refused_on}
use Rattle.worker_core.specs.Laws.{EditIsOfHeld, IsNext, IsNextPart, MayChangeIsHeld, OrderKeepsEntries, ResentIsSame, ReturnIsOfEntry}
use Rattle.worker_core.specs.Orders.{allowed_step, edit_refusal, edited_entry, end_edit, ended_part, finished_entry, is_here, order_refusal, order_step, return_of, spawn_of_order}
use Rattle.worker_core.specs.Worker.{IsConsistent, IsKeptEntry, State, entry_of, has, is_ended, is_of, is_open_stage, may_change, open_part, root_id, with_entry}
use Rattle.world_items.specs.declared.end.End.{End}
use Rattle.worker_core.specs.declared.entry.Entry.{Entry}
use Rattle.world_items.specs.declared.worker_order.Order.{Order}
use Rattle.world_items.specs.declared.worker_order.Order.TheVariants as order
use Rattle.worker_core.specs.declared.stage.Stage.{Stage}
use Rattle.worker_core.specs.declared.stage.Stage.TheVariants.{Open, Done, Closed, Declined}

-- ---- what may be changed

open_stage : (stage : Stage) → is_open_stage stage ≡ true → stage ≡ Open
open_stage Open e = refl
open_stage (Done how) e = absurd (true≢false (sym e))
open_stage (Closed how) e = absurd (true≢false (sym e))
open_stage Declined e = absurd (true≢false (sym e))

-- an entry through which something may be changed, and its part
abbrev pub HeldIn : Option Entry → List ℕ → Type 0
HeldIn found x = (e : Entry) × (p : PartCopy) × (found ≡ Some e) × (e.phase ≡ Open) × (e.part ≡ Some p) × (has p x ≡ true)

held_by : (o : Option PartCopy) (e : Entry) (x : List ℕ) → open_part e ≡ o → option_map_or (λ p. has p x) o false ≡ true → HeldIn (Some e) x
held_by None e x is may = absurd (true≢false (sym may))
held_by (Some p) e x is may = let of = of_open e p is in (e, p, refl, open_stage e.phase of.0, of.1, may)

held_in : (found : Option Entry) (x : List ℕ) → option_map_or (λ p. has p x) (option_and_then open_part found) false ≡ true → HeldIn found x
held_in None x may = absurd (true≢false (sym may))
held_in (Some e) x may = held_by (open_part e) e x refl may

pub may_change_is_held : MayChangeIsHeld
may_change_is_held entries s x may = held_in (entry_of entries s) x may

any_or_left : (p q : NodeRow → Bool) (rows : List NodeRow) → list_any p rows ≡ true → list_any (λ r. p r || q r) rows ≡ true
any_or_left p q [] e = e
any_or_left p q (r ∷ rows) e = row (p r) (q r) (list_any p rows) (list_any (λ s. p s || q s) rows) e (any_or_left p q rows)
  where
    row : (a b c d : Bool) → (a || c) ≡ true → (c ≡ true → d ≡ true) → ((a || b) || d) ≡ true
    row true b c d e later = refl
    row false true c d e later = refl
    row false false c d e later = later e

any_or_right : (p q : NodeRow → Bool) (rows : List NodeRow) → list_any q rows ≡ true → list_any (λ r. p r || q r) rows ≡ true
any_or_right p q [] e = e
any_or_right p q (r ∷ rows) e = row (p r) (q r) (list_any q rows) (list_any (λ s. p s || q s) rows) e (any_or_right p q rows)
  where
    row : (a b c d : Bool) → (b || c) ≡ true → (c ≡ true → d ≡ true) → ((a || b) || d) ≡ true
    row true b c d e later = refl
    row false true c d e later = refl
    row false false c d e later = later e

node_stands : (rows : List NodeRow) (x : List ℕ) → has_node rows x ≡ true → mem x (ids rows) ≡ true
node_stands rows x known = mem-ids x rows ∙ any_or_left (λ r. bytes_eq r.id x) (holds x) rows (sym (is_some-find (λ r. bytes_eq r.id x) rows) ∙ known)

resource_stands : (rows : List NodeRow) (x : List ℕ) → has_resource rows x ≡ true → mem x (ids rows) ≡ true
resource_stands rows x known = mem-ids x rows ∙ any_or_right (λ r. bytes_eq r.id x) (holds x) rows (has_resource-any rows x ∙ known)

either_stands : (a b c : Bool) → (a || c) ≡ true → (a ≡ true → b ≡ true) → (b || c) ≡ true
either_stands true b c e go = or_left b c (go refl)
either_stands false true c e go = refl
either_stands false false c e go = e

-- what is here as an edit reads its target, the part has
here_by : (of_node : Bool) (p : PartCopy) (x : List ℕ) → cond of_node (has_node p.rows x) (has_resource p.rows x || mem x (resource_ids p.rw)) ≡ true → has p x ≡ true
here_by true p x here = or_left _ _ (node_stands p.rows x here)
here_by false p x here = either_stands (has_resource p.rows x) _ (mem x (resource_ids p.rw)) here (resource_stands p.rows x)

here_has : (e : Edit) (p : PartCopy) → is_here e p ≡ true → has p (target e) ≡ true
here_has e p here = here_by (is_of_node e) p (target e) here

-- what an open entry has may be changed
pub may_change_here : (entries : List Entry) (s : ℕ) (x : List ℕ) (e : Entry) (p : PartCopy) → entry_of entries s ≡ Some e → open_part e ≡ Some p → has p x ≡ true → may_change entries s x ≡ true
may_change_here entries s x e p found opened there =
    ap (λ o. option_map_or (λ q. has q x) (option_and_then open_part o) false) found ∙ ap (λ o. option_map_or (λ q. has q x) o false) opened ∙ there

pub edit_is_of_held : EditIsOfHeld
edit_is_of_held entries s e none =
    let on = ordered_on (order.Edit s e) entries none in
    let entry : Entry = on.0 in
    let free = edit_free e entry on.2 in
    may_change_here entries s (target e) entry free.part on.1 free.opened (here_has e free.part free.here)

-- ---- what an order changes

unchanged : (entries : List Entry) (s : ℕ) (e : Entry) → IsNext entries s e e
unchanged entries s e =
    record {
      part = λ p is. (p, is, record { same = record { job = refl; spawn = refl; ancestors = refl; ro = refl; places = refl }; rows = λ x out. refl });
      phase = inl refl;
      finished = λ done. refl;
    }

untouched : (b : Bool) (n : List ℕ) (f : Row → Row) (rows : List ℕ → Option Row) (y : List ℕ) → bytes_eq n y ≡ b → (b ≡ true → ⊥) → with_row_changed n f rows y ≡ rows y
untouched true n f rows y e not_true = absurd (not_true refl)
untouched false n f rows y e not_true = ap (λ b. cond b (option_map f (rows y)) (rows y)) e

-- an edit of a part moves nothing, and changes no row but that of its target, which may be changed
edited_next : (e : Edit) (at : ℕ) (entries : List Entry) (s : ℕ) (p : PartCopy) → IsValid (with_copies p.rows p.rw p.ro) → is_structural e ≡ false → refusal_of_part e p ≡ None → may_change entries s (target e) ≡ true → IsNextPart entries s p (edited_part e at p)
edited_next e at entries s p valid plain free may =
    record {
      same = record { job = refl; spawn = refl; ancestors = refl; ro = refl; places = part_edit_of_places e at p valid plain free };
      rows = λ y out.
          part_edit_of_rows e at p valid plain free y
          ∙ untouched (bytes_eq (target e) y) (target e) (plain_changed e at) (part_row p) y refl
          (λ same. true≢false (sym may ∙ ap (may_change entries s) ((bytes_eq-Decides (target e) y).0 same) ∙ out));
    }

-- the part that an entry has, once it is another
next_part : (f : PartCopy → PartCopy) (entries : List Entry) (s : ℕ) (x : Entry) (mine : PartCopy) → x.part ≡ Some mine → IsNextPart entries s mine (f mine) → (p : PartCopy) → x.part ≡ Some p → (q : PartCopy) × (option_map f x.part ≡ Some q) × IsNextPart entries s p q
next_part f entries s x mine has next p is = (f p, ap (option_map f) is, subst (λ q. IsNextPart entries s q (f q)) (same_found mine p x.part has is) next)

edit_next : (e : Edit) (at : ℕ) (entries : List Entry) (s : ℕ) (x : Entry) → IsKeptEntry x → order_refusal (order.Edit s e) entries ≡ None → entry_of entries s ≡ Some x → IsNext entries s x (edited_entry e at x)
edit_next e at entries s x kept none found =
    let on = ordered_on (order.Edit s e) entries none in
    let same : on.0 ≡ x = same_found on.0 x (entry_of entries s) on.1 found in
    let free = edit_free e x (subst (λ y. edit_refusal e y ≡ None) same on.2) in
    let p = free.part in
    let of = of_open x p free.opened in
    let own = kept_part x p of.1 kept in
    record {
      part = next_part (edited_part e at) entries s x p of.1 (edited_next e at entries s p own.valid free.plain free.free (edit_is_of_held entries s e none));
      phase = inl refl;
      finished = λ done. absurd (true≢false (sym of.0 ∙ done));
    }

finish_next : (how : End) (at : ℕ) (entries : List Entry) (s : ℕ) (x : Entry) → IsKeptEntry x → order_refusal (order.Finish s how) entries ≡ None → entry_of entries s ≡ Some x → IsNext entries s x (finished_entry how at x)
finish_next how at entries s x kept none found =
    let on = ordered_on (order.Finish s how) entries none in
    let same : on.0 ≡ x = same_found on.0 x (entry_of entries s) on.1 found in
    let opened = open_free x (subst (λ y. unless (is_some (open_part y)) NotOpen ≡ None) same on.2) in
    let p : PartCopy = opened.0 in
    let of = of_open x p opened.1 in
    let own = kept_part x p of.1 kept in
    let e = end_edit p how in
    let free = ending_free p how own.valid in
    let there : has p (root_id p) ≡ true = here_has e p (first_known p.rows p.rw p.ro own.valid) in
    record {
      part = next_part (ended_part how at) entries s x p of.1 (edited_next e at entries s p own.valid refl free (may_change_here entries s (root_id p) x p found opened.1 there));
      phase = inr (open_stage x.phase of.0, refl);
      finished = λ done. absurd (true≢false (sym of.0 ∙ done));
    }

-- the entry of a spawn after that of another, or its own, has been changed
abbrev NextIn : List Entry → List Entry → ℕ → Entry → Type 0
NextIn old new s e = (next : Entry) × (entry_of new s ≡ Some next) × IsNext old s e next

changed_either : (here : Bool) (t : ℕ) (f : Entry → Entry) (entries : List Entry) (s : ℕ) (e : Entry) → (s == t) ≡ here → ((y : Entry) → number_of (f y) ≡ number_of y) → entry_of entries s ≡ Some e → (s ≡ t → IsNext entries s e (f e)) → NextIn entries (with_entry t f entries) s e
changed_either true t f entries s e same keeps found next =
    let one : s ≡ t = eqb-true s t same in
    (f e, ap (entry_of (with_entry t f entries)) one ∙ find-at_number number_of t f entries keeps ∙ ap (option_map f) (ap (entry_of entries) (sym one) ∙ found), next one)
changed_either false t f entries s e other keeps found next = (e, find-other s t number_of f entries other keeps ∙ found, unchanged entries s e)

ordered_next : (o : Order) (at : ℕ) (w : State) (s : ℕ) (e : Entry) → IsConsistent w → order_refusal o w.entries ≡ None → entry_of w.entries s ≡ Some e → NextIn w.entries (allowed_step o at w).next.entries s e
ordered_next (order.Edit t edit) at w s e kept none found =
    let own : IsKeptEntry e = found_holds IsKeptEntry (is_of s) w.entries e found kept.each in
    changed_either (s == t) t (edited_entry edit at) w.entries s e refl (λ y. refl) found (λ same. edit_next edit at w.entries s e own (ap (λ n. order_refusal (order.Edit n edit) w.entries) same ∙ none) found)
ordered_next (order.Finish t how) at w s e kept none found =
    let own : IsKeptEntry e = found_holds IsKeptEntry (is_of s) w.entries e found kept.each in
    changed_either (s == t) t (finished_entry how at) w.entries s e refl (λ y. refl) found (λ same. finish_next how at w.entries s e own (ap (λ n. order_refusal (order.Finish n how) w.entries) same ∙ none) found)
ordered_next (order.Resend t) at w s e kept none found = (e, found, unchanged w.entries s e)

next_either : (refusal : Option Refusal) (o : Order) (at : ℕ) (w : State) (s : ℕ) (e : Entry) → order_refusal o w.entries ≡ refusal → IsConsistent w → entry_of w.entries s ≡ Some e → NextIn w.entries (unless_refused refusal w (allowed_step o at w)).next.entries s e
next_either None o at w s e none kept found = ordered_next o at w s e kept none found
next_either (Some r) o at w s e refused kept found = (e, found, unchanged w.entries s e)

pub order_keeps_entries : OrderKeepsEntries
order_keeps_entries o at w s e kept found = next_either (order_refusal o w.entries) o at w s e refl kept found

-- ---- what is given back

no_message : (m : Message) {P : Type 0} → ◌≡◌ {A = Option Message} None (Some m) → P
no_message m e = cc

-- a message gives back the part of an entry, which is ended
abbrev pub IsReturnOf : State → List Entry → ℕ → Option Message → Type 0
IsReturnOf w later s sent =
    (m : Message) → sent ≡ Some m
    → (e : Entry) × (entry_of later s ≡ Some e) × (is_ended e ≡ true) × (return_of w.name w.master e ≡ Some m)

pub ordered_return : (o : Order) (at : ℕ) (w : State) → order_refusal o w.entries ≡ None → IsReturnOf w (allowed_step o at w).next.entries (spawn_of_order o) (allowed_step o at w).sent
ordered_return (order.Edit s e) at w none m made = no_message m made
ordered_return (order.Finish s how) at w none m made =
    let on = ordered_on (order.Finish s how) w.entries none in
    let x : Entry = on.0 in (
      finished_entry how at x,
      find-at_number number_of s (finished_entry how at) w.entries (λ y. refl) ∙ ap (option_map (finished_entry how at)) on.1,
      refl,
      sym (ap (option_and_then (λ entry. return_of w.name w.master (finished_entry how at entry))) on.1) ∙ made,
    )
ordered_return (order.Resend s) at w none m made =
    let on = ordered_on (order.Resend s) w.entries none in
    (on.0, on.1, has_ended on.0 (done_free on.0 on.2).0 on.3, sym (ap (option_and_then (return_of w.name w.master)) on.1) ∙ made)

return_either : (refusal : Option Refusal) (o : Order) (at : ℕ) (w : State) → order_refusal o w.entries ≡ refusal
    → IsReturnOf w (unless_refused refusal w (allowed_step o at w)).next.entries (spawn_of_order o) (unless_refused refusal w (allowed_step o at w)).sent
return_either None o at w none m made = ordered_return o at w none m made
return_either (Some r) o at w refused m made = no_message m made

pub return_is_of_entry : ReturnIsOfEntry
return_is_of_entry o at w m made = return_either (order_refusal o w.entries) o at w refl m made

then_mapped : (f : Entry → Entry) (g : Entry → Option Message) (found : Option Entry) → option_and_then g (option_map f found) ≡ option_and_then (λ e. g (f e)) found
then_mapped f g None = refl
then_mapped f g (Some e) = refl

-- what is finished may be given back once more
finished_free : (s : ℕ) (how : End) (at : ℕ) (w : State) → order_refusal (order.Finish s how) w.entries ≡ None → order_refusal (order.Resend s) (with_entry s (finished_entry how at) w.entries) ≡ None
finished_free s how at w none =
    let on = ordered_on (order.Finish s how) w.entries none in
    refused_on (order.Resend s) (with_entry s (finished_entry how at) w.entries) (finished_entry how at on.0)
    (find-at_number number_of s (finished_entry how at) w.entries (λ y. refl) ∙ ap (option_map (finished_entry how at)) on.1)

pub resent_is_same : ResentIsSame
resent_is_same s how at later w none =
    let finish = order.Finish s how in
    let next : State = (allowed_step finish at w).next in
    subst (λ (step : Step State Message). (order_step (order.Resend s) later step.next).sent ≡ step.sent) (sym (done_order finish at w none))
    (ap (λ (step : Step State Message). step.sent) (done_order (order.Resend s) later next (finished_free s how at w none))
    ∙ ap (option_and_then (return_of w.name w.master)) (find-at_number number_of s (finished_entry how at) w.entries (λ y. refl))
    ∙ then_mapped (finished_entry how at) (return_of w.name w.master) (entry_of w.entries s))
