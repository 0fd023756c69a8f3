-- Past the audits of the ticket in the beginning, those above a spawned node tell of its merge as the answers do.
use Rattle.std.proofs.Common.{◌≡◌, ◌∙◌, ◌+◌, ◌||◌, ℕ, suc, Bool, true, false, cond, List, [], ◌∷◌, Option, Some, None, Ok, Err, is_some, slice_get, refl, sym, ap, subst, arith, add-zero}
use Rattle.std.proofs.lemmas.Bool.{eqb-true, true≢false}
use Rattle.std.proofs.lemmas.List.Sums.{sum_by-cons}
use Rattle.std.specs.List.{count_by, list_any}
use Rattle.std.specs.Option.{option_and_then, option_map, option_map_or}
use Rattle.std.specs.Str.{bytes_eq}
use Rattle.ticket_items.proofs.Apart.{bytes_eq-same}
use Rattle.ticket_items.specs.Ids.{mem}
use Rattle.ticket_items.specs.declared.edit.Edit.{Edit}
use Rattle.ticket_items.specs.declared.refusal.Refusal.TheVariants.{UnknownWorker}
use Rattle.ticket_rows.proofs.Below.{mem-node_ids}
use Rattle.ticket_items.specs.Act.{act_of}
use Rattle.ticket_items.specs.Edit.{added_id}
use Rattle.ticket_rows.specs.Place.{Place, node_places, nodes_in, parent, place_at, places, row_in, up}
use Rattle.ticket_rows.specs.Ticket.{Job, has_node, ids}
use Rattle.ticket_tree.proofs.LookUps.{stands_with_row}
use Rattle.ticket_tree.proofs.OnPlaces.{stands_node, stands_somewhere}
use Rattle.ticket_tree.specs.PlainEdit.{plain_places}
use Rattle.world_items.specs.declared.reply.Reply.{Reply}
use Rattle.world_items.specs.declared.reply.Reply.TheVariants as reply
use Rattle.spawn.proofs.HoldingsEdited.{new_nowhere}
use Rattle.spawn.proofs.Lawful.{parent_is_masters, placed}
use Rattle.spawn.proofs.SoundPart.{node_among_ids, false_by}
use Rattle.spawn.specs.Records as records
use Rattle.spawn.specs.declared.records.phase.Phase as record_phase
use Rattle.spawn.specs.declared.records.phase.Phase.TheVariants as recorded
use Rattle.spawn.specs.Table.{holder_at}
use Rattle.world_items.specs.declared.holder.Holder.TheVariants.{Master}
use Rattle.master_core.proofs.EditedParts.{Told, edit_told, none_added, told}
use Rattle.master_core.proofs.Refusals.{edit_free}
use Rattle.master_core.specs.Master as master
use Rattle.worker_core.specs.declared.entry.Entry.{Entry}
use Rattle.world.proofs.Runs.Cases.{made_of}
use Rattle.world.proofs.Worker.TakenSpawns.{phase_of_entry}
use Rattle.world.proofs.Shop.AlwaysKept.{kept_after}
use Rattle.world.proofs.Runs.Events.{event_is_replayed, events_are_replayed}
use Rattle.world.proofs.Shop.MergeAudits.{IsNew, as_often, one_if, stays_so}
use Rattle.world.proofs.Master.Edits.{edit_refused}
use Rattle.world.proofs.Shop.Opening.{opening_is_shown}
use Rattle.world.proofs.Shop.MergesTell.{StandsAbove, StepTells, message_tells}
use Rattle.world.proofs.Shop.Once.{each_is_merged_once}
use Rattle.world.proofs.Shop.OrdersTell.{StaysAbove, Tells, master_tells, worker_tells}
use Rattle.world.proofs.Master.Resends.{spawn_found}
use Rattle.world.proofs.Shop.StepsTell.{HaveNumbers, IsSilent, IsTold, TellsMore, is_above, tells_nothing, then_told, times}
use Rattle.world.specs.Happening as world
use Rattle.world.specs.Laws.{MergesAreTold}
use Rattle.plain_shop.specs.MergeAudits.{AuditsGrow, MergeAuditsMatch, above_of, answer_tells, reply_tells, word_tells}
use Rattle.world.specs.Messages.{entry_for}
use Rattle.world.specs.Once.{AreMergedOnce}
use Rattle.plain_shop.specs.Replay as replay
use Rattle.plain_shop.specs.Shop.{PlainState, Rows, SpawnState, is_done, spawn_of}
use Rattle.plain_shop.specs.Acts as acts
use Rattle.plain_shop.specs.Acts.{is_spawn}
use Rattle.plain_shop.specs.Steps.{Tag, edit_refusal, on_message, worker_does}
use Rattle.world.specs.Showing.{phase_shown, row_at, shop_shown, shows, spawn_shown}
use Rattle.world.specs.State.{IsConsistent, State, message_at, opening}
use Rattle.controller.specs.Step.{Step}
use Rattle.plain_shop.specs.Step.{StepOrWord}
use Rattle.world_items.specs.declared.answer.Answer.{Answer}
use Rattle.world_items.specs.declared.event.Event.{Event}
use Rattle.world_items.specs.declared.stop.Stop.{Stop}
use Rattle.world_items.specs.declared.stop.Stop.TheVariants.{Run, BeforeSave, BeforeSend}
use Rattle.world_items.specs.declared.what.What.{What}
use Rattle.world_items.specs.declared.what.What.TheVariants.{MasterOrder, WorkerOrder, Deliver, Restart}
use Rattle.world_items.specs.declared.word.Word.{Word}
use Rattle.world_items.specs.declared.word.Word.TheVariants.{Did, NoMessage, Refused, Restarted, Stopped}

-- ---- an edit of a shop that is shown

none_of : {X : Type 0} (o : Option X) → is_some o ≡ false → o ≡ None
none_of None e = refl
none_of (Some x) e = absurd (true≢false e)

-- what an edit adds has no row, as it is seen and as it is now
added_new : (w : State) (e : Edit) → IsConsistent w → edit_refusal e (shop_shown w.controllers) ≡ None → IsNew e (shop_shown w.controllers).seen × IsNew e (shop_shown w.controllers).now
added_new w e ok free =
    let c = w.controllers in
    let rows = c.master.ticket.rows in
    let is_free = edit_free e c.master (edit_refused e c ok.master.valid ∙ free) in
    let nowhere : (i : List ℕ) → added_id e ≡ Some i → place_at (places rows) i ≡ None = λ i added. none_of (place_at (places rows) i) (stands_somewhere rows i ∙ new_nowhere e rows i is_free.rows added) in
    let bare : (i : List ℕ) → added_id e ≡ Some i → row_in rows i ≡ None = λ i added. none_of (row_in rows i) (sym (stands_with_row rows i) ∙ ap is_some (nowhere i added)) in
    (bare, λ i added. ap (row_at c i) (ap (option_map (holder_at c.master.records)) (nowhere i added)) ∙ bare i added)

parent_told : (o : Option Place) → option_and_then parent o ≡ option_and_then (λ (t : Told). slice_get t.0 1) (option_map told o)
parent_told None = refl
parent_told (Some p) = refl

known_above : (o : Option Place) (u : List ℕ) → option_and_then parent o ≡ Some u → is_some o ≡ true
known_above None u e = cc
known_above (Some p) u e = refl

-- what stands below another node goes on to
up_stays : (w : State) (e : Edit) (n u : List ℕ) → IsConsistent w → edit_refusal e (shop_shown w.controllers) ≡ None → up (node_places w.controllers.master.ticket.rows) n ≡ Some u → up (nodes_in (plain_places e (places w.controllers.master.ticket.rows))) n ≡ Some u
up_stays w e n u ok free above =
    let c = w.controllers in
    let rows = c.master.ticket.rows in
    let tree = places rows in
    let is_free = edit_free e c.master (edit_refused e c ok.master.valid ∙ free) in
    let known : has_node rows n ≡ true = sym (stands_node rows n) ∙ known_above (place_at (nodes_in tree) n) u above in
    let there : mem n (ids rows) ≡ true = node_among_ids n rows (mem-node_ids rows n ∙ known) in
    parent_told (place_at (nodes_in (plain_places e tree)) n)
    ∙ ap (option_and_then (λ (t : Told). slice_get t.0 1)) (edit_told (act_of e) n tree (none_added e rows n is_free.rows there))
    ∙ sym (parent_told (place_at (nodes_in tree) n)) ∙ above

up_of : (tree later : List Place) (o : Option SpawnState) (u : List ℕ) → ((n : List ℕ) → up (nodes_in tree) n ≡ Some u → up (nodes_in later) n ≡ Some u) → option_and_then (λ (a : SpawnState). up (nodes_in tree) a.node) o ≡ Some u → option_and_then (λ (a : SpawnState). up (nodes_in later) a.node) o ≡ Some u
up_of tree later None u stays there = cc
up_of tree later (Some a) u stays there = stays a.node there

edits_stay : (w : State) (e : Edit) → IsConsistent w → edit_refusal e (shop_shown w.controllers) ≡ None → StaysAbove (shop_shown w.controllers) e
edits_stay w e ok free s u at there =
    let p = shop_shown w.controllers in
    up_of p.tree (plain_places e p.tree) (spawn_of s p) u (λ n above. up_stays w e n u ok free above) there

-- ---- a finished spawn of a shop that is shown

done_out : (phase : record_phase.Phase) (o : Option Entry) → is_done (phase_shown phase o) ≡ true → records.is_out_phase phase ≡ true
done_out recorded.Out o e = refl
done_out recorded.Merged None e = absurd (true≢false (sym e))
done_out recorded.Merged (Some entry) e = absurd (true≢false (sym e ∙ (phase_of_entry recorded.Merged entry).done_so))
done_out recorded.Withdrawn o e = absurd (true≢false (sym e))

-- it has a parent, which the master holds
stands_above : (w : State) (s : ℕ) (a : SpawnState) → IsConsistent w → spawn_of s (shop_shown w.controllers) ≡ Some a → is_done a.phase ≡ true → StandsAbove (shop_shown w.controllers) a
stands_above w s a ok found done =
    let c = w.controllers in
    let m = c.master in
    let rows = m.ticket.rows in
    let made = made_of (spawn_shown c) (master.record_of m.records s) a (sym (spawn_found c s) ∙ found) in
    let r = made.0 in
    let out : records.is_out r ≡ true = done_out r.phase (entry_for c r) (ap (λ (b : SpawnState). is_done b.phase) made.2 ∙ done) in
    let place = placed (master.is_of s) m.records r made.1 in
    let good = ok.master.apart.good place.place r place.there out in
    let above = some_of (up (node_places rows) r.node) good.has_parent in
    let masters : master.holder m above.0 ≡ Some Master = ap (λ o. master.holder m (option_map_or (λ u. u) o [])) (sym above.1) ∙ parent_is_masters rows m.records ok.master.valid ok.master.apart place.place r place.there out in
    let row = some_of (row_in rows above.0) (sym (stands_with_row rows above.0) ∙ held_stands (place_at (places rows) above.0) masters) in
    record {
      above = above.0;
      is_above = ap (λ (b : SpawnState). up (node_places rows) b.node) (sym made.2) ∙ above.1;
      row = row.0;
      seen = row.1;
      now = ap (row_at c above.0) masters ∙ row.1;
      free = ap (λ o. option_map_or (is_spawn a.number) o false) masters;
    }
  where
    some_of : {X : Type 0} (o : Option X) → is_some o ≡ true → (x : X) × (o ≡ Some x)
    some_of None e = absurd (true≢false (sym e))
    some_of (Some x) e = (x, refl)

    held_stands : (o : Option Place) → option_map (holder_at w.controllers.master.records) o ≡ Some Master → is_some o ≡ true
    held_stands None e = cc
    held_stands (Some q) e = refl

-- ---- one event

either_silent : (b : Bool) → IsSilent (cond b Restarted (Refused UnknownWorker))
either_silent true s = refl
either_silent false s = refl

worker_step_tells : (p : PlainState) (moved : Step PlainState Tag) (known : Bool) → Tells p moved → StepTells p (cond known (Ok moved) (Err (Refused UnknownWorker)))
worker_step_tells p moved true tells = tells
worker_step_tells p moved false tells = λ s. refl

delivery_tells : (p : PlainState) (at : ℕ) (o : Option Tag) → ((t : Tag) → StepTells p (on_message at p t)) → StepTells p (option_map_or (on_message at p) o (Err NoMessage))
delivery_tells p at None tells = λ s. refl
delivery_tells p at (Some t) tells = tells t

what_tells : (w : State) (what : What) (at : ℕ) → IsConsistent w → HaveNumbers (shop_shown w.controllers) → StepTells (shop_shown w.controllers) (replay.step_of what at (shows w))
what_tells w (MasterOrder o) at ok numbers = master_tells o at (shop_shown w.controllers) (λ e free. let new = added_new w e ok free in (new.0, new.1, edits_stay w e ok free))
what_tells w (WorkerOrder name o) at ok numbers = worker_step_tells (shop_shown w.controllers) (worker_does name o at (shop_shown w.controllers)) (mem name (shop_shown w.controllers).workers) (worker_tells name o at (shop_shown w.controllers))
what_tells w (Deliver k) at ok numbers = delivery_tells (shop_shown w.controllers) at (message_at (shows w).tags k) (λ t. message_tells t at (shop_shown w.controllers) numbers (λ s a found done. stands_above w s a ok found done))
what_tells w (Restart name) at ok numbers = either_silent (bytes_eq name w.controllers.master.name || mem name w.controllers.master.workers)

settled_tells : (stop : Stop) (p : replay.TaggedShop) (step : StepOrWord PlainState Tag) → StepTells p.shop step → TellsMore (times (replay.next_answer stop p step).word) p.shop (replay.next_state stop p step).shop
settled_tells Run p (Ok moved) tells = tells
settled_tells BeforeSave p (Ok moved) tells = tells_nothing Stopped p.shop (λ s. refl)
settled_tells BeforeSend p (Ok moved) tells = tells
settled_tells stop p (Err word) tells = tells_nothing word p.shop tells

event_tells : (e : Event) (w : State) → IsConsistent w → HaveNumbers (shop_shown w.controllers) → TellsMore (times (replay.answer_to e (shows w)).word) (shop_shown w.controllers) (replay.after e (shows w)).shop
event_tells e w ok numbers = settled_tells e.stop (shows w) (replay.step_of e.what e.at (shows w)) (what_tells w e.what e.at ok numbers)

-- ---- events in turn

-- so many of the answers tell of a merge
abbrev pub told_in : List Answer → ℕ → ℕ
told_in answers s = count_by (answer_tells s) answers

told_as : (first : Rows) (f g : ℕ → ℕ) (p : PlainState) → ((s : ℕ) → f s ≡ g s) → IsTold first f p → IsTold first g p
told_as first f g p same = subst (λ h. IsTold first h p) (λ j s. same s j)

events_tell : (events : List Event) (w : State) (first : Rows) (before : ℕ → ℕ) → IsConsistent w → IsTold first before (shop_shown w.controllers)
    → IsTold first (λ s. before s + told_in (replay.answers_to events (shows w)) s) (replay.after_all events (shows w)).shop
events_tell [] w first before ok is = told_as first before (λ s. before s + told_in [] s) (shop_shown w.controllers) (λ s. sym (add-zero (before s))) is
events_tell (e ∷ events) w first before ok is =
    let next = world.after e w in
    let answer = replay.answer_to e (shows w) in
    let shown : shows next ≡ replay.after e (shows w) = (event_is_replayed w e ok).1 in
    let one = then_told first before (times answer.word) (shop_shown w.controllers) (replay.after e (shows w)).shop is (event_tells e w ok is.numbers) in
    let then : IsTold first (λ s. before s + times answer.word s) (shop_shown next.controllers) = subst (λ (q : replay.TaggedShop). IsTold first (λ s. before s + times answer.word s) q.shop) (sym shown) one in
    let rest = events_tell events next first (λ s. before s + times answer.word s) (kept_after e w ok) then in
    let moved = subst (λ (q : replay.TaggedShop). IsTold first (λ s. before s + times answer.word s + told_in (replay.answers_to events q) s) (replay.after_all events q).shop) shown rest in
    told_as first (λ s. before s + times answer.word s + told_in (replay.answers_to events (replay.after e (shows w))) s) (λ s. before s + told_in (answer ∷ replay.answers_to events (replay.after e (shows w))) s) (replay.after_all events (replay.after e (shows w))).shop (λ s. one_first s (before s) answer (replay.answers_to events (replay.after e (shows w)))) moved
  where
    one_first : (s m : ℕ) (a : Answer) (rest : List Answer) → m + times a.word s + told_in rest s ≡ m + told_in (a ∷ rest) s
    one_first s m a rest = let sum = sum_by-cons (λ b. cond (answer_tells s b) 1 0) a rest in omega (arith, sum)

-- ---- in the beginning

opening_told : (name : List ℕ) (workers : List (List ℕ)) (ticket : Job) → IsTold (row_in ticket.rows) (λ s. 0) (acts.opening name workers ticket)
opening_told name workers ticket =
    record {
      seen = λ s x. stays_so s (row_in ticket.rows x) (row_in ticket.rows x) refl;
      now = λ s x. stays_so s (row_in ticket.rows x) (row_in ticket.rows x) refl;
      none = λ s missing. refl;
      numbers = λ s there. absurd (true≢false (sym there));
    }

-- ---- at most once

reply_told : (s : ℕ) (r : Reply) → reply_tells s r ≡ true → r ≡ reply.Merged s
reply_told s (reply.Merged t) e = ap reply.Merged (eqb-true t s e)
reply_told s r e = absurd (true≢false (sym e))

word_told : (s : ℕ) (word : Word) → word_tells s word ≡ true → word ≡ Did (reply.Merged s)
word_told s (Did r) e = ap Did (reply_told s r e)
word_told s word e = absurd (true≢false (sym e))

-- no two of these tell of the merge
abbrev IsOnce : ℕ → List Answer → Type 0
IsOnce s answers = (i j : ℕ) (a b : Answer) → slice_get answers i ≡ Some a → slice_get answers j ≡ Some b → answer_tells s a ≡ true → answer_tells s b ≡ true → i ≡ j

none_in : (s : ℕ) (answers : List Answer) → ((i : ℕ) (a : Answer) → slice_get answers i ≡ Some a → answer_tells s a ≡ false) → told_in answers s ≡ 0
none_in s [] none = refl
none_in s (a ∷ rest) none =
    let sum = sum_by-cons (λ b. cond (answer_tells s b) 1 0) a rest in
    let first : one_if (answer_tells s a) ≡ 0 = ap one_if (none 0 a refl) in
    let later : told_in rest s ≡ 0 = none_in s rest (λ i b there. none (suc i) b there) in
    omega (arith, sum, first, later)

once_more : (s : ℕ) (a : Answer) (rest : List Answer) (tells : Bool) → answer_tells s a ≡ tells → IsOnce s (a ∷ rest) → told_in rest s ≡ one_if (list_any (answer_tells s) rest) → one_if tells + told_in rest s ≡ one_if (tells || list_any (answer_tells s) rest)
once_more s a rest true is once later =
    let none : told_in rest s ≡ 0 = none_in s rest (λ i b there. false_by (answer_tells s b) (λ too. let same : 0 ≡ suc i = once 0 (suc i) a b refl there is too in absurd (omega (arith, same)))) in
    omega (arith, none)
once_more s a rest false is once later = omega (arith, later)

in_once : (s : ℕ) (answers : List Answer) → IsOnce s answers → told_in answers s ≡ one_if (list_any (answer_tells s) answers)
in_once s [] once = refl
in_once s (a ∷ rest) once =
    sum_by-cons (λ b. cond (answer_tells s b) 1 0) a rest
    ∙ once_more s a rest (answer_tells s a) refl once
    (in_once s rest (λ i j b c at there one two. let same : suc i ≡ suc j = once (suc i) (suc j) b c at there one two in omega (arith, same)))

-- ---- from the beginning on

told_above : (first : Rows) (answers : List Answer) (p : PlainState) (s : ℕ) (u : List ℕ) → IsTold first (λ t. 0 + told_in answers t) p → AreMergedOnce answers → above_of s p ≡ Some u
    → AuditsGrow s (one_if (list_any (answer_tells s) answers)) (first u) (p.seen u) × AuditsGrow s (one_if (list_any (answer_tells s) answers)) (first u) (p.now u)
told_above first answers p s u is once there =
    let own : is_above s p u ≡ true = ap (λ o. option_map_or (λ v. bytes_eq v u) o false) there ∙ bytes_eq-same u in
    let sum : told_in answers s ≡ one_if (list_any (answer_tells s) answers) = in_once s answers (λ i j a b at other one two. once s i j a b at other (word_told s a.word one) (word_told s b.word two)) in
    let all : cond (is_above s p u) (0 + told_in answers s) 0 ≡ one_if (list_any (answer_tells s) answers) = ap (λ b. cond b (0 + told_in answers s) 0) own ∙ omega (arith, sum) in
    (as_often s (cond (is_above s p u) (0 + told_in answers s) 0) (one_if (list_any (answer_tells s) answers)) (first u) (p.seen u) all (is.seen s u), as_often s (cond (is_above s p u) (0 + told_in answers s) 0) (one_if (list_any (answer_tells s) answers)) (first u) (p.now u) all (is.now s u))

told_from : (name : List ℕ) (workers : List (List ℕ)) (ticket : Job) (events : List Event) → IsConsistent (opening name workers ticket) → MergeAuditsMatch ticket (replay.answers_to events (shows (opening name workers ticket))) (replay.after_all events (shows (opening name workers ticket))).shop
told_from name workers ticket events ok s u there =
    let w = opening name workers ticket in
    let first : IsTold (row_in ticket.rows) (λ t. 0) (shop_shown w.controllers) = subst (λ (q : replay.TaggedShop). IsTold (row_in ticket.rows) (λ t. 0) q.shop) (sym (opening_is_shown name workers ticket)) (opening_told name workers ticket) in
    let once : AreMergedOnce (replay.answers_to events (shows w)) = subst AreMergedOnce (events_are_replayed w events ok).0 (each_is_merged_once w events ok).0 in
    told_above (row_in ticket.rows) (replay.answers_to events (shows w)) (replay.after_all events (shows w)).shop s u (events_tell events w (row_in ticket.rows) (λ t. 0) ok first) once there

pub merges_are_told : MergesAreTold
merges_are_told name workers ticket events ok =
    subst (λ (q : replay.TaggedShop). MergeAuditsMatch ticket (replay.answers_to events q) (replay.after_all events q).shop) (opening_is_shown name workers ticket) (told_from name workers ticket events ok)

-- of a run
abbrev pub TellsFromOpening : State → List Answer → State → Type 0
TellsFromOpening w answers now = (name : List ℕ) (workers : List (List ℕ)) (ticket : Job) → w ≡ opening name workers ticket → MergeAuditsMatch ticket answers (shows now).shop

pub run_told : (events : List Event) (w now : State) (answers : List Answer) → IsConsistent w → answers ≡ world.answers_to events w → now ≡ world.after_all events w → TellsFromOpening w answers now
run_told events w now answers ok are is name workers ticket from =
    let start = opening name workers ticket in
    let kept : IsConsistent start = subst IsConsistent from ok in
    let replayed = events_are_replayed start events kept in
    let said : answers ≡ replay.answers_to events (shows start) = are ∙ ap (world.answers_to events) from ∙ replayed.0 in
    let shown : shows now ≡ replay.after_all events (shows start) = ap shows (is ∙ ap (world.after_all events) from) ∙ replayed.1 in
    subst (λ as'. MergeAuditsMatch ticket as' (shows now).shop) (sym said)
    (subst (λ (q : replay.TaggedShop). MergeAuditsMatch ticket (replay.answers_to events (shows start)) q.shop) (sym shown) (told_from name workers ticket events kept))
