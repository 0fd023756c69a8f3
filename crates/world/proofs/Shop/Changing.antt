-- The laws of who may change what.
use Rattle.std.proofs.Common.{◌≡◌, inl, inr, ◌↔◌, ◌∙◌, cond, IsSomeAnd, Bool, true, false, List, ℕ, Option, Some, None, Result, Ok, Err, OnOk, OnErr, refl, slice_get, sym, ap, subst}
use Rattle.std.proofs.lemmas.Bool.{eqb-true, true≢false}
use Rattle.std.proofs.lemmas.Slice.Eq.{bytes_eq-Decides}
use Rattle.std.specs.Option.{option_and_then, option_map, option_map_or}
use Rattle.ticket_items.proofs.Places.{same_found}
use Rattle.ticket_rows.proofs.AtHome.{find-passes}
use Rattle.ticket_rows.specs.Place.{Place, place_at, places}
use Rattle.ticket_tree.specs.Part.{PartCopy}
use Rattle.spawn.proofs.Lawful.{claim_is_held, held_is_claimed, placed}
use Rattle.plain_shop.specs.Claim.{is_claimed}
use Rattle.spawn.specs.Records.{is_out, is_out_phase}
use Rattle.spawn.specs.Table.{holder_at, holding_record, holds, is_masters}
use Rattle.spawn.specs.declared.records.phase.Phase as records
use Rattle.spawn.specs.declared.records.phase.Phase.TheVariants as recorded
use Rattle.spawn.specs.declared.records.spawn_rec.SpawnRec.{SpawnRec}
use Rattle.world_items.specs.declared.holder.Holder.{Holder}
use Rattle.world_items.specs.declared.holder.Holder.TheVariants.{Master, Spawn}
use Rattle.spawn.proofs.SoundPart.{true_by}
use Rattle.merge.specs.Shape.{Fits}
use Rattle.master_core.proofs.Recorded.{number_is}
use Rattle.master_core.specs.Master as master
use Rattle.worker_core.proofs.AtNumber.{found_holds}
use Rattle.worker_core.proofs.Closing.{open_taken}
use Rattle.worker_core.proofs.OrderLaws.{may_change_here}
use Rattle.worker_core.proofs.Refusals.{of_open, opened}
use Rattle.worker_core.specs.Worker as worker
use Rattle.worker_core.specs.declared.entry.Entry.{Entry}
use Rattle.world.proofs.Shop.AlwaysKept.{kept_after, kept_after_all}
use Rattle.world.proofs.Worker.EndedEntries.{back_shut, one_record}
use Rattle.world.proofs.Messages.MessagesTaken.{found_through}
use Rattle.world.proofs.Runs.Cases.{made_of, when_true}
use Rattle.world.proofs.Worker.InPart.{fits_has, part_has}
use Rattle.world.proofs.Master.Resends.{spawn_found}
use Rattle.world.proofs.Worker.Stored.{and_found, found_and}
use Rattle.world.proofs.Worker.TakenSpawns.{phase_out}
use Rattle.world.specs.Changing.{Changer, Holds, MayChange, by_entry, by_master}
use Rattle.world.specs.Controllers.{entry_at, is_named, worker_of}
use Rattle.world.specs.Happening.{IsUnknown, after_all, next_state, step_of}
use Rattle.world.specs.Laws.{HoldersMayChange, NoTwoMayChangeOne}
use Rattle.world.specs.Messages.{AreRecorded, HasComeBack, IsBack, IsRecorded, entry_for}
use Rattle.plain_shop.specs.Shop.{Closed, Declined, Done, Merged, Open, SpawnState, spawn_of}
use Rattle.world.specs.Showing.{phase_shown, shop_shown, shows, spawn_shown}
use Rattle.world.specs.State.{IsConsistent, State}
use Rattle.world_items.specs.declared.event.Event.{Event}
use Rattle.world_items.specs.declared.stop.Stop.{Stop}
use Rattle.world_items.specs.declared.stop.Stop.TheVariants.{BeforeSave, BeforeSend}
use Rattle.world_items.specs.declared.what.What.{What}

-- ---- an entry that is open, and its record

-- an open entry of a spawn at the worker of a name: the record of the spawn names the worker, the spawn is out, and the part of the entry has what it claims
record IsOpenThere (w : State) (name : List ℕ) (s : ℕ) (e : Entry) : Type 0 where
  part : PartCopy
  has_part : worker.open_part e ≡ Some part
  spawn : SpawnRec
  recorded : master.record_of w.controllers.master.records s ≡ Some spawn
  named : spawn.worker ≡ name
  number : spawn.id ≡ s
  place : ℕ
  there : slice_get w.controllers.master.records place ≡ Some spawn
  out : is_out spawn ≡ true
  shows : (x : List ℕ) → worker.has part x ≡ option_map_or (is_claimed spawn.node spawn.rw) (place_at (places w.controllers.master.ticket.rows) x) false

-- where the part was put in the entry isn't open
not_back : (w : State) (name : List ℕ) (s : ℕ) (e : Entry) (r : SpawnRec) → IsConsistent w → entry_at w.controllers.workers name s ≡ Some e → worker.is_open e ≡ true → master.record_of w.controllers.master.records s ≡ Some r → r.worker ≡ name → is_out r ≡ false → ⊥
not_back w name s e r ok found open' recorded named isn't =
    let c = w.controllers in
    let back : HasComeBack c r = found_holds (HasComeBack c) (master.is_of s) c.master.records r recorded ok.back in
    let ended = and_found (IsBack r.phase) (entry_for c r) (back isn't) in
    let id : r.id ≡ s = number_is c.master.records s r recorded in
    let at : entry_for c r ≡ Some e = ap (λ n. entry_at c.workers n r.id) named ∙ ap (entry_at c.workers name) id ∙ found in
    let same : e ≡ ended.0 = same_found e ended.0 (entry_for c r) at ended.1 in
    true≢false (sym open' ∙ ap (λ (y : Entry). worker.is_open y) same ∙ back_shut r.phase ended.0 isn't ended.2)

open_there : (w : State) (name : List ℕ) (s : ℕ) (e : Entry) → IsConsistent w → entry_at w.controllers.workers name s ≡ Some e → worker.is_open e ≡ true → IsOpenThere w name s e
open_there w name s e ok found open' =
    let c = w.controllers in
    let records = c.master.records in
    let at = found_through (worker_of c.workers name) s e found in
    let v = at.0 in
    let own : e.spawn_id ≡ s = eqb-true e.spawn_id s (find-passes (worker.is_of s) v.entries e at.2) in
    let all : AreRecorded c v = found_holds (AreRecorded c) (is_named name) c.workers v at.1 ok.recorded in
    let known = and_found _ (master.record_of records e.spawn_id) (found_holds (IsRecorded c v.name) (worker.is_of s) v.entries e at.2 all) in
    let r = known.0 in
    let recorded : master.record_of records s ≡ Some r = ap (master.record_of records) (sym own) ∙ known.1 in
    let named : r.worker ≡ name = known.2.0 ∙ (bytes_eq-Decides v.name name).0 (find-passes (is_named name) c.workers v at.1) in
    let out = true_by (is_out r) (not_back w name s e r ok found open' recorded named) in
    let place = placed (master.is_of s) records r recorded in
    let good = ok.master.apart.good place.place r place.there out in
    let held = and_found (Fits c.master.ticket r) e.part (known.2.1 out (open_taken e open')) in
    record {
      part = held.0;
      has_part = opened e held.0 open' held.1;
      spawn = r;
      recorded = recorded;
      named = named;
      number = number_is records s r recorded;
      place = place.place;
      there = place.there;
      out = out;
      shows = λ x. fits_has c.master.ticket r held.0 x held.2 ∙ part_has c.master.ticket r x ok.master.valid good;
    }

-- ---- what it has is what its spawn holds

some_passes : {X : Type 0} (f : X → Bool) (o : Option X) → option_map_or f o false ≡ true → (x : X) × (o ≡ Some x) × (f x ≡ true)
some_passes f None e = absurd (true≢false (sym e))
some_passes f (Some x) e = (x, refl, e)

held_so : (w : State) (name : List ℕ) (s : ℕ) (e : Entry) (x : List ℕ) → IsConsistent w → (at : IsOpenThere w name s e) → worker.has at.part x ≡ true → master.holder w.controllers.master x ≡ Some (Spawn s)
held_so w name s e x ok at here =
    let m = w.controllers.master in
    let r = at.spawn in
    let claims = some_passes (is_claimed r.node r.rw) (place_at (places m.ticket.rows) x) (sym (at.shows x) ∙ here) in
    let held = claim_is_held m.ticket.rows m.records ok.master.apart at.place r x claims.0 at.there at.out claims.1 claims.2 in
    ap (option_map (holder_at m.records)) claims.1 ∙ ap (λ o. Some (option_map_or (λ (q : SpawnRec). Spawn q.id) o Master)) held ∙ ap (λ n. Some (Spawn n)) at.number

-- who holds an id holds what stands at its place
held_place : (records : List SpawnRec) (s : ℕ) (o : Option Place) → option_map (holder_at records) o ≡ Some (Spawn s) → (p : Place) × (o ≡ Some p) × (holder_at records p ≡ Spawn s)
held_place records s None e = cc
held_place records s (Some p) e = (p, refl, cc)

holding_so : (s : ℕ) (o : Option SpawnRec) → option_map_or (λ (q : SpawnRec). Spawn q.id) o Master ≡ Spawn s → (q : SpawnRec) × (o ≡ Some q) × (q.id ≡ s)
holding_so s None e = cc
holding_so s (Some q) e = (q, refl, cc)

has_so : (w : State) (name : List ℕ) (s : ℕ) (e : Entry) (x : List ℕ) → IsConsistent w → (at : IsOpenThere w name s e) → master.holder w.controllers.master x ≡ Some (Spawn s) → worker.has at.part x ≡ true
has_so w name s e x ok at held =
    let m = w.controllers.master in
    let r = at.spawn in
    let stands = held_place m.records s (place_at (places m.ticket.rows) x) held in
    let by = holding_so s (holding_record m.records stands.0) stands.2 in
    let q = by.0 in
    let place = placed (holds stands.0) m.records q by.1 in
    let same : q ≡ r = one_record m.records place.place s q r ok.master.numbered place.there at.recorded (by.2 ∙ sym at.number) in
    let claims : is_claimed r.node r.rw stands.0 ≡ true = ap (λ (y : SpawnRec). is_claimed y.node y.rw stands.0) (sym same) ∙ (held_is_claimed m.records q stands.0 by.1).1 in
    at.shows x ∙ ap (λ o. option_map_or (is_claimed r.node r.rw) o false) stands.1 ∙ claims

-- ---- who may change

masters : (o : Option Holder) → option_map_or is_masters o false ≡ true → o ≡ Some Master
masters None e = absurd (true≢false (sym e))
masters (Some Master) e = refl
masters (Some (Spawn s)) e = absurd (true≢false (sym e))

-- an entry through which something may be changed
record Through (w : State) (name : List ℕ) (s : ℕ) (x : List ℕ) : Type 0 where
  entry : Entry
  found : entry_at w.controllers.workers name s ≡ Some entry
  part : PartCopy
  opened : worker.open_part entry ≡ Some part
  has_it : worker.has part x ≡ true

opened_of : (o : Option Entry) (p : PartCopy) → option_and_then worker.open_part o ≡ Some p → (e : Entry) × (o ≡ Some e) × (worker.open_part e ≡ Some p)
opened_of None p is = cc
opened_of (Some e) p is = (e, refl, is)

through : (w : State) (name : List ℕ) (s : ℕ) (x : List ℕ) → MayChange w (by_entry name s) x → Through w name s x
through w name s x may =
    let o = worker_of w.controllers.workers name in
    let at = and_found _ o may in
    let v : worker.State = at.0 in
    let got = some_passes (λ p. worker.has p x) (option_and_then worker.open_part (worker.entry_of v.entries s)) at.2 in
    let by = opened_of (worker.entry_of v.entries s) got.0 got.1 in
    record { entry = by.0; found = ap (option_and_then (λ (u : worker.State). worker.entry_of u.entries s)) at.1 ∙ by.1; part = got.0; opened = by.2; has_it = got.2 }

may_through : (w : State) (name : List ℕ) (s : ℕ) (x : List ℕ) → Through w name s x → MayChange w (by_entry name s) x
may_through w name s x by =
    let o = worker_of w.controllers.workers name in
    let at = found_through o s by.entry by.found in
    found_and _ o at.0 at.1 (may_change_here at.0.entries s x by.entry by.part at.2 by.opened by.has_it)

-- it is held then
held_through : (w : State) (name : List ℕ) (s : ℕ) (x : List ℕ) → IsConsistent w → Through w name s x → master.holder w.controllers.master x ≡ Some (Spawn s)
held_through w name s x ok by =
    let at = open_there w name s by.entry ok by.found (of_open by.entry by.part by.opened).0 in
    held_so w name s by.entry x ok at (subst (λ p. worker.has p x ≡ true) (same_found by.part at.part (worker.open_part by.entry) by.opened at.has_part) by.has_it)

-- ---- what is shown

-- a spawn that is shown as open is out, and has an entry that is open
open_shown : (phase : records.Phase) (o : Option Entry) → phase_shown phase o ≡ Open → (is_out_phase phase ≡ true) × IsSomeAnd o (λ e. worker.is_open e ≡ true)
open_shown recorded.Withdrawn o e = cc
open_shown recorded.Merged None e = cc
open_shown recorded.Merged (Some entry) e = absurd (never_open (worker.is_closed entry) e)
  where
    never_open : (b : Bool) → cond b Closed Merged ≡ Open → ⊥
    never_open true e = cc
    never_open false e = cc
open_shown recorded.Out None e = cc
open_shown recorded.Out (Some entry) e = (refl, entry_open (worker.is_declined entry) (worker.is_open entry) e)
  where
    entry_open : (declined b : Bool) → cond declined Declined (cond b Open Done) ≡ Open → b ≡ true
    entry_open true b e = cc
    entry_open false true e = refl
    entry_open false false e = cc

-- the spawn of an open entry is shown as open, at its worker
shown_open : (w : State) (name : List ℕ) (s : ℕ) (e : Entry) → IsConsistent w → entry_at w.controllers.workers name s ≡ Some e → worker.is_open e ≡ true → IsSomeAnd (spawn_of s (shop_shown w.controllers)) (λ a. (a.worker ≡ name) × (a.phase ≡ Open))
shown_open w name s e ok found is_open' =
    let c = w.controllers in
    let at = open_there w name s e ok found is_open' in
    let r = at.spawn in
    let entered : entry_for c r ≡ Some e = ap (λ n. entry_at c.workers n r.id) at.named ∙ ap (entry_at c.workers name) at.number ∙ found in
    let phase : phase_shown r.phase (entry_for c r) ≡ Open =
    ap (λ ph. phase_shown ph (entry_for c r)) (phase_out r.phase at.out) ∙ ap (phase_shown recorded.Out) entered
    ∙ ap (λ b. cond b Declined (cond (worker.is_open e) Open Done)) (open_taken e is_open') ∙ when_true (worker.is_open e) Open Done is_open' in
    found_and _ (spawn_of s (shop_shown c)) (spawn_shown c r) (spawn_found c s ∙ ap (option_map (spawn_shown c)) at.recorded) (at.named, phase)

-- a spawn that is shown as open has an open entry, at its worker
open_entry : (w : State) (name : List ℕ) (s : ℕ) → IsSomeAnd (spawn_of s (shop_shown w.controllers)) (λ a. (a.worker ≡ name) × (a.phase ≡ Open)) → IsSomeAnd (entry_at w.controllers.workers name s) (λ e. worker.is_open e ≡ true)
open_entry w name s shown =
    let c = w.controllers in
    let a = and_found _ (spawn_of s (shop_shown c)) shown in
    let made = made_of (spawn_shown c) (master.record_of c.master.records s) a.0 (sym (spawn_found c s) ∙ a.1) in
    let r = made.0 in
    let named : r.worker ≡ name = ap (λ (b : SpawnState). b.worker) made.2 ∙ a.2.0 in
    let phase : phase_shown r.phase (entry_for c r) ≡ Open = ap (λ (b : SpawnState). b.phase) made.2 ∙ a.2.1 in
    let entered : entry_for c r ≡ entry_at c.workers name s = ap (λ n. entry_at c.workers n r.id) named ∙ ap (entry_at c.workers name) (number_is c.master.records s r made.1) in
    subst (λ o. IsSomeAnd o (λ e. worker.is_open e ≡ true)) entered (open_shown r.phase (entry_for c r) phase).1

-- ---- the laws

to_holds : (w : State) (name : List ℕ) (s : ℕ) (x : List ℕ) → IsConsistent w → MayChange w (by_entry name s) x → Holds (shop_shown w.controllers) (by_entry name s) x
to_holds w name s x ok may =
    let by = through w name s x may in
    (held_through w name s x ok by, shown_open w name s by.entry ok by.found (of_open by.entry by.part by.opened).0)

from_holds : (w : State) (name : List ℕ) (s : ℕ) (x : List ℕ) → IsConsistent w → Holds (shop_shown w.controllers) (by_entry name s) x → MayChange w (by_entry name s) x
from_holds w name s x ok holds =
    let at = and_found _ (entry_at w.controllers.workers name s) (open_entry w name s holds.1) in
    let e : Entry = at.0 in
    let there = open_there w name s e ok at.1 at.2 in
    may_through w name s x (record { entry = e; found = at.1; part = there.part; opened = there.has_part; has_it = has_so w name s e x ok there holds.0 })

pub holders_may_change : HoldersMayChange
holders_may_change w by_master x ok =
    let o = master.holder w.controllers.master x in
    (masters o, λ held. ap (λ h. option_map_or is_masters h false) held)
holders_may_change w (by_entry name s) x ok = (to_holds w name s x ok, from_holds w name s x ok)

not_both : (o : Option Holder) (s : ℕ) → o ≡ Some Master → o ≡ Some (Spawn s) → ⊥
not_both o s a b = cc

one_spawn : (o : Option Holder) (s t : ℕ) → o ≡ Some (Spawn s) → o ≡ Some (Spawn t) → s ≡ t
one_spawn o s t a b = cc

one_entry : (w : State) (n m : List ℕ) (s t : ℕ) (x : List ℕ) → IsConsistent w → Through w n s x → Through w m t x → by_entry n s ≡ by_entry m t
one_entry w n m s t x ok a b =
    let records = w.controllers.master.records in
    let one : s ≡ t = one_spawn (master.holder w.controllers.master x) s t (held_through w n s x ok a) (held_through w m t x ok b) in
    let at = open_there w n s a.entry ok a.found (of_open a.entry a.part a.opened).0 in
    let other = open_there w m t b.entry ok b.found (of_open b.entry b.part b.opened).0 in
    let same : at.spawn ≡ other.spawn = same_found at.spawn other.spawn (master.record_of records s) at.recorded (ap (master.record_of records) one ∙ other.recorded) in
    let named : n ≡ m = sym at.named ∙ ap (λ (r : SpawnRec). r.worker) same ∙ other.named in
    ap (λ k. by_entry k s) named ∙ ap (by_entry m) one

pub no_two_may_change_one : NoTwoMayChangeOne
no_two_may_change_one w by_master by_master x ok a b = refl
no_two_may_change_one w by_master (by_entry m t) x ok a b =
    let o = master.holder w.controllers.master x in
    absurd (not_both o t (masters o a) (held_through w m t x ok (through w m t x b)))
no_two_may_change_one w (by_entry n s) by_master x ok a b =
    let o = master.holder w.controllers.master x in
    absurd (not_both o s (masters o b) (held_through w n s x ok (through w n s x a)))
no_two_may_change_one w (by_entry n s) (by_entry m t) x ok a b = one_entry w n m s t x ok (through w n s x a) (through w m t x b)

-- ---- after an event

-- no two may change one node or resource of this
abbrev pub Alone : State → Type 0
Alone w = (c d : Changer) (x : List ℕ) → MayChange w c x → MayChange w d x → c ≡ d

pub alone : (w : State) → IsConsistent w → Alone w
alone w ok c d x a b = no_two_may_change_one w c d x ok a b

-- each may change of this exactly what it holds
abbrev pub ByHolders : State → Type 0
ByHolders w = (c : Changer) (x : List ℕ) → MayChange w c x ↔ Holds (shows w).shop c x

pub by_holders : (w : State) → IsConsistent w → ByHolders w
by_holders w ok c x = holders_may_change w c x ok

-- where it isn't known how far an event came, its controller stopped in it
pub kept_then : {A E : Type 0} (r : Result A E) (what : What) (at : ℕ) (stop : Stop) (w now : State) → IsConsistent w → OnOk r (now ≡ next_state stop w (step_of what at w)) → OnErr r (IsUnknown w (step_of what at w) now) → IsConsistent now
kept_then (Ok a) what at stop w now ok is unknown = subst IsConsistent (sym is) (kept_after (record { what = what; at = at; stop = stop }) w ok)
kept_then (Err e) what at stop w now ok is (inl lost) = subst IsConsistent (sym lost) (kept_after (record { what = what; at = at; stop = BeforeSave }) w ok)
kept_then (Err e) what at stop w now ok is (inr unsent) = subst IsConsistent (sym unsent) (kept_after (record { what = what; at = at; stop = BeforeSend }) w ok)

pub kept_then_all : (events : List Event) (w now : State) → IsConsistent w → now ≡ after_all events w → IsConsistent now
kept_then_all events w now ok is = subst IsConsistent (sym is) (kept_after_all events w ok)
