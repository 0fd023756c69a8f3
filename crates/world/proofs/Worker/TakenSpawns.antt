-- The spawns that a worker took: each is shown as taken, and each that is shown so has an entry there.
use Rattle.std.proofs.Common.{◌≡◌, ◌&&◌, ◌∙◌, ℕ, Bool, true, false, cond, not, List, map, Option, Some, None, IsSomeAnd, get_or, refl, sym, ap, subst}
use Rattle.std.proofs.lemmas.Bool.{and_parts, eqb-true, true≢false}
use Rattle.std.proofs.lemmas.Option.{slice_get-get_or}
use Rattle.std.proofs.lemmas.Slice.Eq.{bytes_eq-Decides}
use Rattle.std.specs.List.{All, find}
use Rattle.std.specs.Option.{option_and_then, option_map}
use Rattle.std.specs.Str.{bytes_eq}
use Rattle.ticket_items.proofs.Apart.{bytes_eq-same}
use Rattle.ticket_items.proofs.Places.{same_found}
use Rattle.ticket_rows.proofs.AtHome.{find-passes}
use Rattle.spawn.proofs.SoundPart.{false_by}
use Rattle.spawn.specs.Records.{is_out, is_out_phase}
use Rattle.spawn.specs.declared.records.phase.Phase as records
use Rattle.spawn.specs.declared.records.phase.Phase.TheVariants as recorded
use Rattle.spawn.specs.declared.records.spawn_rec.SpawnRec.{SpawnRec}
use Rattle.merge.specs.Shape.{Fits}
use Rattle.master_core.proofs.Recorded.{number_is}
use Rattle.master_core.specs.Master.{IsNumbered, is_of, record_of}
use Rattle.worker_core.proofs.AtNumber.{found_holds}
use Rattle.worker_core.proofs.Closing.{ended_shut}
use Rattle.worker_core.specs.Worker as worker
use Rattle.worker_core.specs.declared.entry.Entry.{Entry}
use Rattle.worker_core.specs.declared.stage.Stage.{Stage}
use Rattle.worker_core.specs.declared.stage.Stage.TheVariants as stages
use Rattle.world.proofs.Worker.EndedEntries.{back_shut, one_record}
use Rattle.world.proofs.Runs.Cases.{found_both, found_made, none_found, split}
use Rattle.world.proofs.Worker.Stored.{and_found}
use Rattle.world.specs.Controllers.{Controllers, entry_at, is_named, worker_of}
use Rattle.world.specs.Messages.{AreRecorded, HasComeBack, IsBack, IsRecorded, entry_for}
use Rattle.plain_shop.specs.Shop.{Closed, Declined, Done, Merged, Open, Phase, is_away, is_done, is_open, is_taken}
use Rattle.plain_shop.specs.Shop as plain
use Rattle.plain_shop.specs.Steps.{is_taken_by}
use Rattle.world.specs.Showing.{phase_shown, spawn_shown}
use Rattle.world.specs.State.{IsConsistent, State}

-- ---- phases

-- one that is out has a record in this phase
pub phase_out : (phase : records.Phase) → is_out_phase phase ≡ true → phase ≡ recorded.Out
phase_out recorded.Out out = refl
phase_out recorded.Merged out = absurd (true≢false (sym out))
phase_out recorded.Withdrawn out = absurd (true≢false (sym out))

-- one that isn't out, and whose entry wasn't declined, was put in
pub merged_of : (phase : records.Phase) (e : Entry) → is_out_phase phase ≡ false → IsBack phase e → worker.is_declined e ≡ false → phase ≡ recorded.Merged
merged_of recorded.Out e isn't back taken = absurd (true≢false isn't)
merged_of recorded.Merged e isn't back taken = refl
merged_of recorded.Withdrawn e isn't back taken = absurd (true≢false (sym back ∙ taken))

-- a spawn that is out and has no entry is on the way, and wasn't taken
pub phase_away : (phase : records.Phase) (o : Option Entry) → o ≡ None → is_out_phase phase ≡ true → is_away (phase_shown phase o) ≡ true
phase_away recorded.Out None none out = refl
phase_away recorded.Out (Some e) none out = cc
phase_away recorded.Merged o none out = absurd (true≢false (sym out))
phase_away recorded.Withdrawn o none out = absurd (true≢false (sym out))

none_taken : (phase : records.Phase) (o : Option Entry) → o ≡ None → is_out_phase phase ≡ true → is_taken (phase_shown phase o) ≡ false
none_taken recorded.Out None none out = refl
none_taken recorded.Out (Some e) none out = cc
none_taken recorded.Merged o none out = absurd (true≢false (sym out))
none_taken recorded.Withdrawn o none out = absurd (true≢false (sym out))

-- a spawn is shown as out just if its record is
out_in : (declined opened : Bool) → plain.is_out (cond declined Declined (cond opened Open Done)) ≡ true
out_in true opened = refl
out_in false true = refl
out_in false false = refl

in_once : (b : Bool) → plain.is_out (cond b Closed Merged) ≡ false
in_once true = refl
in_once false = refl

pub out_shown : (phase : records.Phase) (entry : Option Entry) → plain.is_out (phase_shown phase entry) ≡ is_out_phase phase
out_shown recorded.Out None = refl
out_shown recorded.Out (Some e) = out_in (worker.is_declined e) (worker.is_open e)
out_shown recorded.Merged None = refl
out_shown recorded.Merged (Some e) = in_once (worker.is_closed e)
out_shown recorded.Withdrawn entry = refl

-- while it is out one that has an entry is open, finished or declined as that is, and never on the way
pub record IsShown (phase : records.Phase) (e : Entry) : Type 0 where
  pub away : is_away (phase_shown phase (Some e)) ≡ false
  pub open_so : is_open (phase_shown phase (Some e)) ≡ (is_out_phase phase && worker.is_open e)
  pub done_so : is_done (phase_shown phase (Some e)) ≡ (is_out_phase phase && worker.is_ended e)
  pub declined_so : plain.is_declined (phase_shown phase (Some e)) ≡ (is_out_phase phase && worker.is_declined e)

abbrev pub stage_shown : Stage → Phase
stage_shown stage = cond (worker.is_declined_stage stage) Declined (cond (worker.is_open_stage stage) Open Done)

by_stage : (stage : Stage) → (is_away (stage_shown stage) ≡ false) × (is_open (stage_shown stage) ≡ worker.is_open_stage stage) × (is_done (stage_shown stage) ≡ worker.is_ended_stage stage) × (plain.is_declined (stage_shown stage) ≡ worker.is_declined_stage stage)
by_stage stages.Open = (refl, refl, refl, refl)
by_stage (stages.Done how) = (refl, refl, refl, refl)
by_stage (stages.Closed how) = (refl, refl, refl, refl)
by_stage stages.Declined = (refl, refl, refl, refl)

once_in : (b : Bool) → (is_away (cond b Closed Merged) ≡ false) × (is_open (cond b Closed Merged) ≡ false) × (is_done (cond b Closed Merged) ≡ false) × (plain.is_declined (cond b Closed Merged) ≡ false)
once_in true = (refl, refl, refl, refl)
once_in false = (refl, refl, refl, refl)

pub phase_of_entry : (phase : records.Phase) (e : Entry) → IsShown phase e
phase_of_entry recorded.Out e = let by = by_stage e.phase in record { away = by.0; open_so = by.1; done_so = by.2; declined_so = by.3 }
phase_of_entry recorded.Merged e = let by = once_in (worker.is_closed e) in record { away = by.0; open_so = by.1; done_so = by.2; declined_so = by.3 }
phase_of_entry recorded.Withdrawn e = record { away = refl; open_so = refl; done_so = refl; declined_so = refl }

-- it is shown as taken just if the entry wasn't declined
stage_taken : (stage : Stage) → is_taken (stage_shown stage) ≡ not (worker.is_declined_stage stage)
stage_taken stages.Open = refl
stage_taken (stages.Done how) = refl
stage_taken (stages.Closed how) = refl
stage_taken stages.Declined = refl

once_taken : (b : Bool) → is_taken (cond b Closed Merged) ≡ true
once_taken true = refl
once_taken false = refl

pub taken_of_entry : (phase : records.Phase) (e : Entry) → (is_out_phase phase ≡ false → IsBack phase e) → is_taken (phase_shown phase (Some e)) ≡ not (worker.is_declined e)
taken_of_entry recorded.Out e back = stage_taken e.phase
taken_of_entry recorded.Merged e back = once_taken (worker.is_closed e) ∙ sym (ap not (ended_shut e (back refl)).1)
taken_of_entry recorded.Withdrawn e back = sym (ap not (back refl))

-- ---- the record of an entry

-- an entry of a worker, and the record of its spawn, which names that worker
pub record HasRecord (c : Controllers) (name : List ℕ) (s : ℕ) (e : Entry) : Type 0 where
  pub spawn : SpawnRec
  pub recorded : record_of c.master.records s ≡ Some spawn
  pub number : spawn.id ≡ s
  pub named : spawn.worker ≡ name
  pub entered : entry_for c spawn ≡ Some e
  pub own : e.spawn_id ≡ s
  pub fits : is_out spawn ≡ true → worker.is_declined e ≡ false → IsSomeAnd e.part (Fits c.master.ticket spawn)
  pub back : is_out spawn ≡ false → IsBack spawn.phase e

entry_there : (c : Controllers) (name : List ℕ) (s : ℕ) (v : worker.State) → worker_of c.workers name ≡ Some v → entry_at c.workers name s ≡ worker.entry_of v.entries s
entry_there c name s v found = ap (option_and_then (λ (u : worker.State). worker.entry_of u.entries s)) found

pub name_of : (c : Controllers) (name : List ℕ) (v : worker.State) → worker_of c.workers name ≡ Some v → v.name ≡ name
name_of c name v found = (bytes_eq-Decides v.name name).0 (find-passes (is_named name) c.workers v found)

pub entry_record : (w : State) (name : List ℕ) (s : ℕ) (v : worker.State) (e : Entry) → IsConsistent w → worker_of w.controllers.workers name ≡ Some v → worker.entry_of v.entries s ≡ Some e → HasRecord w.controllers name s e
entry_record w name s v e ok found has_entry =
    let c = w.controllers in
    let records = c.master.records in
    let own : e.spawn_id ≡ s = eqb-true e.spawn_id s (find-passes (worker.is_of s) v.entries e has_entry) in
    let all : AreRecorded c v = found_holds (AreRecorded c) (is_named name) c.workers v found ok.recorded in
    let known = and_found _ (record_of records e.spawn_id) (found_holds (IsRecorded c v.name) (worker.is_of s) v.entries e has_entry all) in
    let r = known.0 in
    let recorded : record_of records s ≡ Some r = ap (record_of records) (sym own) ∙ known.1 in
    let number : r.id ≡ s = number_is records s r recorded in
    let named : r.worker ≡ name = known.2.0 ∙ name_of c name v found in
    let entered : entry_for c r ≡ Some e = ap (λ n. entry_at c.workers n r.id) named ∙ ap (entry_at c.workers name) number ∙ entry_there c name s v found ∙ has_entry in
    let back : HasComeBack c r = found_holds (HasComeBack c) (is_of s) records r recorded ok.back in
    record {
      spawn = r;
      recorded = recorded;
      number = number;
      named = named;
      entered = entered;
      own = own;
      fits = known.2.1;
      back = λ isn't.
          let ended = and_found (IsBack r.phase) (entry_for c r) (back isn't) in
          subst (IsBack r.phase) (same_found ended.0 e (entry_for c r) ended.1 entered) ended.2;
    }

-- where its spawn isn't out it isn't open
pub back_is_shut : (c : Controllers) (name : List ℕ) (s : ℕ) (e : Entry) → (h : HasRecord c name s e) → is_out h.spawn ≡ false → worker.is_open e ≡ false
back_is_shut c name s e h isn't = back_shut h.spawn.phase e isn't (h.back isn't)

-- the record of a number is the only one of it
pub only_record : (records : List SpawnRec) (s : ℕ) (r : SpawnRec) → IsNumbered records → record_of records s ≡ Some r → All (λ q. q.id ≡ s → q ≡ r) records
only_record records s r numbered found k d within same =
    one_record records k s (get_or records k d) r numbered (slice_get-get_or records k d within) found (same ∙ sym (number_is records s r found))

-- ---- the spawn that is shown

-- the spawn of an entry that wasn't declined is shown as taken by the worker
pub taken_shown : (c : Controllers) (name : List ℕ) (s : ℕ) (e : Entry) → (h : HasRecord c name s e) → worker.is_declined e ≡ false → find (is_taken_by name s) (map (spawn_shown c) c.master.records) ≡ Some (spawn_shown c h.spawn)
taken_shown c name s e h taken =
    let records = c.master.records in
    let r = h.spawn in
    let named : bytes_eq r.worker name ≡ true = ap (λ n. bytes_eq n name) h.named ∙ bytes_eq-same name in
    let here : is_taken (phase_shown r.phase (entry_for c r)) ≡ true = ap (λ o. is_taken (phase_shown r.phase o)) h.entered ∙ taken_of_entry r.phase e h.back ∙ ap not taken in
    let by_name = found_both (is_of s) (λ q. bytes_eq q.worker name) records r h.recorded named in
    found_made (is_taken_by name s) (spawn_shown c) records
    ∙ ap (option_map (spawn_shown c)) (found_both (λ q. is_of s q && bytes_eq q.worker name) (λ q. is_taken (phase_shown q.phase (entry_for c q))) records r by_name here)

-- and that of one that was declined isn't
pub declined_shown : (w : State) (name : List ℕ) (s : ℕ) (e : Entry) → IsConsistent w → (h : HasRecord w.controllers name s e) → worker.is_declined e ≡ true → find (is_taken_by name s) (map (spawn_shown w.controllers) w.controllers.master.records) ≡ None
declined_shown w name s e ok h declined =
    let c = w.controllers in
    let records = c.master.records in
    let r = h.spawn in
    let here : is_taken (phase_shown r.phase (entry_for c r)) ≡ false = ap (λ o. is_taken (phase_shown r.phase o)) h.entered ∙ taken_of_entry r.phase e h.back ∙ ap not declined in
    found_made (is_taken_by name s) (spawn_shown c) records
    ∙ ap (option_map (spawn_shown c)) (none_found (λ (q : SpawnRec). q.id ≡ s → q ≡ r) (λ q. is_taken_by name s (spawn_shown c q)) records (λ q only. false_by _ (λ passes.
    let parts = and_parts (is_of s q && bytes_eq q.worker name) (is_taken (phase_shown q.phase (entry_for c q))) passes in
    let same : q ≡ r = only (eqb-true q.id s (and_parts (is_of s q) (bytes_eq q.worker name) parts.0).0) in
    true≢false (sym parts.1 ∙ ap (λ (y : SpawnRec). is_taken (phase_shown y.phase (entry_for c y))) same ∙ here))) (only_record records s r ok.master.numbered h.recorded))

-- where the worker has no entry none is
pub none_shown : (w : State) (name : List ℕ) (s : ℕ) (v : worker.State) → IsConsistent w → worker_of w.controllers.workers name ≡ Some v → worker.entry_of v.entries s ≡ None → find (is_taken_by name s) (map (spawn_shown w.controllers) w.controllers.master.records) ≡ None
none_shown w name s v ok found none =
    let c = w.controllers in
    let records = c.master.records in
    found_made (is_taken_by name s) (spawn_shown c) records
    ∙ ap (option_map (spawn_shown c)) (none_found (HasComeBack c) (λ r. is_taken_by name s (spawn_shown c r)) records (λ r back. false_by _ (λ passes.
    let parts = and_parts (is_of s r && bytes_eq r.worker name) (is_taken (phase_shown r.phase (entry_for c r))) passes in
    let own = and_parts (is_of s r) (bytes_eq r.worker name) parts.0 in
    let missing : entry_for c r ≡ None = ap (λ n. entry_at c.workers n r.id) ((bytes_eq-Decides r.worker name).0 own.1) ∙ ap (entry_at c.workers name) (eqb-true r.id s own.0) ∙ entry_there c name s v found ∙ none in
    split (is_out r)
    (λ out. true≢false (sym parts.1 ∙ none_taken r.phase (entry_for c r) missing out))
    (λ isn't. let ended = and_found _ (entry_for c r) (back isn't) in some_none ended.0 (entry_for c r) ended.1 missing))) ok.back)
  where
    some_none : {X : Type 0} (x : X) (o : Option X) → o ≡ Some x → o ≡ None → ⊥
    some_none x o a b = cc
