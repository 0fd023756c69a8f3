-- A worker's state that a format tells is read again.
use Rattle.std.proofs.Common.{◌≡◌, ◌∙◌, ◌==◌, ℕ, true, false, cond, List, [], ◌∷◌, map, Option, Some, None, Ok, IfSome, refl, ap}
use Rattle.std.proofs.lemmas.Bool.{and_from, and_parts, or_from}
use Rattle.std.proofs.lemmas.List.Elements.{All-head, All-tail}
use Rattle.std.specs.List.{All, list_all, list_any}
use Rattle.std.specs.Option.{option_map_or}
use Rattle.std.specs.Prelude.{codes, is_some}
use Rattle.std.specs.Str.{bytes_eq}
use Rattle.serde_json.specs.Data.{Data, no_members, number, object, put, string, unsigned}
use Rattle.ticket_items.specs.Refusal.{number_of}
use Rattle.ticket_items.specs.SpawnId.{is_spawn_number, spawn_text}
use Rattle.ticket_items.specs.declared.refusal.Refusal.{Refusal}
use Rattle.ticket_tree.specs.Part.{PartCopy}
use Rattle.json_items.proofs.Again.{more_at}
use Rattle.json_items.specs.PartDraft.{RawPart, part_form as form_of_part}
use Rattle.json_items.specs.PartForm as part_form
use Rattle.json_items.specs.PartForm.{part_of_raw}
use Rattle.json_items.specs.Validation.{checked_value}
use Rattle.json_items.specs.Listed.{data_items, items_read}
use Rattle.json_source.specs.Read.{◌>>=◌}
use Rattle.json_text.specs.PartWritten.{part_data}
use Rattle.spawn.proofs.Holding.{find_as}
use Rattle.worker_core.proofs.KeptStored.{a_kept_worker_is_stored}
use Rattle.worker_core.specs.Stored.{is_worker}
use Rattle.worker_core.specs.Worker.{IsKeptEntry, IsKeptPart, State, end_word, keeps_part, state}
use Rattle.world_items.specs.declared.end.End.{End}
use Rattle.world_items.specs.declared.end.End.TheVariants.{Completed, Aborted}
use Rattle.worker_core.specs.declared.entry.Entry.{Entry}
use Rattle.worker_core.specs.declared.stage.Stage.{Stage}
use Rattle.worker_core.specs.declared.stage.Stage.TheVariants.{Open, Done, Closed, Declined}
use Rattle.controller_form.specs.Orders.EndNamed.{end_named}
use Rattle.json_items.specs.Spawns.{spawn_named}
use Rattle.controller_form.specs.States.EntryForm.{closed_form, declined_form, entry_data, entry_fault, entry_form}
use Rattle.controller_form.specs.States.EntryForm.{entry_has_names, entry_has_texts, entry_in, held_form, is_told_in, partless_form}
use Rattle.controller_form.specs.States.EntryForm.{stage_named, with_id}
use Rattle.controller_form.specs.States.PartFaults.{part_faults}
use Rattle.controller_form.specs.States.WorkerForm.{StoredWorker, is_fault, judged_worker, parts_fault}
use Rattle.controller_form.specs.States.WorkerForm.{worker_built_fault, worker_data, worker_form}
use Rattle.controller_form.specs.States.WorkerForm.{worker_has_names, worker_in}
use Rattle.controller_form.specs.States.WorkerForm.{worker_state_in, worker_state_read}
use Rattle.controller_form.specs.States.Writable.{IsWritableEntry, IsWritablePart, IsWritableWorker}
use Rattle.controller_form.specs.declared.states.format.Format.{Format}
use Rattle.controller_form.specs.declared.states.format.Format.TheVariants.{First, Second}
use Rattle.controller_form.specs.declared.states.stored_entry.StoredEntry.{StoredEntry}
use Rattle.controller_form.proofs.Reading.{IsSoundDraft, all_pass, nothing_wrong, sound_draft}
use Rattle.controller_form.proofs.RecordAgain.{number_again}
use Rattle.controller_form.proofs.Refusing.{nothing}

-- ---- words

end_again : (how : End) → end_named (end_word how) ≡ Some how
end_again Completed = refl
end_again Aborted = refl

done_again : (how : End) → stage_named (end_word how) ≡ Some (Done how)
done_again Completed = refl
done_again Aborted = refl

no_end_is_closed : (how : End) → bytes_eq (codes "Closed") (end_word how) ≡ false
no_end_is_closed Completed = refl
no_end_is_closed Aborted = refl

no_end_is_declined : (how : End) → bytes_eq (codes "Declined") (end_word how) ≡ false
no_end_is_declined Completed = refl
no_end_is_declined Aborted = refl

-- ---- an entry with its part

abbrev entry : ℕ → Stage → Option PartCopy → ℕ → Entry
entry s stage part at = record { spawn_id = s; phase = stage; part = part; at = at }

-- its data, with this word of its stage
abbrev held_data : Format → ℕ → List ℕ → PartCopy → ℕ → Data
held_data format s word p at =
    object (put (codes "Part") (part_data p) (with_id format s (put (codes "Phase") (string word) (put (codes "At") (number (unsigned at)) no_members))))

-- the spawn that a format tells
abbrev id_told : Format → ℕ → RawPart → ℕ
id_told First s p = p.spawn
id_told Second s p = spawn_named (spawn_text s)

abbrev held : Format → ℕ → Stage → ℕ → RawPart → StoredEntry
held format s stage at p = record { spawn = id_told format s p; phase = stage; part = Some p; at = at }

held_there : (format : Format) (s : ℕ) (word : List ℕ) (stage : Stage) (p : PartCopy) (at : ℕ) (raw : RawPart) → stage_named word ≡ Some stage → form_of_part (part_data p) ≡ Some raw → held_form format (held_data format s word p at) ≡ Some (held format s stage at raw)
unfolding held_form
held_there First s word stage p at raw named read =
    ap (λ o. o >>= λ x. form_of_part (part_data p) >>= λ q. Some (held First s x at q)) named
    ∙ ap (λ o. o >>= λ q. Some (held First s stage at q)) read
held_there Second s word stage p at raw named read =
    ap (λ o. o >>= λ x. form_of_part (part_data p) >>= λ q. Some (held Second s x at q)) named
    ∙ ap (λ o. o >>= λ q. Some (held Second s stage at q)) read

is_held : (s : ℕ) (word : List ℕ) (p : PartCopy) (at : ℕ) (raw : Option StoredEntry) → bytes_eq (codes "Closed") word ≡ false → bytes_eq (codes "Declined") word ≡ false → held_form Second (held_data Second s word p at) ≡ raw → entry_form Second (held_data Second s word p at) ≡ raw
unfolding entry_form
is_held s word p at raw open' taken is =
    let d = held_data Second s word p at in
    ap (λ b. cond b (closed_form d) (cond (bytes_eq (codes "Declined") word) (declined_form d) (held_form Second d))) open'
    ∙ ap (λ b. cond b (declined_form d) (held_form Second d)) taken ∙ is

entry_there : (format : Format) (s : ℕ) (word : List ℕ) (stage : Stage) (p : PartCopy) (at : ℕ) (raw : RawPart) → bytes_eq (codes "Closed") word ≡ false → bytes_eq (codes "Declined") word ≡ false → stage_named word ≡ Some stage → form_of_part (part_data p) ≡ Some raw → entry_form format (held_data format s word p at) ≡ Some (held format s stage at raw)
unfolding entry_form
entry_there First s word stage p at raw open' taken named read = held_there First s word stage p at raw named read
entry_there Second s word stage p at raw open' taken named read = is_held s word p at _ open' taken (held_there Second s word stage p at raw named read)

-- its spawn is that of its part
id_again : (format : Format) (s : ℕ) (raw : RawPart) (p : PartCopy) → is_spawn_number s ≡ true → part_of_raw raw ≡ p → p.spawn_id ≡ s → id_told format s raw ≡ s
id_again First s raw p numbered same own = ap (λ q. q.spawn_id) same ∙ own
id_again Second s raw p numbered same own = number_again s numbered

-- ---- one entry

-- the draft that an entry is read as, which has no fault
record IsRead (format : Format) (e : Entry) : Type 0 where
  raw : StoredEntry
  there : entry_form format (entry_data format e) ≡ Some raw
  same : entry_in raw ≡ e
  names : entry_has_names raw ≡ true
  texts : entry_has_texts raw ≡ true
  none : entry_fault raw ≡ None

held_read : (format : Format) (s : ℕ) (stage : Stage) (p : PartCopy) (at : ℕ) → is_spawn_number s ≡ true → p.spawn_id ≡ s → (read : IsSoundDraft part_form.part_fault part_of_raw (form_of_part (part_data p)) p) → entry_form format (entry_data format (entry s stage (Some p) at)) ≡ Some (held format s stage at read.draft) → IsRead format (entry s stage (Some p) at)
held_read format s stage p at numbered own read there =
    let passed = all_pass _ _ _ read.sound in
    let id = id_again format s read.draft p numbered read.same own in
    record {
      raw = held format s stage at read.draft;
      there = there;
      same = λ i. record { spawn_id = id i; phase = stage; part = Some (read.same i); at = at };
      names = and_from _ _ (ap is_spawn_number id ∙ numbered) passed.names;
      texts = passed.texts;
      none = passed.none;
    }

closed_read : (s : ℕ) (how : End) (at : ℕ) → is_spawn_number s ≡ true → IsRead Second (entry s (Closed how) None at)
unfolding entry_form closed_form partless_form
closed_read s how at numbered =
    let id = number_again s numbered in
    record {
      raw = record { spawn = spawn_named (spawn_text s); phase = Closed how; part = None; at = at };
      there = ap (λ o. o >>= λ x. Some (record { spawn = spawn_named (spawn_text s); phase = Closed x; part = None; at = at })) (end_again how);
      same = ap (λ n. entry n (Closed how) None at) id;
      names = and_from _ _ (ap is_spawn_number id ∙ numbered) refl;
      texts = refl;
      none = refl;
    }

declined_read : (s at : ℕ) → is_spawn_number s ≡ true → IsRead Second (entry s Declined None at)
unfolding entry_form declined_form partless_form
declined_read s at numbered =
    let id = number_again s numbered in
    record {
      raw = record { spawn = spawn_named (spawn_text s); phase = Declined; part = None; at = at };
      there = refl;
      same = ap (λ n. entry n Declined None at) id;
      names = and_from _ _ (ap is_spawn_number id ∙ numbered) refl;
      texts = refl;
      none = refl;
    }

read_part : (p : PartCopy) → IsWritablePart p → IsSoundDraft part_form.part_fault part_of_raw (form_of_part (part_data p)) p
read_part p known' = sound_draft part_form.part_fault part_of_raw (form_of_part (part_data p)) p known'.again

-- an entry that a format can tell
entry_read : (format : Format) (s : ℕ) (stage : Stage) (part : Option PartCopy) (at : ℕ) → is_some part ≡ keeps_part stage → IfSome part (λ p. p.spawn_id ≡ s) → is_spawn_number s ≡ true → IfSome part IsWritablePart → is_told_in format (entry s stage part at) ≡ true → IsRead format (entry s stage part at)
entry_read format s Open (Some p) at has own numbered known' told =
    let read = read_part p known' in
    held_read format s Open p at numbered own read (entry_there format s (codes "Open") Open p at read.draft refl refl refl read.there)
entry_read format s (Done how) (Some p) at has own numbered known' told =
    let read = read_part p known' in
    held_read format s (Done how) p at numbered own read (entry_there format s (end_word how) (Done how) p at read.draft (no_end_is_closed how) (no_end_is_declined how) (done_again how) read.there)
entry_read Second s (Closed how) None at has own numbered known' told = closed_read s how at numbered
entry_read Second s Declined None at has own numbered known' told = declined_read s at numbered
entry_read First s (Closed how) None at has own numbered known' told = cc
entry_read First s Declined None at has own numbered known' told = cc
entry_read format s Declined (Some p) at has own numbered known' told = cc
entry_read format s (Closed how) (Some p) at has own numbered known' told = cc
entry_read format s Open None at has own numbered known' told = cc
entry_read format s (Done how) None at has own numbered known' told = cc

-- ---- entries in turn

record AreRead (format : Format) (es : List Entry) : Type 0 where
  raws : List StoredEntry
  there : items_read (entry_form format) (data_items (entry_data format) es) ≡ Some raws
  same : map entry_in raws ≡ es
  names : list_all entry_has_names raws ≡ true
  texts : list_all entry_has_texts raws ≡ true
  none : (f : Refusal) → list_any (is_fault f) raws ≡ false

no_fault : (f : Refusal) (raw : StoredEntry) → entry_fault raw ≡ None → is_fault f raw ≡ false
no_fault f raw none = ap (λ o. option_map_or (λ g. number_of g == number_of f) o false) none

own_part : (e : Entry) (part : Option PartCopy) → IfSome part (IsKeptPart e) → IfSome part (λ p. p.spawn_id ≡ e.spawn_id)
own_part e None kept = tt
own_part e (Some p) kept = kept.own

entries_read : (format : Format) (es : List Entry) → All IsKeptEntry es → All IsWritableEntry es → list_all (is_told_in format) es ≡ true → AreRead format es
entries_read format [] kept known' told = record { raws = []; there = refl; same = refl; names = refl; texts = refl; none = λ f. refl }
entries_read format (e ∷ es) kept known' told =
    let tells = and_parts _ _ told in
    let writable = All-head IsWritableEntry e es known' in
    let is = All-head IsKeptEntry e es kept in
    let first : IsRead format e = entry_read format e.spawn_id e.phase e.part e.at is.held (own_part e e.part is.part) writable.number writable.part tells.0 in
    let rest = entries_read format es (All-tail IsKeptEntry e es kept) (All-tail IsWritableEntry e es known') tells.1 in
    record {
      raws = first.raw ∷ rest.raws;
      there = more_at (entry_form format (entry_data format e)) first.raw (items_read (entry_form format) (data_items (entry_data format) es)) rest.raws first.there rest.there;
      same = ap (λ x. x ∷ map entry_in rest.raws) first.same ∙ ap (λ xs. e ∷ xs) rest.same;
      names = and_from _ _ first.names rest.names;
      texts = and_from _ _ first.texts rest.texts;
      none = λ f. or_from _ _ (no_fault f first.raw first.none) (rest.none f);
    }

-- the second format can tell each
pub all_told : (es : List Entry) → list_all (is_told_in Second) es ≡ true
all_told [] = refl
all_told (e ∷ es) = all_told es

-- ---- the worker

none_among : (raws : List StoredEntry) → ((f : Refusal) → list_any (is_fault f) raws ≡ false) → parts_fault raws ≡ None
none_among raws none = find_as (λ f. list_any (is_fault f) raws) (λ f. false) none part_faults

abbrev raw : State → List StoredEntry → StoredWorker
raw w raws = record { name = w.name; master = w.master; entries = raws }

drafted : (format : Format) (w : State) (raws : List StoredEntry) → items_read (entry_form format) (data_items (entry_data format) w.entries) ≡ Some raws → worker_form format (worker_data format w) ≡ Some (raw w raws)
unfolding worker_form
drafted format w raws read = ap (λ o. o >>= λ entries. Some (raw w entries)) read

judged : (format : Format) (w : State) → IsWritableWorker w → list_all (is_told_in format) w.entries ≡ true → judged_worker (worker_form format (worker_data format w)) ≡ Ok w
judged format w known' told =
    let read = entries_read format w.entries known'.kept.each known'.entries told in
    let raws = read.raws in
    let is : worker_in (raw w raws) ≡ w = ap (state w.name w.master) read.same in
    let names : worker_has_names (raw w raws) ≡ true = and_from _ _ (and_from _ _ known'.name known'.master) read.names in
    let stored : is_worker (worker_in (raw w raws)) ≡ true = ap is_worker is ∙ a_kept_worker_is_stored w known'.kept in
    let built : worker_built_fault (raw w raws) ≡ None = nothing true _ _ refl (none_among raws read.none) stored in
    ap judged_worker (drafted format w raws read.there)
    ∙ ap (λ f. checked_value f (worker_in (raw w raws))) (nothing_wrong _ _ _ names read.texts built)
    ∙ ap (λ k. Ok k) is

pub worker_again : (format : Format) (w : State) → IsWritableWorker w → list_all (is_told_in format) w.entries ≡ true → worker_state_read (worker_state_in format w) ≡ Ok w
worker_again First w known' told = judged First w known' told
worker_again Second w known' told = judged Second w known' told
