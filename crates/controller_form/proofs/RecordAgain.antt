-- Records that were written are read again.
use Rattle.std.proofs.Common.{◌≡◌, ◌∙◌, ℕ, true, List, [], ◌∷◌, map, Some, refl, ap}
use Rattle.std.proofs.lemmas.Bool.{and_parts}
use Rattle.std.specs.List.{list_all}
use Rattle.std.specs.Prelude.{unwrap_or}
use Rattle.serde_json.specs.Data.{array, string}
use Rattle.serde_json.specs.Find.{as_str}
use Rattle.ticket_items.proofs.SpawnTexts.{spawn_of-spawn_text}
use Rattle.ticket_items.specs.SpawnId.{is_spawn_number, spawn_text}
use Rattle.ticket_items.specs.declared.resource.Resource.{Resource}
use Rattle.spawn.specs.declared.records.phase.Phase.{Phase}
use Rattle.spawn.specs.declared.records.phase.Phase.TheVariants.{Out, Merged, Withdrawn}
use Rattle.spawn.specs.declared.records.spawn_rec.SpawnRec.{SpawnRec}
use Rattle.json_items.specs.TicketDraft.{are_bare, resources_of}
use Rattle.json_items.proofs.Again.{list_again, marked_again, text_again, more_at}
use Rattle.json_items.specs.Listed.{data_items, items_read, list_form, texts_data}
use Rattle.json_items.specs.Resources.{all_showing, raw_data, resource_form}
use Rattle.json_items.specs.Shown.{nothing_shown}
use Rattle.json_items.specs.Resources.{MarkedResource}
use Rattle.json_source.specs.Read.{◌>>=◌, some_if}
use Rattle.json_profile.proofs.PoolAgain.{resources_of-all_showing}
use Rattle.json_items.specs.Spawns.{spawn_named}
use Rattle.controller_form.specs.States.RecordForm.{can_store_phase, can_store_phases, phase_named, phase_word, record_data, record_form}
use Rattle.controller_form.specs.States.RecordForm.{spawn_has_names}
use Rattle.controller_form.specs.declared.states.format.Format.{Format}
use Rattle.controller_form.specs.declared.states.format.Format.TheVariants.{First, Second}
use Rattle.controller_form.specs.declared.states.stored_record.StoredRecord.{StoredRecord}

-- a record whose copies to read show nothing
abbrev pub bare : SpawnRec → StoredRecord
bare r = record { spawn = r; bare = true }

phase_again : (format : Format) (phase : Phase) → can_store_phase format phase ≡ true → (phase_named (phase_word phase) >>= λ p. some_if (can_store_phase format p) >>= λ _. Some p) ≡ Some phase
phase_again First Out told = refl
phase_again First Merged told = refl
phase_again First Withdrawn told = cc
phase_again Second Out told = refl
phase_again Second Merged told = refl
phase_again Second Withdrawn told = refl

bare_all : (rs : List Resource) → are_bare (all_showing nothing_shown rs) ≡ true
bare_all [] = refl
bare_all (r ∷ rs) = bare_all rs

-- the number of a spawn, by its id
pub number_again : (n : ℕ) → is_spawn_number n ≡ true → spawn_named (spawn_text n) ≡ n
number_again n number = ap (λ o. unwrap_or o 0) (spawn_of-spawn_text n number)

-- a record with these in the place of its own
abbrev with_read : SpawnRec → Phase → List MarkedResource → List (List ℕ) → ℕ → StoredRecord
with_read r phase ro rw n =
    record {
      spawn = record { id = n; node = r.node; worker = r.worker; at = r.at; rw = rw; ro = resources_of ro; phase = phase };
      bare = are_bare ro;
    }

-- where its spawn has a number, and the format tells its phase
pub record_again : (format : Format) (r : SpawnRec) → is_spawn_number r.id ≡ true → can_store_phase format r.phase ≡ true → record_form format (record_data r) ≡ Some (bare r)
unfolding record_form
record_again format r number told =
    let n = spawn_named (spawn_text r.id) in
    let copies = all_showing nothing_shown r.ro in
    let ro_data = array (data_items raw_data copies) in
    ap (λ o. o >>= λ phase. list_form as_str (texts_data r.rw) >>= λ rw. list_form resource_form ro_data >>= λ ro. Some (with_read r phase ro rw n)) (phase_again format r.phase told)
    ∙ ap (λ o. o >>= λ rw. list_form resource_form ro_data >>= λ ro. Some (with_read r r.phase ro rw n)) (list_again as_str string text_again r.rw)
    ∙ ap (λ o. o >>= λ ro. Some (with_read r r.phase ro r.rw n)) (list_again resource_form raw_data marked_again copies)
    ∙ ap (λ m. Some (with_read r r.phase copies r.rw m)) (number_again r.id number)
    ∙ ap (λ ro. Some (record { spawn = record r { ro = ro }; bare = are_bare copies })) (resources_of-all_showing nothing_shown r.ro)
    ∙ ap (λ b. Some (record { spawn = r; bare = b })) (bare_all r.ro)

-- the number is among the names
pub number_valid : (r : SpawnRec) → spawn_has_names r ≡ true → is_spawn_number r.id ≡ true
unfolding spawn_has_names
number_valid r names = (and_parts _ _ (and_parts _ _ (and_parts _ _ (and_parts _ _ names).0).0).0).0

-- records in turn
pub records_again : (format : Format) (rs : List SpawnRec) → list_all spawn_has_names rs ≡ true → can_store_phases format rs ≡ true → items_read (record_form format) (data_items record_data rs) ≡ Some (map bare rs)
records_again format [] names told = refl
records_again format (r ∷ rs) names told =
    let parts = and_parts _ _ names in
    let tells = and_parts _ _ told in
    more_at (record_form format (record_data r)) (bare r) (items_read (record_form format) (data_items record_data rs)) (map bare rs) (record_again format r (number_valid r parts.0) tells.0) (records_again format rs parts.1 tells.1)
