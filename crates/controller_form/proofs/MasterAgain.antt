-- A master's state that was written is read again.
use Rattle.std.proofs.Common.{◌≡◌, ◌∙◌, true, List, [], ◌∷◌, map, Some, None, Ok, refl, ap}
use Rattle.std.proofs.lemmas.Bool.{and_from}
use Rattle.std.specs.List.{list_all}
use Rattle.serde_json.specs.Data.{array, string}
use Rattle.serde_json.specs.Find.{as_str}
use Rattle.spawn.specs.declared.records.spawn_rec.SpawnRec.{SpawnRec}
use Rattle.json_items.specs.TicketDraft.{RawTicket, ticket_form as form_of_ticket}
use Rattle.json_items.specs.TicketForm as ticket_form
use Rattle.json_items.proofs.Again.{list_again, text_again}
use Rattle.json_items.proofs.Tests.{all_mapped}
use Rattle.json_items.specs.Validation.{checked_value}
use Rattle.json_items.specs.Listed.{data_items, list_form}
use Rattle.json_source.specs.Read.{◌>>=◌}
use Rattle.json_text.specs.Written.{ticket_data}
use Rattle.master_core.proofs.KeptStored.{a_kept_master_is_stored}
use Rattle.master_core.specs.Master.{State, state}
use Rattle.master_core.specs.Stored.{is_master}
use Rattle.controller_form.specs.States.MasterForm.{StoredMaster, judged_master, master_built_fault, master_data}
use Rattle.controller_form.specs.States.MasterForm.{master_form, master_has_names, master_has_texts}
use Rattle.controller_form.specs.States.MasterForm.{master_in, master_state_in, master_state_read, records_are_bare}
use Rattle.controller_form.specs.States.RecordForm.{can_store_phases, record_data, record_form, record_has_names, record_has_texts}
use Rattle.controller_form.specs.States.RecordForm.{spawn_has_names}
use Rattle.controller_form.specs.States.Writable.{IsWritableMaster}
use Rattle.controller_form.specs.declared.states.format.Format.{Format}
use Rattle.controller_form.specs.declared.states.format.Format.TheVariants.{First, Second}
use Rattle.controller_form.proofs.Reading.{IsSoundDraft, all_pass, nothing_wrong, sound_draft}
use Rattle.controller_form.proofs.Refusing.{nothing}
use Rattle.controller_form.proofs.RecordAgain.{bare, records_again}

-- ---- the draft

abbrev raw : State → RawTicket → StoredMaster
raw m t = record { name = m.name; workers = m.workers; ticket = t; records = map bare m.records }

spawns_of : (rs : List SpawnRec) → map (λ r. r.spawn) (map bare rs) ≡ rs
spawns_of [] = refl
spawns_of (r ∷ rs) = ap (λ more. r ∷ more) (spawns_of rs)

drafted : (format : Format) (m : State) (t : RawTicket) → list_all spawn_has_names m.records ≡ true → can_store_phases format m.records ≡ true → form_of_ticket (ticket_data m.ticket) ≡ Some t → master_form format (master_data m) ≡ Some (raw m t)
unfolding master_form
drafted format m t names told read =
    ap (λ o. o >>= λ ws. form_of_ticket (ticket_data m.ticket) >>= λ u. list_form (record_form format) (array (data_items record_data m.records)) >>= λ records. Some (record { name = m.name; workers = ws; ticket = u; records = records })) (list_again as_str string text_again m.workers)
    ∙ ap (λ o. o >>= λ u. list_form (record_form format) (array (data_items record_data m.records)) >>= λ records. Some (record { name = m.name; workers = m.workers; ticket = u; records = records })) read
    ∙ ap (λ o. o >>= λ records. Some (record { name = m.name; workers = m.workers; ticket = t; records = records })) (records_again format m.records names told)

-- ---- nothing is wrong with it

all_bare : (rs : List SpawnRec) → records_are_bare (map bare rs) ≡ true
all_bare [] = refl
all_bare (r ∷ rs) = all_bare rs

master_of : (m : State) (t : RawTicket) → t.job ≡ m.ticket → master_in (raw m t) ≡ m
master_of m t same = ap (λ j. state m.name m.workers j (map (λ r. r.spawn) (map bare m.records))) same ∙ ap (state m.name m.workers m.ticket) (spawns_of m.records)

-- ---- the whole

judged : (format : Format) (m : State) → IsWritableMaster m → can_store_phases format m.records ≡ true → judged_master (master_form format (master_data m)) ≡ Ok m
judged format m known' told =
    let read : IsSoundDraft ticket_form.ticket_fault (λ (t : RawTicket). t.job) (form_of_ticket (ticket_data m.ticket)) m.ticket = sound_draft ticket_form.ticket_fault (λ t. t.job) (form_of_ticket (ticket_data m.ticket)) m.ticket known'.again in
    let t = read.draft in
    let passed = all_pass _ _ _ read.sound in
    let is = master_of m t read.same in
    let names : master_has_names (raw m t) ≡ true = and_from _ _ (and_from _ _ (and_from _ _ known'.name known'.workers) passed.names) (all_mapped record_has_names bare m.records ∙ known'.names) in
    let texts : master_has_texts (raw m t) ≡ true = and_from _ _ passed.texts (all_mapped record_has_texts bare m.records ∙ known'.texts) in
    let stored : is_master (master_in (raw m t)) ≡ true = ap is_master is ∙ a_kept_master_is_stored m known'.kept in
    let built : master_built_fault (raw m t) ≡ None = nothing _ _ _ (all_bare m.records) passed.none stored in
    ap judged_master (drafted format m t known'.names told read.there)
    ∙ ap (λ f. checked_value f (master_in (raw m t))) (nothing_wrong _ _ _ names texts built)
    ∙ ap (λ k. Ok k) is

-- in either format, where that can tell it
pub master_again : (format : Format) (m : State) → IsWritableMaster m → can_store_phases format m.records ≡ true → master_state_read (master_state_in format m) ≡ Ok m
master_again First m known' told = judged First m known' told
master_again Second m known' told = judged Second m known' told

-- the second format can tell each
pub all_told : (rs : List SpawnRec) → can_store_phases Second rs ≡ true
all_told [] = refl
all_told (r ∷ rs) = all_told rs
