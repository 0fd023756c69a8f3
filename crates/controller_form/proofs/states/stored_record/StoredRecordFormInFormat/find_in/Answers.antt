use Rattle.std.proofs.Common.{rules, ◌≡◌, ◌∙◌, ◌&&◌, ℕ, Bool, true, List, None, Option, Some, ap, sym}
use Rattle.std.specs.Prelude.{codes}
use Rattle.std.specs.List.{list_all}
use Rattle.std.specs.Option.{option_and_then, option_map}
use Rattle.serde_json.specs.Data.{Data}
use Rattle.serde_json.specs.Find.{as_str, get}
use Rattle.spawn.specs.declared.records.phase.Phase.{Phase}
use Rattle.ticket_items.specs.Names.{is_name}
use Rattle.ticket_items.specs.SpawnId.{is_spawn_number}
use Rattle.ticket_items.specs.declared.refusal.Refusal.{Refusal}
use Rattle.ticket_items.specs.declared.resource.Resource.{Resource}
use Rattle.json_items.proofs.Faults.{five_together}
use Rattle.json_items.proofs.Mapped.{mapped}
use Rattle.json_items.proofs.Tests.{all_mapped, all_true}
use Rattle.json_items.specs.Validation.{both_read, checked_fault, first_fault, on_both}
use Rattle.json_items.specs.Listed.{list_form}
use Rattle.json_items.specs.Members.{four_form}
use Rattle.json_items.specs.Resources.{resource_form, resource_has_names, resource_has_texts}
use Rattle.json_items.specs.Shown.{shows_nothing}
use Rattle.json_items.specs.Spawns.{spawn_form}
use Rattle.json_items.specs.TicketDraft.{are_bare, resources_of}
use Rattle.json_items.specs.Resources.{MarkedResource}
use Rattle.json_source.specs.Read.{◌>>=◌, has_only, number_under, some_if}
use Rattle.controller_form.specs.States.RecordForm.{phase_under, record_form, record_has_names, record_has_texts, record_members}
use Rattle.controller_form.specs.States.RecordForm.{spawn_has_names, spawn_has_texts}
use Rattle.controller_form.specs.declared.states.format.Format.{Format}
use Rattle.controller_form.specs.declared.states.stored_record.StoredRecord.{StoredRecord}
use Rattle.controller_form.proofs.states.stored_record.StoredRecordFormInFormat.find_in.Goals as goal

abbrev Named : Type 0
Named = ((ℕ × List ℕ) × List ℕ) × List (List ℕ)

abbrev Parts : Type 0
Parts = Named × List Resource

abbrev make : ℕ → Phase → Bool → Parts → StoredRecord
make at phase bare p =
    record {
      spawn = record { id = p.0.0.0.0; node = p.0.0.0.1; worker = p.0.0.1; at = at; rw = p.0.1; ro = p.1; phase = phase };
      bare = bare;
    }

abbrev names : Named → Bool
names = on_both (on_both (on_both is_spawn_number is_name) is_name) (list_all is_name)

abbrev texts : Named → Bool
texts = on_both (on_both (on_both (λ _. true) (λ _. true)) (λ _. true)) (list_all (λ _. true))

abbrev fault : Parts → Option Refusal
fault = first_fault (on_both names (list_all resource_has_names)) (on_both texts (list_all resource_has_texts))

abbrev four : Data → Option Named
four = four_form (codes "ID") spawn_form (codes "Node") as_str (codes "Worker") as_str (codes "RW") (list_form as_str)

-- one after another
abbrev in_turn : Data → ℕ → Phase → Option (List MarkedResource) → Option StoredRecord
in_turn d at phase pool =
    option_and_then spawn_form (get (codes "ID") d) >>= λ spawn. option_and_then as_str (get (codes "Node") d) >>= λ node. option_and_then as_str (get (codes "Worker") d) >>= λ worker. option_and_then (list_form as_str) (get (codes "RW") d) >>= λ rw. pool >>= λ ro. Some (make at phase (are_bare ro) ((((spawn, node), worker), rw), resources_of ro))

abbrev pool_under : Data → Option (List MarkedResource)
pool_under d = option_and_then (list_form resource_form) (get (codes "RO") d)

in_parts : (format : Format) (d : Data) (at : ℕ) (phase : Phase) (pool : List MarkedResource) → some_if (has_only record_members d) ≡ Some tt → number_under (codes "At") d ≡ Some at → phase_under format d ≡ Some phase → pool_under d ≡ Some pool
    → record_form format d ≡ option_map (make at phase (are_bare pool)) (both_read (four d) (Some (resources_of pool)))
unfolding record_form
in_parts format d at phase pool only when far copies =
    ap (λ o. o >>= λ _. number_under (codes "At") d >>= λ n. phase_under format d >>= λ p. in_turn d n p (pool_under d)) only
    ∙ ap (λ o. o >>= λ n. phase_under format d >>= λ p. in_turn d n p (pool_under d)) when
    ∙ ap (λ o. o >>= λ p. in_turn d at p (pool_under d)) far
    ∙ ap (in_turn d at phase) copies
    ∙ five_together (λ spawn node worker rw ro. make at phase (are_bare pool) ((((spawn, node), worker), rw), ro)) _ _ _ _ (Some (resources_of pool))

same_fault : (at : ℕ) (phase : Phase) (bare : Bool) (p : Parts) → first_fault record_has_names record_has_texts (make at phase bare p) ≡ fault p
unfolding spawn_has_names spawn_has_texts
same_fault at phase bare p = ap (λ b. checked_fault (record_has_names (make at phase bare p)) (b && list_all resource_has_texts p.1) None) (sym (all_true p.0.1))

pub returns : goal.returns
returns g c =
    let d = g.S.Source.content c.args.value.now in
    let at = c.in_ok-at.at in
    let phase = c.in_ok-phase.phase in
    let pool = c.in_ok-pool.ensures.0 in
    let is = c.in_ok-pool.ensures.2 in
    let bare = c.is_bare-bare.ensures ∙ ap (list_all shows_nothing) is.shown ∙ all_mapped shows_nothing (λ (m : MarkedResource). m.shown) pool in
    let parts = in_parts c.args.format.now d at phase pool c.in_ok-check_members.ensures.read c.in_ok-at.ensures.read c.in_ok-phase.ensures.read c.in_ok-pool.ensures.1 in
    mapped _ fault (first_fault record_has_names record_has_texts) (make at phase (are_bare pool)) (both_read (four d) (Some (resources_of pool))) (record_form c.args.format.now d) c.zip-found.result c.map.result parts (same_fault at phase (are_bare pool)) (λ p x h. let made : x ≡ make at phase c.is_bare-bare.result p = search rules in made ∙ ap (λ b. make at phase b p) bare)
    (c.zip-found.ensures names texts (four d) (list_all resource_has_names) (list_all resource_has_texts) (Some (resources_of pool)) c.in_ok-names.ensures is.resources)
    c.map.ensures.cases
