use Rattle.std.proofs.Common.{rules, ◌≡◌, ◌∙◌, ℕ, true, None, Option, Some, ap, refl}
use Rattle.std.specs.Prelude.{codes}
use Rattle.std.specs.Option.{option_and_then, option_map}
use Rattle.serde_json.specs.Data.{Data}
use Rattle.serde_json.specs.Find.{get}
use Rattle.ticket_items.specs.SpawnId.{is_spawn_number}
use Rattle.ticket_items.specs.declared.refusal.Refusal.{Refusal}
use Rattle.json_source.specs.Read.{◌>>=◌, has_only, number_under, some_if}
use Rattle.json_items.proofs.Mapped.{mapped}
use Rattle.json_items.specs.Validation.{both_read, first_fault, on_both}
use Rattle.json_items.specs.PartDraft.{RawPart, part_form as form_of_part}
use Rattle.json_items.specs.PartForm as part_form
use Rattle.worker_core.specs.declared.stage.Stage.{Stage}
use Rattle.controller_form.specs.Orders.KnownSpawn.{spawn_under}
use Rattle.controller_form.specs.States.EntryForm.{entry_has_names, entry_has_texts, held_form, held_members, stage_under}
use Rattle.controller_form.specs.declared.states.format.Format.TheVariants.{Second}
use Rattle.controller_form.specs.declared.states.stored_entry.StoredEntry.{StoredEntry}
use Rattle.controller_form.proofs.states.stored_entry.find_held.Goals as goal

abbrev Parts : Type 0
Parts = ℕ × RawPart

abbrev make : ℕ → Stage → Parts → StoredEntry
make at phase p = record { spawn = p.0; phase = phase; part = Some p.1; at = at }

abbrev fault : Parts → Option Refusal
fault = first_fault (on_both is_spawn_number part_form.has_names) (on_both (λ _. true) part_form.has_texts)

abbrev spawn : Data → Option ℕ
spawn d = spawn_under (codes "ID") d

abbrev part : Data → Option RawPart
part d = option_and_then form_of_part (get (codes "Part") d)

-- the second before the first is the two together
swapped : {A B Y : Type 0} (make : A × B → Y) (a : Option A) (b : Option B) → (b >>= λ w. a >>= λ v. Some (make (v, w))) ≡ option_map make (both_read a b)
swapped make None None = refl
swapped make None (Some w) = refl
swapped make (Some v) None = refl
swapped make (Some v) (Some w) = refl

in_parts : (d : Data) (at : ℕ) (phase : Stage) → some_if (has_only (held_members Second) d) ≡ Some tt → number_under (codes "At") d ≡ Some at → stage_under d ≡ Some phase
    → held_form Second d ≡ option_map (make at phase) (both_read (spawn d) (part d))
unfolding held_form
in_parts d at phase only when far =
    ap (λ o. o >>= λ _. number_under (codes "At") d >>= λ n. stage_under d >>= λ s. part d >>= λ w. spawn d >>= λ v. Some (make n s (v, w))) only
    ∙ ap (λ o. o >>= λ n. stage_under d >>= λ s. part d >>= λ w. spawn d >>= λ v. Some (make n s (v, w))) when
    ∙ ap (λ o. o >>= λ s. part d >>= λ w. spawn d >>= λ v. Some (make at s (v, w))) far
    ∙ swapped (make at phase) (spawn d) (part d)

pub returns : goal.returns
returns g c =
    let d = g.S.Source.content c.args.value.now in
    let at = c.in_ok-at.at in
    let phase = c.in_ok-phase.phase in
    mapped _ fault (first_fault entry_has_names entry_has_texts) (make at phase) (both_read (spawn d) (part d)) (held_form Second d) c.in_ok-found.found c.map.result (in_parts d at phase c.in_ok-check_members.ensures.read c.in_ok-at.ensures.read c.in_ok-phase.ensures.read) (λ p. refl) (λ p x h. search rules) c.in_ok-found.ensures c.map.ensures.cases
