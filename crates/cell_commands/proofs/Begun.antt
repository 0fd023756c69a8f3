-- A new controller in a cell, and why there is none.
use Rattle.std.proofs.Common.{◌≡◌, ◌⊎◌, inl, inr, ⊎_elim, ℕ, Bool, true, false, List, [], refl, sym, ◌∙◌, ap, subst}
use Rattle.std.proofs.lemmas.Bool.{true≢false}
use Rattle.cells.specs.Chain.{Version}
use Rattle.ticket_items.specs.declared.refusal.Refusal.TheVariants.{Memory}
use Rattle.stored_state.specs.AnyStep.{text_of}
use Rattle.stored_state.specs.declared.any_controller.AnyController.{AnyController}
use Rattle.stored_state.specs.declared.addressee.Addressee.TheVariants.{Any}
use Rattle.streams.specs.Streams.{IsInput, Traffic}
use Rattle.streams.specs.declared.refused.Refused.TheVariants.{Core, SaveFailed}
use Rattle.streams.specs.declared.fault.Fault.{Fault}
use Rattle.streams.specs.declared.fault.Fault.TheVariants.{Device, Input}
use Rattle.file_commands.specs.Beginning.{IsBegunAs, IsBeginning, IsNoBeginning, IsNotKept}
use Rattle.file_commands.specs.Beginning as in_file
use Rattle.stored_state.specs.Held.{KeptState}
use Rattle.cell_commands.specs.Calls.{BeginsInCell, BeginsNone, IsNotBegun, has_no_place, is_held, text_held}
use Rattle.cell_commands.specs.Faults.{IsUnsaved}
use Rattle.cell_commands.specs.declared.cell_fault.CellFault.{CellFault}
use Rattle.cell_commands.specs.declared.cell_fault.CellFault.TheVariants.{Call, Taken}

abbrev BeginsText : List ℕ → List ℕ → Type 0
BeginsText bytes text = (c : AnyController) × IsBeginning Any bytes c × (text ≡ text_of c)

-- the text of a controller that begins in memory
pub text_begun : (keep bytes text : List ℕ) (kept : KeptState AnyController (List ℕ)) → IsBegunAs is_held text_held has_no_place keep Any bytes kept → text ≡ text_of kept.controller → BeginsText bytes text
text_begun keep bytes text kept begun is = (begun.controller, begun.beginning, is ∙ ap text_of begun.begun.shown)

kept_memory : (keep text : List ℕ) (fault : Fault) → IsNotKept {K = List ℕ} (λ _ _ _. ⊥) keep text fault → fault ≡ Input (Core Memory)
kept_memory keep text (Device SaveFailed) why = absurd why.1
kept_memory keep text fault why = why

-- of a keeper in memory
pub none_begun : (keep bytes : List ℕ) (fault : Fault) → in_file.IsNotBegun {K = List ℕ} (λ _ _ _. ⊥) keep Any bytes fault → IsNoBeginning Any bytes fault ⊎ (fault ≡ Input (Core Memory))
none_begun keep bytes fault why = ⊎_elim (λ none. inl none) (λ kept. inr (kept_memory keep (text_of kept.0) fault kept.2)) why

-- the bytes begin none
pub none_of_bytes : (bytes : List ℕ) (fault : Fault) (e : CellFault) → e ≡ Call fault → IsNoBeginning Any bytes fault ⊎ (fault ≡ Input (Core Memory)) → IsNotBegun bytes e
none_of_bytes bytes fault e is why = ⊎_elim (λ none. inl (fault, none, is)) (λ memory. inr (inr (subst IsUnsaved (sym (is ∙ ap Call memory)) refl))) why

pub none_of_input : (input : Traffic) (bytes : List ℕ) (e : CellFault) → IsInput input bytes → IsNotBegun bytes e → BeginsNone input e
none_of_input input bytes e is why = inr (inr (bytes, is, why))

-- it wasn't saved
pub none_saved : (bytes : List ℕ) (fault e : CellFault) → e ≡ fault → (fault ≡ Taken) ⊎ IsUnsaved fault → IsNotBegun bytes e
none_saved bytes fault e is why = inr (subst (λ f. (f ≡ Taken) ⊎ IsUnsaved f) (sym is) why)

-- of a cell of which nothing is promised
pub any_begins : (is_honest : Bool) (old new : List Version) (input : Traffic) (text : List ℕ) (refused : Bool) (notes : List ℕ) → BeginsInCell is_honest old new input text refused notes → BeginsInCell false [] [] input text refused notes
any_begins is_honest old new input text refused notes begins = record {
  bytes = begins.bytes;
  is_input = begins.is_input;
  controller = begins.controller;
  beginning = begins.beginning;
  begun = λ honest. absurd (true≢false (sym honest));
  written = begins.written;
  accepted = begins.accepted;
  noted = begins.noted;
}
