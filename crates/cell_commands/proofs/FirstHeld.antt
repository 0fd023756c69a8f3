-- A controller whose text a cell holds first.
use Rattle.std.proofs.Common.{◌≡◌, ℕ, List, true, false, ◌&&◌, [], refl, sym, ◌∙◌, ap, subst}
use Rattle.std.specs.Prelude.{Some, bytes_eq}
use Rattle.cells.specs.Chain.{Version, View, newest, no_version}
use Rattle.cells.specs.Keeping.{has_read}
use Rattle.cells.specs.Kept.{CellKeepView, IsPartOf, IsSwapped, holds}
use Rattle.stored_state.specs.AnyStep.{text_of}
use Rattle.stored_state.specs.declared.any_controller.AnyController.{AnyController}
use Rattle.stored_state.specs.declared.any_controller.AnyController.TheVariants.{Master as of_master, Worker as of_worker}
use Rattle.cell_commands.specs.Calls.{IsHeldFirst}
use Rattle.cells.proofs.Keeping.{part_join}

-- a text of a state has bytes
some_text : (c : AnyController) → bytes_eq [] (text_of c) ≡ false
some_text (of_master m) = refl
some_text (of_worker w) = refl

pub none_holds : (c : AnyController) (text : List ℕ) → text ≡ text_of c → holds (has_read no_version) text ≡ false
none_holds c text is = ap (λ l. holds (has_read no_version) l) is ∙ ap (λ b. b && true) (some_text c)

some_same : (a b : Version) → Some a ≡ Some b → a ≡ b
some_same a b same = cc same

-- what was swapped for nothing is held first
held_first : (start : List Version) (old new : View) (text : List ℕ) → IsPartOf start old.chain → IsSwapped (has_read no_version) text old new → IsHeldFirst start new.chain text
held_first start old new text since swapped =
    let made = swapped.2.1 in
    let none : no_version ≡ swapped.0 = some_same _ _ swapped.1 in
    record {
      before = made.before;
      since = part_join start old.chain made.before since (made.landed.added, made.landed.is);
      none = sym made.makes.over ∙ ap (λ (v : Version). v.revision) (sym none);
      value = made.value;
      bytes = made.makes.bytes;
      is = made.is;
    }

-- the text of a new controller's state was saved in place of nothing
pub saved_first : {C : Type 0} (view : C → View) (start : List Version) (empty : C) (keep : CellKeepView C) (new : View) (c : AnyController) (items text : List ℕ) → IsPartOf start (view empty).chain → keep ≡ record { cell = empty; holding = has_read no_version; is_conflict = false; count = 0 } → items ≡ text_of c → text ≡ items → (holds keep.holding text ≡ false → IsSwapped keep.holding text (view keep.cell) new) → IsHeldFirst start new.chain (text_of c)
saved_first {C = C} view start empty keep new c items text since is same slice made =
    let of : text ≡ text_of c = slice ∙ same in
    let makes = subst (λ (k : CellKeepView C). holds k.holding text ≡ false → IsSwapped k.holding text (view k.cell) new) is made in
    held_first start (view empty) new (text_of c) since (subst (λ t. IsSwapped (has_read no_version) t (view empty) new) of (makes (none_holds c text of)))
