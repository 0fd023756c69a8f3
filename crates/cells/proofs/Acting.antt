-- What a call of a holder leaves.
use Rattle.std.proofs.Common.{◌≡◌, ◌⊎◌, inl, inr, ⊎_elim, ℕ, Bool, true, false, List, [], ◌∷◌, refl, sym, ◌∙◌, ap, subst}
use Rattle.std.specs.Prelude.{Option, Some, None, IfSome, IsNone, is_some, Result, Ok, Err, OnOk, OnErr, IfOk, IsErr, ⊤}
use Rattle.std.specs.Global.{Vec}
use Rattle.keepers.specs.declared.keep_fault.KeepFault.{KeepFault}
use Rattle.cells.specs.Calls.{Goes, Sends, Swaps}
use Rattle.cells.specs.Chain.{Swap, Version, View, newest}
use Rattle.cells.specs.Keeping.{Holding, after_swap, after_touch, can_swap, can_touch, has_read, new_holding, swap_of, touch_of}
use Rattle.cells.specs.Kept.{SavesAs}
use Rattle.cells.specs.Runs.{Acts, swap_by_call}
use Rattle.cells.specs.declared.act.Act.{Act}
use Rattle.cells.specs.declared.act.Act.TheVariants.{Read, Swap as SwapAct, Touch}
use Rattle.cells.specs.declared.swapped.SwapResult.{SwapResult}
use Rattle.cells.specs.declared.swapped.SwapResult.TheVariants.{Made, Other, Unknown}
use Rattle.cells.proofs.Growing.{sends_more, sends_not, swaps_sends}
use Rattle.cells.proofs.Keeping.{swap_told}

abbrev Bytes : Type 0
Bytes = Vec ℕ

abbrev has_of : Option Version → Bool → Holding
has_of has o = record { has = has; is_open = o }

acts_not : (act : Act) (old new : Holding) (before after : View) → new ≡ old → after ≡ before → Acts act old new before after
acts_not act old new before after same view = subst (Acts act old new before) (sym view) record {
  sends = sends_not before _;
  has = inr (inl (ap (λ (h : Holding). h.has) same));
}

read_has : (result : Result ⊤ KeepFault) (old new : Holding) (after : View) → OnOk result (new ≡ has_read (newest after.chain)) → OnErr result (new ≡ new_holding) → (new.has ≡ None) ⊎ ((new.has ≡ old.has) ⊎ (new.has ≡ Some (newest after.chain)))
read_has (Ok done) old new after ok err = inr (inr (ap (λ (h : Holding). h.has) ok))
read_has (Err fault) old new after ok err = inl (ap (λ (h : Holding). h.has) err)

pub acts_read : (old new : Holding) (before after : View) (result : Result ⊤ KeepFault) (opened : Bool) → old.is_open ≡ opened → (old.is_open ≡ true → (new ≡ old) × (after ≡ before)) → (old.is_open ≡ false → Goes before after) → OnOk result (new ≡ has_read (newest after.chain)) → (old.is_open ≡ false → OnErr result (new ≡ new_holding)) → Acts Read old new before after
acts_read old new before after result true is not goes ok err = acts_not Read old new before after (not is).0 (not is).1
acts_read old new before after result false is not goes ok err = record {
  sends = sends_more before _ _ after (λ s (none : ⊥). absurd none) (goes is);
  has = read_has result old new after ok (err is);
}

swap_has_of : (a : SwapResult) (has : Option Version) (o : Bool) (bytes : List ℕ) (new : Holding) (before after : View) → SavesAs (has_of has o) bytes before after new a → new ≡ after_swap a bytes (has_of has o) → (new.has ≡ None) ⊎ ((new.has ≡ has) ⊎ (new.has ≡ Some (newest after.chain)))
swap_has_of (Made revision) has o bytes new before after told then = inr (inr (ap (λ (h : Holding). h.has) told.1))
swap_has_of Other has o bytes new before after told then = inl (ap (λ (h : Holding). h.has) then)
swap_has_of Unknown has o bytes new before after told then = inr (inl (ap (λ (h : Holding). h.has) then))

acts_swap_of : (bytes : Bytes) (has : Option Version) (o : Bool) (new : Holding) (before after : View) (a : SwapResult) → can_swap (has_of has o) ≡ true → IfSome has (λ v. Swaps before (swap_of v bytes.items) after a) → new ≡ after_swap a bytes.items (has_of has o) → Acts (SwapAct bytes) (has_of has o) new before after
acts_swap_of bytes None o new before after a can swaps then = absurd (cc can)
acts_swap_of bytes (Some v) true new before after a can swaps then = absurd (cc can)
acts_swap_of bytes (Some v) false new before after a can swaps then = record {
  sends = sends_more before _ _ after (λ s is. ap Some (sym is)) (swaps_sends before (swap_of v bytes.items) after a swaps);
  has = swap_has_of a (Some v) false bytes.items new before after (swap_told (has_read v) new bytes.items before after a refl swaps then) then;
}

pub acts_swap : (bytes : Bytes) (old new : Holding) (before after : View) (result : Result SwapResult KeepFault) → (IsErr result → (new ≡ old) × (after ≡ before)) → OnOk result (can_swap old ≡ true) → IfOk result (λ a. IfSome old.has (λ v. Swaps before (swap_of v bytes.items) after a)) → IfOk result (λ a. new ≡ after_swap a bytes.items old) → Acts (SwapAct bytes) old new before after
acts_swap bytes old new before after (Err fault) err can swaps then = acts_not (SwapAct bytes) old new before after (err refl).0 (err refl).1
acts_swap bytes old new before after (Ok a) err can swaps then = acts_swap_of bytes old.has old.is_open new before after a can swaps then

touch_has : (a : SwapResult) (old new : Holding) (after : View) → new ≡ after_touch a old → (new.has ≡ None) ⊎ ((new.has ≡ old.has) ⊎ (new.has ≡ Some (newest after.chain)))
touch_has (Made revision) old new after then = inl (ap (λ (h : Holding). h.has) then)
touch_has Other old new after then = inl (ap (λ (h : Holding). h.has) then)
touch_has Unknown old new after then = inr (inl (ap (λ (h : Holding). h.has) then))

acts_touch_of : (has : Option Version) (o : Bool) (new : Holding) (before after : View) (a : SwapResult) → true ≡ can_touch (has_of has o) → IfSome has (λ v. Swaps before (touch_of v) after a) → new ≡ after_touch a (has_of has o) → Acts Touch (has_of has o) new before after
acts_touch_of None o new before after a can swaps then = absurd (cc can)
acts_touch_of (Some v) false new before after a can swaps then = absurd (cc can)
acts_touch_of (Some v) true new before after a can swaps then = record {
  sends = sends_more before _ _ after (λ s is. ap Some (sym is)) (swaps_sends before (touch_of v) after a swaps);
  has = touch_has a _ new after then;
}

pub acts_touch : (old new : Holding) (before after : View) (answer : Option SwapResult) → (IsNone answer → (new ≡ old) × (after ≡ before)) → is_some answer ≡ can_touch old → IfSome answer (λ a. IfSome old.has (λ v. Swaps before (touch_of v) after a)) → IfSome answer (λ a. new ≡ after_touch a old) → Acts Touch old new before after
acts_touch old new before after None none can swaps then = acts_not Touch old new before after (none refl).0 (none refl).1
acts_touch old new before after (Some a) none can swaps then = acts_touch_of old.has old.is_open new before after a can swaps then

-- what holds of an error
pub on_err : {A E : Type 0} (P : Type 0) (result : Result A E) → OnErr result P → IsErr result → P
on_err P (Ok v) err is = absurd (cc is)
on_err P (Err e) err is = err
