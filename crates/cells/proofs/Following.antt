-- What a cell in memory makes of its script.
use Rattle.std.proofs.Common.{◌≡◌, ◌≢◌, ◌⊎◌, inl, inr, ⊎_elim, ◌+◌, if◌then◌else◌, ℕ, zero, suc, arith, Bool, true, false, List, [], ◌∷◌, ◌++◌, refl, sym, ◌∙◌, ap, subst}
use Rattle.std.specs.Prelude.{Option, Some, Result, Ok, Err, IfOk, OnErr, Contains}
use Rattle.std.specs.Global.{Vec}
use Rattle.std.proofs.lemmas.List.Elements.{Contains-append_cases, Contains-append_left, Contains-append_right}
use Rattle.cells.specs.Calls.{Goes, IsMade, IsNot, MayMake, Sends, Swaps}
use Rattle.cells.specs.Chain.{Grows, IsMadeBy, Makes, Swap, Version, View, newest}
use Rattle.cells.specs.Scripted.{Interrupts, ScriptedView, TakesDeed, view_of}
use Rattle.cells.specs.declared.deed.Deed.{Deed}
use Rattle.cells.specs.declared.deed.Deed.TheVariants.{Answer, Interrupt, Land, Mute, Lose, Delay}
use Rattle.cells.specs.declared.swapped.SwapResult.{SwapResult}
use Rattle.cells.specs.declared.swapped.SwapResult.TheVariants.{Made, Other, Unknown}
use Rattle.cells.proofs.Growing.{grows_join, grows_not, grows_one, grows_widen, made_more, sends_join, sends_more}

-- what a swap of a cell in memory leaves
abbrev MakesOne : ScriptedView → Swap → ScriptedView → Type 0
MakesOne old s new = (v : Version) × (new ≡ record old { chain = v ∷ old.chain }) × (v.revision ≡ s.over + 1) × Makes s (newest old.chain) v

grown : (X : Swap → Type 0) (s : Swap) → X s → (old new : ScriptedView) (made : Bool) → (made ≡ true → MakesOne old s new) → (made ≡ false → (new ≡ old) × (s.over ≢ (newest old.chain).revision)) → Grows (IsMadeBy X) old.chain new.chain
grown X s is old new true did not = let m = did refl in subst (λ (c : ScriptedView). Grows (IsMadeBy X) old.chain c.chain) (sym m.1) (grows_one _ old.chain m.0 (s, is, m.3))
grown X s is old new false did not = subst (λ (c : ScriptedView). Grows (IsMadeBy X) old.chain c.chain) (sym (not refl).0) (grows_not _ old.chain)

pub tried : {E : Type 0} (X : Swap → Type 0) (s : Swap) → X s → (old new : ScriptedView) (result : Result Bool E) → IfOk result (λ made. made ≡ true → (v : Version) × (new ≡ record old { chain = v ∷ old.chain }) × (v.revision ≡ s.over + 1) × Makes s (newest old.chain) v) → IfOk result (λ made. made ≡ false → (new ≡ old) × (s.over ≢ (newest old.chain).revision)) → OnErr result (new ≡ old) → Grows (IsMadeBy X) old.chain new.chain
tried X s is old new (Ok made) did not err = grown X s is old new made did not
tried X s is old new (Err e) did not err = subst (λ (c : ScriptedView). Grows (IsMadeBy X) old.chain c.chain) (sym err) (grows_not _ old.chain)

-- ---- the script

same_bytes : (a b : Vec ℕ) → Interrupt a ≡ Interrupt b → a ≡ b
same_bytes a b same = cc same

pub interrupts_rest : (script : List Deed) (deed : Deed) (rest : List Deed) (s : Swap) → TakesDeed script deed rest → Interrupts rest s → Interrupts script s
interrupts_rest [] deed rest s took coming = absurd (subst (λ l. Interrupts l s) took.1 coming)
interrupts_rest (Interrupt bytes ∷ script) deed rest s took coming = inr (subst (λ l. Interrupts l s) took.1 coming)
interrupts_rest (Answer ∷ script) deed rest s took coming = subst (λ l. Interrupts l s) took.1 coming
interrupts_rest (Land ∷ script) deed rest s took coming = subst (λ l. Interrupts l s) took.1 coming
interrupts_rest (Mute ∷ script) deed rest s took coming = subst (λ l. Interrupts l s) took.1 coming
interrupts_rest (Lose ∷ script) deed rest s took coming = subst (λ l. Interrupts l s) took.1 coming
interrupts_rest (Delay ∷ script) deed rest s took coming = subst (λ l. Interrupts l s) took.1 coming

pub interrupts_now : (script : List Deed) (bytes : Vec ℕ) (rest : List Deed) (s : Swap) → TakesDeed script (Interrupt bytes) rest → s.bytes ≡ Some bytes.items → Interrupts script s
interrupts_now [] bytes rest s took is = absurd (cc took.0)
interrupts_now (Interrupt own ∷ script) bytes rest s took is = inl (is ∙ ap (λ (b : Vec ℕ). Some b.items) (same_bytes bytes own took.0))
interrupts_now (Answer ∷ script) bytes rest s took is = absurd (cc took.0)
interrupts_now (Land ∷ script) bytes rest s took is = absurd (cc took.0)
interrupts_now (Mute ∷ script) bytes rest s took is = absurd (cc took.0)
interrupts_now (Lose ∷ script) bytes rest s took is = absurd (cc took.0)
interrupts_now (Delay ∷ script) bytes rest s took is = absurd (cc took.0)

-- a deed that was taken
pub script_goes : (old : ScriptedView) (deed : Deed) (rest : List Deed) → TakesDeed old.script deed rest → Goes (view_of old) (view_of (record old { script = rest }))
script_goes old deed rest took = record {
  grows = grows_not _ old.chain;
  sent = λ s. ⊎_elim (λ late. inl (inl late)) (λ coming. inl (inr (interrupts_rest old.script deed rest s took coming)));
}

-- ---- behind it

pub goes_join : (old mid new : View) → Goes old mid → Goes mid new → Goes old new
goes_join old mid new first second = sends_join old _ mid new first second

nothing_more : (old mid : View) → Goes old mid → (s : Swap) → mid.may_land s → old.may_land s
nothing_more old mid goes s may = ⊎_elim (λ x. x) (λ (none : ⊥). absurd none) (goes.sent s may)

earlier : (old mid : View) → Goes old mid → (chain : List Version) → Grows (IsMadeBy mid.may_land) mid.chain chain → Grows (IsMadeBy old.may_land) old.chain chain
earlier old mid goes chain g = grows_join _ old.chain mid.chain chain (grows_widen _ _ (made_more _ _ (λ s. ⊎_elim (λ x. x) (λ (none : ⊥). absurd none))) old.chain mid.chain goes.grows) (grows_widen _ _ (made_more _ _ (nothing_more old mid goes)) mid.chain chain g)

pub swaps_behind : (old mid : View) (s : Swap) (new : View) (answer : SwapResult) → Goes old mid → Swaps mid s new answer → Swaps old s new answer
swaps_behind old mid s new (Made revision) goes made = record {
  before = made.before;
  landed = earlier old mid goes made.before made.landed;
  value = made.value;
  revision_is = made.revision_is;
  is = made.is;
  makes = made.makes;
  sent = λ o may. nothing_more old mid goes o (made.sent o may);
}
swaps_behind old mid s new Other goes not = record { goes = goes_join old mid new goes not.goes; other = not.other }
swaps_behind old mid s new Unknown goes may = sends_join old _ mid new (sends_more old _ _ mid (λ o (none : ⊥). absurd none) goes) may

-- ---- what was delayed

only_in : (s o : Swap) → Contains (s ∷ []) o → o ≡ s
only_in s o (zero, within, at) = sym at
only_in s o (suc k, within, at) = absurd (omega (arith, within))

in_only : (s : Swap) → Contains (s ∷ []) s
in_only s = (0, omega arith, refl)

pub delayed_more : (cell : ScriptedView) (s : Swap) (late : List Swap) (done : Bool) → late ≡ (if done then cell.delayed ++ s ∷ [] else cell.delayed) → MayMake (view_of cell) s (view_of (record cell { delayed = late }))
delayed_more cell s late true is = record {
  grows = grows_not _ cell.chain;
  sent = λ o. ⊎_elim (λ (one : Contains late o). ⊎_elim (λ before. inl (inl before)) (λ last. inr (only_in s o last)) (Contains-append_cases cell.delayed (s ∷ []) o (subst (λ l. Contains l o) is one))) (λ coming. inl (inr coming));
}
delayed_more cell s late false is = record {
  grows = grows_not _ cell.chain;
  sent = λ o. ⊎_elim (λ (one : Contains late o). inl (inl (subst (λ l. Contains l o) is one))) (λ coming. inl (inr coming));
}

came_of : {E : Type 0} (cell new : ScriptedView) (s : Swap) (late : List Swap) (result : Result Bool E) → ((o : Swap) → Contains late o → Contains cell.delayed o) → Contains cell.delayed s → IfOk result (λ made. made ≡ true → (v : Version) × (new ≡ record cell { chain = v ∷ cell.chain; delayed = late }) × (v.revision ≡ s.over + 1) × Makes s (newest cell.chain) v) → IfOk result (λ made. made ≡ false → (new ≡ record cell { delayed = late }) × (s.over ≢ (newest cell.chain).revision)) → OnErr result (new ≡ record cell { delayed = late }) → Goes (view_of cell) (view_of new)
came_of cell new s late (Ok true) was now did not err = let m = did refl in subst (λ (c : ScriptedView). Goes (view_of cell) (view_of c)) (sym m.1) record {
  grows = grows_one _ cell.chain m.0 (s, inl (inl now), m.3);
  sent = λ o. ⊎_elim (λ one. inl (inl (was o one))) (λ coming. inl (inr coming));
}
came_of cell new s late (Ok false) was now did not err = subst (λ (c : ScriptedView). Goes (view_of cell) (view_of c)) (sym (not refl).0) record {
  grows = grows_not _ cell.chain;
  sent = λ o. ⊎_elim (λ one. inl (inl (was o one))) (λ coming. inl (inr coming));
}
came_of cell new s late (Err e) was now did not err = subst (λ (c : ScriptedView). Goes (view_of cell) (view_of c)) (sym err) record {
  grows = grows_not _ cell.chain;
  sent = λ o. ⊎_elim (λ one. inl (inl (was o one))) (λ coming. inl (inr coming));
}

-- one of them comes
pub came : {E : Type 0} (cell new : ScriptedView) (s : Swap) (late : List Swap) (result : Result Bool E) → cell.delayed ≡ late ++ s ∷ [] → IfOk result (λ made. made ≡ true → (v : Version) × (new ≡ record cell { chain = v ∷ cell.chain; delayed = late }) × (v.revision ≡ s.over + 1) × Makes s (newest cell.chain) v) → IfOk result (λ made. made ≡ false → (new ≡ record cell { delayed = late }) × (s.over ≢ (newest cell.chain).revision)) → OnErr result (new ≡ record cell { delayed = late }) → Goes (view_of cell) (view_of new)
came {E} cell new s late result is did not err =
    let was : (o : Swap) → Contains late o → Contains cell.delayed o = λ o one. subst (λ l. Contains l o) (sym is) (Contains-append_left late (s ∷ []) o one) in
    let now : Contains cell.delayed s = subst (λ l. Contains l s) (sym is) (Contains-append_right late (s ∷ []) s (in_only s)) in
    came_of cell new s late result was now did not err

same_parts : (s t : Swap) → t.over ≡ s.over → t.bytes ≡ s.bytes → s ≡ t
same_parts s t over bytes = sym (ap (λ n. record { over = n; bytes = t.bytes }) over ∙ ap (λ (b : Option (List ℕ)). record { over = s.over; bytes = b }) bytes)

-- by the parts of it
pub came_as : {E : Type 0} (cell new : ScriptedView) (s t : Swap) (late : List Swap) (result : Result Bool E) → t.over ≡ s.over → t.bytes ≡ s.bytes → cell.delayed ≡ late ++ s ∷ [] → IfOk result (λ made. made ≡ true → (v : Version) × (new ≡ record cell { chain = v ∷ cell.chain; delayed = late }) × (v.revision ≡ t.over + 1) × Makes t (newest cell.chain) v) → IfOk result (λ made. made ≡ false → (new ≡ record cell { delayed = late }) × (t.over ≢ (newest cell.chain).revision)) → OnErr result (new ≡ record cell { delayed = late }) → Goes (view_of cell) (view_of new)
came_as cell new s t late result over bytes is did not err = came cell new t late result (is ∙ ap (λ (x : Swap). late ++ x ∷ []) (same_parts s t over bytes)) did not err

-- ---- a call

pub taken : (old new : ScriptedView) (deed : Deed) → TakesDeed old.script deed new.script → new ≡ record old { script = new.script } → Goes (view_of old) (view_of new)
taken old new deed took same = subst (λ (c : ScriptedView). Goes (view_of old) (view_of c)) (sym same) (script_goes old deed new.script took)

pub interrupted : (old mid new : ScriptedView) (deed : Deed) (bytes : Vec ℕ) → deed ≡ Interrupt bytes → TakesDeed old.script deed mid.script → mid ≡ record old { script = mid.script } → Grows (IsMadeBy (λ s. s.bytes ≡ Some bytes.items)) mid.chain new.chain → new ≡ record mid { chain = new.chain } → Goes (view_of old) (view_of new)
interrupted old mid new deed bytes is took same grows stays =
    let took_it = subst (λ d. TakesDeed old.script d mid.script) is took in
    let began = ap (λ (c : ScriptedView). c.chain) same in
    subst (λ (c : ScriptedView). Goes (view_of old) (view_of c)) (sym (stays ∙ ap (λ (c : ScriptedView). record c { chain = new.chain }) same)) record {
      grows = subst (λ l. Grows (IsMadeBy (λ s. (view_of old).may_land s ⊎ ⊥)) l new.chain) began (grows_widen _ _ (made_more _ _ (λ s by. inl (inr (interrupts_now old.script bytes mid.script s took_it by)))) mid.chain new.chain grows);
      sent = λ s. ⊎_elim (λ late. inl (inl late)) (λ coming. inl (inr (interrupts_rest old.script deed mid.script s took coming)));
    }

pub may_behind : (old mid : View) (s : Swap) (new : View) → Goes old mid → MayMake mid s new → MayMake old s new
may_behind old mid s new goes may = swaps_behind old mid s new Unknown goes may
