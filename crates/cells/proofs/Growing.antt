-- How the values that a cell ever held become more.
use Rattle.std.proofs.Common.{◌≡◌, ◌≢◌, ◌⊎◌, inl, inr, ⊎_elim, ◌<◌, ◌≤◌, ℕ, Bool, true, false, List, [], ◌∷◌, ◌++◌, refl, sym, ◌∙◌, ap, subst, arith}
use Rattle.std.specs.Prelude.{Option, Some, None, IfSome, ⊤}
use Rattle.std.proofs.lemmas.List.{append_assoc}
use Rattle.keepers.specs.Crash.{IsWithin}
use Rattle.cells.specs.Calls.{Goes, IsMade, IsNot, MayMake, Sends, Swaps}
use Rattle.cells.specs.Chain.{Grows, IsMadeBy, Links, Makes, Swap, Version, View, newest}
use Rattle.cells.specs.declared.swapped.SwapResult.{SwapResult}
use Rattle.cells.specs.declared.swapped.SwapResult.TheVariants.{Made, Other, Unknown}

abbrev Comes : Type 1
Comes = Version → Version → Type 0

abbrev pub Sent : Type 1
Sent = Swap → Type 0

-- values that come so come otherwise too
widen_links : (P Q : Comes) (each : (a b : Version) → P a b → Q a b) (added old : List Version) → Links P added old → Links Q added old
widen_links P Q each [] old links = _
widen_links P Q each (b ∷ added) old links = (each _ _ links.0, widen_links P Q each added old links.1)

-- values behind values
join_links : (P : Comes) (more added old : List Version) → Links P more (added ++ old) → Links P added old → Links P (more ++ added) old
join_links P [] added old more links = links
join_links P (b ∷ more) added old behind links = (subst (λ (l : List Version). P (newest l) b) (sym (append_assoc more added old)) behind.0, join_links P more added old behind.1 links)

pub grows_not : (P : Comes) (old : List Version) → Grows P old old
grows_not P old = record { added = []; is = refl; links = _ }

pub grows_one : (P : Comes) (old : List Version) (v : Version) → P (newest old) v → Grows P old (v ∷ old)
grows_one P old v comes = record { added = v ∷ []; is = refl; links = (comes, _) }

pub grows_widen : (P Q : Comes) (each : (a b : Version) → P a b → Q a b) (old new : List Version) → Grows P old new → Grows Q old new
grows_widen P Q each old new g = record { added = g.added; is = g.is; links = widen_links P Q each g.added old g.links }

pub grows_join : (P : Comes) (old mid new : List Version) → Grows P old mid → Grows P mid new → Grows P old new
grows_join P old mid new g h = record {
  added = h.added ++ g.added;
  is = h.is ∙ ap (λ l. h.added ++ l) g.is ∙ sym (append_assoc h.added g.added old);
  links = join_links P h.added g.added old (subst (Links P h.added) g.is h.links) g.links;
}

-- revisions rise
links_rise : (X : Sent) (added old : List Version) → Links (IsMadeBy X) added old → (newest old).revision ≤ (newest (added ++ old)).revision
links_rise X [] old links = omega arith
links_rise X (b ∷ added) old links = omega (arith, links_rise X added old links.1, links.0.2.later)

pub grows_rise : (X : Sent) (old new : List Version) → Grows (IsMadeBy X) old new → (newest old).revision ≤ (newest new).revision
grows_rise X old new g = subst (λ (l : List Version). (newest old).revision ≤ (newest l).revision) (sym g.is) (links_rise X g.added old g.links)

-- where the revision is the same, nothing was added
links_stay : (X : Sent) (added old : List Version) → Links (IsMadeBy X) added old → (newest (added ++ old)).revision ≡ (newest old).revision → added ++ old ≡ old
links_stay X [] old links same = refl
links_stay X (b ∷ added) old links same = absurd (omega (arith, links_rise X added old links.1, links.0.2.later, same))

pub grows_stay : (X : Sent) (old new : List Version) → Grows (IsMadeBy X) old new → (newest new).revision ≡ (newest old).revision → new ≡ old
grows_stay X old new g same = g.is ∙ links_stay X g.added old g.links (ap (λ l. (newest l).revision) (sym g.is) ∙ same)

-- ---- from view to view

pub made_more : (X Y : Sent) (each : (s : Swap) → X s → Y s) (a b : Version) → IsMadeBy X a b → IsMadeBy Y a b
made_more X Y each a b made = (made.0, each made.0 made.1, made.2)

pub sends_not : (v : View) (X : Sent) → Sends v X v
sends_not v X = record { grows = grows_not _ v.chain; sent = λ s may. inl may }

pub sends_more : (old : View) (X Y : Sent) (new : View) (each : (s : Swap) → X s → Y s) → Sends old X new → Sends old Y new
sends_more old X Y new each sends = record {
  grows = grows_widen _ _ (made_more _ _ (λ s. ⊎_elim inl (λ x. inr (each s x)))) old.chain new.chain sends.grows;
  sent = λ s may. ⊎_elim inl (λ x. inr (each s x)) (sends.sent s may);
}

pub sends_join : (old : View) (X : Sent) (mid new : View) → Sends old X mid → Sends mid X new → Sends old X new
sends_join old X mid new first second =
    let each : (s : Swap) → mid.may_land s ⊎ X s → old.may_land s ⊎ X s = λ s. ⊎_elim (first.sent s) inr in
    record {
      grows = grows_join _ old.chain mid.chain new.chain first.grows (grows_widen _ _ (made_more _ _ each) mid.chain new.chain second.grows);
      sent = λ s may. each s (second.sent s may);
    }

-- what was made was sent
pub made_sends : (old : View) (s : Swap) (new : View) (revision : ℕ) → IsMade old s new revision → MayMake old s new
made_sends old s new revision made = record {
  grows = subst (Grows _ old.chain) (sym made.is) (grows_join _ old.chain made.before (made.value ∷ made.before) (grows_widen _ _ (made_more _ _ (λ _. inl)) old.chain made.before made.landed) (grows_one _ made.before made.value (s, inr refl, made.makes)));
  sent = λ o may. inl (made.sent o may);
}

pub none_sent : (old : View) (s : Swap) (new : View) → Goes old new → MayMake old s new
none_sent old s new goes = sends_more old _ _ new (λ o (none : ⊥). absurd none) goes

-- whatever the answer to a swap is, that was sent and no other
pub swaps_sends : (old : View) (s : Swap) (new : View) (answer : SwapResult) → Swaps old s new answer → MayMake old s new
swaps_sends old s new (Made revision) made = made_sends old s new revision made
swaps_sends old s new Other not = none_sent old s new not.goes
swaps_sends old s new Unknown may = may
