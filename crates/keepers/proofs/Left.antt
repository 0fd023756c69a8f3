-- What a crash might have left of a disk in memory, as more is added to it.
use Rattle.std.proofs.Common.{◌≡◌, ◌⊎◌, inl, inr, ⊎_elim, ◌≤◌, ◌-◌, ℕ, zero, suc, Bool, true, List, [], ◌∷◌, ◌++◌, length, take, drop, slice_get, refl, sym, ◌∙◌, ap, subst, arith}
use Rattle.std.specs.Prelude.{Option, Some, None, Result, Ok, Err, OnOk, OnErr, option_map, ⊤}
use Rattle.std.proofs.lemmas.List.{take_rest, drop-map}
use Rattle.std.specs.Global.{Vec}
use Rattle.std.proofs.lemmas.Option.{slice_get_within}
use Rattle.keepers.specs.Crash.{Elapses}
use Rattle.keepers.specs.Disk.{IsOf, Links, Places, SyncsFolder}
use Rattle.keepers.specs.InMemory.{InMemory, IsFrom, contents, disk_after_rename, disk_after_sync, drafts_of, view_of}
use Rattle.keepers.specs.declared.keep_fault.KeepFault.{KeepFault}

abbrev Files : Type 0
Files = List (Option (List ℕ))

-- what is there stays where it is
stays : (left more : Files) (i : ℕ) (c : Option (List ℕ)) → slice_get left i ≡ Some c → slice_get (left ++ more) i ≡ Some c
stays [] more i c at = absurd (cc at)
stays (x ∷ left) more zero c at = at
stays (x ∷ left) more (suc i) c at = stays left more i c at

-- it is of these
abbrev IsOne : Files → Option (List ℕ) → Type 0
IsOne more c = (j : ℕ) × (slice_get more j ≡ Some c)

-- what is there then was there, or was added behind
was : (left more : Files) (i : ℕ) (c : Option (List ℕ)) → slice_get (left ++ more) i ≡ Some c → (slice_get left i ≡ Some c) ⊎ ((length left ≤ i) × IsOne more c)
was [] more i c at = inr (omega arith, (i, at))
was (x ∷ left) more zero c at = inl at
was (x ∷ left) more (suc i) c at = ⊎_elim (λ here. inl here) (λ (behind : (length left ≤ i) × IsOne more c). inr (omega (arith, behind.0), behind.1)) (was left more i c at)

-- time goes on as more is added, and as what was there before is settled
grown : (left more : Files) (before now : ℕ) → before ≤ now → now ≤ length left → Elapses before now (λ t c. IsFrom left t c) (λ t c. IsFrom (left ++ more) t c) (IsFrom (left ++ more) now)
grown left more before now later short = record {
  later = later;
  nothing_else = λ t c le at. ⊎_elim (λ (here : slice_get left at.0 ≡ Some c). inl (at.0, at.1, here)) (λ (behind : (length left ≤ at.0) × IsOne more c). inr (at.0, omega (arith, short, behind.0), at.2)) (was left more at.0 c at.2);
  keeps = λ t c le at. (at.0, at.1, stays left more at.0 c at.2);
}

abbrev HasElapsed : InMemory → InMemory → Type 0
HasElapsed old new = Elapses old.settled new.settled (λ t c. IsFrom old.left t c) (λ t c. IsFrom new.left t c) (IsFrom new.left new.settled)

stands : (d : InMemory) → HasElapsed d d
stands d = record { later = omega arith; nothing_else = λ t c le at. inl at; keeps = λ t c le at. at }

-- each of the two that a draft may be is one that it may hold
is_draft : (d : InMemory) (i : ℕ) (c : Option (List ℕ)) → slice_get (drafts_of d) i ≡ Some c → IsOf (λ bytes. (bytes ≡ d.synced) ⊎ (bytes ≡ d.draft)) c
is_draft d zero (Some bytes) at = inl (cc at)
is_draft d zero None at = absurd (cc at)
is_draft d (suc zero) (Some bytes) at = inr (cc at)
is_draft d (suc zero) None at = absurd (cc at)
is_draft d (suc (suc i)) c at = absurd (cc at)

-- where more is added, a crash leaves what it might have left before, or what was added
added : (d : InMemory) (n : ℕ) (c : Option (List ℕ)) → d.settled ≤ n → IsFrom (d.left ++ drafts_of d) n c → IsFrom d.left d.settled c ⊎ IsOf (view_of d).may_hold c
added d n c le at = ⊎_elim (λ (here : slice_get d.left at.0 ≡ Some c). inl (at.0, omega (arith, le, at.1), here)) (λ (behind : (length d.left ≤ at.0) × IsOne (drafts_of d) c). inr (is_draft d behind.1.0 c behind.1.1)) (was d.left (drafts_of d) at.0 c at.2)

-- behind what was there is what was added alone
behind_all : (d : InMemory) (c : Option (List ℕ)) → IsFrom (d.left ++ drafts_of d) (length d.left) c → IsOf (view_of d).may_hold c
behind_all d c at = ⊎_elim (λ (here : slice_get d.left at.0 ≡ Some c). absurd (omega (arith, at.1, slice_get_within d.left at.0 c here))) (λ (behind : (length d.left ≤ at.0) × IsOne (drafts_of d) c). is_draft d behind.1.0 c behind.1.1) (was d.left (drafts_of d) at.0 c at.2)

-- a call that failed counted that, and changed nothing else
abbrev IsCounted : InMemory → InMemory → Type 0
IsCounted old new = new ≡ record old { count = new.count }

pub places : (old new : InMemory) (is_free : Bool) (result : Result ⊤ KeepFault) → OnOk result (new ≡ disk_after_rename is_free old) → OnErr result (IsCounted old new) → Places (view_of old) (view_of new) result
places old new is_free (Ok done) is same = subst (λ (d : InMemory). Places (view_of old) (view_of d) (Ok done)) (sym is) record {
  ok = (refl, refl);
  file = inr refl;
  crash = λ c at. added old old.settled c (omega arith) at;
  draft = record { draft = refl; crash = λ bytes holds. holds };
}
places old new is_free (Err fault) is same = subst (λ (d : InMemory). Places (view_of old) (view_of d) (Err fault)) (sym same) record {
  ok = _;
  file = inl refl;
  crash = λ c at. inl at;
  draft = record { draft = refl; crash = λ bytes holds. holds };
}

pub place_elapses : (old new : InMemory) (is_free : Bool) (result : Result ⊤ KeepFault) → OnOk result (new ≡ disk_after_rename is_free old) → OnErr result (IsCounted old new) → old.settled ≤ length old.left → HasElapsed old new
place_elapses old new is_free (Ok done) is same bound = subst (HasElapsed old) (sym is) (grown old.left (drafts_of old) old.settled old.settled (omega arith) bound)
place_elapses old new is_free (Err fault) is same bound = subst (HasElapsed old) (sym same) (stands old)

pub links : (old new : InMemory) (is_free : Bool) (result : Result ⊤ KeepFault) → OnOk result (new ≡ disk_after_rename is_free old) → OnErr result (IsCounted old new) → OnOk result (old.file ≡ None) → Links (view_of old) (view_of new) result
links old new is_free result is same none = record { places = places old new is_free result is same; none = none }

pub settles : (old new : InMemory) (result : Result ⊤ KeepFault) → OnOk result (new ≡ disk_after_sync old) → OnErr result (IsCounted old new) → old.is_placed ≡ true → SyncsFolder (view_of old) (view_of new) result
settles old new (Ok done) is same placed = subst (λ (d : InMemory). SyncsFolder (view_of old) (view_of d) (Ok done)) (sym is) record {
  file = refl;
  crash = λ c at. inr (placed, behind_all old c at);
  durable = λ at_place c at. behind_all old c at;
}
settles old new (Err fault) is same placed = subst (λ (d : InMemory). SyncsFolder (view_of old) (view_of d) (Err fault)) (sym same) record { file = refl; crash = λ c at. inl at; durable = _ }

pub settle_elapses : (old new : InMemory) (result : Result ⊤ KeepFault) → OnOk result (new ≡ disk_after_sync old) → OnErr result (IsCounted old new) → old.settled ≤ length old.left → HasElapsed old new
settle_elapses old new (Ok done) is same bound = subst (HasElapsed old) (sym is) (grown old.left (drafts_of old) old.settled (length old.left) bound (omega arith))
settle_elapses old new (Err fault) is same bound = subst (HasElapsed old) (sym same) (stands old)

-- the bytes of those from an index on
pub contents_from : (left : List (Option (Vec ℕ))) (n : ℕ) → contents (take (length left - n) (drop n left)) ≡ drop n (contents left)
contents_from left n = ap contents (take_rest left n) ∙ sym (drop-map (option_map (λ v. v.items)) n left)
