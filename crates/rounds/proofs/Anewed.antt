-- All that comes to the controller in a cell, of copies, and of the text that was loaded.
use Rattle.std.proofs.Common.{◌≡◌, ◌≢◌, ◌∙◌, ◌≤◌, ◌<◌, ◌+◌, ◌⊎◌, ◌++◌, ℕ, Bool, true, false, true≢false, List, [], ◌∷◌, Option, Some, None, Result, Ok, Err, IfOk, ap, arith, get_or, inl, inr, length, refl, subst, suc, sym, take, ⊎_elim}
use Rattle.std.proofs.lemmas.List.{take_more}
use Rattle.std.proofs.Math.Nat.{eq-or-lt_of_le}
use Rattle.keepers.specs.Keeper.{CountRose}
use Rattle.keepers.specs.declared.keep_fault.KeepFault.{KeepFault}
use Rattle.keepers.specs.declared.keep_fault.KeepFault.TheVariants as faults
use Rattle.ticket_items.specs.declared.refusal.Refusal.{Refusal}
use Rattle.ticket_items.specs.declared.refusal.Refusal.TheVariants as refusals
use Rattle.controller.specs.declared.message.Message.{Message}
use Rattle.cells.specs.Chain.{Version}
use Rattle.cells.specs.Kept.{IsPartOf, IsStepped}
use Rattle.stored_state.specs.Addressee.{is_addressed}
use Rattle.stored_state.specs.AnyStep.{IsNoOrder, IsOrdered, text_of}
use Rattle.stored_state.specs.Step.{TextStep}
use Rattle.stored_state.specs.TakingAll.{AreFrom, Gives, IsKept, TakesAll, TakesEach, TakesNone, TakesOne, sender_in}
use Rattle.stored_state.specs.declared.addressee.Addressee.{Addressee}
use Rattle.stored_state.specs.declared.any_controller.AnyController.{AnyController}
use Rattle.stored_state.specs.declared.coming.Coming.{Coming}
use Rattle.stored_state.specs.declared.coming.Coming.TheVariants as comings
use Rattle.stored_state.specs.declared.taken_bytes.TakenBytes.{TakenBytes}
use Rattle.streams.specs.declared.refused.Refused.{Refused}
use Rattle.streams.specs.declared.refused.Refused.TheVariants as refused
use Rattle.cells.proofs.Keeping.{stepped_since}
use Rattle.rounds.specs.Anew.{AreCopies, CellTakesNone, ComesTo, Given, IsCopy, IsTaken, TakesText}

-- ---- copies

-- one more is copied
pub copied_more : (all copied : List Coming) (x y : Coming) → AreCopies all copied → IsCopy x y → AreCopies (all ++ x ∷ []) (copied ++ y ∷ [])
copied_more [] [] x y so is = (is, tt)
copied_more [] (v ∷ copied) x y so is = absurd so
copied_more (u ∷ all) [] x y so is = absurd so
copied_more (u ∷ all) (v ∷ copied) x y so is = (so.0, copied_more all copied x y so.1 is)

-- one more of these
pub next_copied : (all : List Coming) (i : ℕ) (x : Coming) (copied after : List Coming) (y : Coming) → i < length all → x ≡ get_or all i x → AreCopies (take i all) copied → IsCopy x y → after ≡ copied ++ y ∷ [] → AreCopies (take (i + 1) all) after
next_copied all i x copied after y within is so same pushed =
    subst (AreCopies (take (i + 1) all)) (sym pushed)
    (subst (λ (xs : List Coming). AreCopies xs (copied ++ y ∷ [])) (sym (take_more all i x within))
    (copied_more (take i all) copied (get_or all i x) y so (subst (λ (v : Coming). IsCopy v y) is same)))

pub as_many_copies : (all copied : List Coming) → AreCopies all copied → length copied ≡ length all
as_many_copies [] [] so = refl
as_many_copies [] (v ∷ copied) so = absurd so
as_many_copies (u ∷ all) [] so = absurd so
as_many_copies (u ∷ all) (v ∷ copied) so = ap suc (as_many_copies all copied so.1)

-- what comes of a copy comes of what was copied
takes_copy : (at : ℕ) (x y : Coming) (c : AnyController) (step : Result (TextStep AnyController) Refusal) (next : AnyController) → IsCopy x y → TakesOne at y c step next → TakesOne at x c step next
takes_copy at (comings.Message m) (comings.Message n) c step next same takes =
    subst (λ (x : Message). TakesOne at (comings.Message x) c step next) same takes
takes_copy at (comings.Order text) (comings.Order copied) c (Ok step) next same takes =
    (subst (λ b. IsOrdered at b c step) same takes.0, takes.1)
takes_copy at (comings.Order text) (comings.Order copied) c (Err e) next same takes =
    (subst (λ b. IsNoOrder b c e) same takes.0, takes.1)
takes_copy at (comings.Neither why) (comings.Neither other) c step next same takes =
    subst (λ (x : Refusal). TakesOne at (comings.Neither x) c step next) same takes
takes_copy at x y c step next same takes = absurd same

each_copy : (at : ℕ) (all copied : List Coming) (c : AnyController) (steps : List (Result (TextStep AnyController) Refusal)) (last : AnyController) → AreCopies all copied → TakesEach at copied c steps last → TakesEach at all c steps last
each_copy at [] [] c steps last same takes = takes
each_copy at [] (y ∷ copied) c steps last same takes = absurd same
each_copy at (x ∷ all) [] c steps last same takes = absurd same
each_copy at (x ∷ all) (y ∷ copied) c [] last same takes = absurd takes
each_copy at (x ∷ all) (y ∷ copied) c (step ∷ steps) last same takes =
    (takes.0, takes_copy at x y c step takes.0 same.0 takes.1, each_copy at all copied takes.0 steps last same.1 takes.2)

sender_copy : (x y : Coming) → IsCopy x y → sender_in y ≡ sender_in x
sender_copy (comings.Message m) (comings.Message n) same = ap (λ (x : Message). Some x.sender) same
sender_copy (comings.Order text) (comings.Order copied) same = refl
sender_copy (comings.Neither why) (comings.Neither other) same = refl
sender_copy x y same = absurd same

from_copy : (all copied : List Coming) (given : List (Result TakenBytes Refusal)) → AreCopies all copied → AreFrom copied given → AreFrom all given
from_copy [] [] given same from = from
from_copy [] (y ∷ copied) given same from = absurd same
from_copy (x ∷ all) [] given same from = absurd same
from_copy (x ∷ all) (y ∷ copied) [] same from = absurd from
from_copy (x ∷ all) (y ∷ copied) (taken ∷ given) same from =
    (subst (λ (s : Option (List ℕ)). IfOk taken (λ (t : TakenBytes). t.sender ≡ s)) (sender_copy x y same.0) from.0, from_copy all copied given same.1 from.1)

pub text_of_copy : (to : Addressee) (at : ℕ) (all copied : List Coming) → AreCopies all copied → (old new : List ℕ) (given : Given) → TakesText to at copied old new given → TakesText to at all old new given
text_of_copy to at all copied same old new given takes = record {
  before = takes.before;
  was = takes.was;
  addressed = takes.addressed;
  last = takes.last;
  taken = record {
    steps = takes.taken.steps;
    each = each_copy at all copied takes.before takes.taken.steps takes.last same takes.taken.each;
    gives = takes.taken.gives;
    senders = from_copy all copied given.0 same takes.taken.senders;
  };
  kept = takes.kept;
}

pub taken_of_copy : (to : Addressee) (at : ℕ) (all copied : List Coming) (given : Given) → AreCopies all copied → IsTaken to at copied given → IsTaken to at all given
taken_of_copy to at all copied given same taken =
    (taken.0, taken.1, text_of_copy to at all copied same taken.0 taken.1 given taken.2)

pub stepped_of_copy : (to : Addressee) (at : ℕ) (all copied : List Coming) (old new : List Version) (given : Given) → AreCopies all copied → IsStepped (TakesText to at copied) old new given → IsStepped (TakesText to at all) old new given
stepped_of_copy to at all copied old new given same stepped = record {
  chain = stepped.chain;
  since = stepped.since;
  bytes = stepped.bytes;
  makes_it = text_of_copy to at all copied same _ stepped.bytes given stepped.makes_it;
  leaves = stepped.leaves;
}

-- the last try, behind others
pub last_stepped : {T E : Type 0} (r : Result T E) (given_of : T → Given) (makes : List ℕ → List ℕ → Given → Type 0) (start mid new : List Version) → IsPartOf start mid → IfOk r (λ t. IsStepped makes mid new (given_of t)) → IfOk r (λ t. IsStepped makes start new (given_of t))
last_stepped (Ok t) given_of makes start mid new since is = stepped_since makes start mid new (given_of t) since is
last_stepped (Err e) given_of makes start mid new since is = tt

-- ---- refusals

pub rose_behind : (old mid new : ℕ) → old ≤ mid → mid ≤ new → CountRose mid new → CountRose old new
rose_behind old mid new loaded saved rose =
    ⊎_elim (λ less. inl (omega (arith, less, loaded)))
    (λ most. ⊎_elim (λ same. inr (same ∙ most)) (λ less. inl (omega (arith, less, saved))) (eq-or-lt_of_le loaded)) rose

-- behind other tries, of a copy
pub none_of_copy : (to : Addressee) (at : ℕ) (all copied : List Coming) (first old new : ℕ) (e : Refused) → AreCopies all copied → first ≤ old → old ≤ new → CellTakesNone to at copied old new e → CellTakesNone to at all first new e
none_of_copy to at all copied first old new (refused.Core e) same low rise none = tt
none_of_copy to at all copied first old new refused.LoadFailed same low rise none = rose_behind first old new low rise none
none_of_copy to at all copied first old new refused.OtherName same low rise none = tt
none_of_copy to at all copied first old new refused.SaveFailed same low rise none = (
  record {
    before = none.0.before;
    addressed = none.0.addressed;
    steps = none.0.steps;
    last = none.0.last;
    each = each_copy at all copied none.0.before none.0.steps none.0.last same none.0.each;
  },
  rose_behind first old new low rise none.1,
)
none_of_copy to at all copied first old new e same low rise none = absurd none

-- the same of what was not copied
pub none_behind : (to : Addressee) (at : ℕ) (all : List Coming) (first old new : ℕ) (e : Refused) → first ≤ old → old ≤ new → CellTakesNone to at all old new e → CellTakesNone to at all first new e
none_behind to at all first old new (refused.Core e) low rise none = tt
none_behind to at all first old new refused.LoadFailed low rise none = rose_behind first old new low rise none
none_behind to at all first old new refused.OtherName low rise none = tt
none_behind to at all first old new refused.SaveFailed low rise none = (none.0, rose_behind first old new low rise none.1)
none_behind to at all first old new e low rise none = absurd none

-- a keeper in memory fails for want of memory alone
pub none_in_memory : (to : Addressee) (at : ℕ) (all : List Coming) (before after : List ℕ) (old new : ℕ) (e : Refused) → TakesNone (λ (b : List ℕ). true) (λ (b : List ℕ). b) (λ (b : List ℕ). []) (λ (b : List ℕ). 0) (λ (a b : List ℕ). ⊥) (λ (a : List ℕ) (t : List ℕ) (b : List ℕ). ⊥) to at all before after e → CellTakesNone to at all old new e
none_in_memory to at all before after old new (refused.Core e) none = tt
none_in_memory to at all before after old new refused.LoadFailed none = absurd none.1
none_in_memory to at all before after old new refused.OtherName none = tt
none_in_memory to at all before after old new refused.SaveFailed none = absurd none.fails.fails.3
none_in_memory to at all before after old new e none = absurd none

-- a load failed
pub not_loaded : (to : Addressee) (at : ℕ) (all : List Coming) (old new : ℕ) (fault : KeepFault) (e : Refused) → (fault ≡ faults.Failed → e ≡ refused.LoadFailed) → (fault ≡ faults.Memory → e ≡ refused.Core refusals.Memory) → (fault ≡ faults.Failed → CountRose old new) → CellTakesNone to at all old new e
not_loaded to at all old new faults.Failed e failed memory raised =
    subst (CellTakesNone to at all old new) (sym (failed refl)) (raised refl)
not_loaded to at all old new faults.Memory e failed memory raised =
    subst (CellTakesNone to at all old new) (sym (memory refl)) tt

-- a save failed
pub not_saved : (to : Addressee) (at : ℕ) (all : List Coming) (old new : ℕ) (fault : KeepFault) (e : Refused) → (fault ≡ faults.Failed → e ≡ refused.SaveFailed) → (fault ≡ faults.Memory → e ≡ refused.Core refusals.Memory) → ComesTo to at all → (fault ≡ faults.Failed → CountRose old new) → CellTakesNone to at all old new e
not_saved to at all old new faults.Failed e failed memory comes raised =
    subst (CellTakesNone to at all old new) (sym (failed refl)) (comes, raised refl)
not_saved to at all old new faults.Memory e failed memory comes raised =
    subst (CellTakesNone to at all old new) (sym (memory refl)) tt

-- ---- as of any keeper

module _ {K : Type 0} (place : K → List ℕ) (count : K → ℕ) where
  abbrev dishonest : K → Bool
  dishonest keep = false

  abbrev no_bytes : K → List ℕ
  no_bytes keep = []

  kept_so : (before last : AnyController) (given : List (Result TakenBytes Refusal)) (saved : Option AnyController) (old new : K) (a b : List ℕ) → IsKept (λ (t : List ℕ). true) (λ (t : List ℕ). t) given before last a b saved → IsKept dishonest no_bytes given before last old new saved
  kept_so before last given (Some saved) old new a b kept = (kept.0, λ is. absurd (true≢false (sym is)))
  kept_so before last given None old new a b kept = (kept.0, kept.1, λ is. absurd (true≢false (sym is)))

  pub all_taken : (to : Addressee) (at : ℕ) (all : List Coming) (given : Given) (old new : K) → IsTaken to at all given → TakesAll dishonest no_bytes to at all given.0 given.1 old new
  all_taken to at all given old new taken = record {
    before = taken.2.before;
    was = λ is. absurd (true≢false (sym is));
    addressed = taken.2.addressed;
    last = taken.2.last;
    taken = taken.2.taken;
    kept = kept_so taken.2.before taken.2.last given.0 given.1 old new taken.0 taken.1 taken.2.kept;
  }

  pub none_taken : (load_fails : K → K → Type 0) (save_fails : K → List ℕ → K → Type 0) (to : Addressee) (at : ℕ) (all : List Coming) (old new : K) (e : Refused) → (CountRose (count old) (count new) → load_fails old new) → ((text : List ℕ) → CountRose (count old) (count new) → save_fails old text new) → CellTakesNone to at all (count old) (count new) e → TakesNone dishonest no_bytes place count load_fails save_fails to at all old new e
  none_taken load_fails save_fails to at all old new (refused.Core e) loads saves none =
      (λ is. absurd (true≢false (sym is)), λ is. absurd (true≢false (sym is)))
  none_taken load_fails save_fails to at all old new refused.LoadFailed loads saves none =
      (λ is. absurd (true≢false (sym is)), loads none, none)
  none_taken load_fails save_fails to at all old new refused.OtherName loads saves none =
      (λ is. absurd (true≢false (sym is)), λ is. absurd (true≢false (sym is)))
  none_taken load_fails save_fails to at all old new refused.SaveFailed loads saves none = record {
    before = none.0.before;
    was = λ is. absurd (true≢false (sym is));
    addressed = none.0.addressed;
    steps = none.0.steps;
    last = none.0.last;
    each = none.0.each;
    fails = record {
      either = λ is. absurd (true≢false (sym is));
      fails = (old, refl, refl, saves (text_of none.0.last) none.1);
      failures = none.1;
    };
  }
  none_taken load_fails save_fails to at all old new e loads saves none = absurd none

-- ---- what is saved in the cell

-- the text of the state behind the last, which was saved
pub text_saved : (to : Addressee) (at : ℕ) (all : List Coming) (old new text : List ℕ) (given : List (Result TakenBytes Refusal)) (next : Option AnyController) (saved : AnyController) → TakesText to at all old new (given, next) → next ≡ Some saved → text ≡ text_of saved → TakesText to at all old text (given, Some saved)
text_saved to at all old new text given next saved takes is same =
    let some = subst (λ (n : Option AnyController). TakesText to at all old new (given, n)) is takes in record {
      before = some.before;
      was = some.was;
      addressed = some.addressed;
      last = some.last;
      taken = some.taken;
      kept = (some.kept.0, λ honest. same ∙ ap text_of some.kept.0);
    }

pub none_of : {A : Type 0} (o : Option A) → ((x : A) → o ≢ Some x) → o ≡ None
none_of None not = refl
none_of (Some x) not = absurd (not x refl)

-- where no step was made the text stays
pub text_stays : (to : Addressee) (at : ℕ) (all : List Coming) (old new : List ℕ) (given : List (Result TakenBytes Refusal)) (next : Option AnyController) → TakesText to at all old new (given, next) → next ≡ None → TakesText to at all old old (given, None)
text_stays to at all old new given next takes is =
    let none = subst (λ (n : Option AnyController). TakesText to at all old new (given, n)) is takes in record {
      before = none.before;
      was = none.was;
      addressed = none.addressed;
      last = none.last;
      taken = none.taken;
      kept = (none.kept.0, none.kept.1, λ honest. refl);
    }
