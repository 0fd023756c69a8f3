-- Steps that give nothing out.
use Rattle.std.proofs.Common.{◌≡◌, ℕ, Bool, true, List, Result, Ok, Err, IfErr, IsErrAnd, OnErr, ap, inl, inr, subst, sym, ⊎_elim}
use Rattle.ticket_items.specs.declared.refusal.Refusal.{Refusal}
use Rattle.serde_json.specs.Data.{Data}
use Rattle.json_profile.specs.ReadAs.{IsReadAs}
use Rattle.stored_state.specs.Held.{GivesNothing, HoldsOldOrNext, IsNotSaved, KeptState, ShowsEither}
use Rattle.streams.specs.declared.refused.Refused.{Refused}
use Rattle.streams.specs.declared.refused.Refused.TheVariants as refused

-- the controller as another, beside the same keeper
abbrev pub held_as : {C D K : Type 0} → (C → D) → KeptState C K → KeptState D K
held_as seen kept = record { controller = seen kept.controller; keep = kept.keep; stale = kept.stale }

-- why nothing is given out, told by other words and of the controller as another
pub nothing_of : {C D K : Type 0} (seen : C → D) (is_honest : K → Bool) (held : K → List ℕ) (count : K → ℕ) (save_fails : K → List ℕ → K → Type 0) (R S : Refusal → Type 0) (T U : List ℕ → Type 0) (old new : KeptState C K) → ((x : Refusal) → R x → S x) → ((t : List ℕ) → T t → U t) → (e : Refused) → GivesNothing is_honest held count save_fails R T old new e → GivesNothing is_honest held count save_fails S U (held_as seen old) (held_as seen new) e
nothing_of seen h l n sf R S T U old new f g (refused.Core x) why = (
  why.0,
  ⊎_elim (λ same. inl (f x same.0, ap (held_as seen) same.1))
      (λ lost. inr (lost.0, lost.1, (lost.2.0, g lost.2.0 lost.2.1), lost.3)) why.1,
)
nothing_of seen h l n sf R S T U old new f g refused.SaveFailed why =
    (why.0, why.1, (why.2.0, g why.2.0 why.2.1, why.2.2))
nothing_of seen h l n sf R S T U old new f g refused.Stale why = (why.0, ap (held_as seen) why.1)
nothing_of seen h l n sf R S T U old new f g e why = why

pub err_as : {A E : Type 0} (P : E → Type 0) (r : Result A E) (e : E) → IsErrAnd r (λ f. f ≡ e) → P e → IfErr r P
err_as P (Ok a) e same p = tt
err_as P (Err f) e same p = subst P (sym same) p

-- what is shown where no step is told of
pub shown_as : {A E C K : Type 0} (P Q : C → Type 0) (r : Result A E) (old new : KeptState C K) → ((c : C) → P c → Q c) → ShowsEither old P new → OnErr r (ShowsEither old Q new)
shown_as P Q (Ok a) old new f shown = tt
shown_as P Q (Err e) old new f (inl same) = inl same
shown_as P Q (Err e) old new f (inr is) = inr (f new.controller is)

-- ---- a state that isn't saved

-- an honest keeper holds what it held, or the text, which is read as the controller
pub not_saved : {C K : Type 0} (honest : K → Bool) (held : K → List ℕ) (count : K → ℕ) (save_fails : K → List ℕ → K → Type 0) (reads : Data → Result C Refusal) (text : List ℕ) (c : C) (old new : K) → IsReadAs reads text (Ok c) → (e : Refused) → IsNotSaved honest held count save_fails text old new e → honest old ≡ true → HoldsOldOrNext reads (held old) c (held new)
not_saved honest held count save_fails reads text c old new read (refused.Core x) why is = inl (why.1 is)
not_saved honest held count save_fails reads text c old new read refused.SaveFailed why is =
    ⊎_elim (λ same. inl same) (λ saved. inr (subst (λ t. IsReadAs reads t (Ok c)) (sym saved) read)) (why.either is)
not_saved honest held count save_fails reads text c old new read e why is = absurd why
