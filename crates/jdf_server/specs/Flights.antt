-- How what is in flight to another house ends.
use Rattle.std.specs.Prelude.{◌≡◌, ℕ, Option, Some, None, MatchBool}
use Rattle.courier.specs.Destination.{Destination, after_answer, after_failed_try, after_withdrawal}
use Rattle.courier.specs.Table.{flies_at, with_changed}
use Rattle.deliveries.specs.Ledger.{IsSettled, Ledger}
use Rattle.deliveries.specs.declared.progress.Progress.{Progress}
use Rattle.deliveries.specs.declared.progress.Progress.TheVariants.{Refused, Taken}
use Rattle.server_post.specs.declared.post.Post.{Post}

-- it failed, and goes again, behind the others of its destination
abbrev pub FailsFlight : ℕ → ℕ → Ledger → Ledger → Type 0
FailsFlight now line old new =
    new ≡ record old { destinations = with_changed (after_failed_try now) old.destinations line }

-- it goes no more: its destination is changed so, and it has this progress; it is dropped where that
-- is none
pub record IsEnded (change : Destination → Destination) (to : Option Progress) (line : ℕ)
    (old new : Ledger) : Type 0 where
  pub destinations : new.destinations ≡ with_changed change old.destinations line
  pub routes : new.routes ≡ old.routes
  pub progress : IsSettled old line to new.outboxes

-- it was answered: it is taken, or refused for the refusal of this number
abbrev pub progress_by : Option ℕ → Progress
progress_by None = Taken
progress_by (Some number) = Refused number

abbrev pub SettlesFlight : ℕ → Option ℕ → ℕ → Ledger → Ledger → Type 0
SettlesFlight now refusal line old new =
    IsEnded (after_answer now) (Some (progress_by refusal)) line old new

-- it turned out to be out no longer
abbrev pub WithdrawsFlight : ℕ → Ledger → Ledger → Type 0
WithdrawsFlight line old new = IsEnded after_withdrawal None line old new

-- where something is in flight to a destination it ends so, and else nothing changes
abbrev pub EndsIn : (ℕ → Ledger → Ledger → Type 0) → ℕ → (old new : Post) → Type 0
EndsIn so line old new =
    MatchBool (flies_at old.deliveries.destinations line)
    (so line old.deliveries new.deliveries)
    (new ≡ old)

-- the same, where anything goes out
abbrev pub EndsFlight : (ℕ → Ledger → Ledger → Type 0) → ℕ → (old new : Option Post) → Type 0
EndsFlight so line None new = new ≡ None
EndsFlight so line (Some old) None = ⊥
EndsFlight so line (Some old) (Some new) = EndsIn so line old new
