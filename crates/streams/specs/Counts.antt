-- The counts of a reader or a writer, and what a call does to them.
use Rattle.std.specs.Prelude.{◌≡◌, ◌<◌, ◌⊎◌, ℕ, ◌+◌, ◌-◌, ◌^◌, Bool, true, false, MatchResult}
use Rattle.std.specs.Prelude.{Result}
use Rattle.std.specs.IoError.{error_kind}
use Rattle.std.specs.declared.io.Error.{Error}
use Rattle.std.specs.declared.io.ErrorKind.{ErrorKind}
use Rattle.std.specs.declared.io.ErrorKind.TheVariants.{Interrupted, WouldBlock}

-- whether a read that answers this may be made again: it was interrupted, or would have blocked
abbrev pub is_interruption : ErrorKind → Bool
is_interruption Interrupted = true
is_interruption WouldBlock = true
is_interruption _ = false

-- a reader or a writer with its calls: all, those that failed, and reads that may be made again
pub record Counts (T : Type 0) : Type 0 where
  pub inner : T
  pub calls : ℕ
  pub failures : ℕ
  pub interruptions : ℕ

-- no more calls are counted
abbrev pub IsFull : {T : Type 0} → Counts T → Type 0
IsFull c = c.calls ≡ 2 ^ 64 - 1

-- no call was counted
pub record SameCounts {T : Type 0} (old new : Counts T) : Type 0 where
  pub calls : new.calls ≡ old.calls
  pub failures : new.failures ≡ old.failures
  pub interruptions : new.interruptions ≡ old.interruptions

-- one call was counted, which didn't fail
pub record CountsCall {T : Type 0} (old new : Counts T) : Type 0 where
  pub calls : new.calls ≡ old.calls + 1
  pub failures : new.failures ≡ old.failures
  pub interruptions : new.interruptions ≡ old.interruptions

-- one call was counted, which failed
pub record CountsFailure {T : Type 0} (old new : Counts T) : Type 0 where
  pub calls : new.calls ≡ old.calls + 1
  pub failures : new.failures ≡ old.failures + 1
  pub interruptions : new.interruptions ≡ old.interruptions

-- one call was counted, a read that may be made again
pub record CountsInterruption {T : Type 0} (old new : Counts T) : Type 0 where
  pub calls : new.calls ≡ old.calls + 1
  pub failures : new.failures ≡ old.failures
  pub interruptions : new.interruptions ≡ old.interruptions + 1

-- a read that answered an error may be made again, or failed
abbrev pub CountsError : {T : Type 0} → Counts T → Counts T → Error → Type 0
CountsError old new e =
    ((is_interruption (error_kind e) ≡ true) × CountsInterruption old new)
    ⊎ ((is_interruption (error_kind e) ≡ false) × CountsFailure old new)

-- a read was counted by what it answered
abbrev pub CountsRead : {T : Type 0} → Counts T → Counts T → Result ℕ Error → Type 0
CountsRead old new answer = MatchResult answer (λ _. CountsCall old new) (CountsError old new)

-- a write was counted by what it answered: it failed where it took no byte
abbrev pub CountsWrite : {T : Type 0} → Counts T → Counts T → Result ℕ Error → Type 0
CountsWrite old new answer =
    MatchResult answer (λ n. (n ≡ 0 → CountsFailure old new) × (0 < n → CountsCall old new))
    (λ _. CountsFailure old new)
