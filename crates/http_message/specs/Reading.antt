-- How messages are read.
use Rattle.std.specs.Prelude.{◌≡◌, ◌⊎◌, ℕ, ◌<◌, ◌≤◌, ◌+◌, true, List, ◌++◌, IfSome}
use Rattle.std.specs.Io.KnownBytes.{Consumes, IsAtEnd}
use Rattle.ticket_items.specs.declared.refusal.Refusal.TheVariants.{Memory}
use Rattle.streams.specs.Streams.{HasFailed, Traffic}
use Rattle.streams.specs.declared.refused.Refused.{Refused}
use Rattle.streams.specs.declared.refused.Refused.TheVariants.{Core, ReadFailed}
use Rattle.http_message.specs.Incoming.{IsWhole}
use Rattle.http_message.specs.Message.{IsRefusedWithin, is_refusal}
use Rattle.http_message.specs.declared.kind.Kind.{Kind}
use Rattle.http_message.specs.declared.length.TheConstants.{MAX_BODY_BYTES}
use Rattle.http_message.specs.declared.reading.TheConstants.{MAX_READS}
use Rattle.http_message.specs.declared.whole.WholeMessage.{WholeMessage}

-- no read failed
abbrev pub IsUnfailed : Traffic → Type 0
IsUnfailed u = u.after.failures ≡ u.before.failures

-- these bytes were read, with no more calls since the start than may be, and none failed
pub record HasRead (start : ℕ) (u : Traffic) (bytes : List ℕ) : Type 0 where
  pub taken : Consumes u.before.bytes u.after.bytes bytes
  pub on : u.before.calls ≤ u.after.calls
  pub bound : u.after.calls ≤ start + MAX_READS
  pub unfailed : IsUnfailed u

-- a read failed, or as many were made since the start as may be
abbrev pub HasFailedIn : ℕ → Traffic → Type 0
HasFailedIn start u = HasFailed u ⊎ (u.after.calls ≡ start + MAX_READS)

-- why no more was read: a read failed, or as many were made as may be; or memory ran out
abbrev pub IsMoreFault : ℕ → Traffic → Refused → Type 0
IsMoreFault start u e =
    ((e ≡ ReadFailed) × HasFailedIn start u) ⊎ ((e ≡ Core Memory) × IsUnfailed u)

-- more was read behind the old bytes
pub record Gains (start : ℕ) (u : Traffic) (old new : List ℕ) : Type 0 where
  pub more : List ℕ
  pub grown : new ≡ old ++ more
  pub read : HasRead start u more

-- the reader is at its end, and nothing came
pub record HasEnded (u : Traffic) (old new : List ℕ) : Type 0 where
  pub same : new ≡ old
  pub ended : IsAtEnd u.after.bytes

-- one read more: this many bytes came, and none only at the end
pub record Grows (start : ℕ) (u : Traffic) (old new : List ℕ) (count : ℕ) : Type 0 where
  pub gained : Gains start u old new
  pub made : u.before.calls < u.after.calls
  pub ended : count ≡ 0 → HasEnded u old new

-- a message is whole in what was read
pub record HasWhole (most : ℕ) (kind : Kind) (start : ℕ) (u : Traffic) (bytes : List ℕ) (w : WholeMessage)
    : Type 0 where
  pub read : HasRead start u bytes
  pub whole : IsWhole most kind bytes w

-- why no message was read: the input is refused, or no more was read
abbrev pub IsUnreadWithin : ℕ → Kind → ℕ → Traffic → Refused → Type 0
IsUnreadWithin most kind start u e =
    ((is_refusal e ≡ true) × IsUnfailed u
    × IfSome u.before.bytes (λ all. IsRefusedWithin most kind all e))
    ⊎ IsMoreFault start u e

-- the same, where a body has no more bytes than is usual
abbrev pub IsUnread : Kind → ℕ → Traffic → Refused → Type 0
IsUnread = IsUnreadWithin MAX_BODY_BYTES
