-- What a run does with a reader or a writer whose calls are counted.
use Rattle.std.specs.Prelude.{◌≡◌, ◌⊎◌, ℕ, ◌<◌, ◌≤◌, ◌+◌, ◌-◌, ◌^◌, List, length, take, Option}
use Rattle.std.specs.Io.KnownBytes.{Appends, Consumes, IsAtEnd}
use Rattle.streams.specs.Counts.{Counts}
use Rattle.streams.specs.declared.input.TheConstants.{MAX_INPUT_BYTES, MAX_INTERRUPTIONS}

-- the bytes that a reader has left or a writer holds, where known, and the counts of its calls
pub record Stream : Type 0 where
  pub bytes : Option (List ℕ)
  pub calls : ℕ
  pub failures : ℕ
  pub interruptions : ℕ

-- a stream before and after a run
pub record Traffic : Type 0 where
  pub before : Stream
  pub after : Stream

abbrev pub stream : {T : Type 0} → (T → Option (List ℕ)) → Counts T → Stream
stream known c =
    record {
      bytes = known c.inner;
      calls = c.calls;
      failures = c.failures;
      interruptions = c.interruptions;
    }

abbrev pub traffic : {T : Type 0} → (T → Option (List ℕ)) → Counts T → Counts T → Traffic
traffic known old new = record { before = stream known old; after = stream known new }

abbrev pub IsUntouched : Traffic → Type 0
IsUntouched u = u.after ≡ u.before

-- a call failed, or none is passed on any more
abbrev pub HasFailed : Traffic → Type 0
HasFailed u = (u.before.failures < u.after.failures) ⊎ (u.after.calls ≡ 2 ^ 64 - 1)

-- ---- reading

-- these bytes were read: no read failed, and no more were interrupted than are made again
pub record Reads (u : Traffic) (bytes : List ℕ) : Type 0 where
  pub taken : Consumes u.before.bytes u.after.bytes bytes
  pub unfailed : u.after.failures ≡ u.before.failures
  pub again : u.after.interruptions ≤ u.before.interruptions + MAX_INTERRUPTIONS

-- these bytes are the input: all that there were, and no more than are read
pub record IsInput (u : Traffic) (bytes : List ℕ) : Type 0 where
  pub reads : Reads u bytes
  pub all : IsAtEnd u.after.bytes
  pub small : length bytes ≤ MAX_INPUT_BYTES

-- a read failed, or one more was interrupted than are made again
abbrev pub HasFailedReading : Traffic → Type 0
HasFailedReading u =
    HasFailed u ⊎ (u.after.interruptions ≡ u.before.interruptions + MAX_INTERRUPTIONS + 1)

-- ---- writing

-- these bytes were written, and no write failed
pub record Writes (u : Traffic) (bytes : List ℕ) : Type 0 where
  pub given : Appends u.before.bytes u.after.bytes bytes
  pub unfailed : u.after.failures ≡ u.before.failures

-- a write failed, and before it a front of these bytes was written
pub record WritesFront (u : Traffic) (bytes : List ℕ) : Type 0 where
  pub count : ℕ
  pub short : count < length bytes
  pub given : Appends u.before.bytes u.after.bytes (take count bytes)
  pub failed : HasFailed u
