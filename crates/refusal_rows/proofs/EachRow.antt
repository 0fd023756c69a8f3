-- Each refusal has its row.
use Rattle.std.proofs.Common.{◌≡◌, decimal, length, refl, take}
use Rattle.std.specs.Fmt.{digits}
use Rattle.std.specs.Prelude.{IsSomeAnd}
use Rattle.streams.specs.Refused.{number_of}
use Rattle.streams.specs.declared.refused.Refused.{Refused}
use Rattle.streams.specs.declared.refused.Refused.TheVariants.{Core, BadHead, NotPost, NoLength, TooLarge, CutShort, ReadFailed, WriteFailed, SaveFailed, Stale, LoadFailed, Coding, NoConnection, OtherName, Forbidden}
use Rattle.ticket_items.specs.declared.refusal.Refusal.{Refusal}
use Rattle.ticket_items.specs.declared.refusal.Refusal.TheVariants.{BadId, DuplicateId, UnresolvedLink, TooDeep, ReservedStatus, BadText, NotATree, UnknownNode, UnknownResource, NotHeld, IsRoot, NotLinked, UnknownWorker, NotOut, TooManySpawns, SameName, UnknownSpawn, WrongSender, WrongShape, UnknownEntry, NotOpen, ReadOnly, NotInPart, NotForWorkers, NotDone, BadPart, Acknowledged, Declined, NotJson, NotProfile, WrongMessage, WrongVersion, BadState, Memory}
use Rattle.refusal_rows.specs.Rows.{text_of}
use Rattle.refusal_rows.specs.Laws.{EachHasItsRow, first_line}

-- the text under its number begins with its first line
abbrev HasItsRow : Refused → Type 0
HasItsRow refused = IsSomeAnd (text_of (decimal (number_of refused))) (λ text. take (length (first_line refused)) text ≡ first_line refused)

of_core : (refusal : Refusal) → HasItsRow (Core refusal)
unfolding digits
of_core BadId = refl
of_core DuplicateId = refl
of_core UnresolvedLink = refl
of_core TooDeep = refl
of_core ReservedStatus = refl
of_core BadText = refl
of_core NotATree = refl
of_core UnknownNode = refl
of_core UnknownResource = refl
of_core (NotHeld spawn) = refl
of_core IsRoot = refl
of_core NotLinked = refl
of_core UnknownWorker = refl
of_core NotOut = refl
of_core TooManySpawns = refl
of_core SameName = refl
of_core UnknownSpawn = refl
of_core WrongSender = refl
of_core WrongShape = refl
of_core UnknownEntry = refl
of_core NotOpen = refl
of_core ReadOnly = refl
of_core NotInPart = refl
of_core NotForWorkers = refl
of_core NotDone = refl
of_core BadPart = refl
of_core Acknowledged = refl
of_core Declined = refl
of_core NotJson = refl
of_core NotProfile = refl
of_core WrongMessage = refl
of_core WrongVersion = refl
of_core BadState = refl
of_core Memory = refl

pub each : EachHasItsRow
unfolding digits
each (Core refusal) = of_core refusal
each BadHead = refl
each NotPost = refl
each NoLength = refl
each TooLarge = refl
each CutShort = refl
each ReadFailed = refl
each WriteFailed = refl
each SaveFailed = refl
each Stale = refl
each LoadFailed = refl
each Coding = refl
each NoConnection = refl
each OtherName = refl
each Forbidden = refl
