-- The line of each row is that of its number and name.
use Rattle.std.specs.Fmt.{digits}
use Rattle.ticket_items.proofs.refusal.Refusal.row.Goals as goal

pub returns-in-BadId-clause-line : goal.returns-in-BadId-clause-line
unfolding digits
returns-in-BadId-clause-line c = rw c.in-BadId.is c.row.ensures.line

pub returns-in-DuplicateId-clause-line : goal.returns-in-DuplicateId-clause-line
unfolding digits
returns-in-DuplicateId-clause-line c = rw c.in-DuplicateId.is c.row-in-DuplicateId.ensures.line

pub returns-in-UnresolvedLink-clause-line : goal.returns-in-UnresolvedLink-clause-line
unfolding digits
returns-in-UnresolvedLink-clause-line c = rw c.in-UnresolvedLink.is c.row-in-UnresolvedLink.ensures.line

pub returns-in-TooDeep-clause-line : goal.returns-in-TooDeep-clause-line
unfolding digits
returns-in-TooDeep-clause-line c = rw c.in-TooDeep.is c.row-in-TooDeep.ensures.line

pub returns-in-ReservedStatus-clause-line : goal.returns-in-ReservedStatus-clause-line
unfolding digits
returns-in-ReservedStatus-clause-line c = rw c.in-ReservedStatus.is c.row-in-ReservedStatus.ensures.line

pub returns-in-BadText-clause-line : goal.returns-in-BadText-clause-line
unfolding digits
returns-in-BadText-clause-line c = rw c.in-BadText.is c.row-in-BadText.ensures.line

pub returns-in-NotATree-clause-line : goal.returns-in-NotATree-clause-line
unfolding digits
returns-in-NotATree-clause-line c = rw c.in-NotATree.is c.row-in-NotATree.ensures.line

pub returns-in-UnknownNode-clause-line : goal.returns-in-UnknownNode-clause-line
unfolding digits
returns-in-UnknownNode-clause-line c = rw c.in-UnknownNode.is c.row-in-UnknownNode.ensures.line

pub returns-in-UnknownResource-clause-line : goal.returns-in-UnknownResource-clause-line
unfolding digits
returns-in-UnknownResource-clause-line c = rw c.in-UnknownResource.is c.row-in-UnknownResource.ensures.line

pub returns-in-NotHeld-clause-line : goal.returns-in-NotHeld-clause-line
unfolding digits
returns-in-NotHeld-clause-line c = rw c.in-NotHeld.is c.row-in-NotHeld.ensures.line

pub returns-in-IsRoot-clause-line : goal.returns-in-IsRoot-clause-line
unfolding digits
returns-in-IsRoot-clause-line c = rw c.in-IsRoot.is c.row-in-IsRoot.ensures.line

pub returns-in-NotLinked-clause-line : goal.returns-in-NotLinked-clause-line
unfolding digits
returns-in-NotLinked-clause-line c = rw c.in-NotLinked.is c.row-in-NotLinked.ensures.line

pub returns-in-UnknownWorker-clause-line : goal.returns-in-UnknownWorker-clause-line
unfolding digits
returns-in-UnknownWorker-clause-line c = rw c.in-UnknownWorker.is c.row-in-UnknownWorker.ensures.line

pub returns-in-NotOut-clause-line : goal.returns-in-NotOut-clause-line
unfolding digits
returns-in-NotOut-clause-line c = rw c.in-NotOut.is c.row-in-NotOut.ensures.line

pub returns-in-TooManySpawns-clause-line : goal.returns-in-TooManySpawns-clause-line
unfolding digits
returns-in-TooManySpawns-clause-line c = rw c.in-TooManySpawns.is c.row-in-TooManySpawns.ensures.line

pub returns-in-SameName-clause-line : goal.returns-in-SameName-clause-line
unfolding digits
returns-in-SameName-clause-line c = rw c.in-SameName.is c.row-in-SameName.ensures.line

pub returns-in-UnknownSpawn-clause-line : goal.returns-in-UnknownSpawn-clause-line
unfolding digits
returns-in-UnknownSpawn-clause-line c = rw c.in-UnknownSpawn.is c.row-in-UnknownSpawn.ensures.line

pub returns-in-WrongSender-clause-line : goal.returns-in-WrongSender-clause-line
unfolding digits
returns-in-WrongSender-clause-line c = rw c.in-WrongSender.is c.row-in-WrongSender.ensures.line

pub returns-in-WrongShape-clause-line : goal.returns-in-WrongShape-clause-line
unfolding digits
returns-in-WrongShape-clause-line c = rw c.in-WrongShape.is c.row-in-WrongShape.ensures.line

pub returns-in-UnknownEntry-clause-line : goal.returns-in-UnknownEntry-clause-line
unfolding digits
returns-in-UnknownEntry-clause-line c = rw c.in-UnknownEntry.is c.row-in-UnknownEntry.ensures.line

pub returns-in-NotOpen-clause-line : goal.returns-in-NotOpen-clause-line
unfolding digits
returns-in-NotOpen-clause-line c = rw c.in-NotOpen.is c.row-in-NotOpen.ensures.line

pub returns-in-ReadOnly-clause-line : goal.returns-in-ReadOnly-clause-line
unfolding digits
returns-in-ReadOnly-clause-line c = rw c.in-ReadOnly.is c.row-in-ReadOnly.ensures.line

pub returns-in-NotInPart-clause-line : goal.returns-in-NotInPart-clause-line
unfolding digits
returns-in-NotInPart-clause-line c = rw c.in-NotInPart.is c.row-in-NotInPart.ensures.line

pub returns-in-NotForWorkers-clause-line : goal.returns-in-NotForWorkers-clause-line
unfolding digits
returns-in-NotForWorkers-clause-line c = rw c.in-NotForWorkers.is c.row-in-NotForWorkers.ensures.line

pub returns-in-NotDone-clause-line : goal.returns-in-NotDone-clause-line
unfolding digits
returns-in-NotDone-clause-line c = rw c.in-NotDone.is c.row-in-NotDone.ensures.line

pub returns-in-BadPart-clause-line : goal.returns-in-BadPart-clause-line
unfolding digits
returns-in-BadPart-clause-line c = rw c.in-BadPart.is c.row-in-BadPart.ensures.line

pub returns-in-Acknowledged-clause-line : goal.returns-in-Acknowledged-clause-line
unfolding digits
returns-in-Acknowledged-clause-line c = rw c.in-Acknowledged.is c.row-in-Acknowledged.ensures.line

pub returns-in-Declined-clause-line : goal.returns-in-Declined-clause-line
unfolding digits
returns-in-Declined-clause-line c = rw c.in-Declined.is c.row-in-Declined.ensures.line

pub returns-in-NotJson-clause-line : goal.returns-in-NotJson-clause-line
unfolding digits
returns-in-NotJson-clause-line c = rw c.in-NotJson.is c.row-in-NotJson.ensures.line

pub returns-in-NotProfile-clause-line : goal.returns-in-NotProfile-clause-line
unfolding digits
returns-in-NotProfile-clause-line c = rw c.in-NotProfile.is c.row-in-NotProfile.ensures.line

pub returns-in-WrongMessage-clause-line : goal.returns-in-WrongMessage-clause-line
unfolding digits
returns-in-WrongMessage-clause-line c = rw c.in-WrongMessage.is c.row-in-WrongMessage.ensures.line

pub returns-in-WrongVersion-clause-line : goal.returns-in-WrongVersion-clause-line
unfolding digits
returns-in-WrongVersion-clause-line c = rw c.in-WrongVersion.is c.row-in-WrongVersion.ensures.line

pub returns-in-BadState-clause-line : goal.returns-in-BadState-clause-line
unfolding digits
returns-in-BadState-clause-line c = rw c.in-BadState.is c.row-in-BadState.ensures.line

pub returns-in-Memory-clause-line : goal.returns-in-Memory-clause-line
unfolding digits
returns-in-Memory-clause-line c = rw c.in-Memory.is c.row-in-Memory.ensures.line
