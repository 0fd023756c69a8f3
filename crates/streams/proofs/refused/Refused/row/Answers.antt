-- The line of each row is that of its number and name.
use Rattle.std.specs.Fmt.{digits}
use Rattle.streams.proofs.refused.Refused.row.Goals as goal

pub returns-in-BadHead-clause-line : goal.returns-in-BadHead-clause-line
unfolding digits
returns-in-BadHead-clause-line c = rw c.in-BadHead.is c.row-in-BadHead.ensures.line

pub returns-in-NotPost-clause-line : goal.returns-in-NotPost-clause-line
unfolding digits
returns-in-NotPost-clause-line c = rw c.in-NotPost.is c.row-in-NotPost.ensures.line

pub returns-in-NoLength-clause-line : goal.returns-in-NoLength-clause-line
unfolding digits
returns-in-NoLength-clause-line c = rw c.in-NoLength.is c.row-in-NoLength.ensures.line

pub returns-in-TooLarge-clause-line : goal.returns-in-TooLarge-clause-line
unfolding digits
returns-in-TooLarge-clause-line c = rw c.in-TooLarge.is c.row-in-TooLarge.ensures.line

pub returns-in-CutShort-clause-line : goal.returns-in-CutShort-clause-line
unfolding digits
returns-in-CutShort-clause-line c = rw c.in-CutShort.is c.row-in-CutShort.ensures.line

pub returns-in-ReadFailed-clause-line : goal.returns-in-ReadFailed-clause-line
unfolding digits
returns-in-ReadFailed-clause-line c = rw c.in-ReadFailed.is c.row-in-ReadFailed.ensures.line

pub returns-in-WriteFailed-clause-line : goal.returns-in-WriteFailed-clause-line
unfolding digits
returns-in-WriteFailed-clause-line c = rw c.in-WriteFailed.is c.row-in-WriteFailed.ensures.line

pub returns-in-SaveFailed-clause-line : goal.returns-in-SaveFailed-clause-line
unfolding digits
returns-in-SaveFailed-clause-line c = rw c.in-SaveFailed.is c.row-in-SaveFailed.ensures.line

pub returns-in-Stale-clause-line : goal.returns-in-Stale-clause-line
unfolding digits
returns-in-Stale-clause-line c = rw c.in-Stale.is c.row-in-Stale.ensures.line

pub returns-in-LoadFailed-clause-line : goal.returns-in-LoadFailed-clause-line
unfolding digits
returns-in-LoadFailed-clause-line c = rw c.in-LoadFailed.is c.row-in-LoadFailed.ensures.line

pub returns-in-Coding-clause-line : goal.returns-in-Coding-clause-line
unfolding digits
returns-in-Coding-clause-line c = rw c.in-Coding.is c.row-in-Coding.ensures.line

pub returns-in-NoConnection-clause-line : goal.returns-in-NoConnection-clause-line
unfolding digits
returns-in-NoConnection-clause-line c = rw c.in-NoConnection.is c.row-in-NoConnection.ensures.line

pub returns-in-OtherName-clause-line : goal.returns-in-OtherName-clause-line
unfolding digits
returns-in-OtherName-clause-line c = rw c.in-OtherName.is c.row-in-OtherName.ensures.line

pub returns-in-Forbidden-clause-line : goal.returns-in-Forbidden-clause-line
unfolding digits
returns-in-Forbidden-clause-line c = rw c.in-Forbidden.is c.row-in-Forbidden.ensures.line
