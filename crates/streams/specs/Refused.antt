-- The number and the name of each refusal of a call over bytes, files or connections.
use Rattle.std.specs.Prelude.{ℕ, List, codes}
use Rattle.ticket_items.specs.Refusal as core
use Rattle.streams.specs.declared.refused.Refused.{Refused}
use Rattle.streams.specs.declared.refused.Refused.TheVariants as refusals

-- the table: of each its number and its name
abbrev pub row_of : Refused → ℕ × List ℕ
row_of (refusals.Core e) = core.row_of e
row_of refusals.BadHead = (50, codes "BadHead")
row_of refusals.NotPost = (51, codes "NotPost")
row_of refusals.NoLength = (52, codes "NoLength")
row_of refusals.TooLarge = (53, codes "TooLarge")
row_of refusals.CutShort = (54, codes "CutShort")
row_of refusals.ReadFailed = (55, codes "ReadFailed")
row_of refusals.WriteFailed = (56, codes "WriteFailed")
row_of refusals.SaveFailed = (57, codes "SaveFailed")
row_of refusals.Stale = (58, codes "Stale")
row_of refusals.LoadFailed = (59, codes "LoadFailed")
row_of refusals.Coding = (60, codes "Coding")
row_of refusals.NoConnection = (61, codes "NoConnection")
row_of refusals.OtherName = (62, codes "OtherName")
row_of refusals.Forbidden = (63, codes "Forbidden")

abbrev pub number_of : Refused → ℕ
number_of e = (row_of e).0

abbrev pub name_of : Refused → List ℕ
name_of e = (row_of e).1

-- the line that tells it
abbrev pub refused_line : Refused → List ℕ
refused_line e = core.line_of (number_of e) (name_of e)
