-- The number and the name of each refusal, its line, and the spawn that one tells of.
use Rattle.std.specs.Prelude.{ℕ, List, [], ◌∷◌, ◌++◌, codes, decimal, Option, Some, None}
use Rattle.ticket_items.specs.declared.refusal.Refusal.{Refusal}
use Rattle.ticket_items.specs.declared.refusal.Refusal.TheVariants as refusals

-- the table: of each its number and its name
abbrev pub row_of : Refusal → ℕ × List ℕ
row_of refusals.BadId = (1, codes "BadId")
row_of refusals.DuplicateId = (2, codes "DuplicateId")
row_of refusals.UnresolvedLink = (3, codes "UnresolvedLink")
row_of refusals.TooDeep = (4, codes "TooDeep")
row_of refusals.ReservedStatus = (5, codes "ReservedStatus")
row_of refusals.BadText = (6, codes "BadText")
row_of refusals.NotATree = (7, codes "NotATree")
row_of refusals.UnknownNode = (10, codes "UnknownNode")
row_of refusals.UnknownResource = (11, codes "UnknownResource")
row_of (refusals.NotHeld s) = (12, codes "NotHeld")
row_of refusals.IsRoot = (13, codes "IsRoot")
row_of refusals.NotLinked = (14, codes "NotLinked")
row_of refusals.UnknownWorker = (15, codes "UnknownWorker")
row_of refusals.NotOut = (16, codes "NotOut")
row_of refusals.TooManySpawns = (17, codes "TooManySpawns")
row_of refusals.SameName = (18, codes "SameName")
row_of refusals.UnknownSpawn = (20, codes "UnknownSpawn")
row_of refusals.WrongSender = (21, codes "WrongSender")
row_of refusals.WrongShape = (22, codes "WrongShape")
row_of refusals.UnknownEntry = (30, codes "UnknownEntry")
row_of refusals.NotOpen = (31, codes "NotOpen")
row_of refusals.ReadOnly = (32, codes "ReadOnly")
row_of refusals.NotInPart = (33, codes "NotInPart")
row_of refusals.NotForWorkers = (34, codes "NotForWorkers")
row_of refusals.NotDone = (35, codes "NotDone")
row_of refusals.BadPart = (36, codes "BadPart")
row_of refusals.Acknowledged = (37, codes "Acknowledged")
row_of refusals.Declined = (38, codes "Declined")
row_of refusals.NotJson = (40, codes "NotJson")
row_of refusals.NotProfile = (41, codes "NotProfile")
row_of refusals.WrongMessage = (45, codes "WrongMessage")
row_of refusals.WrongVersion = (46, codes "WrongVersion")
row_of refusals.BadState = (47, codes "BadState")
row_of refusals.Memory = (90, codes "Memory")

abbrev pub number_of : Refusal → ℕ
number_of e = (row_of e).0

abbrev pub name_of : Refusal → List ℕ
name_of e = (row_of e).1

-- the line of a number and a name, and so of a refusal
abbrev pub line_of : ℕ → List ℕ → List ℕ
line_of number name = codes "Refused " ++ decimal number ++ codes " " ++ name ++ 10 ∷ []

abbrev pub refusal_line : Refusal → List ℕ
refusal_line e = line_of (number_of e) (name_of e)

-- the spawn that holds what was to be changed or spawned
abbrev pub holder_of : Refusal → Option ℕ
holder_of (refusals.NotHeld s) = Some s
holder_of _ = None
