use Rattle.std.proofs.Common.{take}
use Rattle.file_commands.proofs.ListedFiles.{IsListed}
use Rattle.file_commands.proofs.listing.files_list.Given as goal

abbrev pub invariant-loop-file : goal.invariant-loop-file
invariant-loop-file g l = IsListed l.asked (take l.file-index l.files) l.listed
