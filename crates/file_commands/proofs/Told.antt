-- How a fault of a call on the controller in a file is told.
use Rattle.std.proofs.Common.{◌≡◌, refl}
use Rattle.jdf_words.specs.declared.kept_call.KeptCall.{KeptCall}
use Rattle.jdf_words.specs.declared.kept_call.KeptCall.TheVariants.{List as Listing, New, Order, Show, Take}
use Rattle.streams.specs.Ends.{Tells}
use Rattle.streams.specs.Streams.{Traffic}
use Rattle.streams.specs.declared.fault.Fault.{Fault}
use Rattle.file_commands.specs.Ends.{TellsInFile}

-- of any but `list`, alone
pub told_alone : (call : KeptCall) (fault : Fault) (told : Traffic) → ((at : _) (is_open : _) (is_json : _) → call ≡ Listing at is_open is_json → ⊥) → Tells fault told → TellsInFile call fault told
told_alone New f t lists tells = tells
told_alone (Order at) f t lists tells = tells
told_alone (Take at) f t lists tells = tells
told_alone (Show picture at) f t lists tells = tells
told_alone (Listing at is_open is_json) f t lists tells = absurd (lists at is_open is_json refl)
