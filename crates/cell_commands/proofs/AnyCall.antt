-- Why any call on a cell gives up, before it begins.
use Rattle.std.proofs.Common.{inl, inr, refl}
use Rattle.jdf_words.specs.declared.kept_call.KeptCall.{KeptCall}
use Rattle.jdf_words.specs.declared.kept_call.KeptCall.TheVariants.{List as Listing, New, Order, Show, Take}
use Rattle.streams.specs.Streams.{IsUntouched, Traffic}
use Rattle.cell_commands.specs.Calls.{IsFaultInCell}
use Rattle.cell_commands.specs.Faults.{out_of_memory}

-- memory ran out
pub memory_called : (call : KeptCall) (input : Traffic) → IsUntouched input → IsFaultInCell call input out_of_memory
memory_called New input same = inl (same, inr (inr refl))
memory_called (Order at) input same = inl (same, inr refl)
memory_called (Take at) input same = inl (same, inr refl)
memory_called (Show picture at) input same = (same, inr (inl refl))
memory_called (Listing at is_open is_json) input same = (same, inr (inl refl))
