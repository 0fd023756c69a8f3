-- The steps that give a spawn up, in the words of what comes of them.
use Rattle.std.proofs.Common.{◌≡◌, ℕ, true, List, [], ◌∷◌, ◌++◌, Some, None, sym, ap, ◌∙◌, get_or, slice_set}
use Rattle.std.specs.List.{position}
use Rattle.std.specs.Option.{option_map_or}
use Rattle.ticket_items.proofs.Places.{none_at_position}
use Rattle.worker_core.proofs.AtNumber.{found_there, write_at_number}
use Rattle.worker_core.proofs.Kept.{number_of}
use Rattle.worker_core.specs.Messages.{abort_taking, aborted_entry, decline_taking, on_abort}
use Rattle.worker_core.specs.Numbers.{are_distinct_numbers}
use Rattle.worker_core.specs.Worker.{declined_entry, is_of, numbers, state}
use Rattle.worker_core.specs.declared.entry.Entry.{Entry}

-- the entries with the one that was found as it is to be given up
pub given_up : (name master : List ℕ) (s at : ℕ) (entries : List Entry) (k : ℕ) (x : Entry) → are_distinct_numbers (numbers entries) ≡ true → position (is_of s) entries ≡ Some k → x ≡ get_or entries k x
    → state name master (slice_set entries k (aborted_entry at x)) ≡ (on_abort s at (state name master entries)).next
given_up name master s at entries k x once here is =
    let w = state name master entries in
    ap (state name master) (write_at_number number_of s (aborted_entry at) entries k x once here is)
    ∙ sym (ap (λ o. (option_map_or (abort_taking s at w) o (decline_taking s at w)).next) (found_there number_of s entries k x here is))

-- and where none was found, with one that is declined
pub declined_behind : (name master : List ℕ) (s at : ℕ) (entries : List Entry) → position (is_of s) entries ≡ None → state name master (entries ++ declined_entry s at ∷ []) ≡ (on_abort s at (state name master entries)).next
declined_behind name master s at entries none =
    let w = state name master entries in
    sym (ap (λ o. (option_map_or (abort_taking s at w) o (decline_taking s at w)).next) (none_at_position (is_of s) entries none))
