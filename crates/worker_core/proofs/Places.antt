-- What is found at the place of an entry.
use Rattle.std.proofs.Common.{◌≡◌, ℕ, List, Some, None, sym, ap, ◌∙◌, get_or}
use Rattle.std.specs.List.{position}
use Rattle.std.specs.Option.{option_map_or}
use Rattle.ticket_items.proofs.Places.{none_at_position}
use Rattle.ticket_items.specs.declared.refusal.Refusal.TheVariants.{UnknownEntry}
use Rattle.worker_core.proofs.AtNumber.{found_there}
use Rattle.worker_core.proofs.Kept.{number_of}
use Rattle.worker_core.proofs.Refusals.{refused_on}
use Rattle.worker_core.specs.Orders.{entry_refusal, order_refusal, spawn_of_order}
use Rattle.worker_core.specs.Worker.{entry_of, is_of}
use Rattle.worker_core.specs.declared.entry.Entry.{Entry}
use Rattle.world_items.specs.declared.worker_order.Order.{Order}

-- an order that is about no entry
pub missing : (o : Order) (entries : List Entry) (s : ℕ) → s ≡ spawn_of_order o → position (is_of s) entries ≡ None → order_refusal o entries ≡ Some UnknownEntry
missing o entries s same none =
    ap (λ f. option_map_or (entry_refusal o) f (Some UnknownEntry)) (ap (entry_of entries) (sym same) ∙ none_at_position (is_of s) entries none)

-- an order on the entry at a place
pub refused_at : (o : Order) (entries : List Entry) (s k : ℕ) (e : Entry) → s ≡ spawn_of_order o → position (is_of s) entries ≡ Some k → e ≡ get_or entries k e → order_refusal o entries ≡ entry_refusal o e
refused_at o entries s k e same found is = refused_on o entries e (ap (entry_of entries) (sym same) ∙ found_there number_of s entries k e found is)
