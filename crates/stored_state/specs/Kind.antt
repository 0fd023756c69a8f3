-- What the controller is whose state JSON data is.
use Rattle.std.specs.Prelude.{Bool, true, false, codes, is_some, Result, Ok, Err}
use Rattle.serde_json.specs.Data.{Data}
use Rattle.serde_json.specs.Find.{get}
use Rattle.ticket_items.specs.declared.refusal.Refusal.{Refusal}
use Rattle.ticket_items.specs.declared.refusal.Refusal.TheVariants.{NotProfile}
use Rattle.stored_state.specs.declared.kind.Kind.{Kind}
use Rattle.stored_state.specs.declared.kind.Kind.TheVariants as kinds

-- the kind of which alone there is a member, the master's or the worker's
abbrev pub only_kind : Bool → Bool → Result Kind Refusal
only_kind true false = Ok kinds.Master
only_kind false true = Ok kinds.Worker
only_kind master worker = Err NotProfile

-- the kind that the members of data tell
abbrev pub kind_in : Data → Result Kind Refusal
kind_in d = only_kind (is_some (get (codes "Master") d)) (is_some (get (codes "Worker") d))
