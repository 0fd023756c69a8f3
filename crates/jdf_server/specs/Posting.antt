-- What goes out by itself: what is to be done for it, in whose line that stands, and how it ends.
use Rattle.std.specs.Prelude.{◌≡◌, ℕ, Bool, true, false, List, Option, Some, None, Result, Ok, Err, is_ok, slice_get, string_bytes}
use Rattle.std.specs.HashMap.{get_by_text}
use Rattle.std.specs.Option.{option_map, option_map_or}
use Rattle.ticket_items.specs.declared.refusal.Refusal.{Refusal}
use Rattle.deliveries.specs.Ledger.{Ledger}
use Rattle.deliveries.specs.declared.flight.Flight.{Flight}
use Rattle.stored_state.specs.declared.coming.Coming.{Coming}
use Rattle.stored_state.specs.declared.coming.Coming.TheVariants as comings
use Rattle.stored_state.specs.declared.taken_bytes.TakenBytes.{TakenBytes}
use Rattle.shop_folder.specs.declared.owner.Owner.{Owner}
use Rattle.shop_folder.specs.declared.owner.Owner.TheVariants.{Any}
use Rattle.server_steps.specs.declared.watched.ControllerViews.{ControllerViews}
use Rattle.server_post.specs.declared.own.Own.{Own}
use Rattle.server_post.specs.declared.own.Task.{Task}
use Rattle.server_post.specs.declared.own.Task.TheVariants.{Send, Take}
use Rattle.server_post.specs.declared.post.Post.{Post}
use Rattle.jdf_server.specs.Flights.{EndsFlight, FailsFlight, SettlesFlight, WithdrawsFlight}
use Rattle.jdf_server.specs.Lines.{ChangesLine, with_own}
use Rattle.jdf_server.specs.declared.posting.Mark.{Mark}
use Rattle.jdf_server.specs.declared.server.Server.{Server}

-- ---- what is to be done

-- whether the answer of another house is to be taken, and the refusal that this tells of, if it does
abbrev pub is_answer : Task → Bool
is_answer (Send text) = false
is_answer (Take m refusal) = true

abbrev pub refusal_in : Task → Option ℕ
refusal_in (Send text) = None
refusal_in (Take m refusal) = refusal

-- what its controller is told
abbrev pub coming_in : Task → Coming
coming_in (Send text) = comings.Order text
coming_in (Take m refusal) = comings.Message m

-- what is kept of something to be done meanwhile
abbrev pub mark_of : Own → Mark
mark_of own =
    record {
      parcel = own.parcel;
      is_answer = is_answer own.task;
      refusal = refusal_in own.task;
      until = own.until;
    }

-- the step of which its controller is told this, where it is one
abbrev pub task_of : Option ℕ → Coming → Option Task
task_of refusal (comings.Order text) = Some (Send text)
task_of refusal (comings.Message m) = Some (Take m refusal)
task_of refusal (comings.Neither e) = None

-- ---- in whose line it stands

-- the path of the file of the controller of a number
abbrev pub path_at : ControllerViews → ℕ → Option (List ℕ)
path_at watched number =
    option_map (λ entry. string_bytes entry.0) (slice_get watched.controllers.entries number)

-- the controller in the file of a path, as it is known
abbrev pub owner_at : ControllerViews → List ℕ → Owner
owner_at watched path = option_map_or (λ seat. seat.owner) (get_by_text watched.controllers path) Any

-- something to be done stands last in the line of this path, and all else is as it was
abbrev pub JoinsOwn : {R F : Type 0} → List ℕ → Own → (old new : Server R F) → Type 0
JoinsOwn path own old new =
    ChangesLine path (owner_at old.watched path) (with_own own) old.lines new.lines
    × (new.post ≡ old.post)

-- what is in flight is to be sent by the controller in the file of this path; it is withdrawn where
-- there is none
abbrev pub IsDispatched : {R F : Type 0} → ℕ → Option (List ℕ) → (old new : Server R F) → Type 0
IsDispatched line (Some path) old new = (own : Own) × JoinsOwn path own old new
IsDispatched line None old new =
    (new.lines ≡ old.lines) × EndsFlight WithdrawsFlight line old.post new.post

-- ---- how it ends

-- whether a step was made and accepted
abbrev pub is_taken : Result TakenBytes Refusal → Bool
is_taken (Ok taken) = is_ok taken.reply
is_taken (Err e) = false

-- an answer that its controller takes settles what is in flight; where it doesn't, that failed
abbrev pub AnswersFlight : ℕ → Option ℕ → Bool → ℕ → Ledger → Ledger → Type 0
AnswersFlight now refusal true line old new = SettlesFlight now refusal line old new
AnswersFlight now refusal false line old new = FailsFlight now line old new

-- where no step was made what was to be sent failed, and where that gave nothing out it is withdrawn
abbrev pub IsUnsent : ℕ → Result TakenBytes Refusal → ℕ → (old new : Option Post) → Type 0
IsUnsent now (Err e) line old new = EndsFlight (FailsFlight now) line old new
IsUnsent now (Ok taken) line old new =
    taken.answer ≡ None → EndsFlight WithdrawsFlight line old new
