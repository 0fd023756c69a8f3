-- The lines that `serve` appends to its journal, of the steps by orders that come over its local
-- socket: one of each order that was taken, if it has a name.
use Rattle.std.specs.Prelude.{◌≡◌, ◌≢◌, ◌⊎◌, ⊤, ℕ, Bool, true, false, List, [], ◌∷◌, map}
use Rattle.std.specs.Prelude.{Option, Some, None, Ok, String, string_bytes}
use Rattle.std.specs.declared.alloc.Global.{Global}
use Rattle.std.specs.Option.{option_map}
use Rattle.std.specs.List.{AllZip, flat_map, zip}
use Rattle.ticket_items.specs.declared.refusal.Refusal.{Refusal}
use Rattle.ticket_items.specs.declared.refusal.Refusal.TheVariants.{Memory}
use Rattle.world_items.specs.declared.reply.Reply.{Reply}
use Rattle.json_profile.specs.ReadAs.{IsReadAs, IsRefusalOf}
use Rattle.keepers.specs.SystemFile.{count, file_bytes, is_honest, keep_in_file, load_fails, place}
use Rattle.keepers.specs.SystemFile.{save_fails}
use Rattle.journal.specs.Journal.{IsLeft, Misses}
use Rattle.journal.specs.Line.{told_line}
use Rattle.journal.specs.What.{order_named}
use Rattle.mio.specs.declared.net.uds.stream.UnixStream.{UnixStream}
use Rattle.rounds.specs.Line.{AreToldNone, TellsLine, comings_of, waiting_of}
use Rattle.rounds.specs.Orders.{HasReply}
use Rattle.rounds.specs.declared.errand.Errand.{Errand}
use Rattle.rounds.specs.declared.orders.AnsweredOperator.{AnsweredOperator}
use Rattle.stored_state.specs.Addressee.{name_of}
use Rattle.stored_state.specs.declared.addressee.Addressee.{Addressee}
use Rattle.stored_state.specs.declared.any_controller.AnyController.{AnyController}
use Rattle.stored_state.specs.declared.coming.Coming.{Coming}
use Rattle.stored_state.specs.declared.coming.Coming.TheVariants as comings
use Rattle.server_steps.specs.InEtcd as etcd
use Rattle.server_steps.specs.InEtcd.{EtcdKeep, IsKeepAt}
use Rattle.server_steps.specs.Journaled.{AreJournaled}
use Rattle.server_steps.specs.declared.order_steps.OrdersResult.{OrdersResult}
use Rattle.server_steps.specs.declared.order_steps.OrdersResult.TheVariants.{LockedOut, Told}

-- ---- the steps of one turn

-- the name of what comes, as a line tells it: of an order what stands under `Order`; what is none, or
-- has nothing there, has none
abbrev pub IsNameOf : Coming → Option (List ℕ) → Type 0
IsNameOf (comings.Order text) (Some word) = IsReadAs order_named text.items (Ok word)
IsNameOf (comings.Order text) None =
    (e : Refusal) × (e ≢ Memory) × IsRefusalOf order_named text.items e
IsNameOf x (Some word) = ⊥
IsNameOf x None = ⊤

-- the same as it is kept while the step is made
abbrev pub kept_name : Option (String Global) → Option (List ℕ)
kept_name word = option_map string_bytes word

-- the line of the step of the controller of a name, at a time, by an order of this name, which was
-- replied to so; none of one without a name, or that was refused. Who gave it isn't known
abbrev pub order_line : List ℕ → ℕ → Option (List ℕ) → Option Reply → List ℕ
order_line name at (Some word) (Some reply) = told_line None name reply at word
order_line name at word reply = []

-- the lines of all, one after the other
abbrev pub order_lines : List ℕ → ℕ → List (Option (List ℕ)) → List (Option Reply) → List ℕ
order_lines name at words replies = flat_map (λ p. order_line name at p.0 p.1) (zip words replies)

-- what was replied to one who gave an order, if that was taken
abbrev pub reply_in : {S : Type 0} → AnsweredOperator S → Option Reply
reply_in o = o.reply

-- ---- in the journal

-- those of the steps by these orders, by which a controller is as it was saved, are in a journal, or
-- are missed; none where none was saved
abbrev pub OrdersJournaled : {J : Type 0} → (J → List ℕ) → (J → Bool) → ℕ → List Coming
    → List (Option Reply) → Option AnyController → J → J → Type 0
OrdersJournaled file_bytes is_missed at all replies None old new =
    IsLeft file_bytes is_missed old new
OrdersJournaled file_bytes is_missed at all replies (Some c) old new =
    ((words : List (Option (List ℕ))) × AllZip IsNameOf all words
    × AreJournaled file_bytes is_missed (order_lines (name_of c) at words replies) old new)
    ⊎ Misses file_bytes is_missed old new

-- those who gave orders are told what comes of the steps by them, at a time, of the controller that a
-- keeper holds, and their lines are in the journal; or each order is refused, with a status of 503,
-- and the journal is left
abbrev pub OrdersKeepJournal : {S K J : Type 0} → (K → Bool) → (file_bytes place : K → List ℕ)
    → (K → ℕ) → (K → K → Type 0) → (K → List ℕ → K → Type 0) → (J → List ℕ) → (J → Bool) → K
    → Addressee → ℕ → List (Errand S) → List (AnsweredOperator S) → Option AnyController → J → J
    → Type 0
OrdersKeepJournal {K = K} honest file_bytes place count loads saves told missed keep to now es os c old new =
    ((at : ℕ) × (after : K)
    × TellsLine (HasReply now) honest file_bytes place count loads saves to at keep after es os c
    × OrdersJournaled told missed at (comings_of es) (map reply_in os) c old new)
    ⊎ (AreToldNone (HasReply now) (waiting_of es) os × IsLeft told missed old new)

-- the same of those who gave orders for the controller at a path, in its file or under its key; where
-- somebody else has the file locked the journal is left
abbrev pub OrdersJournalAt : {J : Type 0} → (R : Type 0) → Bool → (J → List ℕ) → (J → Bool)
    → List ℕ → Addressee → ℕ → List (Errand UnixStream) → J → J → OrdersResult → Type 0
OrdersJournalAt R true told missed path to now orders old new (Told answered saved) =
    ((keep : EtcdKeep R) × IsKeepAt path keep
    × OrdersKeepJournal etcd.is_honest etcd.value_bytes etcd.place etcd.count etcd.load_fails
    etcd.save_fails told missed keep to now orders answered.items saved old new)
    ⊎ (AreToldNone (HasReply now) (waiting_of orders) answered.items × IsLeft told missed old new)
OrdersJournalAt R false told missed path to now orders old new (Told answered saved) =
    OrdersKeepJournal is_honest file_bytes place count load_fails save_fails told missed
    (keep_in_file path) to now orders answered.items saved old new
OrdersJournalAt R in_etcd told missed path to now orders old new (LockedOut left last) =
    IsLeft told missed old new
