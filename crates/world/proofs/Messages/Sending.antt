-- What is sent beside messages that are in order: it is in order, and is the same as what gave its command before.
use Rattle.std.proofs.Common.{◌≡◌, ◌⊎◌, inl, inr, ℕ, true, false, List, [], ◌∷◌, ◌++◌, Option, Some, None, Result, IfSome, IsSomeAnd, is_ok, is_some, refl, sym, ap, ◌∙◌, subst}
use Rattle.std.proofs.lemmas.Bool.{true≢false}
use Rattle.std.specs.Option.{option_map}
use Rattle.std.proofs.lemmas.List.Elements.{All-contains, All-push, Contains-push_cases}
use Rattle.std.specs.List.{All, Contains}
use Rattle.std.specs.Prelude.{⊤}
use Rattle.ticket_items.proofs.Places.{same_found}
use Rattle.controller.specs.Reply.{answer_to, command_given, spawn_in}
use Rattle.controller.specs.declared.body.Body.{Body}
use Rattle.controller.specs.declared.body.Body.TheVariants.{Submit, Return, Abort, Answer}
use Rattle.controller.specs.declared.message.Message.{Message}
use Rattle.controller.specs.declared.queue_status.QueueStatus.{QueueStatus}
use Rattle.ticket_tree.specs.Part.{PartCopy}
use Rattle.spawn.specs.Records.{is_out}
use Rattle.spawn.specs.declared.records.spawn_rec.SpawnRec.{SpawnRec}
use Rattle.master_core.specs.Master.{record_of}
use Rattle.worker_core.specs.Orders.{part_return, return_of}
use Rattle.worker_core.specs.declared.entry.Entry.{Entry}
use Rattle.world.proofs.Worker.Stored.{and_found, found_and}
use Rattle.world.specs.Controllers.{Controllers}
use Rattle.world.specs.Messages.{AreInOrder, GiveOneCommand, HasEnded, IsInOrder, IsReturn, SaysRight, TellsEntry, entry_for}

-- ---- one command

-- a part that goes out now is that of a spawn that is out, and one that comes back now is that of an entry, which has it; what gives a spawn up is the same at any time
abbrev pub IsFresh : Controllers → SpawnRec → Body → Type 0
IsFresh c r (Submit p) = is_out r ≡ true
IsFresh c r (Return p) = IsSomeAnd (entry_for c r) (λ e. is_some e.part ≡ true)
IsFresh c r (Abort s) = ⊤
IsFresh c r (Answer d s told) = ⊤

same_return : (o : Option Message) (n m : Message) → is_some o ≡ true → IfSome o (λ k. n ≡ k) → IfSome o (λ k. m ≡ k) → n ≡ m
same_return None n m has hn hm = absurd (true≢false (sym has))
same_return (Some k) n m has hn hm = hn ∙ sym hm

has_return : (f : PartCopy → Message) (o : Option PartCopy) → is_some o ≡ true → is_some (option_map f o) ≡ true
has_return f None has = has
has_return f (Some p) has = refl

returned_once : (c : Controllers) (n m : Message) (r : SpawnRec) (name master : List ℕ) → HasEnded c r (IsReturn name master n) → HasEnded c r (IsReturn name master m) → IsSomeAnd (entry_for c r) (λ e. is_some e.part ≡ true) → n ≡ m
returned_once c n m r name master hn hm fresh =
    let o = entry_for c r in
    let one = and_found _ o hn in
    let two = and_found _ o hm in
    let new = and_found _ o fresh in
    let e : Entry = new.0 in
    same_return (return_of name master e) n m (has_return (part_return name master e.at) e.part new.2)
    (subst (IsReturn name master n) (same_found one.0 e o one.1 new.1) one.2.1)
    (subst (IsReturn name master m) (same_found two.0 e o two.1 new.1) two.2.1)

says_one : (c : Controllers) (n m : Message) (r : SpawnRec) (x y : Body) → SaysRight c r n x → SaysRight c r m y → is_some (command_given x) ≡ true → command_given x ≡ command_given y → IsFresh c r y → n ≡ m
says_one c n m r (Submit p) (Submit q) hn hm given same fresh = hn fresh ∙ sym (hm fresh)
says_one c n m r (Submit p) (Return q) hn hm given same fresh = cc
says_one c n m r (Submit p) (Abort s) hn hm given same fresh = cc
says_one c n m r (Submit p) (Answer d s told) hn hm given same fresh = cc
says_one c n m r (Return p) (Submit q) hn hm given same fresh = cc
says_one c n m r (Return p) (Return q) hn hm given same fresh = returned_once c n m r r.worker c.master.name hn hm fresh
says_one c n m r (Return p) (Abort s) hn hm given same fresh = cc
says_one c n m r (Return p) (Answer d s told) hn hm given same fresh = cc
says_one c n m r (Abort s) (Submit q) hn hm given same fresh = cc
says_one c n m r (Abort s) (Return q) hn hm given same fresh = cc
says_one c n m r (Abort s) (Abort t) hn hm given same fresh = hn ∙ sym hm
says_one c n m r (Abort s) (Answer d t told) hn hm given same fresh = cc
says_one c n m r (Answer d s told) y hn hm given same fresh = cc

one_command : (c : Controllers) (n m : Message) (hn : IsInOrder c n) (hm : IsInOrder c m) → IsFresh c hm.spawn m.body → GiveOneCommand n m → n ≡ m
one_command c n m hn hm fresh both =
    let same : hn.spawn ≡ hm.spawn = same_found hn.spawn hm.spawn (record_of c.master.records (spawn_in n.body)) hn.recorded (ap (record_of c.master.records) both.spawn ∙ hm.recorded) in
    says_one c n m hm.spawn n.body m.body (subst (λ r. SaysRight c r n n.body) same hn.says) hm.says both.given both.same fresh

-- ---- one message more

-- a message that may be sent beside others
pub record IsNew (c : Controllers) (messages : List Message) (m : Message) : Type 0 where
  pub good : IsInOrder c m
  pub alike : (n : Message) → Contains messages n → GiveOneCommand n m → n ≡ m

pub new_message : (c : Controllers) (messages : List Message) (m : Message) → All (IsInOrder c) messages → (h : IsInOrder c m) → IsFresh c h.spawn m.body → IsNew c messages m
new_message c messages m all h fresh = record { good = h; alike = λ n there both. one_command c n m (All-contains (IsInOrder c) messages n all there) h fresh both }

turned : (m n : Message) → GiveOneCommand m n → GiveOneCommand n m
turned m n both = record { given = ap is_some (sym both.same) ∙ both.given; same = sym both.same; spawn = sym both.spawn }

both_one : (c : Controllers) (messages : List Message) (m a b : Message) → AreInOrder c messages → IsNew c messages m → Contains messages a ⊎ (m ≡ a) → Contains messages b ⊎ (m ≡ b) → GiveOneCommand a b → a ≡ b
both_one c messages m a b ok new (inl old) (inl old') both = ok.one a b old old' both
both_one c messages m a b ok new (inl old) (inr is) both = new.alike a old (subst (GiveOneCommand a) (sym is) both) ∙ is
both_one c messages m a b ok new (inr is) (inl old) both = sym is ∙ sym (new.alike b old (turned m b (subst (λ x. GiveOneCommand x b) (sym is) both)))
both_one c messages m a b ok new (inr is) (inr is') both = sym is ∙ is'

pub one_more_in_order : (c : Controllers) (messages : List Message) (m : Message) → AreInOrder c messages → IsNew c messages m → AreInOrder c (messages ++ m ∷ [])
one_more_in_order c messages m ok new =
    record {
      each = All-push (IsInOrder c) messages m ok.each new.good;
      one = λ a b here there both. both_one c messages m a b ok new (Contains-push_cases messages m a here) (Contains-push_cases messages m b there) both;
    }

-- ---- answers

-- a part that was brought back was put in, and isn't refused; and where a spawn was to be given up its entry tells what is told
abbrev pub IsTaken : Controllers → SpawnRec → Result QueueStatus ℕ → Body → Type 0
IsTaken c r told (Submit p) = ⊤
IsTaken c r told (Return p) = (is_ok told ≡ true) × (is_out r ≡ false)
IsTaken c r told (Abort s) = IsSomeAnd (entry_for c r) (TellsEntry told)
IsTaken c r told (Answer d s said) = ⊤

-- the answer to a message that is in order goes back the same way
pub answer_is_new : (c : Controllers) (messages : List Message) (name sender receiver : List ℕ) (sent at : ℕ) (body : Body) (told : Result QueueStatus ℕ) → All (IsInOrder c) messages → receiver ≡ name → (h : IsInOrder c (record { sender = sender; receiver = receiver; at = sent; body = body })) → IsTaken c h.spawn told body
    → IfSome (answer_to name (record { sender = sender; receiver = receiver; at = sent; body = body }) at told) (IsNew c messages)
answer_is_new c messages name sender receiver sent at (Submit p) told all own h taken =
    new_message c messages _ all (record { spawn = h.spawn; recorded = h.recorded; from = sym own ∙ h.to; to = h.from; says = tt; for_master = tt; for_worker = tt; sound = tt }) tt
answer_is_new c messages name sender receiver sent at (Return p) told all own h taken =
    let ended = and_found _ (entry_for c h.spawn) h.says in
    new_message c messages _ all
    (record { spawn = h.spawn; recorded = h.recorded; from = sym own ∙ h.to; to = h.from; says = (taken.0, taken.1, found_and _ (entry_for c h.spawn) ended.0 ended.1 (ended.2.0, tt)); for_master = tt; for_worker = tt; sound = tt })
    tt
answer_is_new c messages name sender receiver sent at (Abort s) told all own h taken =
    new_message c messages _ all (record { spawn = h.spawn; recorded = h.recorded; from = sym own ∙ h.to; to = h.from; says = taken; for_master = tt; for_worker = tt; sound = tt }) tt
answer_is_new c messages name sender receiver sent at (Answer d s t) told all own h taken = tt
