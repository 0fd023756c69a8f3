-- What the messages of a shop tell of merges: one that is put in, at the node above, and no other.
use Rattle.std.proofs.Common.{◌≡◌, ◌⊎◌, inl, inr, ◌∙◌, ◌==◌, ℕ, Bool, true, false, cond, List, Option, Some, None, Ok, Err, is_some, refl, sym, ap, subst}
use Rattle.std.proofs.lemmas.Bool.{eqb-true}
use Rattle.std.specs.Option.{option_and_then, option_map_or}
use Rattle.std.specs.Str.{bytes_eq}
use Rattle.ticket_items.proofs.SpawnTexts.{spawn_of-spawn_text}
use Rattle.ticket_items.specs.SpawnId.{is_spawn_number}
use Rattle.ticket_rows.proofs.AtHome.{find-passes}
use Rattle.ticket_rows.specs.Place.{Row, nodes_in, up}
use Rattle.world_items.specs.declared.reply.Reply.TheVariants as reply
use Rattle.ticket_items.specs.Act.{NodeChange, NewStatus}
use Rattle.world.proofs.Runs.Cases.{split, when_false}
use Rattle.world.proofs.Shop.MergeAudits.{as_often, edit_is_quiet, one_if, telling_is_quiet, told_once, touch_tells}
use Rattle.world.proofs.Master.Spawns.{told_there}
use Rattle.world.proofs.Shop.OrdersTell.{Tells}
use Rattle.world.proofs.Shop.StepsTell as shops
use Rattle.world.proofs.Shop.StepsTell.{HaveNumbers, TellsMore, is_above, phase_stays, same_rows, tells_none, tells_nothing, times}
use Rattle.worker_core.specs.Worker.{end_word}
use Rattle.world_items.specs.declared.end.End.TheVariants.{Aborted}
use Rattle.plain_shop.specs.MergeAudits.{AuditsGrow, above_of, audit_tells, reply_tells}
use Rattle.plain_shop.specs.Shop.{Closed, Declined, Done, Merged, Open, PlainState, Rows, SpawnState, Withdrawn, has_number, is_away, is_declined, is_done, is_merged, is_open, is_taken, spawn_of}
use Rattle.plain_shop.specs.Acts.{after_close, after_decline, after_finish, after_merge, after_taking, after_withdrawal, is_held_by, merged_audit, put_in, with_parent_audit, withdrawn_audit}
use Rattle.plain_shop.specs.Steps.{Abort, Return, Submit, Tag, ToAbort, ToReturn, ToSubmit, on_abort, on_abort_answer, on_message, on_return, on_return_answer, on_submit, quiet_step, repeat_reply, sending_step}
use Rattle.controller.specs.Step.{Step}
use Rattle.plain_shop.specs.Step.{StepOrWord}
use Rattle.world_items.specs.declared.word.Word.TheVariants.{Did, NoMessage}

-- ---- one that is put in

-- the node above a finished spawn stands, and the spawn doesn't hold it
pub record StandsAbove (p : PlainState) (a : SpawnState) : Type 0 where
  pub above : List ℕ
  pub is_above : up (nodes_in p.tree) a.node ≡ Some above
  pub row : Row
  pub seen : p.seen above ≡ Some row
  pub now : p.now above ≡ Some row
  pub free : is_held_by a.number p.holder above ≡ false

-- the audit of a merge tells of its spawn
audit_names : (a : SpawnState) (at s : ℕ) → is_spawn_number a.number ≡ true → audit_tells s (merged_audit a at) ≡ (a.number == s)
audit_names a at s number = ap (λ o. option_map_or (λ t. t == s) o false) (spawn_of-spawn_text a.number number)

-- so it does at the node above, and nowhere else
counted : (one here there : Bool) → (one ≡ true → here ≡ there) → cond here (one_if one) 0 ≡ cond there (one_if one) 0
counted true here there same = ap one_if (same refl)
counted false true true same = refl
counted false true false same = refl
counted false false true same = refl
counted false false false same = refl

same_above : (p : PlainState) (a : SpawnState) (s : ℕ) (u x : List ℕ) → above_of a.number p ≡ Some u → (a.number == s) ≡ true → bytes_eq u x ≡ is_above s p x
same_above p a s u x there one =
    sym (ap (λ o. option_map_or (λ v. bytes_eq v x) o false) (ap (λ t. above_of t p) (sym (eqb-true a.number s one)) ∙ there))

told_so : (p : PlainState) (a : SpawnState) (at s : ℕ) (u x : List ℕ) → is_spawn_number a.number ≡ true → above_of a.number p ≡ Some u → cond (bytes_eq u x) (told_once s (merged_audit a at)) 0 ≡ shops.told_there (times (Did (reply.Merged a.number))) p s x
told_so p a at s u x number there =
    ap (λ b. cond (bytes_eq u x) (one_if b) 0) (audit_names a at s number)
    ∙ counted (a.number == s) (bytes_eq u x) (is_above s p x) (same_above p a s u x there)

-- the audits of a row, once it is told above
told_row : (p : PlainState) (a : SpawnState) (at s : ℕ) (h : StandsAbove p a) (rows : Rows) (x : List ℕ) → is_spawn_number a.number ≡ true → above_of a.number p ≡ Some h.above → rows h.above ≡ Some h.row
    → AuditsGrow s (shops.told_there (times (Did (reply.Merged a.number))) p s x) (rows x) (with_parent_audit p.tree a.node (merged_audit a at) rows x)
told_row p a at s h rows x number there stands =
    let audit = merged_audit a at in
    as_often s _ _ (rows x) (with_parent_audit p.tree a.node audit rows x) (told_so p a at s h.above x number there)
    (subst (λ o. AuditsGrow s (cond (bytes_eq h.above x) (told_once s audit) 0) (rows x) o) (sym (told_there p.tree a.node h.above audit rows x h.is_above)) (touch_tells s h.above audit rows h.row x stands))

put_row : (p : PlainState) (a : SpawnState) (s n : ℕ) (x : List ℕ) (after : Option Row) (held : Bool) → AuditsGrow s n (cond held (p.now x) (p.seen x)) after → AuditsGrow s n (p.seen x) after ⊎ AuditsGrow s n (p.now x) after
put_row p a s n x after true on = inr on
put_row p a s n x after false on = inl on

none_some : {X P : Type 0} (x : X) (o : Option X) → o ≡ Some x → o ≡ None → P
none_some x o a b = cc

merge_tells : (p : PlainState) (a : SpawnState) (at : ℕ) → is_spawn_number a.number ≡ true → spawn_of a.number p ≡ Some a → StandsAbove p a → TellsMore (times (Did (reply.Merged a.number))) p (after_merge at a p)
merge_tells p a at number found h =
    let there : above_of a.number p ≡ Some h.above = ap (option_and_then (λ (b : SpawnState). up (nodes_in p.tree) b.node)) found ∙ h.is_above in
    let put : put_in a.number p h.above ≡ Some h.row = when_false (is_held_by a.number p.holder h.above) (p.now h.above) (p.seen h.above) h.free ∙ h.seen in
    let stay = phase_stays p (after_merge at a p) Merged a.number refl refl in
    record {
      seen = λ s x. put_row p a s (shops.told_there (times (Did (reply.Merged a.number))) p s x) x ((after_merge at a p).seen x) (is_held_by a.number p.holder x) (told_row p a at s h (put_in a.number p) x number there put);
      now = λ s x. told_row p a at s h p.now x number there h.now;
      above = stay.above;
      none = λ s missing. split (a.number == s) (λ one. none_some h.above (above_of s p) (ap (λ t. above_of t p) (sym (eqb-true a.number s one)) ∙ there) missing) (λ other. ap one_if other);
      numbers = stay.numbers;
    }

-- ---- messages

return_tells : (p : PlainState) (a : SpawnState) (at : ℕ) (done : Bool) → is_done a.phase ≡ done → is_spawn_number a.number ≡ true → spawn_of a.number p ≡ Some a → (is_done a.phase ≡ true → StandsAbove p a)
    → Tells p (cond done (sending_step (reply.Merged a.number) (after_merge at a p) (ToReturn a.number)) (sending_step (reply.Already a.number) p (ToReturn a.number)))
return_tells p a at true is number found stands = merge_tells p a at number found (stands is)
return_tells p a at false is number found stands = tells_nothing (Did (reply.Already a.number)) p (λ s. refl)

-- what came again is no merge
again_tells : (after_taking : Bool) (n s : ℕ) → reply_tells s (cond after_taking (reply.Again n) (reply.Declined n)) ≡ false
again_tells true n s = refl
again_tells false n s = refl

submit_tells : (p : PlainState) (a : SpawnState) (away : Bool) → Tells p (cond away (sending_step (reply.Taken a.number) (after_taking a.number p) (ToSubmit a.number)) (sending_step (repeat_reply a) p (ToSubmit a.number)))
submit_tells p a true = tells_none (Did (reply.Taken a.number)) p (after_taking a.number p) (λ s. refl) (same_rows p.seen) (same_rows p.now) (phase_stays p (after_taking a.number p) Open a.number refl refl)
submit_tells p a false = tells_nothing (Did (repeat_reply a)) p (λ s. again_tells (is_taken a.phase) a.number s)

abort_tells : (p : PlainState) (a : SpawnState) (at : ℕ) (away opened : Bool)
    → Tells p (cond away (sending_step (reply.Declined a.number) (after_decline a.number p) (ToAbort a.number)) (cond opened (sending_step (reply.Ended a.number) (after_finish Aborted at a p) (ToAbort a.number)) (sending_step (repeat_reply a) p (ToAbort a.number))))
abort_tells p a at true opened = tells_none (Did (reply.Declined a.number)) p (after_decline a.number p) (λ s. refl) (same_rows p.seen) (same_rows p.now) (phase_stays p (after_decline a.number p) Declined a.number refl refl)
abort_tells p a at false true =
    tells_none (Did (reply.Ended a.number)) p (after_finish Aborted at a p) (λ s. refl) (same_rows p.seen) (λ s x. edit_is_quiet (NodeChange a.node (NewStatus (end_word Aborted))) at s p.now x (λ i added. cc))
    (phase_stays p (after_finish Aborted at a p) Done a.number refl refl)
abort_tells p a at false false = tells_nothing (Did (repeat_reply a)) p (λ s. again_tells (is_taken a.phase) a.number s)

freed_tells : (p : PlainState) (a : SpawnState) (at : ℕ) (is_declined : Bool) → Tells p (cond is_declined (quiet_step (reply.Freed a.number) (after_withdrawal at a p)) (quiet_step (reply.Noted a.number) p))
freed_tells p a at true =
    tells_none (Did (reply.Freed a.number)) p (after_withdrawal at a p) (λ s. refl)
    (λ s x. telling_is_quiet s p.tree a.node (withdrawn_audit a at) p.seen x (λ t. refl))
    (λ s x. telling_is_quiet s p.tree a.node (withdrawn_audit a at) p.now x (λ t. refl))
    (phase_stays p (after_withdrawal at a p) Withdrawn a.number refl refl)
freed_tells p a at false = tells_nothing (Did (reply.Noted a.number)) p (λ s. refl)

back_tells : (p : PlainState) (a : SpawnState) (put : Bool) → Tells p (quiet_step (reply.Acked a.number) (cond put (after_close a.number p) p))
back_tells p a true = tells_none (Did (reply.Acked a.number)) p (after_close a.number p) (λ s. refl) (same_rows p.seen) (same_rows p.now) (phase_stays p (after_close a.number p) Closed a.number refl refl)
back_tells p a false = tells_nothing (Did (reply.Acked a.number)) p (λ s. refl)

-- a step, or the word where none is made
abbrev pub StepTells : PlainState → StepOrWord PlainState Tag → Type 0
StepTells p (Ok moved) = Tells p moved
StepTells p (Err word) = shops.IsSilent word

found_tells : (p : PlainState) (s : ℕ) (f : SpawnState → Step PlainState Tag) (found : Option SpawnState) → spawn_of s p ≡ found → ((a : SpawnState) → spawn_of s p ≡ Some a → Tells p (f a)) → StepTells p (option_map_or (λ a. Ok (f a)) found (Err NoMessage))
found_tells p s f None is go = λ t. refl
found_tells p s f (Some a) is go = go a is

-- what is found by a number has it
own_number : (p : PlainState) (s : ℕ) (a : SpawnState) → spawn_of s p ≡ Some a → a.number ≡ s
own_number p s a found = eqb-true a.number s (find-passes (has_number s) p.spawns a found)

pub message_tells : (t : Tag) (at : ℕ) (p : PlainState) → HaveNumbers p → ((s : ℕ) (a : SpawnState) → spawn_of s p ≡ Some a → is_done a.phase ≡ true → StandsAbove p a) → StepTells p (on_message at p t)
message_tells (Submit s) at p numbers stands = found_tells p s (on_submit p) (spawn_of s p) refl (λ a found. submit_tells p a (is_away a.phase))
message_tells (Return s) at p numbers stands =
    found_tells p s (on_return at p) (spawn_of s p) refl (λ a found.
    let own = own_number p s a found in
    return_tells p a at (is_done a.phase) refl (ap is_spawn_number own ∙ numbers s (ap is_some found)) (ap (λ n. spawn_of n p) own ∙ found) (stands s a found))
message_tells (Abort s) at p numbers stands = found_tells p s (on_abort at p) (spawn_of s p) refl (λ a found. abort_tells p a at (is_away a.phase) (is_open a.phase))
message_tells (ToSubmit s) at p numbers stands = tells_nothing (Did (reply.Noted s)) p (λ t. refl)
message_tells (ToReturn s) at p numbers stands = found_tells p s (on_return_answer p) (spawn_of s p) refl (λ a found. back_tells p a (is_merged a.phase))
message_tells (ToAbort s) at p numbers stands = found_tells p s (on_abort_answer at p) (spawn_of s p) refl (λ a found. freed_tells p a at (is_declined a.phase))
