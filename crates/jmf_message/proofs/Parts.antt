-- The spawn of a part, and the message of a part of which something is found.
use Rattle.std.proofs.Common.{◌≡◌, ◌∙◌, List, ℕ, Option, Some, None, Result, Ok, Err, IsErrAnd, ap, inr, refl, sym, codes}
use Rattle.std.specs.Borrow.{Bor}
use Rattle.std.specs.Option.{ok_or, option_map, option_map_or}
use Rattle.serde_json.specs.Data.{Data}
use Rattle.ticket_items.specs.declared.ancestor.Ancestor.{Ancestor}
use Rattle.ticket_items.specs.declared.refusal.Refusal.{Refusal}
use Rattle.ticket_items.specs.declared.refusal.Refusal.TheVariants.{NotProfile}
use Rattle.json_items.specs.Validation.{Answers, Finds, first_fault}
use Rattle.json_items.specs.PartDraft.{RawPart, RowsAndCopies, ancestors_under, part_form, part_members, raw_part, rows_and_copies}
use Rattle.json_items.specs.PartForm.{has_names, has_texts}
use Rattle.json_items.specs.Spawns.{spawn_named}
use Rattle.json_items.specs.TicketDraft.{RawRow, node_rows}
use Rattle.json_source.specs.Read.{◌>>=◌, text_under}
use Rattle.controller.specs.declared.message.Message.{Message}
use Rattle.jmf_message.specs.Decoded.{draft_read}
use Rattle.jmf_message.specs.Form.{RawJmf}
use Rattle.jmf_message.proofs.Saying.{handed_on, with_part}

-- ---- the text of a spawn's id

abbrev taken_at : List ℕ → List ℕ → List Ancestor → Option RowsAndCopies → Option RawPart
taken_at job spawn ancestors t = t >>= λ x. Some (raw_part job (spawn_named spawn) ancestors x)

abbrev drafted : Option (List ℕ) → Option (List ℕ) → Option (List Ancestor) → Option (List RawRow) → Option RawPart
drafted job spawn ancestors raws = job >>= λ j. spawn >>= λ s. ancestors >>= λ a. raws >>= λ rs. taken_at j s a (rows_and_copies s rs)

no_text : (job : Option (List ℕ)) (ancestors : Option (List Ancestor)) (raws : Option (List RawRow)) → drafted job None ancestors raws ≡ None
no_text None ancestors raws = refl
no_text (Some j) ancestors raws = refl

its_spawn_at : (job spawn : List ℕ) (ancestors : List Ancestor) (t : Option RowsAndCopies) (p : RawPart) → taken_at job spawn ancestors t ≡ Some p → p.spawn ≡ spawn_named spawn
its_spawn_at job spawn ancestors None p h = cc
its_spawn_at job spawn ancestors (Some x) p h = let same : raw_part job (spawn_named spawn) ancestors x ≡ p = cc in sym (ap (λ q. q.spawn) same)

its_spawn : (job : Option (List ℕ)) (spawn : List ℕ) (ancestors : Option (List Ancestor)) (raws : Option (List RawRow)) (p : RawPart) → drafted job (Some spawn) ancestors raws ≡ Some p → p.spawn ≡ spawn_named spawn
its_spawn None spawn ancestors raws p h = cc
its_spawn (Some j) spawn None raws p h = cc
its_spawn (Some j) spawn (Some a) None p h = cc
its_spawn (Some j) spawn (Some a) (Some rs) p h = its_spawn_at j spawn a (rows_and_copies spawn rs) p h

abbrev drafted_of : Data → Option (List ℕ) → Option RawPart
drafted_of d spawn = drafted (text_under (codes "JobID") d) spawn (ancestors_under (codes "AncestorPool") d) (node_rows part_members 1 d)

pub no_part : (d : Data) → text_under (codes "SpawnID") d ≡ None → part_form d ≡ None
unfolding part_form
no_part d none = ap (drafted_of d) none ∙ no_text (text_under (codes "JobID") d) (ancestors_under (codes "AncestorPool") d) (node_rows part_members 1 d)

pub part_spawn : (d : Data) (spawn : List ℕ) (p : RawPart) → text_under (codes "SpawnID") d ≡ Some spawn → part_form d ≡ Some p → p.spawn ≡ spawn_named spawn
unfolding part_form
part_spawn d spawn p is read = its_spawn (text_under (codes "JobID") d) spawn (ancestors_under (codes "AncestorPool") d) (node_rows part_members 1 d) p (sym (ap (drafted_of d) is) ∙ read)

-- ---- the message

abbrev message_beside : RawJmf → Option RawPart → Result Message Refusal
message_beside j read = option_map_or (λ p. draft_read (with_part j p)) read (Err NotProfile)

pub text_lent : (text : Option (Bor (List ℕ))) (spawn : Bor (List ℕ)) (read : Option (List ℕ)) → Ok spawn ≡ ok_or text NotProfile → option_map (λ s. s.now) text ≡ read → read ≡ Some spawn.now
text_lent None spawn read is lent = cc
text_lent (Some s) spawn read is lent = let same : spawn ≡ s = cc in sym lent ∙ ap (λ x. Some x.now) (sym same)

pub beside_none : (j : RawJmf) (d : Data) (text : Option (Bor (List ℕ))) (r : Result Message Refusal) (e : Refusal) → Err e ≡ ok_or text NotProfile → option_map (λ s. s.now) text ≡ text_under (codes "SpawnID") d → IsErrAnd r (λ f. f ≡ e) → Answers r (message_beside j (part_form d))
beside_none j d (Some s) r e none lent same = absurd (cc none)
beside_none j d None r e none lent same =
    let is : NotProfile ≡ e = cc in
    handed_on r e _ same (inr (ap (message_beside j) (no_part d (sym lent)) ∙ ap Err is))

pub beside_found : (j : RawJmf) (spawn : ℕ) (read : Option RawPart) (found : Result RawPart Refusal) (r : Result Message Refusal) → ((p : RawPart) → read ≡ Some p → p.spawn ≡ spawn) → Finds (first_fault has_names has_texts) found read
    → ((p : RawPart) → p.spawn ≡ spawn → Finds (first_fault has_names has_texts) found (Some p) → Answers r (draft_read (with_part j p)))
    → Answers r (message_beside j read)
beside_found j spawn None (Ok x) r named finds answers = absurd (let none : None ≡ Some x = finds.0 in cc)
beside_found j spawn None (Err e) r named finds answers = absurd (cc finds)
beside_found j spawn (Some p) found r named finds answers = answers p (named p refl) finds
