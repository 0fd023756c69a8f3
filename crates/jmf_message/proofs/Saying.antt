-- What is answered for a message, by what it says and what is wrong with it.
use Rattle.std.proofs.Common.{◌≡◌, ◌∙◌, ◌⊎◌, inl, inr, ⊎_elim, ℕ, ◌&&◌, Bool, true, false, List, Option, Some, None, Result, Ok, Err, IsErrAnd, ap, subst, sym}
use Rattle.std.specs.Option.{option_map, option_map_or, option_and_then}
use Rattle.std.specs.Prelude.{if◌then◌else◌}
use Rattle.std.specs.Str.{bytes_eq}
use Rattle.json_items.proofs.Faults.{at_last, early}
use Rattle.json_items.specs.Validation.{Answers, Finds, checked_value, first_fault, on_both}
use Rattle.json_source.specs.Read.{◌>>=◌, some_if}
use Rattle.json_items.specs.PartDraft.{RawPart}
use Rattle.json_items.specs.PartForm.{built_fault, has_names, has_texts, part_of_raw}
use Rattle.ticket_items.specs.Names.{is_name}
use Rattle.ticket_items.specs.declared.refusal.Refusal.{Refusal}
use Rattle.ticket_items.specs.declared.refusal.Refusal.TheVariants.{Memory, WrongMessage, WrongVersion}
use Rattle.controller.specs.Words.{version}
use Rattle.controller.specs.declared.command.Command.{Command}
use Rattle.jmf_message.specs.Decoded.{are_ids, body_beside_part, body_with, checked_family, command_of, draft_read, message_fault, message_saying, message_with}
use Rattle.jmf_message.specs.Form.{RawJmf, RawMessage}
use Rattle.jmf_message.specs.declared.family.Family.{Family}

-- one step of a test that is passed
pub passed : {X : Type 0} (b : Bool) (x : X) → b ≡ true → (some_if b >>= λ _. Some x) ≡ Some x
passed b x h = ap (λ c. some_if c >>= λ _. Some x) h

-- ---- what is said

read_at : (m : RawMessage) (right : Bool) (said : Option Family) (s : Family) → (if right then option_map_or Ok said (Err WrongMessage) else Err WrongVersion) ≡ Ok s
    → (if right then message_saying m (option_and_then (body_beside_part m.part) said) else Err WrongVersion) ≡ message_saying m (body_beside_part m.part s)
read_at m false said s h = cc
read_at m true None s h = cc
read_at m true (Some t) s h = let same : t ≡ s = cc in ap (λ u. message_saying m (body_beside_part m.part u)) same

refused_at : (m : RawMessage) (right : Bool) (said : Option Family) (e : Refusal) → (if right then option_map_or Ok said (Err WrongMessage) else Err WrongVersion) ≡ Err e
    → (if right then message_saying m (option_and_then (body_beside_part m.part) said) else Err WrongVersion) ≡ Err e
refused_at m false said e h = cc
refused_at m true None e h = cc
refused_at m true (Some t) e h = cc

pub said_read : (m : RawMessage) (s : Family) → checked_family m.jmf ≡ Ok s → draft_read m ≡ message_saying m (body_beside_part m.part s)
said_read m s h = read_at m (bytes_eq m.jmf.version version) m.jmf.said s h

pub not_said : (m : RawMessage) (e : Refusal) → checked_family m.jmf ≡ Err e → draft_read m ≡ Err e
not_said m e h = refused_at m (bytes_eq m.jmf.version version) m.jmf.said e h

-- ---- what is asked of the spawn of a part

abbrev pub with_part : RawJmf → RawPart → RawMessage
with_part j p = record { jmf = j; part = Some p }

-- this is asked, of the spawn of this part
pub record IsAsked (j : RawJmf) (p : RawPart) (s : Family) (asked : Command) : Type 0 where
  pub says : checked_family j ≡ Ok s
  pub asks : command_of p.spawn s ≡ Some asked

asked_read : (j : RawJmf) (p : RawPart) (s : Family) (asked : Command) → IsAsked j p s asked → draft_read (with_part j p) ≡ checked_value (message_fault (with_part j p)) (message_with (with_part j p) (body_with asked (part_of_raw p)))
asked_read j p s asked is =
    said_read (with_part j p) s is.says ∙ ap (λ o. message_saying (with_part j p) (option_map (λ a. body_with a (part_of_raw p)) o)) is.asks

-- ---- what is wrong

-- what was found of the parties and of the part
abbrev pub parties_fault : (List ℕ × List ℕ) × RawPart → Option Refusal
parties_fault found = first_fault (on_both (on_both is_name is_name) has_names) (on_both (λ _. true) has_texts) found

abbrev pub parties : RawJmf → RawPart → (List ℕ × List ℕ) × RawPart
parties j p = ((j.sender, j.receiver), p)

some_same : {X : Type 0} (x y : X) → Some x ≡ Some y → x ≡ y
some_same x y h = cc

pub refused_early : (j : RawJmf) (p : RawPart) (s : Family) (asked : Command) (e : Refusal) → IsAsked j p s asked → Finds parties_fault (Err e) (Some (parties j p)) → draft_read (with_part j p) ≡ Err e
refused_early j p s asked e is wrong =
    asked_read j p s asked is
    ∙ ap (λ f. checked_value f (message_with (with_part j p) (body_with asked (part_of_raw p)))) (early (are_ids j && has_names p) (has_texts p) (built_fault p) e (some_same _ _ wrong))

built_read : (j : RawJmf) (p : RawPart) (s : Family) (asked : Command) (found : (List ℕ × List ℕ) × RawPart) (late : Option Refusal) → IsAsked j p s asked → Finds parties_fault (Ok found) (Some (parties j p)) → built_fault found.1 ≡ late
    → draft_read (with_part j p) ≡ checked_value late (message_with (with_part j p) (body_with asked (part_of_raw p)))
built_read j p s asked found late is right fault =
    let same : parties j p ≡ found = some_same _ _ right.0 in
    let none : parties_fault (parties j p) ≡ None = ap parties_fault same ∙ right.1 in
    asked_read j p s asked is
    ∙ ap (λ f. checked_value f (message_with (with_part j p) (body_with asked (part_of_raw p))))
    (at_last (are_ids j && has_names p) (has_texts p) (built_fault p) none ∙ ap (λ x. built_fault x.1) same ∙ fault)

pub refused_late : (j : RawJmf) (p : RawPart) (s : Family) (asked : Command) (found : (List ℕ × List ℕ) × RawPart) (e : Refusal) → IsAsked j p s asked → Finds parties_fault (Ok found) (Some (parties j p)) → (e ≡ Memory) ⊎ (built_fault found.1 ≡ Some e)
    → (e ≡ Memory) ⊎ (draft_read (with_part j p) ≡ Err e)
refused_late j p s asked found e is right wrong = ⊎_elim (λ memory. inl memory) (λ fault. inr (built_read j p s asked found (Some e) is right fault)) wrong

pub read_whole : (j : RawJmf) (p : RawPart) (s : Family) (asked : Command) (found : (List ℕ × List ℕ) × RawPart) → IsAsked j p s asked → Finds parties_fault (Ok found) (Some (parties j p)) → built_fault found.1 ≡ None
    → draft_read (with_part j p) ≡ Ok (record { sender = found.0.0; receiver = found.0.1; at = j.at; body = body_with asked (part_of_raw found.1) })
read_whole j p s asked found is right fault =
    let same : parties j p ≡ found = some_same _ _ right.0 in
    built_read j p s asked found None is right fault ∙ ap (λ x. Ok (record { sender = x.0.0; receiver = x.0.1; at = j.at; body = body_with asked (part_of_raw x.1) })) same

-- ---- what is handed on

-- a refusal that is handed on
pub handed_on : {X : Type 0} (r : Result X Refusal) (e : Refusal) (read : Result X Refusal) → IsErrAnd r (λ f. f ≡ e) → (e ≡ Memory) ⊎ (read ≡ Err e) → Answers r read
handed_on (Ok x) e read same h = absurd same
handed_on (Err f) e read same h = subst (λ g. (g ≡ Memory) ⊎ (read ≡ Err g)) (sym same) h
