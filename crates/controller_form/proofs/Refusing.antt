-- Which refusal is told of a state.
use Rattle.std.proofs.Common.{◌≡◌, ◌∙◌, ◌⊎◌, inl, inr, Bool, true, false, [], ◌∷◌, Option, Some, None, Result, Ok, Err, IfErr, IfOk, OnOk, refl, sym, ap}
use Rattle.std.specs.Option.{option_map, option_map_or}
use Rattle.std.specs.Prelude.{IsErrAnd, IsErrOf}
use Rattle.ticket_items.specs.declared.refusal.Refusal.{Refusal}
use Rattle.ticket_items.specs.declared.refusal.Refusal.TheVariants.{BadState, Memory, NotProfile, ReservedStatus}
use Rattle.ticket_rows.specs.Ticket.{first_of, unless}
use Rattle.json_items.proofs.Faults.{at_last, early, made_err, made_ok}
use Rattle.json_items.specs.Validation.{Answers, Finds, both_read, checked_fault, checked_value, first_fault}
use Rattle.json_source.specs.Read.{◌>>=◌, Fails}

-- what is wrong with a master: that it isn't bare, its ticket, or that it is none
abbrev master_wrong : Bool → Option Refusal → Bool → Option Refusal
master_wrong bare ticket stored = first_of (unless bare ReservedStatus ∷ ticket ∷ unless stored BadState ∷ [])

pub nothing : (bare : Bool) (ticket : Option Refusal) (stored : Bool) → bare ≡ true → ticket ≡ None → stored ≡ true → master_wrong bare ticket stored ≡ None
nothing true None true p q r = refl
nothing true None false p q r = cc
nothing true (Some e) stored p q r = cc
nothing false ticket stored p q r = cc

-- ---- a refusal of names or texts

-- is told before what else is wrong
pub refused_found : {R X : Type 0} (names texts : R → Bool) (late : R → Option Refusal) (made : R → X) (draft : Option R) (e : Refusal) → option_map (first_fault names texts) draft ≡ Some (Some e)
    → option_map_or (λ r. checked_value (checked_fault (names r) (texts r) (late r)) (made r)) draft (Err NotProfile) ≡ Err e
refused_found names texts late made None e told = cc
refused_found names texts late made (Some r) e told = ap (λ f. checked_value f (made r)) (early (names r) (texts r) (late r) e cc)

-- ---- a draft that is made of parts

-- the refusal of the parts is the draft's
pub parts_refused : {P R X : Type 0} (fault : P → Option Refusal) (make : P → R) (names texts : R → Bool) (late : R → Option Refusal) (made : R → X) (parts : Option P) (draft : Option R) (found : Result P Refusal) (e : Refusal)
    → draft ≡ option_map make parts → ((p : P) → first_fault names texts (make p) ≡ fault p) → found ≡ Err e → Finds fault found parts
    → option_map_or (λ r. checked_value (checked_fault (names r) (texts r) (late r)) (made r)) draft (Err NotProfile) ≡ Err e
parts_refused fault make names texts late made parts draft found e is same was finds =
    refused_found names texts late made draft e (made_err fault (first_fault names texts) make parts draft found e is same was finds)

valid_so : {R X : Type 0} (names texts : R → Bool) (late : R → Option Refusal) (made : R → X) (draft : Option R) (r : R) → draft ≡ Some r → first_fault names texts r ≡ None
    → option_map_or (λ r. checked_value (checked_fault (names r) (texts r) (late r)) (made r)) draft (Err NotProfile) ≡ checked_value (late r) (made r)
valid_so names texts late made draft r is none =
    ap (λ o. option_map_or (λ r. checked_value (checked_fault (names r) (texts r) (late r)) (made r)) o (Err NotProfile)) is
    ∙ ap (λ f. checked_value f (made r)) (at_last (names r) (texts r) (late r) none)

-- where the parts are valid, what else is wrong with the draft is told
pub parts_taken : {P R X : Type 0} (fault : P → Option Refusal) (make : P → R) (names texts : R → Bool) (late : R → Option Refusal) (made : R → X) (parts : Option P) (draft : Option R) (found : Result P Refusal) (p : P)
    → draft ≡ option_map make parts → ((q : P) → first_fault names texts (make q) ≡ fault q) → found ≡ Ok p → Finds fault found parts
    → option_map_or (λ r. checked_value (checked_fault (names r) (texts r) (late r)) (made r)) draft (Err NotProfile) ≡ checked_value (late (make p)) (made (make p))
parts_taken fault make names texts late made parts draft found p is same was finds =
    let so = made_ok fault (first_fault names texts) make parts draft found p (make p) is same was finds refl in
    valid_so names texts late made draft (make p) so.0 so.1

-- ---- nothing of the form

-- what fails to be read leaves nothing of the whole
pub unread : {A X : Type 0} (e : Refusal) (o : Option A) (read : Result X Refusal) → (o ≡ None → read ≡ Err NotProfile) → Fails e o → (e ≡ Memory) ⊎ (read ≡ Err e)
unread Memory o read so fails = inl refl
unread NotProfile o read so fails = inr (so fails)
unread e o read so fails = absurd fails

pub none_behind : {A B : Type 0} (o : Option A) (p : Option B) → p ≡ None → both_read o p ≡ None
none_behind None p none = refl
none_behind (Some a) p none = ap (λ q. q >>= λ b. Some (a, b)) none

-- ---- what is built at last

-- a refusal that is handed on
pub handed_on : {X : Type 0} (r : Result X Refusal) (e : Refusal) (read : Result X Refusal) → IsErrAnd r (λ f. f ≡ e) → (e ≡ Memory) ⊎ (read ≡ Err e) → Answers r read
handed_on (Ok x) e read same why = absurd same
handed_on (Err f) e read same (inl memory) = inl (same ∙ memory)
handed_on (Err f) e read same (inr is) = inr (is ∙ ap Err (sym same))

-- a controller of parts, or none that can have come to them
pub of_parts : {X : Type 0} (r : Result X Refusal) (x : X) (stored : Bool) → IfOk r (λ y. y ≡ x) → OnOk r (stored ≡ true) → (IsErrOf r BadState → stored ≡ false) → IfErr r (λ e. (e ≡ BadState) ⊎ (e ≡ Memory)) → Answers r (checked_value (unless stored BadState) x)
of_parts (Ok y) x stored made taken bad only = ap (λ b. checked_value (unless b BadState) x) taken ∙ ap Ok (sym made)
of_parts (Err e) x stored made taken bad (inl is) = inr (ap (λ b. checked_value (unless b BadState) x) (bad (ap Err is)) ∙ ap Err (sym is))
of_parts (Err e) x stored made taken bad (inr memory) = inl memory
