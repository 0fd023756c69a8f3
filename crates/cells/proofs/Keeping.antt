-- What a keeper leaves of its cell.
use Rattle.std.proofs.Common.{◌≡◌, ◌≢◌, ◌⊎◌, inl, inr, ⊎_elim, ◌<◌, ◌≤◌, ℕ, Bool, true, false, List, [], ◌∷◌, ◌++◌, refl, sym, ◌∙◌, ap, subst, arith}
use Rattle.std.specs.Prelude.{Option, Some, None, IfSome, IsNone, is_some, Result, Ok, Err, OnOk, ⊤}
use Rattle.std.proofs.lemmas.Bool.{and_parts, true≢false}
use Rattle.std.proofs.lemmas.List.{append_assoc}
use Rattle.std.proofs.lemmas.Slice.Eq.{bytes_eq-Decides}
use Rattle.keepers.specs.Crash.{IsWithin}
use Rattle.cells.specs.Calls.{Goes, IsMade, IsNot, MayMake, Sends, Swaps}
use Rattle.cells.specs.Chain.{Grows, IsMadeBy, Makes, Swap, Version, View, newest}
use Rattle.cells.specs.Keeping.{Holding, after_swap, after_touch, can_swap, can_touch, has_read, swap_of, touch_of}
use Rattle.cells.specs.Kept.{IsOfLoad, IsOfSave, IsPartOf, IsSettled, IsStepped, IsSwapped, SavesAs, holds}
use Rattle.cells.specs.declared.swapped.SwapResult.{SwapResult}
use Rattle.cells.specs.declared.swapped.SwapResult.TheVariants.{Made, Other, Unknown}
use Rattle.cells.proofs.Growing.{Sent, grows_rise, grows_stay, sends_join, sends_more, sends_not, swaps_sends}

-- ---- a touch

-- by the parts of what it has
abbrev has_of : Option Version → Bool → Holding
has_of has o = record { has = has; is_open = o }

touch_sends_of : (has : Option Version) (o : Bool) (old new : View) (answer : SwapResult) → can_touch (has_of has o) ≡ true → IfSome has (λ v. Swaps old (touch_of v) new answer) → Sends old (IsOfLoad (has_of has o)) new
touch_sends_of (Some v) o old new answer can swaps = sends_more old _ _ new (λ s is. (v, refl, is)) (swaps_sends old (touch_of v) new answer swaps)
touch_sends_of None o old new answer can swaps = absurd (cc can)

touch_sends : (holding : Holding) (old new : View) (answer : SwapResult) → can_touch holding ≡ true → IfSome holding.has (λ v. Swaps old (touch_of v) new answer) → Sends old (IsOfLoad holding) new
touch_sends holding = touch_sends_of holding.has holding.is_open

later_than : (a b c : ℕ) → a ≤ b → b ≤ c → a ≢ c → a < c
later_than a b c low rise not = grind (arith, low, rise, not)

touch_settles_of : (has : Option Version) (o : Bool) (old new : View) (answer : SwapResult) → can_touch (has_of has o) ≡ true → IfSome has (λ v. Swaps old (touch_of v) new answer) → (after_touch answer (has_of has o)).is_open ≡ false → IsSettled (has_of has o) old new
touch_settles_of None o old new answer can swaps closed = absurd (cc can)
touch_settles_of (Some v) o old new (Made revision) can made closed = record {
  sent = made.sent;
  past = λ is_open low. subst (λ (c : List Version). v.revision < (newest c).revision) (sym made.is) (subst (λ n. n < made.value.revision) (sym made.makes.over) made.makes.later);
}
touch_settles_of (Some v) o old new Other can not closed = record {
  sent = λ s may. ⊎_elim (λ x. x) (λ (none : ⊥). absurd none) (not.goes.sent s may);
  past = λ is_open low. later_than v.revision _ _ low (grows_rise _ old.chain new.chain not.goes.grows) not.other;
}
touch_settles_of (Some v) false old new Unknown can may closed = absurd (cc can)
touch_settles_of (Some v) true old new Unknown can may closed = absurd (cc closed)

closed_settled : (holding : Holding) (v : View) → holding.is_open ≡ false → IsSettled holding v v
closed_settled holding v closed = record {
  sent = λ s may. may;
  past = λ opened. absurd (true≢false (sym opened ∙ closed));
}

-- a touch, if there was one
pub settle_sends : (holding : Holding) (old new : View) (answer : Option SwapResult) → is_some answer ≡ can_touch holding → (IsNone answer → new ≡ old) → IfSome answer (λ a. IfSome holding.has (λ v. Swaps old (touch_of v) new a)) → Sends old (IsOfLoad holding) new
settle_sends holding old new None can none swaps = subst (Sends old (IsOfLoad holding)) (sym (none refl)) (sends_not old _)
settle_sends holding old new (Some a) can none swaps = touch_sends holding old new a (sym can) swaps

pub settle_settles : (holding new_holding : Holding) (old new : View) (answer : Option SwapResult) → is_some answer ≡ can_touch holding → (IsNone answer → new ≡ old) → (IsNone answer → new_holding ≡ holding) → IfSome answer (λ a. IfSome holding.has (λ v. Swaps old (touch_of v) new a)) → IfSome answer (λ a. new_holding ≡ after_touch a holding) → new_holding.is_open ≡ false → IsSettled holding old new
settle_settles holding new_holding old new None can none same swaps after closed = subst (IsSettled holding old) (sym (none refl)) (closed_settled holding old (subst (λ (h : Holding). h.is_open ≡ false) (same refl) closed))
settle_settles holding new_holding old new (Some a) can none same swaps after closed = touch_settles_of holding.has holding.is_open old new a (sym can) swaps (subst (λ (h : Holding). h.is_open ≡ false) after closed)

-- ---- a read behind it

pub goes_behind : (old : View) (X : Sent) (mid new : View) → Sends old X mid → Goes mid new → Sends old X new
goes_behind old X mid new sends goes = sends_join old X mid new sends (sends_more mid _ _ new (λ s (none : ⊥). absurd none) goes)

past_on : (has : Option Version) (low high higher : ℕ) → high ≤ higher → IfSome has (λ v. v.revision ≤ low → v.revision < high) → IfSome has (λ v. v.revision ≤ low → v.revision < higher)
past_on None low high higher rise past = _
past_on (Some v) low high higher rise past = λ at. omega (arith, past at, rise)

pub settled_behind : (holding : Holding) (old mid new : View) → IsSettled holding old mid → Goes mid new → IsSettled holding old new
settled_behind holding old mid new settled goes = record {
  sent = λ s may. settled.sent s (⊎_elim (λ x. x) (λ (none : ⊥). absurd none) (goes.sent s may));
  past = λ opened. past_on holding.has _ _ _ (grows_rise _ mid.chain new.chain goes.grows) (settled.past opened);
}

pub load_settles : {A E : Type 0} (result : Result A E) (holding : Holding) (closed : Type 0) (old mid new : View) → OnOk result closed → (closed → IsSettled holding old mid) → Goes mid new → OnOk result (IsSettled holding old new)
load_settles (Ok v) holding closed old mid new is settled goes = settled_behind holding old mid new (settled is) goes
load_settles (Err e) holding closed old mid new is settled goes = _

-- ---- a swap

swap_sends_of : (has : Option Version) (o : Bool) (bytes : List ℕ) (old new : View) (answer : SwapResult) → can_swap (has_of has o) ≡ true → IfSome has (λ v. Swaps old (swap_of v bytes) new answer) → Sends old (IsOfSave (has_of has o) bytes) new
swap_sends_of (Some v) o bytes old new answer can swaps = sends_more old _ _ new (λ s is. (v, refl, inl is)) (swaps_sends old (swap_of v bytes) new answer swaps)
swap_sends_of None o bytes old new answer can swaps = absurd (cc can)

pub swap_sends : (holding : Holding) (bytes : List ℕ) (old new : View) (answer : SwapResult) → can_swap holding ≡ true → IfSome holding.has (λ v. Swaps old (swap_of v bytes) new answer) → Sends old (IsOfSave holding bytes) new
swap_sends holding = swap_sends_of holding.has holding.is_open

-- by its parts
is_version : (v : Version) (revision : ℕ) (bytes : List ℕ) → v.revision ≡ revision → v.bytes ≡ bytes → record { revision = revision; bytes = bytes } ≡ v
is_version v revision bytes r b = sym (ap (λ n. record { revision = n; bytes = v.bytes }) r ∙ ap (λ (l : List ℕ). record { revision = revision; bytes = l }) b)

swap_told_of : (has : Option Version) (o : Bool) (new_holding : Holding) (bytes : List ℕ) (old new : View) (answer : SwapResult) → can_swap (has_of has o) ≡ true → IfSome has (λ v. Swaps old (swap_of v bytes) new answer) → new_holding ≡ after_swap answer bytes (has_of has o) → SavesAs (has_of has o) bytes old new new_holding answer
swap_told_of None o new_holding bytes old new answer can swaps after = absurd (cc can)
swap_told_of (Some v) true new_holding bytes old new answer can swaps after = absurd (cc can)
swap_told_of (Some v) false new_holding bytes old new (Made revision) can made after =
    ((v, refl, (revision, made)), after ∙ ap has_read (is_version made.value revision bytes made.revision_is made.makes.bytes ∙ sym (ap newest made.is)))
swap_told_of (Some v) false new_holding bytes old new Other can not after = not
swap_told_of (Some v) false new_holding bytes old new Unknown can may after = _

pub swap_told : (holding new_holding : Holding) (bytes : List ℕ) (old new : View) (answer : SwapResult) → can_swap holding ≡ true → IfSome holding.has (λ v. Swaps old (swap_of v bytes) new answer) → new_holding ≡ after_swap answer bytes holding → SavesAs holding bytes old new new_holding answer
swap_told holding = swap_told_of holding.has holding.is_open

-- and a touch behind it
pub touch_behind : (holding mid_holding : Holding) (bytes : List ℕ) (old mid new : View) → mid_holding.has ≡ holding.has → Sends old (IsOfSave holding bytes) mid → Sends mid (IsOfLoad mid_holding) new → Sends old (IsOfSave holding bytes) new
touch_behind holding mid_holding bytes old mid new same first second =
    sends_join old _ mid new first (sends_more mid _ _ new (λ s is. (is.0, sym same ∙ is.1, inr is.2)) second)

pub unknown_same : (a : SwapResult) (bytes : List ℕ) (holding new_holding : Holding) → new_holding ≡ after_swap a bytes holding → a ≡ Unknown → new_holding.has ≡ holding.has
unknown_same Unknown bytes holding new_holding after is = ap (λ (h : Holding). h.has) after
unknown_same (Made revision) bytes holding new_holding after is = absurd (cc is)
unknown_same Other bytes holding new_holding after is = absurd (cc is)

-- ---- a step

some_same : (a b : Version) → Some a ≡ Some b → a ≡ b
some_same a b same = cc same

-- the value that was loaded is the one that was swapped
pub swapped_stepped : {G : Type 0} (makes : List ℕ → List ℕ → G → Type 0) (start : List Version) (old new : View) (holding : Holding) (bytes : List ℕ) (given : G) → IsPartOf start old.chain → holding.has ≡ Some (newest old.chain) → makes (newest old.chain).bytes bytes given → IsSwapped holding bytes old new → IsStepped makes start new.chain given
swapped_stepped makes start old new holding bytes given since has does swapped =
    let made = swapped.2.1 in
    let same : swapped.0 ≡ newest old.chain = some_same _ _ (sym swapped.1 ∙ has) in
    let over : (newest made.before).revision ≡ (newest old.chain).revision = sym made.makes.over ∙ ap (λ (v : Version). v.revision) same in
    let stays : made.before ≡ old.chain = grows_stay _ old.chain made.before made.landed over in
    record {
      chain = old.chain;
      since = since;
      bytes = bytes;
      makes_it = does;
      leaves = inr (made.value, made.makes.bytes, made.is ∙ ap (λ c. made.value ∷ c) stays);
    }

pub rested_stepped : {G : Type 0} (makes : List ℕ → List ℕ → G → Type 0) (start chain : List Version) (bytes : List ℕ) (given : G) → IsPartOf start chain → makes (newest chain).bytes bytes given → bytes ≡ (newest chain).bytes → IsStepped makes start chain given
rested_stepped makes start chain bytes given since does same = record {
  chain = chain;
  since = since;
  bytes = bytes;
  makes_it = does;
  leaves = inl (same, ([], refl));
}

holds_same : (v : Version) (bytes : List ℕ) → holds (has_read v) bytes ≡ true → bytes ≡ v.bytes
holds_same v bytes is = sym ((bytes_eq-Decides v.bytes bytes).0 (and_parts _ _ is).0)

pub part_of : (old : View) (X : Sent) (new : View) → Sends old X new → IsPartOf old.chain new.chain
part_of old X new sends = (sends.grows.added, sends.grows.is)

pub part_join : (old mid new : List Version) → IsPartOf old mid → IsPartOf mid new → IsPartOf old new
part_join old mid new first second = (second.0 ++ first.0, second.1 ∙ ap (λ l. second.0 ++ l) first.1 ∙ sym (append_assoc second.0 first.0 old))

-- what was done later was done since
pub stepped_since : {G : Type 0} (makes : List ℕ → List ℕ → G → Type 0) (start mid new : List Version) (given : G) → IsPartOf start mid → IsStepped makes mid new given → IsStepped makes start new given
stepped_since makes start mid new given since stepped = record {
  chain = stepped.chain;
  since = part_join start mid stepped.chain since stepped.since;
  bytes = stepped.bytes;
  makes_it = stepped.makes_it;
  leaves = stepped.leaves;
}

-- a load, a step and a save
pub once_stepped : {G : Type 0} (makes : List ℕ → List ℕ → G → Type 0) (start mid new : View) (X : Sent) (holding : Holding) (bytes : List ℕ) (given : G) (same : Bool) → Sends start X mid → holding ≡ has_read (newest mid.chain) → makes (newest mid.chain).bytes bytes given → holds holding bytes ≡ same → (holds holding bytes ≡ true → new ≡ mid) → (holds holding bytes ≡ false → IsSwapped holding bytes mid new) → IsStepped makes start.chain new.chain given
once_stepped makes start mid new X holding bytes given true sends read does is rests swapped =
    subst (λ (v : View). IsStepped makes start.chain v.chain given) (sym (rests is))
    (rested_stepped makes start.chain mid.chain bytes given (part_of start X mid sends) does (holds_same (newest mid.chain) bytes (subst (λ (h : Holding). holds h bytes ≡ true) read is)))
once_stepped makes start mid new X holding bytes given false sends read does is rests swapped =
    swapped_stepped makes start.chain mid new holding bytes given (part_of start X mid sends) (ap (λ (h : Holding). h.has) read) does (swapped is)

pub once_sent : (start mid new : View) (before holding : Holding) (bytes : List ℕ) (same : Bool) → IsSettled before start mid → holds holding bytes ≡ same → (holds holding bytes ≡ true → new ≡ mid) → (holds holding bytes ≡ false → IsSwapped holding bytes mid new) → IsWithin new.may_land start.may_land
once_sent start mid new before holding bytes true settled is rests swapped = subst (λ (v : View). IsWithin v.may_land start.may_land) (sym (rests is)) settled.sent
once_sent start mid new before holding bytes false settled is rests swapped = λ s may. settled.sent s ((swapped is).2.1.sent s may)

pub conflict_sent : (start mid new : View) (before holding : Holding) (bytes : List ℕ) → IsSettled before start mid → holding ≡ has_read (newest mid.chain) → IfSome holding.has (λ v. IsNot mid (swap_of v bytes) new) → IsWithin new.may_land start.may_land
conflict_sent start mid new before holding bytes settled read not =
    let is_not = subst (λ (h : Holding). IfSome h.has (λ v. IsNot mid (swap_of v bytes) new)) read not in
    λ s may. settled.sent s (⊎_elim (λ x. x) (λ (none : ⊥). absurd none) (is_not.goes.sent s may))
