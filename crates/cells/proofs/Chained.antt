-- What many holders add to the values of a cell is one chain.
use Rattle.std.proofs.Common.{◌≡◌, ◌≢◌, ◌⊎◌, inl, inr, ⊎_elim, ◌<◌, ◌≤◌, ℕ, ◌==◌, Bool, true, false, cond, List, [], ◌∷◌, ◌++◌, length, length-append, take, get_or, set, ◌+◌, refl, sym, ◌∙◌, ap, subst, arith}
use Rattle.std.specs.Prelude.{Option, Some, None, ⊤, unwrap_or}
use Rattle.std.proofs.lemmas.Bool.{cases_eq, eq-eqb, ne_eqb}
use Rattle.std.proofs.lemmas.List.{get_or-set_same, get_or-set_other, get_or_read, length-set, take_more}
use Rattle.keepers.specs.Crash.{IsWithin}
use Rattle.cells.specs.Calls.{Sends}
use Rattle.cells.specs.Chain.{Grows, IsMadeBy, Links, Makes, Swap, Version, View, newest, no_version}
use Rattle.cells.specs.Keeping.{Holding, new_holding, swap_of, touch_of}
use Rattle.cells.specs.Runs.{Acts, DoneCall, IsOfHolder, IsRising, Leaves, history_after, history_of, swap_by_call, version_of}
use Rattle.cells.specs.declared.act.Act.{Act}
use Rattle.cells.specs.declared.act.Act.TheVariants.{Read, Swap as Swaps, Touch}
use Rattle.cells.specs.declared.call.Call.{Call}
use Rattle.cells.proofs.Growing.{Sent, grows_join, grows_not, grows_widen}

-- ---- values that were held

abbrev WasHeld : Version → List Version → Type 0
WasHeld a [] = a ≡ no_version
WasHeld a (v ∷ before) = (a ≡ v) ⊎ WasHeld a before

is_held : (chain : List Version) → WasHeld (newest chain) chain
is_held [] = refl
is_held (v ∷ before) = inl refl

was_more : (added old : List Version) (a : Version) → WasHeld a old → WasHeld a (added ++ old)
was_more [] old a was = was
was_more (v ∷ added) old a was = inr (was_more added old a was)

was_low : (chain : List Version) (a : Version) → IsRising chain → WasHeld a chain → a.revision ≤ (newest chain).revision
was_low [] a rises was = omega (arith, ap (λ (v : Version). v.revision) was)
was_low (v ∷ before) a rises was = ⊎_elim (λ (is : a ≡ v). omega (arith, ap (λ (v : Version). v.revision) is)) (λ (earlier : WasHeld a before). omega (arith, was_low before a rises.1 earlier, rises.0)) was

only_one : (chain : List Version) (a : Version) → IsRising chain → WasHeld a chain → a.revision ≡ (newest chain).revision → a ≡ newest chain
only_one [] a rises was same = was
only_one (v ∷ before) a rises was same = ⊎_elim (λ (is : a ≡ v). is) (λ (earlier : WasHeld a before). absurd (omega (arith, was_low before a rises.1 earlier, rises.0, same))) was

rising_more : (X : Sent) (added old : List Version) → IsRising old → Links (IsMadeBy X) added old → IsRising (added ++ old)
rising_more X [] old rises links = rises
rising_more X (b ∷ added) old rises links = (subst (λ n. n < b.revision) refl links.0.2.later, rising_more X added old rises links.1)

-- ---- swaps that were sent

-- what an act asks of the bytes
abbrev AsksBytes : Act → Swap → Type 0
AsksBytes Read s = ⊥
AsksBytes (Swaps bytes) s = s.bytes ≡ Some bytes.items
AsksBytes Touch s = s.bytes ≡ None

-- it is of this value
abbrev IsAskedOf : Act → Version → Swap → Type 0
IsAskedOf act a s = (s.over ≡ a.revision) × AsksBytes act s

leaves : (act : Act) (a b : Version) (s : Swap) → AsksBytes act s → b.bytes ≡ unwrap_or s.bytes a.bytes → Leaves act a b
leaves Read a b s asks bytes = absurd asks
leaves (Swaps new) a b s asks bytes = bytes ∙ ap (λ o. unwrap_or o a.bytes) asks
leaves Touch a b s asks bytes = bytes ∙ ap (λ o. unwrap_or o a.bytes) asks

-- a call of the history sent it, of a value that was held
abbrev IsSent : List DoneCall → List Version → Swap → Type 0
IsSent [] chain s = ⊥
IsSent (done ∷ before) chain s = ((a : Version) × (version_of before done.holder ≡ Some a) × WasHeld a chain × IsAskedOf done.act a s) ⊎ IsSent before chain s

sent_more : (history : List DoneCall) (added old : List Version) (s : Swap) → IsSent history old s → IsSent history (added ++ old) s
sent_more [] added old s sent = absurd sent
sent_more (done ∷ before) added old s sent = ⊎_elim (λ (own : (a : Version) × (version_of before done.holder ≡ Some a) × WasHeld a old × IsAskedOf done.act a s). inl (own.0, own.1, was_more added old own.0 own.2, own.3)) (λ (earlier : IsSent before old s). inr (sent_more before added old s earlier)) sent

-- what such a swap makes is of a holder that had the value before
of_holder : (history : List DoneCall) (chain : List Version) (s : Swap) (b : Version) → IsRising chain → IsSent history chain s → Makes s (newest chain) b → IsOfHolder history (newest chain) b
of_holder [] chain s b rises sent makes = absurd sent
of_holder (done ∷ before) chain s b rises sent makes =
    ⊎_elim
    (λ (own : (a : Version) × (version_of before done.holder ≡ Some a) × WasHeld a chain × IsAskedOf done.act a s).
    let is : own.0 ≡ newest chain = only_one chain own.0 rises own.2 (sym own.3.0 ∙ makes.over) in
    inl (own.1 ∙ ap Some is, leaves done.act (newest chain) b s own.3.1 makes.bytes, makes.later))
    (λ (earlier : IsSent before chain s). inr (of_holder before chain s b rises earlier makes))
    sent

links_of_holders : (history : List DoneCall) (X : Sent) (added old : List Version) → IsRising old → ((s : Swap) → X s → IsSent history old s) → Links (IsMadeBy X) added old → Links (IsOfHolder history) added old
links_of_holders history X [] old rises sent links = _
links_of_holders history X (b ∷ added) old rises sent links =
    (of_holder history (added ++ old) links.0.0 b (rising_more X added old rises links.1) (sent_more history added old links.0.0 (sent links.0.0 links.0.1)) links.0.2, links_of_holders history X added old rises sent links.1)

-- ---- one call more

abbrev AskedOf : Act → Option Version → Swap → Type 0
AskedOf act has s = (a : Version) × (has ≡ Some a) × IsAskedOf act a s

same_swap : (s t : Swap) → Some s ≡ Some t → s ≡ t
same_swap s t same = cc same

asked_of_parts : (act : Act) (has : Option Version) (o : Bool) (s : Swap) → swap_by_call act record { has = has; is_open = o } ≡ Some s → AskedOf act has s
asked_of_parts Read has o s is = absurd (cc is)
asked_of_parts (Swaps bytes) (Some a) false s is = let same = same_swap _ _ is in (a, refl, (ap (λ (s : Swap). s.over) (sym same), ap (λ (s : Swap). s.bytes) (sym same)))
asked_of_parts (Swaps bytes) (Some a) true s is = absurd (cc is)
asked_of_parts (Swaps bytes) None o s is = absurd (cc is)
asked_of_parts Touch (Some a) true s is = let same = same_swap _ _ is in (a, refl, (ap (λ (s : Swap). s.over) (sym same), ap (λ (s : Swap). s.bytes) (sym same)))
asked_of_parts Touch (Some a) false s is = absurd (cc is)
asked_of_parts Touch None o s is = absurd (cc is)

asked_of : (act : Act) (holding : Holding) (s : Swap) → swap_by_call act holding ≡ Some s → AskedOf act holding.has s
asked_of act holding = asked_of_parts act holding.has holding.is_open

pub record IsSound (history : List DoneCall) (start : List Version) (v : View) (holders : List Holding) : Type 0 where
  pub grows : Grows (IsOfHolder history) start v.chain
  pub rises : IsRising v.chain
  pub sent : (s : Swap) → v.may_land s → IsSent history v.chain s
  pub has : (h : ℕ) → h < length holders → (get_or holders h new_holding).has ≡ version_of history h
  pub was : (h : ℕ) (a : Version) → version_of history h ≡ Some a → WasHeld a v.chain

-- it is so before the first call
pub sound_first : (v : View) (holders : List Holding) → IsRising v.chain → ((s : Swap) → v.may_land s → ⊥) → ((h : ℕ) → h < length holders → get_or holders h new_holding ≡ new_holding) → IsSound [] v.chain v holders
sound_first v holders rises none idles = record {
  grows = grows_not _ v.chain;
  rises = rises;
  sent = none;
  has = λ h within. ap (λ (x : Holding). x.has) (idles h within);
  was = λ h a is. absurd (cc is);
}

abbrev done_of : ℕ → Act → Holding → DoneCall
done_of h act x = record { holder = h; act = act; has = x.has }

had_same : (h : ℕ) (act : Act) (x : Holding) (history : List DoneCall) (k : ℕ) → h ≡ k → version_of (done_of h act x ∷ history) k ≡ x.has
had_same h act x history k is = ap (λ b. cond b x.has (version_of history k)) (eq-eqb h k is)

had_other : (h : ℕ) (act : Act) (x : Holding) (history : List DoneCall) (k : ℕ) → h ≢ k → version_of (done_of h act x ∷ history) k ≡ version_of history k
had_other h act x history k not = ap (λ b. cond b x.has (version_of history k)) (ne_eqb h k not)

has_next : (history : List DoneCall) (holders : List Holding) (h : ℕ) (act : Act) (new : Holding) (k : ℕ) → h < length holders → k < length holders → ((k : ℕ) → k < length holders → (get_or holders k new_holding).has ≡ version_of history k) → (get_or (set holders h new) k new_holding).has ≡ version_of (done_of h act new ∷ history) k
has_next history holders h act new k within inside has =
    ⊎_elim
    (λ (is : h ≡ k). ap (λ (x : Holding). x.has) (subst (λ n. get_or (set holders h new) n new_holding ≡ new) is (get_or-set_same holders h new new_holding within)) ∙ sym (had_same h act new history k is))
    (λ (not : h ≢ k). ap (λ (x : Holding). x.has) (get_or-set_other holders h k new new_holding (λ e. not (sym e))) ∙ (has k inside ∙ sym (had_other h act new history k not)))
    (cases_eq h k)

was_next : (history : List DoneCall) (h : ℕ) (act : Act) (new : Holding) (k : ℕ) (a : Version) (chain : List Version) → version_of (done_of h act new ∷ history) k ≡ Some a → (new.has ≡ Some a → WasHeld a chain) → (version_of history k ≡ Some a → WasHeld a chain) → WasHeld a chain
was_next history h act new k a chain is new_one earlier =
    ⊎_elim
    (λ (same : h ≡ k). new_one (sym (had_same h act new history k same) ∙ is))
    (λ (not : h ≢ k). earlier (sym (had_other h act new history k not) ∙ is))
    (cases_eq h k)

some_same : (a b : Version) → Some a ≡ Some b → a ≡ b
some_same a b same = cc same

-- a call keeps it so
pub sound_next : (history : List DoneCall) (start : List Version) (v w : View) (holders : List Holding) (h : ℕ) (act : Act) (new : Holding) → h < length holders → IsSound history start v holders → Acts act (get_or holders h new_holding) new v w → IsSound (done_of h act new ∷ history) start w (set holders h new)
sound_next history start v w holders h act new within sound acts =
    let old = get_or holders h new_holding in
    let had_it = sound.has h within in
    let X : Sent = λ s. v.may_land s ⊎ (swap_by_call act old ≡ Some s) in
    let next : List DoneCall = done_of h act new ∷ history in
    let is_sent : (s : Swap) → X s → IsSent next v.chain s = λ s.
    ⊎_elim (λ (may : v.may_land s). inr (sound.sent s may)) (λ (is : swap_by_call act old ≡ Some s).
    let of = asked_of act old s is in
    let had_of : version_of history h ≡ Some of.0 = sym had_it ∙ of.1 in
    inl (of.0, had_of, sound.was h of.0 had_of, of.2)) in
    let g = acts.sends.grows in
    let more : (a : Version) → WasHeld a v.chain → WasHeld a w.chain = λ a was. subst (WasHeld a) (sym g.is) (was_more g.added v.chain a was) in
    let was_new : (a : Version) → new.has ≡ Some a → WasHeld a w.chain = λ a is.
    ⊎_elim (λ (none : new.has ≡ None). absurd (cc (none, is)))
    (⊎_elim (λ (same : new.has ≡ old.has). more a (sound.was h a (sym had_it ∙ (sym same ∙ is))))
    (λ (now : new.has ≡ Some (newest w.chain)). subst (λ b. WasHeld b w.chain) (some_same _ _ (sym now ∙ is)) (is_held w.chain)))
    acts.has in
    record {
      grows = grows_join (IsOfHolder next) start v.chain w.chain
          (grows_widen (IsOfHolder history) (IsOfHolder next) (λ a b. inr) start v.chain sound.grows)
          record { added = g.added; is = g.is; links = links_of_holders next X g.added v.chain sound.rises is_sent g.links };
      rises = subst IsRising (sym g.is) (rising_more X g.added v.chain sound.rises g.links);
      sent = λ s may. subst (λ (c : List Version). IsSent next c s) (sym g.is) (sent_more next g.added v.chain s (is_sent s (acts.sends.sent s may)));
      has = λ k inside. has_next history holders h act new k within (subst (λ n. k < n) (length-set holders h new) inside) sound.has;
      was = λ k a is. was_next history h act new k a w.chain is (was_new a) (λ earlier. more a (sound.was k a earlier));
    }

-- ---- all calls

abbrev done_call : Call → Option Version → DoneCall
done_call call has = record { holder = call.holder; act = call.act; has = has }

-- one call more is the newest
pub history_more : (before : List DoneCall) (calls : List Call) (told : List (Option Version)) (call : Call) (has : Option Version) → length told ≡ length calls → history_after before (calls ++ call ∷ []) (told ++ has ∷ []) ≡ done_call call has ∷ history_after before calls told
history_more before [] [] call has same = refl
history_more before [] (t ∷ told) call has same = absurd (cc same)
history_more before (c ∷ calls) [] call has same = absurd (cc same)
history_more before (c ∷ calls) (t ∷ told) call has same = history_more (done_call c t ∷ before) calls told call has (cc same)

pub told_more : (calls : List Call) (i : ℕ) (call : Call) (told : List (Option Version)) (has : Option Version) → i < length calls → length told ≡ length (take i calls) → length (told ++ has ∷ []) ≡ length (take (i + 1) calls)
told_more calls i call told has within same = length-append told (has ∷ []) ∙ (ap (λ n. n + 1) same ∙ sym (ap length (take_more calls i call within) ∙ length-append (take i calls) (get_or calls i call ∷ [])))

history_next : (calls : List Call) (i : ℕ) (call : Call) (told : List (Option Version)) (has : Option Version) → i < length calls → call ≡ get_or calls i call → length told ≡ length (take i calls) → history_of (take (i + 1) calls) (told ++ has ∷ []) ≡ done_call call has ∷ history_of (take i calls) told
history_next calls i call told has within is same =
    ap (λ cs. history_of cs (told ++ has ∷ [])) (take_more calls i call within ∙ ap (λ c. take i calls ++ c ∷ []) (sym is))
    ∙ history_more [] (take i calls) told call has same

-- one call more adds to the chain
pub run_next : (calls : List Call) (i : ℕ) (call : Call) (start : List Version) (v w : View) (told : List (Option Version)) (holders : List Holding) (old new : Holding) → i < length calls → call ≡ get_or calls i call → call.holder < length holders → old ≡ get_or holders call.holder old → length told ≡ length (take i calls) → IsSound (history_of (take i calls) told) start v holders → Acts call.act old new v w → IsSound (history_of (take (i + 1) calls) (told ++ new.has ∷ [])) start w (set holders call.holder new)
run_next calls i call start v w told holders old new within is inside at same sound acts =
    subst (λ h. IsSound h start w (set holders call.holder new)) (sym (history_next calls i call told new.has within is same))
    (sound_next (history_of (take i calls) told) start v w holders call.holder call.act new inside sound
    (subst (λ (x : Holding). Acts call.act x new v w) (get_or_read holders call.holder old inside at new_holding) acts))
