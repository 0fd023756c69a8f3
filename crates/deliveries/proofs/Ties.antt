-- What stays tied as things are sent, given and answered.
use Rattle.std.proofs.Common.{◌≡◌, ⊎_elim, ◌⊎◌, inl, inr, ℕ, zero, suc, ◌<◌, ◌==◌, ◌||◌, Bool, true, false, List, [], ◌∷◌, ◌++◌, Option, Some, None, IsSome, is_some, slice_get, drop, length, length-set, refl, sym, ap, ap₂, ◌∙◌, subst, if◌then◌else◌}
use Rattle.std.proofs.lemmas.Bool.{cases_eq, cond_both, eq-eqb, false_from_ne_true, ne_eqb, true≢false, both_ways}
use Rattle.std.specs.Option.{option_and_then, option_map_or}
use Rattle.courier.proofs.Differing.{has-push}
use Rattle.courier.proofs.Keeping.{at-changed, at-other}
use Rattle.courier.proofs.Running.{at-put}
use Rattle.courier.specs.Destination.{Destination, flight_of, with_item}
use Rattle.courier.specs.Items.{has}
use Rattle.courier.specs.Table.{destination_at, flies_at, flight_at, is_out, put, with_changed}
use Rattle.deliveries.proofs.Keys.{is_thing-refl, same-thing}
use Rattle.deliveries.specs.Ledger.{IsInLine, IsRouted, is_flying, line_for, thing_in_flight}
use Rattle.deliveries.specs.Routes.{IsRedirected, Routes, is_thing, line_of, thing_at, with_thing}
use Rattle.deliveries.specs.Sending.{IsKnown}
use Rattle.deliveries.specs.declared.thing.Thing.{Thing}

-- ---- things that are known

known-none : (o : Option ℕ) → is_some o ≡ false → o ≡ None
known-none None none = refl
known-none (Some l) none = absurd (true≢false none)

known-some : (o : Option ℕ) (line : ℕ) → o ≡ Some line → is_some o ≡ true
known-some o line some = ap is_some some

-- behind the others a thing is found only if it wasn't among them
line-new : (routes : Routes) (one : Thing) (line : ℕ) → line_of routes one ≡ None → line_of (routes ++ (one, line) ∷ []) one ≡ Some line
line-new [] one line none = ap (λ b. if b then Some line else None) (is_thing-refl one)
line-new (r ∷ routes) one line none =
    ⊎_elim
    (λ same. absurd (true≢false (ap is_some (sym (ap (λ b. if b then Some r.1 else line_of routes one) same) ∙ none))))
    (λ other. ap (λ b. if b then Some r.1 else line_of (routes ++ (one, line) ∷ []) one) other ∙ line-new routes one line (sym (ap (λ b. if b then Some r.1 else line_of routes one) other) ∙ none))
    (either (is_thing one r.0))
  where
    either : (b : Bool) → (b ≡ true) ⊎ (b ≡ false)
    either true = inl refl
    either false = inr refl

line-other : (routes : Routes) (one t : Thing) (line : ℕ) → is_thing t one ≡ false → line_of (routes ++ (one, line) ∷ []) t ≡ line_of routes t
line-other [] one t line other = ap (λ b. if b then Some line else None) other
line-other (r ∷ routes) one t line other = ap (λ o. if is_thing t r.0 then Some r.1 else o) (line-other routes one t line other)

things-pushed : (routes : Routes) (one t : Thing) (line item : ℕ) → thing_at routes item ≡ Some t → thing_at (routes ++ (one, line) ∷ []) item ≡ Some t
things-pushed [] one t line item there = absurd (cc)
things-pushed (r ∷ routes) one t line zero there = there
things-pushed (r ∷ routes) one t line (suc item) there = things-pushed routes one t line item there

is_thing-sym : (a b : Thing) → is_thing a b ≡ false → is_thing b a ≡ false
is_thing-sym a b other = false_from_ne_true _ (λ same. both_ways _ other (subst (λ t. is_thing a t ≡ true) (sym (same-thing b a same)) (is_thing-refl a)))

-- what one that is interned is, and what the others stay
pub record IsInterned (one : Thing) (to : ℕ) (old new : Routes) : Type 0 where
  pub known : IsSome (line_of new one)
  pub line : line_of old one ≡ None → line_of new one ≡ Some to
  pub same : (t : Thing) (l : ℕ) → line_of old t ≡ Some l → line_of new t ≡ Some l
  pub lines : (t : Thing) → is_thing one t ≡ false → line_of new t ≡ line_of old t
  pub things : (item : ℕ) (t : Thing) → thing_at old item ≡ Some t → thing_at new item ≡ Some t

interned-by : (one : Thing) (to : ℕ) (old new : Routes) (b : Bool) → is_some (line_of old one) ≡ b → new ≡ (if b then old else old ++ (one, to) ∷ []) → IsInterned one to old new
interned-by one to old new true some is =
    record {
      known = rw is some;
      line = λ none. absurd (true≢false (sym some ∙ ap is_some none));
      same = λ t l there. rw is there;
      lines = λ t other. ap (λ r. line_of r t) is;
      things = λ item t there. rw is there;
    }
interned-by one to old new false some is =
    let none = known-none _ some in
    record {
      known = rw is (known-some _ to (line-new old one to none));
      line = λ _. rw is (line-new old one to none);
      same = λ t l there. rw is (line-other old one t to (false_from_ne_true _ (λ same. true≢false (ap is_some (sym there ∙ ap (line_of old) (same-thing t one same) ∙ none)))) ∙ there);
      lines = λ t other. rw is (line-other old one t to (is_thing-sym one t other));
      things = λ item t there. rw is (things-pushed old one t to item there);
    }

pub interned : (one : Thing) (to : ℕ) (old new : Routes) → new ≡ with_thing one to old → IsInterned one to old new
interned one to old new is = interned-by one to old new (is_some (line_of old one)) refl is

pub known-redirected : (one : Thing) (to : ℕ) (old middle new : Routes) → IsInterned one to old middle → IsRedirected one to middle new → IsKnown one to old new
known-redirected one to old middle new first last =
    record {
      line = last.line first.known;
      lines = λ t other. last.others t other ∙ first.lines t other;
      things = λ item t there. ap (λ keys. slice_get keys item) last.things ∙ first.things item t there;
    }

-- ---- what is in flight

either : (b : Bool) → (b ≡ true) ⊎ (b ≡ false)
either true = inl refl
either false = inr refl

-- things that are known stay so
flight-stays : (ds : List Destination) (old new : Routes) (line : ℕ) (t : Thing) → ((item : ℕ) (t : Thing) → thing_at old item ≡ Some t → thing_at new item ≡ Some t) → thing_in_flight ds old line ≡ Some t → thing_in_flight ds new line ≡ Some t
flight-stays ds old new line t things flight = by (flight_at ds line) refl flight
  where
    by : (o : Option ℕ) → flight_at ds line ≡ o → option_and_then (thing_at old) o ≡ Some t → option_and_then (thing_at new) (flight_at ds line) ≡ Some t
    by None is flight = absurd (cc)
    by (Some item) is flight = ap (option_and_then (thing_at new)) is ∙ things item t flight

-- to be in flight is to be for that destination
flying-line : (ds : List Destination) (routes : Routes) (line : ℕ) (one : Thing) → thing_in_flight ds routes line ≡ Some one → is_flying ds routes one line ≡ true
flying-line ds routes line one flight = ap (λ o. option_map_or (is_thing one) o false) flight ∙ is_thing-refl one

-- what is in flight to its own destination stays for that
pub line_for-flying : (ds : List Destination) (routes : Routes) (line told : ℕ) (one : Thing) → thing_in_flight ds routes line ≡ Some one → line_of routes one ≡ Some line → line_for ds routes one told ≡ line
line_for-flying ds routes line told one flight route =
    ap (λ o. option_map_or (λ l. if is_flying ds routes one l then l else told) o told) route
    ∙ ap (λ b. if b then line else told) (flying-line ds routes line one flight)

-- for which destination a thing is, is one that is there
pub line_for-within : (ds : List Destination) (routes : Routes) (told : ℕ) (one : Thing) → IsRouted ds routes → told < length ds → line_for ds routes one told < length ds
line_for-within ds routes told one routed within = by (line_of routes one) refl
  where
    by : (o : Option ℕ) → line_of routes one ≡ o → option_map_or (λ l. if is_flying ds routes one l then l else told) o told < length ds
    by None is = within
    by (Some line) is = cond_both (is_flying ds routes one line) line told (λ l. l < length ds) (λ _. routed.within one line is) (λ _. within)

-- ---- a thing is sent

pub routed-known : (ds : List Destination) (one : Thing) (told : ℕ) (old new : Routes) → IsRouted ds old → told < length ds → IsKnown one (line_for ds old one told) old new → IsRouted ds new
routed-known ds one told old new routed within known =
    record {
      within = λ t line there.
          ⊎_elim
          (λ same.
          let is = same-thing one t same in
          let to : line_for ds old one told ≡ line = let h = known.line in let k = subst (λ t. line_of new t ≡ Some line) (sym is) there in cc in
          subst (λ l. l < length ds) to (line_for-within ds old told one routed within))
          (λ other. routed.within t line (sym (known.lines t other) ∙ there))
          (either (is_thing one t));
      bound = λ line flies.
          let was = routed.bound line flies in
          record {
            thing = was.thing;
            flight = flight-stays ds old new line was.thing known.things was.flight;
            route = ⊎_elim
                (λ same.
                let is = same-thing one was.thing same in
                let flight = subst (λ t. thing_in_flight ds old line ≡ Some t) (sym is) was.flight in
                let route = subst (λ t. line_of old t ≡ Some line) (sym is) was.route in
                subst (λ t. line_of new t ≡ Some line) is (known.line ∙ ap Some (line_for-flying ds old line told one flight route)))
                (λ other. known.lines was.thing other ∙ was.route)
                (either (is_thing one was.thing));
          };
    }

pub routed-interned : (ds : List Destination) (one : Thing) (told : ℕ) (old new : Routes) → IsRouted ds old → told < length ds → IsInterned one (line_for ds old one told) old new → IsRouted ds new
routed-interned ds one told old new routed within known = by (line_of old one) refl
  where
    by : (o : Option ℕ) → line_of old one ≡ o → IsRouted ds new
    by None none = routed-known ds one told old new routed within (record { line = known.line none; lines = known.lines; things = known.things })
    by (Some l) some =
        record {
          within = λ t line there.
              ⊎_elim
              (λ same.
              let is = same-thing one t same in
              let h = known.same one l some in
              let k = subst (λ t. line_of new t ≡ Some line) (sym is) there in
              let to : l ≡ line = cc in
              subst (λ l. l < length ds) to (routed.within one l some))
              (λ other. routed.within t line (sym (known.lines t other) ∙ there))
              (either (is_thing one t));
          bound = λ line flies.
              let was = routed.bound line flies in
              record {
                thing = was.thing;
                flight = flight-stays ds old new line was.thing known.things was.flight;
                route = known.same was.thing line was.route;
              };
        }

pub in-line-interned : (ds : List Destination) (one t : Thing) (to : ℕ) (old new : Routes) → IsInterned one to old new → IsInLine ds old t → IsInLine ds new t
in-line-interned ds one t to old new known was =
    record { item = was.item; line = was.line; thing = known.things was.item t was.thing; route = known.same t was.line was.route; out = was.out }

-- what has a destination keeps one
some-is : (o : Option ℕ) → is_some o ≡ true → (line : ℕ) × (o ≡ Some line)
some-is None some = absurd (true≢false (sym some))
some-is (Some line) some = (line, refl)

pub interned-lined : (one t : Thing) (to : ℕ) (old new : Routes) → IsInterned one to old new → is_some (line_of old t) ≡ true → is_some (line_of new t) ≡ true
interned-lined one t to old new known some = let l = some-is (line_of old t) some in ap is_some (known.same t l.0 l.1)

pub known-lined : (one t : Thing) (to : ℕ) (old new : Routes) → IsKnown one to old new → is_some (line_of old t) ≡ true → is_some (line_of new t) ≡ true
known-lined one t to old new known some =
    ⊎_elim
    (λ same. subst (λ u. is_some (line_of new u) ≡ true) (same-thing one t same) (ap is_some known.line))
    (λ other. ap is_some (known.lines t other) ∙ some)
    (either (is_thing one t))

-- ---- an item is put

length-put : (item : ℕ) (ds : List Destination) (k : ℕ) → length (put item ds k) ≡ length ds
length-put item ds k = cond_both (is_out ds k item) ds (with_changed (with_item item) ds k) (λ all. length all ≡ length ds) (λ _. refl) (λ _. length-set ds k (with_item item (destination_at ds k)))

out-put : (item : ℕ) (ds : List Destination) (k line other : ℕ) → k < length ds → is_out ds line other ≡ true → is_out (put item ds k) line other ≡ true
out-put item ds k line other within out =
    at-put (λ d. has other d.items ≡ true) item ds k line within out
    (λ _. has-push other item (destination_at ds line).items ∙ ap (λ b. b || item == other) out)

out-new : (item : ℕ) (ds : List Destination) (k : ℕ) → k < length ds → is_out (put item ds k) k item ≡ true
out-new item ds k within =
    let d = destination_at ds k in
    cond_both (is_out ds k item) ds (with_changed (with_item item) ds k) (λ all. is_out all k item ≡ true) (λ out. out)
    (λ none. ap (λ e. has item e.items) (at-changed ds k (with_item item d) within) ∙ has-push item item d.items ∙ ap₂ (λ a b. a || b) none (eq-eqb item item refl))

flies-put : (item : ℕ) (ds : List Destination) (k line : ℕ) → k < length ds → flies_at (put item ds k) line ≡ flies_at ds line
flies-put item ds k line within = at-put (λ d. d.flying ≡ flies_at ds line) item ds k line within refl (λ _. refl)

first-pushed : (routes : Routes) (flying : Bool) (items : List ℕ) (item : ℕ) (t : Thing) → option_and_then (thing_at routes) (if flying then slice_get items 0 else None) ≡ Some t → option_and_then (thing_at routes) (if flying then slice_get (items ++ item ∷ []) 0 else None) ≡ Some t
first-pushed routes false items item t flight = absurd (cc)
first-pushed routes true [] item t flight = absurd (cc)
first-pushed routes true (x ∷ items) item t flight = flight

flight-put : (item : ℕ) (ds : List Destination) (routes : Routes) (k line : ℕ) (t : Thing) → k < length ds → thing_in_flight ds routes line ≡ Some t → thing_in_flight (put item ds k) routes line ≡ Some t
flight-put item ds routes k line t within flight =
    at-put (λ d. option_and_then (thing_at routes) (flight_of d) ≡ Some t) item ds k line within flight
    (λ _. first-pushed routes (destination_at ds line).flying (destination_at ds line).items item t flight)

pub routed-put : (item : ℕ) (ds : List Destination) (routes : Routes) (k : ℕ) → k < length ds → IsRouted ds routes → IsRouted (put item ds k) routes
routed-put item ds routes k within routed =
    record {
      within = λ t line there. subst (λ n. line < n) (sym (length-put item ds k)) (routed.within t line there);
      bound = λ line flies.
          let was = routed.bound line (sym (flies-put item ds k line within) ∙ flies) in
          record { thing = was.thing; flight = flight-put item ds routes k line was.thing within was.flight; route = was.route };
    }

pub in-line-put : (item : ℕ) (ds : List Destination) (routes : Routes) (k : ℕ) (t : Thing) → k < length ds → IsInLine ds routes t → IsInLine (put item ds k) routes t
in-line-put item ds routes k t within was =
    record { item = was.item; line = was.line; thing = was.thing; route = was.route; out = out-put item ds k was.line was.item within was.out }

-- ---- what a send leaves

in-line-other : (ds : List Destination) (one t : Thing) (to : ℕ) (old new : Routes) → IsKnown one to old new → is_thing one t ≡ false → IsInLine ds old t → IsInLine ds new t
in-line-other ds one t to old new known other was =
    record { item = was.item; line = was.line; thing = known.things was.item t was.thing; route = known.lines t other ∙ was.route; out = was.out }

-- it was put, or it needn't be
pub data IsDone (waits : Bool) (ds : List Destination) (item line : ℕ) (new : List Destination) : Type 0 where
  Put : waits ≡ true → new ≡ put item ds line → IsDone waits ds item line new
  Left : waits ≡ false → new ≡ ds → IsDone waits ds item line new

pub done-put : {waits : Bool} → {ds : List Destination} → {item line : ℕ} → {new : List Destination} → IsDone waits ds item line new → new ≡ (if waits then put item ds line else ds)
done-put {waits} {ds} {item} {line} {new} (Put on is) = is ∙ sym (ap (λ b. if b then put item ds line else ds) on)
done-put {waits} {ds} {item} {line} {new} (Left off is) = is ∙ sym (ap (λ b. if b then put item ds line else ds) off)

module _ (waits : Bool) (ds : List Destination) (item : ℕ) (after : List Destination) (one : Thing) (told : ℕ) (old new : Routes) (routed : IsRouted ds old) (within : told < length ds) (known : IsKnown one (line_for ds old one told) old new) (there : thing_at new item ≡ Some one) where
  to-within : line_for ds old one told < length ds
  to-within = line_for-within ds old told one routed within

  pub routed-sent : IsDone waits ds item (line_for ds old one told) after → IsRouted after new
  routed-sent (Put on is) = rw is (routed-put item ds new (line_for ds old one told) to-within (routed-known ds one told old new routed within known))
  routed-sent (Left off is) = rw is (routed-known ds one told old new routed within known)

  pub long-sent : IsDone waits ds item (line_for ds old one told) after → length after ≡ length ds
  long-sent (Put on is) = rw is (length-put item ds (line_for ds old one told))
  long-sent (Left off is) = ap length is

  pub in-line-sent : IsDone waits ds item (line_for ds old one told) after → waits ≡ true → IsInLine after new one
  in-line-sent (Put on is) waiting = rw is (record { item = item; line = line_for ds old one told; thing = there; route = known.line; out = out-new item ds (line_for ds old one told) to-within })
  in-line-sent (Left off is) waiting = absurd (both_ways _ off waiting)

  pub kept-sent : (t : Thing) → IsDone waits ds item (line_for ds old one told) after → (is_thing one t ≡ true → waits ≡ true) → IsInLine ds old t → IsInLine after new t
  kept-sent t did waiting was =
      ⊎_elim
      (λ same. subst (IsInLine after new) (same-thing one t same) (in-line-sent did (waiting same)))
      (λ other. by did (in-line-other ds one t (line_for ds old one told) old new known other was))
      (either (is_thing one t))
    where
      by : IsDone waits ds item (line_for ds old one told) after → IsInLine ds new t → IsInLine after new t
      by (Put on is) now = rw is (in-line-put item ds new (line_for ds old one told) t to-within now)
      by (Left off is) now = rw is now

-- ---- the next, and how it ends

-- nothing is in flight to one destination any more, and the others are what they were
pub record IsEnded (k : ℕ) (ds after : List Destination) : Type 0 where
  pub long : length after ≡ length ds
  pub idle : flies_at after k ≡ false
  pub others : (line : ℕ) → (line ≡ k → ⊥) → destination_at after line ≡ destination_at ds line

pub ended-with_changed : (f : Destination → Destination) (ds : List Destination) (k : ℕ) → k < length ds → ((d : Destination) → (f d).flying ≡ false) → IsEnded k ds (with_changed f ds k)
ended-with_changed f ds k within idle =
    record {
      long = length-set ds k (f (destination_at ds k));
      idle = ap (λ d. d.flying) (at-changed ds k (f (destination_at ds k)) within) ∙ idle (destination_at ds k);
      others = λ line other. at-other ds k line (f (destination_at ds k)) other;
    }

pub routed-ended : (k : ℕ) (ds after : List Destination) (routes : Routes) → IsEnded k ds after → IsRouted ds routes → IsRouted after routes
routed-ended k ds after routes ended routed =
    record {
      within = λ t line there. subst (λ n. line < n) (sym ended.long) (routed.within t line there);
      bound = λ line flies.
          let other : line ≡ k → ⊥ = λ here. both_ways _ ended.idle (subst (λ j. flies_at after j ≡ true) here flies) in
          let same = ended.others line other in
          let was = routed.bound line (ap (λ d. d.flying) (sym same) ∙ flies) in
          record { thing = was.thing; flight = ap (λ d. option_and_then (thing_at routes) (flight_of d)) same ∙ was.flight; route = was.route };
    }

pub in-line-ended : (k : ℕ) (ds after : List Destination) (routes : Routes) (t : Thing) → IsEnded k ds after → IsInLine ds routes t → ((item : ℕ) → thing_at routes item ≡ Some t → line_of routes t ≡ Some k → is_out ds k item ≡ true → is_out after k item ≡ true) → IsInLine after routes t
in-line-ended k ds after routes t ended was stays =
    record {
      item = was.item;
      line = was.line;
      thing = was.thing;
      route = was.route;
      out = ⊎_elim
          (λ here. subst (λ j. is_out after j was.item ≡ true) (sym here) (stays was.item was.thing (subst (λ j. line_of routes t ≡ Some j) here was.route) (subst (λ j. is_out ds j was.item ≡ true) here was.out)))
          (λ other. ap (λ d. has was.item d.items) (ended.others was.line other) ∙ was.out)
          (cases_eq was.line k);
    }

-- the first goes, and the others stay
pub has-behind : (item first : ℕ) (items : List ℕ) → has item items ≡ true → slice_get items 0 ≡ Some first → (first ≡ item → ⊥) → has item (drop 1 items) ≡ true
has-behind item first [] there is other = absurd (cc)
has-behind item first (x ∷ items) there is other =
    let same : x ≡ first = cc in
    sym (ap (λ b. b || has item items) (ne_eqb x item (λ here. other (sym same ∙ here)))) ∙ there
