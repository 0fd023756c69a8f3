-- What the courier gave and took back, and what stays tied.
use Rattle.std.proofs.Common.{◌≡◌, ⊎_elim, ℕ, ◌+◌, ◌<◌, ◌==◌, ◌&&◌, Bool, true, false, List, [], ◌∷◌, ◌++◌, Option, Some, None, is_some, slice_get, drop, length, length-set, All, refl, sym, ap, ap₂, ◌∙◌, subst, if◌then◌else◌, arith, rules}
use Rattle.std.proofs.lemmas.Bool.{and_parts, cases_eq, eqb-true, eq-eqb, true≢false, both_ways}
use Rattle.std.proofs.lemmas.List.Elements.{All-push}
use Rattle.std.proofs.lemmas.List.Sums.{sum_by-set}
use Rattle.std.specs.List.{sum_by}
use Rattle.std.specs.Option.{option_and_then, option_map_or}
use Rattle.courier.proofs.Differing.{has-turned}
use Rattle.courier.proofs.Keeping.{at-changed, at-other, flies-within}
use Rattle.courier.proofs.Running.{at-after_hearing, at-step}
use Rattle.courier.specs.Destination.{Destination, after_failed_try, after_hearing, after_start, after_withdrawal, flight_of, new_at}
use Rattle.courier.specs.Items.{has}
use Rattle.courier.specs.Runs.{Step, Give, Withdraw, IsRun, after_all, after}
use Rattle.courier.specs.Table.{IsNext, destination_at, flies_at, is_out, with_changed}
use Rattle.courier.specs.declared.flight.Flight.{Flight}
use Rattle.deliveries.proofs.Keys.{is_thing-refl, same-thing}
use Rattle.deliveries.proofs.Ties.{IsEnded, ended-with_changed, has-behind, in-line-ended, routed-ended}
use Rattle.deliveries.specs.Ledger.{IsBound, IsHeld, IsInLine, IsMarked, IsRouted, IsTied, due_thing, is_for, is_waiting, progress_of, progress_with, thing_in_flight}
use Rattle.deliveries.specs.Outbox.{Outbox}
use Rattle.deliveries.specs.Routes.{Routes, is_thing, line_of, thing_at}
use Rattle.deliveries.specs.Sending.{passes}
use Rattle.deliveries.specs.declared.progress.Progress.{Progress}
use Rattle.deliveries.specs.declared.progress.Progress.TheVariants.{Waiting}
use Rattle.deliveries.specs.declared.thing.Thing.{Thing}

-- ---- runs

passes-push : (now : ℕ) (fs : List Flight) (f : Flight) → passes now (fs ++ f ∷ []) ≡ passes now fs ++ Give now f ∷ Withdraw f.line ∷ []
passes-push now [] f = refl
passes-push now (g ∷ fs) f = ap (λ ss. Give now g ∷ Withdraw g.line ∷ ss) (passes-push now fs f)

after-append : (ds : List Destination) (a b : List Step) → after_all ds (a ++ b) ≡ after_all (after_all ds a) b
after-append ds [] b = refl
after-append ds (s ∷ a) b = after-append (after ds s) a b

run-append : (ds : List Destination) (a b : List Step) → IsRun ds a → IsRun (after_all ds a) b → IsRun ds (a ++ b)
run-append ds [] b first last = last
run-append ds (s ∷ a) b first last = (first.0, run-append (after ds s) a b first.1 last)

-- these were given and taken back
pub record IsPassed (now : ℕ) (routes : Routes) (boxes : List Outbox) (old new : List Destination) : Type 0 where
  pub passed : List Flight
  pub idle : All (λ f. due_thing routes boxes f ≡ None) passed
  pub run : IsRun old (passes now passed)
  pub after : new ≡ after_all old (passes now passed)

pub none-passed : (now : ℕ) (routes : Routes) (boxes : List Outbox) (old : List Destination) → IsPassed now routes boxes old old
none-passed now routes boxes old = record { passed = []; idle = search rules; run = tt; after = refl }

pub passed-push : (now : ℕ) (routes : Routes) (boxes : List Outbox) (old ds : List Destination) (f : Flight) → IsPassed now routes boxes old ds → IsNext now ds f → due_thing routes boxes f ≡ None → IsPassed now routes boxes old (with_changed after_withdrawal (with_changed after_start ds f.line) f.line)
passed-push now routes boxes old ds f was next idle =
    let flies = ap (λ d. d.flying) (at-changed ds f.line (after_start (destination_at ds f.line)) next.within) in
    let steps = passes-push now was.passed f in
    let more = subst (λ ds. IsRun ds (Give now f ∷ Withdraw f.line ∷ [])) was.after (next, (flies, tt)) in
    record {
      passed = was.passed ++ f ∷ [];
      idle = All-push (λ g. due_thing routes boxes g ≡ None) was.passed f was.idle idle;
      run = subst (IsRun old) (sym steps) (run-append old (passes now was.passed) (Give now f ∷ Withdraw f.line ∷ []) was.run more);
      after = ap (λ ds. with_changed after_withdrawal (with_changed after_start ds f.line) f.line) was.after ∙ sym (after-append old (passes now was.passed) (Give now f ∷ Withdraw f.line ∷ [])) ∙ ap (after_all old) (sym steps);
    }

-- one item fewer each time

some-first : (items : List ℕ) (item : ℕ) → slice_get items 0 ≡ Some item → length (drop 1 items) + 1 ≡ length items
some-first [] item first = absurd (cc)
some-first (x ∷ items) item first = omega arith

pub fewer : (now : ℕ) (ds : List Destination) (f : Flight) → IsNext now ds f → sum_by (λ d. length d.items) (with_changed after_withdrawal (with_changed after_start ds f.line) f.line) < sum_by (λ d. length d.items) ds
fewer now ds f next =
    let d = destination_at ds f.line in
    let middle = with_changed after_start ds f.line in
    let long : f.line < length middle = subst (λ n. f.line < n) (sym (length-set ds f.line (after_start d))) next.within in
    let first = sum_by-set (λ d. length d.items) ds f.line (after_start d) (new_at 0) next.within in
    let at = at-changed ds f.line (after_start d) next.within in
    let last = sum_by-set (λ d. length d.items) middle f.line (after_withdrawal (destination_at middle f.line)) (new_at 0) long in
    let items = ap (λ d. length (drop 1 d.items)) at in
    let same = ap (λ d. length d.items) at in
    let one = some-first d.items f.item next.item in
    omega arith

-- ---- what waits

is_for-true : (routes : Routes) (t : Thing) (line : ℕ) → is_for routes t line ≡ true → line_of routes t ≡ Some line
is_for-true routes t line its = by (line_of routes t) its
  where
    by : (o : Option ℕ) → option_map_or (λ l. l == line) o false ≡ true → o ≡ Some line
    by None its = absurd (true≢false (sym its))
    by (Some l) its = ap Some (eqb-true l line its)

pub due-some : (routes : Routes) (boxes : List Outbox) (f : Flight) (t : Thing) → thing_at routes f.item ≡ Some t → line_of routes t ≡ Some f.line → is_waiting (progress_of boxes t) ≡ true → due_thing routes boxes f ≡ Some t
due-some routes boxes f t there route waits =
    let its = ap (λ o. option_map_or (λ l. l == f.line) o false) route ∙ eq-eqb f.line f.line refl in
    ap (option_and_then (λ t. if is_for routes t f.line && is_waiting (progress_of boxes t) then Some t else None)) there
    ∙ ap (λ b. if b then Some t else None) (ap₂ (λ a b. a && b) its waits)

pub record IsDue (routes : Routes) (boxes : List Outbox) (f : Flight) (t : Thing) : Type 0 where
  pub there : thing_at routes f.item ≡ Some t
  pub route : line_of routes t ≡ Some f.line
  pub waits : is_waiting (progress_of boxes t) ≡ true

pub due-parts : (routes : Routes) (boxes : List Outbox) (f : Flight) (t : Thing) → due_thing routes boxes f ≡ Some t → IsDue routes boxes f t
due-parts routes boxes f t due = by (thing_at routes f.item) refl due
  where
    at : (u : Thing) (b : Bool) → (is_for routes u f.line && is_waiting (progress_of boxes u)) ≡ b → (if b then Some u else None) ≡ Some t → thing_at routes f.item ≡ Some u → IsDue routes boxes f t
    at u false test is there = absurd (cc)
    at u true test is there =
        let same : u ≡ t = cc in
        let parts = and_parts (is_for routes u f.line) (is_waiting (progress_of boxes u)) test in
        subst (IsDue routes boxes f) same (record { there = there; route = is_for-true routes u f.line parts.0; waits = parts.1 })

    by : (o : Option Thing) → thing_at routes f.item ≡ o → option_and_then (λ t. if is_for routes t f.line && is_waiting (progress_of boxes t) then Some t else None) o ≡ Some t → IsDue routes boxes f t
    by None there is = absurd (cc)
    by (Some u) there is = at u _ refl is there

-- ---- what stays tied

held-ended : (k : ℕ) (ds after : List Destination) (routes : Routes) (t : Thing) (had : Option Progress) → IsEnded k ds after → IsHeld ds routes t had → (is_waiting had ≡ true → (item : ℕ) → thing_at routes item ≡ Some t → line_of routes t ≡ Some k → is_out ds k item ≡ true → is_out after k item ≡ true) → IsHeld after routes t had
held-ended k ds after routes t had ended was stays =
    record {
      known = was.known;
      waits = λ waiting. in-line-ended k ds after routes t ended (was.waits waiting) (stays waiting);
    }

pub tied-passed : (now : ℕ) (ds : List Destination) (routes : Routes) (boxes : List Outbox) (f : Flight) → IsTied ds routes boxes → IsNext now ds f → due_thing routes boxes f ≡ None → IsTied (with_changed after_withdrawal (with_changed after_start ds f.line) f.line) routes boxes
tied-passed now ds routes boxes f tied next idle =
    let k = f.line in
    let d = destination_at ds k in
    let middle = with_changed after_start ds k in
    let long : k < length middle = subst (λ n. k < n) (sym (length-set ds k (after_start d))) next.within in
    let last = ended-with_changed after_withdrawal middle k long (λ d. refl) in
    let ended : IsEnded k ds (with_changed after_withdrawal middle k) = record {
      long = last.long ∙ length-set ds k (after_start d);
      idle = last.idle;
      others = λ line other. last.others line other ∙ at-other ds k line (after_start d) other;
    } in
    let at = at-changed middle k (after_withdrawal (destination_at middle k)) long ∙ ap after_withdrawal (at-changed ds k (after_start d) next.within) in
    record {
      routed = routed-ended k ds (with_changed after_withdrawal middle k) routes ended tied.routed;
      held = λ t. held-ended k ds (with_changed after_withdrawal middle k) routes t (progress_of boxes t) ended (tied.held t) (λ waiting item there route out.
          let behind = has-behind item f.item d.items out next.item (λ here. true≢false (ap is_some (sym (due-some routes boxes f t (subst (λ i. thing_at routes i ≡ Some t) (sym here) there) route waiting) ∙ idle))) in
          ap (λ d. has item d.items) at ∙ behind);
    }

pub tied-given : (now : ℕ) (ds : List Destination) (routes : Routes) (boxes : List Outbox) (f : Flight) (t : Thing) → IsTied ds routes boxes → IsNext now ds f → due_thing routes boxes f ≡ Some t → IsTied (with_changed after_start ds f.line) routes boxes
tied-given now ds routes boxes f t tied next due =
    let k = f.line in
    let d = destination_at ds k in
    let its = due-parts routes boxes f t due in
    let at = at-changed ds k (after_start d) next.within in
    record {
      routed = record {
        within = λ u line there. subst (λ n. line < n) (sym (length-set ds k (after_start d))) (tied.routed.within u line there);
        bound = λ line flies.
            ⊎_elim
            (λ here. subst (IsBound (with_changed after_start ds k) routes) here (record { thing = t; flight = ap (λ e. option_and_then (thing_at routes) (flight_of e)) at ∙ ap (option_and_then (thing_at routes)) next.item ∙ its.there; route = its.route }))
            (λ other.
            let same = at-other ds k line (after_start d) (λ here. other (sym here)) in
            let was = tied.routed.bound line (ap (λ e. e.flying) (sym same) ∙ flies) in
            record { thing = was.thing; flight = ap (λ e. option_and_then (thing_at routes) (flight_of e)) same ∙ was.flight; route = was.route })
            (cases_eq k line);
      };
      held = λ u.
          let was = tied.held u in
          record {
            known = was.known;
            waits = λ waiting.
                let line = was.waits waiting in
                record { item = line.item; line = line.line; thing = line.thing; route = line.route; out = at-step (λ e. has line.item e.items ≡ true) after_start ds k line.line next.within line.out (λ _. line.out) };
          };
    }

-- ---- how it ends

pub tied-after_failed_try : (now : ℕ) (ds : List Destination) (routes : Routes) (boxes : List Outbox) (k : ℕ) → flies_at ds k ≡ true → IsTied ds routes boxes → IsTied (with_changed (after_failed_try now) ds k) routes boxes
tied-after_failed_try now ds routes boxes k flies tied =
    let within = flies-within ds k flies in
    let ended = ended-with_changed (after_failed_try now) ds k within (λ d. refl) in
    record {
      routed = routed-ended k ds (with_changed (after_failed_try now) ds k) routes ended tied.routed;
      held = λ t. held-ended k ds (with_changed (after_failed_try now) ds k) routes t (progress_of boxes t) ended (tied.held t) (λ waiting item there route out.
          ap (λ d. has item d.items) (at-changed ds k (after_failed_try now (destination_at ds k)) within) ∙ has-turned item (destination_at ds k).items ∙ out);
    }

-- ---- where a destination is heard from

pub tied-after_hearing : (now : ℕ) (ds : List Destination) (routes : Routes) (boxes : List Outbox) (k : ℕ) → IsTied ds routes boxes → IsTied (with_changed (after_hearing now) ds k) routes boxes
tied-after_hearing now ds routes boxes k tied =
    record {
      routed = record {
        within = λ t line there. subst (λ n. line < n) (sym (length-set ds k (after_hearing now (destination_at ds k)))) (tied.routed.within t line there);
        bound = λ line flies.
            let same = at-after_hearing (λ d. d.flying ≡ (destination_at ds line).flying) now ds k line refl (λ _. refl) in
            let was = tied.routed.bound line (sym same ∙ flies) in
            record { thing = was.thing; flight = at-after_hearing (λ d. option_and_then (thing_at routes) (flight_of d) ≡ Some was.thing) now ds k line was.flight (λ _. was.flight); route = was.route };
      };
      held = λ t.
          let was = tied.held t in
          record {
            known = was.known;
            waits = λ waiting.
                let line = was.waits waiting in
                record { item = line.item; line = line.line; thing = line.thing; route = line.route; out = at-after_hearing (λ d. has line.item d.items ≡ true) now ds k line.line line.out (λ _. line.out) };
          };
    }

-- ---- what is settled, or sent again

then-none : (o to : Option Progress) → is_waiting to ≡ false → is_waiting (option_and_then (λ _. to) o) ≡ false
then-none None to idle = refl
then-none (Some p) to idle = idle

then-some : (o to : Option Progress) → is_some (option_and_then (λ _. to) o) ≡ true → is_some o ≡ true
then-some None to some = some
then-some (Some p) to some = refl

-- what is in flight goes, and waits no longer
pub tied-settled : (f : Destination → Destination) (ds : List Destination) (routes : Routes) (boxes after : List Outbox) (k : ℕ) (to : Option Progress) → flies_at ds k ≡ true → IsTied ds routes boxes → is_waiting to ≡ false → ((d : Destination) → (f d).items ≡ drop 1 d.items) → ((d : Destination) → (f d).flying ≡ false) → IsMarked (thing_in_flight ds routes k) to boxes after → IsTied (with_changed f ds k) routes after
tied-settled f ds routes boxes after k to flies tied idle items lands marked =
    record {
      routed = routed-ended k ds (with_changed f ds k) routes ended tied.routed;
      held = λ t. by t (is_thing u.thing t) refl;
    }
  where
    u : IsBound ds routes k
    u = tied.routed.bound k flies

    ended : IsEnded k ds (with_changed f ds k)
    ended = ended-with_changed f ds k (flies-within ds k flies) lands

    now : (t : Thing) → progress_of after t ≡ progress_with boxes u.thing to t
    now = subst (λ o. IsMarked o to boxes after) u.flight marked

    first : (t : Thing) (item : ℕ) (o : Option ℕ) → slice_get (destination_at ds k).items 0 ≡ o → option_and_then (thing_at routes) o ≡ Some u.thing → is_thing u.thing t ≡ false → thing_at routes item ≡ Some t → has item (destination_at ds k).items ≡ true → has item (drop 1 (destination_at ds k).items) ≡ true
    first t item None is flight other there out = absurd (cc)
    first t item (Some x) is flight other there out =
        has-behind item x (destination_at ds k).items out is
        (λ here.
        let at = subst (λ i. thing_at routes i ≡ Some u.thing) here flight in
        let same : u.thing ≡ t = cc in
        both_ways _ other (subst (λ v. is_thing u.thing v ≡ true) same (is_thing-refl u.thing)))

    by : (t : Thing) (b : Bool) → is_thing u.thing t ≡ b → IsHeld (with_changed f ds k) routes t (progress_of after t)
    by t true same =
        let is = now t ∙ ap (λ b. if b then option_and_then (λ _. to) (progress_of boxes t) else progress_of boxes t) same in
        record {
          known = λ some. (tied.held t).known (then-some (progress_of boxes t) to (ap is_some (sym is) ∙ some));
          waits = λ waiting. absurd (both_ways _ (then-none (progress_of boxes t) to idle) (ap is_waiting (sym is) ∙ waiting));
        }
    by t false other =
        let is = now t ∙ ap (λ b. if b then option_and_then (λ _. to) (progress_of boxes t) else progress_of boxes t) other in
        let flight = ap (λ b. option_and_then (thing_at routes) (if b then slice_get (destination_at ds k).items 0 else None)) (sym flies) ∙ u.flight in
        subst (IsHeld (with_changed f ds k) routes t) (sym is)
        (held-ended k ds (with_changed f ds k) routes t (progress_of boxes t) ended (tied.held t) (λ waiting item there route out.
        ap (λ e. has item e.items) (at-changed ds k (f (destination_at ds k)) (flies-within ds k flies)) ∙ ap (has item) (items (destination_at ds k)) ∙ first t item (slice_get (destination_at ds k).items 0) refl flight other there out))

pub tied-again : (old new : List Destination) (r s : Routes) (boxes after : List Outbox) (one : Thing) → IsTied old r boxes → IsRouted new s → IsInLine new s one → ((t : Thing) → IsInLine old r t → IsInLine new s t) → ((t : Thing) → is_some (line_of r t) ≡ true → is_some (line_of s t) ≡ true) → ((t : Thing) → progress_of after t ≡ progress_with boxes one (Some Waiting) t) → IsTied new s after
tied-again old new r s boxes after one tied routed in-line kept lined marked =
    record {
      routed = routed;
      held = λ t. by t (is_thing one t) refl;
    }
  where
    some-then : (o : Option Progress) → is_some (option_and_then (λ _. Some Waiting) o) ≡ true → is_some o ≡ true
    some-then None some = some
    some-then (Some p) some = refl

    by : (t : Thing) (b : Bool) → is_thing one t ≡ b → IsHeld new s t (progress_of after t)
    by t true same =
        let now = marked t ∙ ap (λ b. if b then option_and_then (λ _. Some Waiting) (progress_of boxes t) else progress_of boxes t) same in
        record {
          known = λ some. lined t ((tied.held t).known (some-then (progress_of boxes t) (ap is_some (sym now) ∙ some)));
          waits = λ _. subst (IsInLine new s) (same-thing one t same) in-line;
        }
    by t false other =
        let now = marked t ∙ ap (λ b. if b then option_and_then (λ _. Some Waiting) (progress_of boxes t) else progress_of boxes t) other in
        record {
          known = λ some. lined t ((tied.held t).known (ap is_some (sym now) ∙ some));
          waits = λ waiting. kept t ((tied.held t).waits (ap is_waiting (sym now) ∙ waiting));
        }
