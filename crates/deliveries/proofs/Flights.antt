-- The laws.
use Rattle.std.proofs.Common.{◌≡◌, ℕ, Bool, true, false, List, Option, Some, None, slice_get, refl, sym, ap, ◌∙◌, subst, if◌then◌else◌}
use Rattle.std.proofs.lemmas.Bool.{true≢false}
use Rattle.std.specs.Option.{option_and_then}
use Rattle.courier.specs.Table.{destination_at}
use Rattle.courier.specs.declared.flight.Flight as given
use Rattle.deliveries.proofs.Passing.{due-parts}
use Rattle.deliveries.specs.Laws.{GivenWaits, IsWaitingFor, NoneTwice, WaitsInLine, given_thing}
use Rattle.deliveries.specs.Ledger.{is_waiting}
use Rattle.deliveries.specs.Outbox.{Outbox}
use Rattle.deliveries.specs.Routes.{Routes, line_of, thing_at}
use Rattle.deliveries.specs.Sending.{IsOf}
use Rattle.deliveries.specs.declared.flight.Flight.{Flight}
use Rattle.deliveries.specs.declared.progress.Progress.{Progress}
use Rattle.deliveries.specs.declared.progress.Progress.TheVariants.{Waiting, Taken, Refused}
use Rattle.deliveries.specs.declared.thing.Thing.{Thing}

waiting-is : (o : Option Progress) → is_waiting o ≡ true → o ≡ Some Waiting
waiting-is None waits = absurd (true≢false (sym waits))
waiting-is (Some Waiting) waits = refl
waiting-is (Some Taken) waits = absurd (true≢false (sym waits))
waiting-is (Some (Refused number)) waits = absurd (true≢false (sym waits))

of-found : (routes : Routes) (boxes : List Outbox) (found : Option given.Flight) (flight : Flight) → IsOf routes boxes found (Some flight) → IsWaitingFor routes boxes flight
of-found routes boxes None flight its = absurd its
of-found routes boxes (Some f) flight its =
    let due = due-parts routes boxes f (given_thing flight) its.1 in
    record { out = waiting-is _ due.waits; route = due.route ∙ ap Some its.0 }

pub given-waits : GivenWaits
given-waits now routes boxes old new flight given = of-found routes boxes given.found flight given.its

flies-first : (flying : Bool) (items : List ℕ) (routes : Routes) (t : Thing) → option_and_then (thing_at routes) (if flying then slice_get items 0 else None) ≡ Some t → flying ≡ true
flies-first true items routes t flight = refl
flies-first false items routes t flight = absurd (cc)

pub none-twice : NoneTwice
none-twice ds routes boxes thing a b tied first second =
    let p = tied.routed.bound a (flies-first (destination_at ds a).flying (destination_at ds a).items routes thing first) in
    let q = tied.routed.bound b (flies-first (destination_at ds b).flying (destination_at ds b).items routes thing second) in
    let u = p.flight in
    let v = q.flight in
    let same : p.thing ≡ q.thing = cc in
    let l = p.route in
    let m = subst (λ t. line_of routes t ≡ Some b) (sym same) q.route in
    cc

pub waits-in-line : WaitsInLine
waits-in-line ds routes boxes thing tied waits = (tied.held thing).waits (ap is_waiting waits)
