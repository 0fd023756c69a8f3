-- In the beginning all is in order, and what is shown is the beginning of a shop.
use Rattle.std.proofs.Common.{◌≡◌, ◌∷◌, false, List, [], ℕ, map, Option, Some, None, is_some, if◌then◌else◌, refl, sym, ap, ◌∙◌, subst, arith}
use Rattle.std.proofs.lemmas.Bool.{and_parts, not-true, or_parts}
use Rattle.std.proofs.lemmas.List.Elements.{All-cons, All-nil}
use Rattle.std.specs.List.{All}
use Rattle.std.specs.Option.{option_map}
use Rattle.std.specs.Str.{bytes_eq}
use Rattle.ticket_items.specs.Ids.{mem}
use Rattle.ticket_rows.specs.Place.{Place, place_at, places}
use Rattle.controller.specs.declared.message.Message.{Message}
use Rattle.spawn.specs.Table.{holder_at}
use Rattle.world_items.specs.declared.holder.Holder.TheVariants.{Master}
use Rattle.master_core.specs.Master as master
use Rattle.worker_core.specs.Worker as worker
use Rattle.world.proofs.Shop.Paths.{same_shop}
use Rattle.world.specs.Controllers.{Controllers}
use Rattle.world.specs.Laws.{OpeningIsShown}
use Rattle.world.specs.Messages.{AreInOrder, AreRecorded, HasComeBack}
use Rattle.plain_shop.specs.Acts as acts
use Rattle.world.specs.Showing.{row_at, seen_shown, shop_shown}
use Rattle.world.specs.State.{IsConsistent, new_worker, opening, state}

-- each new worker has its name
named : (m : List ℕ) (names : List (List ℕ)) → map (λ (v : worker.State). v.name) (map (new_worker m) names) ≡ names
named m [] = refl
named m (x ∷ names) = ap (λ xs. x ∷ xs) (named m names)

-- and knows the master
known : (m : List ℕ) (names : List (List ℕ)) → All (λ (v : worker.State). v.master ≡ m) (map (new_worker m) names)
known m [] = All-nil _
known m (x ∷ names) = All-cons (λ (v : worker.State). v.master ≡ m) (new_worker m x) (map (new_worker m) names) refl (known m names)

-- a new worker of another name is in order
new_kept : (m x : List ℕ) → bytes_eq x m ≡ false → worker.IsConsistent (new_worker m x)
new_kept m x apart = record { apart = apart; once = refl; each = All-nil _ }

kept : (m : List ℕ) (names : List (List ℕ)) → mem m names ≡ false → All worker.IsConsistent (map (new_worker m) names)
kept m [] out = All-nil _
kept m (x ∷ names) out =
    let parts = or_parts (bytes_eq x m) (mem m names) out in
    All-cons worker.IsConsistent (new_worker m x) (map (new_worker m) names) (new_kept m x parts.0) (kept m names parts.1)

-- none has an entry
recorded : (c : Controllers) (m : List ℕ) (names : List (List ℕ)) → All (AreRecorded c) (map (new_worker m) names)
recorded c m [] = All-nil _
recorded c m (x ∷ names) = All-cons (AreRecorded c) (new_worker m x) (map (new_worker m) names) (All-nil _) (recorded c m names)

-- and nothing was sent
nothing_sent : (c : Controllers) → AreInOrder c []
nothing_sent c = record { each = All-nil _; one = λ m n here there both. absurd (omega (arith, here.1)) }

pub opening_kept : (m : master.State) (workers : List worker.State) (messages : List Message) → master.IsConsistent m → workers ≡ map (new_worker m.name) m.workers → messages ≡ [] → m.records ≡ [] → IsConsistent (state m workers messages)
opening_kept m workers messages ok is none nothing =
    let out : mem m.name m.workers ≡ false = not-true _ (and_parts _ _ ok.names).0 in
    let c : Controllers = record { master = m; workers = workers } in
    record {
      master = ok;
      named = ap (map (λ (v : worker.State). v.name)) is ∙ named m.name m.workers;
      known = subst (All (λ (v : worker.State). v.master ≡ m.name)) (sym is) (known m.name m.workers);
      workers = subst (All worker.IsConsistent) (sym is) (kept m.name m.workers out);
      recorded = subst (All (AreRecorded c)) (sym is) (recorded c m.name m.workers);
      messages = subst (AreInOrder c) (sym none) (nothing_sent c);
      back = subst (All (HasComeBack c)) (sym nothing) (All-nil _);
    }

-- ---- as it is shown

masters : (o : Option Place) → option_map (holder_at []) o ≡ (if is_some o then Some Master else None)
masters None = refl
masters (Some p) = refl

masters_row : (c : Controllers) (x : List ℕ) (o : Option Place) → row_at c x (option_map (holder_at []) o) ≡ seen_shown c x
masters_row c x None = refl
masters_row c x (Some p) = refl

pub opening_is_shown : OpeningIsShown
opening_is_shown name workers ticket =
    let c = (opening name workers ticket).controllers in
    ap (λ p. record { shop = p; tags = [] })
    (same_shop (shop_shown c) (acts.opening name workers ticket)
    (record {
      master = refl;
      workers = refl;
      job = refl;
      tree = refl;
      seen = λ x. refl;
      now = λ x. masters_row c x (place_at (places ticket.rows) x);
      holder = λ x. masters (place_at (places ticket.rows) x);
      spawns = refl;
    }))
