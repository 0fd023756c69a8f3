-- What the shop that is shown shows of the spawns that are out is what the master shows.
use Rattle.std.proofs.Common.{◌≡◌, ◌∙◌, ℕ, suc, ◌+◌, ◌<◌, ◌&&◌, ◌||◌, Bool, true, false, cond, List, [], ◌∷◌, map, get_or, Some, slice_get, refl, sym, ap, subst, arith}
use Rattle.std.proofs.lemmas.Bool.{le-leb}
use Rattle.std.proofs.lemmas.List.Elements.{All-filter, All-head, All-tail, filter_passes}
use Rattle.std.proofs.lemmas.Option.{slice_get-get_or}
use Rattle.std.specs.List.{All, filter, list_any}
use Rattle.std.specs.Str.{bytes_eq}
use Rattle.ticket_items.specs.Ids.{mem}
use Rattle.ticket_items.specs.declared.node_row.NodeRow.{NodeRow}
use Rattle.ticket_items.specs.declared.resource.Resource.{Resource}
use Rattle.ticket_items.specs.declared.spawn_status.SpawnStatus.TheVariants.{SpawnedRO, SpawnedRW}
use Rattle.ticket_rows.specs.Place.{Place, Thing, named_thing, named_thing_at, nodes_in, places, resources_in}
use Rattle.spawn.proofs.Tests.{any_mapped}
use Rattle.spawn.proofs.Chosen.{filter_as, filter_twice}
use Rattle.plain_shop.specs.Claim.{ids_of, linked_ro}
use Rattle.spawn.specs.Laws.{StandApart}
use Rattle.spawn.specs.Marking.{copies, copies_rw, in_order, mark, put_in, records_out}
use Rattle.spawn.specs.Records as records
use Rattle.spawn.specs.Records.{IsGood}
use Rattle.spawn.specs.declared.records.spawn_rec.SpawnRec.{SpawnRec}
use Rattle.master_core.specs.Master.{IsNumbered}
use Rattle.world.proofs.Worker.TakenSpawns.{out_shown}
use Rattle.world.specs.Controllers.{Controllers}
use Rattle.world.specs.Laws.{MarksAreShown}
use Rattle.world.specs.Messages.{entry_for}
use Rattle.plain_shop.specs.Shop.{SpawnState, is_out}
use Rattle.plain_shop.specs.Marks.{shop_mark, spawns_out, takes, takes_rw}
use Rattle.world.specs.Showing.{phase_shown, shop_shown, spawn_shown}
use Rattle.world.specs.State.{IsConsistent, State}

-- ---- lists that a test looks through

kept_step : {X Y : Type 0} (b : Bool) (g : X → Y) (x : X) (ys : List Y) (xs : List X) → ys ≡ map g xs → cond b (g x ∷ ys) ys ≡ map g (cond b (x ∷ xs) xs)
kept_step true g x ys xs e = ap (λ zs. g x ∷ zs) e
kept_step false g x ys xs e = e

-- what is kept of what is made of a list is made of what is kept of it
kept_made : {X Y : Type 0} (f : Y → Bool) (g : X → Y) (xs : List X) → filter f (map g xs) ≡ map g (filter (λ x. f (g x)) xs)
kept_made f g [] = refl
kept_made f g (x ∷ xs) = kept_step (f (g x)) g x (filter f (map g xs)) (filter (λ y. f (g y)) xs) (kept_made f g xs)

same_step : {X : Type 0} (b : Bool) (x : X) (xs ys : List X) → xs ≡ ys → cond b (x ∷ xs) xs ≡ cond b (x ∷ ys) ys
same_step true x xs ys e = ap (λ zs. x ∷ zs) e
same_step false x xs ys e = e

-- tests that agree on each of a list keep the same, and find one alike
kept_alike : {X : Type 0} (P : X → Type 0) (f g : X → Bool) (xs : List X) → ((x : X) → P x → f x ≡ g x) → All P xs → filter f xs ≡ filter g xs
kept_alike P f g [] same all = refl
kept_alike P f g (x ∷ xs) same all =
    ap (λ b. cond b (x ∷ filter f xs) (filter f xs)) (same x (All-head P x xs all)) ∙ same_step (g x) x (filter f xs) (filter g xs) (kept_alike P f g xs same (All-tail P x xs all))

any_alike : {X : Type 0} (P : X → Type 0) (f g : X → Bool) (xs : List X) → ((x : X) → P x → f x ≡ g x) → All P xs → list_any f xs ≡ list_any g xs
any_alike P f g [] same all = refl
any_alike P f g (x ∷ xs) same all = ap (λ b. b || list_any f xs) (same x (All-head P x xs all)) ∙ ap (λ b. g x || b) (any_alike P f g xs same (All-tail P x xs all))

-- ---- which spawns are out

shown_out : (c : Controllers) (recs : List SpawnRec) → filter (λ (a : SpawnState). is_out a.phase) (map (spawn_shown c) recs) ≡ map (spawn_shown c) (records_out recs)
shown_out c recs =
    kept_made (λ (a : SpawnState). is_out a.phase) (spawn_shown c) recs
    ∙ ap (map (spawn_shown c)) (filter_as (λ (r : SpawnRec). is_out (phase_shown r.phase (entry_for c r))) records.is_out recs (λ (r : SpawnRec). out_shown r.phase (entry_for c r)))

-- each of them is good
good_out : (rows : List NodeRow) (recs : List SpawnRec) → StandApart rows recs → All (IsGood rows) (records_out recs)
good_out rows recs apart =
    let good : All (λ (r : SpawnRec). records.is_out r ≡ true → IsGood rows r) recs = λ k d within. apart.good k (get_or recs k d) (slice_get-get_or recs k d within) in
    let kept = All-filter records.is_out (λ (r : SpawnRec). records.is_out r ≡ true → IsGood rows r) recs good in
    λ k d within. kept k d within (filter_passes records.is_out recs k d within)

-- ---- which resources went along

-- the copies to read that went with a good one are those of the resources that are linked outside its node, and not to be changed
reads_linked : (rows : List NodeRow) (r : SpawnRec) (x : List ℕ) → IsGood rows r → mem x (ids_of (linked_ro (places rows) r.node r.rw)) ≡ list_any (λ (y : Resource). bytes_eq y.id x) r.ro
reads_linked rows r x good =
    let linked = linked_ro (places rows) r.node r.rw in
    any_mapped (λ y. bytes_eq y x) (λ (p : Place). p.id) linked
    ∙ sym (any_mapped (λ (f : List ℕ × Thing). bytes_eq f.0 x) named_thing_at linked)
    ∙ sym (ap (list_any (λ (f : List ℕ × Thing). bytes_eq f.0 x)) good.ro)
    ∙ any_mapped (λ (f : List ℕ × Thing). bytes_eq f.0 x) named_thing r.ro

takes_copies : (c : Controllers) (rows : List NodeRow) (x : List ℕ) (r : SpawnRec) → IsGood rows r → takes (places rows) x (spawn_shown c r) ≡ copies x r
takes_copies c rows x r good = ap (λ b. mem x r.rw || b) (reads_linked rows r x good)

-- ---- their numbers rise

abbrev RiseFrom : ℕ → List ℕ → Type 0
RiseFrom n [] = Unit {0}
RiseFrom n (m ∷ ms) = (n < m) × RiseFrom m ms

abbrev IsNumberedFrom : ℕ → List SpawnRec → Type 0
IsNumberedFrom n recs = (k : ℕ) (r : SpawnRec) → slice_get recs k ≡ Some r → r.id ≡ suc (n + k)

rise_lower : (n : ℕ) (ms : List ℕ) → RiseFrom (suc n) ms → RiseFrom n ms
rise_lower n [] rise = tt
rise_lower n (m ∷ ms) rise = (omega (arith, rise.0), rise.1)

rise_step : (b : Bool) (n : ℕ) (r : SpawnRec) (recs : List SpawnRec) → r.id ≡ suc n → RiseFrom (suc n) (map (λ (q : SpawnRec). q.id) recs) → RiseFrom n (map (λ (q : SpawnRec). q.id) (cond b (r ∷ recs) recs))
rise_step true n r recs is rise = (omega (arith, is), subst (λ m. RiseFrom m (map (λ (q : SpawnRec). q.id) recs)) (sym is) rise)
rise_step false n r recs is rise = rise_lower n (map (λ (q : SpawnRec). q.id) recs) rise

numbers_rise : (f : SpawnRec → Bool) (n : ℕ) (recs : List SpawnRec) → IsNumberedFrom n recs → RiseFrom n (map (λ (r : SpawnRec). r.id) (filter f recs))
numbers_rise f n [] numbered = tt
numbers_rise f n (r ∷ recs) numbered =
    let own = numbered 0 r refl in
    rise_step (f r) n r (filter f recs) (omega (arith, own)) (numbers_rise f (suc n) recs (λ k q at. omega (arith, numbered (suc k) q at)))

put_first : (n : ℕ) (ms : List ℕ) → RiseFrom n ms → put_in n ms ≡ n ∷ ms
put_first n [] rise = refl
put_first n (m ∷ ms) rise = ap (λ b. cond b (n ∷ m ∷ ms) (m ∷ put_in n ms)) (le-leb n m (omega (arith, rise.0)))

-- and numbers that rise are in order
rising_in_order : (n : ℕ) (ms : List ℕ) → RiseFrom n ms → in_order ms ≡ ms
rising_in_order n [] rise = refl
rising_in_order n (m ∷ ms) rise = ap (put_in m) (rising_in_order m ms rise.1) ∙ put_first m ms rise.1

numbers_in_order : (f : SpawnRec → Bool) (recs : List SpawnRec) → IsNumbered recs → in_order (map (λ (r : SpawnRec). r.id) (filter f (records_out recs))) ≡ map (λ (r : SpawnRec). r.id) (filter f (records_out recs))
numbers_in_order f recs numbered =
    let rise = numbers_rise (λ (r : SpawnRec). records.is_out r && f r) 0 recs (λ k r at. omega (arith, numbered k r at)) in
    rising_in_order 0 (map (λ (r : SpawnRec). r.id) (filter f (records_out recs))) (subst (λ (rs : List SpawnRec). RiseFrom 0 (map (λ (r : SpawnRec). r.id) rs)) (sym (filter_twice records.is_out f recs)) rise)

-- ---- the marks

-- where the spawns of a shop that are out are those of records
abbrev AreShown : Controllers → List SpawnRec → List SpawnState → Type 0
AreShown c recs spawns = spawns ≡ map (spawn_shown c) recs

node_out : (c : Controllers) (recs : List SpawnRec) (spawns : List SpawnState) (n : List ℕ) → AreShown c recs spawns → list_any (λ (a : SpawnState). bytes_eq a.node n) spawns ≡ list_any (λ (r : SpawnRec). bytes_eq r.node n) recs
node_out c recs spawns n are = ap (list_any (λ (a : SpawnState). bytes_eq a.node n)) are ∙ any_mapped (λ (a : SpawnState). bytes_eq a.node n) (spawn_shown c) recs

changed_out : (c : Controllers) (recs : List SpawnRec) (spawns : List SpawnState) (x : List ℕ) → AreShown c recs spawns → list_any (takes_rw x) spawns ≡ list_any (copies_rw x) recs
changed_out c recs spawns x are = ap (list_any (takes_rw x)) are ∙ any_mapped (takes_rw x) (spawn_shown c) recs

any_out : (c : Controllers) (rows : List NodeRow) (recs : List SpawnRec) (spawns : List SpawnState) (x : List ℕ) → All (IsGood rows) recs → AreShown c recs spawns → list_any (takes (places rows) x) spawns ≡ list_any (copies x) recs
any_out c rows recs spawns x good are =
    ap (list_any (takes (places rows) x)) are
    ∙ any_mapped (takes (places rows) x) (spawn_shown c) recs
    ∙ any_alike (IsGood rows) (λ (r : SpawnRec). takes (places rows) x (spawn_shown c r)) (copies x) recs (takes_copies c rows x) good

numbers_shown : (c : Controllers) (recs : List SpawnRec) → map (λ (a : SpawnState). a.number) (map (spawn_shown c) recs) ≡ map (λ (r : SpawnRec). r.id) recs
numbers_shown c [] = refl
numbers_shown c (r ∷ recs) = ap (λ ns. r.id ∷ ns) (numbers_shown c recs)

numbers_out : (c : Controllers) (rows : List NodeRow) (recs : List SpawnRec) (spawns : List SpawnState) (x : List ℕ) → All (IsGood rows) recs → AreShown c recs spawns → map (λ (a : SpawnState). a.number) (filter (takes (places rows) x) spawns) ≡ map (λ (r : SpawnRec). r.id) (filter (copies x) recs)
numbers_out c rows recs spawns x good are =
    ap (λ as'. map (λ (a : SpawnState). a.number) (filter (takes (places rows) x) as')) are
    ∙ ap (map (λ (a : SpawnState). a.number)) (kept_made (takes (places rows) x) (spawn_shown c) recs)
    ∙ numbers_shown c (filter (λ (r : SpawnRec). takes (places rows) x (spawn_shown c r)) recs)
    ∙ ap (map (λ (r : SpawnRec). r.id)) (kept_alike (IsGood rows) (λ (r : SpawnRec). takes (places rows) x (spawn_shown c r)) (copies x) recs (takes_copies c rows x) good)

mark_shown : (w : State) (x : List ℕ) → IsConsistent w → shop_mark (shop_shown w.controllers) x ≡ mark w.controllers.master.records x
mark_shown w x ok =
    let c = w.controllers in
    let rows = c.master.ticket.rows in
    let recs = c.master.records in
    let spawns = spawns_out (shop_shown c) in
    let are : AreShown c (records_out recs) spawns = shown_out c recs in
    let changed : list_any (takes_rw x) spawns ≡ list_any (copies_rw x) (records_out recs) = changed_out c (records_out recs) spawns x are in
    let numbers : map (λ (a : SpawnState). a.number) (filter (takes (places rows) x) spawns) ≡ in_order (map (λ (r : SpawnRec). r.id) (filter (copies x) (records_out recs))) =
    numbers_out c rows (records_out recs) spawns x (good_out rows recs ok.master.apart) are ∙ sym (numbers_in_order (copies x) recs ok.master.numbered) in
    λ i. record { id = x; status = cond (changed i) SpawnedRW SpawnedRO; spawn_ids = numbers i }

pub marks_are_shown : MarksAreShown
marks_are_shown w ok =
    let c = w.controllers in
    let rows = c.master.ticket.rows in
    let recs = c.master.records in
    let spawns = spawns_out (shop_shown c) in
    let are : AreShown c (records_out recs) spawns = shown_out c recs in
    let good = good_out rows recs ok.master.apart in
    λ i.
    record {
      nodes = filter (λ n. node_out c (records_out recs) spawns n are i) (ids_of (nodes_in (places rows)));
      resources = map (λ x. mark_shown w x ok i) (filter (λ x. any_out c rows (records_out recs) spawns x good are i) (ids_of (resources_in (places rows))));
    }
