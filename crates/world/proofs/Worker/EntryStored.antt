-- A shop once a worker has another entry of a spawn: nothing else that it shows is another.
use Rattle.std.proofs.Common.{◌≡◌, ◌==◌, ◌∙◌, ℕ, false, cond, List, map, Option, Some, None, refl, sym, ap}
use Rattle.std.proofs.lemmas.Bool.{eq-eqb, eqb-true, true≢false}
use Rattle.std.proofs.lemmas.Slice.Eq.{bytes_eq-Decides}
use Rattle.std.specs.Option.{option_and_then, option_map_or}
use Rattle.std.specs.Str.{bytes_eq}
use Rattle.ticket_rows.specs.Place.{Row}
use Rattle.ticket_tree.specs.PartView.{part_row}
use Rattle.spawn.specs.declared.records.spawn_rec.SpawnRec.{SpawnRec}
use Rattle.world_items.specs.declared.holder.Holder.{Holder}
use Rattle.world_items.specs.declared.holder.Holder.TheVariants as held_by
use Rattle.master_core.proofs.Recorded.{number_is}
use Rattle.master_core.specs.Master.{IsNumbered, holder, record_of}
use Rattle.worker_core.specs.Worker as worker
use Rattle.worker_core.specs.declared.entry.Entry.{Entry}
use Rattle.std.specs.Prelude.{⊤}
use Rattle.world.proofs.Runs.Cases.{made_again, made_alike, split, when_false, when_true}
use Rattle.world.proofs.Shop.Paths.{same_shop}
use Rattle.world.proofs.Worker.Stored.{entry_there, worker_other}
use Rattle.world.proofs.Worker.TakenSpawns.{only_record}
use Rattle.world.proofs.Worker.Steps.{with_next}
use Rattle.world.specs.Controllers.{Controllers, entry_at, with_worker, worker_of}
use Rattle.world.specs.Messages.{entry_for}
use Rattle.plain_shop.specs.Shop.{Phase, SpawnState, has_number}
use Rattle.plain_shop.specs.Acts.{in_phase}
use Rattle.world.specs.Showing.{entry_of_spawn, phase_shown, row_at, seen_shown, shop_shown, spawn_shown}

-- the entry of one spawn is another at the worker of a name: its spawn has a record, which names the worker, and all other entries are as they were
pub record HasStored (c : Controllers) (name : List ℕ) (s : ℕ) (next : worker.State) (new : Entry) (mine : SpawnRec) : Type 0 where
  pub old : worker.State
  pub found : worker_of c.workers name ≡ Some old
  pub own : next.name ≡ name
  pub others : (t : ℕ) → (t == s) ≡ false → worker.entry_of next.entries t ≡ worker.entry_of old.entries t
  pub stored : worker.entry_of next.entries s ≡ Some new
  pub recorded : record_of c.master.records s ≡ Some mine
  pub named : mine.worker ≡ name
  pub numbered : IsNumbered c.master.records

-- ---- entries

-- that of another spawn is as it was
pub entry_elsewhere : (c : Controllers) (name : List ℕ) (s : ℕ) (next : worker.State) (new : Entry) (mine : SpawnRec) → HasStored c name s next new mine → (r : SpawnRec) → (r.id == s) ≡ false → entry_for (with_next c name next) r ≡ entry_for c r
entry_elsewhere c name s next new mine h r other =
    split (bytes_eq name r.worker)
    (λ same.
    let one : name ≡ r.worker = (bytes_eq-Decides name r.worker).0 same in
    ap (λ n. entry_at (with_next c name next).workers n r.id) (sym one)
    ∙ entry_there name h.old next c.workers r.id h.found h.own
    ∙ h.others r.id other
    ∙ sym (ap (option_and_then (λ (u : worker.State). worker.entry_of u.entries r.id)) h.found)
    ∙ ap (λ n. entry_at c.workers n r.id) one)
    (λ away. ap (option_and_then (λ (u : worker.State). worker.entry_of u.entries r.id)) (worker_other name r.worker next c.workers h.own away))

-- that of the spawn is the new one
pub entry_stored : (c : Controllers) (name : List ℕ) (s : ℕ) (next : worker.State) (new : Entry) (mine : SpawnRec) → (h : HasStored c name s next new mine) → entry_for (with_next c name next) mine ≡ Some new
entry_stored c name s next new mine h =
    ap (λ n. entry_at (with_next c name next).workers n mine.id) h.named
    ∙ ap (entry_at (with_next c name next).workers name) (number_is c.master.records s mine h.recorded)
    ∙ entry_there name h.old next c.workers s h.found h.own ∙ h.stored

-- ---- spawns

-- one of another number is shown as it was
shown_elsewhere : (c : Controllers) (name : List ℕ) (s : ℕ) (next : worker.State) (new : Entry) (mine : SpawnRec) → HasStored c name s next new mine → (r : SpawnRec) → (r.id == s) ≡ false → spawn_shown (with_next c name next) r ≡ spawn_shown c r
shown_elsewhere c name s next new mine h r other =
    ap (λ o. record { number = r.id; node = r.node; worker = r.worker; rw = r.rw; phase = phase_shown r.phase o }) (entry_elsewhere c name s next new mine h r other)

-- and that one in the phase of the new entry
shown_there : (c : Controllers) (name : List ℕ) (s : ℕ) (next : worker.State) (new : Entry) (mine : SpawnRec) (phase : Phase) → (h : HasStored c name s next new mine) → phase_shown mine.phase (Some new) ≡ phase → (r : SpawnRec) → r ≡ mine → spawn_shown (with_next c name next) r ≡ record (spawn_shown c r) { phase = phase }
shown_there c name s next new mine phase h is r same =
    let d = with_next c name next in
    ap (λ p. record (spawn_shown c r) { phase = p })
    (ap (λ (q : SpawnRec). phase_shown q.phase (entry_for d q)) same ∙ ap (phase_shown mine.phase) (entry_stored c name s next new mine h) ∙ is)

-- all are shown as they were, but for the phase of that one
pub spawns_stored : (c : Controllers) (name : List ℕ) (s : ℕ) (next : worker.State) (new : Entry) (mine : SpawnRec) (phase : Phase) → (h : HasStored c name s next new mine) → phase_shown mine.phase (Some new) ≡ phase
    → map (spawn_shown (with_next c name next)) c.master.records ≡ in_phase phase s (map (spawn_shown c) c.master.records)
spawns_stored c name s next new mine phase h is =
    made_again (λ (q : SpawnRec). q.id ≡ s → q ≡ mine) (spawn_shown (with_next c name next)) (λ (a : SpawnState). cond (has_number s a) (record a { phase = phase }) a) (spawn_shown c) c.master.records
    (λ r only. split (r.id == s)
    (λ same. shown_there c name s next new mine phase h is r (only (eqb-true r.id s same)) ∙ sym (when_true (r.id == s) (record (spawn_shown c r) { phase = phase }) (spawn_shown c r) same))
    (λ other. shown_elsewhere c name s next new mine h r other ∙ sym (when_false (r.id == s) (record (spawn_shown c r) { phase = phase }) (spawn_shown c r) other)))
    (only_record c.master.records s mine h.numbered h.recorded)

-- and just as they were where its phase is
pub spawns_stay : (c : Controllers) (name : List ℕ) (s : ℕ) (next : worker.State) (new : Entry) (mine : SpawnRec) → (h : HasStored c name s next new mine) → phase_shown mine.phase (Some new) ≡ phase_shown mine.phase (entry_for c mine)
    → map (spawn_shown (with_next c name next)) c.master.records ≡ map (spawn_shown c) c.master.records
spawns_stay c name s next new mine h is =
    made_alike (λ (q : SpawnRec). q.id ≡ s → q ≡ mine) (spawn_shown (with_next c name next)) (spawn_shown c) c.master.records
    (λ r only. split (r.id == s)
    (λ same.
    let r_is = only (eqb-true r.id s same) in
    shown_there c name s next new mine (phase_shown mine.phase (entry_for c mine)) h is r r_is
    ∙ ap (λ (q : SpawnRec). record (spawn_shown c r) { phase = phase_shown q.phase (entry_for c q) }) (sym r_is))
    (λ other. shown_elsewhere c name s next new mine h r other))
    (only_record c.master.records s mine h.numbered h.recorded)

-- ---- rows

-- the entry of another spawn
spawn_elsewhere : (c : Controllers) (name : List ℕ) (s : ℕ) (next : worker.State) (new : Entry) (mine : SpawnRec) → HasStored c name s next new mine → (t : ℕ) → (t == s) ≡ false → entry_of_spawn (with_next c name next) t ≡ entry_of_spawn c t
spawn_elsewhere c name s next new mine h t other = by (record_of c.master.records t) refl
  where
    by : (o : Option SpawnRec) → record_of c.master.records t ≡ o → option_and_then (entry_for (with_next c name next)) o ≡ option_and_then (entry_for c) o
    by None found = refl
    by (Some r) found = entry_elsewhere c name s next new mine h r (ap (λ i. i == s) (number_is c.master.records t r found) ∙ other)

-- the rows now, by who holds each id: those that the spawn holds are in the new entry, and all others are as they were
pub row_stored : (c : Controllers) (name : List ℕ) (s : ℕ) (next : worker.State) (new : Entry) (mine : SpawnRec) → HasStored c name s next new mine → (f : Option Row → Option Row) (x : List ℕ) (o : Option Holder)
    → (o ≡ Some (held_by.Spawn s) → option_map_or (λ p. part_row p x) new.part (seen_shown c x) ≡ f (row_at c x o)) → ((o ≡ Some (held_by.Spawn s) → ⊥) → row_at c x o ≡ f (row_at c x o))
    → row_at (with_next c name next) x o ≡ f (row_at c x o)
row_stored c name s next new mine h f x None own others = others (λ e. cc)
row_stored c name s next new mine h f x (Some held_by.Master) own others = others (λ e. cc)
row_stored c name s next new mine h f x (Some (held_by.Spawn t)) own others =
    let d = with_next c name next in
    split (t == s)
    (λ same.
    let is : t ≡ s = eqb-true t s same in
    let found : entry_of_spawn d t ≡ Some new = ap (entry_of_spawn d) is ∙ ap (option_and_then (entry_for d)) h.recorded ∙ entry_stored c name s next new mine h in
    ap (λ o. option_map_or (λ p. part_row p x) (option_and_then (λ (e : Entry). e.part) o) (seen_shown c x)) found ∙ own (ap (λ n. Some (held_by.Spawn n)) is))
    (λ other.
    ap (λ o. option_map_or (λ p. part_row p x) (option_and_then (λ (e : Entry). e.part) o) (seen_shown c x)) (spawn_elsewhere c name s next new mine h t other)
    ∙ others (λ e. true≢false (sym (eq-eqb t s (same_number t s e)) ∙ other)))
  where
    same_number : (m n : ℕ) → Some (held_by.Spawn m) ≡ Some (held_by.Spawn n) → m ≡ n
    same_number m n e = cc

-- ---- nothing stored

row_alike : (c : Controllers) (workers : List worker.State) → ((r : SpawnRec) → entry_for (record c { workers = workers }) r ≡ entry_for c r) → (x : List ℕ) (o : Option Holder) → row_at (record c { workers = workers }) x o ≡ row_at c x o
row_alike c workers same x None = refl
row_alike c workers same x (Some held_by.Master) = refl
row_alike c workers same x (Some (held_by.Spawn s)) = by (record_of c.master.records s)
  where
    by : (q : Option SpawnRec)
        → option_map_or (λ p. part_row p x) (option_and_then (λ (e : Entry). e.part) (option_and_then (entry_for (record c { workers = workers })) q)) (seen_shown c x)
        ≡ option_map_or (λ p. part_row p x) (option_and_then (λ (e : Entry). e.part) (option_and_then (entry_for c) q)) (seen_shown c x)
    by None = refl
    by (Some r) = ap (λ o. option_map_or (λ p. part_row p x) (option_and_then (λ (e : Entry). e.part) o) (seen_shown c x)) (same r)

-- where no entry is another the shop is the same
pub shop_stays : (c : Controllers) (workers : List worker.State) → ((r : SpawnRec) → entry_for (record c { workers = workers }) r ≡ entry_for c r) → shop_shown (record c { workers = workers }) ≡ shop_shown c
shop_stays c workers same =
    same_shop _ _
    (record {
      master = refl;
      workers = refl;
      job = refl;
      tree = refl;
      seen = λ x. refl;
      now = λ x. row_alike c workers same x (holder c.master x);
      holder = λ x. refl;
      spawns = shown_alike c.master.records;
    })
  where
    shown_alike : (records : List SpawnRec) → map (spawn_shown (record c { workers = workers })) records ≡ map (spawn_shown c) records
    shown_alike records = made_alike (λ r. ⊤) (spawn_shown (record c { workers = workers })) (spawn_shown c) records
        (λ r is. ap (λ o. record { number = r.id; node = r.node; worker = r.worker; rw = r.rw; phase = phase_shown r.phase o }) (same r))
        (λ k d within. tt)

-- so it is where a worker is stored as it was
pub worker_as_it_was : (c : Controllers) (v : worker.State) → worker_of c.workers v.name ≡ Some v → shop_shown (with_next c v.name v) ≡ shop_shown c
worker_as_it_was c v found =
    shop_stays c (with_worker v.name v c.workers) (λ r.
    split (bytes_eq v.name r.worker)
    (λ same.
    let one : v.name ≡ r.worker = (bytes_eq-Decides v.name r.worker).0 same in
    ap (λ n. entry_at (with_worker v.name v c.workers) n r.id) (sym one)
    ∙ entry_there v.name v v c.workers r.id found refl
    ∙ sym (ap (option_and_then (λ (u : worker.State). worker.entry_of u.entries r.id)) found)
    ∙ ap (λ n. entry_at c.workers n r.id) one)
    (λ away. ap (option_and_then (λ (u : worker.State). worker.entry_of u.entries r.id)) (worker_other v.name r.worker v c.workers refl away)))
