-- What is stored of a master, when it is read again.
use Rattle.std.specs.Prelude.{◌≡◌, ℕ, suc, ◌==◌, ◌&&◌, Bool, true, List, [], ◌∷◌}
use Rattle.std.specs.List.{list_all}
use Rattle.ticket_items.specs.Ids.{are_distinct, mem}
use Rattle.ticket_rows.specs.Place.{places}
use Rattle.ticket_rows.specs.Ticket.{Job}
use Rattle.spawn.specs.Stored.{are_apart, are_good, stands_in}
use Rattle.spawn.specs.declared.records.spawn_rec.SpawnRec.{SpawnRec}
use Rattle.master_core.specs.Master.{IsConsistent, State}

-- whether records are numbered from a number on, in their order
abbrev pub are_numbered : ℕ → List SpawnRec → Bool
are_numbered n [] = true
are_numbered n (r ∷ records) = r.id == n && are_numbered (suc n) records

-- whether each spawn went to one of the workers
abbrev pub are_sent : List (List ℕ) → List SpawnRec → Bool
are_sent workers records = list_all (λ r. mem r.worker workers) records

-- whether records are those of a ticket: each stands in it, those that are out are good, and no two
-- of them claim one place
abbrev pub are_recorded : Job → List SpawnRec → Bool
are_recorded t records =
    list_all (stands_in t.rows) records && are_good t.rows records
    && are_apart (places t.rows) records

-- whether this can be a master: no two names are equal, its records are numbered from 1 on, each
-- spawn went to a worker, and they are records of its ticket
abbrev pub is_master : State → Bool
is_master w =
    are_distinct (w.name ∷ w.workers) && are_numbered 1 w.records && are_sent w.workers w.records
    && are_recorded w.ticket w.records

-- a master of which all holds that always does can be one
abbrev pub AKeptMasterIsStored : Type 0
AKeptMasterIsStored = (w : State) → IsConsistent w → is_master w ≡ true
