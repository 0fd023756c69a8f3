-- What is said of a spawn holds where the ticket, the records and the part are made of its record.
use Rattle.std.proofs.Common.{◌≡◌, ◌∙◌, ℕ, List, [], ◌∷◌, ◌++◌, None, Ok, is_some, true, refl, sym}
use Rattle.std.proofs.Common.{ap, subst}
use Rattle.ticket_rows.specs.OneRow.{rows_with_audit}
use Rattle.ticket_rows.specs.Place.{node_places, up}
use Rattle.ticket_rows.specs.Ticket.{IsValid, Job, has_node}
use Rattle.ticket_tree.proofs.PlainOneRow.{append_of_places}
use Rattle.ticket_tree.specs.Part.{PartCopy}
use Rattle.spawn.proofs.NewRecord.{good_stays, new_is_good}
use Rattle.spawn.proofs.PartKept.{part_told}
use Rattle.spawn.specs.Parts.{part_for}
use Rattle.spawn.specs.Records.{IsGood}
use Rattle.spawn.specs.Spawning.{Spawns, job_after_spawn, new_record, parent_of, spawned_audit}
use Rattle.spawn.specs.declared.records.spawn_rec.SpawnRec.{SpawnRec}

-- a spawn by a new record, of a node that stands below another
pub spawned : (t new : Job) (recs after : List SpawnRec) (number : ℕ) (n worker : List ℕ)
    (ids : List (List ℕ)) (time : ℕ) (part : PartCopy)
    → IsValid t.rows → has_node t.rows n ≡ true → is_some (up (node_places t.rows) n) ≡ true
    → new ≡ job_after_spawn t (new_record t.rows number n worker ids time)
    → after ≡ recs ++ new_record t.rows number n worker ids time ∷ []
    → part ≡ part_for t (new_record t.rows number n worker ids time)
    → Spawns None (new_record t.rows number n worker ids time) t recs (Ok (number, part)) new after
spawned t new recs after number n worker ids time part valid known parent told put made =
    let rows = t.rows in
    let r = new_record rows number n worker ids time in
    let audit = spawned_audit rows r in
    let still = append_of_places (parent_of rows n) audit rows in
    record {
      ticket = told;
      records = put;
      id = refl;
      part = made ∙ sym (part_told t r audit valid parent) ∙ ap (λ x. part_for x r) (sym told);
      good = subst (λ (x : Job). IsGood x.rows r) (sym told)
          (good_stays rows (rows_with_audit (parent_of rows n) audit rows) r still (new_is_good rows number n worker ids time valid known parent));
      refused = tt;
      memory = tt;
      ticket_stays = tt;
      records_stay = tt;
    }
