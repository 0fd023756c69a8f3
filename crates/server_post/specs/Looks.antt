-- What a look at a controller leaves out.
use Rattle.std.specs.Prelude.{◌≡◌, ℕ, ◌==◌, Bool, true, List}
use Rattle.std.specs.List.{list_any}
use Rattle.deliveries.specs.Ledger.{Ledger, outbox_at}
use Rattle.deliveries.specs.Outbox.{SpawnDestinations, is_among, progress_after_look, progress_in}

-- the spawn is among what a controller has out
abbrev pub is_sent : {N : Type 0} → ℕ → List (ℕ × N) → Bool
is_sent spawn all = list_any (λ o. o.0 == spawn) all

-- of these spawns, which the controller of this number has out, some go to destinations: each has
-- the progress that it had, and `Waiting` where it had none; its others have none, and what the
-- other controllers have out stays
pub record SeesController (number : ℕ) (all : List (ℕ × List ℕ)) (old new : Ledger) : Type 0 where
  pub out : SpawnDestinations
  pub its : (spawn : ℕ) → is_among spawn out ≡ true → is_sent spawn all ≡ true
  pub looked : (spawn : ℕ) → progress_in (outbox_at new.outboxes number) spawn
      ≡ progress_after_look (outbox_at old.outboxes number) out spawn
  pub others : (other : ℕ) → (other ≡ number → ⊥)
      → outbox_at new.outboxes other ≡ outbox_at old.outboxes other
