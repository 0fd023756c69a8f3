-- Those of a line of whom something is so, and the others.
use Rattle.std.specs.Prelude.{◌≡◌, ℕ, Bool, not, nat_le, List, filter}
use Rattle.rounds.specs.declared.errand.Errand.{Errand}

-- the one with an errand waited as long as one may
abbrev pub is_late : {S : Type 0} → ℕ → Errand S → Bool
is_late now e = nat_le e.waiting.asked.peer.deadline now

-- these are in turn those of a line of whom this isn't so, and those of whom it is
pub record IsParted {S : Type 0} (test : Errand S → Bool) (all rest those : List (Errand S))
    : Type 0 where
  pub not_so : rest ≡ filter (λ e. not (test e)) all
  pub so : those ≡ filter test all
