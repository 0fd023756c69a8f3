-- A disk in memory, for tests: what is seen of it, and what a crash may leave or might have left.
use Rattle.std.specs.Prelude.{◌≡◌, ◌⊎◌, ◌≤◌, ◌++◌, [], ◌∷◌, ℕ, List, length, map, slice_get}
use Rattle.std.specs.Prelude.{Bool, true}
use Rattle.std.specs.Prelude.{Option, Some, option_map}
use Rattle.std.specs.Global.{Vec}
use Rattle.std.proofs.Common.{arith}
use Rattle.keepers.specs.Disk.{View}

pub record InMemory : Type 0 where
  -- what a read gives
  pub file : Option (List ℕ)
  -- what a crash might have left under the file's name, from the start on
  pub left : List (Option (List ℕ))
  -- how many of those no crash leaves any more
  pub settled : ℕ
  -- what was written to the draft, and what of it was there at its last sync
  pub draft : List ℕ
  pub synced : List ℕ
  pub is_placed : Bool
  pub is_sound : Bool
  pub is_free : Bool
  -- how many calls failed
  pub count : ℕ

-- the bytes of files, each of which may be there
abbrev pub contents : List (Option (Vec ℕ)) → List (Option (List ℕ))
contents = map (option_map (λ v. v.items))

-- one of a list, from an index on
abbrev pub IsFrom : List (Option (List ℕ)) → ℕ → Option (List ℕ) → Type 0
IsFrom left n c = (i : ℕ) × (n ≤ i) × (slice_get left i ≡ Some c)

-- what is from an index on is from an earlier one on
pub later_front : (left : List (Option (List ℕ))) (m n : ℕ) (c : Option (List ℕ)) → m ≤ n
    → IsFrom left n c → IsFrom left m c
later_front left m n c le at = (at.0, omega (arith, le, at.1), at.2)

-- what a crash leaves of a draft that was given the file's name
abbrev pub drafts_of : InMemory → List (Option (List ℕ))
drafts_of d = Some d.synced ∷ Some d.draft ∷ []

-- the disk once the draft was given the file's name, in place of its own or beside it
abbrev pub disk_after_rename : Bool → InMemory → InMemory
disk_after_rename is_free d = record d {
  file = Some d.draft;
  left = d.left ++ drafts_of d;
  is_placed = true;
  is_free = is_free;
}

-- the disk once the file's name, that its draft has, is settled
abbrev pub disk_after_sync : InMemory → InMemory
disk_after_sync d = record d { left = d.left ++ drafts_of d; settled = length d.left }

-- an unsynced draft may be as it was at its last sync; an unsynced name may lead to the old file
abbrev pub view_of : InMemory → View
view_of d = record {
  file = d.file;
  may_leave = IsFrom d.left d.settled;
  draft = d.draft;
  may_hold = λ bytes. (bytes ≡ d.synced) ⊎ (bytes ≡ d.draft);
  is_placed = d.is_placed;
  is_sound = d.is_sound;
  is_free = d.is_free;
}
