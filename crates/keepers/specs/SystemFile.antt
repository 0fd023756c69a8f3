-- A keeper in a file of the system's disk. Nothing is known of what stands in it, so that it isn't
-- honest.
use Rattle.std.specs.Prelude.{ℕ, Bool, true, false, List, []}
use Rattle.keepers.specs.InFile.{Fails, InFile}
use Rattle.keepers.specs.OnDisk.{OnDisk, keep_at}

-- the keeper in a file that is there, and in one that the first save makes
abbrev pub keep_in_file : List ℕ → InFile OnDisk
keep_in_file file = keep_at file false

abbrev pub keep_in_new_file : List ℕ → InFile OnDisk
keep_in_new_file file = keep_at file true

-- what is known of a file: it is no honest keeper, of bytes that nothing tells
abbrev pub is_honest : InFile OnDisk → Bool
is_honest keep = false

abbrev pub file_bytes : InFile OnDisk → List ℕ
file_bytes keep = []

-- its place, which is the path of the file, and how many of its calls failed
abbrev pub place : InFile OnDisk → List ℕ
place keep = keep.disk.path

abbrev pub count : InFile OnDisk → ℕ
count keep = keep.disk.count

-- calls of it that fail
abbrev pub load_fails : InFile OnDisk → InFile OnDisk → Type 0
load_fails old new = Fails (λ d. d.path) (λ d. d.count) old new

abbrev pub save_fails : InFile OnDisk → List ℕ → InFile OnDisk → Type 0
save_fails old bytes new = Fails (λ d. d.path) (λ d. d.count) old new
