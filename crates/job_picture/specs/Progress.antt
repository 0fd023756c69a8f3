-- How far a node is, by its Status (JDF 1.5, 3.1.4).
use Rattle.std.specs.Prelude.{ℕ, ◌||◌, Bool, true, false, List, codes, if◌then◌else◌}
use Rattle.std.specs.Str.{bytes_eq}
use Rattle.job_picture.specs.declared.progress.Progress.{Progress}
use Rattle.job_picture.specs.declared.progress.Progress.TheVariants.{Waiting, InProgress}
use Rattle.job_picture.specs.declared.progress.Progress.TheVariants.{Completed, Aborted}

-- whether work has begun and hasn't ended, though it may rest
abbrev pub is_begun : List ℕ → Bool
is_begun status =
    bytes_eq status (codes "InProgress") || bytes_eq status (codes "Setup")
    || bytes_eq status (codes "Cleanup") || bytes_eq status (codes "TestRunInProgress")
    || bytes_eq status (codes "Suspended") || bytes_eq status (codes "Stopped")

-- how far a node of a Status is; one of any Status that isn't named here waits
unfoldable pub progress_of : List ℕ → Progress
progress_of status =
    if bytes_eq status (codes "Completed") then Completed else
    if bytes_eq status (codes "Aborted") then Aborted else
    if is_begun status then InProgress else Waiting

-- whether work is still to be done
abbrev pub is_undone : Progress → Bool
is_undone Waiting = true
is_undone InProgress = true
is_undone Completed = false
is_undone Aborted = false

-- the number of the shape that stands for it
abbrev pub shape_of : Progress → ℕ
shape_of Waiting = 0
shape_of InProgress = 1
shape_of Completed = 2
shape_of Aborted = 3
