-- Controllers that are kept in memory, by the paths of their files.
use Rattle.std.specs.Prelude.{◌≡◌, ◌⊎◌, ⊤, ℕ, List, [], ◌∷◌, ◌++◌, Option, None}
use Rattle.std.specs.Prelude.{String, string_bytes}
use Rattle.std.specs.declared.alloc.Global.{Global}
use Rattle.std.specs.Map.{lookup, remove_entry}
use Rattle.std.specs.Str.{bytes_eq}
use Rattle.stored_state.specs.declared.any_controller.AnyController.{AnyController}

-- the controller that is kept for a path
abbrev pub controller_of_path : List ℕ → List (String Global × AnyController) → Option AnyController
controller_of_path path kept = lookup (λ k. bytes_eq path (string_bytes k)) kept

-- what is kept of the other paths
abbrev pub other_paths :
    List ℕ → List (String Global × AnyController) → List (String Global × AnyController)
other_paths path kept = remove_entry (λ k. bytes_eq path (string_bytes k)) kept

-- nothing is kept twice
abbrev pub IsUnique : List (String Global × AnyController) → Type 0
IsUnique [] = ⊤
IsUnique (e ∷ kept) = (controller_of_path (string_bytes e.0) kept ≡ None) × IsUnique kept

-- the last of them went, or none
abbrev pub IsFront :
    List (String Global × AnyController) → List (String Global × AnyController) → Type 0
IsFront new old = (gone : List (String Global × AnyController)) × (old ≡ new ++ gone)

-- a controller is kept for a path, before the others, of which the last may have gone; or nothing
-- is kept for the path, and the others stay
abbrev pub Keeps : String Global → AnyController → List (String Global × AnyController)
    → List (String Global × AnyController) → Type 0
Keeps path c old new =
    IsFront new ((path, c) ∷ other_paths (string_bytes path) old)
    ⊎ (new ≡ other_paths (string_bytes path) old)
