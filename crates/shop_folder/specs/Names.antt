-- Names of files in a folder of controllers.
use Rattle.std.specs.Prelude.{ℕ, ◌&&◌, ◌==◌, Bool, List, not}
use Rattle.std.specs.List.{list_all}
use Rattle.ticket_items.specs.Names.{is_name}

-- none of the characters is `.`
abbrev pub has_no_dot : List ℕ → Bool
has_no_dot name = list_all (λ c. not (c == 46)) name

-- what may name a file of a folder: a name without a dot, which has no slash and no `%` either
abbrev pub is_file_name : List ℕ → Bool
is_file_name name = is_name name && has_no_dot name
