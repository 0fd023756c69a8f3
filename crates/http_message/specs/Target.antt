-- The target of a request, and its last segment.
use Rattle.std.specs.Prelude.{ℕ, Bool, ◌==◌, List, [], ◌∷◌, take, not}
use Rattle.std.specs.Prelude.{if◌then◌else◌}
use Rattle.std.specs.List.{list_all, list_any, position_or_len}

-- a target without its query: what stands before a `?`
abbrev pub path_of : List ℕ → List ℕ
path_of target = take (position_or_len (λ c. c == 63) target) target

-- no byte is a slash
abbrev pub has_no_slash : List ℕ → Bool
has_no_slash bytes = list_all (λ c. not (c == 47)) bytes

-- the longest end of a path that has no slash
abbrev pub segment_of : List ℕ → List ℕ
segment_of [] = []
segment_of (c ∷ rest) = if has_no_slash (c ∷ rest) then c ∷ rest else segment_of rest

-- a `#` stands in a target. It would begin a fragment, and no request's target has one (RFC 9112)
abbrev pub has_fragment : List ℕ → Bool
has_fragment target = list_any (λ c. c == 35) target

-- the last segment of a target, and nothing of one that has a fragment
abbrev pub last_segment : List ℕ → List ℕ
last_segment target = if has_fragment target then [] else segment_of (path_of target)
