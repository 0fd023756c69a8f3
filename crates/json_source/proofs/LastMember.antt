-- What stands under a name, by the last member and those in front of it.
use Rattle.std.proofs.Common.{◌≡◌, ◌∙◌, ℕ, Bool, true, false, cond, List, [], ◌∷◌, ◌++◌, Option, Some, None, refl, sym, ap, option_map}
use Rattle.std.proofs.lemmas.Slice.Eq.{bytes_eq-Decides}
use Rattle.std.specs.Borrow.{Bor}
use Rattle.std.specs.Option.{option_or}
use Rattle.std.specs.Str.{bytes_eq}
use Rattle.std.proofs.Common.{Global}
use Rattle.json.specs.Find as tree
use Rattle.json.specs.Json as json
use Rattle.json.specs.Value.{members_view, value_view}
use Rattle.json.specs.declared.value.Value.{Value as Tree}
use Rattle.serde_json.specs.Data.{Data}
use Rattle.serde_json.specs.Find.{get}
use Rattle.json_source.specs.Tree.{data_of, tree_data}
use Rattle.json_source.proofs.Finding.{get_data}

-- a member of a tree's object
abbrev pub Member : Type 0
Member = Bor (List ℕ) × Tree Global

later_cond : (b : Bool) (j : json.Json) (before earlier : Option json.Json) → tree.later_or (cond b (Some j) before) earlier ≡ cond b (Some j) (tree.later_or before earlier)
later_cond true j before earlier = refl
later_cond false j before earlier = refl

last_found : (name : List ℕ) (ms : List Member) (m : Member) → tree.get_member name (members_view (ms ++ m ∷ [])) ≡ cond (bytes_eq m.0.now name) (Some (value_view m.1)) (tree.get_member name (members_view ms))
last_found name [] m = refl
last_found name (x ∷ ms) m =
    ap (λ o. tree.later_or o (cond (bytes_eq x.0.now name) (Some (value_view x.1)) None)) (last_found name ms m)
    ∙ later_cond (bytes_eq m.0.now name) (value_view m.1) (tree.get_member name (members_view ms)) (cond (bytes_eq x.0.now name) (Some (value_view x.1)) None)

-- what these members have under a name
abbrev pub among : List ℕ → List Member → Option Data
among name ms = get name (data_of (json.object (members_view ms)))

-- the last member is what is there if it has the name
pub last_there : (name : List ℕ) (ms : List Member) (m : Member) → bytes_eq m.0.now name ≡ true → among name (ms ++ m ∷ []) ≡ Some (tree_data m.1)
last_there name ms m same =
    sym (get_data name (json.object (members_view (ms ++ m ∷ []))))
    ∙ ap (option_map data_of) (last_found name ms m ∙ ap (λ b. cond b (Some (value_view m.1)) (tree.get_member name (members_view ms))) same)

-- else it is looked for in front of it
pub last_other : (name : List ℕ) (ms : List Member) (m : Member) → bytes_eq m.0.now name ≡ false → among name (ms ++ m ∷ []) ≡ among name ms
last_other name ms m other =
    sym (get_data name (json.object (members_view (ms ++ m ∷ []))))
    ∙ ap (option_map data_of) (last_found name ms m ∙ ap (λ b. cond b (Some (value_view m.1)) (tree.get_member name (members_view ms))) other)
    ∙ get_data name (json.object (members_view ms))

-- what was found, or else what is left to be found
abbrev pub found_or : Option (Tree Global) → Option Data → Option Data
found_or (Some t) rest = Some (tree_data t)
found_or None rest = rest

-- the last member of a name is kept, unless a later one was
pub found_there : (name : List ℕ) (ms : List Member) (m : Member) (found : Option (Tree Global)) → bytes_eq m.0.now name ≡ true
    → found_or (option_or found (Some m.1)) (among name ms) ≡ found_or found (among name (ms ++ m ∷ []))
found_there name ms m (Some t) same = refl
found_there name ms m None same = sym (last_there name ms m same)

-- a member of another name changes nothing
pub found_elsewhere : (name : List ℕ) (ms : List Member) (m : Member) (found : Option (Tree Global)) → bytes_eq m.0.now name ≡ false
    → found_or found (among name ms) ≡ found_or found (among name (ms ++ m ∷ []))
found_elsewhere name ms m (Some t) other = refl
found_elsewhere name ms m None other = sym (last_other name ms m other)

-- of two names that differ a member has one at most
pub other_name : (x first second : List ℕ) → bytes_eq x first ≡ true → bytes_eq first second ≡ false → bytes_eq x second ≡ false
other_name x first second same apart = ap (λ z. bytes_eq z second) ((bytes_eq-Decides x first).0 same) ∙ apart
