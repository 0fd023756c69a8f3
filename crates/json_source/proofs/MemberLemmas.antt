-- Members and their names.
use Rattle.std.proofs.Common.{◌≡◌, ℕ, Bool, List, [], ◌∷◌, map, refl, ap, ◌||◌, ◌&&◌, ◌∙◌, sym, Bor, String, Global, string_bytes}
use Rattle.std.specs.List.{list_any}
use Rattle.std.specs.Str.{bytes_eq}
use Rattle.serde_json.specs.View.{members_view}
use Rattle.serde_json.specs.declared.value.Value.{Value}
use Rattle.ticket_items.specs.Ids.{mem}
use Rattle.json_source.specs.Read.{are_among}

-- a name among borrowed names
pub mem-borrowed : (x : List ℕ) (names : List (Bor (List ℕ))) → mem x (map (λ n. n.now) names) ≡ list_any (λ n. bytes_eq n.now x) names
mem-borrowed x [] = refl
mem-borrowed x (n ∷ names) = ap (λ b. bytes_eq n.now x || b) (mem-borrowed x names)

-- one member more
pub are_among-cons : (names : List (Bor (List ℕ))) (all rest : List (String Global × Value)) (e : String Global × Value) (name : List ℕ) (test : Bool) → all ≡ e ∷ rest → name ≡ string_bytes e.0
    → test ≡ list_any (λ n. bytes_eq n.now name) names → are_among (map (λ n. n.now) names) (members_view all) ≡ (test && are_among (map (λ n. n.now) names) (members_view rest))
are_among-cons names all rest e name test step is tested =
    ap (λ es. are_among (map (λ n. n.now) names) (members_view es)) step
    ∙ ap (λ b. b && are_among (map (λ n. n.now) names) (members_view rest)) (mem-borrowed (string_bytes e.0) names ∙ ap (λ x. list_any (λ n. bytes_eq n.now x) names) (sym is) ∙ sym tested)
