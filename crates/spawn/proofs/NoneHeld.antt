-- Where no spawn holds something of what is asked for, none holds what stands at one of its places.
use Rattle.std.proofs.Common.{◌≡◌, ◌∙◌, ℕ, Bool, true, false, cond, List, [], ◌∷◌, Option, Some}
use Rattle.std.proofs.Common.{None, refl, sym, ap, slice_get, unwrap_or}
use Rattle.std.proofs.lemmas.Bool.{true≢false}
use Rattle.std.specs.List.{filter, filter_map, cons_option}
use Rattle.std.specs.Str.{bytes_eq}
use Rattle.ticket_rows.specs.Place.{Place, place_at}
use Rattle.spawn.specs.Table.{holding_record}
use Rattle.spawn.specs.declared.records.spawn_rec.SpawnRec.{SpawnRec}

-- the spawn that holds the first of what is asked for
abbrev pub first_holding : (Place → Bool) → List SpawnRec → List Place → Option SpawnRec
first_holding want recs tree = slice_get (filter_map (holding_record recs) (filter want tree)) 0

none_at : (here wanted : Bool) (o : Option SpawnRec) (want : Place → Bool) (recs : List SpawnRec)
    (q : Place) (ps tree : List Place) (x : List ℕ) (p : Place)
    → holding_record recs q ≡ o → want q ≡ wanted
    → slice_get (filter_map (holding_record recs) (cond wanted (q ∷ ps) ps)) 0 ≡ None
    → cond here (Some q) (place_at tree x) ≡ Some p → want p ≡ true
    → (slice_get (filter_map (holding_record recs) ps) 0 ≡ None → place_at tree x ≡ Some p
    → holding_record recs p ≡ None)
    → holding_record recs p ≡ None
none_at true true None want recs q ps tree x p h w none found wants go = ap (λ s. holding_record recs (unwrap_or s q)) (sym found) ∙ h
none_at here true (Some r) want recs q ps tree x p h w none found wants go =
    let some : Some r ≡ None = sym (ap (λ o. slice_get (cons_option o (filter_map (holding_record recs) ps)) 0) h) ∙ none in
    cc
none_at true false o want recs q ps tree x p h w none found wants go = absurd (true≢false (sym wants ∙ ap (λ s. want (unwrap_or s q)) (sym found) ∙ w))
none_at false true None want recs q ps tree x p h w none found wants go = go (sym (ap (λ o. slice_get (cons_option o (filter_map (holding_record recs) ps)) 0) h) ∙ none) found
none_at false false o want recs q ps tree x p h w none found wants go = go none found

pub none_held : (want : Place → Bool) (recs : List SpawnRec) (tree : List Place) (x : List ℕ)
    (p : Place)
    → first_holding want recs tree ≡ None → place_at tree x ≡ Some p → want p ≡ true
    → holding_record recs p ≡ None
none_held want recs [] x p none found wants = cc
none_held want recs (q ∷ tree) x p none found wants =
    none_at (bytes_eq q.id x) (want q) (holding_record recs q) want recs q (filter want tree) tree x p refl refl none found wants (λ later there. none_held want recs tree x p later there wants)
