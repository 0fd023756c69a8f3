-- Each work stands once in what is open and all other.
use Rattle.std.proofs.Common.{◌≡◌, ◌++◌, true, false, filter, map, refl, subst}
use Rattle.std.specs.List.Sorted.{IsPermutation}
use Rattle.std.proofs.lemmas.List.{map-append}
use Rattle.std.proofs.lemmas.List.Sorted.{IsPermutation-filter_both, IsPermutation-map}
use Rattle.job_list.specs.Laws.{EachEntryOnce, EachSpawnOnce}
use Rattle.job_list.specs.Work.{is_entry, is_spawn, work_of_entry, work_of_spawn}

pub each_spawn_once : EachSpawnOnce
each_spawn_once m =
    let first = filter (is_spawn true) m.records in
    let other = filter (is_spawn false) m.records in
    subst (IsPermutation (map (work_of_spawn m) m.records)) (map-append (work_of_spawn m) first other)
    (IsPermutation-map (work_of_spawn m) m.records (first ++ other) (IsPermutation-filter_both (is_spawn true) (is_spawn false) (λ r. refl) m.records))

pub each_entry_once : EachEntryOnce
each_entry_once w =
    let first = filter (is_entry true) w.entries in
    let other = filter (is_entry false) w.entries in
    subst (IsPermutation (map (work_of_entry w) w.entries)) (map-append (work_of_entry w) first other)
    (IsPermutation-map (work_of_entry w) w.entries (first ++ other) (IsPermutation-filter_both (is_entry true) (is_entry false) (λ e. refl) w.entries))
