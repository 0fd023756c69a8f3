-- The controllers of seats, one by one.
use Rattle.std.proofs.Common.{◌≡◌, ◌∙◌, ℕ, zero, suc, List, [], ◌∷◌, map, get_or, set, ap, refl, sym}
use Rattle.std.proofs.lemmas.List.{set-get_or}
use Rattle.std.specs.List.{find, position}
use Rattle.std.specs.Option.{option_map}
use Rattle.ticket_rows.proofs.InLists.{find-mapped, position-map}
use Rattle.worker_core.specs.Worker as worker
use Rattle.world.specs.Controllers.{is_named, worker_of}

pub map-set : {X Y : Type 0} (f : X → Y) (xs : List X) (k : ℕ) (x : X) → map f (set xs k x) ≡ set (map f xs) k (f x)
map-set f [] k x = refl
map-set f (y ∷ ys) zero x = refl
map-set f (y ∷ ys) (suc k) x = ap (λ zs. f y ∷ zs) (map-set f ys k x)

pub map-get_or : {X Y : Type 0} (f : X → Y) (xs : List X) (k : ℕ) (d : X) → f (get_or xs k d) ≡ get_or (map f xs) k (f d)
map-get_or f [] k d = refl
map-get_or f (y ∷ ys) zero d = refl
map-get_or f (y ∷ ys) (suc k) d = map-get_or f ys k d

-- where one is as it was, all are
pub same_there : {X Y : Type 0} (f : X → Y) (xs : List X) (k : ℕ) (x new : X) → x ≡ get_or xs k x → f new ≡ f x → map f (set xs k new) ≡ map f xs
same_there f xs k x new at same = map-set f xs k new ∙ ap (set (map f xs) k) (same ∙ ap f at ∙ map-get_or f xs k x) ∙ set-get_or (map f xs) k (f x)

-- ---- by name

pub place_seen : {S : Type 0} (kept : S → worker.State) (name : List ℕ) (seats : List S) → position (λ s. is_named name (kept s)) seats ≡ position (is_named name) (map kept seats)
place_seen kept name seats = sym (position-map (is_named name) (λ s. is_named name (kept s)) kept seats (λ s. refl))

pub found_seen : {S : Type 0} (kept : S → worker.State) (name : List ℕ) (seats : List S) → option_map kept (find (λ s. is_named name (kept s)) seats) ≡ worker_of (map kept seats) name
found_seen kept name seats = sym (find-mapped (is_named name) (λ s. is_named name (kept s)) kept seats (λ s. refl))
