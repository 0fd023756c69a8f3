-- The workers once one of them is stored anew: what is found by a name, and what holds of each.
use Rattle.std.proofs.Common.{◌≡◌, ℕ, Bool, true, false, cond, List, [], ◌∷◌, map, Option, Some, None, IfSome, IsSomeAnd, refl, sym, ap, ◌∙◌, subst}
use Rattle.std.proofs.lemmas.List.Elements.{All-cons, All-head, All-nil, All-tail}
use Rattle.std.proofs.lemmas.Slice.Eq.{bytes_eq-Decides}
use Rattle.std.specs.List.{All}
use Rattle.std.specs.Option.{option_and_then, option_map}
use Rattle.std.specs.Str.{bytes_eq}
use Rattle.ticket_items.proofs.Apart.{bytes_eq-same}
use Rattle.worker_core.specs.Worker as worker
use Rattle.worker_core.specs.declared.entry.Entry.{Entry}
use Rattle.world.specs.Controllers.{entry_at, is_named, with_worker, worker_of}

-- ---- what is found, and a fact of it

pub if_some : {X : Type 0} (P : X → Type 0) (o : Option X) → ((x : X) → o ≡ Some x → P x) → IfSome o P
if_some P None go = tt
if_some P (Some x) go = go x refl

pub and_found : {X : Type 0} (P : X → Type 0) (o : Option X) → IsSomeAnd o P → (x : X) × (o ≡ Some x) × P x
and_found P None h = absurd h
and_found P (Some x) h = (x, refl, h)

pub found_and : {X : Type 0} (P : X → Type 0) (o : Option X) (x : X) → o ≡ Some x → P x → IsSomeAnd o P
found_and P o x found h = subst (λ p. IsSomeAnd p P) (sym found) h

-- a fact of what is made of a value, if there is one
pub and_mapped : {X Y : Type 0} (P : X → Type 0) (Q : Y → Type 0) (f : X → Y) (o : Option X) → ((x : X) → P x → Q (f x)) → IsSomeAnd o P → IsSomeAnd (option_map f o) Q
and_mapped P Q f None go h = h
and_mapped P Q f (Some x) go h = go x h

-- ---- names

same_name : (name : List ℕ) (v : worker.State) → is_named name v ≡ true → v.name ≡ name
same_name name v e = (bytes_eq-Decides v.name name).0 e

named_so : (name : List ℕ) (v : worker.State) → v.name ≡ name → is_named name v ≡ true
named_so name v e = ap (λ n. bytes_eq n name) e ∙ bytes_eq-same name

-- the names stay
pub names_stay : (name : List ℕ) (next : worker.State) (workers : List worker.State) → next.name ≡ name → map (λ (v : worker.State). v.name) (with_worker name next workers) ≡ map (λ (v : worker.State). v.name) workers
names_stay name next [] own = refl
names_stay name next (v ∷ vs) own = ap (λ n. n ∷ map (λ (u : worker.State). u.name) (with_worker name next vs)) (here (is_named name v) refl) ∙ ap (λ ns. v.name ∷ ns) (names_stay name next vs own)
  where
    here : (b : Bool) → is_named name v ≡ b → (cond b next v).name ≡ v.name
    here true e = own ∙ sym (same_name name v e)
    here false e = refl

-- what holds of each, and of the one that is stored, holds of each then
pub All-with_worker : (P : worker.State → Type 0) (name : List ℕ) (next : worker.State) (workers : List worker.State) → P next → All P workers → All P (with_worker name next workers)
All-with_worker P name next [] own all = All-nil P
All-with_worker P name next (v ∷ vs) own all = All-cons P (cond (is_named name v) next v) (with_worker name next vs) (here (is_named name v)) (All-with_worker P name next vs own (All-tail P v vs all))
  where
    here : (b : Bool) → P (cond b next v)
    here true = own
    here false = All-head P v vs all

-- ---- what is found by a name

pub worker_there : (name : List ℕ) (next : worker.State) (workers : List worker.State) → next.name ≡ name → worker_of (with_worker name next workers) name ≡ option_map (λ _. next) (worker_of workers name)
worker_there name next [] own = refl
worker_there name next (v ∷ vs) own = here (is_named name v) refl (worker_of (with_worker name next vs) name) (worker_there name next vs own)
  where
    here : (b : Bool) → is_named name v ≡ b → (later : Option worker.State) → later ≡ option_map (λ _. next) (worker_of vs name) → cond (is_named name (cond b next v)) (Some (cond b next v)) later ≡ option_map (λ _. next) (cond b (Some v) (worker_of vs name))
    here true e later rest = ap (λ t. cond t (Some next) later) (named_so name next own)
    here false e later rest = ap (λ t. cond t (Some v) later) e ∙ rest

pub worker_other : (name n : List ℕ) (next : worker.State) (workers : List worker.State) → next.name ≡ name → bytes_eq name n ≡ false → worker_of (with_worker name next workers) n ≡ worker_of workers n
worker_other name n next [] own other = refl
worker_other name n next (v ∷ vs) own other = here (is_named name v) refl (worker_of (with_worker name next vs) n) (worker_other name n next vs own other)
  where
    here : (b : Bool) → is_named name v ≡ b → (later : Option worker.State) → later ≡ worker_of vs n → cond (is_named n (cond b next v)) (Some (cond b next v)) later ≡ cond (is_named n v) (Some v) (worker_of vs n)
    here true e later rest =
        ap (λ t. cond t (Some next) later) (ap (λ m. bytes_eq m n) own ∙ other) ∙ rest
        ∙ sym (ap (λ t. cond t (Some v) (worker_of vs n)) (ap (λ m. bytes_eq m n) (same_name name v e) ∙ other))
    here false e later rest = ap (cond (is_named n v) (Some v)) rest

-- ---- entries

-- the entries of the one that is stored are found at it
pub entry_there : (name : List ℕ) (v next : worker.State) (workers : List worker.State) (s : ℕ) → worker_of workers name ≡ Some v → next.name ≡ name → entry_at (with_worker name next workers) name s ≡ worker.entry_of next.entries s
entry_there name v next workers s found own =
    ap (option_and_then (λ (u : worker.State). worker.entry_of u.entries s)) (worker_there name next workers own ∙ ap (option_map (λ _. next)) found)

-- an entry has another of which a fact holds, if it has at that one, and holds of it as it is
pub entry_goes_on : (P : Entry → Type 0) (name n : List ℕ) (v next : worker.State) (workers : List worker.State) (s : ℕ) (e : Entry) → worker_of workers name ≡ Some v → next.name ≡ name → P e
    → (worker.entry_of v.entries s ≡ Some e → (x : Entry) × (worker.entry_of next.entries s ≡ Some x) × P x) → entry_at workers n s ≡ Some e → (x : Entry) × (entry_at (with_worker name next workers) n s ≡ Some x) × P x
entry_goes_on P name n v next workers s e found own same stays there = by (bytes_eq name n) refl
  where
    by : (b : Bool) → bytes_eq name n ≡ b → (x : Entry) × (entry_at (with_worker name next workers) n s ≡ Some x) × P x
    by true same =
        let one : name ≡ n = (bytes_eq-Decides name n).0 same in
        let old : worker.entry_of v.entries s ≡ Some e = sym (ap (option_and_then (λ (u : worker.State). worker.entry_of u.entries s)) found) ∙ ap (λ m. entry_at workers m s) one ∙ there in
        let on = stays old in
        (on.0, ap (λ m. entry_at (with_worker name next workers) m s) (sym one) ∙ entry_there name v next workers s found own ∙ on.1, on.2)
    by false other = (e, ap (option_and_then (λ (u : worker.State). worker.entry_of u.entries s)) (worker_other name n next workers own other) ∙ there, same)
