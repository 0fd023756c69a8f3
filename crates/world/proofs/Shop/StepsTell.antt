-- What a step of a shop tells of merges: in its word, and in the audits.
use Rattle.std.proofs.Common.{◌≡◌, ◌⊎◌, inl, inr, ◌∙◌, ◌+◌, ℕ, Bool, true, false, cond, List, [], ◌∷◌, Option, Some, None, is_some, refl, sym, ap, arith}
use Rattle.std.specs.List.{find}
use Rattle.std.specs.Option.{option_and_then, option_map, option_map_or}
use Rattle.std.specs.Str.{bytes_eq}
use Rattle.ticket_items.specs.SpawnId.{is_spawn_number}
use Rattle.ticket_rows.specs.Place.{Place, nodes_in, up}
use Rattle.world.proofs.Runs.Cases.{split_some}
use Rattle.world.proofs.Shop.MergeAudits.{as_often, goes_on_twice, one_if, stays_so}
use Rattle.plain_shop.specs.MergeAudits.{AuditsGrow, above_of, word_tells}
use Rattle.plain_shop.specs.Shop.{Phase, PlainState, Rows, SpawnState, has_number, spawn_of}
use Rattle.plain_shop.specs.Acts.{in_phase}
use Rattle.world_items.specs.declared.word.Word.{Word}

-- whether a node stands above the one that was spawned
abbrev pub is_above : ℕ → PlainState → List ℕ → Bool
is_above s p x = option_map_or (λ u. bytes_eq u x) (above_of s p) false

-- so often as it is told of a spawn, at the node above it alone
abbrev pub told_there : (ℕ → ℕ) → PlainState → ℕ → List ℕ → ℕ
told_there told p s x = cond (is_above s p x) (told s) 0

-- the spawns have numbers of spawns
abbrev pub HaveNumbers : PlainState → Type 0
HaveNumbers p = (s : ℕ) → is_some (spawn_of s p) ≡ true → is_spawn_number s ≡ true

-- past the rows in the beginning the audits tell so often of each spawn
pub record IsTold (first : Rows) (told : ℕ → ℕ) (p : PlainState) : Type 0 where
  pub seen : (s : ℕ) (x : List ℕ) → AuditsGrow s (told_there told p s x) (first x) (p.seen x)
  pub now : (s : ℕ) (x : List ℕ) → AuditsGrow s (told_there told p s x) (first x) (p.now x)
  pub none : (s : ℕ) → above_of s p ≡ None → told s ≡ 0
  pub numbers : HaveNumbers p

-- from a shop to the next they tell so often more
pub record TellsMore (more : ℕ → ℕ) (p q : PlainState) : Type 0 where
  pub seen : (s : ℕ) (x : List ℕ) → AuditsGrow s (told_there more p s x) (p.seen x) (q.seen x) ⊎ AuditsGrow s (told_there more p s x) (p.now x) (q.seen x)
  pub now : (s : ℕ) (x : List ℕ) → AuditsGrow s (told_there more p s x) (p.now x) (q.now x)
  pub above : (s : ℕ) (u : List ℕ) → above_of s p ≡ Some u → above_of s q ≡ Some u
  pub none : (s : ℕ) → above_of s p ≡ None → more s ≡ 0
  pub numbers : (s : ℕ) → is_some (spawn_of s q) ≡ true → (is_some (spawn_of s p) ≡ true) ⊎ (is_spawn_number s ≡ true)

-- ---- from a shop to the next

either_none : (b : Bool) (m : ℕ) → m ≡ 0 → cond b m 0 ≡ 0
either_none true m e = e
either_none false m e = refl

summed : (b : Bool) (m n : ℕ) → cond b m 0 + cond b n 0 ≡ cond b (m + n) 0
summed true m n = refl
summed false m n = refl

told_more : (told more : ℕ → ℕ) (p q : PlainState) (s : ℕ) (x : List ℕ) → ((u : List ℕ) → above_of s p ≡ Some u → above_of s q ≡ Some u) → (above_of s p ≡ None → (told s ≡ 0) × (more s ≡ 0)) → told_there told p s x + told_there more p s x ≡ told_there (λ t. told t + more t) q s x
told_more told more p q s x same none =
    split_some (above_of s p)
    (λ u there.
    let here : is_above s p x ≡ bytes_eq u x = ap (λ o. option_map_or (λ v. bytes_eq v x) o false) there in
    let later : is_above s q x ≡ bytes_eq u x = ap (λ o. option_map_or (λ v. bytes_eq v x) o false) (same u there) in
    summed (is_above s p x) (told s) (more s) ∙ ap (λ b. cond b (told s + more s) 0) (here ∙ sym later))
    (λ missing.
    let both = none missing in
    let before : told_there told p s x ≡ 0 = either_none (is_above s p x) (told s) both.0 in
    let then : told_there more p s x ≡ 0 = either_none (is_above s p x) (more s) both.1 in
    let sum : told s + more s ≡ 0 = omega (arith, both.0, both.1) in
    let after : told_there (λ t. told t + more t) q s x ≡ 0 = either_none (is_above s q x) (told s + more s) sum in
    omega (arith, before, then, after))

numbered_so : (p q : PlainState) (s : ℕ) → HaveNumbers p → (is_some (spawn_of s p) ≡ true) ⊎ (is_spawn_number s ≡ true) → is_spawn_number s ≡ true
numbered_so p q s have (inl before) = have s before
numbered_so p q s have (inr new) = new

seen_more : (first : Rows) (told more : ℕ → ℕ) (p q : PlainState) (s : ℕ) (x : List ℕ) → IsTold first told p → AuditsGrow s (told_there more p s x) (p.seen x) (q.seen x) ⊎ AuditsGrow s (told_there more p s x) (p.now x) (q.seen x) → AuditsGrow s (told_there told p s x + told_there more p s x) (first x) (q.seen x)
seen_more first told more p q s x is (inl on) = goes_on_twice s _ _ (first x) (p.seen x) (q.seen x) (is.seen s x) on
seen_more first told more p q s x is (inr on) = goes_on_twice s _ _ (first x) (p.now x) (q.seen x) (is.now s x) on

pub then_told : (first : Rows) (told more : ℕ → ℕ) (p q : PlainState) → IsTold first told p → TellsMore more p q → IsTold first (λ s. told s + more s) q
then_told first told more p q is step =
    let counts : (s : ℕ) (x : List ℕ) → told_there told p s x + told_there more p s x ≡ told_there (λ t. told t + more t) q s x = λ s x. told_more told more p q s x (step.above s) (λ missing. (is.none s missing, step.none s missing)) in
    record {
      seen = λ s x. as_often s _ _ (first x) (q.seen x) (counts s x) (seen_more first told more p q s x is (step.seen s x));
      now = λ s x. as_often s _ _ (first x) (q.now x) (counts s x) (goes_on_twice s _ _ (first x) (p.now x) (q.now x) (is.now s x) (step.now s x));
      none = λ s missing.
          split_some (above_of s p)
          (λ u there. some_none u (above_of s q) (step.above s u there) missing)
          (λ before. let a = is.none s before in let b = step.none s before in omega (arith, a, b));
      numbers = λ s there. numbered_so p q s is.numbers (step.numbers s there);
    }
  where
    some_none : {X P : Type 0} (x : X) (o : Option X) → o ≡ Some x → o ≡ None → P
    some_none x o a b = cc

-- ---- steps that tell of no merge

-- no merge is told in a word
abbrev pub IsSilent : Word → Type 0
IsSilent word = (s : ℕ) → word_tells s word ≡ false

abbrev pub times : Word → ℕ → ℕ
times word s = one_if (word_tells s word)

-- rows that go on with no merge told
abbrev pub IsQuiet : Rows → Rows → Type 0
IsQuiet old new = (s : ℕ) (x : List ℕ) → AuditsGrow s 0 (old x) (new x)

-- the spawns stay where they are, and each new one has a number of a spawn
pub record SpawnsStay (p q : PlainState) : Type 0 where
  pub above : (s : ℕ) (u : List ℕ) → above_of s p ≡ Some u → above_of s q ≡ Some u
  pub numbers : (s : ℕ) → is_some (spawn_of s q) ≡ true → (is_some (spawn_of s p) ≡ true) ⊎ (is_spawn_number s ≡ true)

none_told : (word : Word) (p : PlainState) (s : ℕ) (x : List ℕ) → IsSilent word → told_there (times word) p s x ≡ 0
none_told word p s x silent = either_none (is_above s p x) (times word s) (ap one_if (silent s))

pub tells_none : (word : Word) (p q : PlainState) → IsSilent word → IsQuiet p.seen q.seen → IsQuiet p.now q.now → SpawnsStay p q → TellsMore (times word) p q
tells_none word p q silent seen now stay =
    record {
      seen = λ s x. inl (as_often s 0 _ (p.seen x) (q.seen x) (sym (none_told word p s x silent)) (seen s x));
      now = λ s x. as_often s 0 _ (p.now x) (q.now x) (sym (none_told word p s x silent)) (now s x);
      above = stay.above;
      none = λ s missing. ap one_if (silent s);
      numbers = stay.numbers;
    }

pub same_rows : (rows : Rows) → IsQuiet rows rows
same_rows rows s x = stays_so s (rows x) (rows x) refl

pub same_spawns : (p : PlainState) → SpawnsStay p p
same_spawns p = record { above = λ s u there. there; numbers = λ s there. inl there }

-- nothing is done
pub tells_nothing : (word : Word) (p : PlainState) → IsSilent word → TellsMore (times word) p p
tells_nothing word p silent = tells_none word p p silent (same_rows p.seen) (same_rows p.now) (same_spawns p)

-- ---- phases

-- the node of a spawn
abbrev pub node_in : ℕ → List SpawnState → Option (List ℕ)
node_in s spawns = option_map (λ a. a.node) (find (has_number s) spawns)

phased_one : (b c : Bool) (phase : Phase) (a : SpawnState) (xs ys : List SpawnState) (s : ℕ) → node_in s xs ≡ node_in s ys → has_number s a ≡ c → node_in s (cond b (record a { phase = phase }) a ∷ xs) ≡ node_in s (a ∷ ys)
phased_one true true phase a xs ys s go own = ap (λ c. option_map (λ (d : SpawnState). d.node) (cond c (Some (record a { phase = phase })) (find (has_number s) xs))) own ∙ sym (ap (λ c. option_map (λ (d : SpawnState). d.node) (cond c (Some a) (find (has_number s) ys))) own)
phased_one true false phase a xs ys s go other = ap (λ c. option_map (λ (d : SpawnState). d.node) (cond c (Some (record a { phase = phase })) (find (has_number s) xs))) other ∙ go ∙ sym (ap (λ c. option_map (λ (d : SpawnState). d.node) (cond c (Some a) (find (has_number s) ys))) other)
phased_one false true phase a xs ys s go own = ap (λ c. option_map (λ (d : SpawnState). d.node) (cond c (Some a) (find (has_number s) xs))) own ∙ sym (ap (λ c. option_map (λ (d : SpawnState). d.node) (cond c (Some a) (find (has_number s) ys))) own)
phased_one false false phase a xs ys s go other = ap (λ c. option_map (λ (d : SpawnState). d.node) (cond c (Some a) (find (has_number s) xs))) other ∙ go ∙ sym (ap (λ c. option_map (λ (d : SpawnState). d.node) (cond c (Some a) (find (has_number s) ys))) other)

-- each spawn has its node in any phase
phased : (phase : Phase) (t s : ℕ) (spawns : List SpawnState) → node_in s (in_phase phase t spawns) ≡ node_in s spawns
phased phase t s [] = refl
phased phase t s (a ∷ spawns) = phased_one (has_number t a) (has_number s a) phase a (in_phase phase t spawns) spawns s (phased phase t s spawns) refl

by_node : (tree : List Place) (o : Option SpawnState) → option_and_then (λ a. up (nodes_in tree) a.node) o ≡ option_and_then (up (nodes_in tree)) (option_map (λ a. a.node) o)
by_node tree None = refl
by_node tree (Some a) = refl

stand_by_node : (o : Option SpawnState) → is_some o ≡ is_some (option_map (λ a. a.node) o)
stand_by_node None = refl
stand_by_node (Some a) = refl

-- so the spawns stay
pub phase_stays : (p q : PlainState) (phase : Phase) (t : ℕ) → q.tree ≡ p.tree → q.spawns ≡ in_phase phase t p.spawns → SpawnsStay p q
phase_stays p q phase t tree spawns =
    let same : (s : ℕ) → node_in s q.spawns ≡ node_in s p.spawns = λ s. ap (node_in s) spawns ∙ phased phase t s p.spawns in
    record {
      above = λ s u there.
          by_node q.tree (spawn_of s q) ∙ ap (λ tr. option_and_then (up (nodes_in tr)) (node_in s q.spawns)) tree ∙ ap (option_and_then (up (nodes_in p.tree))) (same s)
          ∙ sym (by_node p.tree (spawn_of s p)) ∙ there;
      numbers = λ s there. inl (stand_by_node (spawn_of s p) ∙ sym (ap is_some (same s)) ∙ sym (stand_by_node (spawn_of s q)) ∙ there);
    }
