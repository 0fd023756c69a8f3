-- What a heap of turns says of the first, and of how often each is there.
use Rattle.std.proofs.Common.{◌≡◌, ⊎_elim, ◌==◌, not, if◌then◌else◌, Bool, ap, ap₂, Some, None, Result, Ok, Err, IsOk, OnOk, ℕ, ◌+◌, ◌<◌, ◌≤◌, true, false, List, [], ◌∷◌, map, length, get_or, refl, arith, rules, tests}
use Rattle.std.proofs.lemmas.Bool.{and_parts, cases_Bool, eqb-true}
use Rattle.std.proofs.lemmas.Bool.Decides.{nat_tests}
use Rattle.std.proofs.lemmas.Cmp.{ranked}
use Rattle.std.proofs.lemmas.Grind.{common_steps}
use Rattle.std.proofs.lemmas.List.Sorted.{length_permutation, sum_by-IsPermutation, sum_by_pushed, sum_by_popped}
use Rattle.std.specs.BinaryHeap.{IsUpperBound}
use Rattle.std.specs.List.{filter, sum_by}
use Rattle.std.specs.List.Sorted.{IsPermutation}
use Rattle.std.specs.Ordering.{MatchOrdering, ordering_then, is_lt}
use Rattle.std.specs.declared.cmp.Ordering.{Ordering}
use Rattle.std.specs.declared.cmp.Ordering.TheVariants.{Less, Equal, Greater}
use Rattle.std.specs.declared.cmp.Reverse.{Reverse}
use Rattle.courier.specs.Turns.{turn_cmp, is_turn, times, one_if, Turns, IsBefore, IsFirst, IsFirstOfAll, IsMoved, IsTaken, Joins, Leaves, NoneIsDue}
use Rattle.courier.specs.declared.turn.Turn.{Turn}

-- ---- order

before_by : (a b : Turn) (o p : Ordering) → MatchOrdering o (b.due < a.due) (b.due ≡ a.due) (a.due < b.due) → MatchOrdering p (b.line < a.line) (b.line ≡ a.line) (a.line < b.line) → is_lt (ordering_then o p) ≡ false → IsBefore a b
before_by a b Less p due line not_less = absurd (cc)
before_by a b Equal Less due line not_less = absurd (cc)
before_by a b Equal Equal due line not_less = record { due = omega arith; tie = λ _. omega arith }
before_by a b Equal Greater due line not_less = record { due = omega arith; tie = λ _. omega arith }
before_by a b Greater p due line not_less = record { due = omega arith; tie = λ same. absurd (omega arith) }

IsBefore-not_lt : (a b : Turn) → is_lt (turn_cmp b a) ≡ false → IsBefore a b
IsBefore-not_lt a b not_less = before_by a b _ _ (ranked b.due a.due _ refl) (ranked b.line a.line _ refl) not_less

-- what is no later than one is no later than the same
IsBefore-same : (a b other : Turn) → IsBefore a b → is_turn other b ≡ true → IsBefore a other
IsBefore-same a b other before same = record { due = grind (arith, nat_tests); tie = grind (arith, nat_tests) }

-- ---- the turns of a heap

abbrev pub turns_of : List (Reverse Turn) → List Turn
turns_of heap = map (λ t. t.0) heap

abbrev pub later : Reverse Turn → Reverse Turn → Ordering
later x y = turn_cmp y.0 x.0

-- what is below no other comes first
pub IsFirst-greatest : (top : Reverse Turn) (heap : List (Reverse Turn)) → IsUpperBound later top heap → IsFirst top.0 (turns_of heap)
IsFirst-greatest top [] bound other there = absurd (omega arith)
IsFirst-greatest top (x ∷ heap) bound other there =
    ⊎_elim
    (λ here. IsBefore-same top.0 x.0 other (IsBefore-not_lt top.0 x.0 bound.0) here)
    (λ elsewhere. IsFirst-greatest top heap bound.1 other (grind (arith, common_steps)))
    (cases_Bool (is_turn other x.0))

times-turns_of : (q : Turn) (heap : List (Reverse Turn)) → times q (turns_of heap) ≡ sum_by (λ t. one_if (is_turn q t.0)) heap
times-turns_of q [] = refl
times-turns_of q (x ∷ heap) = let more = times-turns_of q heap in grind (arith, common_steps)

pub times_pushed : (q : Turn) (new : Reverse Turn) (heap after : List (Reverse Turn)) → IsPermutation (new ∷ heap) after → times q (turns_of after) ≡ times q (turns_of heap) + one_if (is_turn q new.0)
times_pushed q new heap after same = omega (arith, sum_by_pushed (λ t. one_if (is_turn q t.0)) new heap after same, times-turns_of q heap, times-turns_of q after)

pub times_popped : (q : Turn) (top : Reverse Turn) (heap after : List (Reverse Turn)) → IsPermutation heap (top ∷ after) → times q (turns_of heap) ≡ times q (turns_of after) + one_if (is_turn q top.0)
times_popped q top heap after same = omega (arith, sum_by_popped (λ t. one_if (is_turn q t.0)) top heap after same, times-turns_of q heap, times-turns_of q after)

-- the first of a heap is there
pub is_turn-itself : (turn : Turn) → is_turn turn turn ≡ true
is_turn-itself turn = search (rules, tests)

pub times-top : (top : Reverse Turn) (heap : List (Reverse Turn)) → 0 < length heap → top ≡ get_or heap 0 top → 0 < times top.0 (turns_of heap)
times-top top [] some at_top = absurd (omega arith)
times-top top (x ∷ heap) some at_top = let here = is_turn-itself x.0 in grind (arith, common_steps)

pub length-turns_of : (heap : List (Reverse Turn)) → length (turns_of heap) ≡ length heap
length-turns_of [] = refl
length-turns_of (x ∷ heap) = let more = length-turns_of heap in omega arith

pub Joins-pushed : (turn : Turn) (heap after : List (Reverse Turn)) (room more : ℕ) → IsPermutation (record { 0 = turn } ∷ heap) after → room ≤ more → Joins true turn (record { turns = turns_of heap; room = room }) (record { turns = turns_of after; room = more })
Joins-pushed turn heap after room more same kept =
    record {
      counted = λ q. times_pushed q (record { 0 = turn }) heap after same;
      more = omega (arith, length-turns_of heap, length-turns_of after, length_permutation _ _ same);
      kept = kept;
    }

pub Leaves-popped : (top : Reverse Turn) (heap after : List (Reverse Turn)) (room more : ℕ) → IsPermutation heap (top ∷ after) → room ≤ more → Leaves top.0 (record { turns = turns_of heap; room = room }) (record { turns = turns_of after; room = more })
Leaves-popped top heap after room more same kept =
    record {
      counted = λ q. times_popped q top heap after same;
      less = omega (arith, length-turns_of heap, length-turns_of after, length_permutation _ _ same);
      kept = kept;
    }

-- ---- a turn that moves

-- a heap without a turn
abbrev pub others_than : Turn → List (Reverse Turn) → List (Reverse Turn)
others_than turn heap = filter (λ t. not (is_turn turn t.0)) heap

same-turn : (a b : Turn) → is_turn a b ≡ true → b ≡ a
same-turn a b same =
    let parts = and_parts (b.line == a.line) (b.due == a.due) same in
    ap₂ (λ due line. record { due = due; line = line }) (eqb-true _ _ parts.1) (eqb-true _ _ parts.0)

-- how often a turn that was left out was there
abbrev times_out : Turn → Turn → List (Reverse Turn) → ℕ
times_out q turn heap = if is_turn q turn then times turn (turns_of heap) else 0

times-others : (q turn : Turn) (heap : List (Reverse Turn)) → times q (turns_of (others_than turn heap)) + times_out q turn heap ≡ times q (turns_of heap)
times-others q turn [] = by (is_turn q turn)
  where
    by : (b : Bool) → 0 + (if b then 0 else 0) ≡ 0
    by true = refl
    by false = refl
times-others q turn (x ∷ heap) =
    let more = times-others q turn heap in
    ⊎_elim
    (λ here. let is = ap (is_turn q) (same-turn turn x.0 here) in by (is_turn q turn) here is more)
    (λ other. grind (arith, common_steps))
    (cases_Bool (is_turn turn x.0))
  where
    by : (b : Bool) → is_turn turn x.0 ≡ true → is_turn q x.0 ≡ b → times q (turns_of (others_than turn heap)) + (if b then times turn (turns_of heap) else 0) ≡ times q (turns_of heap) → times q (turns_of (others_than turn (x ∷ heap))) + (if b then times turn (turns_of (x ∷ heap)) else 0) ≡ times q (turns_of (x ∷ heap))
    by true here is more = grind (arith, common_steps)
    by false here is more = grind (arith, common_steps)

pub length-others : (turn : Turn) (heap : List (Reverse Turn)) → length (others_than turn heap) + times turn (turns_of heap) ≡ length heap
length-others turn [] = refl
length-others turn (x ∷ heap) = let more = length-others turn heap in grind (arith, common_steps)

pub IsMoved-pushed : (turn : Turn) (due : ℕ) (heap left after : List (Reverse Turn)) (room more : ℕ) → times turn (turns_of heap) ≡ 1 → IsPermutation (others_than turn heap) left → IsPermutation (record { 0 = record { due = due; line = turn.line } } ∷ left) after → room ≤ more → IsMoved turn due (record { turns = turns_of heap; room = room }) (record { turns = turns_of after; room = more })
IsMoved-pushed turn due heap left after room more once same pushed kept =
    let moved : Reverse Turn = record { 0 = record { due = due; line = turn.line } } in
    record {
      counted = λ q.
          let out = ap (λ n. if is_turn q turn then n else 0) once in
          omega (arith, out, times-others q turn heap, times_left q (others_than turn heap) left same, times_pushed q moved left after pushed);
      many = omega (arith, once, length-others turn heap, length-turns_of heap, length-turns_of after, length_permutation _ _ same, length_permutation _ _ pushed);
      kept = kept;
    }
  where
    times_left : (q : Turn) (before left : List (Reverse Turn)) → IsPermutation before left → times q (turns_of left) ≡ times q (turns_of before)
    times_left q before left same = omega (arith, sum_by-IsPermutation (λ t. one_if (is_turn q t.0)) before left same, times-turns_of q before, times-turns_of q left)

-- ---- what is taken

pub NoneIsDue-empty : (now : ℕ) (all : Turns) → IsFirstOfAll all.turns None → NoneIsDue now all all
NoneIsDue-empty now all none = record { later = λ turn there. absurd (omega (arith, none turn)); same = refl }

pub NoneIsDue-later : (now : ℕ) (all : Turns) (first : Turn) → IsFirstOfAll all.turns (Some first) → now < first.due → NoneIsDue now all all
NoneIsDue-later now all first is_first later = record { later = λ turn there. omega (arith, (is_first.1 turn there).due); same = refl }

pub IsTaken-first : (now : ℕ) (old new : Turns) (first taken : Turn) → IsFirstOfAll old.turns (Some first) → first.due ≤ now → IsFirst taken old.turns → Leaves taken old new → IsTaken now taken old new
IsTaken-first now old new first taken is_first come before leaves =
    record {
      come = omega (arith, (before first is_first.0).due);
      there = let here = is_turn-itself taken in let counted = leaves.counted taken in grind (arith, common_steps);
      first = before;
      leaves = leaves;
    }

-- what is so of a call that came off
pub ok_fact : {T E P : Type 0} (r : Result T E) → IsOk r → OnOk r P → P
ok_fact (Ok value) ok fact = fact
ok_fact (Err e) ok fact = search rules
