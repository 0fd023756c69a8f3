-- Lines that were done in turn, and one more.
use Rattle.std.proofs.Common.{◌≡◌, ◌∙◌, ◌++◌, ◌∷◌, ◌+◌, ◌<◌, ◌≤◌, [], ℕ, List, Option, Some, None, inl, length, slice_get, take, ap, arith, refl, subst, sym}
use Rattle.std.proofs.lemmas.Iterator.Consumers.{YieldsList-end, YieldsList-so_far, YieldsList-turn}
use Rattle.std.proofs.lemmas.Iterator.{YieldsList}
use Rattle.std.proofs.lemmas.List.{length-append, map-append, map-id}
use Rattle.std.proofs.lemmas.Option.{slice_get-get_or}
use Rattle.std.specs.Iterator.{Yields}
use Rattle.world.proofs.Runs.SoFar.{after_all-push}
use Rattle.world.specs.Happening.{after, after_all, machine}
use Rattle.world.specs.State.{State}
use Rattle.shop_day.specs.Done.{AreDone, DoLines, DoesLine, Done, IsCutOff, IsDone, IsUntold, events}
use Rattle.shop_day.specs.declared.line.Line.{Line}
use Rattle.shop_day.specs.declared.outcome.Outcome.{Outcome}

pub begun : (w : State) (outcomes : List Outcome) → outcomes ≡ [] → DoLines [] outcomes w w
begun w outcomes none = record { day = []; lines_are = refl; outcomes_are = sym none; done = tt; closing = refl }

-- the next line
pub record IsNext (all done : List Line) (l : Line) : Type 0 where
  pub so_far : done ≡ take (length done) all
  pub within : length done < length all
  pub there : slice_get all (length done) ≡ Some l

pub next_of : {S : Type 0} {steps : S → Option Line → S → Type 0} {s : S} {all : List Line} (y : YieldsList steps (λ z. z) s all) (done : List Line) (t : S) (given : Yields steps s done t) (r : Option Line) (u : S) (l : Line)
    → r ≡ Some l → steps t r u → IsNext all done l
next_of {all = all} y done t given r u l is step =
    let turn = YieldsList-turn y done t given r u l is step in
    record { so_far = sym (map-id done) ∙ YieldsList-so_far y done t given; within = turn.0; there = slice_get-get_or all (length done) l turn.0 ∙ ap Some (sym turn.1) }

-- no line is next
pub all_of : {S : Type 0} {steps : S → Option Line → S → Type 0} {s : S} {all : List Line} (y : YieldsList steps (λ z. z) s all) (done : List Line) (t : S) (given : Yields steps s done t) (r : Option Line) (u : S) → r ≡ None → steps t r u → done ≡ all
all_of y done t given r u is step = sym (map-id done) ∙ (YieldsList-end y done t given r u is step).0

done_behind : (day : List Done) (d : Done) (w : State) → AreDone day w → IsDone d (after_all (events day) w) → AreDone (day ++ d ∷ []) w
done_behind [] d w before is = (is, tt)
done_behind (c ∷ day) d w before is = (before.0, done_behind day d (after c.event w) before.1 is)

pub one_more : (lines : List Line) (outcomes more : List Outcome) (l : Line) (outcome : Outcome) (first old new : State) → DoLines lines outcomes first old → DoesLine l old new outcome → more ≡ outcomes ++ outcome ∷ [] → DoLines (lines ++ l ∷ []) more first new
one_more lines outcomes more l outcome first old new before does pushed =
    let d : Done = record { line = l; outcome = outcome; event = does.0 } in
    record {
      day = before.day ++ d ∷ [];
      lines_are = map-append (λ (x : Done). x.line) before.day (d ∷ []) ∙ ap (λ xs. xs ++ l ∷ []) before.lines_are;
      outcomes_are = map-append (λ (x : Done). x.outcome) before.day (d ∷ []) ∙ ap (λ xs. xs ++ outcome ∷ []) before.outcomes_are ∙ sym pushed;
      done = done_behind before.day d first before.done (subst (IsDone d) before.closing does.2);
      closing = does.1 ∙ ap (after d.event) before.closing ∙ sym (after_all-push machine (events before.day) d.event first) ∙ ap (λ es. after_all es first) (sym (map-append (λ (x : Done). x.event) before.day (d ∷ [])));
    }

-- ---- lines so far, in room for all

pub record AreSoFar (all lines : List Line) (outcomes : List Outcome) (len cap : ℕ) (first now : State) : Type 0 where
  pub done : DoLines lines outcomes first now
  pub filled : len ≡ length lines
  pub room : length all ≤ cap

pub so_far_more : (all lines : List Line) (outcomes more : List Outcome) (len cap len' cap' : ℕ) (l : Line) (outcome : Outcome) (first now next : State) → AreSoFar all lines outcomes len cap first now → DoesLine l now next outcome
    → more ≡ outcomes ++ outcome ∷ [] → len' ≡ len + 1 → cap ≤ cap' → AreSoFar all (lines ++ l ∷ []) more len' cap' first next
so_far_more all lines outcomes more len cap len' cap' l outcome first now next so does pushed longer larger =
    record {
      done = one_more lines outcomes more l outcome first now next so.done does pushed;
      filled = longer ∙ ap (λ n. n + 1) so.filled ∙ sym (length-append lines (l ∷ []));
      room = omega (arith, so.room, larger);
    }

-- the outcome of the next line has room
pub not_full : (all lines : List Line) (outcomes : List Outcome) (len cap : ℕ) (l : Line) (first now : State) → AreSoFar all lines outcomes len cap first now → IsNext all lines l → cap ≤ len → ⊥
not_full all lines outcomes len cap l first now so next full = omega (arith, so.filled, so.room, next.within, full)

-- ---- lines that are cut off

pub cut_off : (all lines : List Line) (outcomes : List Outcome) (len cap : ℕ) (l : Line) (first now new : State) → AreSoFar all lines outcomes len cap first now → IsNext all lines l → IsUntold l now new → IsCutOff all first new
cut_off all lines outcomes len cap l first now new so next untold =
    record {
      place = length lines;
      line = l;
      there = next.there;
      outcomes = outcomes;
      between = now;
      done = subst (λ ls. DoLines ls outcomes first now) next.so_far so.done;
      untold = untold;
    }

-- before the first
pub cut_first : (lines : List Line) (w : State) → 0 < length lines → IsCutOff lines w w
cut_first [] w some = absurd (omega (arith, some))
cut_first (l ∷ lines) w some = record { place = 0; line = l; there = refl; outcomes = []; between = w; done = begun w [] refl; untold = inl refl }
