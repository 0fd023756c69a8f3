-- A look at what a controller has out.
use Rattle.std.proofs.Common.{◌≡◌, ◌∙◌, ◌||◌, ◌==◌, ℕ, Bool, true, false, Bor, List, [], ◌∷◌, ◌++◌, Result, Ok, Err, OnOk, map, ap, inl, inr, refl, sym}
use Rattle.std.proofs.lemmas.Bool.{or_cases}
use Rattle.std.proofs.lemmas.List.Folds.{list_any-append}
use Rattle.deliveries.specs.Ledger.{Ledger, outbox_at}
use Rattle.deliveries.specs.Outbox.{SpawnDestinations, is_among, progress_after_look, progress_in}
use Rattle.server_post.specs.Looks.{SeesController, is_sent}
use Rattle.stored_state.specs.Outgoing.{sending_seen}

or_left : (a b : Bool) → a ≡ true → (a || b) ≡ true
or_left true b is = refl
or_left false b is = absurd (cc)

or_right : (a b : Bool) → b ≡ true → (a || b) ≡ true
or_right true b is = refl
or_right false b is = is

module _ {N : Type 0} where
  -- one more was looked at, and left away
  pub one_more_seen : (out : SpawnDestinations) (seen : List (ℕ × N)) (one : ℕ × N) → ((s : ℕ) → is_among s out ≡ true → is_sent s seen ≡ true) → (s : ℕ) → is_among s out ≡ true → is_sent s (seen ++ one ∷ []) ≡ true
  one_more_seen out seen one so s is =
      list_any-append (λ o. o.0 == s) seen (one ∷ []) ∙ or_left (is_sent s seen) (is_sent s (one ∷ [])) (so s is)

  -- or it goes to a destination
  pub one_more_out : (out pushed : SpawnDestinations) (seen : List (ℕ × N)) (one : ℕ × N) (line : ℕ) → pushed ≡ out ++ (one.0, line) ∷ [] → ((s : ℕ) → is_among s out ≡ true → is_sent s seen ≡ true) → (s : ℕ) → is_among s pushed ≡ true → is_sent s (seen ++ one ∷ []) ≡ true
  one_more_out out pushed seen one line push so s is =
      elim (or_cases (is_among s out) (is_among s ((one.0, line) ∷ [])) (sym (list_any-append (λ o. o.0 == s) out ((one.0, line) ∷ [])) ∙ ap (is_among s) (sym push) ∙ is)) [
        | inl before ↦ one_more_seen out seen one so s before
        | inr last ↦ list_any-append (λ o. o.0 == s) seen (one ∷ []) ∙ or_right (is_sent s seen) (is_sent s (one ∷ [])) last
      ]

-- as a contract tells of them
pub sent_seen : (s : ℕ) (all : List (ℕ × Bor (List ℕ))) → is_sent s (map sending_seen all) ≡ is_sent s all
sent_seen s [] = refl
sent_seen s (one ∷ all) = ap (λ b. (one.0 == s) || b) (sent_seen s all)

-- those that go to destinations are all among what the controller has out
pub all_sent : (all seen : List (ℕ × Bor (List ℕ))) (named : List (ℕ × List ℕ)) (out given : SpawnDestinations) → map sending_seen all ≡ named → seen ≡ all → given ≡ out → ((s : ℕ) → is_among s out ≡ true → is_sent s seen ≡ true) → (s : ℕ) → is_among s given ≡ true → is_sent s named ≡ true
all_sent all seen named out given names same is so s among =
    ap (is_sent s) (sym names) ∙ sent_seen s all ∙ ap (is_sent s) (sym same) ∙ so s (ap (is_among s) (sym is) ∙ among)

module _ {X E : Type 0} where
  -- the controller is seen, as far as memory suffices
  pub sees_all : (r : Result X E) (number : ℕ) (all : List (ℕ × List ℕ)) (out : SpawnDestinations) (old mid new : Ledger) → mid.outboxes ≡ old.outboxes → ((s : ℕ) → is_among s out ≡ true → is_sent s all ≡ true) → OnOk r ((s : ℕ) → progress_in (outbox_at new.outboxes number) s ≡ progress_after_look (outbox_at mid.outboxes number) out s) → OnOk r ((k : ℕ) → (k ≡ number → ⊥) → outbox_at new.outboxes k ≡ outbox_at mid.outboxes k) → OnOk r (SeesController number all old new)
  sees_all (Ok x) number all out old mid new same its looked others =
      record {
        out = out;
        its = its;
        looked = λ s. looked s ∙ ap (λ boxes. progress_after_look (outbox_at boxes number) out s) same;
        others = λ k apart. others k apart ∙ ap (λ boxes. outbox_at boxes k) same;
      }
  sees_all (Err e) number all out old mid new same its looked others = tt
