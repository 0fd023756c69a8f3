-- What a look has done so far, as it sends one thing more.
use Rattle.std.proofs.Common.{◌≡◌, ⊎_elim, ◌⊎◌, inl, inr, ℕ, ◌==◌, ◌||◌, Bool, true, false, List, [], ◌∷◌, ◌++◌, map, filter, append-nil, Option, Some, None, is_some, length, refl, sym, ap, ap₂, ◌∙◌, subst, if◌then◌else◌}
use Rattle.std.proofs.lemmas.Bool.{cases_eq, eq-eqb, ne_eqb, true≢false}
use Rattle.std.proofs.lemmas.List.{map-append}
use Rattle.std.proofs.lemmas.List.Folds.{list_any-append}
use Rattle.std.proofs.lemmas.List.Sums.{fold-append}
use Rattle.std.specs.List.{list_any}
use Rattle.courier.specs.Destination.{Destination}
use Rattle.courier.specs.Table as table
use Rattle.deliveries.proofs.Keys.{same-thing}
use Rattle.deliveries.specs.Ledger.{IsHeld, IsInLine, IsRouted, IsTied, is_waiting, outbox_at, progress_of}
use Rattle.deliveries.specs.Outbox.{Outbox, SpawnDestinations, progress_after_look, progress_in, seen_again}
use Rattle.deliveries.specs.Routes.{Routes, is_thing, line_of, thing_at}
use Rattle.deliveries.specs.Sending.{IsPut, Puts, thing_of, waits_again}
use Rattle.deliveries.specs.declared.progress.Progress.{Progress}
use Rattle.deliveries.specs.declared.thing.Thing.{Thing}

-- ---- lists

filter-push : (f : ℕ × ℕ → Bool) (xs : SpawnDestinations) (x : ℕ × ℕ) → filter f (xs ++ x ∷ []) ≡ filter f xs ++ (if f x then x ∷ [] else [])
filter-push f [] x = refl
filter-push f (y ∷ xs) x = by (f y) (filter-push f xs x)
  where
    by : (b : Bool) → filter f (xs ++ x ∷ []) ≡ filter f xs ++ (if f x then x ∷ [] else []) → (if b then y ∷ filter f (xs ++ x ∷ []) else filter f (xs ++ x ∷ [])) ≡ (if b then y ∷ filter f xs else filter f xs) ++ (if f x then x ∷ [] else [])
    by true more = ap (λ l. y ∷ l) more
    by false more = more

or-true : (a : Bool) → (a || true) ≡ true
or-true true = refl
or-true false = refl

or-false : (a : Bool) → (a || false) ≡ a
or-false true = refl
or-false false = refl

progress_after_look-push : (had : Outbox) (out : SpawnDestinations) (o : ℕ × ℕ) (s : ℕ) → progress_after_look had (out ++ o ∷ []) s ≡ (if o.0 == s then Some (seen_again (progress_in had o.0)) else progress_after_look had out s)
progress_after_look-push had out o s =
    ap (λ b. if b then Some (seen_again (progress_in had s)) else None) (list_any-append (λ p. p.0 == s) out (o ∷ []))
    ∙ ⊎_elim
    (λ here.
    let test = eq-eqb o.0 s here in
    ap (λ b. if list_any (λ p. p.0 == s) out || (b || false) then Some (seen_again (progress_in had s)) else None) test
    ∙ ap (λ b. if b then Some (seen_again (progress_in had s)) else None) (or-true (list_any (λ p. p.0 == s) out))
    ∙ ap (λ n. Some (seen_again (progress_in had n))) (sym here)
    ∙ sym (ap (λ b. if b then Some (seen_again (progress_in had o.0)) else progress_after_look had out s) test))
    (λ other.
    let test = ne_eqb o.0 s other in
    ap (λ b. if list_any (λ p. p.0 == s) out || (b || false) then Some (seen_again (progress_in had s)) else None) test
    ∙ ap (λ b. if b then Some (seen_again (progress_in had s)) else None) (or-false (list_any (λ p. p.0 == s) out))
    ∙ sym (ap (λ b. if b then Some (seen_again (progress_in had o.0)) else progress_after_look had out s) test))
    (cases_eq o.0 s)

-- ---- one more

-- what is put stays that of the same things
things-kept : (c : ℕ) (old new : Routes) (puts : Puts) (xs : SpawnDestinations) → ((item : ℕ) (t : Thing) → thing_at old item ≡ Some t → thing_at new item ≡ Some t) → map (λ p. thing_at old p.0) puts ≡ map (λ o. Some (thing_of c o)) xs → map (λ p. thing_at new p.0) puts ≡ map (λ o. Some (thing_of c o)) xs
things-kept c old new [] [] kept same = refl
things-kept c old new [] (x ∷ xs) kept same = absurd (cc)
things-kept c old new (p ∷ puts) [] kept same = absurd (cc)
things-kept c old new (p ∷ puts) (x ∷ xs) kept same =
    let first : thing_at old p.0 ≡ Some (thing_of c x) = cc in
    let rest : map (λ p. thing_at old p.0) puts ≡ map (λ o. Some (thing_of c o)) xs = cc in
    ap₂ (λ o os. o ∷ os) (kept p.0 (thing_of c x) first) (things-kept c old new puts xs kept rest)

pub put-kept : (c : ℕ) (had : Outbox) (out : SpawnDestinations) (old : List Destination) (r s : Routes) (new after : List Destination) → ((item : ℕ) (t : Thing) → thing_at r item ≡ Some t → thing_at s item ≡ Some t) → after ≡ new → IsPut c had out old r new → IsPut c had out old s after
put-kept c had out old r s new after kept same was =
    record {
      puts = was.puts;
      things = things-kept c r s was.puts (filter (waits_again had) out) kept was.things;
      after = same ∙ was.after;
    }

put-more : (c : ℕ) (had : Outbox) (out : SpawnDestinations) (o : ℕ × ℕ) (old : List Destination) (r : Routes) (new after : List Destination) (item line : ℕ) (b : Bool) → waits_again had o ≡ b → thing_at r item ≡ Some (thing_of c o) → after ≡ (if b then table.put item new line else new) → IsPut c had out old r new → IsPut c had (out ++ o ∷ []) old r after
put-more c had out o old r new after item line true waits there is was =
    let more = filter-push (waits_again had) out o ∙ ap (λ b. filter (waits_again had) out ++ (if b then o ∷ [] else [])) waits in
    record {
      puts = was.puts ++ (item, line) ∷ [];
      things = map-append (λ p. thing_at r p.0) was.puts ((item, line) ∷ [])
          ∙ ap₂ (λ xs x. xs ++ x ∷ []) was.things there
          ∙ sym (map-append (λ o. Some (thing_of c o)) (filter (waits_again had) out) (o ∷ []))
          ∙ ap (map (λ o. Some (thing_of c o))) (sym more);
      after = is ∙ ap (λ ds. table.put item ds line) was.after ∙ sym (fold-append (λ ds p. table.put p.0 ds p.1) old was.puts ((item, line) ∷ []));
    }
put-more c had out o old r new after item line false waits there is was =
    let more = filter-push (waits_again had) out o ∙ ap (λ b. filter (waits_again had) out ++ (if b then o ∷ [] else [])) waits in
    record {
      puts = was.puts;
      things = was.things ∙ ap (map (λ o. Some (thing_of c o))) (sym (more ∙ append-nil (filter (waits_again had) out)));
      after = is ∙ was.after;
    }

-- what a send ensures
pub record IsSent (one : Thing) (waits : Bool) (line : ℕ) (old new : List Destination) (r s : Routes) : Type 0 where
  pub put : (item : ℕ) × (thing_at s item ≡ Some one) × (new ≡ (if waits then table.put item old line else old))
  pub in_line : waits ≡ true → IsInLine new s one
  pub known : line_of s one ≡ Some line
  pub things : (item : ℕ) (t : Thing) → thing_at r item ≡ Some t → thing_at s item ≡ Some t
  pub routed : IsRouted new s
  pub kept : (t : Thing) → (is_thing one t ≡ true → waits ≡ true) → IsInLine old r t → IsInLine new s t
  pub lined : (t : Thing) → is_some (line_of r t) ≡ true → is_some (line_of s t) ≡ true
  pub long : length new ≡ length old

-- what a look has done behind some spawns
pub record IsLooked (c : ℕ) (had : Outbox) (out : SpawnDestinations) (old new : List Destination) (r s : Routes) (box : Outbox) : Type 0 where
  pub looked : (n : ℕ) → progress_in box n ≡ progress_after_look had out n
  pub held : (n : ℕ) → IsHeld new s (record { controller = c; spawn = n }) (progress_in box n)
  pub put : IsPut c had out old s new
  pub routed : IsRouted new s
  pub kept : (t : Thing) → (t.controller ≡ c → is_waiting (Some (seen_again (progress_in had t.spawn))) ≡ true) → IsInLine old r t → IsInLine new s t
  pub lined : (t : Thing) → is_some (line_of r t) ≡ true → is_some (line_of s t) ≡ true
  pub long : length new ≡ length old

pub progress_after_look-none : (c : ℕ) (had : Outbox) (old : List Destination) (r : Routes) → IsRouted old r → IsLooked c had [] old old r r []
progress_after_look-none c had old r routed =
    record {
      looked = λ n. refl;
      held = λ n. record { known = λ some. absurd (true≢false (sym some)); waits = λ some. absurd (true≢false (sym some)) };
      put = record { puts = []; things = refl; after = refl };
      routed = routed;
      kept = λ t _ was. was;
      lined = λ t some. some;
      long = refl;
    }

module _ (c : ℕ) (had : Outbox) (out : SpawnDestinations) (o : ℕ × ℕ) (old mid new : List Destination) (r s v : Routes) (box : Outbox) (line : ℕ) (was : IsLooked c had out old mid r s box) (sent : IsSent (thing_of c o) (waits_again had o) line mid new s v) where
  pub put-sent : IsPut c had (out ++ o ∷ []) old v new
  put-sent = put-more c had out o old v mid new sent.put.0 line (waits_again had o) refl sent.put.1 sent.put.2 (put-kept c had out old s v mid mid sent.things refl was.put)

  pub kept-looked : (t : Thing) → (t.controller ≡ c → is_waiting (Some (seen_again (progress_in had t.spawn))) ≡ true) → IsInLine old r t → IsInLine new v t
  kept-looked t waits before =
      sent.kept t
      (λ same. let is = same-thing (thing_of c o) t same in subst (λ u. is_waiting (Some (seen_again (progress_in had u.spawn))) ≡ true) (sym is) (waits (ap (λ u. u.controller) (sym is))))
      (was.kept t waits before)

  held-more : (n : ℕ) (p : Option Progress) → (o.0 ≡ n) ⊎ (o.0 ≡ n → ⊥) → p ≡ (if o.0 == n then Some (seen_again (progress_in had o.0)) else progress_in box n) → IsHeld new v (record { controller = c; spawn = n }) p
  held-more n p (inl here) is =
      let now = is ∙ ap (λ b. if b then Some (seen_again (progress_in had o.0)) else progress_in box n) (eq-eqb o.0 n here) in
      subst (λ n. IsHeld new v (record { controller = c; spawn = n }) p) here (record {
        known = λ _. ap is_some sent.known;
        waits = λ waiting. sent.in_line (ap is_waiting (sym now) ∙ waiting);
      })
  held-more n p (inr other) is =
      let now = is ∙ ap (λ b. if b then Some (seen_again (progress_in had o.0)) else progress_in box n) (ne_eqb o.0 n other) in
      let held = was.held n in
      record {
        known = λ some. sent.lined _ (held.known (ap is_some (sym now) ∙ some));
        waits = λ waiting. sent.kept _ (λ same. absurd (other (ap (λ u. u.spawn) (same-thing (thing_of c o) (record { controller = c; spawn = n }) same)))) (held.waits (ap is_waiting (sym now) ∙ waiting));
      }

  pub looked-more : (after : Outbox) → ((n : ℕ) → progress_in after n ≡ (if o.0 == n then Some (seen_again (progress_in had o.0)) else progress_in box n)) → IsLooked c had (out ++ o ∷ []) old new r v after
  looked-more after inserted =
      record {
        looked = λ n. inserted n ∙ ap (λ p. if o.0 == n then Some (seen_again (progress_in had o.0)) else p) (was.looked n) ∙ sym (progress_after_look-push had out o n);
        held = λ n. held-more n (progress_in after n) (cases_eq o.0 n) (inserted n);
        put = put-sent;
        routed = sent.routed;
        kept = kept-looked;
        lined = λ t some. sent.lined t (was.lined t some);
        long = sent.long ∙ was.long;
      }

-- what stands in its line stays there
pub kept-on : (c : ℕ) (had : Outbox) (o : ℕ × ℕ) (old mid new : List Destination) (r s v : Routes) (b : Bool) → b ≡ waits_again had o → ((t : Thing) → (is_thing (thing_of c o) t ≡ true → b ≡ true) → IsInLine mid s t → IsInLine new v t) → ((t : Thing) → (t.controller ≡ c → is_waiting (Some (seen_again (progress_in had t.spawn))) ≡ true) → IsInLine old r t → IsInLine mid s t) → (t : Thing) → (t.controller ≡ c → is_waiting (Some (seen_again (progress_in had t.spawn))) ≡ true) → IsInLine old r t → IsInLine new v t
kept-on c had o old mid new r s v b is kept was t waits before =
    kept t
    (λ same. let one = same-thing (thing_of c o) t same in is ∙ subst (λ u. is_waiting (Some (seen_again (progress_in had u.spawn))) ≡ true) (sym one) (waits (ap (λ u. u.controller) (sym one))))
    (was t waits before)

-- ---- behind a look

waits-still : (o : Option Progress) → is_waiting o ≡ true → is_waiting (Some (seen_again o)) ≡ true
waits-still None waits = absurd (true≢false (sym waits))
waits-still (Some p) waits = waits

pub tied-same : (ds : List Destination) (r : Routes) (boxes after : List Outbox) → IsTied ds r boxes → ((k : ℕ) → outbox_at after k ≡ outbox_at boxes k) → IsTied ds r after
tied-same ds r boxes after tied same =
    record {
      routed = tied.routed;
      held = λ t. subst (λ box. IsHeld ds r t (progress_in box t.spawn)) (sym (same t.controller)) (tied.held t);
    }

module _ (c : ℕ) (had : Outbox) (old new : List Destination) (r s : Routes) (boxes : List Outbox) (tied : IsTied old r boxes) (its : had ≡ outbox_at boxes c) (routed : IsRouted new s) (kept : (t : Thing) → (t.controller ≡ c → is_waiting (Some (seen_again (progress_in had t.spawn))) ≡ true) → IsInLine old r t → IsInLine new s t) (lined : (t : Thing) → is_some (line_of r t) ≡ true → is_some (line_of s t) ≡ true) where
  -- what was out is tied
  pub tied-left : (after : List Outbox) → ((k : ℕ) → outbox_at after k ≡ outbox_at boxes k) → IsTied new s after
  tied-left after same =
      tied-same new s boxes after
      (record {
        routed = routed;
        held = λ t. record {
          known = λ some. lined t ((tied.held t).known some);
          waits = λ waiting. kept t (λ here. waits-still (progress_in had t.spawn) (ap (λ box. is_waiting (progress_in box t.spawn)) (its ∙ ap (outbox_at boxes) (sym here)) ∙ waiting)) ((tied.held t).waits waiting);
        };
      })
      same

  -- and what is out now
  pub tied-looked : (box : Outbox) (after : List Outbox) → ((n : ℕ) → IsHeld new s (record { controller = c; spawn = n }) (progress_in box n)) → ((k : ℕ) → outbox_at after k ≡ (if c == k then box else outbox_at boxes k)) → IsTied new s after
  tied-looked box after held set =
      record {
        routed = routed;
        held = λ t.
            ⊎_elim
            (λ here.
            let now = set t.controller ∙ ap (λ b. if b then box else outbox_at boxes t.controller) (eq-eqb c t.controller here) in
            subst (λ k. IsHeld new s (record { controller = k; spawn = t.spawn }) (progress_of after t)) here
            (subst (λ b. IsHeld new s (record { controller = c; spawn = t.spawn }) (progress_in b t.spawn)) (sym now) (held t.spawn)))
            (λ other.
            let now = set t.controller ∙ ap (λ b. if b then box else outbox_at boxes t.controller) (ne_eqb c t.controller other) in
            subst (λ b. IsHeld new s t (progress_in b t.spawn)) (sym now) (record {
              known = λ some. lined t ((tied.held t).known some);
              waits = λ waiting. kept t (λ same. absurd (other (sym same))) ((tied.held t).waits waiting);
            }))
            (cases_eq c t.controller);
      }
