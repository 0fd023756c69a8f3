-- What is left of words that a command takes without fault: a row for each argument that was used,
-- with its one value, which passed; and the command that was met, which isn't `help`.
use Rattle.std.proofs.Common.{◌≡◌, ◌∙◌, ◌++◌, ◌⊎◌, ◌&&◌, ◌==◌, ℕ, zero, suc, Bool, true, false, cond, not, List, [], ◌∷◌, Option, Some, None, IfSome, All, find, fold, codes, length, refl, sym, ap, subst, inl, inr, bytes_eq, slice_get, chars, encode_utf8, drop, append-nil, is_some, arith, eqb-true}
use Rattle.std.specs.Prelude.{⊤, unwrap_or}
use Rattle.std.specs.Option.{option_map_or}
use Rattle.std.proofs.lemmas.Bool.{or_parts}
use Rattle.std.proofs.lemmas.List.Elements.{All-nil, All-push}
use Rattle.clap.specs.Facts.{unwrap_or_range}
use Rattle.clap.specs.Faults.{action_fault, bundle_fault, bundle_step_fault, check_fault, defaults_fault, flag_word_fault, flags_fault, level_fault, long_fault, option_fault, other_fault, positional_fault, react_fault, repeat_fault, settle_fault, short_fault, step_fault, stray_fault, turn_fault, use_fault, values_fault, walk_fault, word_fault}
use Rattle.clap.specs.Kinds.{Kinds, or_else, range_kinds}
use Rattle.clap.specs.Lexer.{long_of, short_of}
use Rattle.clap.specs.Simple.{Shape}
use Rattle.clap.specs.Takes.{value_passes}
use Rattle.clap.specs.Values.{is_request, refused_kind}
use Rattle.clap.specs.Facts.{parser_of_value}
use Rattle.clap.specs.Walk.{Held, Names, Outcome, Row, Rule, Step, Text, Waiting, Walk, action_of, after_flag, after_step, arg_by_id, arg_by_index, arg_by_long, arg_by_short, at_row, attached_value, bundle, bundle_met, bundle_step, default_rows, done, flag_met, has_row, idle, is_pending, long_met, long_or_other, more_values, most_values, next, nothing_held, option, option_met, option_word, plain, plain_word, positional, positional_held, reacted, reading_by, refused, rows_after, settled, settled_rows, short_met, short_or_plain, stop_after, subcommand, subcommand_met, subcommand_or_other, takes_several, takes_values, to_positional, trailing, used, used_as, used_by_id, value, values_or_missing, waits, walk, walk_from, walked, walked_from, with_default, with_values, without, word_met}
use Rattle.clap.specs.declared.builder.action.ArgAction.{ArgAction}
use Rattle.clap.specs.declared.builder.action.ArgAction.TheVariants.{Help, Set, SetTrue}
use Rattle.clap.specs.declared.parser.matches.ValueSource.{ValueSource}
use Rattle.clap.specs.declared.parser.matches.ValueSource.TheVariants.{CommandLine, DefaultValue}
use Rattle.clap.specs.declared.error.kind.ErrorKind.TheVariants as kind

-- both steps passed
pub both_pass : (a b : Kinds) → or_else a b ≡ [] → (a ≡ []) × (b ≡ [])
both_pass [] b e = (refl, e)
both_pass (k ∷ ks) b e = cc

-- the value is one of the list
abbrev pub IsIn : {X : Type 0} → X → List X → Type 0
IsIn x [] = ⊥
IsIn x (y ∷ ys) = (x ≡ y) ⊎ IsIn x ys

pub found_in : {X : Type 0} (p : X → Bool) (xs : List X) (x : X) → find p xs ≡ Some x → IsIn x xs × (p x ≡ true)
found_in p [] x e = cc
found_in p (y ∷ ys) x e = go (p y) refl e (found_in p ys x)
  where
    go : (b : Bool) → p y ≡ b → cond b (Some y) (find p ys) ≡ Some x → (find p ys ≡ Some x → IsIn x ys × (p x ≡ true)) → IsIn x (y ∷ ys) × (p x ≡ true)
    go true t same rest =
        let is : y ≡ x = ap (λ o. unwrap_or o y) same in
        (inl (sym is), subst (λ z. p z ≡ true) is t)
    go false t same rest =
        let later = rest same in
        (inr later.0, later.1)

-- ---- rows

-- the row of an argument with this value, from this source
abbrev pub made : Rule → ValueSource → Text → Row
made a from v = record { id = a.id; values = v ∷ []; count = None; source = Some from; reading = reading_by a }

-- the argument is a flag
abbrev pub IsFlag : Rule → Type 0
IsFlag a = (action_of a ≡ SetTrue) × ((unwrap_or_range a.range).start_inclusive ≡ 0) × (most_values a ≡ 0) × (a.missing ≡ codes "true" ∷ [])

-- the argument takes one value, is a flag, or asks for help
abbrev pub TakesOne : Rule → Type 0
TakesOne a = ((action_of a ≡ Set) × ((unwrap_or_range a.range).start_inclusive ≡ 1) × (most_values a ≡ 1)) ⊎ (IsFlag a ⊎ (is_request (action_of a) ≡ true))

-- the row is one of these arguments'
abbrev pub IsMade : List Rule → Row → Type 0
IsMade c r = (a : Rule) × (from : ValueSource) × (v : Text) × IsIn a c × (value_passes a v ≡ true) × (r ≡ made a from v)

added : (id : Text) (change : Row → List Row) (missing rows : List Row) → has_row id rows ≡ false → at_row id change missing rows ≡ rows ++ missing
added id change missing [] none = refl
added id change missing (r ∷ rs) none =
    let parts = or_parts (bytes_eq r.id id) _ none in
    rw parts.0 (ap (λ xs. r ∷ xs) (added id change missing rs parts.1))

-- the action puts the value of an argument in place of another
abbrev Sets : ArgAction → Type 0
Sets x = (x ≡ Set) ⊎ (x ≡ SetTrue)

put_first : (a : Rule) (v : Text) (rows : List Row) → has_row a.id rows ≡ false → with_values a.id (reading_by a) CommandLine (v ∷ []) (without a.id rows) ≡ rows ++ made a CommandLine v ∷ []
put_first a v rows none =
    ap (with_values a.id (reading_by a) CommandLine (v ∷ [])) (added a.id (λ _. []) [] rows none ∙ append-nil rows)
    ∙ added a.id (more_values CommandLine (v ∷ [])) (made a CommandLine v ∷ []) rows none

used_first : (x : ArgAction) (a : Rule) (v : Text) (rows : List Row) → Sets x → has_row a.id rows ≡ false → used_as x a.id (reading_by a) (v ∷ []) rows ≡ rows ++ made a CommandLine v ∷ []
used_first x a v rows (inl is) none = ap (λ y. used_as y a.id (reading_by a) (v ∷ []) rows) is ∙ put_first a v rows none
used_first x a v rows (inr is) none = ap (λ y. used_as y a.id (reading_by a) (v ∷ []) rows) is ∙ put_first a v rows none

one_wanted : (n : ℕ) → range_kinds 1 1 n ≡ [] → 1 ≡ n
one_wanted n e = go (n == 0) (1 == n) refl e
  where
    go : (none one : Bool) → (1 == n) ≡ one → cond none (kind.InvalidValue ∷ []) (cond one [] (kind.WrongNumberOfValues ∷ [])) ≡ [] → 1 ≡ n
    go none true t same = eqb-true _ _ t
    go true false t same = cc
    go false false t same = cc

one_value : (values : List Text) → 1 ≡ length values → (v : Text) × (values ≡ v ∷ [])
one_value [] e = absurd (omega (arith, e))
one_value (v ∷ []) e = (v, refl)
one_value (v ∷ w ∷ vs) e = absurd (omega (arith, e))

none_wanted : (n : ℕ) → range_kinds 0 0 n ≡ [] → 0 ≡ n
none_wanted n e = go (0 == n) refl e
  where
    go : (none : Bool) → (0 == n) ≡ none → cond none [] (kind.WrongNumberOfValues ∷ []) ≡ [] → 0 ≡ n
    go true t same = eqb-true _ _ t
    go false t same = cc

no_value : (values : List Text) → range_kinds 0 0 (length values) ≡ [] → values ≡ []
no_value [] e = refl
no_value (v ∷ vs) e = absurd (omega (arith, none_wanted _ e))

not_again : (b : Bool) → cond (b && true) (kind.ArgumentConflict ∷ []) [] ≡ [] → b ≡ false
not_again true e = cc
not_again false e = refl

value_passed : (a : Rule) (v : Text) → values_fault a (v ∷ []) ≡ [] → value_passes a v ≡ true
value_passed a v e = go (value_passes a v) e
  where
    go : (b : Bool) → or_else (cond b [] (refused_kind (parser_of_value a.parser) ∷ [])) [] ≡ [] → b ≡ true
    go true same = refl
    go false same = cc

request_fails : (x : ArgAction) (a : Rule) (values : List Text) (rows : List Row) → is_request x ≡ true → action_fault x false a values rows ≡ [] → ⊥
request_fails Help a values rows is e = cc
request_fails _ a values rows is e = cc

-- where a value is set, it is the first, and passes
set_parts : (x : ArgAction) (a : Rule) (v : Text) (rows : List Row) → Sets x → action_fault x false a (v ∷ []) rows ≡ [] → (has_row a.id rows ≡ false) × (value_passes a v ≡ true)
set_parts x a v rows sets e = go sets
  where
    parts : or_else (repeat_fault false a.id rows) (values_fault a (v ∷ [])) ≡ [] → (has_row a.id rows ≡ false) × (value_passes a v ≡ true)
    parts fault =
        let steps = both_pass (repeat_fault false a.id rows) _ fault in
        (not_again _ steps.0, value_passed a v steps.1)

    go : Sets x → (has_row a.id rows ≡ false) × (value_passes a v ≡ true)
    go (inl is) = parts (subst (λ y. action_fault y false a (v ∷ []) rows ≡ []) is e)
    go (inr is) = parts (subst (λ y. action_fault y false a (v ∷ []) rows ≡ []) is e)

module _ (c : List Rule) (one : (a : Rule) → IsIn a c → TakesOne a) where
  abbrev Rows : List Row → Type 0
  Rows rows = All (IsMade c) rows

  use_made : (a : Rule) (values : List Text) (rows : List Row) → IsIn a c → use_fault false a values rows ≡ [] → Rows rows → Rows (used a values rows)
  use_made a values rows is e before = go (one a is)
    where
      parts : (range_kinds (unwrap_or_range a.range).start_inclusive (most_values a) (length values) ≡ [])
          × (action_fault (action_of a) false a (values_or_missing a values) rows ≡ [])
      parts = both_pass (range_kinds (unwrap_or_range a.range).start_inclusive (most_values a) (length values)) _ e

      set : Sets (action_of a) → ((v : Text) × (values_or_missing a values ≡ v ∷ [])) → All (IsMade c) (used a values rows)
      set sets one =
          let first = set_parts (action_of a) a one.0 rows sets (subst (λ vs. action_fault (action_of a) false a vs rows ≡ []) one.1 parts.1) in
          subst (λ vs. All (IsMade c) (used_as (action_of a) a.id (reading_by a) vs rows)) (sym one.1)
          (subst (All (IsMade c)) (sym (used_first (action_of a) a one.0 rows sets first.0))
          (All-push (IsMade c) rows (made a CommandLine one.0) before (a, CommandLine, one.0, is, first.1, refl)))

      go : TakesOne a → All (IsMade c) (used a values rows)
      go (inl takes) =
          let range : range_kinds 1 1 (length values) ≡ [] = rw (takes.1, takes.2) at parts.0 in
          let one = one_value values (one_wanted _ range) in
          set (inl takes.0) (one.0, ap (values_or_missing a) one.1)
      go (inr (inl flag)) =
          let range : range_kinds 0 0 (length values) ≡ [] = rw (flag.1, flag.2) at parts.0 in
          set (inr flag.0) (codes "true", ap (values_or_missing a) (no_value values range) ∙ flag.3)
      go (inr (inr asks)) = absurd (request_fails (action_of a) a _ rows asks parts.1)

  -- ---- a flag

  settle_made : (h : Held) → settle_fault c false h ≡ [] → Rows h.rows → Rows (settled c h).rows
  settle_made h e before = go h.pending e
    where
      by_id : (p : Text × List Text) (o : Option Rule) → arg_by_id c p.0 ≡ o → option_map_or (λ a. use_fault false a p.1 h.rows) o [] ≡ [] → All (IsMade c) (used_by_id o p.1 h.rows)
      by_id p None is fault = before
      by_id p (Some a) is fault = use_made a p.1 h.rows (found_in _ c a is).0 fault before

      go : (pending : Option (Text × List Text)) → option_map_or (λ p. option_map_or (λ a. use_fault false a p.1 h.rows) (arg_by_id c p.0) []) pending [] ≡ []
          → All (IsMade c) (settled_rows c pending h.rows)
      go None fault = before
      go (Some p) fault = by_id p (arg_by_id c p.0) refl fault

  react_made : (a : Rule) (values : List Text) (h : Held) → IsIn a c → react_fault c false a values h ≡ [] → Rows h.rows → Rows (reacted c a values h).rows
  react_made a values h is e before =
      let parts = both_pass (settle_fault c false h) _ e in
      use_made a values (settled c h).rows is parts.1 (settle_made h parts.0 before)

  option_made : (a : Rule) (v : Option Text) (h : Held) → IsIn a c → option_fault c false a v h ≡ [] → Rows h.rows → Rows (option_met c a v h).0.rows
  option_made a (Some v) h is e before = react_made a (v ∷ []) h is e before
  option_made a None h is e before = settle_made h e before

  flag_made : (a : Rule) (v : Option Text) (h : Held) → IsIn a c → cond (is_some v) (kind.TooManyValues ∷ []) (react_fault c false a [] h) ≡ [] → Rows h.rows
      → Rows (flag_met c a v h).0.rows
  flag_made a (Some v) h is e before = before
  flag_made a None h is e before = react_made a [] h is e before

  long_made : (o : Option Rule) (v : Option Text) (h : Held) → ((a : Rule) → o ≡ Some a → IsIn a c) → long_fault c false o v h ≡ [] → Rows h.rows
      → Rows (long_met c o v h).0.rows
  long_made None v h is e before = before
  long_made (Some a) v h is e before = go (takes_values a) e
    where
      go : (b : Bool) → cond b (option_fault c false a v h) (cond (is_some v) (kind.TooManyValues ∷ []) (react_fault c false a [] h)) ≡ []
          → All (IsMade c) (cond b (option_met c a v h) (flag_met c a v h)).0.rows
      go true fault = option_made a v h (is a refl) fault before
      go false fault = flag_made a v h (is a refl) fault before

  short_made : (o : Option Rule) (rest : Text) (h : Held) (on : Held → Held × Outcome) (after : Held → Kinds) → ((a : Rule) → o ≡ Some a → IsIn a c)
      → ((k : Held) → after k ≡ [] → Rows k.rows → Rows (on k).0.rows) → short_fault c false o rest h after ≡ [] → Rows h.rows → Rows (short_met c o rest h on).0.rows
  short_made None rest h on after is goes_on e before = before
  short_made (Some a) rest h on after is goes_on e before = go (takes_values a) e
    where
      go : (b : Bool) → cond b (option_fault c false a (attached_value rest) h) (or_else (react_fault c false a [] h) (after (reacted c a [] h))) ≡ []
          → All (IsMade c) (cond b (option_met c a (attached_value rest) h) (on (reacted c a [] h))).0.rows
      go true fault = option_made a (attached_value rest) h (is a refl) fault before
      go false fault =
          let parts = both_pass (react_fault c false a [] h) _ fault in
          goes_on (reacted c a [] h) parts.1 (react_made a [] h (is a refl) parts.0 before)

  bundle_made : (k : ℕ) (flags : Text) (skip : ℕ) (so_far : Outcome) (h : Held) → flags_fault c false k flags skip h ≡ [] → Rows h.rows
      → Rows (bundle_met c k flags skip so_far h).0.rows
  unfolding bundle_met flags_fault
  bundle_made zero flags skip so_far h e before = before
  bundle_made (suc k) flags skip so_far h e before = go (slice_get (chars flags) 0) skip e (λ t n o g fault rows. bundle_made k t n o g fault rows)
    where
      go : (x : Option ℕ) (skip : ℕ) → bundle_step_fault c false x flags skip h (flags_fault c false k) ≡ []
          → ((t : Text) (n : ℕ) (o : Outcome) (g : Held) → flags_fault c false k t n g ≡ [] → All (IsMade c) g.rows → All (IsMade c) (bundle_met c k t n o g).0.rows)
          → All (IsMade c) (bundle_step c x flags skip so_far h (bundle_met c k)).0.rows
      go None skip fault rest = before
      go (Some x) zero fault rest =
          let left = drop (length (encode_utf8 x)) flags in
          short_made (arg_by_short c x) left h (bundle_met c k left 0 done) (flags_fault c false k left 0) (λ a is. (found_in _ c a is).0) (λ g. rest left 0 done g) fault before
      go (Some x) (suc skip) fault rest = rest (drop (length (encode_utf8 x)) flags) skip so_far h fault before

  -- ---- a word

  plain_word_made : (waiting : Waiting) (word : Text) (h : Held) → Rows h.rows → Rows (plain_word c waiting word h).0.rows
  plain_word_made idle word h before = before
  plain_word_made positional word h before = before
  plain_word_made (option id) word h before = go (arg_by_id c id)
    where
      go : (o : Option Rule) → All (IsMade c) (option_word o id word h).0.rows
      go None = before
      go (Some a) = before

  after_flag_made : (waiting : Waiting) (word : Text) (h : Held) (came : Outcome) → Rows h.rows → Rows (after_flag c waiting word h came).0.rows
  after_flag_made waiting word h done before = before
  after_flag_made waiting word h (waits id) before = before
  after_flag_made waiting word h plain before = plain_word_made waiting word h before
  after_flag_made waiting word h refused before = plain_word_made waiting word h before

  flag_word_made : (waiting : Waiting) (word : Text) (name : Option (Text × Option Text)) (h : Held) → flag_word_fault c false name word h ≡ [] → Rows h.rows
      → Rows (long_or_other c waiting word name h).0.rows
  flag_word_made waiting word (Some p) h e before =
      let met = long_met c (arg_by_long c p.0) p.1 h in
      after_flag_made waiting word met.0 met.1 (long_made (arg_by_long c p.0) p.1 h (λ a is. (found_in _ c a is).0) e before)
  flag_word_made waiting word None h e before = go (short_of word) e
    where
      go : (flags : Option Text) → option_map_or (λ f. bundle_fault c false f h) flags [] ≡ [] → All (IsMade c) (short_or_plain c waiting word flags h).0.rows
      go None fault = plain_word_made waiting word h before
      go (Some f) fault =
          let met = bundle c f h in
          after_flag_made waiting word met.0 met.1 (bundle_made (length f) f h.skip plain (record h { skip = 0 }) fault before)

-- ---- a turn

-- the name that was met asks for no help
abbrev pub AsksNoHelp : Shape → Text → Type 0
AsksNoHelp s name = (bytes_eq name (codes "help") && not s.disable_help_subcommand) ≡ false

abbrev StepAsksNoHelp : Shape → Step → Type 0
StepAsksNoHelp s (subcommand name) = AsksNoHelp s name
StepAsksNoHelp s _ = ⊤

module _ (s : Shape) where
  plain_step : (waiting : Waiting) (word : Text) (h : Held) → StepAsksNoHelp s (plain_word s.rules waiting word h).1
  plain_step idle word h = tt
  plain_step positional word h = tt
  plain_step (option id) word h = tt

  after_flag_step : (waiting : Waiting) (word : Text) (h : Held) (came : Outcome) → StepAsksNoHelp s (after_flag s.rules waiting word h came).1
  after_flag_step waiting word h done = tt
  after_flag_step waiting word h (waits id) = tt
  after_flag_step waiting word h plain = plain_step waiting word h
  after_flag_step waiting word h refused = plain_step waiting word h

  flag_step : (waiting : Waiting) (word : Text) (name : Option (Text × Option Text)) (h : Held) → StepAsksNoHelp s (long_or_other s.rules waiting word name h).1
  flag_step waiting word (Some p) h =
      let met = long_met s.rules (arg_by_long s.rules p.0) p.1 h in
      after_flag_step waiting word met.0 met.1
  flag_step waiting word None h = go (short_of word)
    where
      go : (flags : Option Text) → StepAsksNoHelp s (short_or_plain s.rules waiting word flags h).1
      go None = plain_step waiting word h
      go (Some f) =
          let met = bundle s.rules f h in
          after_flag_step waiting word met.0 met.1

module _ (s : Shape) (one : (a : Rule) → IsIn a s.rules → TakesOne a) (once : s.args_override_self ≡ false) where
  -- what is held, and the step that was taken
  abbrev Met : Held × Step → Type 0
  Met met = All (IsMade s.rules) met.0.rows × StepAsksNoHelp s met.1

  other_made : (name : Option Text) (waiting : Waiting) (position : ℕ) (word : Text) (h : Held) → other_fault s name word h ≡ [] → All (IsMade s.rules) h.rows
      → Met (subcommand_or_other s.rules name waiting position word h)
  other_made (Some name) waiting position word h e before = (before, go (bytes_eq name (codes "help") && not s.disable_help_subcommand) e)
    where
      go : (b : Bool) → cond b (kind.DisplayHelp ∷ kind.InvalidSubcommand ∷ []) [] ≡ [] → b ≡ false
      go true fault = cc
      go false fault = refl
  other_made None waiting position word h e before = go (bytes_eq word (45 ∷ 45 ∷ [])) e
    where
      go : (b : Bool) → cond b [] (flag_word_fault s.rules s.args_override_self (long_of word) word h) ≡ []
          → Met (cond b (h, trailing position) (long_or_other s.rules waiting word (long_of word) h))
      go true fault = (before, tt)
      go false fault =
          let faultless : flag_word_fault s.rules false (long_of word) word h ≡ [] =
          subst (λ again. flag_word_fault s.rules again (long_of word) word h ≡ []) once fault in
          (flag_word_made s.rules one waiting word (long_of word) h faultless before, flag_step s waiting word (long_of word) h)

  word_made : (names : Names) (is_trailing : Bool) (waiting : Waiting) (position : ℕ) (word : Text) (h : Held) → word_fault s names is_trailing waiting word h ≡ []
      → All (IsMade s.rules) h.rows → Met (word_met s.rules names is_trailing waiting position word h)
  word_made names true waiting position word h e before = (before, tt)
  word_made names false waiting position word h e before = other_made (subcommand_met names waiting word) waiting position word h e before

  positional_made : (a : Rule) (word : Text) (h : Held) → positional_fault s.rules s.args_override_self a h ≡ [] → All (IsMade s.rules) h.rows
      → All (IsMade s.rules) (positional_held s.rules a word h).rows
  positional_made a word h e before = go (is_pending a h.pending && takes_several a) e
    where
      go : (b : Bool) → cond b [] (settle_fault s.rules s.args_override_self h) ≡ [] → All (IsMade s.rules) (cond b h (settled s.rules h)).rows
      go true fault = before
      go false fault = settle_made s.rules one h (subst (λ again. settle_fault s.rules again h ≡ []) once fault) before

  -- where a walk stands whose words had no fault so far
  abbrev pub Stands : Walk → Type 0
  Stands w = All (IsMade s.rules) w.held.rows × IfSome w.stopped (λ p. AsksNoHelp s p.0)

  after_made : (word : Text) (w : Walk) (h : Held) (step : Step) → Met (h, step) → IfSome w.stopped (λ p. AsksNoHelp s p.0) → step_fault s w.position h step ≡ []
      → Stands (after_step s.rules word w h step)
  after_made word w h (next waiting) met stop e = (met.0, stop)
  after_made word w h (trailing position) met stop e = (met.0, stop)
  after_made word w h (subcommand name) met stop e = met
  after_made word w h value met stop e = go (arg_by_index s.rules w.position) e
    where
      go : (o : Option Rule) → option_map_or (λ a. positional_fault s.rules s.args_override_self a h) o (stray_fault s) ≡ []
          → Stands (to_positional s.rules o word w h)
      go None fault = (met.0, stop)
      go (Some a) fault = (positional_made a word h fault met.0, tt)

  turn_made : (names : Names) (w : Walk) (word : Text) → turn_fault s names w word ≡ [] → Stands w → Stands (walked s.rules names w word)
  unfolding walked
  turn_made names w word e before = go w.stopped e before.1
    where
      go : (o : Option (Text × List Text))
          → cond (is_some o) [] (or_else (word_fault s names w.is_trailing w.waiting word w.held)
          (step_fault s w.position (word_met s.rules names w.is_trailing w.waiting w.position word w.held).0
          (word_met s.rules names w.is_trailing w.waiting w.position word w.held).1)) ≡ []
          → IfSome o (λ p. AsksNoHelp s p.0) → Stands (walked_from s.rules names o w word)
      go (Some p) fault stop = (before.0, stop)
      go None fault stop =
          let met = word_met s.rules names w.is_trailing w.waiting w.position word w.held in
          let parts = both_pass (word_fault s names w.is_trailing w.waiting word w.held) _ fault in
          after_made word w met.0 met.1 (word_made names w.is_trailing w.waiting w.position word w.held parts.0 before.0) before.1 parts.1

  pub walk_made : (names : Names) (w : Walk) (words : List Text) → walk_fault s names w words ≡ [] → Stands w → Stands (fold (walked s.rules names) w words)
  unfolding walk_fault
  walk_made names w [] e before = before
  walk_made names w (word ∷ words) e before =
      let parts = both_pass (turn_fault s names w word) _ e in
      walk_made names (walked s.rules names w word) words parts.1 (turn_made names w word parts.0 before)

-- ---- after the walk

-- the argument has no default, or one that passes
abbrev pub HasDefault : Rule → Type 0
HasDefault a = (a.defaults ≡ []) ⊎ ((v : Text) × (a.defaults ≡ v ∷ []) × (value_passes a v ≡ true))

default_made : (c : List Rule) (a : Rule) (rows : List Row) → IsIn a c → HasDefault a → All (IsMade c) rows → All (IsMade c) (with_default rows a)
default_made c a rows is has before = go (has_row a.id rows) refl has
  where
    go : (b : Bool) → has_row a.id rows ≡ b → HasDefault a → All (IsMade c) (cond b rows (default_rows a.id (reading_by a) a.defaults rows))
    go true there has = before
    go false none (inl bare) = subst (λ ds. All (IsMade c) (default_rows a.id (reading_by a) ds rows)) (sym bare) before
    go false none (inr some) =
        subst (λ ds. All (IsMade c) (default_rows a.id (reading_by a) ds rows)) (sym some.1)
        (subst (All (IsMade c)) (sym (added a.id (more_values DefaultValue (some.0 ∷ [])) (made a DefaultValue some.0 ∷ []) rows none))
        (All-push (IsMade c) rows (made a DefaultValue some.0) before (a, DefaultValue, some.0, is, some.2, refl)))

defaults_made : (c rest : List Rule) (rows : List Row) → ((a : Rule) → IsIn a rest → IsIn a c × HasDefault a) → All (IsMade c) rows → All (IsMade c) (fold with_default rows rest)
defaults_made c [] rows each before = before
defaults_made c (a ∷ rest) rows each before =
    let own = each a (inl refl) in
    defaults_made c rest (with_default rows a) (λ b is. each b (inr is)) (default_made c a rows own.0 own.1 before)

-- the argument takes one value, is a flag, or asks for help
abbrev pub IsPlainRule : Rule → Type 0
IsPlainRule a = TakesOne a × HasDefault a

-- what holds where a level of the parse has no fault
pub record Passed (s : Shape) (names : Names) (words : List Text) (has : Bool) (under : Kinds) : Type 0 where
  pub rows : All (IsMade s.rules) (rows_after s.rules names words)
  pub stop : IfSome (stop_after s.rules names words) (λ p. AsksNoHelp s p.0)
  pub below : under ≡ []
  pub checks : check_fault s (rows_after s.rules names words) has ≡ []

pub level_passed : (s : Shape) → ((a : Rule) → IsIn a s.rules → IsPlainRule a) → s.args_override_self ≡ false
    → (names : Names) (words : List Text) (has : Bool) (below : Kinds) → level_fault s names nothing_held words has below ≡ [] → Passed s names words has below
level_passed s each once names words has below e =
    let one : (a : Rule) → IsIn a s.rules → TakesOne a = λ a is. (each a is).0 in
    let end = (walk s.rules names nothing_held words).held in
    let walked = both_pass (walk_fault s names (walk_from nothing_held) words) _ e in
    let under = both_pass below _ walked.1 in
    let settles = both_pass (settle_fault s.rules s.args_override_self end) _ under.1 in
    let given = both_pass (defaults_fault (settled s.rules end).rows s.rules) _ settles.1 in
    let stands = walk_made s one once names (walk_from nothing_held) words walked.0 (All-nil (IsMade s.rules), tt) in
    let faultless : settle_fault s.rules false end ≡ [] = subst (λ again. settle_fault s.rules again end ≡ []) once settles.0 in
    let rows = settle_made s.rules one end faultless stands.0 in
    record {
      rows = defaults_made s.rules s.rules (settled s.rules end).rows (λ a is. (is, (each a is).1)) rows;
      stop = stands.1;
      below = under.0;
      checks = given.1;
    }
