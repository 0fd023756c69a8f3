-- Words without fault name one of the commands, with what it wants.
use Rattle.std.proofs.Common.{◌≡◌, ◌∙◌, ◌&&◌, ◌||◌, ℕ, Bool, true, false, cond, not, List, [], ◌∷◌, Option, Some, None, IfSome, IsSomeAnd, All, find, codes, is_some, map, refl, sym, ap, subst, inl, inr, bytes_eq, option_and_then, option_map, slice_get, true≢false}
use Rattle.std.specs.List.{filter}
use Rattle.std.specs.Option.{option_map_or}
use Rattle.std.proofs.lemmas.Bool.{or_cases, or_parts}
use Rattle.std.proofs.lemmas.Slice.Eq.{bytes_eq-Decides}
use Rattle.std.proofs.lemmas.List.Elements.{All-head, All-tail}
use Rattle.clap.specs.Facts.{explicit_source}
use Rattle.clap.specs.Faults.{fault_of, level_fault, entered_fault}
use Rattle.clap.specs.Kinds.{check_kinds}
use Rattle.clap.specs.Simple.{Shape, built, built_leaf, entered, inherited, label_of, names_of, rows_at, subcommand_of}
use Rattle.clap.specs.Takes.{is_given, value_passes}
use Rattle.clap.specs.Walk.{Row, Rule, Text, answers_to, nothing_held, row_text, rows_after, stop_after}
use Rattle.clap.specs.Values.{IsUnsignedIn}
use Rattle.clap.specs.declared.builder.value_parser.ValueParser.{ValueParser}
use Rattle.clap.specs.declared.builder.value_parser.ValueParser.TheVariants as parser
use Rattle.clap.specs.declared.parser.matches.ValueSource.{ValueSource}
use Rattle.clap.specs.declared.parser.matches.ValueSource.TheVariants.{CommandLine}
use Rattle.clap.proofs.ValueTestLemmas.{accepts-Accepts}
use Rattle.jdf_words.specs.Calls.{HasAt, HasFile, HasServing, HasText, IsCall, IsWithin, MayHaveAt}
use Rattle.jdf_words.specs.Commands.{command, edit_rules, jdf, list_rules, new_rules, order_rules, program_without_commands, refusal_rule, send_rules, serve_rules, show_rules, take_rules}
use Rattle.jdf_words.proofs.Walks.{AsksNoHelp, IsIn, IsMade, IsPlainRule, found_in, level_passed, made}

-- an element that is found has what each has
found_holds : {X : Type 0} (P : X → Type 0) (p : X → Bool) (xs : List X) (x : X) → find p xs ≡ Some x → All P xs → P x
found_holds P p [] x e h = cc
found_holds P p (y ∷ ys) x e h = go (p y) e (λ rest. found_holds P p ys x rest (All-tail P y ys h))
  where
    go : (b : Bool) → cond b (Some y) (find p ys) ≡ Some x → (find p ys ≡ Some x → P x) → P x
    go true same rest = subst (λ o. IfSome o P) same (All-head P y ys h)
    go false same rest = rest same

-- the row of an argument that was given
pub record Given (c : List Rule) (id : Text) (rows : List Row) : Type 0 where
  pub rule : Rule
  pub from : ValueSource
  pub text : Text
  pub among : IsIn rule c
  pub passes : value_passes rule text ≡ true
  pub named : bytes_eq rule.id id ≡ true
  pub found : find (λ r. bytes_eq r.id id) rows ≡ Some (made rule from text)

given_row : (c : List Rule) (id : Text) (rows : List Row) → All (IsMade c) rows → is_given id rows ≡ true → Given c id rows
given_row c id rows all given = go (find (λ r. bytes_eq r.id id) rows) refl given
  where
    go : (o : Option Row) → find (λ r. bytes_eq r.id id) rows ≡ o → option_map_or (λ r. explicit_source r.source) o false ≡ true → Given c id rows
    go None e none = absurd (true≢false (sym none))
    go (Some r) e some =
        let made_row = found_holds (IsMade c) (λ r. bytes_eq r.id id) rows r e all in
        let here = (found_in (λ r. bytes_eq r.id id) rows r e).1 in
        record {
          rule = made_row.0;
          from = made_row.1;
          text = made_row.2;
          among = made_row.3;
          passes = made_row.4;
          named = subst (λ (x : Row). bytes_eq x.id id ≡ true) made_row.5 here;
          found = e ∙ ap Some made_row.5;
        }

-- a command of the program, as it is built
abbrev leaf : Text → List Rule → Shape
leaf name arguments = built_leaf (inherited program_without_commands.top (command name arguments))

abbrev beginning : Shape
beginning = leaf (codes "new") new_rules

abbrev taking : Shape
taking = leaf (codes "take") take_rules

abbrev ordering : Shape
ordering = leaf (codes "order") order_rules

abbrev showing : Shape
showing = leaf (codes "show") show_rules

abbrev listing : Shape
listing = leaf (codes "list") list_rules

abbrev serving : Shape
serving = leaf (codes "serve") serve_rules

abbrev sending : Shape
sending = leaf (codes "send") send_rules

abbrev explaining : Shape
explaining = leaf (codes "explain") (refusal_rule ∷ [])

help_plain : (name : Text) (a : Rule) → IsIn a (leaf name []).rules → IsPlainRule a
help_plain name a (inl is) = rw is (inr (inr refl), inl refl)
help_plain name a (inr none) = absurd none

beginning_plain : (a : Rule) → IsIn a beginning.rules → IsPlainRule a
beginning_plain a (inl is) = rw is (inl (refl, refl, refl), inl refl)
beginning_plain a (inr (inl is)) = rw is (inl (refl, refl, refl), inl refl)
beginning_plain a (inr (inr is)) = help_plain (codes "new") a is

taking_plain : (a : Rule) → IsIn a taking.rules → IsPlainRule a
taking_plain a (inl is) = rw is (inl (refl, refl, refl), inl refl)
taking_plain a (inr (inl is)) = rw is (inl (refl, refl, refl), inl refl)
taking_plain a (inr (inr (inl is))) = rw is (inl (refl, refl, refl), inl refl)
taking_plain a (inr (inr (inr (inl is)))) = rw is (inl (refl, refl, refl), inl refl)
taking_plain a (inr (inr (inr (inr is)))) = help_plain (codes "take") a is

ordering_plain : (a : Rule) → IsIn a ordering.rules → IsPlainRule a
ordering_plain a (inl is) = rw is (inl (refl, refl, refl), inl refl)
ordering_plain a (inr (inl is)) = rw is (inl (refl, refl, refl), inl refl)
ordering_plain a (inr (inr (inl is))) = rw is (inl (refl, refl, refl), inl refl)
ordering_plain a (inr (inr (inr (inl is)))) = rw is (inl (refl, refl, refl), inl refl)
ordering_plain a (inr (inr (inr (inr (inl is))))) = rw is (inl (refl, refl, refl), inl refl)
ordering_plain a (inr (inr (inr (inr (inr is))))) = help_plain (codes "order") a is

showing_plain : (a : Rule) → IsIn a showing.rules → IsPlainRule a
showing_plain a (inl is) = rw is (inl (refl, refl, refl), inl refl)
showing_plain a (inr (inl is)) = rw is (inr (inl (refl, refl, refl, refl)), inr (codes "false", refl, refl))
showing_plain a (inr (inr (inl is))) = rw is (inl (refl, refl, refl), inl refl)
showing_plain a (inr (inr (inr is))) = help_plain (codes "show") a is

listing_plain : (a : Rule) → IsIn a listing.rules → IsPlainRule a
listing_plain a (inl is) = rw is (inl (refl, refl, refl), inl refl)
listing_plain a (inr (inl is)) = rw is (inl (refl, refl, refl), inl refl)
listing_plain a (inr (inr (inl is))) = rw is (inr (inl (refl, refl, refl, refl)), inr (codes "false", refl, refl))
listing_plain a (inr (inr (inr (inl is)))) = rw is (inr (inl (refl, refl, refl, refl)), inr (codes "false", refl, refl))
listing_plain a (inr (inr (inr (inr is)))) = help_plain (codes "list") a is

serving_plain : (a : Rule) → IsIn a serving.rules → IsPlainRule a
serving_plain a (inl is) = rw is (inl (refl, refl, refl), inl refl)
serving_plain a (inr (inl is)) = rw is (inl (refl, refl, refl), inl refl)
serving_plain a (inr (inr (inl is))) = rw is (inl (refl, refl, refl), inl refl)
serving_plain a (inr (inr (inr (inl is)))) = rw is (inl (refl, refl, refl), inl refl)
serving_plain a (inr (inr (inr (inr (inl is))))) = rw is (inl (refl, refl, refl), inl refl)
serving_plain a (inr (inr (inr (inr (inr (inl is)))))) = rw is (inl (refl, refl, refl), inl refl)
serving_plain a (inr (inr (inr (inr (inr (inr (inl is))))))) = rw is (inl (refl, refl, refl), inl refl)
serving_plain a (inr (inr (inr (inr (inr (inr (inr (inl is)))))))) = rw is (inl (refl, refl, refl), inl refl)
serving_plain a (inr (inr (inr (inr (inr (inr (inr (inr (inl is))))))))) = rw is (inl (refl, refl, refl), inl refl)
serving_plain a (inr (inr (inr (inr (inr (inr (inr (inr (inr (inl is)))))))))) = rw is (inl (refl, refl, refl), inl refl)
serving_plain a (inr (inr (inr (inr (inr (inr (inr (inr (inr (inr (inl is))))))))))) = rw is (inl (refl, refl, refl), inl refl)
serving_plain a (inr (inr (inr (inr (inr (inr (inr (inr (inr (inr (inr (inl is)))))))))))) = rw is (inl (refl, refl, refl), inl refl)
serving_plain a (inr (inr (inr (inr (inr (inr (inr (inr (inr (inr (inr (inr is)))))))))))) = help_plain (codes "serve") a is

sending_plain : (a : Rule) → IsIn a sending.rules → IsPlainRule a
sending_plain a (inl is) = rw is (inl (refl, refl, refl), inl refl)
sending_plain a (inr (inl is)) = rw is (inl (refl, refl, refl), inl refl)
sending_plain a (inr (inr is)) = help_plain (codes "send") a is

explaining_plain : (a : Rule) → IsIn a explaining.rules → IsPlainRule a
explaining_plain a (inl is) = rw is (inl (refl, refl, refl), inl refl)
explaining_plain a (inr is) = help_plain (codes "explain") a is

none_missing : (missing : Bool) → check_kinds false false missing ≡ [] → missing ≡ false
none_missing true e = cc
none_missing false e = refl

there : (given : Bool) → not given ≡ false → given ≡ true
there true e = refl
there false e = cc

text_given : (c : List Rule) (id : Text) (rows : List Row) → All (IsMade c) rows → is_given id rows ≡ true → HasText id rows
text_given c id rows all given =
    let row = given_row c id rows all given in
    ap (λ o. is_some (option_and_then (λ (r : Row). slice_get r.values 0) o)) row.found

-- what holds of each value that the rule of a name lets pass, holds of the value that is there
value_holds : (c : List Rule) (id : Text) (P : Text → Type 0) (rows : List Row) → All (IsMade c) rows
    → ((a : Rule) (text : Text) → IsIn a c → bytes_eq a.id id ≡ true → value_passes a text ≡ true → IfSome (row_text (made a CommandLine text)) P)
    → IfSome (option_and_then row_text (find (λ r. bytes_eq r.id id) rows)) P
value_holds c id P rows all each = go (find (λ r. bytes_eq r.id id) rows) refl
  where
    go : (o : Option Row) → find (λ r. bytes_eq r.id id) rows ≡ o → IfSome (option_and_then row_text o) P
    go None e = tt
    go (Some r) e =
        let made_row = found_holds (IsMade c) (λ r. bytes_eq r.id id) rows r e all in
        let here = (found_in (λ r. bytes_eq r.id id) rows r e).1 in
        let named = subst (λ (x : Row). bytes_eq x.id id ≡ true) made_row.5 here in
        subst (λ x. IfSome (row_text x) P) (sym made_row.5) (each made_row.0 made_row.2 made_row.3 named made_row.4)

-- how the values of the arguments of a name are read
abbrev parsers_of : Text → List Rule → List (Option ValueParser)
parsers_of id c = map (λ a. a.parser) (filter (λ a. bytes_eq a.id id) c)

among_parsers : (id : Text) (c : List Rule) (a : Rule) → IsIn a c → bytes_eq a.id id ≡ true → IsIn a.parser (parsers_of id c)
among_parsers id [] a none named = absurd none
among_parsers id (b ∷ c) a (inl is) named =
    let here : bytes_eq b.id id ≡ true = subst (λ (r : Rule). bytes_eq r.id id ≡ true) is named in
    rw here (inl (ap (λ (r : Rule). r.parser) is))
among_parsers id (b ∷ c) a (inr is) named = go (bytes_eq b.id id) (among_parsers id c a is named)
  where
    go : (here : Bool) → IsIn a.parser (parsers_of id c)
        → IsIn a.parser (map (λ r. r.parser) (cond here (b ∷ filter (λ r. bytes_eq r.id id) c) (filter (λ r. bytes_eq r.id id) c)))
    go true rest = inr rest
    go false rest = rest

-- where only one argument is called so, and is a number within bounds, what passes is one
number_passes : (c : List Rule) (id : Text) (low high : ℕ) → parsers_of id c ≡ Some (parser.Unsigned low high) ∷ []
    → (a : Rule) (text : Text) → IsIn a c → bytes_eq a.id id ≡ true → value_passes a text ≡ true
    → IfSome (row_text (made a CommandLine text)) (IsUnsignedIn low high)
number_passes c id low high only a text among named passes = go (subst (IsIn a.parser) only (among_parsers id c a among named))
  where
    go : IsIn a.parser (Some (parser.Unsigned low high) ∷ []) → IfSome (row_text (made a CommandLine text)) (IsUnsignedIn low high)
    go (inl is) = rw is (accepts-Accepts a.ignore_case (parser.Unsigned low high) text (rw is at passes))
    go (inr none) = absurd none

-- N that was given is a time
at_given : (c : List Rule) (rows : List Row) → parsers_of (codes "at") c ≡ Some (parser.Unsigned 0 9999999999) ∷ [] → All (IsMade c) rows
    → is_given (codes "at") rows ≡ true → HasAt rows
at_given c rows only all given =
    let row = given_row c (codes "at") rows all given in
    subst (λ o. IsSomeAnd (option_and_then row_text o) (IsUnsignedIn 0 9999999999)) (sym row.found)
    (number_passes c (codes "at") 0 9999999999 only row.rule row.text row.among row.named row.passes)

-- an option of `serve` is a number within bounds, or isn't there
serving_within : (id : Text) (low high : ℕ) (rows : List Row) → parsers_of id serving.rules ≡ Some (parser.Unsigned low high) ∷ []
    → All (IsMade serving.rules) rows → IsWithin id low high rows
serving_within id low high rows only all =
    value_holds serving.rules id (IsUnsignedIn low high) rows all (number_passes serving.rules id low high only)

-- `serve` has its FILE and its ADDR, `send` its URL, and `explain` its N
serving_has : (words : List Text) → level_fault serving [] nothing_held words false [] ≡ []
    → HasFile (rows_after serving.rules [] words) × HasServing (rows_after serving.rules [] words)
serving_has words e =
    let passed = level_passed serving serving_plain refl [] words false [] e in
    let rows = rows_after serving.rules [] words in
    let file = or_parts (not (is_given (codes "FILE") rows)) _ (none_missing _ passed.checks) in
    let listen = or_parts (not (is_given (codes "listen") rows)) false file.1 in
    let has : HasServing rows = record {
      listen = text_given serving.rules (codes "listen") rows passed.rows (there _ listen.0);
      seconds = serving_within (codes "limit") 1 3600 rows refl passed.rows;
      clients = serving_within (codes "clients") 1 65536 rows refl passed.rows;
      body = serving_within (codes "body") 1 1073741824 rows refl passed.rows;
      memory = serving_within (codes "memory") 1048576 1099511627776 rows refl passed.rows;
      requests = serving_within (codes "requests") 1 18446744073709551615 rows refl passed.rows;
    } in
    (text_given serving.rules (codes "FILE") rows passed.rows (there _ file.0), has)

sending_has : (words : List Text) → level_fault sending [] nothing_held words false [] ≡ [] → HasText (codes "URL") (rows_after sending.rules [] words)
sending_has words e =
    let passed = level_passed sending sending_plain refl [] words false [] e in
    text_given sending.rules (codes "URL") _ passed.rows (there _ (or_parts _ false (none_missing _ passed.checks)).0)

explaining_has : (words : List Text) → level_fault explaining [] nothing_held words false [] ≡ [] → HasText (codes "N") (rows_after explaining.rules [] words)
explaining_has words e =
    let passed = level_passed explaining explaining_plain refl [] words false [] e in
    text_given explaining.rules (codes "N") _ passed.rows (there _ (or_parts _ false (none_missing _ passed.checks)).0)

-- `new` has its FILE
beginning_has : (words : List Text) → level_fault beginning [] nothing_held words false [] ≡ [] → HasFile (rows_after beginning.rules [] words)
beginning_has words e =
    let passed = level_passed beginning beginning_plain refl [] words false [] e in
    text_given beginning.rules (codes "FILE") _ passed.rows (there _ (or_parts _ false (none_missing _ passed.checks)).0)

-- `show` has its FILE, and so has `list`; N where that was given is a time
showing_has : (words : List Text) → level_fault showing [] nothing_held words false [] ≡ []
    → HasFile (rows_after showing.rules [] words) × MayHaveAt (rows_after showing.rules [] words)
showing_has words e =
    let passed = level_passed showing showing_plain refl [] words false [] e in (
      text_given showing.rules (codes "FILE") _ passed.rows (there _ (or_parts _ false (none_missing _ passed.checks)).0),
      value_holds showing.rules (codes "at") (IsUnsignedIn 0 9999999999) _ passed.rows (number_passes showing.rules (codes "at") 0 9999999999 refl),
    )

listing_has : (words : List Text) → level_fault listing [] nothing_held words false [] ≡ []
    → HasFile (rows_after listing.rules [] words) × MayHaveAt (rows_after listing.rules [] words)
listing_has words e =
    let passed = level_passed listing listing_plain refl [] words false [] e in (
      text_given listing.rules (codes "FILE") _ passed.rows (there _ (or_parts _ false (none_missing _ passed.checks)).0),
      value_holds listing.rules (codes "at") (IsUnsignedIn 0 9999999999) _ passed.rows (number_passes listing.rules (codes "at") 0 9999999999 refl),
    )

-- `take` and `order` have their FILE and their N
taking_has : (words : List Text) → level_fault taking [] nothing_held words false [] ≡ []
    → HasFile (rows_after taking.rules [] words) × HasAt (rows_after taking.rules [] words)
taking_has words e =
    let passed = level_passed taking taking_plain refl [] words false [] e in
    let file = or_parts (not (is_given (codes "FILE") (rows_after taking.rules [] words))) _ (none_missing _ passed.checks) in
    let time = or_parts (not (is_given (codes "at") (rows_after taking.rules [] words))) false file.1 in (
      text_given taking.rules (codes "FILE") _ passed.rows (there _ file.0),
      at_given taking.rules _ refl passed.rows (there _ time.0),
    )

ordering_has : (words : List Text) → level_fault ordering [] nothing_held words false [] ≡ []
    → HasFile (rows_after ordering.rules [] words) × HasAt (rows_after ordering.rules [] words)
ordering_has words e =
    let passed = level_passed ordering ordering_plain refl [] words false [] e in
    let file = or_parts (not (is_given (codes "FILE") (rows_after ordering.rules [] words))) _ (none_missing _ passed.checks) in
    let time = or_parts (not (is_given (codes "at") (rows_after ordering.rules [] words))) false file.1 in (
      text_given ordering.rules (codes "FILE") _ passed.rows (there _ file.0),
      at_given ordering.rules _ refl passed.rows (there _ time.0),
    )

-- ---- the program

top_plain : (a : Rule) → IsIn a (built jdf).top.rules → IsPlainRule a
unfolding jdf
top_plain a (inl is) = rw is (inr (inr refl), inl refl)
top_plain a (inr (inl is)) = rw is (inr (inr refl), inl refl)
top_plain a (inr (inr none)) = absurd none

not_help : (name : Text) → (bytes_eq (codes "help") name || false) ≡ true → AsksNoHelp (built jdf).top name → ⊥
unfolding jdf
not_help name same no_help = elim (or_cases (bytes_eq (codes "help") name) false same) [
  | inl is ↦
      let help : codes "help" ≡ name = (bytes_eq-Decides _ _).0 is in
      let bad : true ≡ false = rw (← help) at no_help in
      cc
  | inr none ↦ cc
]

-- a command that is one of the program's, where it takes the words after it and isn't `help`
command_has : (s : Shape) (name : Text) (words : List Text) → IsIn s (built jdf).subs → answers_to name (label_of s) ≡ true → AsksNoHelp (built jdf).top name
    → level_fault s [] nothing_held words false [] ≡ [] → IsCall (rows_at s words)
unfolding jdf
command_has s name words (inl is) answers no_help e = rw is (record { command = refl; file = λ bad. cc; at = λ bad. cc; moment = λ bad. cc; serving = λ bad. cc; url = λ bad. cc; number = λ bad. cc })
command_has s name words (inr (inl is)) answers no_help e = rw is (record { command = refl; file = λ bad. cc; at = λ bad. cc; moment = λ bad. cc; serving = λ bad. cc; url = λ bad. cc; number = λ bad. cc })
command_has s name words (inr (inr (inl is))) answers no_help e = rw is (record { command = refl; file = λ bad. cc; at = λ bad. cc; moment = λ bad. cc; serving = λ bad. cc; url = λ bad. cc; number = λ bad. cc })
command_has s name words (inr (inr (inr (inl is)))) answers no_help e =
    let has = beginning_has words (rw is at e) in
    rw is (record { command = refl; file = λ _. has; at = λ bad. cc; moment = λ bad. cc; serving = λ bad. cc; url = λ bad. cc; number = λ bad. cc })
command_has s name words (inr (inr (inr (inr (inl is))))) answers no_help e =
    let has = ordering_has words (rw is at e) in
    rw is (record { command = refl; file = λ _. has.0; at = λ _. has.1; moment = λ bad. cc; serving = λ bad. cc; url = λ bad. cc; number = λ bad. cc })
command_has s name words (inr (inr (inr (inr (inr (inl is)))))) answers no_help e =
    let has = taking_has words (rw is at e) in
    rw is (record { command = refl; file = λ _. has.0; at = λ _. has.1; moment = λ bad. cc; serving = λ bad. cc; url = λ bad. cc; number = λ bad. cc })
command_has s name words (inr (inr (inr (inr (inr (inr (inl is))))))) answers no_help e =
    let has = showing_has words (rw is at e) in
    rw is (record { command = refl; file = λ _. has.0; at = λ bad. cc; moment = λ _. has.1; serving = λ bad. cc; url = λ bad. cc; number = λ bad. cc })
command_has s name words (inr (inr (inr (inr (inr (inr (inr (inl is)))))))) answers no_help e =
    let has = listing_has words (rw is at e) in
    rw is (record { command = refl; file = λ _. has.0; at = λ bad. cc; moment = λ _. has.1; serving = λ bad. cc; url = λ bad. cc; number = λ bad. cc })
command_has s name words (inr (inr (inr (inr (inr (inr (inr (inr (inl is))))))))) answers no_help e = rw is (record { command = refl; file = λ bad. cc; at = λ bad. cc; moment = λ bad. cc; serving = λ bad. cc; url = λ bad. cc; number = λ bad. cc })
command_has s name words (inr (inr (inr (inr (inr (inr (inr (inr (inr (inl is)))))))))) answers no_help e =
    let has = explaining_has words (rw is at e) in
    rw is (record { command = refl; file = λ bad. cc; at = λ bad. cc; moment = λ bad. cc; serving = λ bad. cc; url = λ bad. cc; number = λ _. has })
command_has s name words (inr (inr (inr (inr (inr (inr (inr (inr (inr (inr (inl is))))))))))) answers no_help e =
    let has = serving_has words (rw is at e) in
    rw is (record { command = refl; file = λ _. has.0; at = λ bad. cc; moment = λ bad. cc; serving = λ _. has.1; url = λ bad. cc; number = λ bad. cc })
command_has s name words (inr (inr (inr (inr (inr (inr (inr (inr (inr (inr (inr (inl is)))))))))))) answers no_help e =
    let has = sending_has words (rw is at e) in
    rw is (record { command = refl; file = λ bad. cc; at = λ bad. cc; moment = λ bad. cc; serving = λ bad. cc; url = λ _. has; number = λ bad. cc })
command_has s name words (inr (inr (inr (inr (inr (inr (inr (inr (inr (inr (inr (inr (inl is))))))))))))) answers no_help e =
    let same : (bytes_eq (codes "help") name || false) ≡ true = rw is at answers in
    absurd (not_help name same no_help)
command_has s name words (inr (inr (inr (inr (inr (inr (inr (inr (inr (inr (inr (inr (inr none))))))))))))) answers no_help e = absurd none

has_command : (has : Bool) → check_kinds (not has && false) (not has && true) false ≡ [] → has ≡ true
has_command true e = refl
has_command false e = cc

-- where the words have no fault, a call was found
pub reached : (words : List Text) → fault_of jdf words ≡ [] → IsSomeAnd (subcommand_of jdf words) IsCall
unfolding jdf
reached words e =
    let app = built jdf in
    let stop = stop_after app.top.rules (names_of app) words in
    let passed = level_passed app.top top_plain refl (names_of app) words (is_some (entered app stop)) (entered_fault app stop) e in
    go stop passed.stop passed.below (has_command _ passed.checks)
  where
    by_shape : (p : Text × List Text) (o : Option Shape) → find (λ s. answers_to p.0 (label_of s)) (built jdf).subs ≡ o → AsksNoHelp (built jdf).top p.0
        → option_map_or (λ s. level_fault s [] nothing_held p.1 false []) o [] ≡ [] → is_some (option_map (λ s. rows_at s p.1) o) ≡ true
        → IsSomeAnd (option_map (λ s. rows_at s p.1) o) IsCall
    by_shape p None is no_help fault has = cc
    by_shape p (Some s) is no_help fault has =
        let found = found_in (λ x. answers_to p.0 (label_of x)) (built jdf).subs s is in
        command_has s p.0 p.1 found.0 found.1 no_help fault

    go : (stop : Option (Text × List Text)) → IfSome stop (λ p. AsksNoHelp (built jdf).top p.0) → entered_fault (built jdf) stop ≡ []
        → is_some (entered (built jdf) stop) ≡ true → IsSomeAnd (entered (built jdf) stop) IsCall
    go None no_help fault has = cc
    go (Some p) no_help fault has = by_shape p (find (λ s. answers_to p.0 (label_of s)) (built jdf).subs) refl no_help fault has
