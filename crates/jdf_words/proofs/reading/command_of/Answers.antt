use Rattle.std.proofs.Common.{rules, ◌≡◌, ◌∙◌, ◌≢◌, [], IsSomeAnd, map, ap, subst, sym, string_bytes, true}
use Rattle.clap.specs.Kinds.{HasKind}
use Rattle.clap.specs.Words.{App, app_of, fault_of, is_simple, is_simple_and_free, subcommand_of, subcommand_rows_of, takes}
use Rattle.jdf_words.specs.Calls.{IsCall, IsInvocation}
use Rattle.jdf_words.specs.Commands.{jdf}
use Rattle.jdf_words.proofs.Faults.{is_free_jdf, is_simple_jdf, only_memory, refused}
use Rattle.jdf_words.proofs.Reached.{reached}
use Rattle.jdf_words.proofs.reading.command_of.Goals as goal

pub returns-in_err-matches-clause-passes : goal.returns-in_err-matches-clause-passes
returns-in_err-matches-clause-passes c =
    let texts = map string_bytes c.args.words.now in
    let app : app_of c.in_ok-jdf.field-0 ≡ jdf = c.in_ok-jdf.ensures in
    only_memory c.in_err-matches.field-0.0 c.from_residual-in_err-matches.result (takes jdf texts ≡ true) c.from_residual-in_err-matches.ensures.1
    (λ taken. c.in_err-matches.ensures.passes (ap (λ (a : App). takes a texts) app ∙ taken))

pub returns-in_err-matches-clause-kinds : goal.returns-in_err-matches-clause-kinds
returns-in_err-matches-clause-kinds c = λ some.
    let texts = map string_bytes c.args.words.now in
    let app : app_of c.in_ok-jdf.field-0 ≡ jdf = c.in_ok-jdf.ensures in
    let e = c.in_err-matches.field-0.0 in
    refused e c.from_residual-in_err-matches.result (fault_of jdf texts) c.from_residual-in_err-matches.ensures.1
    (subst (λ (a : App). HasKind (fault_of a texts) e) app (c.in_err-matches.ensures.kinds (ap is_simple_and_free app ∙ is_free_jdf)))

pub invocation_in-requires : goal.invocation_in-requires
invocation_in-requires c =
    let texts = map string_bytes c.args.words.now in
    let app : app_of c.in_ok-jdf.field-0 ≡ jdf = c.in_ok-jdf.ensures in
    let none : fault_of jdf texts ≡ [] = subst (λ (a : App). fault_of a texts ≡ []) app (c.in_ok-matches.ensures.kinds (ap is_simple_and_free app ∙ is_free_jdf)) in
    let is : subcommand_rows_of c.in_ok-matches.matches ≡ subcommand_of jdf texts =
    (c.in_ok-matches.ensures.matches (ap is_simple app ∙ is_simple_jdf)).1 ∙ ap (λ (a : App). subcommand_of a texts) app in
    subst (λ found. IsSomeAnd found IsCall) (sym is) (reached texts none)

pub returns-clause-named : goal.returns-clause-named
returns-clause-named c =
    let texts = map string_bytes c.args.words.now in
    let app : app_of c.in_ok-jdf.field-0 ≡ jdf = c.in_ok-jdf.ensures in
    let is : subcommand_rows_of c.in_ok-matches.matches ≡ subcommand_of jdf texts =
    (c.in_ok-matches.ensures.matches (ap is_simple app ∙ is_simple_jdf)).1 ∙ ap (λ (a : App). subcommand_of a texts) app in
    let some : c.args.words.now ≢ [] = search rules in
    (λ none. absurd (some none), λ _. subst (IsInvocation c.invocation_in.result) is c.invocation_in.ensures)

pub returns-clause-kinds : goal.returns-clause-kinds
returns-clause-kinds c = λ some.
    let texts = map string_bytes c.args.words.now in
    let app : app_of c.in_ok-jdf.field-0 ≡ jdf = c.in_ok-jdf.ensures in
    subst (λ (a : App). fault_of a texts ≡ []) app (c.in_ok-matches.ensures.kinds (ap is_simple_and_free app ∙ is_free_jdf))
