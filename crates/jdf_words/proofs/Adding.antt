-- How the program gets its commands, and a command its arguments.
use Rattle.std.proofs.Common.{◌≡◌, ◌∙◌, ap, ap₂, false, true}
use Rattle.clap.specs.Words.{AddsArg, AddsSubcommand, App, Rule, Shape, app_of, rule_of, with_rule, with_subcommand}
use Rattle.clap.specs.declared.builder.arg.Arg.{Arg}
use Rattle.clap.specs.declared.Command.{Command}
use Rattle.clap.proofs.SimpleLemmas.{plain_fields}
use Rattle.jdf_words.specs.Commands.{lone_command}

-- one more command of the program
pub added : (old sub new : Command) (above : App) (s : Shape) → AddsSubcommand old sub new → app_of old ≡ above → app_of sub ≡ lone_command s → s.is_plain ≡ true
    → app_of new ≡ with_subcommand above s
added old sub new above s adds before is plain =
    adds.shape (plain_fields sub (ap (λ (a : App). a.top.is_plain) is ∙ plain)).globals ∙ ap₂ with_subcommand before (ap (λ (a : App). a.top) is)

-- one more argument of a command
pub argued : (old : Command) (a : Arg) (new : Command) (before : App) (r : Rule) → AddsArg old a new → app_of old ≡ before → rule_of a ≡ r → a.global ≡ false
    → app_of new ≡ with_rule before r
argued old a new before r adds was is local = adds.shape local ∙ ap₂ with_rule was is
