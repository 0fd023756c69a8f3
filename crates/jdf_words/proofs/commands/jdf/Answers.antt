use Rattle.std.proofs.Common.{[], ◌∷◌, codes, refl}
use Rattle.jdf_words.specs.Commands.{check_rules, command, edit_rules, jdf, list_rules, new_rules, order_rules, program_without_commands, refusal_rule, send_rules, serve_rules, show_rules, take_rules}
use Rattle.jdf_words.proofs.commands.jdf.Goals as goal

pub returns : goal.returns
unfolding jdf
returns c =
    let edit = c.with_command-program.ensures program_without_commands (command (codes "edit") edit_rules) refl c.program_without_commands.ensures c.edit_command.ensures in
    let world = c.with_command-program-2.ensures _ (command (codes "world") []) refl edit c.plain_command.ensures in
    let by_loop = c.with_command-program-3.ensures _ (command (codes "loop") []) refl world c.plain_command-2.ensures in
    let new = c.with_command-program-4.ensures _ (command (codes "new") new_rules) refl by_loop c.new_command.ensures in
    let order = c.with_command-program-5.ensures _ (command (codes "order") order_rules) refl new c.order_command.ensures in
    let take = c.with_command-program-6.ensures _ (command (codes "take") take_rules) refl order c.take_command.ensures in
    let show = c.with_command-program-7.ensures _ (command (codes "show") show_rules) refl take c.show_command.ensures in
    let list = c.with_command-program-8.ensures _ (command (codes "list") list_rules) refl show c.list_command.ensures in
    let check = c.with_command-program-9.ensures _ (command (codes "check") check_rules) refl list c.check_command.ensures in
    let explain = c.with_command-program-10.ensures _ (command (codes "explain") (refusal_rule ∷ [])) refl check c.explain_command.ensures in
    let serve = c.with_command-program-11.ensures _ (command (codes "serve") serve_rules) refl explain c.serve_command.ensures in
    c.with_command.ensures _ (command (codes "send") send_rules) refl serve c.send_command.ensures
