use Rattle.std.proofs.Common.{◌∙◌, sym}
use Rattle.std.specs.Option.{option_map}
use Rattle.serde_json.specs.Written.{compact_text}
use Rattle.stored_state.specs.Step.{in_text}
use Rattle.streams.specs.Streams.{traffic}
use Rattle.http_edge.proofs.Exchanges.{serves_front_of_refusal, serves_front_of_step, serves_refusal, serves_step}
use Rattle.http_edge.proofs.serving.serve_one.Goals as goal

pub returns-in-Ok-clause-ok : goal.returns-in-Ok-clause-ok
returns-in-Ok-clause-ok g c =
    serves_step g.K.Keep.is_honest g.K.Keep.held g.K.Keep.count g.K.Keep.save_fails (λ x. compact_text (g.C.StateForm.state_data x)) g.C.StateForm.state_read
    (λ m. in_text (g.C.Controller.take_step m c.args.at c.args.kept.now.controller))
    (traffic g.R.Read.remaining c.args.reader.now c.exchange.new.reader) c.args.kept.now c.exchange.new.kept (traffic g.W.Write.contents c.args.writer.now c.answer_step.new.writer)
    c.in-Ok.taken.reply (option_map (λ b. b.items) c.in-Ok.taken.answer) c.answer_step.result c.in-Ok.ensures.ok c.in-Ok.ensures.unfailed c.answer_step.ensures.told c.answer_step.ensures.ok

pub returns-in-Ok-clause-unwritten : goal.returns-in-Ok-clause-unwritten
returns-in-Ok-clause-unwritten g c =
    serves_front_of_step g.K.Keep.is_honest g.K.Keep.held g.K.Keep.count g.K.Keep.save_fails (λ x. compact_text (g.C.StateForm.state_data x)) g.C.StateForm.state_read
    (λ m. in_text (g.C.Controller.take_step m c.args.at c.args.kept.now.controller))
    (traffic g.R.Read.remaining c.args.reader.now c.exchange.new.reader) c.args.kept.now c.exchange.new.kept (traffic g.W.Write.contents c.args.writer.now c.answer_step.new.writer)
    c.in-Ok.taken.reply (option_map (λ b. b.items) c.in-Ok.taken.answer) c.answer_step.result c.in-Ok.ensures.ok c.in-Ok.ensures.unfailed c.answer_step.ensures.front

pub returns-else-is_unread-clause-ok : goal.returns-else-is_unread-clause-ok
returns-else-is_unread-clause-ok g c =
    serves_refusal g.K.Keep.is_honest g.K.Keep.held g.K.Keep.count g.K.Keep.save_fails (λ x. compact_text (g.C.StateForm.state_data x)) g.C.StateForm.state_read
    (λ m. in_text (g.C.Controller.take_step m c.args.at c.args.kept.now.controller))
    (traffic g.R.Read.remaining c.args.reader.now c.exchange.new.reader) c.args.kept.now c.exchange.new.kept (traffic g.W.Write.contents c.args.writer.now c.answer_refusal.new.writer)
    c.args.reader.now.calls c.in-Err.refused c.answer_refusal.result c.in-Err.ensures.refused
    (sym c.is_unread.ensures ∙ c.if-is_unread.false) c.answer_refusal.ensures.told c.answer_refusal.ensures.ok

pub returns-else-is_unread-clause-unwritten : goal.returns-else-is_unread-clause-unwritten
returns-else-is_unread-clause-unwritten g c =
    serves_front_of_refusal g.K.Keep.is_honest g.K.Keep.held g.K.Keep.count g.K.Keep.save_fails (λ x. compact_text (g.C.StateForm.state_data x)) g.C.StateForm.state_read
    (λ m. in_text (g.C.Controller.take_step m c.args.at c.args.kept.now.controller))
    (traffic g.R.Read.remaining c.args.reader.now c.exchange.new.reader) c.args.kept.now c.exchange.new.kept (traffic g.W.Write.contents c.args.writer.now c.answer_refusal.new.writer)
    c.args.reader.now.calls c.in-Err.refused c.answer_refusal.result c.in-Err.ensures.refused
    (sym c.is_unread.ensures ∙ c.if-is_unread.false) c.answer_refusal.ensures.front
