use Rattle.std.proofs.Common.{◌∙◌, refl, subst, sym}
use Rattle.streams.specs.Streams.{Traffic, traffic}
use Rattle.jdf_net.specs.Words.{EndsAnswer}
use Rattle.jdf_net.proofs.WordsAnswered.{gives_answer}
use Rattle.jdf_net.proofs.words.answer_words.Goals as goal

pub returns-then-is_asked : goal.returns-then-is_asked
returns-then-is_asked g c =
    let output : Traffic = traffic g.W.Write.contents c.args.writer.now c.finish.new.writer in
    let told : Traffic = traffic g.F.Write.contents c.args.faults.now c.finish.new.faults in
    subst (λ asked. EndsAnswer asked output told c.finish.result) (sym c.if-is_asked.true ∙ c.is_asked.ensures)
    (gives_answer c.answer_output.result output told c.finish.result c.answer_output.ensures.done c.answer_output.ensures.memory c.finish.ensures.done c.finish.ensures.gives_up)

pub returns-else-is_asked : goal.returns-else-is_asked
returns-else-is_asked g c =
    let output : Traffic = traffic g.W.Write.contents c.args.writer.now c.args.writer.now in
    let told : Traffic = traffic g.F.Write.contents c.args.faults.now c.tell_help.new.faults in
    subst (λ asked. EndsAnswer asked output told c.tell_help.result) (sym c.if-is_asked.false ∙ c.is_asked.ensures) (refl, c.tell_help.ensures)
