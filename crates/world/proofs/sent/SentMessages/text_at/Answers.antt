use Rattle.std.proofs.Common.{◌∙◌, map, option_map, IfSome, Ok, ap, subst}
use Rattle.jmf_message.specs.Decoded.{IsDecodedAs}
use Rattle.stored_state.specs.Message.{message_text}
use Rattle.world.proofs.Messages.SentTexts.{number_read, numbered_text}
use Rattle.world.specs.Sent.{SentMessages}
use Rattle.world.specs.State.{message_at}
use Rattle.world.proofs.sent.SentMessages.text_at.Goals as goal

pub returns-clause-text : goal.returns-clause-text
returns-clause-text c =
    ap (option_map (λ t. t.items)) (c.text_of_number.ensures ∙ ap (λ ts. message_at ts c.args.number) c.as_slice.ensures.value)
    ∙ numbered_text (λ t. t.items) c.self.inside.texts.items c.args.number c.self.invariant
    ∙ ap (λ (s : SentMessages). option_map message_text (message_at s.messages c.args.number)) c.self.view_is

pub returns-clause-again : goal.returns-clause-again
returns-clause-again c =
    subst (λ (s : SentMessages). IfSome (message_at s.messages c.args.number) (λ m. IsDecodedAs (message_text m) (Ok m))) c.self.view_is (number_read (map (λ t. t.items) c.self.inside.texts.items) c.args.number c.self.invariant)
