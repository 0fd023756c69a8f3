use Rattle.std.proofs.Common.{◌∙◌, map, ap}
use Rattle.stored_state.specs.Message.{message_text}
use Rattle.world.proofs.Messages.SentTexts.{texts_of_messages}
use Rattle.world.specs.Sent.{SentMessages}
use Rattle.world.proofs.sent.SentMessages.texts.Goals as goal

pub returns-clause-texts : goal.returns-clause-texts
returns-clause-texts c =
    ap (map (λ t. t.items)) c.as_slice.ensures.value ∙ texts_of_messages (map (λ t. t.items) c.self.inside.texts.items) c.self.invariant ∙ ap (λ (s : SentMessages). map message_text s.messages) c.self.view_is
