use Rattle.std.proofs.Common.{◌∙◌, IfSome, ap, option_and_then, option_map, subst, sym}
use Rattle.std.proofs.lemmas.Bool.{ltb-true}
use Rattle.stored_state.specs.Message.{IsMessageText, message_in}
use Rattle.world.proofs.Messages.SentTexts.{next_number, one_more_sent, one_more_there}
use Rattle.world.specs.Sent.{SentMessages}
use Rattle.plain_shop.specs.Settling.{number_of, with_sent}
use Rattle.world.proofs.sent.SentMessages.send.Goals as goal

pub put-requires : goal.put-requires
put-requires c = ltb-true _ _ (ap (λ (s : SentMessages). s.has_room) c.self.view_is ∙ c.requires.room)

pub invariant_of-self : goal.invariant_of-self
invariant_of-self c =
    let text = subst (λ s. IfSome s (λ t. IsMessageText t.items)) c.in-Some.is c.requires.text in
    one_more_there (λ t. t.items) c.self.inside.texts.items c.put.new.texts.items c.in-Some.text c.put.ensures.items c.self.invariant text

pub returns-in-Some-clause-number : goal.returns-in-Some-clause-number
returns-in-Some-clause-number c =
    let text = subst (λ s. IfSome s (λ t. IsMessageText t.items)) c.in-Some.is c.requires.text in
    next_number (λ t. t.items) c.self.inside.texts.items c.put.new.texts.items c.in-Some.text c.put.result c.put.ensures.items c.self.invariant text c.put.ensures.count
    ∙ λ i. number_of (ap (λ (s : SentMessages). s.messages) c.self.view_is i) (option_and_then message_in (option_map (λ t. t.items) (sym c.in-Some.is i)))

pub returns-in-Some-clause-messages : goal.returns-in-Some-clause-messages
returns-in-Some-clause-messages c =
    let text = subst (λ s. IfSome s (λ t. IsMessageText t.items)) c.in-Some.is c.requires.text in
    one_more_sent (λ t. t.items) c.self.inside.texts.items c.put.new.texts.items c.in-Some.text c.put.ensures.items text
    ∙ λ i. with_sent (ap (λ (s : SentMessages). s.messages) c.self.view_is i) (option_and_then message_in (option_map (λ t. t.items) (sym c.in-Some.is i)))
