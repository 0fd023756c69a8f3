use Rattle.std.proofs.Common.{◌∙◌, ap}
use Rattle.http_message.proofs.WholeRead.{asked, carried, headed, targeted}
use Rattle.http_message.proofs.reading.read_message.Goals as goal

pub returns-clause-ok : goal.returns-clause-ok
returns-clause-ok g c =
    carried g.R.Read.remaining 1048576 c.read_whole.new.incoming.most c.args.kind c.read_whole.new.incoming.kind c.calls-start.result
    c.args.reader.now c.read_whole.new.reader c.read_whole.new.incoming.bytes c.in_ok-into_received.field-0.status
    c.in_ok-into_received.field-0.method c.in_ok-into_received.field-0.head.items c.in_ok-into_received.field-0.target.items c.in_ok-into_received.field-0.body
    (c.in_ok-whole.ensures.most ∙ ap (λ i. i.most) c.new-incoming.ensures) (c.in_ok-whole.ensures.kind ∙ ap (λ i. i.kind) c.new-incoming.ensures)
    c.in_ok-whole.ensures.ok.read c.in_ok-into_received.ensures

pub returns-clause-method : goal.returns-clause-method
returns-clause-method g c =
    asked g.R.Read.remaining c.read_whole.new.incoming.most c.args.kind c.read_whole.new.incoming.kind c.calls-start.result
    c.args.reader.now c.read_whole.new.reader c.read_whole.new.incoming.bytes c.in_ok-into_received.field-0.status
    c.in_ok-into_received.field-0.method c.in_ok-into_received.field-0.head.items c.in_ok-into_received.field-0.target.items c.in_ok-into_received.field-0.body
    (c.in_ok-whole.ensures.kind ∙ ap (λ i. i.kind) c.new-incoming.ensures) c.in_ok-whole.ensures.ok.read c.in_ok-into_received.ensures

pub returns-clause-head : goal.returns-clause-head
returns-clause-head g c =
    headed g.R.Read.remaining c.read_whole.new.incoming.most c.args.kind c.read_whole.new.incoming.kind c.calls-start.result
    c.args.reader.now c.read_whole.new.reader c.read_whole.new.incoming.bytes c.in_ok-into_received.field-0.status
    c.in_ok-into_received.field-0.method c.in_ok-into_received.field-0.head.items c.in_ok-into_received.field-0.target.items c.in_ok-into_received.field-0.body
    (c.in_ok-whole.ensures.kind ∙ ap (λ i. i.kind) c.new-incoming.ensures) c.in_ok-whole.ensures.ok.read c.in_ok-into_received.ensures

pub returns-clause-target : goal.returns-clause-target
returns-clause-target g c =
    targeted g.R.Read.remaining c.read_whole.new.incoming.most c.args.kind c.read_whole.new.incoming.kind c.calls-start.result
    c.args.reader.now c.read_whole.new.reader c.read_whole.new.incoming.bytes c.in_ok-into_received.field-0.status
    c.in_ok-into_received.field-0.method c.in_ok-into_received.field-0.head.items c.in_ok-into_received.field-0.target.items c.in_ok-into_received.field-0.body
    (c.in_ok-whole.ensures.kind ∙ ap (λ i. i.kind) c.new-incoming.ensures) c.in_ok-whole.ensures.ok.read c.in_ok-into_received.ensures
