use Rattle.std.proofs.Common.{◌∙◌, Some, inl, inr, string_bytes, subst, sym}
use Rattle.std.proofs.lemmas.Result.{on_ok_weaker}
use Rattle.etcd_place.specs.Place.{is_etcd}
use Rattle.rounds.specs.Line.{HasAnswer}
use Rattle.server_clients.specs.Clients.{AreGivenBack}
use Rattle.server_clients.specs.Waiting.{RefusesLate}
use Rattle.server_steps.specs.Steps.{IsSteppedAt, TellsAt}
use Rattle.jdf_server.proofs.TurnsMade.{on_ok}
use Rattle.jdf_server.proofs.server.Server.step_there.Goals as goal

pub returns-in_ok-keep_saved-in-Answered : goal.returns-in_ok-keep_saved-in-Answered
returns-in_ok-keep_saved-in-Answered g c =
    let told = subst (λ bytes. AreGivenBack (Some bytes) c.in-Answered.answered.items c.tell_missed.new.self.all c.give_back_all.new.self.all) c.as_str-in-Answered.ensures.value c.in_ok-give_back_all-in-Answered.ensures.clients in
    let back = subst (λ clients. AreGivenBack (Some (string_bytes c.args.path)) c.in-Answered.answered.items clients c.give_back_all.new.self.all) c.tell_missed.ensures.clients told in
    let stays = c.step_beside.ensures ∙ c.keep_saved.ensures in
    on_ok c.step_beside.result
    (inl (record {
      addressee = c.as_addressee-addressee.result;
      addressed = c.as_addressee-addressee.ensures.owner;
      answered = c.in-Answered.answered.items;
      saved = c.in-Answered.saved;
      steps = subst (λ bytes. TellsAt _ (HasAnswer c.args.self.now.clients.now) (is_etcd bytes) bytes c.as_addressee-addressee.result c.args.line.errands.items c.in-Answered.answered.items c.in-Answered.saved) c.as_str-2.ensures.value (subst (λ it. IsSteppedAt _ (is_etcd c.as_str-2.result.now) c.as_str-2.result.now c.as_addressee-addressee.result c.args.self.now.clients.now c.args.line.errands.items c.take-last.result it) c.in-Answered.is c.in_ok-stepped.ensures.steps);
      back = subst (λ clients. AreGivenBack (Some (string_bytes c.args.path)) c.in-Answered.answered.items c.args.self.now.clients.all clients) (sym stays) back;
    }))

pub returns-in-LockedOut : goal.returns-in-LockedOut
returns-in-LockedOut g c =
    let path = string_bytes c.args.path in
    let now = c.args.self.now.clients.now in
    let after = c.wait_on.new.self in
    let left = c.in-LockedOut.errands.items in
    let same = (subst (λ it. IsSteppedAt _ (is_etcd c.as_str-2.result.now) c.as_str-2.result.now c.as_addressee-addressee.result now c.args.line.errands.items c.take-last.result it) c.in-LockedOut.is c.in_ok-stepped.ensures.steps).1 in
    on_ok_weaker c.wait_on.result
    (λ waits. inr (
      waits.0,
      waits.1,
      subst (λ errands. RefusesLate path now errands waits.0 c.args.self.now.clients.all after.clients.all) same
          (subst (λ clients. RefusesLate path now left waits.0 clients after.clients.all) c.tell_missed.ensures.clients
          (subst (λ moment. RefusesLate path moment left waits.0 c.tell_missed.new.self.all after.clients.all) c.tell_missed.ensures.moment waits.2)),
      waits.3,
    ))
    c.wait_on.ensures
