use Rattle.std.proofs.Common.{inr, subst}
use Rattle.std.proofs.lemmas.Result.{on_ok_weaker}
use Rattle.jmf_message.specs.Decoded.{IsRefusalOf}
use Rattle.jdf_server.proofs.server.Server.stand_in_line.Goals as goal

pub returns : goal.returns
returns g c =
    let refused = subst (λ bytes. IsRefusalOf bytes c.in-Err.refusal) c.as_slice.ensures c.in-Err.ensures.refused in
    on_ok_weaker c.stand_without.result (λ stands. inr (c.in-Err.refusal, refused, stands)) c.stand_without.ensures
