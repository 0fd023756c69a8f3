use Rattle.std.proofs.Common.{subst}
use Rattle.jmf_message.specs.Decoded.{IsRefusalOf}
use Rattle.jdf_server.proofs.calling.result_of.Goals as goal

pub returns-in-Err : goal.returns-in-Err
returns-in-Err c =
    (c.if-response-ne-DONE.false, (c.in-Err.field-0, subst (λ bytes. IsRefusalOf bytes c.in-Err.field-0) c.as_slice.ensures c.in-Err.ensures.refused))
