use Rattle.std.proofs.Common.{◌∙◌, ap, sym, subst, subst₂, ◌++◌}
use Rattle.http1.specs.declared.decode.Decoded.{Decoded}
use Rattle.http1.specs.Decoder.{Decodes, decoder_for}
use Rattle.etcd_wire.specs.Response.{limits}
use Rattle.etcd_wire.proofs.Decoding.{Reaches, has_body, has_failed, has_none, reaches_on, runs_on, to_end}
use Rattle.etcd_wire.proofs.response.body_in.Goals as goal

pub loop-piece-preserved : goal.loop-piece-preserved
loop-piece-preserved c =
    let found = subst (λ (r : Decoded). Decodes c.loop-piece.decoder c.loop-piece.rest.now c.decode.new.self c.decode.new.trailers r) c.in-Ok-Data.field-0-is c.in-Ok-Data.ensures.ok in
    let k = found.1 in (
      runs_on _ _ _ _ _ c.loop-piece.invariant.0 k.runs,
      c.decode.auto.trailers ∙ c.loop-piece.invariant.1,
      subst₂ (λ rest piece. Reaches (decoder_for limits c.args.framing) c.args.behind.now c.decode.new.self rest piece)
          (sym (to_end c.in-Ok-Data.piece.end c.loop-piece.rest.now))
          (sym (c.in_ok-extend_from_slice-in-Ok-Data.ensures.items ∙ ap (λ piece. c.loop-piece.body.items ++ piece) c.of.ensures))
          (reaches_on _ _ _ _ _ _ _ _ c.loop-piece.invariant.2 k),
    )

pub returns-in-Ok-End-clause-ok : goal.returns-in-Ok-End-clause-ok
returns-in-Ok-End-clause-ok c =
    let found = subst (λ (r : Decoded). Decodes c.loop-piece.decoder c.loop-piece.rest.now c.decode.new.self c.decode.new.trailers r) c.in-Ok-End.field-0-is c.in-Ok-End.ensures.ok in
    has_body _ _ _ _ _ _ _ _ (c.decode.auto.trailers ∙ c.loop-piece.invariant.1) c.loop-piece.invariant.2 found

pub returns-in-Ok-NeedMore-clause-unknown : goal.returns-in-Ok-NeedMore-clause-unknown
returns-in-Ok-NeedMore-clause-unknown c same bytes h =
    let found = subst (λ (r : Decoded). Decodes c.loop-piece.decoder c.loop-piece.rest.now c.decode.new.self c.decode.new.trailers r) c.in-Ok-NeedMore.field-0-is c.in-Ok-NeedMore.ensures.ok in
    has_none _ _ _ _ _ _ _ c.loop-piece.invariant.0 c.loop-piece.invariant.2 found bytes h

pub returns-in-Err-clause-unknown : goal.returns-in-Err-clause-unknown
returns-in-Err-clause-unknown c same bytes h =
    has_failed _ _ _ _ _ _ c.loop-piece.invariant.1 c.loop-piece.invariant.2 c.in-Err.ensures.err bytes h
