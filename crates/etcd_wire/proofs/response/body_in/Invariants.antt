-- What was decoded stands in front of what the decoder waits for.
use Rattle.std.proofs.Common.{◌≡◌, ◌≢◌, length}
use Rattle.http1.specs.declared.decode.Decoder.TheVariants.{UntilClose}
use Rattle.http1.specs.Decoder.{decoder_for}
use Rattle.etcd_wire.specs.Response.{limits}
use Rattle.etcd_wire.proofs.Decoding.{Reaches}
use Rattle.etcd_wire.proofs.response.body_in.Given as goal

abbrev pub invariant-loop-piece : goal.invariant-loop-piece
invariant-loop-piece l =
    (l.decoder ≢ UntilClose) × (length l.trailers ≡ 64)
    × Reaches (decoder_for limits l.fn.framing) l.fn.behind l.decoder l.rest l.body.items

abbrev pub decreases-loop-piece : goal.decreases-loop-piece
decreases-loop-piece l = length l.rest
