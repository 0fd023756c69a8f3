-- The values among the fields so far.
use Rattle.std.proofs.Common.{◌≡◌, map, take}
use Rattle.httparse.specs.Spans.{header_bytes}
use Rattle.http_message.specs.Fields.{summary, values_of}
use Rattle.http_message.specs.Seen.{named_seen}
use Rattle.http_message.proofs.field.find_named.Given as goal

abbrev pub invariant-loop-field : goal.invariant-loop-field
invariant-loop-field l =
    named_seen l.found ≡ summary (values_of l.name (map (header_bytes l.bytes) (take l.field-index l.fields)))
