use Rattle.std.proofs.Common.{◌≡◌, ℕ, ◌+◌, ◌<◌, List, length, map, take, get_or, ap, ◌∙◌, sym}
use Rattle.std.proofs.lemmas.List.{map_more}
use Rattle.httparse.specs.declared.spans.HeaderSpan.{HeaderSpan}
use Rattle.httparse.specs.Spans.{header_bytes}
use Rattle.http_message.specs.Fields.{Summary, summary, values_of, with_value}
use Rattle.http_message.proofs.Fields.{with_one}
use Rattle.http_message.proofs.field.find_named.Goals as goal

-- the values among one more field
next : (name bytes : List ℕ) (fields : List HeaderSpan) (i : ℕ) (none : HeaderSpan) (found now : Summary)
    → i < length fields
    → found ≡ summary (values_of name (map (header_bytes bytes) (take i fields)))
    → now ≡ with_value found name (header_bytes bytes (get_or fields i none))
    → now ≡ summary (values_of name (map (header_bytes bytes) (take (i + 1) fields)))
next name bytes fields i none found now within before step =
    step ∙ ap (λ s. with_value s name (header_bytes bytes (get_or fields i none))) before
    ∙ sym (with_one name (map (header_bytes bytes) (take i fields)) (header_bytes bytes (get_or fields i none)))
    ∙ ap (λ fs. summary (values_of name fs)) (sym (map_more (header_bytes bytes) fields i none within))

pub loop-field-preserved : goal.loop-field-preserved
loop-field-preserved c =
    next c.args.name.now c.args.bytes.now c.args.fields.now c.loop-field.field-index
    record { name = record { start = 0; end = 0 }; value = record { start = 0; end = 0 } } _ _
    c.loop-field-test.true c.loop-field.invariant c.with_field-found.ensures
