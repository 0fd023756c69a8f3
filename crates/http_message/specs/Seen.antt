-- The code's values as those of the definitions.
use Rattle.http_message.specs.Fields.{Summary, absent, once, often}
use Rattle.http_message.specs.declared.field.ValuesOfName.{ValuesOfName}
use Rattle.http_message.specs.declared.field.ValuesOfName.TheVariants as code

-- the values under a name
abbrev pub named_seen : ValuesOfName → Summary
named_seen code.Absent = absent
named_seen (code.Once v) = once v.now
named_seen code.Often = often
