use Rattle.json_text.proofs.PrintedAttributes.{IsPrintedSoFar}
use Rattle.json_text.proofs.items.attributes.AttrsPrintForm.print.Given as goal

abbrev pub invariant-loop-name : goal.invariant-loop-name
invariant-loop-name l = IsPrintedSoFar l.self l.name-iterator l.fn.out l.out
