use Rattle.std.proofs.Common.{string_bytes}
use Rattle.job_picture.proofs.Lines.{IsPlaced}
use Rattle.job_picture.specs.Wall.{place_card}
use Rattle.job_picture.proofs.wall.push_placed_cards.Given as goal

abbrev pub invariant-loop-number : goal.invariant-loop-number
invariant-loop-number l = IsPlaced string_bytes place_card l.cards l.number l.fn.text.items l.text.items
