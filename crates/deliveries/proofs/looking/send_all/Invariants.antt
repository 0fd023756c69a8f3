use Rattle.std.proofs.Common.{take}
use Rattle.deliveries.proofs.Looks.{IsLooked}
use Rattle.deliveries.proofs.looking.send_all.Given as goal

abbrev pub invariant-loop-told : goal.invariant-loop-told
invariant-loop-told l =
    IsLooked l.controller l.had (take l.told-index l.out) l.initial.courier l.courier l.initial.routes l.routes l.outbox
