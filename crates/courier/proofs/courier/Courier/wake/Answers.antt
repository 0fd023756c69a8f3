use Rattle.std.proofs.Common.{Some, None}
use Rattle.courier.proofs.Keeping.{IsWake-first}
use Rattle.courier.proofs.courier.Courier.wake.Goals as goal

pub returns-in-Some : goal.returns-in-Some
returns-in-Some c = rw (← c.self.view_is) (IsWake-first _ _ (Some c.in-Some.turn) c.self.invariant c.in-Some.ensures)

pub returns-in-None : goal.returns-in-None
returns-in-None c = rw (← c.self.view_is) (IsWake-first _ _ None c.self.invariant c.in-None.ensures)
