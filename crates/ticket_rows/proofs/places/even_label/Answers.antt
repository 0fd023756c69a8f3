use Rattle.std.proofs.Common.{◌+◌, ◌*◌, ◌≤◌, arith}
use Rattle.std.proofs.Math.Nat.{mul-le-mul_left}
use Rattle.ticket_rows.proofs.places.even_label.Goals as goal

pub overflow_add-result : goal.overflow_add-result
overflow_add-result c =
    let one : 1 ≤ c.args.gap = omega (arith, c.requires.some) in
    let all : (c.args.place + 1) * 1 ≤ (c.args.place + 1) * c.args.gap = mul-le-mul_left (c.args.place + 1) one in
    omega (arith, all, c.requires.within)
