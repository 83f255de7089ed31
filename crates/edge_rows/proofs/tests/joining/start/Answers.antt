use Rattle.std.proofs.Common.{arith}
use Rattle.edge_rows.proofs.tests.joining.start.Goals as goal

pub start-requires : goal.start-requires
start-requires g c =
    let started = c.started.ensures.started in
    let same = c.if-started-number.false in
    let small = c.requires.number in
    omega (arith, started, same, small)
