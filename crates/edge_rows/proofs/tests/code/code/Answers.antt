use Rattle.std.proofs.Common.{refl}
use Rattle.machine_rows.proofs.Checking.{written}
use Rattle.edge_rows.proofs.tests.code.code.Goals as goal

pub invariant_of-result : goal.invariant_of-result
invariant_of-result c = rw (c.in_ok-from_slice.ensures.items, c.in_ok-from_slice-2.ensures.items, c.new.ensures.items, c.new-2.ensures) (written _ refl)
