use Rattle.std.proofs.Common.{◌+◌, ◌*◌, length}
use Rattle.serial_run.specs.Serving.{LeadsTo}
use Rattle.serial_run.proofs.Ending.{service_of}
use Rattle.serial_run.proofs.serial_elision.serial.Given as goal

abbrev pub invariant-loop-run : goal.invariant-loop-run
invariant-loop-run l = LeadsTo l.code (service_of l.code l.budget) l.budget l.run

abbrev pub decreases-loop-run : goal.decreases-loop-run
decreases-loop-run l = 2 * l.run.left + length l.run.parents.items
