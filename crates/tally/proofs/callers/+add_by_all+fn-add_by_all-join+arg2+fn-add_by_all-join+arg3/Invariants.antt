use Rattle.std.proofs.Common.{length}
use Rattle.tally.proofs.callers.+add_by_all+fn-add_by_all-join+arg2+fn-add_by_all-join+arg3.Given as goal

abbrev pub decreases-add_by_all : goal.decreases-add_by_all
decreases-add_by_all g l = length l.pass.numbers

abbrev pub decreases-join+arg2 : goal.decreases-join+arg2
decreases-join+arg2 g l = length l.pass.numbers

abbrev pub decreases-join+arg3 : goal.decreases-join+arg3
decreases-join+arg3 g l = length l.other.numbers
