use Rattle.cilk_meaning.proofs.Elisions.{ticks_are_counted}
use Rattle.cilk_meaning.proofs.laws.ticks_are_counted.Goals as goal

pub returns : goal.returns
returns c = ticks_are_counted
