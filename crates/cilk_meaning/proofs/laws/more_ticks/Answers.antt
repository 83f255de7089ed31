use Rattle.cilk_meaning.proofs.Elisions.{more_ticks}
use Rattle.cilk_meaning.proofs.laws.more_ticks.Goals as goal

pub returns : goal.returns
returns c = more_ticks
