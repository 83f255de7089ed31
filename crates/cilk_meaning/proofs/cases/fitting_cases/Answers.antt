use Rattle.cilk_meaning.proofs.Fitting.{fitting_cases}
use Rattle.cilk_meaning.proofs.cases.fitting_cases.Goals as goal

pub returns : goal.returns
returns c = fitting_cases
