use Rattle.cilk_meaning.proofs.Names.{name_cases}
use Rattle.cilk_meaning.proofs.cases.name_cases.Goals as goal

pub returns : goal.returns
returns c = name_cases
