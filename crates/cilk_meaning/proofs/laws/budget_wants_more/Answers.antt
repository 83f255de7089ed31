use Rattle.cilk_meaning.proofs.Elisions.{budget_wants_more}
use Rattle.cilk_meaning.proofs.laws.budget_wants_more.Goals as goal

pub returns : goal.returns
returns c = budget_wants_more
