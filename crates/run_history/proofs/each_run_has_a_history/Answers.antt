use Rattle.run_history.proofs.EachRun.{each_run_has_a_history}
use Rattle.run_history.proofs.each_run_has_a_history.Goals as goal

pub returns : goal.returns
returns c = λ cluster log run. each_run_has_a_history cluster log run
