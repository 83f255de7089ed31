use Rattle.run_answers.proofs.Lone.{one_node_runs_answer_as_elisions}
use Rattle.run_answers.proofs.laws.one_node_runs_answer_as_elisions.Goals as goal

pub returns : goal.returns
returns c = one_node_runs_answer_as_elisions
