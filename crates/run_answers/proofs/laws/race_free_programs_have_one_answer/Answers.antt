use Rattle.run_answers.proofs.Free.{race_free_programs_have_one_answer}
use Rattle.run_answers.proofs.laws.race_free_programs_have_one_answer.Goals as goal

pub returns : goal.returns
returns c = race_free_programs_have_one_answer
