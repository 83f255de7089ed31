use Rattle.run_answers.proofs.OfTheProgram.{runs_are_of_the_program}
use Rattle.run_answers.proofs.laws.runs_are_of_the_program.Goals as goal

pub returns : goal.returns
returns c = runs_are_of_the_program
