use Rattle.lawful_program.proofs.Keeping.{lawful_keeps_values}
use Rattle.lawful_program.proofs.laws.lawful_keeps_values.Goals as goal

pub returns : goal.returns
returns c = lawful_keeps_values
