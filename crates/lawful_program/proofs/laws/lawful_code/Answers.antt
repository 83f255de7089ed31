use Rattle.lawful_program.proofs.Keeping.{lawful_code}
use Rattle.lawful_program.proofs.laws.lawful_code.Goals as goal

pub returns : goal.returns
returns c = lawful_code
