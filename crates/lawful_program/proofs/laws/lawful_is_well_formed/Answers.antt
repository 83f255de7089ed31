use Rattle.lawful_program.proofs.Formed.{lawful_is_well_formed}
use Rattle.lawful_program.proofs.laws.lawful_is_well_formed.Goals as goal

pub returns : goal.returns
returns c = lawful_is_well_formed
