use Rattle.compiled_code.proofs.Stands.{compiled_stands}
use Rattle.compiled_code.proofs.laws.compiled_stands.Goals as goal

pub returns : goal.returns
returns c = compiled_stands
