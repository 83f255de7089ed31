use Rattle.compiled_code.proofs.Validity.{compiled_is_valid}
use Rattle.compiled_code.proofs.laws.compiled_is_valid.Goals as goal

pub returns : goal.returns
returns c = compiled_is_valid
