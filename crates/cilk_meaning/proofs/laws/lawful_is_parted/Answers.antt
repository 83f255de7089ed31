use Rattle.cilk_meaning.proofs.Parting.{lawful_is_parted}
use Rattle.cilk_meaning.proofs.laws.lawful_is_parted.Goals as goal

pub returns : goal.returns
returns c = lawful_is_parted
