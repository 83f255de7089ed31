use Rattle.plain_machine.proofs.Lasting.{children_start}
use Rattle.plain_machine.proofs.laws.children_can_start.Goals as goal

pub returns : goal.returns
returns c = children_start
