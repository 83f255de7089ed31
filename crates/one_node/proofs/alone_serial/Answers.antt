use Rattle.one_node.proofs.alone_serial.Goals as goal
use Rattle.one_node.proofs.Alone.{alone_serial}

pub returns : goal.returns
returns c = alone_serial
