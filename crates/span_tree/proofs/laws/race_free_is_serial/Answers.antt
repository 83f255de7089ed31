use Rattle.span_tree.proofs.RaceFree.{race_free_is_serial}
use Rattle.span_tree.proofs.laws.race_free_is_serial.Goals as goal

pub returns : goal.returns
returns c = race_free_is_serial
