use Rattle.std.proofs.Common.{arith}
use Rattle.command_words.proofs.Parted.{split_is_parted}
use Rattle.command_words.proofs.gathered.parted.Goals as goal

pub returns-in-Some : goal.returns-in-Some
returns-in-Some c = grind (arith, split_is_parted c.args.word.now c.split_once.result c.split_once.ensures.cases)

pub returns-in-None : goal.returns-in-None
returns-in-None c = grind (arith, split_is_parted c.args.word.now c.split_once.result c.split_once.ensures.cases)
