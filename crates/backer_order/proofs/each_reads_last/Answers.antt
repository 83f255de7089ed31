use Rattle.backer_order.proofs.each_reads_last.Goals as goal
use Rattle.backer_order.proofs.ReadsLast.{reads_last}

pub returns : goal.returns
returns c = λ ev s n k. reads_last ev s k n
