use Rattle.sync_order.proofs.Blocks as blocks
use Rattle.sync_order.proofs.block_apart.Goals as goal

pub returns : goal.returns
returns c = λ code program stands depth procedure arguments answers count. blocks.block_apart code stands.early depth procedure arguments answers count
