use Rattle.run_memory.proofs.RunMemory.{memory_there}
use Rattle.run_memory.proofs.memory_there.Goals as goal

pub returns : goal.returns
returns c = memory_there
