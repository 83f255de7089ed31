use Rattle.run_memory.proofs.RunMemory.{run_memory}
use Rattle.run_memory.proofs.run_memory.Goals as goal

pub returns : goal.returns
returns c = run_memory
