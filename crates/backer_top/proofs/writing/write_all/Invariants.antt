use Rattle.std.proofs.Common.{◌≤◌, length}
use Rattle.backer_top.specs.Output.{IsCutShort, IsWritten}
use Rattle.backer_top.proofs.writing.write_all.Given as goal

-- what is written from here on is written after what was put, whole or cut short
abbrev pub invariant-loop-rest : goal.invariant-loop-rest
invariant-loop-rest g l = let sink = g.S.Sink in record {
  faults : sink.faults l.fn.sink ≤ sink.faults l.sink;
  goes_on : (new : _) → IsWritten sink.held sink.took l.sink new l.rest → IsWritten sink.held sink.took l.fn.sink new l.bytes;
  breaks : (new : _) → IsCutShort sink.held sink.took sink.failed l.sink new l.rest → IsCutShort sink.held sink.took sink.failed l.fn.sink new l.bytes;
}

abbrev pub decreases-loop-rest : goal.decreases-loop-rest
decreases-loop-rest g l = length l.rest
