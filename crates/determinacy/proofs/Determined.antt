-- Executions without race have one answer.
use Rattle.std.proofs.Common.{ℕ}
use Rattle.backer_order.specs.Log.{SharedMemory}
use Rattle.determinacy.proofs.ByDag.{reads_by_dag}
use Rattle.determinacy.proofs.Completed.{complete}
use Rattle.determinacy.proofs.Finished.{one_history}
use Rattle.determinacy.proofs.Induction.{Setting, follows_now, no_trap, not_stuck, ticks_at_most, tick_left}
use Rattle.determinacy.proofs.Memory.{same_memory}
use Rattle.determinacy.proofs.Racing.{race_free}
use Rattle.determinacy.specs.Determinate.{Runs, ThenSerial}
use Rattle.determinacy.specs.Replies.{Trace}
use Rattle.determinacy.specs.Serial.{Serially}
use Rattle.span_tree.specs.Program.{Starts}

abbrev setting_of : (starts : Starts) (main : ℕ) (run serial : Trace) (memory : SharedMemory) (finish : ℕ) → Runs starts main run memory →
    Serially starts main serial memory finish → Setting
setting_of starts main run serial memory finish runs serially = record {
  two = record { starts = starts; main = main; run = run; serial = serial; run_obeys = runs.obeys; serial_obeys = serially.obeys };
  memory = memory;
  finish = finish;
  all = complete starts main serial serially.obeys finish serially.result serially.finished;
  free = serially.free;
  serial_reads = serially.reads;
  by_dag = reads_by_dag run.events memory runs.caching runs.consistent;
}

pub then_serial : ThenSerial
then_serial starts main run serial memory finish runs serially now =
    let setting = setting_of starts main run serial memory finish runs serially in
    record {
      follows = follows_now setting now;
      no_trap = no_trap setting now;
      not_stuck = not_stuck setting now;
      at_most = ticks_at_most setting now;
      fewer = tick_left setting now;
      free = race_free setting now;
      history = λ value returns. one_history setting now value returns;
      word = λ value returns word here there. same_memory setting runs.caching runs.consistent now value returns word here there;
    }
