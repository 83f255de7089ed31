-- Each history of a run is one of its program, and a complete one where the run finished.
use Rattle.std.proofs.Common.{List, map, reverse, subst}
use Rattle.cilk_meaning.specs.declared.ends.NodeEnd.TheVariants.{Finished}
use Rattle.page_messages.specs.declared.closure.FrameId.{FrameId}
use Rattle.page_messages.specs.declared.log.Turn.{Turn}
use Rattle.span_tree.specs.History.{History}
use Rattle.cluster_rules.specs.Histories.{IsHistoryOf}
use Rattle.cluster_rules.specs.Runs.{Cluster, IsRun, logged}
use Rattle.run_answers.specs.Laws.{RunsAreOfTheProgram}
use Rattle.run_answers.proofs.Executions.{comes_to, is_history_of, is_complete_of}
use Rattle.cluster_trace.proofs.Logs.{log_is}

-- a history of the log is one of its turns
pub of_turns : (cluster : Cluster) (log : List Turn) (run : IsRun cluster log) (frames : List FrameId) (history : History)
    → IsHistoryOf cluster.code.main log frames history → IsHistoryOf cluster.code.main (map logged (reverse (reverse run.turns))) frames history
of_turns cluster log run frames history its = subst (λ it. IsHistoryOf cluster.code.main it frames history) (log_is cluster log run) its

pub runs_are_of_the_program : RunsAreOfTheProgram
runs_are_of_the_program cluster program log frames history stands parted run its =
    let turns = reverse run.turns in
    let of_them = of_turns cluster log run frames history its in (
      is_history_of cluster program turns run.lawful stands parted frames history of_them,
      λ has. (
          let main = comes_to cluster program log Finished stands parted run has in
          is_complete_of cluster program turns run.lawful stands parted frames history of_them main.0 main.1),
    )
