-- What runs of the written cluster answer, beside what the serial elision of their program answers.
use Rattle.std.specs.Prelude.{◌≡◌, ℕ, ◌<◌, List, reverse}
use Rattle.std.specs.List.{sum}
use Rattle.cilk_meaning.specs.declared.ends.NodeEnd.{NodeEnd}
use Rattle.cilk_meaning.specs.declared.ends.NodeEnd.TheVariants.{Finished, Trapped, Budget}
use Rattle.cilk_meaning.specs.declared.ends.TrapKind.{TrapKind}
use Rattle.cilk_meaning.specs.Elision.{elision}
use Rattle.cilk_meaning.specs.Parted.{IsParted}
use Rattle.cilk_meaning.specs.Resolved.{Program}
use Rattle.cilk_meaning.specs.World as world
use Rattle.cilk_meaning.specs.World.{End, ticks_of}
use Rattle.machine_code.specs.StandsFor.{StandsFor, start_words_of}
use Rattle.page_messages.specs.declared.closure.FrameId.{FrameId}
use Rattle.page_messages.specs.declared.log.Turn.{Turn}
use Rattle.span_tree.specs.History.{History}
use Rattle.span_tree.specs.Memory.{HasNoRace, output_of}
use Rattle.span_tree.specs.Program as of_program
use Rattle.elision_history.specs.Logged.{history_of}
use Rattle.cluster_rules.specs.Counting.{counts_of}
use Rattle.cluster_rules.specs.Histories.{IsHistoryOf}
use Rattle.cluster_rules.specs.Moments.{Listed, IsHomeOrder}
use Rattle.cluster_rules.specs.Positions.{course_of}
use Rattle.cluster_rules.specs.Runs.{Cluster, IsRun}
use Rattle.cluster_trace.specs.Ends.{HasEnd}
use Rattle.run_memory.specs.Left.{left_in_order}
use Rattle.word_order.specs.Consistency.{places_by}

-- the serial elision of the program from the start words of the code, of at most so many ticks
abbrev pub elision_of : Cluster → Program → ℕ → End
elision_of cluster program budget = elision program (start_words_of cluster.code) budget

-- The run answers as this elision: it ends so, each of its histories is the elision's own (`history_of`), with its output, the last access of each
-- word in its home order leaves what the elision leaves there, and the ticks of the nodes are together those of the elision. Each run has a
-- history, and each word a home order, by the laws of `run_history` and `word_order`.
pub record AnswersAs (cluster : Cluster) (program : Program) (log : List Turn) (run : IsRun cluster log) (serial : End) : Type 0 where
  pub ends : HasEnd log serial.end
  pub history : (frames : List FrameId) (history : History) → IsHistoryOf cluster.code.main log frames history → history ≡ history_of program serial
  pub output : (frames : List FrameId) (history : History) → IsHistoryOf cluster.code.main log frames history → output_of history ≡ world.output_of serial
  pub words : (frames : List FrameId) (history : History) (word : ℕ) (order : List Listed) → IsHistoryOf cluster.code.main log frames history →
      IsHomeOrder cluster (course_of (reverse run.turns)) word order →
      left_in_order (start_words_of cluster.code) history (places_by frames (course_of (reverse run.turns)) order) word ≡ serial.world.memory word
  pub ticks : sum (counts_of cluster.config.nodes log).ticks ≡ ticks_of serial

-- The run does not trap, it does not end for want of a tick where each node may make the elision's ticks, and where it finished it answers as the
-- elision. Its histories have no race, whether it ended or not.
pub record AgreesWith (cluster : Cluster) (program : Program) (log : List Turn) (run : IsRun cluster log) (serial : End) : Type 0 where
  pub no_trap : (kind : TrapKind) → ¬ HasEnd log (Trapped kind)
  pub spent : HasEnd log Budget → cluster.config.budget < ticks_of serial
  pub finished : HasEnd log Finished → AnswersAs cluster program log run serial
  pub no_race : (frames : List FrameId) (history : History) → IsHistoryOf cluster.code.main log frames history → HasNoRace history

-- Each history of a run is one of its program, and a complete one where the run finished.
abbrev pub RunsAreOfTheProgram : Type 0
RunsAreOfTheProgram =
    (cluster : Cluster) (program : Program) (log : List Turn) (frames : List FrameId) (history : History) → StandsFor cluster.code program → IsParted program →
    IsRun cluster log → IsHistoryOf cluster.code.main log frames history →
    of_program.IsHistoryOf program history × (HasEnd log Finished → of_program.IsCompleteOf program history)

-- Where the elision finishes, within whatever budget, and its history has no race, each run agrees with it.
abbrev pub RaceFreeProgramsHaveOneAnswer : Type 0
RaceFreeProgramsHaveOneAnswer =
    (cluster : Cluster) (program : Program) (log : List Turn) (budget : ℕ) → StandsFor cluster.code program → IsParted program → (run : IsRun cluster log) →
    (elision_of cluster program budget).end ≡ Finished → HasNoRace (history_of program (elision_of cluster program budget)) →
    AgreesWith cluster program log run (elision_of cluster program budget)

-- On one node a run that ended answers as the elision of the node's own budget, however that ends, with races too.
abbrev pub OneNodeRunsAnswerAsElisions : Type 0
OneNodeRunsAnswerAsElisions =
    (cluster : Cluster) (program : Program) (log : List Turn) (end : NodeEnd) → StandsFor cluster.code program → IsParted program → (run : IsRun cluster log) →
    cluster.config.nodes ≡ 1 → HasEnd log end → AnswersAs cluster program log run (elision_of cluster program cluster.config.budget)
