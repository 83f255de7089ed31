-- A run is an execution of its program under the rules for pages, and its history is one of the program.
use Rattle.std.proofs.Common.{◌≡◌, ℕ, ℤ, List, Some, length, map, reverse, refl, subst}
use Rattle.page_messages.specs.declared.closure.FrameId.{FrameId}
use Rattle.page_messages.specs.declared.log.Turn.{Turn}
use Rattle.cilk_meaning.specs.declared.ends.NodeEnd.{NodeEnd}
use Rattle.cilk_meaning.specs.Instance.{wants}
use Rattle.cilk_meaning.specs.Parted.{IsParted}
use Rattle.cilk_meaning.specs.Resolved.{Program}
use Rattle.cilk_meaning.specs.Wants.{Returns}
use Rattle.machine_code.specs.Machine.{starts}
use Rattle.machine_code.specs.StandsFor.{StandsFor, start_words_of}
use Rattle.span_tree.specs.History.{History}
use Rattle.span_tree.specs.Program as of_program
use Rattle.span_tree.specs.Program.{Starts}
use Rattle.cluster_rules.specs.Histories.{IsHistoryOf}
use Rattle.cluster_rules.specs.Positions.{course_of}
use Rattle.cluster_rules.specs.Runs.{Cluster, IsLawful, IsRun, logged}
use Rattle.cluster_rules.specs.Turns.{WholeTurn}
use Rattle.backer_order.specs.Dag.{Consistent}
use Rattle.backer_order.specs.Log.{main_id}
use Rattle.backer_order.proofs.Ordered.{location_consistent}
use Rattle.cluster_order.specs.Reading.{events_of, memory_of}
use Rattle.cluster_order.specs.Standing.{returns_of, stacks_of}
use Rattle.cluster_order.proofs.Caching.{keeps_the_page_rules}
use Rattle.cluster_edges.specs.Stages.{stages_of}
use Rattle.cluster_edges.proofs.Edging.{keeps_edges}
use Rattle.cluster_edges.proofs.Readying.{keeps_ready_rules}
use Rattle.determinacy.specs.Determinate.{Runs}
use Rattle.determinacy.specs.Replies.{Trace, want_at, Obeys}
use Rattle.word_order.proofs.Made.{are_rows}
use Rattle.word_order.proofs.Places.{AreRows}
use Rattle.word_order.proofs.RunsAreConsistent.{made_of}
use Rattle.trace_rows.proofs.IsHistory.{is_history, is_complete}
use Rattle.trace_rows.specs.RunAs.{RunAs}
use Rattle.elision_trace.specs.Laws.{Begins}
use Rattle.cluster_trace.specs.Instances.{trace_of}
use Rattle.cluster_trace.specs.Ends.{HasEnd, ComesTo}
use Rattle.cluster_trace.proofs.Always.{obeys}
use Rattle.cluster_trace.proofs.Ends.{runs_come_to_ends}
use Rattle.run_answers.proofs.Running.{run_as}

-- The memory of a cluster starts with the words of its code, and adds as the language does.
pub begins : (cluster : Cluster) → Begins (memory_of cluster) (start_words_of cluster.code)
begins cluster = record { starts = λ word. refl; sums = λ old addend. refl }

-- What the code wants is what the program does.
pub obeys_program : (cluster : Cluster) (program : Program) (trace : Trace) → StandsFor cluster.code program
    → Obeys (starts cluster.code) cluster.code.main trace
    → Obeys (wants program) program.main trace
obeys_program cluster program trace stands obeys =
    subst (λ main. Obeys (wants program) main trace) stands.main (subst (λ (begin : Starts). Obeys begin cluster.code.main trace) stands.wants obeys)

-- Where a run ended, its execution has come to that end.
pub comes_to : (cluster : Cluster) (program : Program) (log : List Turn) (end : NodeEnd) → StandsFor cluster.code program → IsParted program
    → (run : IsRun cluster log)
    → HasEnd log end → ComesTo (wants program) (trace_of cluster (course_of (reverse run.turns))) (length (course_of (reverse run.turns))) end
comes_to cluster program log end stands parted run has =
    subst (λ (begin : Starts). ComesTo begin (trace_of cluster (course_of (reverse run.turns))) (length (course_of (reverse run.turns))) end) stands.wants
    (runs_come_to_ends cluster program log end stands parted run has)

module _ (cluster : Cluster) (program : Program) (turns : List WholeTurn) (lawful : IsLawful cluster turns) (stands : StandsFor cluster.code program)
    (parted : IsParted program) where
  abbrev pub trace : Trace
  trace = trace_of cluster (course_of turns)

  -- A run of a cluster is an execution of its program.
  pub obeys_it : Obeys (wants program) program.main trace
  obeys_it = obeys_program cluster program trace stands (obeys cluster turns lawful program stands parted)

  -- At each position it is location consistent.
  consistent_then : (now : ℕ) → Consistent (events_of cluster (course_of turns)) (memory_of cluster) now
  consistent_then now =
      location_consistent (events_of cluster (course_of turns)) (memory_of cluster) (returns_of cluster (course_of turns)) (stacks_of cluster (course_of turns))
      (stages_of cluster (course_of turns)) now
      (keeps_the_page_rules cluster turns lawful) (keeps_edges cluster program turns stands parted lawful) (keeps_ready_rules cluster turns lawful)

  pub runs_program : Runs (wants program) program.main trace (memory_of cluster)
  runs_program = record { obeys = obeys_it; caching = keeps_the_page_rules cluster turns lawful; consistent = consistent_then }

  module _ (frames : List FrameId) (history : History) (its : IsHistoryOf cluster.code.main (map logged (reverse turns)) frames history) where
    pub rows_of : AreRows (events_of cluster (course_of turns)) (length (course_of turns)) frames history
    rows_of = are_rows cluster turns cluster.code.main frames history its (made_of cluster turns lawful program stands parted)

    pub runs_as : RunAs trace frames history
    runs_as = run_as cluster turns lawful frames history its

    -- The history of a run is one of the program.
    pub is_history_of : of_program.IsHistoryOf program history
    is_history_of = is_history (wants program) program.main trace obeys_it (length (course_of turns)) frames history rows_of runs_as

    -- It is complete where `main` has returned at the end.
    pub is_complete_of : (value : ℤ) → want_at (wants program) trace (length (course_of turns)) main_id ≡ Some (Returns value)
        → of_program.IsCompleteOf program history
    is_complete_of value want = is_complete (wants program) program.main trace obeys_it (length (course_of turns)) frames history rows_of runs_as value want
