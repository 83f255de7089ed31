-- Where a run has done just what the elision did, it answers as that.
use Rattle.std.proofs.Common.{◌≡◌, ℕ, ℤ, List, length, reverse, ◌∙◌, ap}
use Rattle.backer_order.specs.Log.{SharedMemory}
use Rattle.cilk_meaning.specs.Instance.{limits, wants}
use Rattle.cilk_meaning.specs.Parted.{IsParted}
use Rattle.cilk_meaning.specs.Resolved.{Program}
use Rattle.cilk_meaning.specs.World.{End, ticks_of}
use Rattle.machine_code.specs.StandsFor.{StandsFor, start_words_of}
use Rattle.page_messages.specs.declared.closure.FrameId.{FrameId}
use Rattle.page_messages.specs.declared.log.Turn.{Turn}
use Rattle.span_tree.specs.History.{History}
use Rattle.span_tree.specs.Memory.{output_of}
use Rattle.cluster_rules.specs.Histories.{IsHistoryOf}
use Rattle.cluster_rules.specs.Moments.{Listed, IsHomeOrder}
use Rattle.cluster_rules.specs.Positions.{Course, course_of}
use Rattle.cluster_rules.specs.Runs.{Cluster, IsRun}
use Rattle.cluster_rules.specs.Turns.{WholeTurn}
use Rattle.cluster_order.specs.Reading.{memory_of}
use Rattle.determinacy.specs.Ending.{OneHistory, MemoryOf}
use Rattle.determinacy.specs.Replies.{Trace}
use Rattle.determinacy.specs.Serial.{LastOf}
use Rattle.elision_history.specs.Logged.{history_of}
use Rattle.elision_history.proofs.Elisions.{acts_in_order}
use Rattle.elision_trace.specs.Laws.{elision_trace, finish_of, frames_of}
use Rattle.elision_trace.proofs.Elisions.{elision_obeys, elision_ticks, reads}
use Rattle.elision_trace.proofs.Racing.{are_rows}
use Rattle.elision_alone.proofs.RunsAs.{elision_runs_as}
use Rattle.trace_rows.proofs.OneHistory.{one_history}
use Rattle.cluster_trace.specs.Instances.{trace_of}
use Rattle.run_memory.specs.Left.{left_in_order}
use Rattle.run_memory.proofs.RunMemory.{run_memory, memory_there}
use Rattle.word_order.specs.Consistency.{places_by}
use Rattle.run_ticks.specs.Laws.{items_in, ticks_counted}
use Rattle.cluster_trace.specs.Ends.{HasEnd}
use Rattle.run_answers.specs.Laws.{AnswersAs, elision_of}
use Rattle.run_answers.proofs.Executions.{begins, obeys_it, rows_of, runs_as}
use Rattle.run_answers.proofs.OfTheProgram.{of_turns}

module _ (cluster : Cluster) (program : Program) (log : List Turn) (run : IsRun cluster log) (stands : StandsFor cluster.code program)
    (parted : IsParted program)
    (budget : ℕ) where
  abbrev turns : List WholeTurn
  turns = reverse run.turns

  abbrev course : Course
  course = course_of turns

  abbrev pub trace : Trace
  trace = trace_of cluster course

  abbrev pub serial : Trace
  serial = elision_trace limits program (start_words_of cluster.code) budget

  abbrev pub finish : ℕ
  finish = finish_of limits program (start_words_of cluster.code) budget

  abbrev elision : End
  elision = elision_of cluster program budget

  abbrev memory : SharedMemory
  memory = memory_of cluster

  -- Its frames are the elision's rows, one for one and told the same, each word is left as there, and its ticks are its items.
  pub record GoesThrough : Type 0 where
    pub one : OneHistory (wants program) trace serial (length course) finish
    pub word : (word : ℕ) (here there : ℤ) → MemoryOf trace.events memory (length course) word here → LastOf serial.events memory word finish there
        → here ≡ there
    pub ticks : ticks_counted cluster log ≡ items_in cluster course

  module _ (goes : GoesThrough) where
    module _ (frames : List FrameId) (history : History) (its : IsHistoryOf cluster.code.main log frames history) where
      history_is : history ≡ history_of program elision
      history_is =
          let of_them = of_turns cluster log run frames history its in
          one_history (wants program) program.main trace serial (obeys_it cluster program turns run.lawful stands parted)
          (elision_obeys limits program (start_words_of cluster.code) budget parted) (length course) finish
          frames (frames_of limits program (start_words_of cluster.code) budget) history (history_of program elision)
          (rows_of cluster program turns run.lawful stands parted frames history of_them)
          (are_rows limits program (start_words_of cluster.code) budget)
          (runs_as cluster program turns run.lawful stands parted frames history of_them)
          (elision_runs_as limits program (start_words_of cluster.code) budget) goes.one

      words_are : (word : ℕ) (order : List Listed) → IsHomeOrder cluster course word order
          → left_in_order (start_words_of cluster.code) history (places_by frames course order) word ≡ elision.world.memory word
      words_are word order is =
          let left = memory_there cluster turns word run.lawful in
          (run_memory cluster program turns frames history word order left.0 stands parted run.lawful (of_turns cluster log run frames history its) is).0 left.1
          ∙ goes.word word left.0 (elision.world.memory word) left.1
          ((reads limits program (start_words_of cluster.code) budget memory (begins cluster)).holds word)

    ticks_are : ticks_counted cluster log ≡ ticks_of elision
    ticks_are = goes.ticks ∙ goes.one.ticks ∙ (elision_ticks limits program (start_words_of cluster.code) budget).1

    -- So it answers as the elision.
    pub answers_as : HasEnd log elision.end → AnswersAs cluster program log run elision
    answers_as ends = record {
      ends = ends;
      history = history_is;
      output = λ frames history its. ap output_of (history_is frames history its) ∙ (acts_in_order limits program (start_words_of cluster.code) budget).2;
      words = λ frames history word order its is. words_are frames history its word order is;
      ticks = ticks_are;
    }
