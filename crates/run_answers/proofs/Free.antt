-- Where the elision finishes without race, each run ends as it does.
use Rattle.std.proofs.Common.{◌≡◌, ◌<◌, ℕ, ℤ, List, Some, length, reverse, sym, ◌∙◌, subst, arith}
use Rattle.cilk_meaning.specs.declared.ends.NodeEnd.TheVariants.{Finished, Trapped, Budget}
use Rattle.cilk_meaning.specs.declared.ends.TrapKind.{TrapKind}
use Rattle.cilk_meaning.specs.Instance.{limits, wants}
use Rattle.cilk_meaning.specs.Parted.{IsParted}
use Rattle.cilk_meaning.specs.Resolved.{Program}
use Rattle.cilk_meaning.specs.Wants.{Returns}
use Rattle.cilk_meaning.specs.World.{End, ticks_of}
use Rattle.backer_order.specs.Log.{main_id}
use Rattle.determinacy.specs.Replies.{want_at}
use Rattle.machine_code.specs.Machine.{starts}
use Rattle.span_tree.specs.Program.{Starts}
use Rattle.machine_code.specs.StandsFor.{StandsFor, start_words_of}
use Rattle.page_messages.specs.declared.closure.FrameId.{FrameId}
use Rattle.page_messages.specs.declared.log.Turn.{Turn}
use Rattle.span_tree.specs.History.{History}
use Rattle.span_tree.specs.Memory.{HasNoRace}
use Rattle.cluster_rules.specs.Histories.{IsHistoryOf}
use Rattle.cluster_rules.specs.Positions.{course_of}
use Rattle.cluster_rules.specs.Runs.{Cluster, IsRun}
use Rattle.cluster_rules.specs.Turns.{WholeTurn}
use Rattle.cluster_order.specs.Reading.{memory_of}
use Rattle.determinacy.specs.Determinate.{Determined}
use Rattle.determinacy.proofs.Determined.{then_serial}
use Rattle.elision_history.specs.Logged.{history_of}
use Rattle.elision_trace.proofs.Elisions.{elision_ticks}
use Rattle.elision_trace.proofs.NoRace.{elision_is_serial}
use Rattle.trace_rows.proofs.Races.{no_race}
use Rattle.run_ticks.proofs.Runs.{returned_ticks, spent_ticks}
use Rattle.cluster_trace.specs.Ends.{HasEnd}
use Rattle.run_answers.specs.Laws.{AgreesWith, RaceFreeProgramsHaveOneAnswer, elision_of}
use Rattle.run_answers.proofs.Elided.{trace, serial, finish, GoesThrough, answers_as}
use Rattle.run_answers.proofs.Executions.{begins, comes_to, obeys_it, runs_program, rows_of}
use Rattle.run_answers.proofs.OfTheProgram.{of_turns}

module _ (cluster : Cluster) (program : Program) (log : List Turn) (run : IsRun cluster log) (stands : StandsFor cluster.code program)
    (parted : IsParted program)
    (budget : ℕ) (finished : (elision_of cluster program budget).end ≡ Finished)
    (free : HasNoRace (history_of program (elision_of cluster program budget))) where
  abbrev turns : List WholeTurn
  turns = reverse run.turns

  abbrev now : ℕ
  now = length (course_of turns)

  abbrev elision : End
  elision = elision_of cluster program budget

  -- the run goes as the elision
  determined : Determined (wants program) (trace cluster program log run stands parted budget) (serial cluster program log run stands parted budget)
      (memory_of cluster)
      (finish cluster program log run stands parted budget) now
  determined =
      then_serial (wants program) program.main (trace cluster program log run stands parted budget) (serial cluster program log run stands parted budget)
      (memory_of cluster)
      (finish cluster program log run stands parted budget) (runs_program cluster program turns run.lawful stands parted)
      (elision_is_serial limits program (start_words_of cluster.code) budget (memory_of cluster) parted (begins cluster) finished free) now

  no_trap : (kind : TrapKind) → ¬ HasEnd log (Trapped kind)
  no_trap kind has = let it = comes_to cluster program log (Trapped kind) stands parted run has in determined.no_trap it.0 kind it.1 it.2

  -- a node has made all its ticks, and a frame is left
  spent : HasEnd log Budget → cluster.config.budget < ticks_of elision
  spent has =
      let it = comes_to cluster program log Budget stands parted run has in
      let fewer = determined.fewer it.0 it.2 (λ value returns. (let both = sym it.3 ∙ returns in absurd (cc))) in
      let made = spent_ticks cluster log run has in
      let items = (elision_ticks limits program (start_words_of cluster.code) budget).1 in
      omega (arith, fewer, made, items)

  for_code : (value : ℤ) → want_at (wants program) (trace cluster program log run stands parted budget) now main_id ≡ Some (Returns value)
      → want_at (starts cluster.code) (trace cluster program log run stands parted budget) now main_id ≡ Some (Returns value)
  for_code value returns =
      subst (λ (begin : Starts). want_at begin (trace cluster program log run stands parted budget) now main_id ≡ Some (Returns value))
      (sym stands.wants) returns

  goes_through : HasEnd log Finished → GoesThrough cluster program log run stands parted budget
  goes_through has =
      let main = comes_to cluster program log Finished stands parted run has in
      record {
        one = determined.history main.0 main.1;
        word = determined.word main.0 main.1;
        ticks = returned_ticks cluster program log stands parted run main.0 (for_code main.0 main.1);
      }

  no_race_here : (frames : List FrameId) (history : History) → IsHistoryOf cluster.code.main log frames history → HasNoRace history
  no_race_here frames history its =
      no_race (wants program) program.main (trace cluster program log run stands parted budget)
      (obeys_it cluster program turns run.lawful stands parted) now frames history
      (rows_of cluster program turns run.lawful stands parted frames history (of_turns cluster log run frames history its)) determined.free

  pub agrees : AgreesWith cluster program log run elision
  agrees = record {
    no_trap = no_trap;
    spent = spent;
    finished = λ has. answers_as cluster program log run stands parted budget (goes_through has) (subst (HasEnd log) (sym finished) has);
    no_race = no_race_here;
  }

pub race_free_programs_have_one_answer : RaceFreeProgramsHaveOneAnswer
race_free_programs_have_one_answer cluster program log budget stands parted run finished free =
    agrees cluster program log run stands parted budget finished free
