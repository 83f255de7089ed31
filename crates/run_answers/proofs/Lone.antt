-- On one node each run that ended is the elision, with races too.
use Rattle.std.proofs.Common.{◌≡◌, ◌+◌, ℕ, List, [], ◌∷◌, length, reverse, refl, subst, arith}
use Rattle.cilk_meaning.specs.declared.ends.NodeEnd.{NodeEnd}
use Rattle.cilk_meaning.specs.Instance.{limits, wants}
use Rattle.cilk_meaning.specs.Parted.{IsParted}
use Rattle.cilk_meaning.specs.Resolved.{Program}
use Rattle.machine_code.specs.StandsFor.{StandsFor, start_words_of}
use Rattle.page_messages.specs.declared.log.Turn.{Turn}
use Rattle.span_tree.specs.Program.{Starts}
use Rattle.cluster_rules.proofs.Stepping.{lawful_stepped}
use Rattle.cluster_rules.specs.Positions.{Course, course_of}
use Rattle.cluster_rules.specs.Runs.{Cluster, IsRun}
use Rattle.cluster_rules.specs.Turns.{WholeTurn, Event, Did, Sent, Took, Ended}
use Rattle.cluster_order.specs.Reading.{memory_of}
use Rattle.cluster_trace.specs.Ends.{HasEnd}
use Rattle.lone_cluster.proofs.Silent.{OwnEvent, Silent, lone}
use Rattle.run_ticks.specs.Posted.{adds_posted, posts_add}
use Rattle.lone_cluster.proofs.Logs.{one_node_runs_depth_first, one_node_ends}
use Rattle.run_ticks.specs.Laws.{items_in, ticks_counted}
use Rattle.run_ticks.proofs.Runs.{run_ticks}
use Rattle.one_node.specs.Alone.{OneNode, EndsAs, SameRun}
use Rattle.one_node.proofs.Alone.{alone_serial}
use Rattle.elision_alone.proofs.Alone.{elision_is_alone}
use Rattle.run_answers.specs.Laws.{AnswersAs, OneNodeRunsAnswerAsElisions, elision_of}
use Rattle.run_answers.proofs.Elided.{trace, serial, finish, GoesThrough, answers_as}
use Rattle.run_answers.proofs.Executions.{begins}

-- no Add is under way, since nothing is posted
none_posted : (course : Course) → Silent course → adds_posted course ≡ 0
none_posted [] silent = refl
none_posted (moved ∷ course) silent = on moved.event silent.1 (none_posted course silent.2)
  where
    on : (event : Event) → OwnEvent event → adds_posted course ≡ 0 → adds_posted course + posts_add event ≡ 0
    on (Did item) itself none = omega (arith, none)
    on (Sent message) itself none = absurd itself
    on (Took message) itself none = absurd itself
    on (Ended end) itself none = omega (arith, none)

module _ (cluster : Cluster) (program : Program) (log : List Turn) (run : IsRun cluster log) (stands : StandsFor cluster.code program)
    (parted : IsParted program)
    (alone : cluster.config.nodes ≡ 1) (end : NodeEnd) (has : HasEnd log end) where
  abbrev budget : ℕ
  budget = cluster.config.budget

  abbrev turns : List WholeTurn
  turns = reverse run.turns

  abbrev now : ℕ
  now = length (course_of turns)

  -- the execution of the program, and its end
  runs_alone : OneNode (wants program) program.main (trace cluster program log run stands parted budget) (memory_of cluster) budget
  runs_alone =
      subst (λ main. OneNode (wants program) main (trace cluster program log run stands parted budget) (memory_of cluster) budget) stands.main
      (subst (λ (begin : Starts). OneNode begin cluster.code.main (trace cluster program log run stands parted budget) (memory_of cluster) budget) stands.wants
      (one_node_runs_depth_first cluster program log stands parted alone run))

  ends_so : EndsAs (wants program) (trace cluster program log run stands parted budget) budget now end
  ends_so =
      subst (λ (begin : Starts). EndsAs begin (trace cluster program log run stands parted budget) budget now end) stands.wants
      (one_node_ends cluster program log end stands parted alone run has)

  same_run : SameRun (wants program) (trace cluster program log run stands parted budget) (serial cluster program log run stands parted budget)
      (memory_of cluster) now
      (finish cluster program log run stands parted budget) (elision_of cluster program budget).end end
  same_run =
      alone_serial (wants program) program.main (trace cluster program log run stands parted budget) (serial cluster program log run stands parted budget)
      (memory_of cluster)
      budget now (finish cluster program log run stands parted budget) (elision_of cluster program budget).end end runs_alone ends_so
      (elision_is_alone limits program (start_words_of cluster.code) budget (memory_of cluster) parted (begins cluster))

  goes_through : GoesThrough cluster program log run stands parted budget
  goes_through = record { one = same_run.history; word = same_run.word; ticks = ticks_are }
    where
      ticks_are : ticks_counted cluster log ≡ items_in cluster (course_of turns)
      ticks_are =
          let all = run_ticks cluster log run in
          let none = none_posted (course_of turns) (lone cluster alone (course_of turns) (lawful_stepped cluster turns run.lawful)).0 in
          omega (arith, all, none)

  pub answers_so : AnswersAs cluster program log run (elision_of cluster program budget)
  answers_so = answers_as cluster program log run stands parted budget goes_through (subst (HasEnd log) same_run.end_is has)

pub one_node_runs_answer_as_elisions : OneNodeRunsAnswerAsElisions
one_node_runs_answer_as_elisions cluster program log end stands parted run alone has = answers_so cluster program log run stands parted alone end has
