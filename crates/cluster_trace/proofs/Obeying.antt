-- A course of lawful turns is an execution where each item answers what its frame wants, and a Sync has what the children return.
use Rattle.std.proofs.Common.{◌≡◌, ℕ, ℤ, List, Some, true}
use Rattle.backer_order.specs.Edges.{IsOn}
use Rattle.backer_order.specs.Log.{Sync, Acts}
use Rattle.cilk_meaning.specs.Parted.{IsParted}
use Rattle.cilk_meaning.specs.Resolved.{Program}
use Rattle.cilk_meaning.specs.Wants.{Returns}
use Rattle.machine_code.specs.Machine.{starts}
use Rattle.machine_code.specs.StandsFor.{StandsFor}
use Rattle.page_messages.specs.declared.closure.FrameId.{FrameId}
use Rattle.cluster_rules.specs.Turns.{WholeTurn}
use Rattle.cluster_rules.specs.Positions.{course_of}
use Rattle.cluster_rules.specs.Runs.{Cluster, IsLawful}
use Rattle.determinacy.specs.Replies.{Trace, by, children, want_at, Answers, Obeys}
use Rattle.cluster_trace.specs.Instances.{trace_of}
use Rattle.cluster_trace.proofs.Spawning.{all_stepped, fresh_spawn, never_main, born_before}
use Rattle.cluster_trace.proofs.Running.{main_runs, one_deeper}
use Rattle.cluster_trace.proofs.Blocks.{no_child_left}

module _ (cluster : Cluster) (turns : List WholeTurn) (lawful : IsLawful cluster turns) (program : Program) (stands : StandsFor cluster.code program)
    (parted : IsParted program) where
  abbrev trace : Trace
  trace = trace_of cluster (course_of turns)

  -- each item answers what its frame wants
  abbrev pub AllAnswer : Type 0
  AllAnswer = (at : ℕ) (frame : FrameId) → by frame (trace.events at) ≡ true → Answers trace (trace.events at) (want_at (starts cluster.code) trace at frame)

  -- at a Sync each child of the block has returned
  abbrev pub AllJoined : Type 0
  AllJoined =
      (at node : ℕ) (frame child : FrameId) → trace.events at ≡ Acts node frame Sync → IsOn child (children trace.events at frame)
      → (value : ℤ) × (want_at (starts cluster.code) trace at child ≡ Some (Returns value))

  pub obeys_so : AllAnswer → AllJoined → Obeys (starts cluster.code) cluster.code.main trace
  obeys_so wants joined = record {
    main_is = main_runs cluster (course_of turns) (all_stepped cluster turns lawful);
    wants = wants;
    deeper = one_deeper cluster turns lawful;
    fresh = fresh_spawn cluster turns lawful;
    not_main = never_main cluster turns lawful;
    born = born_before cluster turns lawful;
    joined = joined;
    no_children = no_child_left cluster program stands trace wants parted;
  }
