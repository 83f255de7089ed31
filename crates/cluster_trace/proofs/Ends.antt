-- What the end of a run says of its execution, at its last position.
use Rattle.std.proofs.Common.{◌≡◌, ℕ, suc, List, ◌∷◌, false, inl, inr, length, reverse, refl, sym, ◌∙◌, ap, subst, arith}
use Rattle.backer_order.specs.Log as log
use Rattle.backer_order.specs.Log.{main_id}
use Rattle.cilk_meaning.specs.declared.ends.NodeEnd.{NodeEnd}
use Rattle.cilk_meaning.specs.declared.ends.NodeEnd.TheVariants.{Finished, Trapped, Budget}
use Rattle.machine_code.specs.Machine.{starts}
use Rattle.page_messages.specs.declared.closure.FrameId.{FrameId}
use Rattle.page_messages.specs.declared.log.Turn.{Turn}
use Rattle.cluster_rules.specs.Positions.{Course, course_of, before, Happens}
use Rattle.cluster_rules.specs.Runs.{Cluster, IsRun}
use Rattle.cluster_rules.specs.Turns.{WholeTurn, Ended}
use Rattle.cluster_order.specs.Reading.{event_of, events_of}
use Rattle.cluster_order.proofs.Growing.{at_last}
use Rattle.determinacy.specs.Replies.{Trace, by, want_at, want_of, Born}
use Rattle.determinacy.proofs.Rows.{still}
use Rattle.cluster_trace.specs.Instances.{trace_of}
use Rattle.cluster_trace.proofs.Ending.{ends_finished, ends_trapped, ends_spent}
use Rattle.cluster_trace.specs.Ends.{HasEnd}
use Rattle.cluster_trace.specs.Laws.{RunsComeToEnds}
use Rattle.cluster_trace.proofs.Logs.{EndsLast, ended_at, ends_last}

-- an end is an item of no frame
end_event : (cluster : Cluster) (node : ℕ) (end : NodeEnd) (earlier : Course) → events_of cluster (ended_at node end ∷ earlier) (length earlier) ≡ log.End node
end_event cluster node end earlier =
    ap (event_of cluster (before (ended_at node end ∷ earlier) (length earlier))) (at_last (ended_at node end) earlier)

by_nobody : (frame : FrameId) (event : log.Event) (node : ℕ) → event ≡ log.End node → by frame event ≡ false
unfolding by
by_nobody frame event node is = ap (by frame) is

born_later : (trace : Trace) (position now : ℕ) (frame : FrameId) → now ≡ suc position → Born trace.events position frame → Born trace.events now frame
born_later trace position now frame next (inl main) = inl main
born_later trace position now frame next (inr it) =
    let less = it.before in inr (record { at = it.at; node = it.node; parent = it.parent; before = omega (arith, next, less); is = it.is })

module _ (cluster : Cluster) (log : List Turn) (run : IsRun cluster log) (end : NodeEnd) (has : HasEnd log end) where
  abbrev turns : List WholeTurn
  turns = reverse run.turns

  abbrev trace : Trace
  trace = trace_of cluster (course_of turns)

  abbrev now : ℕ
  now = length (course_of turns)

  -- the latest event
  abbrev pub last : EndsLast turns end
  last = ends_last cluster log run end has

  abbrev pub position : ℕ
  position = length last.earlier

  now_is : now ≡ suc position
  now_is = ap length last.is

  pub happens : Happens (course_of turns) last.node position (Ended end)
  happens =
      subst (λ (course : Course). Happens course last.node position (Ended end)) (sym last.is)
      (record { moved = ended_at last.node end; is = at_last (ended_at last.node end) last.earlier; by = refl; event_is = refl })

  nobody : (frame : FrameId) → by frame (trace.events position) ≡ false
  nobody frame =
      by_nobody frame (trace.events position) last.node
      (ap (λ course. events_of cluster course position) last.is ∙ end_event cluster last.node end last.earlier)

  -- what a frame wants there, it wants behind the end too
  want_now : (frame : FrameId) → want_at (starts cluster.code) trace now frame ≡ want_at (starts cluster.code) trace position frame
  want_now frame =
      ap (λ at. want_at (starts cluster.code) trace at frame) now_is
      ∙ ap (λ told. want_of (starts cluster.code) (trace.instance frame) told) (still (starts cluster.code) trace position frame (nobody frame))

  born_now : (frame : FrameId) → Born trace.events position frame → Born trace.events now frame
  born_now frame born = born_later trace position now frame now_is born

-- Where a run ended, its execution has come to that end.
pub runs_come_to_ends : RunsComeToEnds
runs_come_to_ends cluster program log Finished stands parted run has =
    let it = ends_finished cluster (reverse run.turns) run.lawful program stands parted (position cluster log run Finished has)
    (last cluster log run Finished has).node (happens cluster log run Finished has) in
    (it.0, want_now cluster log run Finished has main_id ∙ it.1)
runs_come_to_ends cluster program log (Trapped kind) stands parted run has =
    let it = ends_trapped cluster (reverse run.turns) run.lawful program stands parted (position cluster log run (Trapped kind) has)
    (last cluster log run (Trapped kind) has).node kind (happens cluster log run (Trapped kind) has) in
    (it.0, born_now cluster log run (Trapped kind) has it.0 it.1, want_now cluster log run (Trapped kind) has it.0 ∙ it.2)
runs_come_to_ends cluster program log Budget stands parted run has =
    let it = ends_spent cluster (reverse run.turns) run.lawful program stands parted (position cluster log run Budget has)
    (last cluster log run Budget has).node (happens cluster log run Budget has) in
    (it.0, it.1, born_now cluster log run Budget has it.0 it.2, want_now cluster log run Budget has it.0 ∙ it.3)
