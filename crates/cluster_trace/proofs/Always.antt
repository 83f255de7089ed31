-- Every course of lawful turns obeys: by what holds at each position of it.
use Rattle.std.proofs.Common.{◌≡◌, ◌⊎◌, inl, inr, ℕ, zero, suc, ◌<◌, ◌≤◌, ℤ, List, [], ◌∷◌, Option, Some, None, Bool, true, false, eqb, length, reverse, refl, sym, ◌∙◌, ap, subst, arith}
use Rattle.backer_order.specs.Edges.{IsOn}
use Rattle.backer_order.specs.Log as log
use Rattle.cilk_meaning.specs.Parted.{IsParted}
use Rattle.cilk_meaning.specs.Resolved.{Program}
use Rattle.cilk_meaning.specs.Wants.{Returns}
use Rattle.machine_code.specs.Machine.{starts}
use Rattle.machine_code.specs.StandsFor.{StandsFor}
use Rattle.page_messages.specs.declared.closure.FrameId.{FrameId}
use Rattle.page_messages.specs.declared.log.LoggedAct.{LoggedAct}
use Rattle.page_messages.specs.declared.log.LoggedAct.TheVariants as act
use Rattle.page_messages.specs.declared.log.Item.TheVariants as item
use Rattle.cluster_rules.specs.Turns.{WholeTurn, Did}
use Rattle.cluster_rules.specs.Lives.{main_id, main_life}
use Rattle.cluster_rules.specs.Frames.{frames_of}
use Rattle.cluster_rules.specs.Allowed.{IsAllowed}
use Rattle.cluster_rules.specs.Acting.{MayAct}
use Rattle.cluster_rules.specs.Positions.{Moved, Course, course_of, own, at, before}
use Rattle.cluster_rules.specs.Runs.{Cluster, IsLawful, node_at, IsFree}
use Rattle.cluster_rules.proofs.Stepping.{Stepped}
use Rattle.cluster_rules.proofs.Marks.{first_is}
use Rattle.cluster_order.specs.Reading.{act_of}
use Rattle.cluster_order.specs.Standing.{first}
use Rattle.cluster_order.proofs.Events.{Acted, Served, acted_is}
use Rattle.cluster_order.proofs.Fronts.{first_none, first_next, first_at, nothing_past}
use Rattle.cluster_order.proofs.Growing.{within}
use Rattle.cluster_edges.proofs.OnePlace.{less_or_not}
use Rattle.determinacy.specs.Replies.{Trace, Instance, by, children, want_at, Answers, Obeys}
use Rattle.cluster_trace.specs.Instances.{trace_of}
use Rattle.cluster_trace.specs.Laws.{RunsObey}
use Rattle.cluster_trace.proofs.Spawning.{all_stepped, step_then, not_nothing}
use Rattle.cluster_trace.proofs.Running.{main_runs}
use Rattle.cluster_trace.proofs.Blocks.{AnsweredBefore}
use Rattle.cluster_trace.proofs.Syncing.{untouched_state, untouched_children, account_first}
use Rattle.cluster_trace.proofs.Standing.{LifeAccount, Stacked}
use Rattle.cluster_trace.proofs.Answering.{sync_joined}
use Rattle.cluster_trace.proofs.Ahead.{quiet_none}
use Rattle.cluster_trace.proofs.Accounted.{NodeAccounts, Accounted}
use Rattle.cluster_trace.proofs.Changes.{live_here}
use Rattle.cluster_trace.proofs.AddsAsking.{adds_asked}
use Rattle.cluster_trace.proofs.OldComing.{old_comes}
use Rattle.cluster_trace.proofs.Onwards.{event_next}
use Rattle.cluster_trace.proofs.Obeying.{AllAnswer, AllJoined, obeys_so}

is_sync : (done : LoggedAct) → act_of done ≡ log.Sync → done ≡ act.Sync
is_sync (act.Read word value) is = absurd (cc)
is_sync (act.Write word value) is = absurd (cc)
is_sync (act.Print value) is = absurd (cc)
is_sync (act.Spawn child procedure arguments) is = absurd (cc)
is_sync act.Sync is = refl

module _ (cluster : Cluster) (turns : List WholeTurn) (lawful : IsLawful cluster turns) (program : Program) (stands : StandsFor cluster.code program)
    (parted : IsParted program) where
  abbrev course : Course
  course = course_of turns

  abbrev trace : Trace
  trace = trace_of cluster course

  -- ---- at the start

  main_account : LifeAccount cluster program stands trace 0 [] (main_life (node_at cluster 0)) []
  main_account =
      let runs = main_runs cluster course (all_stepped cluster turns lawful) in
      record {
        gone = [];
        aligned = tt;
        none_away = λ none. refl;
        depth = ap (λ (it : Instance). it.depth) (sym runs);
        account = account_first cluster program stands trace 0 main_id (starts cluster.code 0 cluster.code.main [])
            (ap (λ (it : Instance). starts cluster.code it.depth it.procedure it.arguments) (sym runs)
            ∙ sym (untouched_state cluster program stands trace 0 main_id tt))
            (untouched_children cluster program stands trace 0 main_id tt);
      }

  node_start : (number : ℕ) (b : Bool) → eqb number 0 ≡ b → NodeAccounts cluster program stands trace 0 [] None (frames_of (node_at cluster number) [])
  unfolding frames_of
  node_start number true is = rw is (record { stack = (main_account, tt, tt); ready = tt; parked = tt })
  node_start number false is = rw is (record { stack = tt; ready = tt; parked = tt })

  start : Accounted cluster program stands trace 0 []
  start =
      record {
        nodes = λ number less. node_start number (eqb number 0) refl;
        carries = λ place message was none. absurd was;
        says = λ place message was. absurd was;
      }

  -- ---- at each position

  abbrev pub AllSo : ℕ → Type 0
  AllSo position = AnsweredBefore cluster program stands trace position × Accounted cluster program stands trace position (first position course)

  next_so : (position : ℕ) (moved : Moved) → at course position ≡ Some moved → AllSo position → AllSo (suc position)
  next_so position moved found it =
      let old : Accounted cluster program stands trace position (before course position) =
      subst (Accounted cluster program stands trace position) (first_at position course moved found) it.1 in
      let result = event_next cluster turns lawful program stands position moved.node moved.message
      (old_comes cluster turns lawful program stands) (adds_asked cluster turns lawful program stands) it.0 moved.event found old in (
        λ now less. on now less result.0 (less_or_not now position),
        subst (Accounted cluster program stands trace (suc position)) (sym (first_next position course moved found)) result.1,
      )
    where
      on : (now : ℕ) → now < suc position
          → ((frame : FrameId) → by frame (trace.events position) ≡ true
          → Answers trace (trace.events position) (want_at (starts cluster.code) trace position frame))
          → (now < position) ⊎ (position ≤ now)
          → (frame : FrameId) → by frame (trace.events now) ≡ true → Answers trace (trace.events now) (want_at (starts cluster.code) trace now frame)
      on now less here (inl earlier) = it.0 now earlier
      on now less here (inr later) =
          let same : position ≡ now = omega (arith, less, later) in
          subst (λ now. (frame : FrameId) → by frame (trace.events now) ≡ true
          → Answers trace (trace.events now) (want_at (starts cluster.code) trace now frame)) same here

  pub all_so : (position : ℕ) → position ≤ length course → AllSo position
  all_so zero less = ((λ now none. absurd (omega (arith, none))), subst (Accounted cluster program stands trace 0) (sym (first_none course)) start)
  all_so (suc position) less = on (at course position) refl (all_so position (omega (arith, less)))
    where
      on : (option : Option Moved) → at course position ≡ option → AllSo position → AllSo (suc position)
      on None none it = let past = nothing_past position course none in absurd (omega (arith, past, less))
      on (Some moved) found it = next_so position moved found it

  pub all_answer : AllAnswer cluster turns lawful program stands parted
  all_answer position frame acts = on (at course position) refl
    where
      on : (option : Option Moved) → at course position ≡ option → Answers trace (trace.events position) (want_at (starts cluster.code) trace position frame)
      on None none =
          let nothing : trace.events position ≡ log.Nothing = rw none refl in
          absurd (not_nothing cluster turns lawful frame (ap (by frame) (sym nothing) ∙ acts))
      on (Some moved) found =
          let inside = within course position moved found in (all_so (suc position) (omega (arith, inside))).0 position (omega arith) frame acts

  -- ---- at a Sync

  joined_at : (position : ℕ) (moved : Moved) → at course position ≡ Some moved → (frame : FrameId) (index : ℕ)
      → moved.event ≡ Did (item.Act frame index act.Sync) → (child : FrameId)
      → IsOn child (children trace.events position frame) → (value : ℤ) × (want_at (starts cluster.code) trace position child ≡ Some (Returns value))
  joined_at position moved found frame index is child on_it =
      let stepped = step_then cluster turns lawful position moved found in
      let does = subst (IsAllowed (node_at cluster moved.node) (own moved.node (before course position))) is stepped.1.allowed in
      let inside = within course position moved found in
      let it = subst (Accounted cluster program stands trace position) (first_at position course moved found) (all_so position (omega (arith, inside))).1 in
      on stepped it does.may
    where
      on : Stepped cluster (moved ∷ before course position) → Accounted cluster program stands trace position (before course position)
          → ⊥ ⊎ (IsFree (own moved.node (before course position))
          × MayAct (node_at cluster moved.node) (own moved.node (before course position)) frame index act.Sync)
          → (value : ℤ) × (want_at (starts cluster.code) trace position child ≡ Some (Returns value))
      on stepped it (inl owed) = absurd owed
      on stepped it (inr both) =
          let may = both.1 in
          let led = quiet_none cluster (before course position) stepped.0 moved.node stepped.1.within both.0.quiet in
          let all = live_here cluster program stands trace position (before course position) stepped.0 moved.node stepped.1.within it led in
          let top = first_is _ may.life may.acts.is in
          sync_joined cluster turns lawful program stands position moved found frame child may.life may.acts may.makes
          (subst (Stacked cluster program stands trace position (before course position) []) top.1 all).0 on_it

  pub all_joined : AllJoined cluster turns lawful program stands parted
  all_joined position node frame child is on_it = on (acted_is cluster course position node frame log.Sync is)
    where
      on : Acted cluster course position node frame log.Sync ⊎ Served cluster course position node frame log.Sync
          → (value : ℤ) × (want_at (starts cluster.code) trace position child ≡ Some (Returns value))
      on (inr it) = let not = it.act_is in absurd (cc)
      on (inl it) =
          joined_at position it.is.moved it.is.is frame it.index
          (it.is.event_is ∙ ap (λ done. Did (item.Act frame it.index done)) (is_sync it.act it.act_is)) child on_it

  -- A course of lawful turns obeys.
  pub obeys : Obeys (starts cluster.code) cluster.code.main trace
  obeys = obeys_so cluster turns lawful program stands parted all_answer all_joined

-- And so do the turns of a run.
pub runs_obey : RunsObey
runs_obey cluster program log stands parted run = obeys cluster (reverse run.turns) run.lawful program stands parted
