-- The accounts of all frames behind an item of a frame: an act, a tick, an add.
use Rattle.std.proofs.Common.{◌≡◌, ◌≢◌, ℕ, suc, ◌<◌, ◌≤◌, List, [], ◌∷◌, Some, None, true, refl, sym, ◌∙◌, ap, subst}
use Rattle.cilk_meaning.specs.Instance.{Meaning}
use Rattle.cilk_meaning.specs.Resolved.{Program}
use Rattle.cilk_meaning.specs.Wants.{Done, Value}
use Rattle.machine_code.specs.Machine.{starts}
use Rattle.machine_code.specs.StandsFor.{StandsFor}
use Rattle.page_messages.specs.declared.closure.FrameId.{FrameId}
use Rattle.page_messages.specs.declared.message.Msg.{Msg}
use Rattle.page_messages.specs.declared.log.LoggedAct.{LoggedAct}
use Rattle.page_messages.specs.declared.log.LoggedAct.TheVariants as act
use Rattle.page_messages.specs.declared.log.Item.TheVariants as item
use Rattle.cluster_rules.specs.Turns.{WholeTurn, Did, Sent}
use Rattle.cluster_rules.specs.Lives.{Life, made, after_act}
use Rattle.cluster_rules.specs.Frames.{Frames, frames_of}
use Rattle.cluster_rules.specs.Acting.{Acts, MayMake}
use Rattle.cluster_rules.specs.Positions.{Moved, Course, course_of, own, at, before}
use Rattle.cluster_rules.specs.Runs.{Cluster, IsLawful, node_at}
use Rattle.cluster_rules.proofs.Marks.{many, named, marks}
use Rattle.cluster_edges.proofs.Anywhere.{InFrames, each_both, frames_both, letters_both}
use Rattle.cluster_rules.proofs.Letters.{letters_of}
use Rattle.determinacy.specs.Replies.{Trace, by, want_at, Answers}
use Rattle.cluster_trace.specs.Instances.{trace_of}
use Rattle.cluster_trace.proofs.Spawning.{step_then}
use Rattle.cluster_trace.proofs.Blocks.{AnsweredBefore}
use Rattle.cluster_trace.proofs.Standing.{Aims, Stacked}
use Rattle.cluster_trace.proofs.Answering.{child_target}
use Rattle.cluster_trace.proofs.Going.{life_read, life_write, life_print, life_spawn, life_sync, life_born}
use Rattle.cluster_trace.proofs.Elsewhere.{Other, NotBy, Only, not_ready, not_parked, not_there, not_letters, not_below, stack_same, lives_same, parked_same}
use Rattle.cluster_trace.proofs.Ahead.{ahead, lead}
use Rattle.cluster_trace.proofs.Accounted.{NodeAccounts, Accounted, accounted_next}

module _ (cluster : Cluster) (turns : List WholeTurn) (lawful : IsLawful cluster turns) (program : Program) (stands : StandsFor cluster.code program) where
  abbrev course : Course
  course = course_of turns

  abbrev trace : Trace
  trace = trace_of cluster course

  module _ (position : ℕ) (moved : Moved) (found : at course position ≡ Some moved)
      (answers : (frame : FrameId) → by frame (trace.events position) ≡ true
      → Answers trace (trace.events position) (want_at (starts cluster.code) trace position frame)) where
    abbrev earlier : Course
    earlier = before course position

    abbrev later : Course
    later = moved ∷ earlier

    abbrev Not : FrameId → Meaning → Type 0
    Not = NotBy cluster turns lawful program stands position moved found answers

    abbrev Behind : List FrameId → List Life → Type 0
    Behind above stack = Stacked cluster program stands trace (suc position) later above stack

    abbrev frames : ℕ → Frames
    frames number = frames_of (node_at cluster number) (own number earlier)

    pub aims_more : (first other : Life) (below : List Life) → first.id ≡ other.id → first.spawned ≡ other.spawned
        → Aims cluster program stands trace first below → Aims cluster program stands trace other below
    aims_more first other [] names same aims = tt
    aims_more first other (lower ∷ below) names same aims = sym (ap (λ (it : _). it.target) same) ∙ aims ∙ ap trace.target names

    -- An item of a frame on the stack of this node.
    module _ (number : ℕ) (less : number < cluster.config.nodes) (frame : FrameId) (only : Only frame (trace.events position))
        (some : 1 ≤ many (named frame) (marks (frames number).stack)) where
      both : (id : FrameId) (goes : Meaning) → Other frame id goes → Other frame id goes → Not id goes
      both id goes first second = only id first

      pub below_same : (life : Life) (below : List Life) → life.id ≡ frame
          → many (named frame) (marks (life ∷ below)) ≤ many (named frame) (marks (frames number).stack)
          → Stacked cluster program stands trace position earlier (life.id ∷ []) below → Behind (life.id ∷ []) below
      below_same life below is fewer all =
          let not = not_below cluster earlier (step_then cluster turns lawful position moved found).0 frame number less some life below is fewer in
          stack_same cluster turns lawful program stands position moved found answers (life.id ∷ []) below
          (each_both (Other frame) (Other frame) Not both below not not) all

      pub item_next : (stack : List Life) → frames_of (node_at cluster number) (own number later) ≡ record (frames number) { stack = stack }
          → Behind [] (lead (ahead number later) stack)
          → ((other : ℕ) → other ≢ number → ahead other later ≡ ahead other earlier)
          → ((other : ℕ) → other ≢ number → frames_of (node_at cluster other) (own other later) ≡ frames_of (node_at cluster other) (own other earlier))
          → ((message : Msg) → moved.event ≡ Sent message → ⊥)
          → Accounted cluster program stands trace position earlier → Accounted cluster program stands trace (suc position) later
      item_next stack is all aheads owns none it =
          let stepped = (step_then cluster turns lawful position moved found).0 in
          let ready = not_ready cluster earlier stepped frame number less some in
          let beside : Frames = record { stack = []; ready = []; parked = (frames number).parked } in
          let parked : InFrames cluster.code (Other frame) beside =
          record { stack = tt; ready = tt; parked = not_parked cluster earlier stepped frame number less some } in
          let letters = not_letters cluster earlier stepped frame number less some in
          let before_it = it.nodes number less in
          accounted_next cluster turns lawful program stands position moved found answers number
          (λ other below apart.
          let not = not_there cluster earlier stepped frame number less some other below apart in
          frames_both (Other frame) (Other frame) Not both cluster.code (frames other) not not)
          (letters_both (Other frame) (Other frame) Not both cluster.code (letters_of earlier) letters letters)
          (subst (NodeAccounts cluster program stands trace (suc position) later (ahead number later)) (sym is)
          (record {
            stack = all;
            ready = lives_same cluster turns lawful program stands position moved found answers (frames number).ready
                (each_both (Other frame) (Other frame) Not both (frames number).ready ready ready)
                before_it.ready;
            parked = parked_same cluster turns lawful program stands position moved found answers (frames number).parked
                (frames_both (Other frame) (Other frame) Not both cluster.code beside parked parked).parked before_it.parked;
          }))
          aheads owns (λ message says. absurd (none message says)) it

    -- ---- the stack behind an act

    module _ (answered_before : AnsweredBefore cluster program stands trace position) where
      pub act_stack : (frame : FrameId) (index : ℕ) (done : LoggedAct) → moved.event ≡ Did (item.Act frame index done) → (life : Life) (below : List Life)
          → Acts (node_at cluster moved.node) (own moved.node earlier) frame life → MayMake (node_at cluster moved.node) (own moved.node earlier) done life
          → Stacked cluster program stands trace position earlier [] (life ∷ below) → Behind (life.id ∷ []) below
          → Behind [] (after_act (node_at cluster moved.node) done (life ∷ below))
      act_stack frame index (act.Read word value) is life below acts makes all rest = (
        life_read cluster turns lawful program stands position moved found answers frame index word value life is acts.named all.0,
        aims_more life (made (Value value) life) below refl refl all.1,
        rest,
      )
      act_stack frame index (act.Write word value) is life below acts makes all rest = (
        life_write cluster turns lawful program stands position moved found answers frame index word value life is acts.named all.0,
        aims_more life (made Done life) below refl refl all.1,
        rest,
      )
      act_stack frame index (act.Print value) is life below acts makes all rest = (
        life_print cluster turns lawful program stands position moved found answers frame index value life is acts.named all.0,
        aims_more life (made Done life) below refl refl all.1,
        rest,
      )
      act_stack frame index (act.Spawn child procedure arguments) is life below acts makes all rest = (
        life_born cluster turns lawful program stands position moved found answers frame index child procedure arguments life is acts.named all.0,
        sym (child_target cluster turns lawful program stands position moved found frame index child procedure arguments life is acts),
        (
          life_spawn cluster turns lawful program stands position moved found answers frame index child procedure arguments life is acts.named all.0,
          aims_more life (made Done life) below refl refl all.1,
          rest,
        ),
      )
      act_stack frame index act.Sync is life below acts makes all rest = (
        life_sync cluster turns lawful program stands position moved found answers answered_before frame index life is acts.named makes all.0,
        aims_more life (record life { join = None; away = []; kept = [] }) below refl refl all.1,
        rest,
      )
