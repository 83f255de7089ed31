-- An item answers what its frame wants, where the frame has its account before it; and at a Sync the children of the block have returned.
use Rattle.std.proofs.Common.{◌≡◌, ◌⊎◌, inl, inr, ℕ, ℤ, List, [], ◌∷◌, Option, Some, refl, ◌∙◌, ap, subst}
use Rattle.backer_order.specs.Edges.{IsOn}
use Rattle.backer_order.specs.Log as log
use Rattle.cilk_meaning.specs.Resolved.{Program}
use Rattle.cilk_meaning.specs.Wants as want
use Rattle.cilk_meaning.specs.Wants.{Want, Request, Asks, Returns}
use Rattle.machine_code.specs.Machine.{starts}
use Rattle.machine_code.specs.StandsFor.{StandsFor}
use Rattle.page_messages.specs.declared.closure.FrameId.{FrameId}
use Rattle.page_messages.specs.declared.log.LoggedAct.{LoggedAct}
use Rattle.page_messages.specs.declared.log.LoggedAct.TheVariants as act
use Rattle.page_messages.specs.declared.log.Item.TheVariants as item
use Rattle.cluster_rules.specs.Turns.{WholeTurn, Did, Past}
use Rattle.cluster_rules.specs.Node.{Node}
use Rattle.cluster_rules.specs.Lives.{Life, target_in, want_of}
use Rattle.cluster_rules.specs.Acting.{Wants, Acts, MaySync, MayMake, MayAct, MayTick}
use Rattle.cluster_rules.specs.Positions.{Moved, Course, course_of, own, at, before}
use Rattle.cluster_rules.specs.Runs.{Cluster, IsLawful, node_at}
use Rattle.cluster_order.specs.Reading.{act_of}
use Rattle.determinacy.specs.Replies.{Trace, Instance, children, want_at, Answers}
use Rattle.cluster_trace.specs.Instances.{target_by, trace_of}
use Rattle.cluster_trace.proofs.Running.{child_instance, child_aims}
use Rattle.cluster_trace.proofs.Accounts.{Account, Returned}
use Rattle.cluster_trace.proofs.Settled.{account_settled}
use Rattle.cluster_trace.proofs.Standing.{Aligned, LifeAccount, account_wants}

module _ (cluster : Cluster) (turns : List WholeTurn) (lawful : IsLawful cluster turns) (program : Program) (stands : StandsFor cluster.code program) where
  abbrev course : Course
  course = course_of turns

  abbrev trace : Trace
  trace = trace_of cluster course

  module _ (position : ℕ) (moved : Moved) (found : at course position ≡ Some moved) where
    abbrev earlier : Course
    earlier = before course position

    abbrev node : Node
    node = node_at cluster moved.node

    abbrev past : Past
    past = own moved.node earlier

    abbrev Accounted : Life → List FrameId → Type 0
    Accounted life above = LifeAccount cluster program stands trace position earlier life above

    -- what the frame that acts wants is what its instance does
    pub actor_wants : (frame : FrameId) (life : Life) (above : List FrameId) → Acts node past frame life → Accounted life above
        → want_at (starts cluster.code) trace position frame ≡ want_of life
    actor_wants frame life above acts it =
        ap (λ id. want_at (starts cluster.code) trace position id) acts.named ∙ account_wants cluster program stands trace position earlier life above it

    spawn_want : (target other : Option ℕ) (instance parent : Instance) (procedure : ℕ) (arguments : List ℤ) → instance.procedure ≡ procedure
        → instance.arguments ≡ arguments → other ≡ target
        → Some (Asks (want.Spawn target procedure arguments)) ≡ Some (Asks (want.Spawn other instance.procedure instance.arguments))
    spawn_want target other instance parent procedure arguments same equal aims = cc

    -- The child of a Spawn has the target that its parent wants.
    pub child_target : (frame : FrameId) (index : ℕ) (child : FrameId) (procedure : ℕ) (arguments : List ℤ) (life : Life)
        → moved.event ≡ Did (item.Act frame index (act.Spawn child procedure arguments)) → Acts node past frame life
        → trace.target child ≡ target_in (want_of life)
    child_target frame index child procedure arguments life is acts =
        child_aims cluster turns lawful position moved found frame index child procedure arguments is ∙ ap target_by acts.is

    act_answers : (frame : FrameId) (index : ℕ) (done : LoggedAct) → moved.event ≡ Did (item.Act frame index done) → (life : Life) → Acts node past frame life
        → MayMake node past done life
        → (wanted : Option Want) → wanted ≡ want_of life → Answers trace (log.Acts moved.node frame (act_of done)) wanted
    act_answers frame index (act.Read word value) is life acts makes wanted same = same ∙ makes.wanted
    act_answers frame index (act.Write word value) is life acts makes wanted same = same ∙ makes.wanted
    act_answers frame index (act.Print value) is life acts makes wanted same = same ∙ makes
    act_answers frame index (act.Spawn child procedure arguments) is life acts makes wanted same =
        let runs = child_instance cluster turns lawful position moved found frame index child procedure arguments is in
        let aims : trace.target child ≡ makes.target = child_target frame index child procedure arguments life is acts ∙ ap target_in makes.wanted in
        same ∙ makes.wanted
        ∙ spawn_want makes.target (trace.target child) (trace.instance child) (trace.instance frame) procedure arguments
        (ap (λ (it : Instance). it.procedure) runs)
        (ap (λ (it : Instance). it.arguments) runs) aims
    act_answers frame index act.Sync is life acts makes wanted same = same ∙ makes.wanted

    -- An act answers what its frame wants.
    pub act_wanted : (frame : FrameId) (index : ℕ) (done : LoggedAct) → moved.event ≡ Did (item.Act frame index done)
        → (may : MayAct node past frame index done) → Accounted may.life []
        → Answers trace (log.Acts moved.node frame (act_of done)) (want_at (starts cluster.code) trace position frame)
    act_wanted frame index done is may it =
        act_answers frame index done is may.life may.acts may.makes (want_at (starts cluster.code) trace position frame)
        (actor_wants frame may.life [] may.acts it)

    -- A tick that is no act does.
    pub tick_wanted : (frame : FrameId) (may : MayTick node past frame) → Accounted may.life []
        → Answers trace (log.Tick moved.node frame) (want_at (starts cluster.code) trace position frame)
    tick_wanted frame may it = on may.wanted
      where
        same : want_at (starts cluster.code) trace position frame ≡ want_of may.life
        same = actor_wants frame may.life [] may.acts it

        on : Wants may.life want.Call ⊎ Wants may.life want.LoopTurn
            → Answers trace (log.Tick moved.node frame) (want_at (starts cluster.code) trace position frame)
        on (inl calls) = inl (same ∙ calls)
        on (inr turns) = inr (same ∙ turns)

    none_gone : (id : FrameId) (away : List _) (gone : List FrameId) → away ≡ [] → Aligned cluster program stands trace earlier id away gone → gone ≡ []
    none_gone id [] [] none aligned = refl
    none_gone id [] (child ∷ gone) none aligned = absurd aligned
    none_gone id (entry ∷ away) gone none aligned = absurd (cc)

    -- At a Sync none of its children is out.
    pub sync_gone : (life : Life) → MaySync life → (it : Accounted life []) → it.gone ≡ []
    sync_gone life may it = none_gone life.id life.away it.gone (it.none_away may.joined) it.aligned

    -- There each child of its block has returned.
    pub sync_joined : (frame child : FrameId) (life : Life) → Acts node past frame life → MaySync life → Accounted life []
        → IsOn child (children trace.events position frame)
        → Returned cluster program stands trace position child
    sync_joined frame child life acts may it on_it =
        account_settled cluster program stands trace position life.id life.goes life.kept
        (subst (λ gone. Account cluster program stands trace position life.id life.goes life.kept [] gone) (sync_gone life may it) it.account) child
        (subst (λ id. IsOn child (children trace.events position id)) acts.named on_it)
