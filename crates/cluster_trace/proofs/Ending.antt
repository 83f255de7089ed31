-- What the end of lawful turns says of the execution: that all frames have returned, that one wants a trap, or that one wants a further tick.
use Rattle.std.proofs.Common.{◌≡◌, ℕ, zero, suc, ◌<◌, ◌≤◌, ℤ, List, [], ◌∷◌, Option, Some, None, true, length, refl, sym, ◌∙◌, ap, subst, arith}
use Rattle.cilk_meaning.specs.Parted.{IsParted}
use Rattle.cilk_meaning.specs.Resolved.{Program}
use Rattle.cilk_meaning.specs.Wants.{Want, Request, Asks, Returns, Traps, Deposit}
use Rattle.cilk_meaning.specs.declared.ends.NodeEnd.{NodeEnd}
use Rattle.cilk_meaning.specs.declared.ends.NodeEnd.TheVariants.{Finished, Trapped, Budget}
use Rattle.cilk_meaning.specs.declared.ends.TrapKind.{TrapKind}
use Rattle.machine_code.specs.Machine.{starts}
use Rattle.machine_code.specs.StandsFor.{StandsFor}
use Rattle.page_messages.specs.declared.closure.FrameId.{FrameId}
use Rattle.cluster_rules.specs.Walking.{last_of}
use Rattle.cluster_rules.specs.Turns.{WholeTurn, Ended, Past}
use Rattle.cluster_rules.specs.Sendings.{IsQuiet}
use Rattle.cluster_rules.specs.Lives.{Life, want_of, returned, with_kept, live_from, live, main_id}
use Rattle.cluster_rules.specs.Frames.{highest, stack_of, ticks_of}
use Rattle.cluster_rules.specs.Edges.{costs_tick, IsFinished, MayEnd}
use Rattle.cluster_rules.specs.Allowed.{IsAllowed}
use Rattle.cluster_rules.specs.Positions.{Course, course_of, own, before, Happens}
use Rattle.cluster_rules.specs.Runs.{Cluster, IsLawful, node_at}
use Rattle.cluster_rules.proofs.Stepping.{Stepped}
use Rattle.cluster_rules.proofs.Marks.{first_is}
use Rattle.cluster_rules.proofs.Holding.{held}
use Rattle.cluster_rules.proofs.Places.{held_made}
use Rattle.cluster_order.specs.Standing.{first}
use Rattle.cluster_order.proofs.Fronts.{first_at}
use Rattle.cluster_order.proofs.Growing.{within}
use Rattle.cluster_order.proofs.Messages.{allowed}
use Rattle.cluster_edges.proofs.Anywhere.{Saying, Each, Everywhere, If, everywhere_both, everywhere_for, everywhere_always, live_each}
use Rattle.cluster_edges.proofs.Asking.{step_at}
use Rattle.cluster_edges.proofs.Firsts.{stepped_first}
use Rattle.cluster_edges.proofs.Joining.{tied}
use Rattle.cluster_edges.proofs.Lone.{Only, nowhere}
use Rattle.determinacy.specs.Replies.{Trace, want_at, Born}
use Rattle.cluster_trace.specs.Instances.{trace_of}
use Rattle.cluster_trace.proofs.Spawning.{all_stepped, made_first}
use Rattle.cluster_trace.proofs.Standing.{Stacked, account_wants, value_returns}
use Rattle.cluster_trace.proofs.Ahead.{ahead, lead_none, quiet_none}
use Rattle.cluster_trace.proofs.Accounted.{Accounted}
use Rattle.cluster_trace.proofs.Changes.{live_here, last_has}
use Rattle.cluster_trace.proofs.Always.{all_so}

-- where all frames of a stack have returned, the top one has, and so have those below
top_returned : {A : Type 0} (deposits : List Deposit) (top : Life) (below : List Life) (gives : Option ℤ) → returned top ≡ gives
    → ◌≡◌ {A = List Life} (elim gives [ None ↦ with_kept deposits top ∷ below | Some it ↦ live_from ((top.spawned.target, it) ∷ []) below ]) []
    → ((given : List Deposit) (value : ℤ) → returned top ≡ Some value → live_from given below ≡ [] → A) → A
top_returned deposits top below None is none then = absurd (cc)
top_returned deposits top below (Some value) is none then = then ((top.spawned.target, value) ∷ []) value is none

-- There the bottom one has.
pub last_returned : (deposits : List Deposit) (stack : List Life) (life : Life) → live_from deposits stack ≡ [] → last_of stack ≡ Some life
    → (value : ℤ) × (returned life ≡ Some value)
last_returned deposits [] life none is = absurd (cc)
last_returned deposits (last ∷ []) life none is =
    let same : last ≡ life = cc in
    top_returned deposits last [] (returned last) refl none (λ given value gives rest. (value, ap returned (sym same) ∙ gives))
last_returned deposits (top ∷ (second ∷ below)) life none is =
    top_returned deposits top (second ∷ below) (returned top) refl none (λ given value gives rest. last_returned given (second ∷ below) life rest is)

-- What costs a tick is a request.
pub tick_asks : (want : Option Want) → costs_tick want ≡ true → (request : Request) × (want ≡ Some (Asks request))
tick_asks None costs = absurd (cc)
tick_asks (Some (Asks request)) costs = (request, refl)
tick_asks (Some (Returns value)) costs = absurd (cc)
tick_asks (Some (Traps kind)) costs = absurd (cc)

module _ (cluster : Cluster) (turns : List WholeTurn) (lawful : IsLawful cluster turns) where
  abbrev course : Course
  course = course_of turns

  abbrev trace : Trace
  trace = trace_of cluster course

  -- ---- what is anywhere was born

  module _ (position : ℕ) where
    abbrev earlier : Course
    earlier = first position course

    abbrev pub IsBorn : Saying
    IsBorn id goes = Born trace.events position id

    stepped_there : Stepped cluster earlier
    stepped_there = stepped_first cluster course position (all_stepped cluster turns lawful)

    -- Each frame on a stack, on a ready list, parked, or in a closure that travels was born.
    pub all_born : Everywhere cluster earlier IsBorn
    all_born = everywhere_for IsBorn cluster earlier (λ frame. on frame (held cluster earlier frame) refl)
      where
        on : (frame : FrameId) (places : ℕ) → held cluster earlier frame ≡ places → Everywhere cluster earlier (If frame IsBorn)
        on frame zero none =
            let Not : Saying = Only frame (λ goes. ⊥) in
            let there = nowhere frame (λ goes. ⊥) cluster earlier none in
            everywhere_both Not Not (If frame IsBorn) (λ id goes not other same. absurd (not same)) cluster earlier there there
        on frame (suc places) some =
            let born = made_first cluster turns lawful position frame (held_made cluster earlier stepped_there frame (omega (arith, some))) in
            everywhere_always (If frame IsBorn) (λ id goes same. subst (Born trace.events position) (sym same) born) cluster earlier

  module _ (program : Program) (stands : StandsFor cluster.code program) (parted : IsParted program) where
    -- what a frame wants in the execution
    abbrev wants : ℕ → FrameId → Option Want
    wants position frame = want_at (starts cluster.code) trace position frame

    -- ---- a node that waits for nothing

    module _ (position : ℕ) (inside : position ≤ length course) (number : ℕ) (less : number < cluster.config.nodes)
        (quiet : IsQuiet (own number (first position course))) where
      abbrev so_far : Course
      so_far = first position course

      abbrev past : Past
      past = own number so_far

      abbrev stack : List Life
      stack = stack_of (node_at cluster number) past

      accounted : Accounted cluster program stands trace position so_far
      accounted = (all_so cluster turns lawful program stands parted position inside).1

      none_ahead : ahead number so_far ≡ None
      none_ahead = quiet_none cluster so_far (stepped_there position) number less quiet

      -- The highest frame that has not returned was born, and wants what its instance does.
      pub first_asks : (life : Life) → highest (node_at cluster number) past ≡ Some life
          → Born trace.events position life.id × (wants position life.id ≡ want_of life)
      first_asks life is =
          let top = first_is (live stack) life is in
          let born = live_each (IsBorn position) stack ((all_born position).at number less).stack in
          let all = live_here cluster program stands trace position so_far (stepped_there position) number less accounted none_ahead in
          let has = (subst (Stacked cluster program stands trace position so_far []) top.1 all).0 in
          ((subst (Each (IsBorn position)) top.1 born).0, account_wants cluster program stands trace position so_far life [] has)

      -- Where a stack with `main` at its bottom has returned, `main` has in the execution.
      pub main_returns : IsFinished (node_at cluster number) past → (value : ℤ) × (wants position main_id ≡ Some (Returns value))
      main_returns it =
          let stepped = stepped_there position in
          let here = (accounted.nodes number less).stack in
          let all = subst (Stacked cluster program stands trace position so_far []) (lead_none (ahead number so_far) stack none_ahead) here in
          let ties = ((tied cluster so_far stepped).nodes number less).stack in
          let bottom = last_has cluster program stands trace position so_far stepped number less accounted [] stack it.life it.returned.at_bottom all ties in
          let gives = last_returned [] stack it.life it.returned.none_left it.returned.at_bottom in
          let returns = value_returns cluster program stands trace (want_of it.life) gives.0 gives.1 in
          let same = account_wants cluster program stands trace position so_far it.life bottom.0 bottom.1 in
          (gives.0, subst (λ frame. wants position frame ≡ Some (Returns gives.0)) (bottom.2.fits.rooted it.main) (same ∙ returns))

    -- ---- ends

    -- a node ends where it waits for nothing, as its rule says
    at_end : (position number : ℕ) (end : NodeEnd) → Happens course number position (Ended end)
        → (position ≤ length course) × (number < cluster.config.nodes) × IsQuiet (own number (first position course))
        × MayEnd (node_at cluster number) (own number (first position course)) end
    at_end position number end happens =
        let inside = within course position happens.moved happens.is in
        let step = step_at cluster course (all_stepped cluster turns lawful) position happens.moved happens.is in
        let same = first_at position course happens.moved happens.is in
        let ends = allowed cluster turns lawful number position (Ended end) happens in
        let may = subst (λ it. IsAllowed (node_at cluster number) (own number it) (Ended end)) (sym same) ends in
        (omega (arith, inside), subst (λ it. it < cluster.config.nodes) happens.by step.within, may.0, may.1)

    -- Where a node says that the run has finished, `main` has returned.
    pub ends_finished : (position number : ℕ) → Happens course number position (Ended Finished) → (value : ℤ) × (wants position main_id ≡ Some (Returns value))
    ends_finished position number happens =
        let it = at_end position number Finished happens in main_returns position it.0 number it.1 it.2 it.3

    -- Where a node ends with a trap, a frame wants that trap.
    pub ends_trapped : (position number : ℕ) (kind : TrapKind) → Happens course number position (Ended (Trapped kind))
        → (frame : FrameId) × Born trace.events position frame × (wants position frame ≡ Some (Traps kind))
    ends_trapped position number kind happens =
        let it = at_end position number (Trapped kind) happens in
        let top = first_asks position it.0 number it.1 it.2 it.3.life it.3.is in
        (it.3.life.id, top.0, top.1 ∙ it.3.wanted)

    -- Where a node ends for want of ticks, it has made all of them, and a frame wants something more.
    pub ends_spent : (position number : ℕ) → Happens course number position (Ended Budget)
        → (frame : FrameId) × (request : Request) × Born trace.events position frame × (wants position frame ≡ Some (Asks request))
        × (ticks_of (own number (before course position)) ≡ cluster.config.budget)
    ends_spent position number happens =
        let it = at_end position number Budget happens in
        let top = first_asks position it.0 number it.1 it.2 it.3.life it.3.is in
        let asks = tick_asks (want_of it.3.life) it.3.wanted in
        (it.3.life.id, asks.0, top.0, top.1 ∙ asks.1, (allowed cluster turns lawful number position (Ended Budget) happens).1.ticks)
