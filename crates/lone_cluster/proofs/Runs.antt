-- A run on one node is an execution depth first, and ends as the execution does.
use Rattle.std.proofs.Common.{◌≡◌, ℕ, suc, List, Some, false, refl, ◌∙◌, ap, subst, arith}
use Rattle.backer_order.specs.Log as log
use Rattle.cilk_meaning.specs.declared.ends.NodeEnd.{NodeEnd}
use Rattle.cilk_meaning.specs.declared.ends.NodeEnd.TheVariants.{Finished, Trapped, Budget}
use Rattle.cilk_meaning.specs.Parted.{IsParted}
use Rattle.cilk_meaning.specs.Resolved.{Program}
use Rattle.machine_code.specs.Machine.{starts}
use Rattle.machine_code.specs.StandsFor.{StandsFor}
use Rattle.cluster_rules.specs.Turns.{WholeTurn, Ended, Past}
use Rattle.cluster_rules.specs.Lives.{main_id, want_of}
use Rattle.cluster_rules.specs.Frames.{ticks_of}
use Rattle.cluster_rules.specs.Edges.{MayEnd}
use Rattle.cluster_rules.specs.Runs.{Cluster, IsLawful, node_at}
use Rattle.cluster_rules.specs.Positions.{Moved, Course, course_of, own, at, before}
use Rattle.cluster_rules.specs.Allowed.{IsAllowed}
use Rattle.cluster_rules.proofs.Stepping.{Stepped}
use Rattle.cluster_order.specs.Reading.{happens_to, memory_of}
use Rattle.cluster_order.proofs.Caching.{keeps_the_page_rules}
use Rattle.cluster_order.proofs.Fronts.{first_at}
use Rattle.determinacy.proofs.Rows.{when_false}
use Rattle.determinacy.specs.Ending.{is_item, count, all_ticks}
use Rattle.determinacy.specs.Replies.{Trace}
use Rattle.one_node.specs.Alone.{Within, EndsAs, OneNode}
use Rattle.cluster_trace.specs.Instances.{trace_of}
use Rattle.cluster_trace.proofs.Spawning.{all_stepped}
use Rattle.cluster_trace.proofs.Always.{obeys}
use Rattle.cluster_trace.proofs.Ending.{ends_finished, tick_asks}
use Rattle.lone_cluster.proofs.Positions.{stands_at, one_accesses, acting, ticks_here}
use Rattle.lone_cluster.proofs.Depth.{still_wants, still_live, top_at, goes_deep}

no_item_ends : (node : ℕ) → is_item (log.End node) ≡ false
unfolding is_item
no_item_ends node = refl

module _ (cluster : Cluster) (turns : List WholeTurn) (lawful : IsLawful cluster turns) (program : Program) (stands : StandsFor cluster.code program)
    (parted : IsParted program) (alone : cluster.config.nodes ≡ 1) where
  abbrev course : Course
  course = course_of turns

  abbrev trace : Trace
  trace = trace_of cluster course

  abbrev stepped : Stepped cluster course
  stepped = all_stepped cluster turns lawful

  abbrev past_at : ℕ → Past
  past_at position = own 0 (before course position)

  -- all ticks before something that stands in the course are those that the node had made
  ticks_at : (position : ℕ) (moved : Moved) → at course position ≡ Some moved → all_ticks trace.events position ≡ ticks_of (past_at position)
  ticks_at position moved found =
      ticks_here cluster alone course stepped position ∙ ap (λ so_far. ticks_of (own 0 so_far)) (first_at position course moved found)

  within_budget : Within trace cluster.config.budget
  within_budget position frame acts =
      let it = acting cluster alone course stepped position frame acts in
      let less = it.2.1.budget in
      let same = ticks_at position it.0 it.1 in omega (arith, less, same)

  -- A run on one node goes depth first, and each word is accessed by one node alone.
  pub lone_runs : OneNode (starts cluster.code) cluster.code.main trace (memory_of cluster) cluster.config.budget
  lone_runs = record {
    obeys = obeys cluster turns lawful program stands parted;
    deep = goes_deep cluster turns lawful program stands parted alone;
    caching = keeps_the_page_rules cluster turns lawful;
    one = one_accesses cluster alone course stepped;
    within = within_budget;
  }

  -- ---- ends

  module _ (position : ℕ) (moved : Moved) (found : at course position ≡ Some moved) where
    abbrev Ends : NodeEnd → ℕ → Type 0
    Ends end now = EndsAs (starts cluster.code) trace cluster.config.budget now end

    ends_so : (end : NodeEnd) → moved.event ≡ Ended end → MayEnd (node_at cluster 0) (past_at position) end → Ends end position
    ends_so Finished is may =
        ends_finished cluster turns lawful program stands parted position moved.node (record { moved = moved; is = found; by = refl; event_is = is })
    ends_so (Trapped kind) is may =
        let it = top_at cluster turns lawful program stands parted alone position moved found may.life may.is in (may.life.id, it.top, it.wants ∙ may.wanted)
    ends_so Budget is may =
        let it = top_at cluster turns lawful program stands parted alone position moved found may.life may.is in
        let asks = tick_asks (want_of may.life) may.wanted in
        (may.life.id, asks.0, it.top, it.wants ∙ asks.1, ticks_at position moved found ∙ may.ticks)

    same_ticks : is_item (trace.events position) ≡ false → all_ticks trace.events (suc position) ≡ all_ticks trace.events position
    unfolding count
    same_ticks none = when_false (is_item (trace.events position)) (suc (all_ticks trace.events position)) (all_ticks trace.events position) none

    still_ends : is_item (trace.events position) ≡ false → (end : NodeEnd) → Ends end position → Ends end (suc position)
    still_ends none Finished ends = (ends.0, still_wants cluster turns lawful program stands parted alone position none main_id ∙ ends.1)
    still_ends none (Trapped kind) ends = (
      ends.0,
      (ends.1.0, still_live cluster turns lawful program stands parted alone position none ∙ ends.1.1),
      still_wants cluster turns lawful program stands parted alone position none ends.0 ∙ ends.2,
    )
    still_ends none Budget ends = (
      ends.0,
      ends.1,
      (ends.2.0, still_live cluster turns lawful program stands parted alone position none ∙ ends.2.1),
      still_wants cluster turns lawful program stands parted alone position none ends.0 ∙ ends.3,
      same_ticks none ∙ ends.4,
    )

    -- It ends as the execution does: there, and behind its end too.
    pub lone_ends : (end : NodeEnd) → moved.event ≡ Ended end → Ends end position × Ends end (suc position)
    lone_ends end is =
        let it = stands_at cluster alone course stepped position moved found in
        let ends = ends_so end is (subst (IsAllowed (node_at cluster 0) (past_at position)) is it.allowed).1 in
        let none : is_item (trace.events position) ≡ false =
        ap is_item (it.event_is ∙ ap (happens_to cluster (before course position) 0 moved.message) is) ∙ no_item_ends 0 in
        (ends, still_ends none end ends)
