-- In the trace of a service the stack is the line of the instance that runs and its parents, the nearest first.
use Rattle.std.proofs.Common.{◌≡◌, ◌≢◌, ℕ, suc, ◌<◌, Bool, true, false, List, [], ◌∷◌, length, sym, ◌∙◌, ap, arith}
use Rattle.backer_order.proofs.Search.{Less3, Same3, More3, compare}
use Rattle.backer_order.specs.Log as log
use Rattle.backer_order.specs.Log.{main_id, Spawn, Nothing}
use Rattle.cilk_meaning.specs.World.{Event}
use Rattle.determinacy.proofs.Items.{item_is}
use Rattle.determinacy.proofs.Rows.{by_one}
use Rattle.determinacy.specs.Replies.{Trace, by, SpawnedBefore}
use Rattle.elision_alone.proofs.Prefixes.{pop_none, pop_one, live_same}
use Rattle.elision_trace.proofs.Extending.{up_to}
use Rattle.elision_trace.proofs.Logs.{event_here, event_there, one_more}
use Rattle.elision_trace.proofs.Service.{so_far}
use Rattle.elision_trace.proofs.Sound.{Sound, OneMore}
use Rattle.elision_trace.specs.Tracing.{event_of, events_in}
use Rattle.one_node.proofs.Stacks.{stack_first, stack_item}
use Rattle.one_node.specs.Deep.{pop, pushed, returned, live, IsTop, Deep}
use Rattle.page_messages.specs.declared.closure.FrameId.{FrameId}
use Rattle.span_tree.specs.Program.{Starts}

pub no_item : (frame : FrameId) → by frame Nothing ≡ true → ⊥
unfolding by
no_item frame is = cc

module _ (starts : Starts) (main : ℕ) where
  abbrev pub returned_in : List Event → FrameId → Bool
  returned_in events = returned starts (so_far starts main events) (length events)

  -- The top of the stack made each item of the log, and behind it the frames of this line are left that have not returned.
  pub record Lined (events : List Event) (line : List FrameId) : Type 0 where
    pub deep : Deep starts (so_far starts main events)
    pub left : live starts (so_far starts main events) (length events) ≡ pop (returned_in events) line

  pub first_lined : Lined [] (main_id ∷ [])
  first_lined = record {
    deep = λ at frame is. absurd (no_item frame is);
    left = ap (pop (returned_in [])) (stack_first starts (so_far starts main []));
  }

  -- what has returned leaves the line
  pub lined_below : (events : List Event) (top : FrameId) (below : List FrameId) → returned_in events top ≡ true → Lined events (top ∷ below) →
      Lined events below
  lined_below events top below is lined = record { deep = lined.deep; left = lined.left ∙ pop_one (returned_in events) top below is }

  -- and what has not is its top
  lined_live : (events : List Event) (top : FrameId) (below : List FrameId) → returned_in events top ≡ false → Lined events (top ∷ below) →
      live starts (so_far starts main events) (length events) ≡ top ∷ below
  lined_live events top below stays lined = lined.left ∙ pop_none (returned_in events) top below stays

  pub lined_top : (events : List Event) (top : FrameId) (below : List FrameId) → returned_in events top ≡ false → Lined events (top ∷ below) →
      IsTop starts (so_far starts main events) (length events) top
  lined_top events top below stays lined = (below, lined_live events top below stays lined)

  -- ---- an event more

  module _ (events : List Event) (event : Event) (sound : Sound starts main (so_far starts main (event ∷ events)) (suc (length events))) where
    abbrev before : Trace
    before = so_far starts main events

    abbrev behind : Trace
    behind = so_far starts main (event ∷ events)

    spawned_new : (node : ℕ) (parent child : FrameId) → event_of event ≡ log.Acts node parent (Spawn child) →
        (child ≢ main_id) × (SpawnedBefore (events_in events) (length events) child → ⊥)
    spawned_new node parent child is =
        let here = event_here event events ∙ is in (
          sound.not_main (length events) node parent child here,
          λ spawned. clash spawned.at spawned.before
              (sound.fresh spawned.at (length events) spawned.node node spawned.parent parent child
              (event_there event events spawned.at (clash spawned.at spawned.before) ∙ spawned.is) here),
        )
      where
        clash : (at : ℕ) → at < length events → at ≢ length events
        clash at inside same = omega (arith, inside, same)

    one : OneMore before behind (length events) (event_of event)
    one = one_more starts main events event spawned_new

    module _ (top : FrameId) (below : List FrameId) (acts : by top (event_of event) ≡ true) (stays : returned_in events top ≡ false)
        (lined : Lined events (top ∷ below)) where
      was_live : live starts behind (length events) ≡ top ∷ below
      was_live = live_same starts before behind one.main_is (length events) one.extends ∙ lined_live events top below stays lined

      deep_more : Deep starts behind
      deep_more at frame is = elim (compare at (length events)) [
        | Less3 l ↦
            let earlier = up_to before behind (length events) at (omega (arith, l)) one.extends in
            let was = lined.deep at frame (ap (by frame) (sym (one.extends.events at l)) ∙ is) in
            (was.0, live_same starts before behind one.main_is at earlier ∙ was.1)
        | Same3 same ↦
            let here : by frame (event_of event) ≡ true = ap (by frame) (sym (ap (events_in (event ∷ events)) same ∙ event_here event events)) ∙ is in
            let frame_is = by_one frame top (event_of event) here acts in (
              below,
              ap (live starts behind) same ∙ was_live ∙ ap (λ i. i ∷ below) (sym frame_is),
            )
        | More3 l ↦ absurd (no_item frame (ap (by frame) (sym (one.past at (omega (arith, l)))) ∙ is))
      ]

      -- Its top made it, and a child that it spawned comes on top.
      pub lined_more : Lined (event ∷ events) (pushed (event_of event) (top ∷ below))
      lined_more = record {
        deep = deep_more;
        left = ap (pop (returned_in (event ∷ events)))
            (stack_item starts behind (length events) (item_is top (events_in (event ∷ events) (length events)) (ap (by top) (event_here event events) ∙ acts))
            ∙ ap (λ i. pushed i (live starts behind (length events))) (event_here event events)
            ∙ ap (pushed (event_of event)) was_live);
      }
