-- Along the service the top of the stack makes each item, and at its end the stack says how it ended.
use Rattle.std.proofs.Common.{◌≡◌, ℕ, suc, ℤ, true, false, Option, Some, None, List, [], ◌∷◌, length, refl, sym, ◌∙◌, ap, arith}
use Rattle.cilk_meaning.proofs.Keeps.{IsInvariant, serve_keeps}
use Rattle.cilk_meaning.specs.declared.ends.NodeEnd.TheVariants.{Finished, Trapped, Budget}
use Rattle.cilk_meaning.specs.declared.ends.TrapKind.{TrapKind}
use Rattle.cilk_meaning.specs.Serve.{Entry, Parent, State, now, with_child, served, serve_want, serve_return, serve_request, serve, first_state}
use Rattle.cilk_meaning.specs.Wants as wanted
use Rattle.cilk_meaning.specs.Wants.{Request, Want, Asks, Returns, Traps}
use Rattle.cilk_meaning.specs.World as world
use Rattle.cilk_meaning.specs.World.{World, End, ticks_of}
use Rattle.determinacy.specs.Replies.{want_at}
use Rattle.elision_alone.proofs.Lines.{Lined, returned_in, first_lined, lined_below, lined_top, lined_more}
use Rattle.elision_trace.proofs.Items.{ticks_all}
use Rattle.elision_trace.proofs.Obeying.{first_good, step_good, return_good}
use Rattle.elision_trace.proofs.Service.{Good, so_far, by_act, by_tick}
use Rattle.elision_trace.specs.Tracing.{frame_at}
use Rattle.one_node.specs.Alone.{EndsAs}
use Rattle.one_node.specs.Deep.{pushed, is_return, Deep, IsTop}
use Rattle.page_messages.specs.declared.closure.FrameId.{FrameId}
use Rattle.span_tree.specs.Program.{Starts}

-- the frames of the parents that wait, the nearest first
abbrev frames_waiting : List Parent → List FrameId
frames_waiting [] = []
frames_waiting (parent ∷ parents) = frame_at parent.entry.row ∷ frames_waiting parents

is_returned : (want : Option Want) (value : ℤ) → want ≡ Some (Returns value) → is_return want ≡ true
unfolding is_return
is_returned want value is = ap is_return is

asks_none : (want : Option Want) (request : Request) → want ≡ Some (Asks request) → is_return want ≡ false
unfolding is_return
asks_none want request is = ap is_return is

traps_none : (want : Option Want) (kind : TrapKind) → want ≡ Some (Traps kind) → is_return want ≡ false
unfolding is_return
traps_none want kind is = ap is_return is

-- It went depth first, and ended as its end says.
pub record EndsDeep (starts : Starts) (main budget : ℕ) (e : End) : Type 0 where
  pub deep : Deep starts (so_far starts main e.world.log)
  pub ends_as : EndsAs starts (so_far starts main e.world.log) budget (length e.world.log) e.end

-- A service that ends so, and with one tick more as `more`: it ends for want of ticks where these are the budget, and only where it makes
-- one more of them.
module _ (starts : Starts) (main budget : ℕ) (ends more : End) (counted : ends.end ≡ Budget → ticks_of ends ≡ budget)
    (wants_more : ends.end ≡ Budget → ticks_of more ≡ suc budget) where
  record Serves (left : ℕ) (s : State) : Type 0 where
    good : Good starts main s
    lined : Lined starts main s.world.log (frame_at s.running.row ∷ frames_waiting s.waiting)
    leads : serve starts left s ≡ ends
    leads_more : serve starts (suc left) s ≡ more

  -- the frame of the running row wants what the row wants
  wants_as : (s : State) (want : Option Want) → now s.running.goes ≡ want → Good starts main s →
      want_at starts (so_far starts main s.world.log) (length s.world.log) (frame_at s.running.row) ≡ want
  wants_as s want is good = ap (λ i. now i) (sym good.top.goes) ∙ is

  -- the service of a state, by what its running row wants
  service_of : (left : ℕ) (s : State) (want : Option Want) → now s.running.goes ≡ want →
      serve_want (serve_request starts left) (serve_return (serve_request starts left) s.waiting) want s ≡ serve starts left s
  service_of left s want is = ap (λ i. serve_want (serve_request starts left) (serve_return (serve_request starts left) s.waiting) i s) (sym is)

  -- ---- a request

  -- what asks for something has not returned
  stays : (s : State) (request : Request) → now s.running.goes ≡ Some (Asks request) → Good starts main s →
      returned_in starts main s.world.log (frame_at s.running.row) ≡ false
  stays s request is good =
      asks_none (want_at starts (so_far starts main s.world.log) (length s.world.log) (frame_at s.running.row)) request
      (wants_as s (Some (Asks request)) is good)

  -- the line grows by the child that is spawned, and is else the same
  line_more : (s : State) (request : Request) (is : now s.running.goes ≡ Some (Asks request)) → Good starts main s →
      Good starts main (served starts request s) → Lined starts main s.world.log (frame_at s.running.row ∷ frames_waiting s.waiting) →
      Lined starts main (served starts request s).world.log (frame_at (served starts request s).running.row ∷ frames_waiting (served starts request s).waiting)
  unfolding pushed
  line_more s (wanted.Read word) is good next lined =
      lined_more starts main s.world.log (world.Acts s.running.row (world.Read word (s.world.memory word))) next.sound (frame_at s.running.row)
      (frames_waiting s.waiting) (by_act s.running.row (world.Read word (s.world.memory word))) (stays s (wanted.Read word) is good) lined
  line_more s (wanted.Write word value) is good next lined =
      lined_more starts main s.world.log (world.Acts s.running.row (world.Write word value)) next.sound (frame_at s.running.row)
      (frames_waiting s.waiting) (by_act s.running.row (world.Write word value)) (stays s (wanted.Write word value) is good) lined
  line_more s (wanted.Add word addend) is good next lined =
      lined_more starts main s.world.log (world.Acts s.running.row (world.Add word (s.world.memory word) addend)) next.sound (frame_at s.running.row)
      (frames_waiting s.waiting) (by_act s.running.row (world.Add word (s.world.memory word) addend)) (stays s (wanted.Add word addend) is good) lined
  line_more s (wanted.Print value) is good next lined =
      lined_more starts main s.world.log (world.Acts s.running.row (world.Print value)) next.sound (frame_at s.running.row)
      (frames_waiting s.waiting) (by_act s.running.row (world.Print value)) (stays s (wanted.Print value) is good) lined
  line_more s (wanted.Spawn target procedure arguments) is good next lined =
      lined_more starts main s.world.log (world.Acts s.running.row (world.Spawn s.world.rows procedure arguments)) next.sound (frame_at s.running.row)
      (frames_waiting s.waiting) (by_act s.running.row (world.Spawn s.world.rows procedure arguments))
      (stays s (wanted.Spawn target procedure arguments) is good) lined
  line_more s wanted.Sync is good next lined =
      lined_more starts main s.world.log (world.Acts s.running.row world.Sync) next.sound (frame_at s.running.row)
      (frames_waiting s.waiting) (by_act s.running.row world.Sync) (stays s wanted.Sync is good) lined
  line_more s wanted.Call is good next lined =
      lined_more starts main s.world.log (world.Ticks s.running.row) next.sound (frame_at s.running.row)
      (frames_waiting s.waiting) (by_tick s.running.row) (stays s wanted.Call is good) lined
  line_more s wanted.LoopTurn is good next lined =
      lined_more starts main s.world.log (world.Ticks s.running.row) next.sound (frame_at s.running.row)
      (frames_waiting s.waiting) (by_tick s.running.row) (stays s wanted.LoopTurn is good) lined

  step_serves : (left : ℕ) (s : State) (request : Request) → now s.running.goes ≡ Some (Asks request) → Serves (suc left) s →
      Serves left (served starts request s)
  step_serves left s request is serves =
      let next = step_good starts main s request is serves.good in
      record {
        good = next;
        lined = line_more s request is serves.good next serves.lined;
        leads = service_of (suc left) s (Some (Asks request)) is ∙ serves.leads;
        leads_more = service_of (suc (suc left)) s (Some (Asks request)) is ∙ serves.leads_more;
      }

  -- ---- a return

  return_serves : (left : ℕ) (entry : Entry) (parent : Parent) (parents : List Parent) (value : ℤ) (made : World) → now entry.goes ≡ Some (Returns value) →
      Serves left (record { running = entry; waiting = parent ∷ parents; world = made }) →
      Serves left (record { running = with_child parent value; waiting = parents; world = made })
  return_serves left entry parent parents value made is serves =
      let s : State = record { running = entry; waiting = parent ∷ parents; world = made } in
      record {
        good = return_good starts main entry parent parents value made is serves.good;
        lined = lined_below starts main made.log (frame_at entry.row) (frames_waiting (parent ∷ parents))
            (is_returned (want_at starts (so_far starts main made.log) (length made.log) (frame_at entry.row)) value
            (wants_as s (Some (Returns value)) is serves.good)) serves.lined;
        leads = service_of left s (Some (Returns value)) is ∙ serves.leads;
        leads_more = service_of (suc left) s (Some (Returns value)) is ∙ serves.leads_more;
      }

  -- ---- the end

  top_of : (left : ℕ) (s : State) → Serves left s → is_return (now s.running.goes) ≡ false →
      IsTop starts (so_far starts main s.world.log) (length s.world.log) (frame_at s.running.row)
  top_of left s serves stays = lined_top starts main s.world.log (frame_at s.running.row) (frames_waiting s.waiting)
      (ap is_return (wants_as s (now s.running.goes) refl serves.good) ∙ stays) serves.lined

  -- the end for want of ticks
  abbrev out_of_ticks : World → End
  out_of_ticks made = record { end = Budget; world = made }

  ticks_spent : (made : World) → out_of_ticks made ≡ ends → length made.log ≡ budget
  ticks_spent made is = ap ticks_of is ∙ counted (sym (ap (λ (e : End). e.end) is))

  spent_deep : (s : State) (request : Request) → now s.running.goes ≡ Some (Asks request) → Serves 0 s →
      EndsDeep starts main budget (record { end = Budget; world = s.world })
  spent_deep s request is serves = record {
    deep = serves.lined.deep;
    ends_as = (
      frame_at s.running.row,
      request,
      top_of 0 s serves (asks_none (now s.running.goes) request is),
      wants_as s (Some (Asks request)) is serves.good,
      ticks_all s.world.log ∙ ticks_spent s.world (service_of 0 s (Some (Asks request)) is ∙ serves.leads),
    );
  }

  -- what wants nothing makes no tick more, so this never comes
  not_lost : (left : ℕ) (s : State) → now s.running.goes ≡ None → Serves left s → ⊥
  not_lost left s is serves =
      let few : out_of_ticks s.world ≡ ends = service_of left s None is ∙ serves.leads in
      let many : out_of_ticks s.world ≡ more = service_of (suc left) s None is ∙ serves.leads_more in
      let spent : ends.end ≡ Budget = sym (ap (λ (e : End). e.end) few) in
      omega (arith, ap ticks_of few, ap ticks_of many, counted spent, wants_more spent)

  trapped_deep : (left : ℕ) (s : State) (kind : TrapKind) → now s.running.goes ≡ Some (Traps kind) → Serves left s →
      EndsDeep starts main budget (record { end = Trapped kind; world = s.world })
  trapped_deep left s kind is serves = record {
    deep = serves.lined.deep;
    ends_as = (
      frame_at s.running.row,
      top_of left s serves (traps_none (now s.running.goes) kind is),
      wants_as s (Some (Traps kind)) is serves.good,
    );
  }

  finished_deep : (left : ℕ) (entry : Entry) (value : ℤ) (made : World) → now entry.goes ≡ Some (Returns value) →
      Serves left (record { running = entry; waiting = []; world = made }) → EndsDeep starts main budget (record { end = Finished; world = made })
  finished_deep left entry value made is serves =
      let is_main : entry.row ≡ 0 = serves.good.waits in
      record {
        deep = serves.lined.deep;
        ends_as = (
          value,
          ap (λ i. want_at starts (so_far starts main made.log) (length made.log) (frame_at i)) (sym is_main)
              ∙ wants_as (record { running = entry; waiting = []; world = made }) (Some (Returns value)) is serves.good,
        );
      }

  serves_kept : IsInvariant starts Serves (EndsDeep starts main budget)
  serves_kept = record {
    spent = spent_deep;
    lost = λ left s is serves. absurd (not_lost left s is serves);
    trapped = trapped_deep;
    finished = finished_deep;
    returned = return_serves;
    step = step_serves;
  }

  pub service_ends_deep : (memory : ℕ → ℤ) → serve starts budget (first_state starts main memory) ≡ ends →
      serve starts (suc budget) (first_state starts main memory) ≡ more → EndsDeep starts main budget (serve starts budget (first_state starts main memory))
  service_ends_deep memory leads leads_more = serve_keeps starts Serves (EndsDeep starts main budget) serves_kept budget (first_state starts main memory)
      (record { good = first_good starts main memory; lined = first_lined starts main; leads = leads; leads_more = leads_more })
