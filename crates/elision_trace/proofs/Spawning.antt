-- A spawn in the service: the child stands for a frame that was told nothing, and its parent waits for it.
use Rattle.std.proofs.Common.{◌≡◌, ◌≢◌, ℕ, suc, inr, ℤ, Option, Some, List, [], ◌∷◌, length, sym, ◌∙◌, ap, subst, arith}
use Rattle.backer_order.specs.Log as log
use Rattle.backer_order.specs.Log.{main_id, Spawn}
use Rattle.cilk_meaning.specs.Serve as serve
use Rattle.cilk_meaning.specs.Serve.{Entry, Parent, State, answered, served}
use Rattle.cilk_meaning.specs.Wants as wanted
use Rattle.cilk_meaning.specs.Wants.{Request, Want, Asks}
use Rattle.cilk_meaning.specs.World as world
use Rattle.determinacy.proofs.Rows.{given, Unchanged}
use Rattle.determinacy.specs.Replies.{Instance, Trace, children, state_of, want_at, state_at, Answers, SpawnedBefore}
use Rattle.elision_trace.proofs.Childless.{first_state, first_block}
use Rattle.elision_trace.proofs.Extending.{gives, deposits_none}
use Rattle.elision_trace.proofs.Logs.{child_instance, child_target, event_here, one_more}
use Rattle.elision_trace.proofs.Service.{Good, so_far, its_want, by_act, spawn_block, spawn_told, spawns_child, no_sync_spawn}
use Rattle.elision_trace.proofs.Sound.{Sound, OneMore, Allowed, sound_more}
use Rattle.elision_trace.proofs.Standing.{Stands, unborn, block_moved, stands_acted}
use Rattle.elision_trace.proofs.Waiting.{Waits, IsRow, same_row, wait_still, numbered_more}
use Rattle.elision_trace.specs.Tracing.{frame_at, event_of, events_in, instance_in, target_in_want}
use Rattle.page_messages.specs.declared.closure.FrameId.{FrameId}
use Rattle.span_tree.specs.Program.{Starts}

target_is : (want : Option Want) (target : Option ℕ) (procedure : ℕ) (arguments : List ℤ) → want ≡ Some (Asks (wanted.Spawn target procedure arguments)) →
    target_in_want want ≡ target
target_is want target procedure arguments is = ap target_in_want is

-- what a spawn asks for
abbrev spawns : Option ℕ → Instance → Option Want
spawns target instance = Some (Asks (wanted.Spawn target instance.procedure instance.arguments))

module _ (starts : Starts) (main : ℕ) (s : State) (good : Good starts main s) (target : Option ℕ) (procedure : ℕ) (arguments : List ℤ)
    (is : serve.now s.running.goes ≡ Some (Asks (wanted.Spawn target procedure arguments))) where
  abbrev spawn : world.Event
  spawn = world.Acts s.running.row (world.Spawn s.world.rows procedure arguments)

  abbrev before : Trace
  before = so_far starts main s.world.log

  abbrev behind : Trace
  behind = so_far starts main (spawn ∷ s.world.log)

  abbrev at : ℕ
  at = length s.world.log

  abbrev runner : FrameId
  runner = frame_at s.running.row

  abbrev child : FrameId
  child = frame_at s.world.rows

  its_child : (node : ℕ) (parent other : FrameId) → event_of spawn ≡ log.Acts node parent (Spawn other) → (other ≡ child) × (parent ≡ runner)
  its_child node parent other same = spawns_child s.running.row s.world.rows procedure arguments node parent other same

  not_main : child ≢ main_id
  not_main same = let number = same_row s.world.rows 0 same in omega (arith, number, good.below)

  fresh : (other : FrameId) → other ≡ child → SpawnedBefore before.events at other → ⊥
  fresh other same spawned =
      let is_row = good.numbered other spawned in
      let number = same_row is_row.row s.world.rows (sym is_row.is ∙ same) in
      omega (arith, number, is_row.below)

  one : OneMore before behind at (event_of spawn)
  one = one_more starts main s.world.log spawn (λ node parent other same.
      (let new = (its_child node parent other same).0 in ((λ of_main. not_main (sym new ∙ of_main)), (λ spawned. fresh other new spawned))))

  abbrev child_runs : Instance
  child_runs = record { depth = suc (before.instance runner).depth; procedure = procedure; arguments = arguments }

  runs : behind.instance child ≡ child_runs
  runs = child_instance (instance_in main s.world.log) s.running.row s.world.rows procedure arguments

  asks : want_at starts before at runner ≡ Some (Asks (wanted.Spawn target procedure arguments))
  asks = its_want starts main s good (wanted.Spawn target procedure arguments) is

  target_there : behind.target child ≡ target
  target_there =
      child_target starts before at s.running.row s.world.rows procedure arguments
      ∙ target_is (want_at starts before at runner) target procedure arguments asks

  answers : Answers behind (event_of spawn) (want_at starts before at runner)
  answers = asks ∙ ap (λ i. spawns i child_runs) (sym target_there) ∙ ap (λ i. spawns (behind.target child) i) (sym runs)

  deeper : (other parent : FrameId) → other ≡ child → parent ≡ runner → (behind.instance other).depth ≡ suc (before.instance parent).depth
  deeper other parent same same_parent =
      ap (λ i. (behind.instance i).depth) same ∙ ap (λ i. i.depth) runs ∙ ap (λ i. suc (before.instance i).depth) (sym same_parent)

  allowed : Allowed starts before behind at (event_of spawn) runner
  allowed = record {
    is = by_act s.running.row (world.Spawn s.world.rows procedure arguments);
    born = good.top.born;
    answers = answers;
    joined = λ node parent other same on. absurd (no_sync_spawn s.running.row s.world.rows procedure arguments node parent same);
    deeper = λ node parent other same. (let new = its_child node parent other same in deeper other parent new.0 new.1);
    fresh = λ node parent other same spawned. fresh other (its_child node parent other same).0 spawned;
    not_main = λ node parent other same of_main. not_main (sym (its_child node parent other same).0 ∙ of_main);
  }

  sound : Sound starts main behind (suc at)
  sound = sound_more starts main before behind at (event_of spawn) good.sound one runner allowed

  -- the child was told nothing
  child_new : Unchanged starts behind child 0 (suc at)
  child_new = unborn starts main behind (suc at) at 0 runner child sound (event_here spawn s.world.log)

  child_goes : starts (suc (length s.waiting)) procedure arguments ≡ state_at starts behind (suc at) child
  child_goes =
      ap (λ i. starts (suc i) procedure arguments) (sym good.top.has_depth)
      ∙ ap (λ (i : Instance). starts i.depth i.procedure i.arguments) (sym runs)
      ∙ sym (first_state starts behind child)
      ∙ ap (λ i. state_of starts (behind.instance child) i) (sym child_new.told)

  child_block : children behind.events (suc at) child ≡ []
  child_block = child_new.block ∙ first_block behind child

  abbrev child_entry : Entry
  child_entry = record { goes = starts (suc (length s.waiting)) procedure arguments; row = s.world.rows; kept = [] }

  child_stands : Stands starts behind (suc at) child_entry (suc (length s.waiting)) []
  child_stands = record {
    goes = child_goes;
    kept = sym (deposits_none (gives starts behind (suc at)));
    returned = λ other on. absurd on;
    spawned = λ other on. absurd on;
    born = inr (record { at = at; node = 0; parent = runner; before = omega arith; is = event_here spawn s.world.log });
    has_depth = ap (λ i. i.depth) runs ∙ ap suc good.top.has_depth;
  }

  abbrev new_parent : Parent
  new_parent = record { entry = answered wanted.Done s.running.kept s.running; target = target }

  parent_waits : Waits starts behind (suc at) new_parent s.world.rows (length s.waiting)
  parent_waits = record {
    block = children (events_in s.world.log) at runner;
    stands = stands_acted starts main before behind at (event_of spawn) good.sound one s.running (length s.waiting) allowed wanted.Done
        (spawn_told s.running.row s.world.rows procedure arguments (given starts before at runner))
        (children (events_in s.world.log) at runner) good.top;
    has_children =
        block_moved starts main before behind at (event_of spawn) good.sound one runner allowed
        ∙ spawn_block s.running.row s.world.rows procedure arguments (children (events_in s.world.log) at runner);
    target = sym target_there;
    before = good.below;
  }

  new_row : (node : ℕ) (parent other : FrameId) → event_of spawn ≡ log.Acts node parent (Spawn other) → IsRow (suc s.world.rows) other
  new_row node parent other same =
      record { row = s.world.rows; is = (its_child node parent other same).0; above = omega (arith, good.below); below = omega arith }

  pub spawn_step : Good starts main (served starts (wanted.Spawn target procedure arguments) s)
  spawn_step = record {
    sound = sound;
    numbered = numbered_more starts main before behind at (event_of spawn) good.sound one s.world.rows (suc s.world.rows) (omega arith) good.numbered new_row;
    below = omega arith;
    top = subst (λ i. Stands starts behind (suc at) child_entry (suc (length s.waiting)) i) (sym child_block) child_stands;
    waits = (
      parent_waits,
      wait_still starts main before behind at (event_of spawn) good.sound one s.running.row allowed s.running.row s.waiting (omega arith) good.waits,
    );
  }
