-- The service makes a sound trace: an induction along it.
use Rattle.std.proofs.Common.{◌≡◌, ℕ, suc, ◌<◌, ℤ, true, Some, List, [], ◌∷◌, length, refl, sym, ◌∙◌, ap, subst, arith}
use Rattle.backer_order.specs.Edges.{IsOn}
use Rattle.backer_order.specs.Log as log
use Rattle.backer_order.specs.Log.{main_id, Spawn, Sync, Nothing}
use Rattle.cilk_meaning.specs.Serve as serve
use Rattle.cilk_meaning.specs.Serve.{Entry, Parent, State, answered, with_child, served, first_state}
use Rattle.cilk_meaning.specs.Wants as wanted
use Rattle.cilk_meaning.specs.Wants.{Request, Want, Asks, Returns, Deposit, Answer}
use Rattle.cilk_meaning.specs.World as world
use Rattle.cilk_meaning.specs.World.{World, End}
use Rattle.determinacy.proofs.Rows.{same_self}
use Rattle.determinacy.specs.Replies.{Trace, answer_of, by, children_after, children, deposits, reply_to, want_at, Answers}
use Rattle.elision_trace.proofs.Extending.{gives}
use Rattle.elision_trace.proofs.Logs.{one_more}
use Rattle.elision_trace.proofs.Sound.{Sound, OneMore, Allowed, sound_more}
use Rattle.elision_trace.proofs.Standing.{Stands, block_moved, stands_acted, stands_synced}
use Rattle.elision_trace.proofs.Waiting.{AllWait, Numbered, wait_still, numbered_more}
use Rattle.elision_trace.specs.Tracing.{frame_at, event_of, events_in, trace_in}
use Rattle.page_messages.specs.declared.closure.FrameId.{FrameId}
use Rattle.span_tree.specs.Program.{Starts}

-- ---- items of a row

pub by_act : (row : ℕ) (act : world.Act) → by (frame_at row) (event_of (world.Acts row act)) ≡ true
unfolding by
by_act row act = same_self (frame_at row)

pub by_tick : (row : ℕ) → by (frame_at row) (event_of (world.Ticks row)) ≡ true
unfolding by
by_tick row = same_self (frame_at row)

-- an event that neither spawns nor syncs, and what its row is told
pub record Plain (event : world.Event) (answer : Answer) : Type 0 where
  no_spawn : (node : ℕ) (parent child : FrameId) → event_of event ≡ log.Acts node parent (Spawn child) → ⊥
  no_sync : (node : ℕ) (parent : FrameId) → event_of event ≡ log.Acts node parent Sync → ⊥
  block : (frames : List FrameId) → children_after (event_of event) frames ≡ frames
  told : (gave : List Deposit) → answer_of (reply_to (event_of event) gave) ≡ answer

pub plain_read : (row word : ℕ) (value : ℤ) → Plain (world.Acts row (world.Read word value)) (wanted.Value value)
unfolding children_after reply_to
plain_read row word value =
    record { no_spawn = λ node parent child is. absurd cc; no_sync = λ node parent is. absurd cc; block = λ frames. refl; told = λ gave. refl }

pub plain_write : (row word : ℕ) (value : ℤ) → Plain (world.Acts row (world.Write word value)) wanted.Done
unfolding children_after reply_to
plain_write row word value =
    record { no_spawn = λ node parent child is. absurd cc; no_sync = λ node parent is. absurd cc; block = λ frames. refl; told = λ gave. refl }

pub plain_add : (row word : ℕ) (old addend : ℤ) → Plain (world.Acts row (world.Add word old addend)) (wanted.Value old)
unfolding children_after reply_to
plain_add row word old addend =
    record { no_spawn = λ node parent child is. absurd cc; no_sync = λ node parent is. absurd cc; block = λ frames. refl; told = λ gave. refl }

pub plain_print : (row : ℕ) (value : ℤ) → Plain (world.Acts row (world.Print value)) wanted.Done
unfolding children_after reply_to
plain_print row value =
    record { no_spawn = λ node parent child is. absurd cc; no_sync = λ node parent is. absurd cc; block = λ frames. refl; told = λ gave. refl }

pub plain_tick : (row : ℕ) → Plain (world.Ticks row) wanted.Done
unfolding children_after reply_to
plain_tick row = record { no_spawn = λ node parent child is. absurd cc; no_sync = λ node parent is. absurd cc; block = λ frames. refl; told = λ gave. refl }

sync_block : (row : ℕ) (frames : List FrameId) → children_after (event_of (world.Acts row world.Sync)) frames ≡ []
unfolding children_after
sync_block row frames = refl

sync_told : (row : ℕ) (gave : List Deposit) → answer_of (reply_to (event_of (world.Acts row world.Sync)) gave) ≡ wanted.Children gave
unfolding reply_to
sync_told row gave = refl

pub spawn_block : (row child procedure : ℕ) (arguments : List ℤ) (frames : List FrameId) →
    children_after (event_of (world.Acts row (world.Spawn child procedure arguments))) frames ≡ frame_at child ∷ frames
unfolding children_after
spawn_block row child procedure arguments frames = refl

pub spawn_told : (row child procedure : ℕ) (arguments : List ℤ) (gave : List Deposit) →
    answer_of (reply_to (event_of (world.Acts row (world.Spawn child procedure arguments))) gave) ≡ wanted.Done
unfolding reply_to
spawn_told row child procedure arguments gave = refl

pub spawns_child : (row child procedure : ℕ) (arguments : List ℤ) (node : ℕ) (parent other : FrameId) →
    event_of (world.Acts row (world.Spawn child procedure arguments)) ≡ log.Acts node parent (Spawn other) → (other ≡ frame_at child) × (parent ≡ frame_at row)
spawns_child row child procedure arguments node parent other is = (cc, cc)

pub no_sync_spawn : (row child procedure : ℕ) (arguments : List ℤ) (node : ℕ) (parent : FrameId) →
    event_of (world.Acts row (world.Spawn child procedure arguments)) ≡ log.Acts node parent Sync → ⊥
no_sync_spawn row child procedure arguments node parent is = cc

no_spawn_sync : (row node : ℕ) (parent child : FrameId) → event_of (world.Acts row world.Sync) ≡ log.Acts node parent (Spawn child) → ⊥
no_spawn_sync row node parent child is = cc

syncs_row : (row node : ℕ) (parent : FrameId) → event_of (world.Acts row world.Sync) ≡ log.Acts node parent Sync → parent ≡ frame_at row
syncs_row row node parent is = cc

-- ---- the invariant

module _ (starts : Starts) (main : ℕ) where
  abbrev pub so_far : List world.Event → Trace
  so_far events = trace_in starts main events

  pub record Good (s : State) : Type 0 where
    pub sound : Sound starts main (so_far s.world.log) (length s.world.log)
    pub numbered : Numbered (so_far s.world.log) (length s.world.log) s.world.rows
    pub below : s.running.row < s.world.rows
    pub top : Stands starts (so_far s.world.log) (length s.world.log) s.running (length s.waiting)
        (children (events_in s.world.log) (length s.world.log) (frame_at s.running.row))
    pub waits : AllWait starts (so_far s.world.log) (length s.world.log) s.running.row s.waiting

  -- what the running row wants
  pub its_want : (s : State) → Good s → (request : Request) → serve.now s.running.goes ≡ Some (Asks request) →
      want_at starts (so_far s.world.log) (length s.world.log) (frame_at s.running.row) ≡ Some (Asks request)
  its_want s good request is = ap (λ i. serve.now i) (sym good.top.goes) ∙ is

  -- the state behind an event of the running row, which goes on with this answer
  abbrev pub with_answer : State → world.Event → Answer → List Deposit → (ℕ → ℤ) → State
  with_answer s event answer kept memory = record {
    running = answered answer kept s.running;
    waiting = s.waiting;
    world = record { memory = memory; rows = s.world.rows; log = event ∷ s.world.log };
  }

  module _ (s : State) (good : Good s) (event : world.Event) (answer : Answer) (plain : Plain event answer)
      (acts : by (frame_at s.running.row) (event_of event) ≡ true)
      (answers : Answers (so_far (event ∷ s.world.log)) (event_of event)
      (want_at starts (so_far s.world.log) (length s.world.log) (frame_at s.running.row))) where
    plain_one : OneMore (so_far s.world.log) (so_far (event ∷ s.world.log)) (length s.world.log) (event_of event)
    plain_one = one_more starts main s.world.log event (λ node parent child is. absurd (plain.no_spawn node parent child is))

    plain_allowed : Allowed starts (so_far s.world.log) (so_far (event ∷ s.world.log)) (length s.world.log) (event_of event) (frame_at s.running.row)
    plain_allowed = record {
      is = acts;
      born = good.top.born;
      answers = answers;
      joined = λ node parent child is on. absurd (plain.no_sync node parent is);
      deeper = λ node parent child is. absurd (plain.no_spawn node parent child is);
      fresh = λ node parent child is spawned. plain.no_spawn node parent child is;
      not_main = λ node parent child is same. plain.no_spawn node parent child is;
    }

    plain_block : children (events_in (event ∷ s.world.log)) (suc (length s.world.log)) (frame_at s.running.row)
        ≡ children (events_in s.world.log) (length s.world.log) (frame_at s.running.row)
    plain_block =
        block_moved starts main (so_far s.world.log) (so_far (event ∷ s.world.log)) (length s.world.log) (event_of event) good.sound plain_one
        (frame_at s.running.row) plain_allowed
        ∙ plain.block (children (events_in s.world.log) (length s.world.log) (frame_at s.running.row))

    pub plain_step : (memory : ℕ → ℤ) → Good (with_answer s event answer s.running.kept memory)
    plain_step memory = record {
      sound =
          sound_more starts main (so_far s.world.log) (so_far (event ∷ s.world.log)) (length s.world.log) (event_of event) good.sound plain_one
          (frame_at s.running.row) plain_allowed;
      numbered = numbered_more starts main (so_far s.world.log) (so_far (event ∷ s.world.log)) (length s.world.log) (event_of event) good.sound plain_one
          s.world.rows s.world.rows (omega arith) good.numbered (λ node parent child is. absurd (plain.no_spawn node parent child is));
      below = good.below;
      top =
          subst (λ i. Stands starts (so_far (event ∷ s.world.log)) (suc (length s.world.log)) (answered answer s.running.kept s.running) (length s.waiting) i)
          (sym plain_block)
          (stands_acted starts main (so_far s.world.log) (so_far (event ∷ s.world.log)) (length s.world.log) (event_of event) good.sound plain_one s.running
          (length s.waiting)
          plain_allowed answer (plain.told _) (children (events_in s.world.log) (length s.world.log) (frame_at s.running.row)) good.top);
      waits =
          wait_still starts main (so_far s.world.log) (so_far (event ∷ s.world.log)) (length s.world.log)
          (event_of event) good.sound plain_one s.running.row plain_allowed
          s.running.row s.waiting (omega arith) good.waits;
    }

  -- ---- a sync

  module _ (s : State) (good : Good s) (is : serve.now s.running.goes ≡ Some (Asks wanted.Sync)) where
    abbrev sync : world.Event
    sync = world.Acts s.running.row world.Sync

    sync_one : OneMore (so_far s.world.log) (so_far (sync ∷ s.world.log)) (length s.world.log) (event_of sync)
    sync_one = one_more starts main s.world.log sync (λ node parent child same. absurd (no_spawn_sync s.running.row node parent child same))

    sync_allowed : Allowed starts (so_far s.world.log) (so_far (sync ∷ s.world.log)) (length s.world.log) (event_of sync) (frame_at s.running.row)
    sync_allowed = record {
      is = by_act s.running.row world.Sync;
      born = good.top.born;
      answers = its_want s good wanted.Sync is;
      joined = λ node parent child same on. good.top.returned child
          (subst (λ i. IsOn child (children (events_in s.world.log) (length s.world.log) i)) (syncs_row s.running.row node parent same) on);
      deeper = λ node parent child same. absurd (no_spawn_sync s.running.row node parent child same);
      fresh = λ node parent child same spawned. no_spawn_sync s.running.row node parent child same;
      not_main = λ node parent child same other. no_spawn_sync s.running.row node parent child same;
    }

    pub sync_step : Good (with_answer s sync (wanted.Children s.running.kept) [] s.world.memory)
    sync_step = record {
      sound =
          sound_more starts main (so_far s.world.log) (so_far (sync ∷ s.world.log)) (length s.world.log) (event_of sync) good.sound sync_one
          (frame_at s.running.row) sync_allowed;
      numbered = numbered_more starts main (so_far s.world.log) (so_far (sync ∷ s.world.log)) (length s.world.log) (event_of sync) good.sound sync_one
          s.world.rows s.world.rows (omega arith) good.numbered (λ node parent child same. absurd (no_spawn_sync s.running.row node parent child same));
      below = good.below;
      top =
          subst (λ i. Stands starts (so_far (sync ∷ s.world.log)) (suc (length s.world.log)) (answered (wanted.Children s.running.kept) [] s.running)
          (length s.waiting) i)
          (sym (block_moved starts main (so_far s.world.log) (so_far (sync ∷ s.world.log)) (length s.world.log) (event_of sync) good.sound sync_one
          (frame_at s.running.row) sync_allowed
          ∙ sync_block s.running.row (children (events_in s.world.log) (length s.world.log) (frame_at s.running.row))))
          (stands_synced starts main (so_far s.world.log) (so_far (sync ∷ s.world.log)) (length s.world.log) (event_of sync) good.sound sync_one s.running
          (length s.waiting)
          sync_allowed (wanted.Children s.running.kept)
          (sync_told s.running.row (deposits (gives starts (so_far s.world.log) (length s.world.log))
          (children (events_in s.world.log) (length s.world.log) (frame_at s.running.row)))
          ∙ ap (λ i. wanted.Children i) (sym good.top.kept))
          (children (events_in s.world.log) (length s.world.log) (frame_at s.running.row)) good.top);
      waits =
          wait_still starts main (so_far s.world.log) (so_far (sync ∷ s.world.log)) (length s.world.log)
          (event_of sync) good.sound sync_one s.running.row sync_allowed
          s.running.row s.waiting (omega arith) good.waits;
    }
