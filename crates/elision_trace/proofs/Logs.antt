-- The trace of a log with one event more is that of the log, with one event more.
use Rattle.std.proofs.Common.{◌≡◌, ◌≢◌, ℕ, suc, ◌≤◌, inl, inr, ℤ, true, false, List, [], ◌∷◌, length, refl, sym, ◌∙◌, ap, subst, arith}
use Rattle.std.proofs.lemmas.Bool.{eqb-true, eqb-false}
use Rattle.std.specs.Prelude.{◌==◌}
use Rattle.backer_order.specs.Log as log
use Rattle.backer_order.specs.Log.{main_id, Nothing}
use Rattle.cilk_meaning.specs.World as world
use Rattle.cilk_meaning.specs.World.{Event, Acts, Ticks}
use Rattle.cluster_rules.specs.Lives.{same_frame}
use Rattle.determinacy.proofs.Rows.{either_bool, when_true, when_false, same_is, same_self}
use Rattle.determinacy.specs.Replies.{Instance, Trace, want_at, SpawnedBefore}
use Rattle.elision_trace.proofs.Sound.{OneMore}
use Rattle.elision_trace.specs.Tracing.{frame_at, event_of, events_in, instance_after, instance_in, target_in_want, target_after, trace_in}
use Rattle.page_messages.specs.declared.closure.FrameId.{FrameId}
use Rattle.span_tree.specs.Program.{Starts}

eqb_self : (number : ℕ) → (number == number) ≡ true
eqb_self number = elim (either_bool (number == number)) [ inl is ↦ is | inr not_is ↦ absurd (eqb-false number number not_is refl) ]

eqb_other : (first second : ℕ) → first ≢ second → (first == second) ≡ false
eqb_other first second other = elim (either_bool (first == second)) [ inl is ↦ absurd (other (eqb-true first second is)) | inr not_is ↦ not_is ]

-- ---- events

pub event_here : (event : Event) (log : List Event) → events_in (event ∷ log) (length log) ≡ event_of event
event_here event log = when_true (length log == length log) (event_of event) (events_in log (length log)) (eqb_self (length log))

pub event_there : (event : Event) (log : List Event) (at : ℕ) → at ≢ length log → events_in (event ∷ log) at ≡ events_in log at
event_there event log at other = when_false (at == length log) (event_of event) (events_in log at) (eqb_other at (length log) other)

pub nothing_from : (log : List Event) (at : ℕ) → length log ≤ at → events_in log at ≡ Nothing
nothing_from [] at after = refl
nothing_from (event ∷ log) at after =
    event_there event log at (λ same. absurd (omega (arith, after))) ∙ nothing_from log at (omega (arith, after))

-- ---- what frames run

-- no frame but this one is changed by an event
record Keeps (event : Event) (frame : FrameId) : Type 0 where
  other : (row child procedure : ℕ) (arguments : List ℤ) → event ≡ Acts row (world.Spawn child procedure arguments) → frame ≢ frame_at child

not_same : (frame other : FrameId) → frame ≢ other → same_frame frame other ≡ false
not_same frame other differ = elim (either_bool (same_frame frame other)) [ inl is ↦ absurd (differ (same_is frame other is)) | inr not_is ↦ not_is ]

instance_kept : (event : Event) (runs : FrameId → Instance) (frame : FrameId) → Keeps event frame → instance_after event runs frame ≡ runs frame
instance_kept (Acts row (world.Spawn child procedure arguments)) runs frame keeps =
    when_false (same_frame frame (frame_at child)) (record { depth = suc (runs (frame_at row)).depth; procedure = procedure; arguments = arguments })
    (runs frame)
    (not_same frame (frame_at child) (keeps.other row child procedure arguments refl))
instance_kept (Acts row (world.Read word value)) runs frame keeps = refl
instance_kept (Acts row (world.Write word value)) runs frame keeps = refl
instance_kept (Acts row (world.Add word old addend)) runs frame keeps = refl
instance_kept (Acts row (world.Print value)) runs frame keeps = refl
instance_kept (Acts row world.Sync) runs frame keeps = refl
instance_kept (Ticks row) runs frame keeps = refl

target_kept : (starts : Starts) (trace : Trace) (at : ℕ) (event : Event) (frame : FrameId) → Keeps event frame →
    target_after starts trace at event frame ≡ trace.target frame
target_kept starts trace at (Acts row (world.Spawn child procedure arguments)) frame keeps =
    when_false (same_frame frame (frame_at child)) (target_in_want (want_at starts trace at (frame_at row))) (trace.target frame)
    (not_same frame (frame_at child) (keeps.other row child procedure arguments refl))
target_kept starts trace at (Acts row (world.Read word value)) frame keeps = refl
target_kept starts trace at (Acts row (world.Write word value)) frame keeps = refl
target_kept starts trace at (Acts row (world.Add word old addend)) frame keeps = refl
target_kept starts trace at (Acts row (world.Print value)) frame keeps = refl
target_kept starts trace at (Acts row world.Sync) frame keeps = refl
target_kept starts trace at (Ticks row) frame keeps = refl

-- the child of a spawn
pub child_instance : (runs : FrameId → Instance) (row child procedure : ℕ) (arguments : List ℤ) →
    instance_after (Acts row (world.Spawn child procedure arguments)) runs (frame_at child)
    ≡ record { depth = suc (runs (frame_at row)).depth; procedure = procedure; arguments = arguments }
child_instance runs row child procedure arguments =
    when_true (same_frame (frame_at child) (frame_at child)) (record { depth = suc (runs (frame_at row)).depth; procedure = procedure; arguments = arguments })
    (runs (frame_at child))
    (same_self (frame_at child))

pub child_target : (starts : Starts) (trace : Trace) (at row child procedure : ℕ) (arguments : List ℤ) →
    target_after starts trace at (Acts row (world.Spawn child procedure arguments)) (frame_at child) ≡ target_in_want (want_at starts trace at (frame_at row))
child_target starts trace at row child procedure arguments =
    when_true (same_frame (frame_at child) (frame_at child)) (target_in_want (want_at starts trace at (frame_at row))) (trace.target (frame_at child))
    (same_self (frame_at child))

-- ---- one event more

spawn_is : (row child procedure : ℕ) (arguments : List ℤ) (event : Event) → event ≡ Acts row (world.Spawn child procedure arguments) →
    event_of event ≡ log.Acts 0 (frame_at row) (log.Spawn (frame_at child))
spawn_is row child procedure arguments event is = ap event_of is

module _ (starts : Starts) (main : ℕ) (events : List Event) (event : Event)
    (new : (node : ℕ) (parent child : FrameId) → event_of event ≡ log.Acts node parent (log.Spawn child) →
    (child ≢ main_id) × (SpawnedBefore (events_in events) (length events) child → ⊥)) where
  keeps_spawned : (frame : FrameId) → SpawnedBefore (events_in events) (length events) frame → Keeps event frame
  keeps_spawned frame spawned = record {
    other = λ row child procedure arguments is same.
        (new 0 (frame_at row) (frame_at child) (spawn_is row child procedure arguments event is)).1
        (subst (λ i. SpawnedBefore (events_in events) (length events) i) same spawned);
  }

  keeps_main : Keeps event main_id
  keeps_main = record {
    other = λ row child procedure arguments is same. (new 0 (frame_at row) (frame_at child) (spawn_is row child procedure arguments event is)).0 (sym same);
  }

  pub one_more : OneMore (trace_in starts main events) (trace_in starts main (event ∷ events)) (length events) (event_of event)
  one_more = record {
    extends = record {
      events = λ at before. event_there event events at (λ same. absurd (omega (arith, before, same)));
      instance = λ child spawned. instance_kept event (instance_in main events) child (keeps_spawned child spawned);
      target = λ child spawned. target_kept starts (trace_in starts main events) (length events) event child (keeps_spawned child spawned);
    };
    here = event_here event events;
    past = λ at after. nothing_from (event ∷ events) at after;
    main_is = instance_kept event (instance_in main events) main_id keeps_main;
  }
