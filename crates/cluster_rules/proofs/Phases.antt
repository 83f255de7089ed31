-- Where a node is with its add: it wants none, it has asked the home, or the home has done it and the node does not know yet.
use Rattle.std.proofs.Common.{◌≡◌, ℕ, ℤ, List, [], ◌∷◌, Bool, true, false, cond, eqb, ◌&&◌, refl, sym, subst}
use Rattle.page_messages.specs.declared.closure.FrameId.{FrameId}
use Rattle.page_messages.specs.declared.message.Msg.{Msg}
use Rattle.page_messages.specs.declared.message.Body.{Body}
use Rattle.page_messages.specs.declared.message.Body.TheVariants as body
use Rattle.page_messages.specs.declared.log.Item.{Item}
use Rattle.page_messages.specs.declared.log.Item.TheVariants as item
use Rattle.cluster_rules.specs.Turns.{Event, Did, Sent, Took, Ended, Past}
use Rattle.cluster_rules.specs.Sendings.{ForAdded, tells_in, awaits}
use Rattle.cluster_rules.specs.Home.{owed_adds}
use Rattle.cluster_rules.specs.Lives.{Life, same_frame}
use Rattle.cluster_rules.specs.Positions.{Course, own}
use Rattle.cluster_rules.proofs.Marks.{AddsFirst}

pub data Phase : Type 0 where
  Idle : Phase
  Asked : (frame : FrameId) (acts : ℕ) → Phase
  Told : (frame : FrameId) (acts : ℕ) (old : ℤ) → Phase

abbrev pub after_post : Body → Phase → Phase
after_post (body.Fetch page) phase = phase
after_post (body.Page page words) phase = phase
after_post (body.Reconcile parts) phase = phase
after_post body.Ack phase = phase
after_post body.Ask phase = phase
after_post (body.Grant closure) phase = phase
after_post body.Refuse phase = phase
after_post (body.Done join index value) phase = phase
after_post (body.Park join closure) phase = phase
after_post (body.Add frame index word addend) phase = Asked frame index
after_post (body.Added old) phase = phase

abbrev pub after_taking : Body → Phase → Phase
after_taking (body.Fetch page) phase = phase
after_taking (body.Page page words) phase = phase
after_taking (body.Reconcile parts) phase = phase
after_taking body.Ack phase = phase
after_taking body.Ask phase = phase
after_taking (body.Grant closure) phase = phase
after_taking body.Refuse phase = phase
after_taking (body.Done join index value) phase = phase
after_taking (body.Park join closure) phase = phase
after_taking (body.Add frame index word addend) phase = phase
after_taking (body.Added old) phase = Idle

abbrev pub after_adding : ℕ → FrameId → ℕ → ℤ → List Msg → Phase → Phase
after_adding number frame index old [] phase = phase
after_adding number frame index old (add ∷ later) phase = cond (eqb add.sender number) (Told frame index old) phase

abbrev pub after_item : ℕ → Item → List Msg → Phase → Phase
after_item number (item.Act frame index act) adds phase = phase
after_item number (item.Tick frame) adds phase = phase
after_item number (item.Drop page) adds phase = phase
after_item number (item.TakeUp frame) adds phase = phase
after_item number (item.OwnFetch page words) adds phase = phase
after_item number (item.OwnReconcile part) adds phase = phase
after_item number (item.Served frame index word old addend) adds phase = after_adding number frame index old adds phase

-- what an event of a node makes of the phase of one of this number
abbrev pub phase_on : ℕ → ℕ → Past → Event → Phase → Phase
phase_on number node past (Did item) phase = after_item number item (owed_adds past) phase
phase_on number node past (Sent message) phase = cond (eqb node number) (after_post message.body phase) phase
phase_on number node past (Took message) phase = cond (eqb node number) (after_taking message.body phase) phase
phase_on number node past (Ended end) phase = phase

abbrev pub phase_of : ℕ → Course → Phase
phase_of number [] = Idle
phase_of number (moved ∷ course) = phase_on number moved.node (own moved.node course) moved.event (phase_of number course)

-- ---- what a phase says

abbrev pub waits_in : Phase → Bool
waits_in Idle = false
waits_in (Asked frame acts) = true
waits_in (Told frame acts old) = true

abbrev pub is_asked : FrameId → ℕ → Phase → Bool
is_asked frame index Idle = false
is_asked frame index (Asked other acts) = same_frame other frame && eqb acts index
is_asked frame index (Told other acts old) = false

-- the add is done with such an old value, and the node does not know yet
abbrev pub is_told : (ℤ → Bool) → Phase → Bool
is_told such Idle = false
is_told such (Asked frame acts) = false
is_told such (Told frame acts old) = such old

-- the add of this frame is done, and its node does not know yet
abbrev pub is_told_of : FrameId → Phase → Bool
is_told_of frame Idle = false
is_told_of frame (Asked other acts) = false
is_told_of frame (Told other acts old) = same_frame other frame

-- while it waits, the frame that wants the add is the first of the stack
abbrev pub IsFirst : Phase → List Life → Type 0
IsFirst Idle stack = Unit {0}
IsFirst (Asked frame acts) stack = AddsFirst frame acts stack
IsFirst (Told frame acts old) stack = AddsFirst frame acts stack

pub idle_is : (phase : Phase) → waits_in phase ≡ false → phase ≡ Idle
idle_is Idle none = refl
idle_is (Asked frame acts) none = absurd (cc)
idle_is (Told frame acts old) none = absurd (cc)

pub first_idle : (phase : Phase) (stack : List Life) → phase ≡ Idle → IsFirst phase stack
first_idle phase stack idle = subst (λ it. IsFirst it stack) (sym idle) tt

-- ---- what a node waits for

pub awaits_told : (message : Msg) (past : Past) → tells_in message.body ≡ true → awaits ForAdded (Took message ∷ past) ≡ false
awaits_told message past tells = rw tells refl

pub awaits_took : (message : Msg) (past : Past) → tells_in message.body ≡ false → awaits ForAdded (Took message ∷ past) ≡ awaits ForAdded past
awaits_took message past other = rw other refl
