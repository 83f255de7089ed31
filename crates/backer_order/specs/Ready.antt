-- Where a frame is between the message that brings it (a Grant or a Park) and its take-up.
use Rattle.std.specs.Prelude.{◌⊎◌, ◌≡◌, ◌≢◌, ℕ, suc, ◌<◌}
use Rattle.page_messages.specs.declared.closure.FrameId.{FrameId}
use Rattle.backer_order.specs.Log.{Grant, Park, Post, TakeUp, Events}
use Rattle.backer_order.specs.Edges.{Stacks, Away, HasDone}

-- The frame is on its way, waits at its join, is ready, or was taken up.
pub data Stage : Type 0 where
  Flying : Stage
  Parked : Stage
  Ready : Stage
  Up : Stage

-- the stage, at each position, of the frame that was sent at the other one
abbrev pub Stages : Type 0
Stages = ℕ → ℕ → Stage

-- the frame is sent to the node by a Grant or a Park
abbrev pub SendsFrame : Events → ℕ → ℕ → FrameId → Type 0
SendsFrame events post node frame =
    (sender : ℕ) × ((events post ≡ Post sender node (Grant frame)) ⊎ (events post ≡ Post sender node (Park frame)))

-- What is taken up was sent to the node, was ready, and is up from now on.
pub record Rises (events : Events) (stage : Stages) (now node : ℕ) (frame : FrameId) : Type 0 where
  pub post : ℕ
  pub before : post < now
  pub sends : SendsFrame events post node frame
  pub ready : stage now post ≡ Ready
  pub up : stage (suc now) post ≡ Up

-- The rules for the ready list. A frame is taken up from it, once for each time it was sent. A parked frame is not ready at once, and
-- becomes ready only where each child that was separated from it in its block has returned to its join.
pub record ReadyRules (events : Events) (stack : Stacks) (stage : Stages) : Type 0 where
  pub up : (now node : ℕ) (frame : FrameId) → events now ≡ TakeUp node frame → Rises events stage now node frame
  pub stays_up : (now post : ℕ) → stage now post ≡ Up → stage (suc now) post ≡ Up
  pub not_at_once : (post node sender : ℕ) (frame : FrameId) → events post ≡ Post sender node (Park frame) → stage (suc post) post ≢ Ready
  pub complete : (now post node sender : ℕ) (frame child : FrameId) → events post ≡ Post sender node (Park frame) → stage now post ≢ Ready →
      stage (suc now) post ≡ Ready → Away events stack (suc now) frame child → HasDone events (suc now) frame child
