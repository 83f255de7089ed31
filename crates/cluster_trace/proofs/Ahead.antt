-- The old value that a home has told for a node which does not know it yet: there the execution is one answer ahead of the node.
use Rattle.std.proofs.Common.{◌≡◌, ◌<◌, ℕ, ℤ, List, Option, Some, None, ap}
use Rattle.page_messages.specs.declared.closure.FrameId.{FrameId}
use Rattle.cluster_rules.specs.Lives.{Life, added}
use Rattle.cluster_rules.specs.Sendings.{IsQuiet}
use Rattle.cluster_rules.specs.Frames.{stack_of}
use Rattle.cluster_rules.specs.Positions.{Course, own}
use Rattle.cluster_rules.specs.Runs.{Cluster, node_at}
use Rattle.cluster_rules.proofs.Stepping.{Stepped}
use Rattle.cluster_rules.proofs.Marks.{AddsFirst}
use Rattle.cluster_rules.proofs.Phases.{Phase, Idle, Asked, Told, phase_of, IsFirst}
use Rattle.cluster_rules.proofs.Phasing.{quiet_idle}
use Rattle.cluster_rules.proofs.Asking.{phased}

-- the old value of an add that is done, which the node does not know yet
abbrev pub old_in : Phase → Option ℤ
old_in Idle = None
old_in (Asked frame acts) = None
old_in (Told frame acts old) = Some old

abbrev pub ahead : ℕ → Course → Option ℤ
ahead number course = old_in (phase_of number course)

-- the stack as it is with that answer
abbrev pub lead : Option ℤ → List Life → List Life
lead None stack = stack
lead (Some old) stack = added old stack

pub lead_none : (led : Option ℤ) (stack : List Life) → led ≡ None → lead led stack ≡ stack
lead_none led stack none = ap (λ it. lead it stack) none

module _ (cluster : Cluster) (course : Course) (stepped : Stepped cluster course) (number : ℕ) where
  -- A node that waits for nothing is as the execution.
  pub quiet_none : number < cluster.config.nodes → IsQuiet (own number course) → ahead number course ≡ None
  quiet_none less quiet = ap old_in (quiet_idle cluster course number None less (phased cluster course stepped) quiet)

  first_at : (old : ℤ) (phase : Phase) (stack : List Life) → old_in phase ≡ Some old → IsFirst phase stack
      → (frame : FrameId) × (acts : ℕ) × AddsFirst frame acts stack
  first_at old Idle stack is first = absurd (cc)
  first_at old (Asked frame acts) stack is first = absurd (cc)
  first_at old (Told frame acts other) stack is first = (frame, acts, first)

  -- Where the execution is ahead, the first frame of the node wants an add.
  pub ahead_first : (old : ℤ) → ahead number course ≡ Some old
      → (frame : FrameId) × (acts : ℕ) × AddsFirst frame acts (stack_of (node_at cluster number) (own number course))
  ahead_first old is =
      first_at old (phase_of number course) (stack_of (node_at cluster number) (own number course)) is ((phased cluster course stepped).first number)
