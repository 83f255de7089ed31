-- How frames stand on the stacks of every run, and what holds at its edges.
use Rattle.std.proofs.Common.{◌≡◌, ℕ, zero, suc, List, [], false, eqb, refl, ◌∙◌, ap, arith}
use Rattle.std.proofs.lemmas.Bool.Decides.{nat_tests}
use Rattle.cluster_rules.specs.Turns.{WholeTurn}
use Rattle.cluster_rules.specs.Frames.{stack_of, frames_of}
use Rattle.cluster_rules.specs.Positions.{Course, course_of}
use Rattle.cluster_rules.specs.Runs.{Cluster, IsLawful, node_at}
use Rattle.backer_order.specs.Log as log
use Rattle.backer_order.specs.Edges.{Frames, first_stacks}
use Rattle.cluster_order.specs.Reading.{memory_of}
use Rattle.cluster_order.specs.Standing.{stack_in, stacks_of, returns_of}
use Rattle.cluster_order.proofs.Accesses.{ev}
use Rattle.cluster_order.proofs.Fronts.{first_none}
use Rattle.cluster_order.proofs.Shedding.{names}
use Rattle.cluster_order.proofs.StackRules.{stack_rule}
use Rattle.cluster_order.proofs.Naming.{fresh, not_main}
use Rattle.cluster_order.proofs.Leaving.{leave}
use Rattle.cluster_order.proofs.Clearing.{clean}

-- the stack that a node begins with
started : (cluster : Cluster) (number : ℕ) → names (stack_of (node_at cluster number) []) ≡ first_stacks number
unfolding frames_of
started cluster zero = refl
started cluster (suc number) = let not : eqb (suc number) 0 ≡ false = grind (arith, nat_tests) in rw not refl

module _ (cluster : Cluster) (turns : List WholeTurn) (lawful : IsLawful cluster turns) where
  abbrev events : ℕ → log.Event
  events = ev cluster turns lawful

  abbrev course : Course
  course = course_of turns

  start : (number : ℕ) → stacks_of cluster course 0 number ≡ first_stacks number
  start number = ap (stack_in cluster number) (first_none course) ∙ started cluster number

  -- Every run keeps the rules for frames on stacks.
  pub keeps_frames : Frames events (memory_of cluster) (returns_of cluster course) (stacks_of cluster course)
  keeps_frames = record {
    start = start;
    stacks = stack_rule cluster turns lawful;
    fresh = fresh cluster turns lawful;
    not_main = not_main cluster turns lawful;
    leave = leave cluster turns lawful;
    clean = clean cluster turns lawful;
  }
