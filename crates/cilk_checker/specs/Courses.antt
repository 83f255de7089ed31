-- What a path does to the pending locals.
use Rattle.std.specs.Prelude.{ℕ, List, [], ◌∷◌, ◌++◌, Some, if◌then◌else◌}
use Rattle.std.specs.List.{list_any}
use Rattle.cilk_tree.specs.Lawful.Flow.{Flow}
use Rattle.cilk_tree.specs.Lawful.Pending.{Pending, none, both, with_local}
use Rattle.cilk_checker.specs.Computed.{ends, uses_pending}
use Rattle.cilk_checker.specs.declared.path.Effect.{Effect}
use Rattle.cilk_checker.specs.declared.path.Effect.TheVariants.{Keeps, Adds, Empties}
use Rattle.cilk_checker.specs.declared.path.Path.{Path, fold-Path}
use Rattle.cilk_checker.specs.declared.path.Path.TheOpen as layer
use Rattle.cilk_checker.specs.declared.path.Path.TheOpen.{Path-F}
use Rattle.cilk_checker.specs.declared.path.Step.{Step}
use Rattle.cilk_checker.specs.Sets.{set_of}

-- the set at the end, from the set before, and the numbers of the statements that use a pending local
pub record Course : Type 0 where
  pub ends : Pending → Pending
  pub uses : Pending → List ℕ

-- that of a flow
abbrev pub flow_course : Flow → Course
flow_course flow = record { ends = ends flow; uses = uses_pending flow }

abbrev pub nothing : Course
nothing = record { ends = λ before. before; uses = λ before. [] }

-- one after the other
abbrev pub followed : Course → Course → Course
followed first second = record { ends = λ before. second.ends (first.ends before); uses = λ before. first.uses before ++ second.uses (first.ends before) }

-- one of the two
abbrev pub either : Course → Course → Course
either met unmet = record { ends = λ before. both (met.ends before) (unmet.ends before); uses = λ before. met.uses before ++ unmet.uses before }

-- any number of turns, where a turn adds these locals
abbrev pub loop : Pending → Course → Course
loop added turn = record { ends = λ before. both before added; uses = λ before. turn.uses (both before added) }

-- one after another
abbrev pub in_row : List Course → Course
in_row [] = nothing
in_row (first ∷ rest) = followed first (in_row rest)

abbrev pub after_effect : Effect → Pending → Pending
after_effect Keeps set = set
after_effect (Adds number) set = with_local (Some number) set
after_effect Empties set = none

abbrev pub step_course : Step → Course
step_course step = record { ends = after_effect step.effect; uses = λ before. if list_any before step.touched then step.statement ∷ [] else [] }

-- one step of `path_course`
abbrev pub path_course_here : Path-F Course → Course
path_course_here (layer.Alone step) = step_course step
path_course_here (layer.Block step inside) = followed (step_course step) (in_row inside)
path_course_here (layer.Either step met unmet) = followed (step_course step) (either (in_row met) (in_row unmet))
path_course_here (layer.Loop step body added) = loop (set_of added) (followed (step_course step) (in_row body))

abbrev pub path_course : Path → Course
path_course = fold-Path Course path_course_here
