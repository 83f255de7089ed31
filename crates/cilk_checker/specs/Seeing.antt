-- What the names of a statement stand for, taken together.
use Rattle.std.specs.Prelude.{◌≡◌, ℕ, false, not, ◌||◌, List, [], ◌∷◌, ◌++◌}
use Rattle.std.specs.List.{fold, filter_map}
use Rattle.cilk_tree.specs.Lawful.Flow.{Head}
use Rattle.cilk_tree.specs.Lawful.Pending.{needed_local}
use Rattle.cilk_tree.specs.Lawful.Rules.{Need, NeedsVariable, NeedsArray, NeedsFunction, Use, is_wrong, head_uses, uses_unknown, uses_wrong}
use Rattle.cilk_tree.specs.Lawful.Scope.{Meaning, Unknown, Variable, Array, Procedure, meaning, is_known}
use Rattle.cilk_checker.specs.declared.uses.InScope.{InScope}
use Rattle.cilk_checker.specs.declared.uses.Uses.{Uses}

-- what a name stands for
abbrev pub meaning_in : InScope → List ℕ → Meaning
meaning_in names name = meaning names.globals.now.program.now names.locals.now.scope name

-- no name is used
abbrev pub no_uses : Uses
no_uses = record { unknown = false; wrong = false; touched = [] }

-- the numbers, with one more where a variable is needed and meant
abbrev pub with_number : Need → Meaning → List ℕ → List ℕ
with_number NeedsVariable (Variable number) touched = touched ++ number ∷ []
with_number NeedsVariable Unknown touched = touched
with_number NeedsVariable Array touched = touched
with_number NeedsVariable (Procedure function) touched = touched
with_number NeedsArray found touched = touched
with_number NeedsFunction found touched = touched

-- one name more
abbrev pub with_use : Need → Meaning → Uses → Uses
with_use need found uses = record {
  unknown = not (is_known found) || uses.unknown;
  wrong = is_wrong need found || uses.wrong;
  touched = with_number need found uses.touched;
}

-- these names more, one after another
abbrev pub with_uses : (List ℕ → Meaning) → Uses → List Use → Uses
with_uses means = fold (λ uses used. with_use used.need (means used.name) uses)

-- This is what the names of the statement at a point stand for, taken together.
pub record IsSumOf (uses : Uses) (names : InScope) (statement : Head) : Type 0 where
  pub unknown : uses.unknown ≡ uses_unknown names.globals.now.program.now names.locals.now statement
  pub wrong : uses.wrong ≡ uses_wrong names.globals.now.program.now names.locals.now statement
  pub touched : uses.touched ≡ filter_map (λ used. needed_local names.locals.now.scope used.need used.name) (head_uses statement)
