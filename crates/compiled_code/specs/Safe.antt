-- The rule on use before a sync, for a program without names.
use Rattle.std.specs.Prelude.{◌≡◌, ℕ, ◌==◌, Bool, true, false, ◌||◌, Option, Some, None, List, [], ◌∷◌, slice_get}
use Rattle.cilk_meaning.specs.Resolved as tree
use Rattle.cilk_meaning.specs.Resolved.{Expr, Stmt, Function, Program}

-- a set of locals: those that may still get the value of a child
abbrev pub Set : Type 0
Set = ℕ → Bool

abbrev pub none : Set
none local = false

abbrev pub both : Set → Set → Set
both one other = λ local. one local || other local

abbrev pub with_target : Option ℕ → Set → Set
with_target None set = set
with_target (Some target) set = λ local. set local || local == target

abbrev pub behind_sync : Bool → Set → Set
behind_sync true set = none
behind_sync false set = set

-- The set behind a statement. Behind a loop it is the one before together with what one turn leaves, which more turns do not change.
abbrev pub leaves : Stmt → Set → Set
leaves tree.Skip set = set
leaves (tree.Then first second) set = leaves second (leaves first set)
leaves (tree.Assign local value) set = set
leaves (tree.Put array index value) set = set
leaves (tree.Print value) set = set
leaves (tree.If condition met unmet) set = both (leaves met set) (leaves unmet set)
leaves (tree.While condition body) set = both set (leaves body set)
leaves (tree.Call target function arguments) set = set
leaves (tree.Spawn target procedure arguments) set = with_target target set
leaves (tree.Add target array index addend) set = set
leaves tree.Sync set = none
leaves (tree.Return value) set = none

-- the expression reads no local of the set
abbrev pub IsFree : Set → Expr → Type 0
IsFree set (tree.Number value) = Unit {0}
IsFree set (tree.Local local) = set local ≡ false
IsFree set (tree.Get array index) = IsFree set index
IsFree set (tree.Unary operator operand) = IsFree set operand
IsFree set (tree.Binary operator left right) = IsFree set left × IsFree set right

abbrev pub AreFree : Set → List Expr → Type 0
AreFree set [] = Unit {0}
AreFree set (first ∷ rest) = IsFree set first × AreFree set rest

abbrev pub IsTargetFree : Set → Option ℕ → Type 0
IsTargetFree set None = Unit {0}
IsTargetFree set (Some target) = set target ≡ false

-- In a `cilk` procedure or a plain function, no statement reads or sets a local of the set that stands before it.
abbrev pub IsSafe : Bool → Set → Stmt → Type 0
IsSafe «cilk» set tree.Skip = Unit {0}
IsSafe «cilk» set (tree.Then first second) = IsSafe «cilk» set first × IsSafe «cilk» (leaves first set) second
IsSafe «cilk» set (tree.Assign local value) = (set local ≡ false) × IsFree set value
IsSafe «cilk» set (tree.Put array index value) = IsFree set index × IsFree set value
IsSafe «cilk» set (tree.Print value) = IsFree set value
IsSafe «cilk» set (tree.If condition met unmet) = IsFree set condition × IsSafe «cilk» set met × IsSafe «cilk» set unmet
IsSafe «cilk» set (tree.While condition body) = IsFree (both set (leaves body set)) condition × IsSafe «cilk» (both set (leaves body set)) body
IsSafe «cilk» set (tree.Call target function arguments) = IsTargetFree set target × AreFree set arguments
IsSafe «cilk» set (tree.Spawn target procedure arguments) = IsTargetFree set target × AreFree set arguments
IsSafe «cilk» set (tree.Add target array index addend) = IsTargetFree set target × IsFree set index × IsFree set addend
IsSafe «cilk» set tree.Sync = Unit {0}
IsSafe «cilk» set (tree.Return value) = IsFree (behind_sync «cilk» set) value

-- Each function keeps the rule.
abbrev pub KeepsValues : Program → Type 0
KeepsValues program = (number : ℕ) (function : Function) → slice_get program.functions number ≡ Some function → IsSafe function.«cilk» none function.body
