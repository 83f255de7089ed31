-- Programs whose plain functions are plain: they neither spawn nor sync, and call plain functions alone.
use Rattle.std.specs.Prelude.{◌≡◌, ℕ, false, Some, slice_get}
use Rattle.cilk_meaning.specs.Resolved.{Stmt, Skip, Then, Assign, Put, Print, If, While, Call, Spawn, Add, Sync, Return, Function, Program}

abbrev pub CallsPlain : Program → ℕ → Type 0
CallsPlain program number = (function : Function) → slice_get program.functions number ≡ Some function → function.«cilk» ≡ false

-- the statement neither spawns nor syncs, and calls plain functions alone
abbrev pub IsPlain : Program → Stmt → Type 0
IsPlain program Skip = Unit {0}
IsPlain program (Then first second) = IsPlain program first × IsPlain program second
IsPlain program (Assign local value) = Unit {0}
IsPlain program (Put array index value) = Unit {0}
IsPlain program (Print value) = Unit {0}
IsPlain program (If condition met unmet) = IsPlain program met × IsPlain program unmet
IsPlain program (While condition body) = IsPlain program body
IsPlain program (Call target function arguments) = CallsPlain program function
IsPlain program (Spawn target procedure arguments) = ⊥
IsPlain program (Add target array index addend) = Unit {0}
IsPlain program Sync = ⊥
IsPlain program (Return value) = Unit {0}

abbrev pub IsParted : Program → Type 0
IsParted program = (number : ℕ) (function : Function) → slice_get program.functions number ≡ Some function → function.«cilk» ≡ false → IsPlain program function.body
