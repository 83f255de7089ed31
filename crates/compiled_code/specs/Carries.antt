-- When a code holds the code of a program's functions.
use Rattle.std.specs.Prelude.{◌≡◌, ℕ, suc, Some, None, List, [], ◌∷◌, length, slice_get}
use Rattle.cilk_meaning.specs.Resolved.{Expr, Stmt, Skip, Then, Assign, Put, Print, If, While, Call, Spawn, Add, Sync, Return, Function, Program}
use Rattle.compiled_code.specs.Emitted.{function_code}
use Rattle.machine_code.specs.Machine.{Code}
use Rattle.machine_code.specs.Valid.{GoesForward}
use Rattle.machine_code.specs.declared.code.Proc.{Proc}
use Rattle.machine_code.specs.declared.instr.Instr.{Instr}

-- these instructions stand among all from this place on
abbrev pub HasAt : List Instr → ℕ → List Instr → Type 0
HasAt all at [] = Unit {0}
HasAt all at (first ∷ rest) = (slice_get all at ≡ Some first) × HasAt all (suc at) rest

-- there is this function, with as many parameters
abbrev pub SuitsCall : Program → ℕ → List Expr → Type 0
SuitsCall program number arguments = (function : Function) × (slice_get program.functions number ≡ Some function) × (length arguments ≡ function.params)

-- each call and each spawn has as many arguments as its function has parameters
abbrev pub SuitsCalls : Program → Stmt → Type 0
SuitsCalls program Skip = Unit {0}
SuitsCalls program (Then first second) = SuitsCalls program first × SuitsCalls program second
SuitsCalls program (Assign local value) = Unit {0}
SuitsCalls program (Put array index value) = Unit {0}
SuitsCalls program (Print value) = Unit {0}
SuitsCalls program (If condition met unmet) = SuitsCalls program met × SuitsCalls program unmet
SuitsCalls program (While condition body) = SuitsCalls program body
SuitsCalls program (Call target function arguments) = SuitsCall program function arguments
SuitsCalls program (Spawn target procedure arguments) = SuitsCall program procedure arguments
SuitsCalls program (Add target array index addend) = Unit {0}
SuitsCalls program Sync = Unit {0}
SuitsCalls program (Return value) = Unit {0}

abbrev pub AllSuit : Program → Type 0
AllSuit program = (number : ℕ) (function : Function) → slice_get program.functions number ≡ Some function → SuitsCalls program function.body

-- A function's procedure, and its code at its start.
pub record IsProcOf (code : Code) (number : ℕ) (function : Function) : Type 0 where
  pub proc : Proc
  pub is : slice_get code.procs number ≡ Some proc
  pub params : proc.params ≡ function.params
  pub locals : proc.locals ≡ function.locals
  pub stands : HasAt code.instrs proc.start (function_code proc.start function)

-- The code holds the program's functions; its jumps go forward.
pub record Carries (code : Code) (program : Program) : Type 0 where
  pub shared : code.shared ≡ program.shared
  pub forward : GoesForward code.instrs
  pub none : (number : ℕ) → slice_get program.functions number ≡ None → slice_get code.procs number ≡ None
  pub procs : (number : ℕ) (function : Function) → slice_get program.functions number ≡ Some function → IsProcOf code number function
  pub suits : AllSuit program
