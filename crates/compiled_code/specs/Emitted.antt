-- The code of a program. Jumps name places, so each part is made for the place at which it begins.
use Rattle.std.specs.Prelude.{ℕ, suc, ◌+◌, max, pos, Bool, true, false, Option, Some, None, List, [], ◌∷◌, ◌++◌, length}
use Rattle.cilk_tree.specs.declared.tree.BinaryOp.{BinaryOp}
use Rattle.cilk_tree.specs.declared.tree.BinaryOp.TheVariants as op
use Rattle.cilk_tree.specs.declared.tree.UnaryOp.{UnaryOp}
use Rattle.cilk_tree.specs.declared.tree.UnaryOp.TheVariants as unary_op
use Rattle.cilk_meaning.specs.Resolved as tree
use Rattle.cilk_meaning.specs.Resolved.{Expr, Stmt, Function, Program}
use Rattle.machine_code.specs.Machine.{Code}
use Rattle.machine_code.specs.declared.code.Proc.{Proc}
use Rattle.machine_code.specs.declared.instr.Instr.{Instr}
use Rattle.machine_code.specs.declared.instr.Instr.TheVariants.{Const, Load, Store, Pop, Add, Sub, Mul, Div, Rem, Neg, Not, Eq, Ne, Lt, Le, Gt, Ge, Jump, JumpIfZero, ReadShared, WriteShared, AddShared, PrintTop, Turn, Call, Spawn, SyncAll, Return}

abbrev pub unary_instr : UnaryOp → Instr
unary_instr unary_op.Neg = Neg
unary_instr unary_op.Not = Not

-- The code of `x op y`, where that of x begins at a place and that of y is known for each place. `&&` and `||` skip y where x decides,
-- and make 0 or 1 of its value otherwise.
abbrev pub then_operate : Instr → ℕ → List Instr → (ℕ → List Instr) → List Instr
then_operate instr at left right = left ++ (right (at + length left) ++ instr ∷ [])

abbrev pub and_code : ℕ → List Instr → List Instr → List Instr
and_code zeros left right = left ++ (JumpIfZero zeros ∷ (right ++ Not ∷ Not ∷ Jump (suc zeros) ∷ Const (pos 0) ∷ []))

abbrev pub or_code : ℕ → List Instr → List Instr → List Instr
or_code other left right = left ++ (JumpIfZero other ∷ Const (pos 1) ∷ Jump (suc (suc (other + length right))) ∷ (right ++ Not ∷ Not ∷ []))

abbrev pub binary_code : BinaryOp → ℕ → List Instr → (ℕ → List Instr) → List Instr
binary_code op.And at left right =
    let y = right (suc (at + length left)) in
    and_code (suc (suc (suc (suc (at + length left) + length y)))) left y
binary_code op.Or at left right =
    let other = suc (suc (suc (at + length left))) in
    or_code other left (right other)
binary_code op.Eq at left right = then_operate Eq at left right
binary_code op.Ne at left right = then_operate Ne at left right
binary_code op.Lt at left right = then_operate Lt at left right
binary_code op.Le at left right = then_operate Le at left right
binary_code op.Gt at left right = then_operate Gt at left right
binary_code op.Ge at left right = then_operate Ge at left right
binary_code op.Add at left right = then_operate Add at left right
binary_code op.Sub at left right = then_operate Sub at left right
binary_code op.Mul at left right = then_operate Mul at left right
binary_code op.Div at left right = then_operate Div at left right
binary_code op.Rem at left right = then_operate Rem at left right

abbrev pub expr_code : ℕ → Expr → List Instr
expr_code at (tree.Number value) = Const value ∷ []
expr_code at (tree.Local local) = Load local ∷ []
expr_code at (tree.Get array index) = expr_code at index ++ ReadShared array ∷ []
expr_code at (tree.Unary operator operand) = expr_code at operand ++ unary_instr operator ∷ []
expr_code at (tree.Binary operator left right) = binary_code operator at (expr_code at left) (λ place. expr_code place right)

abbrev pub exprs_code : ℕ → List Expr → List Instr
exprs_code at [] = []
exprs_code at (first ∷ rest) = expr_code at first ++ exprs_code (at + length (expr_code at first)) rest

-- a value goes to a target, or is dropped
abbrev pub target_code : Option ℕ → Instr
target_code None = Pop
target_code (Some local) = Store local

-- the sync that a `cilk` procedure makes before it returns
abbrev pub sync_code : Bool → List Instr
sync_code true = SyncAll ∷ []
sync_code false = []

-- the code of a statement of a `cilk` procedure or a plain function
abbrev pub stmt_code : Bool → ℕ → Stmt → List Instr
stmt_code «cilk» at tree.Skip = []
stmt_code «cilk» at (tree.Then first second) =
    stmt_code «cilk» at first ++ stmt_code «cilk» (at + length (stmt_code «cilk» at first)) second
stmt_code «cilk» at (tree.Assign local value) = expr_code at value ++ Store local ∷ []
stmt_code «cilk» at (tree.Put array index value) =
    expr_code at index ++ (expr_code (at + length (expr_code at index)) value ++ WriteShared array ∷ [])
stmt_code «cilk» at (tree.Print value) = expr_code at value ++ PrintTop ∷ []
stmt_code «cilk» at (tree.If condition met unmet) =
    let test = expr_code at condition in
    let yes = stmt_code «cilk» (suc (at + length test)) met in
    let other = suc (suc (at + length test) + length yes) in
    let no = stmt_code «cilk» other unmet in
    test ++ (JumpIfZero other ∷ (yes ++ (Jump (other + length no) ∷ no)))
stmt_code «cilk» at (tree.While condition body) =
    let test = expr_code (suc at) condition in
    let turn = stmt_code «cilk» (suc (suc at + length test)) body in
    Turn ∷ (test ++ (JumpIfZero (suc (suc (suc at + length test) + length turn)) ∷ (turn ++ Jump at ∷ [])))
stmt_code «cilk» at (tree.Call target function arguments) = exprs_code at arguments ++ (Call function ∷ target_code target ∷ [])
stmt_code «cilk» at (tree.Spawn target procedure arguments) = exprs_code at arguments ++ Spawn procedure target ∷ []
stmt_code «cilk» at (tree.Add target array index addend) =
    expr_code at index ++ (expr_code (at + length (expr_code at index)) addend ++ (AddShared array ∷ target_code target ∷ []))
stmt_code «cilk» at tree.Sync = SyncAll ∷ []
stmt_code «cilk» at (tree.Return value) = sync_code «cilk» ++ (expr_code (at + length (sync_code «cilk»)) value ++ Return ∷ [])

-- a body, which gives 0 where control comes to its end
abbrev pub function_code : ℕ → Function → List Instr
function_code at function = stmt_code function.«cilk» at function.body ++ (sync_code function.«cilk» ++ (Const (pos 0) ∷ Return ∷ []))

-- how many operands there are at most at once
abbrev pub expr_operands : Expr → ℕ
expr_operands (tree.Number value) = 1
expr_operands (tree.Local local) = 1
expr_operands (tree.Get array index) = expr_operands index
expr_operands (tree.Unary operator operand) = expr_operands operand
expr_operands (tree.Binary operator left right) = max (expr_operands left) (suc (expr_operands right))

-- where so many are there before
abbrev pub exprs_operands : ℕ → List Expr → ℕ
exprs_operands before [] = before
exprs_operands before (first ∷ rest) = max (before + expr_operands first) (exprs_operands (suc before) rest)

-- every call leaves a value, also where it takes no argument
abbrev pub stmt_operands : Stmt → ℕ
stmt_operands tree.Skip = 0
stmt_operands (tree.Then first second) = max (stmt_operands first) (stmt_operands second)
stmt_operands (tree.Assign local value) = expr_operands value
stmt_operands (tree.Put array index value) = max (expr_operands index) (suc (expr_operands value))
stmt_operands (tree.Print value) = expr_operands value
stmt_operands (tree.If condition met unmet) = max (expr_operands condition) (max (stmt_operands met) (stmt_operands unmet))
stmt_operands (tree.While condition body) = max (expr_operands condition) (stmt_operands body)
stmt_operands (tree.Call target function arguments) = max 1 (exprs_operands 0 arguments)
stmt_operands (tree.Spawn target procedure arguments) = exprs_operands 0 arguments
stmt_operands (tree.Add target array index addend) = max (expr_operands index) (suc (expr_operands addend))
stmt_operands tree.Sync = 0
stmt_operands (tree.Return value) = expr_operands value

-- the procedure of a function whose code begins at this place
abbrev pub proc_at : ℕ → Function → Proc
proc_at at function = record {
  «cilk» = function.«cilk»;
  start = at;
  params = function.params;
  locals = function.locals;
  operands = max 1 (stmt_operands function.body);
}

-- the codes of functions, one behind another
abbrev pub functions_code : ℕ → List Function → List Instr
functions_code at [] = []
functions_code at (first ∷ rest) = function_code at first ++ functions_code (at + length (function_code at first)) rest

abbrev pub procs_at : ℕ → List Function → List Proc
procs_at at [] = []
procs_at at (first ∷ rest) = proc_at at first ∷ procs_at (at + length (function_code at first)) rest

-- The code of a program, without input.
abbrev pub compiled : Program → Code
compiled program = record {
  procs = procs_at 0 program.functions;
  instrs = functions_code 0 program.functions;
  shared = program.shared;
  main = program.main;
  input_base = 0;
  input = [];
}
