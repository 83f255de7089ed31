-- What the compiler's steps add to the code so far.
use Rattle.std.specs.Prelude.{ℕ, suc, max, pos, List, [], ◌∷◌, ◌++◌, length, map, Option}
use Rattle.cilk_tree.specs.declared.tree.Expr as source_expr
use Rattle.cilk_tree.specs.declared.tree.Function as source_function
use Rattle.cilk_tree.specs.declared.tree.Program as source_program
use Rattle.cilk_tree.specs.declared.tree.Stmt as source_stmt
use Rattle.cilk_tree.specs.Lawful.Flow.{after_all, after_list}
use Rattle.cilk_tree.specs.Lawful.Scope.{Point, declared, entry}
use Rattle.cilk_meaning.specs.Resolved as tree
use Rattle.cilk_meaning.specs.Resolved.{Expr, Stmt, Function}
use Rattle.cilk_meaning.specs.Resolving.{Resolving, part_in, in_order, resolving, resolved_expr, resolved_function, returned, local_number, array_number, function_number, target_number, arguments_of}
use Rattle.compiled_code.specs.Emitted.{expr_code, exprs_code, stmt_code, expr_operands, stmt_operands}
use Rattle.machine_code.specs.declared.instr.Instr.{Instr}
use Rattle.cilk_compiler.specs.declared.emitter.Emitter.{Emitter}

-- ---- what stands in the source, without its names at this point

abbrev pub local_in : Emitter → List ℕ → ℕ
local_in e name = local_number e.locals.scope name

abbrev pub array_in : Emitter → List ℕ → ℕ
array_in e name = array_number e.globals.now name

abbrev pub function_in : Emitter → List ℕ → ℕ
function_in e name = function_number e.globals.now name

abbrev pub target_in : Emitter → Option (List ℕ) → Option ℕ
target_in e target = target_number e.locals.scope target

abbrev pub expr_in : Emitter → source_expr.Expr → Expr
expr_in e expr = resolved_expr e.globals.now expr e.locals.scope

abbrev pub exprs_in : Emitter → List source_expr.Expr → List Expr
exprs_in e exprs = arguments_of e.globals.now exprs e.locals.scope

abbrev pub returned_in : Emitter → Option source_expr.Expr → Expr
returned_in e value = returned e.globals.now value e.locals.scope

abbrev pub statements_in : Emitter → List source_stmt.Stmt → List Resolving
statements_in e statements = map (resolving e.globals.now) statements

abbrev pub functions_in : source_program.Program → List Function
functions_in program = map (resolved_function program) program.functions

-- ---- more code

abbrev pub with_instrs : List Instr → Emitter → Emitter
with_instrs instrs e = record e { instrs = instrs }

-- code that is made for the place at which it begins
abbrev pub with_code : (ℕ → List Instr) → Emitter → Emitter
with_code code e = with_instrs (e.instrs ++ code (length e.instrs)) e

abbrev pub with_instr : Instr → Emitter → Emitter
with_instr instr e = with_instrs (e.instrs ++ instr ∷ []) e

-- room for so many operands
abbrev pub needing : ℕ → Emitter → Emitter
needing operands e = record e { operands = max e.operands operands }

abbrev pub with_expr : Expr → Emitter → Emitter
with_expr expr e = with_code (λ at. expr_code at expr) e

abbrev pub with_exprs : List Expr → Emitter → Emitter
with_exprs exprs e = with_code (λ at. exprs_code at exprs) e

-- an expression with room for its operands
abbrev pub valued : Expr → Emitter → Emitter
valued expr e = needing (expr_operands expr) (with_expr expr e)

-- and another one above its value
abbrev pub valued_two : Expr → Expr → Emitter → Emitter
valued_two first second e = needing (max (expr_operands first) (suc (expr_operands second))) (with_expr second (with_expr first e))

-- a statement with room for its operands
abbrev pub with_stmt : Stmt → Emitter → Emitter
with_stmt stmt e = needing (stmt_operands stmt) (with_code (λ at. stmt_code e.«cilk» at stmt) e)

-- ---- at another point

abbrev pub at_point : Point → Emitter → Emitter
at_point point e = record e { locals = point }

-- before the first statement of a function, which has room for what it returns
abbrev pub at_start : source_function.Function → Emitter → Emitter
at_start function e = record e { «cilk» = function.«cilk»; locals = entry function; operands = 1 }

-- behind a declaration
abbrev pub with_declared : List ℕ → Emitter → Emitter
with_declared name e = at_point (declared e.locals name) (with_stmt (tree.Assign e.locals.local (tree.Number (pos 0))) e)

-- behind a statement of the source
abbrev pub behind : Resolving → Emitter → Emitter
behind statement e = at_point (statement.part.after e.locals) (with_stmt (statement.stmt e.locals) e)

-- behind one statement after another
abbrev pub behind_all : List Resolving → Emitter → Emitter
behind_all statements e = at_point (after_all (map part_in statements) e.locals) (with_stmt (in_order statements e.locals) e)

-- behind a list that a statement holds
abbrev pub behind_list : List Resolving → Emitter → Emitter
behind_list statements e = at_point (after_list (map part_in statements) e.locals) (with_stmt (in_order statements e.locals) e)
