-- The program that a source stands for: in place of each name the number of what it stands for. The scopes are those of the rules of
-- lawful programs, point after point: a parameter is in scope in the whole body, a local from its declaration to the end of the list
-- that holds it, arrays and functions everywhere. By the rules each name of a lawful program stands for something of the kind that is
-- wanted, so it does not matter that any other counts as local 0, or as the number behind the last array or function.
use Rattle.std.specs.Prelude.{ℕ, ◌+◌, pos, List, [], ◌∷◌, length, map, codes, Option, Some, None, unwrap_or, option_map}
use Rattle.std.specs.List.{position_or_len}
use Rattle.std.specs.Str.{bytes_eq}
use Rattle.cilk_tree.specs.declared.tree.Expr as source_expr
use Rattle.cilk_tree.specs.declared.tree.Expr.{fold-Expr}
use Rattle.cilk_tree.specs.declared.tree.Expr.TheOpen as expr
use Rattle.cilk_tree.specs.declared.tree.Expr.TheOpen.{Expr-F}
use Rattle.cilk_tree.specs.declared.tree.Function as source_function
use Rattle.cilk_tree.specs.declared.tree.Program as source_program
use Rattle.cilk_tree.specs.declared.tree.Shared.{Shared}
use Rattle.cilk_tree.specs.declared.tree.Stmt as source_stmt
use Rattle.cilk_tree.specs.declared.tree.Stmt.{fold-Stmt, map-Stmt}
use Rattle.cilk_tree.specs.declared.tree.Stmt.TheOpen as stmt
use Rattle.cilk_tree.specs.declared.tree.Stmt.TheOpen.{Stmt-F}
use Rattle.cilk_tree.specs.Lawful.Flow.{Part, part_here, inside, after_all, after_list}
use Rattle.cilk_tree.specs.Lawful.Scope.{Local, Point, entry, local_named}
use Rattle.cilk_meaning.specs.Resolved as tree
use Rattle.cilk_meaning.specs.Resolved.{Expr, Stmt, Function, Extent, Program}

-- the number of the parameter or local of this name
abbrev pub local_number : List Local → List ℕ → ℕ
local_number scope name = unwrap_or (local_named scope name) 0

-- of the first array of this name, or the number of arrays
abbrev pub array_number : source_program.Program → List ℕ → ℕ
array_number program name = position_or_len (λ array. bytes_eq array.name name) program.shared

-- of the first function of this name, or the number of functions
abbrev pub function_number : source_program.Program → List ℕ → ℕ
function_number program name = position_or_len (λ function. bytes_eq function.name name) program.functions

-- one step of `resolved_expr`: what an expression stands for where these locals are in scope
abbrev pub expr_here : source_program.Program → Expr-F (List Local → Expr) → List Local → Expr
expr_here program (expr.Number value) scope = tree.Number value
expr_here program (expr.Local name) scope = tree.Local (local_number scope name)
expr_here program (expr.Get name index) scope = tree.Get (array_number program name) (index scope)
expr_here program (expr.Unary operator operand) scope = tree.Unary operator (operand scope)
expr_here program (expr.Binary operator left right) scope = tree.Binary operator (left scope) (right scope)

abbrev pub resolved_expr : source_program.Program → source_expr.Expr → List Local → Expr
resolved_expr program = fold-Expr (List Local → Expr) (expr_here program)

-- A statement as a part of its function, and what it stands for from the point before it.
pub record Resolving : Type 0 where
  pub part : Part
  pub stmt : Point → Stmt

abbrev pub part_in : Resolving → Part
part_in statement = statement.part

-- one statement after another, each from the point after the one before
abbrev pub in_order : List Resolving → Point → Stmt
in_order [] point = tree.Skip
in_order (first ∷ rest) point = tree.Then (first.stmt point) (in_order rest (first.part.after point))

-- what a `return` gives
abbrev pub returned : source_program.Program → Option source_expr.Expr → List Local → Expr
returned program None scope = tree.Number (pos 0)
returned program (Some value) scope = resolved_expr program value scope

abbrev pub target_number : List Local → Option (List ℕ) → Option ℕ
target_number scope target = option_map (local_number scope) target

abbrev pub arguments_of : source_program.Program → List source_expr.Expr → List Local → List Expr
arguments_of program arguments scope = map (λ argument. resolved_expr program argument scope) arguments

-- what a statement stands for
abbrev pub stmt_here : source_program.Program → Stmt-F Resolving → Point → Stmt
stmt_here program (stmt.Declare name) point = tree.Assign point.local (tree.Number (pos 0))
stmt_here program (stmt.Assign name value) point = tree.Assign (local_number point.scope name) (resolved_expr program value point.scope)
stmt_here program (stmt.Put name index value) point =
    tree.Put (array_number program name) (resolved_expr program index point.scope) (resolved_expr program value point.scope)
stmt_here program (stmt.Print value) point = tree.Print (resolved_expr program value point.scope)
stmt_here program (stmt.If condition met unmet) point =
    tree.If (resolved_expr program condition point.scope) (in_order met (inside point)) (in_order unmet (after_list (map part_in met) (inside point)))
stmt_here program (stmt.While condition body) point = tree.While (resolved_expr program condition point.scope) (in_order body (inside point))
stmt_here program (stmt.Block body) point = in_order body (inside point)
stmt_here program (stmt.Call target name arguments) point =
    tree.Call (target_number point.scope target) (function_number program name) (arguments_of program arguments point.scope)
stmt_here program (stmt.Spawn target name arguments) point =
    tree.Spawn (target_number point.scope target) (function_number program name) (arguments_of program arguments point.scope)
stmt_here program (stmt.Add target name index addend) point =
    tree.Add (target_number point.scope target) (array_number program name) (resolved_expr program index point.scope) (resolved_expr program addend point.scope)
stmt_here program stmt.Sync point = tree.Sync
stmt_here program (stmt.Return value) point = tree.Return (returned program value point.scope)

-- one step of `resolving`
abbrev pub resolving_here : source_program.Program → Stmt-F Resolving → Resolving
resolving_here program statement = record { part = part_here (map-Stmt Resolving Part part_in statement); stmt = stmt_here program statement }

abbrev pub resolving : source_program.Program → source_stmt.Stmt → Resolving
resolving program = fold-Stmt Resolving (resolving_here program)

-- A function, whose parameters are in scope first; the point behind its body tells how many parameters and locals it has.
abbrev pub resolved_function : source_program.Program → source_function.Function → Function
resolved_function program function =
    let body = map (resolving program) function.body in
    record {
      «cilk» = function.«cilk»;
      params = length function.params;
      locals = (after_all (map part_in body) (entry function)).local;
      body = in_order body (entry function);
    }

-- The arrays lie one behind another, in order, from this word on.
abbrev pub extents_from : ℕ → List Shared → List Extent
extents_from base [] = []
extents_from base (first ∷ rest) = record { base = base; words = first.words } ∷ extents_from (base + first.words) rest

-- The program that a source stands for.
abbrev pub resolved : source_program.Program → Program
resolved program = record {
  shared = extents_from 0 program.shared;
  functions = map (resolved_function program) program.functions;
  main = function_number program (codes "main");
}
