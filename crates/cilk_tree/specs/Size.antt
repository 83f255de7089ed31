-- How large a tree is.
use Rattle.std.specs.Prelude.{ℕ, ◌+◌, Option, Some, None, length, sum, sum_by}
use Rattle.cilk_tree.specs.declared.tree.Expr.{Expr, fold-Expr}
use Rattle.cilk_tree.specs.declared.tree.Expr.TheOpen as expr
use Rattle.cilk_tree.specs.declared.tree.Expr.TheOpen.{Expr-F}
use Rattle.cilk_tree.specs.declared.tree.Function.{Function}
use Rattle.cilk_tree.specs.declared.tree.Program.{Program}
use Rattle.cilk_tree.specs.declared.tree.Stmt.{Stmt, fold-Stmt}
use Rattle.cilk_tree.specs.declared.tree.Stmt.TheOpen as stmt
use Rattle.cilk_tree.specs.declared.tree.Stmt.TheOpen.{Stmt-F}

-- one step of `expression_size`
abbrev pub expression_size_here : Expr-F ℕ → ℕ
expression_size_here (expr.Number value) = 1
expression_size_here (expr.Local name) = 1
expression_size_here (expr.Get name index) = 1 + index
expression_size_here (expr.Unary operator operand) = 1 + operand
expression_size_here (expr.Binary operator left right) = 1 + left + right

-- how many expressions an expression has, with itself
abbrev pub expression_size : Expr → ℕ
expression_size = fold-Expr ℕ expression_size_here

abbrev pub value_size : Option Expr → ℕ
value_size None = 0
value_size (Some value) = expression_size value

-- one step of `statement_size`
abbrev pub statement_size_here : Stmt-F ℕ → ℕ
statement_size_here (stmt.Declare name) = 1
statement_size_here (stmt.Assign name value) = 1 + expression_size value
statement_size_here (stmt.Put name index value) = 1 + expression_size index + expression_size value
statement_size_here (stmt.Print value) = 1 + expression_size value
statement_size_here (stmt.If condition taken otherwise) = 1 + expression_size condition + sum taken + sum otherwise
statement_size_here (stmt.While condition body) = 1 + expression_size condition + sum body
statement_size_here (stmt.Block inside) = 1 + sum inside
statement_size_here (stmt.Call target name arguments) = 1 + sum_by expression_size arguments
statement_size_here (stmt.Spawn target name arguments) = 1 + sum_by expression_size arguments
statement_size_here (stmt.Add target name index addend) = 1 + expression_size index + expression_size addend
statement_size_here stmt.Sync = 1
statement_size_here (stmt.Return value) = 1 + value_size value

-- how many statements and expressions a statement has, with itself
abbrev pub statement_size : Stmt → ℕ
statement_size = fold-Stmt ℕ statement_size_here

abbrev pub function_size : Function → ℕ
function_size function = 1 + sum_by statement_size function.body

-- the arrays, functions, statements and expressions of a program together
abbrev pub program_size : Program → ℕ
program_size program = length program.shared + sum_by function_size program.functions
