-- What each form of statement and of expression stands for: the folds of `specs/Resolving` as equations.
use Rattle.std.proofs.Common.{◌≡◌, ℕ, ℤ, List, map, Option, sym, ap, ◌∙◌}
use Rattle.cilk_tree.specs.declared.tree.BinaryOp.{BinaryOp}
use Rattle.cilk_tree.specs.declared.tree.UnaryOp.{UnaryOp}
use Rattle.cilk_tree.specs.declared.tree.Expr.{Expr, fold-roll-Expr}
use Rattle.cilk_tree.specs.declared.tree.Expr.TheVariants as expr
use Rattle.cilk_tree.specs.declared.tree.Expr.TheVariants.{rolls-Number, rolls-Local, rolls-Get, rolls-Unary, rolls-Binary}
use Rattle.cilk_tree.specs.declared.tree.Expr.TheOpen as layer
use Rattle.cilk_tree.specs.declared.tree.Program.{Program}
use Rattle.cilk_tree.specs.declared.tree.Stmt.{Stmt, fold-roll-Stmt}
use Rattle.cilk_tree.specs.declared.tree.Stmt.TheVariants as stmt
use Rattle.cilk_tree.specs.declared.tree.Stmt.TheVariants.{rolls-Declare, rolls-Assign, rolls-Put, rolls-Print, rolls-If, rolls-While, rolls-Block, rolls-Call, rolls-Spawn, rolls-Add, rolls-Sync, rolls-Return}
use Rattle.cilk_tree.specs.declared.tree.Stmt.TheOpen as head
use Rattle.cilk_tree.specs.Lawful.Scope.{Local}
use Rattle.cilk_meaning.specs.Resolved as tree
use Rattle.cilk_meaning.specs.Resolving.{Resolving, local_number, array_number, expr_here, resolved_expr, resolving_here, resolving}

module _ (program : Program) where
  pub resolved_number : (value : ℤ) (scope : List Local) → resolved_expr program (expr.Number value) scope ≡ tree.Number value
  resolved_number value scope = ap (λ e. resolved_expr program e scope) (sym (rolls-Number value)) ∙ ap (λ (f : List Local → tree.Expr). f scope) (fold-roll-Expr (List Local → tree.Expr) (expr_here program) (layer.Number value))

  pub resolved_local : (name : List ℕ) (scope : List Local) → resolved_expr program (expr.Local name) scope ≡ tree.Local (local_number scope name)
  resolved_local name scope = ap (λ e. resolved_expr program e scope) (sym (rolls-Local name)) ∙ ap (λ (f : List Local → tree.Expr). f scope) (fold-roll-Expr (List Local → tree.Expr) (expr_here program) (layer.Local name))

  pub resolved_get : (name : List ℕ) (index : Expr) (scope : List Local) → resolved_expr program (expr.Get name index) scope ≡ tree.Get (array_number program name) (resolved_expr program index scope)
  resolved_get name index scope = ap (λ e. resolved_expr program e scope) (sym (rolls-Get name index)) ∙ ap (λ (f : List Local → tree.Expr). f scope) (fold-roll-Expr (List Local → tree.Expr) (expr_here program) (layer.Get name index))

  pub resolved_unary : (operator : UnaryOp) (operand : Expr) (scope : List Local) → resolved_expr program (expr.Unary operator operand) scope ≡ tree.Unary operator (resolved_expr program operand scope)
  resolved_unary operator operand scope = ap (λ e. resolved_expr program e scope) (sym (rolls-Unary operator operand)) ∙ ap (λ (f : List Local → tree.Expr). f scope) (fold-roll-Expr (List Local → tree.Expr) (expr_here program) (layer.Unary operator operand))

  pub resolved_binary : (operator : BinaryOp) (left right : Expr) (scope : List Local) → resolved_expr program (expr.Binary operator left right) scope ≡ tree.Binary operator (resolved_expr program left scope) (resolved_expr program right scope)
  resolved_binary operator left right scope = ap (λ e. resolved_expr program e scope) (sym (rolls-Binary operator left right)) ∙ ap (λ (f : List Local → tree.Expr). f scope) (fold-roll-Expr (List Local → tree.Expr) (expr_here program) (layer.Binary operator left right))

  pub resolving_declare : (name : List ℕ) → resolving program (stmt.Declare name) ≡ resolving_here program (head.Declare name)
  resolving_declare name = ap (resolving program) (sym (rolls-Declare name)) ∙ fold-roll-Stmt Resolving (resolving_here program) (head.Declare name)

  pub resolving_assign : (name : List ℕ) (value : Expr) → resolving program (stmt.Assign name value) ≡ resolving_here program (head.Assign name value)
  resolving_assign name value = ap (resolving program) (sym (rolls-Assign name value)) ∙ fold-roll-Stmt Resolving (resolving_here program) (head.Assign name value)

  pub resolving_put : (name : List ℕ) (index value : Expr) → resolving program (stmt.Put name index value) ≡ resolving_here program (head.Put name index value)
  resolving_put name index value = ap (resolving program) (sym (rolls-Put name index value)) ∙ fold-roll-Stmt Resolving (resolving_here program) (head.Put name index value)

  pub resolving_print : (value : Expr) → resolving program (stmt.Print value) ≡ resolving_here program (head.Print value)
  resolving_print value = ap (resolving program) (sym (rolls-Print value)) ∙ fold-roll-Stmt Resolving (resolving_here program) (head.Print value)

  pub resolving_if : (condition : Expr) (met unmet : List Stmt) → resolving program (stmt.If condition met unmet) ≡ resolving_here program (head.If condition (map (resolving program) met) (map (resolving program) unmet))
  resolving_if condition met unmet = ap (resolving program) (sym (rolls-If condition met unmet)) ∙ fold-roll-Stmt Resolving (resolving_here program) (head.If condition met unmet)

  pub resolving_while : (condition : Expr) (body : List Stmt) → resolving program (stmt.While condition body) ≡ resolving_here program (head.While condition (map (resolving program) body))
  resolving_while condition body = ap (resolving program) (sym (rolls-While condition body)) ∙ fold-roll-Stmt Resolving (resolving_here program) (head.While condition body)

  pub resolving_block : (body : List Stmt) → resolving program (stmt.Block body) ≡ resolving_here program (head.Block (map (resolving program) body))
  resolving_block body = ap (resolving program) (sym (rolls-Block body)) ∙ fold-roll-Stmt Resolving (resolving_here program) (head.Block body)

  pub resolving_call : (target : Option (List ℕ)) (name : List ℕ) (arguments : List Expr) → resolving program (stmt.Call target name arguments) ≡ resolving_here program (head.Call target name arguments)
  resolving_call target name arguments = ap (resolving program) (sym (rolls-Call target name arguments)) ∙ fold-roll-Stmt Resolving (resolving_here program) (head.Call target name arguments)

  pub resolving_spawn : (target : Option (List ℕ)) (name : List ℕ) (arguments : List Expr) → resolving program (stmt.Spawn target name arguments) ≡ resolving_here program (head.Spawn target name arguments)
  resolving_spawn target name arguments = ap (resolving program) (sym (rolls-Spawn target name arguments)) ∙ fold-roll-Stmt Resolving (resolving_here program) (head.Spawn target name arguments)

  pub resolving_add : (target : Option (List ℕ)) (name : List ℕ) (index addend : Expr) → resolving program (stmt.Add target name index addend) ≡ resolving_here program (head.Add target name index addend)
  resolving_add target name index addend = ap (resolving program) (sym (rolls-Add target name index addend)) ∙ fold-roll-Stmt Resolving (resolving_here program) (head.Add target name index addend)

  pub resolving_sync : resolving program stmt.Sync ≡ resolving_here program head.Sync
  resolving_sync = ap (resolving program) (sym rolls-Sync) ∙ fold-roll-Stmt Resolving (resolving_here program) head.Sync

  pub resolving_return : (value : Option Expr) → resolving program (stmt.Return value) ≡ resolving_here program (head.Return value)
  resolving_return value = ap (resolving program) (sym (rolls-Return value)) ∙ fold-roll-Stmt Resolving (resolving_here program) (head.Return value)
