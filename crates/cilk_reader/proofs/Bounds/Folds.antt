-- What a fold over an expression or a statement gives at each variant.
use Rattle.std.proofs.Common.{◌≡◌, ℕ, ℤ, List, map, Option, sym, ap, ◌∙◌}
use Rattle.cilk_tree.specs.declared.tree.BinaryOp.{BinaryOp}
use Rattle.cilk_tree.specs.declared.tree.UnaryOp.{UnaryOp}
use Rattle.cilk_tree.specs.declared.tree.Expr.{Expr, fold-Expr, fold-roll-Expr}
use Rattle.cilk_tree.specs.declared.tree.Expr.TheVariants as expr
use Rattle.cilk_tree.specs.declared.tree.Expr.TheVariants.{rolls-Number, rolls-Local, rolls-Get, rolls-Unary, rolls-Binary}
use Rattle.cilk_tree.specs.declared.tree.Expr.TheOpen as layer
use Rattle.cilk_tree.specs.declared.tree.Expr.TheOpen.{Expr-F}
use Rattle.cilk_tree.specs.declared.tree.Stmt.{Stmt, fold-Stmt, fold-roll-Stmt}
use Rattle.cilk_tree.specs.declared.tree.Stmt.TheVariants as stmt
use Rattle.cilk_tree.specs.declared.tree.Stmt.TheVariants.{rolls-Declare, rolls-Assign, rolls-Put, rolls-Print, rolls-If, rolls-While, rolls-Block, rolls-Call, rolls-Spawn, rolls-Add, rolls-Sync, rolls-Return}
use Rattle.cilk_tree.specs.declared.tree.Stmt.TheOpen as head
use Rattle.cilk_tree.specs.declared.tree.Stmt.TheOpen.{Stmt-F}

module _ {A : Type 0} (step : Expr-F A → A) where
  pub fold_number : (value : ℤ) → fold-Expr A step (expr.Number value) ≡ step (layer.Number value)
  fold_number value = ap (fold-Expr A step) (sym (rolls-Number value)) ∙ fold-roll-Expr A step (layer.Number value)

  pub fold_local : (name : List ℕ) → fold-Expr A step (expr.Local name) ≡ step (layer.Local name)
  fold_local name = ap (fold-Expr A step) (sym (rolls-Local name)) ∙ fold-roll-Expr A step (layer.Local name)

  pub fold_get : (name : List ℕ) (index : Expr) → fold-Expr A step (expr.Get name index) ≡ step (layer.Get name (fold-Expr A step index))
  fold_get name index = ap (fold-Expr A step) (sym (rolls-Get name index)) ∙ fold-roll-Expr A step (layer.Get name index)

  pub fold_unary : (operator : UnaryOp) (operand : Expr) → fold-Expr A step (expr.Unary operator operand) ≡ step (layer.Unary operator (fold-Expr A step operand))
  fold_unary operator operand = ap (fold-Expr A step) (sym (rolls-Unary operator operand)) ∙ fold-roll-Expr A step (layer.Unary operator operand)

  pub fold_binary : (operator : BinaryOp) (left right : Expr) → fold-Expr A step (expr.Binary operator left right) ≡ step (layer.Binary operator (fold-Expr A step left) (fold-Expr A step right))
  fold_binary operator left right = ap (fold-Expr A step) (sym (rolls-Binary operator left right)) ∙ fold-roll-Expr A step (layer.Binary operator left right)

module _ {A : Type 0} (step : Stmt-F A → A) where
  pub fold_declare : (name : List ℕ) → fold-Stmt A step (stmt.Declare name) ≡ step (head.Declare name)
  fold_declare name = ap (fold-Stmt A step) (sym (rolls-Declare name)) ∙ fold-roll-Stmt A step (head.Declare name)

  pub fold_assign : (name : List ℕ) (value : Expr) → fold-Stmt A step (stmt.Assign name value) ≡ step (head.Assign name value)
  fold_assign name value = ap (fold-Stmt A step) (sym (rolls-Assign name value)) ∙ fold-roll-Stmt A step (head.Assign name value)

  pub fold_put : (name : List ℕ) (index value : Expr) → fold-Stmt A step (stmt.Put name index value) ≡ step (head.Put name index value)
  fold_put name index value = ap (fold-Stmt A step) (sym (rolls-Put name index value)) ∙ fold-roll-Stmt A step (head.Put name index value)

  pub fold_print : (value : Expr) → fold-Stmt A step (stmt.Print value) ≡ step (head.Print value)
  fold_print value = ap (fold-Stmt A step) (sym (rolls-Print value)) ∙ fold-roll-Stmt A step (head.Print value)

  pub fold_if : (condition : Expr) (taken otherwise : List Stmt) → fold-Stmt A step (stmt.If condition taken otherwise) ≡ step (head.If condition (map (fold-Stmt A step) taken) (map (fold-Stmt A step) otherwise))
  fold_if condition taken otherwise = ap (fold-Stmt A step) (sym (rolls-If condition taken otherwise)) ∙ fold-roll-Stmt A step (head.If condition taken otherwise)

  pub fold_while : (condition : Expr) (body : List Stmt) → fold-Stmt A step (stmt.While condition body) ≡ step (head.While condition (map (fold-Stmt A step) body))
  fold_while condition body = ap (fold-Stmt A step) (sym (rolls-While condition body)) ∙ fold-roll-Stmt A step (head.While condition body)

  pub fold_block : (inside : List Stmt) → fold-Stmt A step (stmt.Block inside) ≡ step (head.Block (map (fold-Stmt A step) inside))
  fold_block inside = ap (fold-Stmt A step) (sym (rolls-Block inside)) ∙ fold-roll-Stmt A step (head.Block inside)

  pub fold_call : (target : Option (List ℕ)) (name : List ℕ) (arguments : List Expr) → fold-Stmt A step (stmt.Call target name arguments) ≡ step (head.Call target name arguments)
  fold_call target name arguments = ap (fold-Stmt A step) (sym (rolls-Call target name arguments)) ∙ fold-roll-Stmt A step (head.Call target name arguments)

  pub fold_spawn : (target : Option (List ℕ)) (name : List ℕ) (arguments : List Expr) → fold-Stmt A step (stmt.Spawn target name arguments) ≡ step (head.Spawn target name arguments)
  fold_spawn target name arguments = ap (fold-Stmt A step) (sym (rolls-Spawn target name arguments)) ∙ fold-roll-Stmt A step (head.Spawn target name arguments)

  pub fold_add : (target : Option (List ℕ)) (name : List ℕ) (index addend : Expr) → fold-Stmt A step (stmt.Add target name index addend) ≡ step (head.Add target name index addend)
  fold_add target name index addend = ap (fold-Stmt A step) (sym (rolls-Add target name index addend)) ∙ fold-roll-Stmt A step (head.Add target name index addend)

  pub fold_sync : fold-Stmt A step stmt.Sync ≡ step head.Sync
  fold_sync = ap (fold-Stmt A step) (sym rolls-Sync) ∙ fold-roll-Stmt A step head.Sync

  pub fold_return : (value : Option Expr) → fold-Stmt A step (stmt.Return value) ≡ step (head.Return value)
  fold_return value = ap (fold-Stmt A step) (sym (rolls-Return value)) ∙ fold-roll-Stmt A step (head.Return value)
