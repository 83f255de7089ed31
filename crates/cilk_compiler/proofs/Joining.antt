-- The code of `x op y`, part by part.
use Rattle.std.proofs.Common.{◌≡◌, ℕ, List, [], ◌∷◌, ◌++◌, length, refl, sym, ap, ◌∙◌, append_assoc, length-append}
use Rattle.cilk_tree.specs.declared.tree.BinaryOp.{BinaryOp}
use Rattle.cilk_tree.specs.declared.tree.BinaryOp.TheVariants as op
use Rattle.compiled_code.specs.Emitted.{binary_code, then_operate}
use Rattle.machine_code.specs.declared.instr.Instr.{Instr}
use Rattle.machine_code.specs.declared.instr.Instr.TheVariants.{Add, Sub, Mul, Div, Rem, Eq, Ne, Lt, Le, Gt, Ge}
use Rattle.cilk_tree.specs.declared.tree.Expr as source_expr
use Rattle.cilk_tree.specs.declared.tree.Expr.TheVariants as variant
use Rattle.cilk_meaning.proofs.Resolving.{resolved_binary}
use Rattle.compiled_code.specs.Emitted.{expr_code}
use Rattle.cilk_compiler.specs.declared.emitter.Emitter.{Emitter}
use Rattle.cilk_compiler.specs.declared.join.Join.{Join}
use Rattle.cilk_compiler.specs.Emitting.{expr_in, with_expr, with_instrs}
use Rattle.cilk_compiler.specs.Joins.{opened, join_of, joined}
use Rattle.cilk_compiler.proofs.Patching.{and_patched, or_patched}

module _ (old left : List Instr) (right : ℕ → List Instr) where
  operated : (instr : Instr) → ((old ++ left) ++ right (length (old ++ left))) ++ instr ∷ [] ≡ old ++ then_operate instr (length old) left right
  operated instr =
      append_assoc (old ++ left) (right (length (old ++ left))) (instr ∷ [])
      ∙ append_assoc old left (right (length (old ++ left)) ++ instr ∷ [])
      ∙ ap (λ n. old ++ (left ++ (right n ++ instr ∷ []))) (length-append old left)

  -- what stands between the operands and what comes behind them make the operator's code
  pub operands_join : (operator : BinaryOp) →
      joined (join_of operator (length (old ++ left))) (opened operator (old ++ left) ++ right (length (opened operator (old ++ left))))
      ≡ old ++ binary_code operator (length old) left right
  operands_join op.And = and_patched old left right _ refl
  operands_join op.Or = or_patched old left right (length (old ++ left)) _ _ refl refl refl
  operands_join op.Eq = operated Eq
  operands_join op.Ne = operated Ne
  operands_join op.Lt = operated Lt
  operands_join op.Le = operated Le
  operands_join op.Gt = operated Gt
  operands_join op.Ge = operated Ge
  operands_join op.Add = operated Add
  operands_join op.Sub = operated Sub
  operands_join op.Mul = operated Mul
  operands_join op.Div = operated Div
  operands_join op.Rem = operated Rem

-- the steps of the code of `x op y`
module _ (old : Emitter) (operator : BinaryOp) (left right : source_expr.Expr) (first opening second : Emitter) (join : Join)
    (first_is : first ≡ with_expr (expr_in old left) old) (opening_is : opening ≡ with_instrs (opened operator first.instrs) first)
    (join_is : join ≡ join_of operator (length first.instrs)) (second_is : second ≡ with_expr (expr_in opening right) opening) where
  abbrev opens : Emitter → Emitter
  opens e = with_instrs (opened operator e.instrs) e

  opening_all : opening ≡ opens (with_expr (expr_in old left) old)
  opening_all = opening_is ∙ ap opens first_is

  -- the right operand stands for the same there
  pub right_same : expr_in opening right ≡ expr_in old right
  right_same = ap (λ e. expr_in e right) opening_all

  pub binary_made : (closed : Emitter) (expr : source_expr.Expr) → expr ≡ variant.Binary operator left right → closed ≡ with_instrs (joined join second.instrs) second → closed ≡ with_expr (expr_in old expr) old
  binary_made closed expr expr_is closed_is =
      let one = expr_code (length old.instrs) (expr_in old left) in
      let other : ℕ → List Instr = λ n. expr_code n (expr_in old right) in
      let all : second ≡ with_expr (expr_in old right) (opens (with_expr (expr_in old left) old)) = second_is ∙ ap (λ e. with_expr (expr_in e right) e) opening_all in
      let join_all : join ≡ join_of operator (length (old.instrs ++ one)) = join_is ∙ ap (λ (e : Emitter). join_of operator (length e.instrs)) first_is in
      closed_is
      ∙ (λ i. with_instrs (joined (join_all i) (all i).instrs) (all i))
      ∙ ap (λ l. with_instrs l old) (operands_join old.instrs one other operator)
      ∙ ap (λ x. with_expr x old) (sym (ap (expr_in old) expr_is ∙ resolved_binary old.globals.now operator left right old.locals.scope))
