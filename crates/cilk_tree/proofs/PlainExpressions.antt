-- The concrete syntax of an expression's canonical text is grouped, and stands for the expression.
use Rattle.std.specs.Prelude.{◌≡◌, ℕ, ◌+◌, ◌<◌, ◌≤◌, true, false, nat_le, if◌then◌else◌, IsTrue}
use Rattle.std.proofs.Common.{refl, sym, ap, subst, ◌∙◌, arith}
use Rattle.std.proofs.lemmas.Bool.{and_from, leb-true, leb-false, le-leb, lt-ltb}
use Rattle.cilk_tree.specs.declared.tree.BinaryOp.{BinaryOp}
use Rattle.cilk_tree.specs.declared.tree.Expr.{Expr, roll-Expr, map-Expr, fold-roll-Expr, ind-Expr}
use Rattle.cilk_tree.specs.declared.tree.Expr.TheOpen as layer
use Rattle.cilk_tree.specs.declared.tree.Expr.TheOpen.{Expr-F}
use Rattle.cilk_tree.specs.declared.tree.Expr.TheVariants as expr
use Rattle.cilk_tree.specs.declared.tree.Expr.TheVariants.{rolls-Number, rolls-Local, rolls-Get, rolls-Unary, rolls-Binary}
use Rattle.cilk_tree.specs.Canonical.{grouped, plain_expression_here, plain_expression}
use Rattle.cilk_tree.specs.Sugar.{expression_tree}
use Rattle.cilk_tree.specs.Syntax.{Expression, Numeral, Variable, Element, Group, Prefix, Infix, operator_strength, strength, is_grouped}
use Rattle.cilk_tree.proofs.PrintedExpressions.{weak_operator}

tree_of_grouped : (least : ℕ) (e : Expression) → expression_tree (grouped least e) ≡ expression_tree e
tree_of_grouped least e = elim (nat_le least (strength e)) as (λ b. expression_tree (if b then e else Group e) ≡ expression_tree e) [ true ↦ refl | false ↦ refl ]

grouped_is_grouped : (least : ℕ) (e : Expression) → IsTrue (is_grouped e) → IsTrue (is_grouped (grouped least e))
grouped_is_grouped least e h = elim (nat_le least (strength e)) as (λ b. IsTrue (is_grouped (if b then e else Group e))) [ true ↦ h | false ↦ h ]

-- what is put in parentheses where it must binds as strongly as it must
grouped_is_strong : (least : ℕ) (e : Expression) → least ≤ 8 → nat_le least (strength (grouped least e)) ≡ true
grouped_is_strong least e h =
    elim (nat_le least (strength e)) as (λ b. nat_le least (strength e) ≡ b → nat_le least (strength (if b then e else Group e)) ≡ true) [ true ↦ λ is. is | false ↦ λ is. le-leb least 8 h ] refl

pub record IsPlain (e : Expr) : Type 0 where
  pub formed : IsTrue (is_grouped (plain_expression e))
  pub tree : expression_tree (plain_expression e) ≡ e

-- from what one layer's concrete syntax is
plain_from : (y : Expr-F Expr) (e : Expression) → plain_expression (roll-Expr y) ≡ e → IsTrue (is_grouped e) → expression_tree e ≡ roll-Expr y → IsPlain (roll-Expr y)
plain_from y e is formed tree = record {
  formed = subst (λ x. IsTrue (is_grouped x)) (sym is) formed;
  tree = ap expression_tree is ∙ tree;
}

-- the operands of an operator
infix_formed : (operator : BinaryOp) (left right : Expression) → IsTrue (is_grouped left) → IsTrue (is_grouped right)
    → IsTrue (is_grouped (Infix (grouped (operator_strength operator) left) operator (grouped (operator_strength operator + 1) right)))
infix_formed operator left right formed formed_too =
    let weak : operator_strength operator < 7 = leb-false 7 (operator_strength operator) (weak_operator operator) in
    let on_left = grouped_is_strong (operator_strength operator) left (omega arith) in
    let on_right = lt-ltb _ _ (let above : operator_strength operator + 1 ≤ strength (grouped (operator_strength operator + 1) right) = leb-true _ _ (grouped_is_strong (operator_strength operator + 1) right (omega arith)) in omega arith) in
    and_from _ _ (and_from _ _ (and_from _ _ on_left on_right) (grouped_is_grouped (operator_strength operator) left formed)) (grouped_is_grouped (operator_strength operator + 1) right formed_too)

layer_plain : (y : Expr-F ((e : Expr) × IsPlain e)) → IsPlain (roll-Expr (map-Expr _ Expr (λ e. e.0) y))
layer_plain (layer.Number value) =
    plain_from (layer.Number value) (Numeral value) (fold-roll-Expr Expression plain_expression_here (layer.Number value)) refl (sym (rolls-Number value))
layer_plain (layer.Local name) =
    plain_from (layer.Local name) (Variable name) (fold-roll-Expr Expression plain_expression_here (layer.Local name)) refl (sym (rolls-Local name))
layer_plain (layer.Get name index) =
    plain_from (layer.Get name index.0) (Element name (plain_expression index.0)) (fold-roll-Expr Expression plain_expression_here (layer.Get name index.0)) index.1.formed
    (ap (expr.Get name) index.1.tree ∙ sym (rolls-Get name index.0))
layer_plain (layer.Unary operator operand) =
    let inner = plain_expression operand.0 in
    plain_from (layer.Unary operator operand.0) (Prefix operator (grouped 7 inner)) (fold-roll-Expr Expression plain_expression_here (layer.Unary operator operand.0))
    (and_from _ _ (grouped_is_strong 7 inner (omega arith)) (grouped_is_grouped 7 inner operand.1.formed))
    (ap (expr.Unary operator) (tree_of_grouped 7 inner ∙ operand.1.tree) ∙ sym (rolls-Unary operator operand.0))
layer_plain (layer.Binary operator left right) =
    let on_left = plain_expression left.0 in
    let on_right = plain_expression right.0 in
    plain_from (layer.Binary operator left.0 right.0) (Infix (grouped (operator_strength operator) on_left) operator (grouped (operator_strength operator + 1) on_right))
    (fold-roll-Expr Expression plain_expression_here (layer.Binary operator left.0 right.0))
    (infix_formed operator on_left on_right left.1.formed right.1.formed)
    (ap (λ e. expr.Binary operator e (expression_tree (grouped (operator_strength operator + 1) on_right))) (tree_of_grouped (operator_strength operator) on_left ∙ left.1.tree)
    ∙ ap (λ e. expr.Binary operator left.0 e) (tree_of_grouped (operator_strength operator + 1) on_right ∙ right.1.tree)
    ∙ sym (rolls-Binary operator left.0 right.0))

pub plain_is_plain : (e : Expr) → IsPlain e
plain_is_plain = ind-Expr IsPlain (λ x y is. subst (λ z. IsPlain (roll-Expr z)) is (layer_plain y))
