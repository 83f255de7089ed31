-- What is read and refused where an operator follows an operand.
use Rattle.std.proofs.Common.{◌≡◌, ℕ, ◌+◌, ◌≤◌, IsTrue, Some, List, [], ◌∷◌, refl, ap, sym, ◌∙◌, subst, arith}
use Rattle.cilk_tree.specs.declared.count.Count.TheVariants.{OneMore}
use Rattle.cilk_tree.specs.declared.count.Counted.TheVariants.{Operators}
use Rattle.cilk_tree.specs.declared.token.Placed.{Placed}
use Rattle.cilk_tree.specs.declared.tree.BinaryOp.{BinaryOp}
use Rattle.cilk_tree.specs.declared.tree.Expr.{Expr}
use Rattle.cilk_tree.specs.declared.tree.Expr.TheVariants as expr
use Rattle.cilk_tree.specs.Levels.{counting}
use Rattle.cilk_tree.specs.Sugar.{expression_tree}
use Rattle.cilk_tree.specs.Syntax.{Infix, operator_strength}
use Rattle.cilk_parser.specs.declared.opening.Opening.{Opening}
use Rattle.cilk_parser.specs.declared.opening.Opening.TheVariants.{Inside}
use Rattle.cilk_parser.specs.declared.refusal.ParseRefusal.{ParseRefusal}
use Rattle.cilk_parser.specs.Contexts.{ExpressionIn, RightOf}
use Rattle.cilk_parser.specs.Spots.{Spot, from, HasPassed, IsOver}
use Rattle.cilk_parser.specs.Phrases.{Fits, HasOperator, Lacks, Parses, expression_phrase, stops_below}
use Rattle.cilk_parser.specs.Steps.{Wants, goes_on, step_operand, token_operator}
use Rattle.cilk_parser.proofs.Bricks.BehindOperand.{operator_taken, right_is_whole}
use Rattle.cilk_parser.proofs.Bricks.Stepping.{over_refuses, passed_shorter, passes_on, refuses_as}

module _ (least level : ℕ) (opening : Opening) (old middle : Spot) (left : Expr) (read : Parses (expression_phrase least level opening) old middle left) (operator : BinaryOp) (on : HasOperator least middle.left operator) where
  known_first : (placed : Placed) (rest : List Placed) → middle.left ≡ placed ∷ rest → token_operator placed.token ≡ Some operator
  known_first placed rest first = let same : placed ≡ on.placed = cc (first, on.same) in ap (λ p. token_operator p.token) same ∙ on.known

  goes_right : (around : ExpressionIn) → Fits least level opening around → (placed : Placed) (rest : List Placed) → middle.left ≡ placed ∷ rest →
      step_operand around read.syntax placed.token ≡ goes_on (counting level (OneMore Operators ∷ []) placed.token) (Wants (RightOf around read.syntax operator))
  goes_right around fits placed rest first =
      operator_taken around read.syntax placed.token operator (known_first placed rest first) (subst (λ n. n ≤ operator_strength operator) (sym fits.strong) on.strong) ∙
      ap (λ l. goes_on (counting l (OneMore Operators ∷ []) placed.token) (Wants (RightOf around read.syntax operator))) fits.same_level

  pub operator_over : (refusal : ParseRefusal) → IsOver level (OneMore Operators ∷ []) middle refusal → Lacks (expression_phrase least level opening) old refusal
  operator_over refusal over around fits =
      refuses_as refusal _ _ (read.leads around fits)
      (over_refuses (step_operand around read.syntax) (Wants (RightOf around read.syntax operator)) level (OneMore Operators ∷ []) middle refusal over (goes_right around fits over.placed over.rest over.first))

  module _ (start : Spot) (passed : HasPassed level (OneMore Operators ∷ []) middle start) (bound : ℕ) (strong : bound ≡ operator_strength operator) where
    to_right : (around : ExpressionIn) → Fits least level opening around → from (Wants around) old ≡ from (Wants (RightOf around read.syntax operator)) start
    to_right around fits =
        read.leads around fits ∙
        passes_on (step_operand around read.syntax) (Wants (RightOf around read.syntax operator)) level (OneMore Operators ∷ []) middle start passed (goes_right around fits passed.placed start.left passed.first)

    right_fits : (around : ExpressionIn) → Fits least level opening around → Fits (bound + 1) level Inside (RightOf around read.syntax operator)
    right_fits around fits = record { strong = ap (λ n. n + 1) (sym strong); same_level = fits.same_level; counted = refl }

    pub right_lacks : (refusal : ParseRefusal) → Lacks (expression_phrase (bound + 1) level Inside) start refusal → Lacks (expression_phrase least level opening) old refusal
    right_lacks refusal lacks around fits = refuses_as refusal _ _ (to_right around fits) (lacks (RightOf around read.syntax operator) (right_fits around fits))

    pub right_reads : (new : Spot) (right tree : Expr) → Parses (expression_phrase (bound + 1) level Inside) start new right → IsTrue (stops_below (bound + 1) new.left) → tree ≡ expr.Binary operator left right → Parses (expression_phrase least level opening) old new tree
    right_reads new right tree then stops same = record {
      syntax = Infix read.syntax operator then.syntax;
      same = same ∙ ap (λ e. expr.Binary operator e right) read.same ∙ ap (expr.Binary operator (expression_tree read.syntax)) then.same;
      shorter = let a = read.shorter in let b = passed_shorter level (OneMore Operators ∷ []) middle start passed in let d = then.shorter in omega arith;
      leads = λ around fits.
          to_right around fits ∙ then.leads (RightOf around read.syntax operator) (right_fits around fits) ∙
          right_is_whole around read.syntax then.syntax operator new (subst (λ n. IsTrue (stops_below (n + 1) new.left)) strong stops);
    }
