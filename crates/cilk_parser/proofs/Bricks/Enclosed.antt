-- An expression that a sign closes.
use Rattle.std.proofs.Common.{◌≡◌, ℕ, IsTrue, [], ◌∙◌, arith}
use Rattle.cilk_tree.specs.declared.token.Sign.{Sign}
use Rattle.cilk_tree.specs.declared.tree.Expr.{Expr}
use Rattle.cilk_tree.specs.Levels.{mark}
use Rattle.cilk_tree.specs.Syntax.{Expression}
use Rattle.cilk_parser.specs.declared.opening.Opening.{Opening}
use Rattle.cilk_parser.specs.declared.refusal.ParseRefusal.{ParseRefusal}
use Rattle.cilk_parser.specs.Contexts.{ExpressionIn}
use Rattle.cilk_parser.specs.Spots.{Spot, from, HasRead, LacksSign, stepping}
use Rattle.cilk_parser.specs.Phrases.{Encloses, Lacks, Parses, enclosed_phrase, expression_phrase, stops_below}
use Rattle.cilk_parser.specs.Steps.{State, Wants, step_end, step_only}
use Rattle.cilk_parser.proofs.Bricks.BehindOperand.{expression_ends}
use Rattle.cilk_parser.proofs.Bricks.Stepping.{expects_only, lacks_sign, passed_shorter, reads_sign, refuses_as, stepping_same}

module _ (level : ℕ) (opening : Opening) (closing : Sign) (own : ℕ) (old : Spot) where
  pub enclosed_lacks : (refusal : ParseRefusal) → Lacks (expression_phrase 0 level opening) old refusal → Lacks (enclosed_phrase level opening closing own) old refusal
  enclosed_lacks refusal lacks (around, after) encloses = lacks around encloses.fits

  module _ (middle : Spot) (tree : Expr) (read : Parses (expression_phrase 0 level opening) old middle tree) (stops : IsTrue (stops_below 0 middle.left)) where
    to_close : (around : ExpressionIn) (after : Expression → State) → Encloses level opening around own closing after → from (Wants around) old ≡ stepping (step_only (mark own closing) (after read.syntax)) middle
    to_close around after encloses =
        read.leads around encloses.fits ∙ expression_ends around read.syntax middle stops ∙
        stepping_same (step_end around read.syntax) (step_only (mark own closing) (after read.syntax)) middle (λ placed places first. encloses.closes read.syntax placed.token)

    pub enclosed_open : (refusal : ParseRefusal) → LacksSign closing own middle refusal → Lacks (enclosed_phrase level opening closing own) old refusal
    enclosed_open refusal lacks (around, after) encloses =
        refuses_as refusal _ _ (to_close around after encloses) (lacks_sign (step_only (mark own closing) (after read.syntax)) closing own (after read.syntax) (expects_only closing own (after read.syntax)) middle refusal lacks)

    pub enclosed_reads : (new : Spot) → HasRead closing own middle new → Parses (enclosed_phrase level opening closing own) old new tree
    enclosed_reads new closed = record {
      syntax = read.syntax;
      same = read.same;
      shorter = let a = passed_shorter own [] middle new closed.passed in let b = read.shorter in omega arith;
      leads = λ (around, after) encloses.
          to_close around after encloses ∙ reads_sign (step_only (mark own closing) (after read.syntax)) closing own (after read.syntax) (expects_only closing own (after read.syntax)) middle new closed;
    }
