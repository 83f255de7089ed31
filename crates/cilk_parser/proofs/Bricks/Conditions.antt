-- Conditions in parentheses.
use Rattle.std.proofs.Common.{◌≡◌, ℕ, [], refl, ap, ◌∙◌, arith}
use Rattle.cilk_tree.specs.declared.token.Sign.TheVariants.{OpenParen, CloseParen}
use Rattle.cilk_tree.specs.declared.tree.Expr.{Expr}
use Rattle.cilk_tree.specs.Levels.{mark}
use Rattle.cilk_tree.specs.Syntax.{Expression}
use Rattle.cilk_parser.specs.declared.opening.Opening.TheVariants.{Whole}
use Rattle.cilk_parser.specs.declared.refusal.ParseRefusal.{ParseRefusal}
use Rattle.cilk_parser.specs.Contexts.{ExpressionIn, StatementIn, IfTaken, WhileBody, IfCondition, WhileCondition, Printed, statement_level}
use Rattle.cilk_parser.specs.Spots.{Spot, from, HasRead, LacksSign}
use Rattle.cilk_parser.specs.Phrases.{IsCondition, Lacks, Parses, condition_phrase, enclosed_phrase}
use Rattle.cilk_parser.specs.Steps.{State, Wants, Awaits, AtBody, IfOpen, WhileOpen, PrintOpen, PrintEnd, step, step_only}
use Rattle.cilk_parser.proofs.Bricks.Stepping.{Expects, expects_only, from_steps, lacks_sign, passed_shorter, reads_sign, refuses_as}

opens_it : (level : ℕ) (around : ExpressionIn) (before : State) (after : Expression → State) → IsCondition level around before after → Expects (step before) OpenParen level (Wants around)
opens_it level around before after is =
    let only = expects_only OpenParen level (Wants around) in
    record { here = is.opens _ ∙ only.here; only = λ token other. is.opens token ∙ only.only token other }

pub condition_unopened : (level : ℕ) (old : Spot) (refusal : ParseRefusal) → LacksSign OpenParen level old refusal → Lacks (condition_phrase level) old refusal
condition_unopened level old refusal lacks (around, before, after) is =
    refuses_as refusal _ _ (from_steps before is.unfinished old) (lacks_sign (step before) OpenParen level (Wants around) (opens_it level around before after is) old refusal lacks)

module _ (level : ℕ) (old middle : Spot) (opened : HasRead OpenParen level old middle) where
  to_inner : (around : ExpressionIn) (before : State) (after : Expression → State) → IsCondition level around before after → from before old ≡ from (Wants around) middle
  to_inner around before after is = from_steps before is.unfinished old ∙ reads_sign (step before) OpenParen level (Wants around) (opens_it level around before after is) old middle opened

  pub condition_lacks : (refusal : ParseRefusal) → Lacks (enclosed_phrase level Whole CloseParen level) middle refusal → Lacks (condition_phrase level) old refusal
  condition_lacks refusal lacks (around, before, after) is = refuses_as refusal _ _ (to_inner around before after is) (lacks (around, after) is.encloses)

  pub condition_reads : (new : Spot) (tree : Expr) → Parses (enclosed_phrase level Whole CloseParen level) middle new tree → Parses (condition_phrase level) old new tree
  condition_reads new tree read = record {
    syntax = read.syntax;
    same = read.same;
    shorter = let a = passed_shorter level [] old middle opened.passed in let b = read.shorter in omega arith;
    leads = λ (around, before, after) is. to_inner around before after is ∙ read.leads (around, after) is.encloses;
  }

-- ---- where they stand

pub condition_of_if : (level : ℕ) (outer : StatementIn) → statement_level outer ≡ level → IsCondition level (IfCondition outer) (Awaits (IfOpen outer)) (λ syntax. AtBody (IfTaken outer syntax))
unfolding step
condition_of_if level outer same = record {
  opens = λ token. ap (λ l. step_only (mark l OpenParen) (Wants (IfCondition outer)) token) same;
  encloses = record { fits = record { strong = refl; same_level = same; counted = refl }; closes = λ syntax token. ap (λ l. step_only (mark l CloseParen) (AtBody (IfTaken outer syntax)) token) same };
  unfinished = refl;
}

pub condition_of_while : (level : ℕ) (outer : StatementIn) → statement_level outer ≡ level → IsCondition level (WhileCondition outer) (Awaits (WhileOpen outer)) (λ syntax. AtBody (WhileBody outer syntax))
unfolding step
condition_of_while level outer same = record {
  opens = λ token. ap (λ l. step_only (mark l OpenParen) (Wants (WhileCondition outer)) token) same;
  encloses = record { fits = record { strong = refl; same_level = same; counted = refl }; closes = λ syntax token. ap (λ l. step_only (mark l CloseParen) (AtBody (WhileBody outer syntax)) token) same };
  unfinished = refl;
}

pub value_of_print : (level : ℕ) (outer : StatementIn) → statement_level outer ≡ level → IsCondition level (Printed outer) (Awaits (PrintOpen outer)) (λ syntax. Awaits (PrintEnd outer syntax))
unfolding step
value_of_print level outer same = record {
  opens = λ token. ap (λ l. step_only (mark l OpenParen) (Wants (Printed outer)) token) same;
  encloses = record { fits = record { strong = refl; same_level = same; counted = refl }; closes = λ syntax token. ap (λ l. step_only (mark l CloseParen) (Awaits (PrintEnd outer syntax)) token) same };
  unfinished = refl;
}
