-- An operator behind an operand.
use Rattle.std.proofs.Common.{◌≡◌, ◌+◌, ◌≤◌, Bool, true, false, nat_lt, if◌then◌else◌, List, [], ◌∷◌, ◌++◌, refl, sym, subst, append_assoc, arith}
use Rattle.std.proofs.lemmas.Bool.{le-leb, lt-ltb, ltb-true, ltb-false}
use Rattle.cilk_tree.specs.declared.token.Token.TheVariants.{Mark}
use Rattle.cilk_tree.specs.declared.tree.BinaryOp.{BinaryOp}
use Rattle.cilk_tree.specs.declared.tree.UnaryOp.{UnaryOp}
use Rattle.cilk_tree.specs.declared.count.Counted.TheVariants.{Operators}
use Rattle.cilk_tree.specs.declared.count.Count.TheVariants.{OneMore}
use Rattle.cilk_tree.specs.Levels.{Spelled, counting, operator_sign}
use Rattle.cilk_tree.specs.Syntax.{Expression, Prefix, Infix, operator_strength, strength}
use Rattle.cilk_parser.specs.Contexts.{ExpressionIn, ValueOf, ArgumentOf, AddedAt, AddendOf, ChangedBy, StoredAt, StoredIn, IfCondition, WhileCondition, ForCondition, Printed, Returned, RightOf, Under, InIndex, InGroup, level_of, least_strength}
use Rattle.cilk_parser.specs.Steps.{with_operator}
use Rattle.cilk_parser.proofs.Emitted.Advancing.{both}
use Rattle.cilk_parser.proofs.Signs.{strength_most}
use Rattle.cilk_parser.proofs.Emitted.SoFar.{expression_so_far, has_so_far}
use Rattle.cilk_parser.proofs.Emitted.Valid.{IsOpen, IsOperand}

pub least_most : (around : ExpressionIn) → least_strength around ≤ 7
least_most (RightOf around left operator) = omega (arith, strength_most operator)
least_most (Under around operator) = omega arith
least_most (ValueOf outer) = omega arith
least_most (ArgumentOf outer spawned name before) = omega arith
least_most (AddedAt outer name) = omega arith
least_most (AddendOf outer name index) = omega arith
least_most (ChangedBy outer name direction) = omega arith
least_most (StoredAt outer name) = omega arith
least_most (StoredIn outer name index) = omega arith
least_most (IfCondition outer) = omega arith
least_most (WhileCondition outer) = omega arith
least_most (ForCondition outer start) = omega arith
least_most (Printed outer) = omega arith
least_most (Returned outer) = omega arith
least_most (InIndex around name) = omega arith
least_most (InGroup around) = omega arith

-- The operator before an operand makes one whole of both.
pub infix_whole : (around : ExpressionIn) (left right : Expression) (operator : BinaryOp) → IsOperand (RightOf around left operator) right → IsOperand around (Infix left operator right)
infix_whole around left right operator h = record {
  opened = h.opened.0;
  grouped = both (both (both (le-leb _ _ h.opened.2) (lt-ltb _ _ (let a : operator_strength operator + 1 ≤ strength right = h.strong in omega arith))) h.opened.1) h.grouped;
  strong = h.opened.3;
}

pub prefix_whole : (around : ExpressionIn) (operand : Expression) (operator : UnaryOp) → IsOperand (Under around operator) operand → IsOperand around (Prefix operator operand)
prefix_whole around operand operator h = record { opened = h.opened; grouped = both (le-leb _ _ h.strong) h.grouped; strong = least_most around }

pub infix_spelled : (around : ExpressionIn) (left right : Expression) (operator : BinaryOp) → has_so_far (RightOf around left operator) right ≡ has_so_far around (Infix left operator right)
infix_spelled around left right operator = simp append_assoc

pub prefix_spelled : (around : ExpressionIn) (operand : Expression) (operator : UnaryOp) → has_so_far (Under around operator) operand ≡ has_so_far around (Prefix operator operand)
prefix_spelled around operand operator = simp append_assoc

-- The operator goes on with the operand.
pub record Operates (seen : List Spelled) (operator : BinaryOp) (next : ExpressionIn) : Type 0 where
  pub opened : IsOpen next
  pub same : expression_so_far next ≡ seen ++ counting (level_of next) (OneMore Operators ∷ []) (Mark (operator_sign operator)) ∷ []

module _ (operator : BinaryOp) where
  taken : (around : ExpressionIn) (operand : Expression) → IsOperand around operand → operator_strength operator ≤ strength operand → least_strength around ≤ operator_strength operator →
      Operates (has_so_far around operand) operator (RightOf around operand operator)
  taken around operand h weak strong = record { opened = (h.opened, h.grouped, weak, strong); same = refl }

  choice : (around : ExpressionIn) (left operand : Expression) (before : BinaryOp) (stronger : Bool) → nat_lt (operator_strength before) (operator_strength operator) ≡ stronger →
      IsOperand (RightOf around left before) operand → operator_strength operator ≤ strength operand →
      (operator_strength operator ≤ operator_strength before → Operates (has_so_far around (Infix left before operand)) operator (with_operator around (Infix left before operand) operator)) →
      Operates (has_so_far (RightOf around left before) operand) operator
      (if stronger then RightOf (RightOf around left before) operand operator else with_operator around (Infix left before operand) operator)
  choice around left operand before true test h weak other = taken (RightOf around left before) operand h weak (let a = ltb-true (operator_strength before) (operator_strength operator) test in omega arith)
  choice around left operand before false test h weak other =
      subst (λ s. Operates s operator (with_operator around (Infix left before operand) operator)) (sym (infix_spelled around left operand before))
      (other (ltb-false (operator_strength before) (operator_strength operator) test))

  pub operates : (around : ExpressionIn) (operand : Expression) → IsOperand around operand → operator_strength operator ≤ strength operand → Operates (has_so_far around operand) operator (with_operator around operand operator)
  operates (RightOf around left before) operand h weak =
      choice around left operand before (nat_lt (operator_strength before) (operator_strength operator)) refl h weak
      (λ weaker. operates around (Infix left before operand) (infix_whole around left operand before h) weaker)
  operates (Under around before) operand h weak =
      subst (λ s. Operates s operator (with_operator around (Prefix before operand) operator)) (sym (prefix_spelled around operand before))
      (operates around (Prefix before operand) (prefix_whole around operand before h) (let a = strength_most operator in omega arith))
  operates (ValueOf outer) operand h weak = taken (ValueOf outer) operand h weak (omega arith)
  operates (ArgumentOf outer spawned name before) operand h weak = taken (ArgumentOf outer spawned name before) operand h weak (omega arith)
  operates (AddedAt outer name) operand h weak = taken (AddedAt outer name) operand h weak (omega arith)
  operates (AddendOf outer name index) operand h weak = taken (AddendOf outer name index) operand h weak (omega arith)
  operates (ChangedBy outer name direction) operand h weak = taken (ChangedBy outer name direction) operand h weak (omega arith)
  operates (StoredAt outer name) operand h weak = taken (StoredAt outer name) operand h weak (omega arith)
  operates (StoredIn outer name index) operand h weak = taken (StoredIn outer name index) operand h weak (omega arith)
  operates (IfCondition outer) operand h weak = taken (IfCondition outer) operand h weak (omega arith)
  operates (WhileCondition outer) operand h weak = taken (WhileCondition outer) operand h weak (omega arith)
  operates (ForCondition outer start) operand h weak = taken (ForCondition outer start) operand h weak (omega arith)
  operates (Printed outer) operand h weak = taken (Printed outer) operand h weak (omega arith)
  operates (Returned outer) operand h weak = taken (Returned outer) operand h weak (omega arith)
  operates (InIndex around name) operand h weak = taken (InIndex around name) operand h weak (omega arith)
  operates (InGroup around) operand h weak = taken (InGroup around) operand h weak (omega arith)
