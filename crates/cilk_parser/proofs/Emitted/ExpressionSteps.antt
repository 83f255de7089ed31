-- What the machine does in an expression.
use Rattle.std.proofs.Common.{◌≡◌, ℕ, ◌+◌, ◌≤◌, IsTrue, Option, Some, None, List, [], ◌∷◌, ◌++◌, refl, ap, sym, ◌∙◌, append_assoc, arith}
use Rattle.std.specs.Option.{IfSome}
use Rattle.cilk_tree.specs.declared.token.Sign.TheVariants as sign
use Rattle.cilk_tree.specs.declared.token.Token.{Token}
use Rattle.cilk_tree.specs.declared.token.Token.TheVariants.{Name, Number, Mark}
use Rattle.cilk_tree.specs.declared.tree.BinaryOp.{BinaryOp}
use Rattle.cilk_tree.specs.declared.count.Counted.TheVariants.{Operators}
use Rattle.cilk_tree.specs.declared.count.Count.TheVariants.{OneMore}
use Rattle.cilk_tree.specs.Levels.{counting, mark, operator_sign, spell_argument}
use Rattle.cilk_tree.specs.Syntax.{Expression, Numeral, Variable, Element, Group, Prefix, Infix, Value, Change, Storing, Returning, is_grouped, strength}
use Rattle.cilk_parser.specs.Contexts.{with_last, IfTaken, WhileBody, simple_level, statement_level, call_level, ExpressionIn, ValueOf, ArgumentOf, AddedAt, AddendOf, ChangedBy, StoredAt, StoredIn, IfCondition, WhileCondition, ForCondition, Printed, Returned, RightOf, Under, InIndex, InGroup, level_of}
use Rattle.cilk_parser.specs.Steps.{AtBody, AtForLast, Wants, Has, Awaits, AddComma, SimpleEnd, StoreAssign, PrintEnd, addition_of, after_addition, after_statement, with_operator, token_operator, step_awaited, step_argument, step_end, step_operator, step_operand, step_has, step_wants}
use Rattle.cilk_parser.proofs.Emitted.Advancing.{Advances, stands_as, on_here, advances_as, only_moves, spell_with_last, each_with_last, both}
use Rattle.cilk_parser.proofs.Emitted.AwaitedSteps.{awaited_moves, right_moves, argument_moves}
use Rattle.cilk_parser.proofs.Emitted.Completed.{after_addition_stands, after_statement_stands}
use Rattle.cilk_parser.proofs.Emitted.Operators.{least_most, infix_whole, prefix_whole, infix_spelled, prefix_spelled, operates}
use Rattle.cilk_parser.proofs.Signs.{strength_most, operator_token}
use Rattle.cilk_parser.proofs.Emitted.SoFar.{arguments_so_far, expression_so_far, has_so_far}
use Rattle.cilk_parser.proofs.Emitted.Valid.{IsOpen, IsOperand}

-- an operand that is no operation
operand_there : (around : ExpressionIn) (operand : Expression) → IsOpen around → IsTrue (is_grouped operand) → 8 ≤ strength operand → IsOperand around operand × (8 ≤ strength operand)
operand_there around operand opened grouped most = (record { opened = opened; grouped = grouped; strong = let a = least_most around in omega arith }, most)

-- ---- where an operand is wanted

pub wants_moves : (around : ExpressionIn) (token : Token) → IsOpen around → IfSome (step_wants around token) (Advances (expression_so_far around) token)
wants_moves around (Number value) opened = on_here _ _ _ (operand_there around (Numeral value) opened refl (omega arith)) refl refl
wants_moves around (Name name) opened = on_here _ _ _ (operand_there around (Variable name) opened refl (omega arith)) refl refl
wants_moves around (Mark sign.OpenParen) opened = on_here _ _ _ opened refl refl
wants_moves around (Mark sign.Minus) opened = on_here _ _ _ opened refl refl
wants_moves around (Mark sign.Bang) opened = on_here _ _ _ opened refl refl
wants_moves around _ opened = tt

-- ---- where the token ends the expression

end_moves : (around : ExpressionIn) (operand : Expression) (token : Token) → IsOperand around operand → IfSome (step_end around operand token) (Advances (has_so_far around operand) token)
end_moves (RightOf around left operator) operand token h =
    advances_as _ _ token (step_end around (Infix left operator operand) token) (sym (infix_spelled around left operand operator)) (end_moves around (Infix left operator operand) token (infix_whole around left operand operator h))
end_moves (Under around operator) operand token h =
    advances_as _ _ token (step_end around (Prefix operator operand) token) (sym (prefix_spelled around operand operator)) (end_moves around (Prefix operator operand) token (prefix_whole around operand operator h))
end_moves (InGroup around) operand token h =
    only_moves _ (mark (level_of around) sign.CloseParen) (Has around (Group operand)) token (record { valid = operand_there around (Group operand) h.opened h.grouped (omega arith); same = simp append_assoc; settled = refl })
end_moves (InIndex around name) operand token h =
    only_moves _ (mark (level_of around) sign.CloseBracket) (Has around (Element name operand)) token
    (record { valid = operand_there around (Element name operand) h.opened h.grouped (omega arith); same = simp append_assoc; settled = refl })
end_moves (ValueOf outer) operand token h = right_moves outer (Value operand) token h.opened h.grouped
end_moves (ArgumentOf outer spawned name before) operand token h =
    advances_as _ _ token (step_argument outer spawned name (with_last before operand) token)
    (ap (λ s. arguments_so_far outer spawned name None ++ s) (spell_with_last (call_level outer) (spell_argument (call_level outer)) before operand) ∙ simp append_assoc)
    (argument_moves outer spawned name (with_last before operand) token h.opened.0 (each_with_last is_grouped before operand h.opened.1 h.grouped))
end_moves (AddedAt outer name) operand token h =
    only_moves _ (mark (call_level outer) sign.CloseBracket) (Awaits (AddComma outer name operand)) token (record { valid = (h.opened, h.grouped); same = simp append_assoc; settled = refl })
end_moves (AddendOf outer name index) operand token h =
    only_moves _ (mark (call_level outer) sign.CloseParen) (after_addition outer (addition_of name index operand)) token
    (stands_as _ _ _ (after_addition_stands outer (addition_of name index operand) h.opened.0 (both h.opened.1 h.grouped)) (simp append_assoc))
end_moves (ChangedBy outer name direction) operand token h =
    advances_as _ _ token (step_awaited (SimpleEnd outer (Change name direction operand)) token) (simp append_assoc) (awaited_moves (SimpleEnd outer (Change name direction operand)) token (h.opened, h.grouped))
end_moves (StoredAt outer name) operand token h =
    only_moves _ (mark (simple_level outer) sign.CloseBracket) (Awaits (StoreAssign outer name operand)) token (record { valid = (h.opened, h.grouped); same = simp append_assoc; settled = refl })
end_moves (StoredIn outer name index) operand token h =
    advances_as _ _ token (step_awaited (SimpleEnd outer (Storing name index operand)) token) (simp append_assoc) (awaited_moves (SimpleEnd outer (Storing name index operand)) token (h.opened.0, both h.opened.1 h.grouped))
end_moves (IfCondition outer) operand token h =
    only_moves _ (mark (statement_level outer) sign.CloseParen) (AtBody (IfTaken outer operand)) token (record { valid = (h.opened, h.grouped); same = simp append_assoc; settled = refl })
end_moves (WhileCondition outer) operand token h =
    only_moves _ (mark (statement_level outer) sign.CloseParen) (AtBody (WhileBody outer operand)) token (record { valid = (h.opened, h.grouped); same = simp append_assoc; settled = refl })
end_moves (ForCondition outer start) operand token h =
    only_moves _ (mark (statement_level outer + 1) sign.Semicolon) (AtForLast outer start (Some operand)) token
    (record { valid = (h.opened.0, h.opened.1, h.grouped); same = simp append_assoc; settled = refl })
end_moves (Printed outer) operand token h =
    only_moves _ (mark (statement_level outer) sign.CloseParen) (Awaits (PrintEnd outer operand)) token (record { valid = (h.opened, h.grouped); same = simp append_assoc; settled = refl })
end_moves (Returned outer) operand token h =
    only_moves _ (mark (statement_level outer) sign.Semicolon) (after_statement outer (Returning (Some operand))) token
    (stands_as _ _ _ (after_statement_stands outer (Returning (Some operand)) h.opened h.grouped refl) (simp append_assoc))

-- ---- behind an operand

operator_moves : (around : ExpressionIn) (operand : Expression) (token : Token) (operator : Option BinaryOp) → IfSome operator (λ known. Mark (operator_sign known) ≡ token) →
    IsOperand around operand → 8 ≤ strength operand → IfSome (step_operator around operand token operator) (Advances (has_so_far around operand) token)
operator_moves around operand token None written h most = end_moves around operand token h
operator_moves around operand token (Some operator) written h most =
    let on = operates operator around operand h (let a = strength_most operator in omega arith) in
    on_here _ (counting (level_of (with_operator around operand operator)) (OneMore Operators ∷ []) token) (Wants (with_operator around operand operator)) on.opened refl
    (on.same ∙ ap (λ t. has_so_far around operand ++ counting (level_of (with_operator around operand operator)) (OneMore Operators ∷ []) t ∷ []) written)

operand_moves : (around : ExpressionIn) (operand : Expression) (token : Token) → IsOperand around operand → 8 ≤ strength operand → IfSome (step_operand around operand token) (Advances (has_so_far around operand) token)
operand_moves around operand token h most = operator_moves around operand token (token_operator token) (operator_token token) h most

pub has_moves : (around : ExpressionIn) (operand : Expression) (token : Token) → IsOperand around operand → 8 ≤ strength operand → IfSome (step_has around operand token) (Advances (has_so_far around operand) token)
has_moves around (Variable name) (Mark sign.OpenBracket) h most = on_here _ _ _ h.opened refl (simp append_assoc)
has_moves around operand token h most = operand_moves around operand token h most

-- a name may stand where an operand is wanted
pub variable_there : (around : ExpressionIn) (name : List ℕ) → IsOpen around → IsOperand around (Variable name) × (8 ≤ strength (Variable name))
variable_there around name opened = operand_there around (Variable name) opened refl (omega arith)
