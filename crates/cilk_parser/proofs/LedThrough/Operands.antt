-- A token behind an operand, where it begins no index.
use Rattle.std.proofs.Common.{◌≡◌, Bool, true, false, None, refl, ap, ◌∙◌}
use Rattle.cilk_tree.specs.declared.token.Sign.TheVariants as sign
use Rattle.cilk_tree.specs.declared.token.Token.{Token}
use Rattle.cilk_tree.specs.declared.token.Token.TheVariants.{Mark}
use Rattle.cilk_tree.specs.Syntax.{Expression, Numeral, Variable, Element, Group, Prefix, Infix}
use Rattle.cilk_parser.specs.Contexts.{ExpressionIn}
use Rattle.cilk_parser.specs.Steps.{Has, step, step_operand, step_operator, step_end, token_operator}

-- the token begins an index
abbrev pub is_index : Token → Bool
is_index (Mark sign.OpenBracket) = true
is_index _ = false

-- What may follow an expression ends it, or is an operator.
pub operand_step : (around : ExpressionIn) (operand : Expression) (token : Token) → is_index token ≡ false → step (Has around operand) token ≡ step_operand around operand token
unfolding step
operand_step around (Variable name) (Mark sign.OpenBracket) e = absurd (cc)
operand_step around (Variable name) token e = refl
operand_step around (Numeral value) token e = refl
operand_step around (Element name index) token e = refl
operand_step around (Group inner) token e = refl
operand_step around (Prefix operator operand) token e = refl
operand_step around (Infix left operator right) token e = refl

pub end_step : (around : ExpressionIn) (operand : Expression) (token : Token) → is_index token ≡ false → token_operator token ≡ None → step (Has around operand) token ≡ step_end around operand token
end_step around operand token other ends = operand_step around operand token other ∙ ap (step_operator around operand token) ends
