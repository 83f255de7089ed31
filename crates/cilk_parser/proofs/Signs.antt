-- The signs that are the same, and those that are operators.
use Rattle.std.proofs.Common.{◌≡◌, ◌≤◌, true, refl, ap, arith}
use Rattle.std.specs.Option.{IfSome}
use Rattle.std.proofs.lemmas.Slice.Eq.{bytes_eq-Decides}
use Rattle.cilk_tree.specs.declared.token.Sign.TheVariants.{Plus, Minus, Star, Slash, Percent, Equal, NotEqual, Less, LessEqual, Greater, GreaterEqual, AndAnd, OrOr}
use Rattle.cilk_tree.specs.declared.token.Token.{Token}
use Rattle.cilk_tree.specs.declared.token.Token.TheVariants.{Name, Number, Word, Mark}
use Rattle.cilk_tree.specs.declared.tree.BinaryOp.{BinaryOp}
use Rattle.cilk_tree.specs.declared.tree.BinaryOp.TheVariants as op
use Rattle.cilk_tree.specs.Levels.{operator_sign}
use Rattle.cilk_tree.specs.Syntax.{operator_strength}
use Rattle.cilk_tree.specs.Token.{sign_text}
use Rattle.cilk_tree.proofs.Tables.{sign_injective}
use Rattle.cilk_parser.specs.Steps.{is_same_sign, token_operator}

pub same_sign : (one other : Token) → is_same_sign one other ≡ true → one ≡ other
same_sign (Mark one) (Mark other) e = ap Mark (sign_injective one other ((bytes_eq-Decides (sign_text one) (sign_text other)).0 e))
same_sign (Mark one) (Name name) e = absurd (cc)
same_sign (Mark one) (Number value) e = absurd (cc)
same_sign (Mark one) (Word word) e = absurd (cc)
same_sign (Name name) other e = absurd (cc)
same_sign (Number value) other e = absurd (cc)
same_sign (Word word) other e = absurd (cc)

pub strength_most : (operator : BinaryOp) → operator_strength operator ≤ 6
strength_most op.Or = omega arith
strength_most op.And = omega arith
strength_most op.Eq = omega arith
strength_most op.Ne = omega arith
strength_most op.Lt = omega arith
strength_most op.Le = omega arith
strength_most op.Gt = omega arith
strength_most op.Ge = omega arith
strength_most op.Add = omega arith
strength_most op.Sub = omega arith
strength_most op.Mul = omega arith
strength_most op.Div = omega arith
strength_most op.Rem = omega arith

-- A token that is an operator is its sign.
pub operator_token : (token : Token) → IfSome (token_operator token) (λ operator. Mark (operator_sign operator) ≡ token)
operator_token (Mark OrOr) = refl
operator_token (Mark AndAnd) = refl
operator_token (Mark Equal) = refl
operator_token (Mark NotEqual) = refl
operator_token (Mark Less) = refl
operator_token (Mark LessEqual) = refl
operator_token (Mark Greater) = refl
operator_token (Mark GreaterEqual) = refl
operator_token (Mark Plus) = refl
operator_token (Mark Minus) = refl
operator_token (Mark Star) = refl
operator_token (Mark Slash) = refl
operator_token (Mark Percent) = refl
operator_token _ = tt
