-- How the machine goes on behind an operand.
use Rattle.std.proofs.Common.{◌≡◌, ℕ, ◌+◌, ◌≤◌, true, false, nat_lt, IsTrue, Option, Some, None, List, [], ◌∷◌, refl, ap, ◌∙◌, subst, arith}
use Rattle.std.specs.Option.{option_map_or}
use Rattle.std.proofs.lemmas.Bool.{lt-ltb, le-ltb, ltb-true}
use Rattle.cilk_tree.specs.declared.count.Count.TheVariants.{OneMore}
use Rattle.cilk_tree.specs.declared.count.Counted.TheVariants.{Operators}
use Rattle.cilk_tree.specs.declared.token.Placed.{Placed}
use Rattle.cilk_tree.specs.declared.token.Sign.TheVariants as sign
use Rattle.cilk_tree.specs.declared.token.Token.{Token}
use Rattle.cilk_tree.specs.declared.token.Token.TheVariants.{Mark}
use Rattle.cilk_tree.specs.declared.tree.BinaryOp.{BinaryOp}
use Rattle.cilk_tree.specs.declared.tree.UnaryOp.{UnaryOp}
use Rattle.cilk_tree.specs.Levels.{counting}
use Rattle.cilk_tree.specs.Syntax.{Expression, Variable, Prefix, Infix, operator_strength}
use Rattle.cilk_parser.specs.Contexts.{ExpressionIn, ValueOf, ArgumentOf, AddedAt, AddendOf, ChangedBy, StoredAt, StoredIn, IfCondition, WhileCondition, ForCondition, Printed, Returned, RightOf, Under, InIndex, InGroup, level_of, least_strength}
use Rattle.cilk_parser.specs.Spots.{Spot, from, is_sign, stepping}
use Rattle.cilk_parser.specs.Phrases.{stops_below}
use Rattle.cilk_parser.specs.Steps.{Wants, Has, goes_on, is_mark, step, step_end, step_has, step_operand, step_operator, token_operator, with_operator}
use Rattle.cilk_parser.proofs.Signs.{strength_most}
use Rattle.cilk_parser.proofs.Bricks.Stepping.{from_steps, sign_absent, stepping_same}

-- Before an operator that binds as strongly as it must, the operand is the operator's own.
operand_taken : (around : ExpressionIn) (operand : Expression) (operator : BinaryOp) → least_strength around ≤ operator_strength operator → with_operator around operand operator ≡ RightOf around operand operator
operand_taken (RightOf around left before) operand operator strong = rw (lt-ltb (operator_strength before) (operator_strength operator) (omega arith)) refl
operand_taken (Under around before) operand operator strong = absurd (omega (arith, strength_most operator))
operand_taken (ValueOf outer) operand operator strong = refl
operand_taken (ArgumentOf outer spawned name before) operand operator strong = refl
operand_taken (AddedAt outer name) operand operator strong = refl
operand_taken (AddendOf outer name index) operand operator strong = refl
operand_taken (ChangedBy outer name direction) operand operator strong = refl
operand_taken (StoredAt outer name) operand operator strong = refl
operand_taken (StoredIn outer name index) operand operator strong = refl
operand_taken (IfCondition outer) operand operator strong = refl
operand_taken (WhileCondition outer) operand operator strong = refl
operand_taken (ForCondition outer start) operand operator strong = refl
operand_taken (Printed outer) operand operator strong = refl
operand_taken (Returned outer) operand operator strong = refl
operand_taken (InIndex around name) operand operator strong = refl
operand_taken (InGroup around) operand operator strong = refl

-- With such an operator the machine wants its right operand.
pub operator_taken : (around : ExpressionIn) (operand : Expression) (token : Token) (operator : BinaryOp) → token_operator token ≡ Some operator → least_strength around ≤ operator_strength operator →
    step_operand around operand token ≡ goes_on (counting (level_of around) (OneMore Operators ∷ []) token) (Wants (RightOf around operand operator))
operator_taken around operand token operator known strong =
    ap (step_operator around operand token) known ∙
    ap (λ next. goes_on (counting (level_of next) (OneMore Operators ∷ []) token) (Wants next)) (operand_taken around operand operator strong)

-- ---- two ways to stand behind an operand

stops_at : (least : ℕ) (left places : List Placed) (placed : Placed) → left ≡ placed ∷ places → IsTrue (stops_below least left) →
    IsTrue (option_map_or (λ operator. nat_lt (operator_strength operator) least) (token_operator placed.token) true)
stops_at least left places placed first stops = subst (λ l. IsTrue (stops_below least l)) first stops

same_as_infix : (around : ExpressionIn) (left right : Expression) (operator : BinaryOp) (token : Token) (next : Option BinaryOp) →
    IsTrue (option_map_or (λ other. nat_lt (operator_strength other) (operator_strength operator + 1)) next true) →
    step_operator (RightOf around left operator) right token next ≡ step_operator around (Infix left operator right) token next
same_as_infix around left right operator token None stops = refl
same_as_infix around left right operator token (Some other) stops =
    rw (le-ltb (operator_strength operator) (operator_strength other) (let a = ltb-true (operator_strength other) (operator_strength operator + 1) stops in omega arith)) refl

-- Where no stronger operator follows, the right operand is whole.
pub right_is_whole : (around : ExpressionIn) (left right : Expression) (operator : BinaryOp) (spot : Spot) → IsTrue (stops_below (operator_strength operator + 1) spot.left) →
    stepping (step_operand (RightOf around left operator) right) spot ≡ stepping (step_operand around (Infix left operator right)) spot
right_is_whole around left right operator spot stops =
    stepping_same (step_operand (RightOf around left operator) right) (step_operand around (Infix left operator right)) spot
    (λ placed places first. same_as_infix around left right operator placed.token (token_operator placed.token) (stops_at (operator_strength operator + 1) spot.left places placed first stops))

same_as_prefix : (around : ExpressionIn) (operator : UnaryOp) (operand : Expression) (token : Token) (next : Option BinaryOp) →
    step_operator (Under around operator) operand token next ≡ step_operator around (Prefix operator operand) token next
same_as_prefix around operator operand token None = refl
same_as_prefix around operator operand token (Some other) = refl

-- The operand of a unary operator is whole.
pub operand_is_whole : (around : ExpressionIn) (operator : UnaryOp) (operand : Expression) (spot : Spot) →
    stepping (step_operand (Under around operator) operand) spot ≡ stepping (step_operand around (Prefix operator operand)) spot
operand_is_whole around operator operand spot =
    stepping_same (step_operand (Under around operator) operand) (step_operand around (Prefix operator operand)) spot
    (λ placed places first. same_as_prefix around operator operand placed.token (token_operator placed.token))

same_as_end : (around : ExpressionIn) (operand : Expression) (token : Token) (next : Option BinaryOp) → IsTrue (option_map_or (λ other. nat_lt (operator_strength other) 0) next true) →
    step_operator around operand token next ≡ step_end around operand token
same_as_end around operand token None stops = refl
same_as_end around operand token (Some other) stops = absurd (let a = ltb-true (operator_strength other) 0 stops in omega arith)

-- Where no operator follows, the expression ends.
pub expression_ends : (around : ExpressionIn) (operand : Expression) (spot : Spot) → IsTrue (stops_below 0 spot.left) → stepping (step_operand around operand) spot ≡ stepping (step_end around operand) spot
expression_ends around operand spot stops =
    stepping_same (step_operand around operand) (step_end around operand) spot
    (λ placed places first. same_as_end around operand placed.token (token_operator placed.token) (stops_at 0 spot.left places placed first stops))

-- ---- behind a name

no_index : (around : ExpressionIn) (name : List ℕ) (token : Token) → is_mark sign.OpenBracket token ≡ false → step_has around (Variable name) token ≡ step_operand around (Variable name) token
no_index around name (Mark sign.OpenBracket) other = absurd (cc)
no_index around name _ other = refl

-- Where no index follows, the name is an operand.
pub name_is_whole : (around : ExpressionIn) (name : List ℕ) (spot : Spot) → is_sign sign.OpenBracket spot.left ≡ false → from (Has around (Variable name)) spot ≡ stepping (step_operand around (Variable name)) spot
unfolding step
name_is_whole around name spot absent =
    from_steps (Has around (Variable name)) refl spot ∙
    stepping_same (step_has around (Variable name)) (step_operand around (Variable name)) spot
    (λ placed places first. no_index around name placed.token (sign_absent sign.OpenBracket spot.left places placed first absent))
