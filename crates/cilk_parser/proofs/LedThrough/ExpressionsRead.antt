-- The machine reads each expression.
use Rattle.std.proofs.Common.{◌≡◌, ℕ, ◌+◌, ◌<◌, ◌≤◌, false, ◌&&◌, nat_lt, nat_le, IsTrue, Option, Some, None, List, [], ◌∷◌, refl, ap, sym, ◌∙◌, arith}
use Rattle.std.specs.Option.{IfSome}
use Rattle.std.proofs.lemmas.Bool.{and_parts, ltb-true, leb-true, lt-ltb, le-ltb}
use Rattle.cilk_tree.specs.declared.token.Sign.TheVariants as sign
use Rattle.cilk_tree.specs.declared.token.Token.{Token}
use Rattle.cilk_tree.specs.declared.token.Token.TheVariants.{Name, Number, Mark}
use Rattle.cilk_tree.specs.declared.tree.BinaryOp.{BinaryOp}
use Rattle.cilk_tree.specs.declared.tree.BinaryOp.TheVariants as op
use Rattle.cilk_tree.specs.declared.tree.UnaryOp.{UnaryOp}
use Rattle.cilk_tree.specs.declared.tree.UnaryOp.TheVariants as unary
use Rattle.cilk_tree.specs.declared.count.Count.{Count}
use Rattle.cilk_tree.specs.declared.count.Count.TheVariants.{OneMore}
use Rattle.cilk_tree.specs.declared.count.Counted.TheVariants.{Operators}
use Rattle.cilk_tree.specs.Levels.{counting, operator_sign, unary_sign, spell_expression}
use Rattle.cilk_tree.specs.Syntax.{Expression, Numeral, Variable, Element, Group, Prefix, Infix, operator_strength, strength, is_grouped}
use Rattle.cilk_parser.specs.Contexts.{ExpressionIn, ValueOf, ArgumentOf, AddedAt, AddendOf, ChangedBy, StoredAt, StoredIn, IfCondition, WhileCondition, ForCondition, Printed, Returned, RightOf, Under, InIndex, InGroup, level_of, least_strength}
use Rattle.cilk_parser.specs.Run.{reads, walk}
use Rattle.cilk_parser.specs.Steps.{Wants, Has, step, goes_on, step_operator, step_end, token_operator, with_operator}
use Rattle.cilk_parser.proofs.LedThrough.Ahead.{ahead, ahead_append}
use Rattle.cilk_parser.proofs.LedThrough.Operands.{is_index, operand_step, end_step}
use Rattle.cilk_parser.proofs.Signs.{strength_most}
use Rattle.cilk_parser.proofs.Walks.{on_reads, reads_step, reads_after_walk}

-- ---- what follows an expression

-- No index begins there, and no operator that binds so strongly.
abbrev pub Follows : ℕ → List Token → Type 0
Follows bound [] = Unit {0}
Follows bound (token ∷ rest) = (is_index token ≡ false) × IfSome (token_operator token) (λ operator. operator_strength operator < bound)

bounded : (low high : ℕ) (operator : Option BinaryOp) → low ≤ high → IfSome operator (λ o. operator_strength o < low) → IfSome operator (λ o. operator_strength o < high)
bounded low high None most h = tt
bounded low high (Some operator) most h = omega arith

follows_sooner : (low high : ℕ) (rest : List Token) → low ≤ high → Follows low rest → Follows high rest
follows_sooner low high [] most h = tt
follows_sooner low high (token ∷ rest) most h = (h.0, bounded low high (token_operator token) most h.1)

-- the sign of an operator
operator_known : (operator : BinaryOp) → (is_index (Mark (operator_sign operator)) ≡ false) × (token_operator (Mark (operator_sign operator)) ≡ Some operator)
operator_known op.Or = (refl, refl)
operator_known op.And = (refl, refl)
operator_known op.Eq = (refl, refl)
operator_known op.Ne = (refl, refl)
operator_known op.Lt = (refl, refl)
operator_known op.Le = (refl, refl)
operator_known op.Gt = (refl, refl)
operator_known op.Ge = (refl, refl)
operator_known op.Add = (refl, refl)
operator_known op.Sub = (refl, refl)
operator_known op.Mul = (refl, refl)
operator_known op.Div = (refl, refl)
operator_known op.Rem = (refl, refl)

operator_follows : (bound : ℕ) (operator : BinaryOp) (rest : List Token) → operator_strength operator < bound → Follows bound (Mark (operator_sign operator) ∷ rest)
operator_follows bound operator rest below = let known = operator_known operator in (known.0, rw known.1 below)

-- ---- an operator makes one whole of what is before it and behind it

end_of_prefix : (around : ExpressionIn) (operator : UnaryOp) (operand : Expression) (token : Token) (next : Option BinaryOp) →
    step_operator (Under around operator) operand token next ≡ step_operator around (Prefix operator operand) token next
end_of_prefix around operator operand token None = refl
end_of_prefix around operator operand token (Some next) = refl

prefix_is_whole : (around : ExpressionIn) (operator : UnaryOp) (operand : Expression) (bound : ℕ) (rest : List Token) → Follows bound rest →
    reads (Has (Under around operator) operand) rest ≡ reads (Has around (Prefix operator operand)) rest
unfolding reads
prefix_is_whole around operator operand bound [] h = refl
prefix_is_whole around operator operand bound (token ∷ rest) h =
    ap (on_reads rest) (operand_step (Under around operator) operand token h.0 ∙ end_of_prefix around operator operand token (token_operator token) ∙ sym (operand_step around (Prefix operator operand) token h.0))

module _ (around : ExpressionIn) (left : Expression) (operator : BinaryOp) where
  weaker_goes_on : (right : Expression) (next : BinaryOp) → operator_strength next ≤ operator_strength operator →
      with_operator (RightOf around left operator) right next ≡ with_operator around (Infix left operator right) next
  weaker_goes_on right next weaker = rw (le-ltb (operator_strength operator) (operator_strength next) weaker)

  end_of_infix : (right : Expression) (token : Token) (next : Option BinaryOp) → IfSome next (λ o. operator_strength o < operator_strength operator + 1) →
      step_operator (RightOf around left operator) right token next ≡ step_operator around (Infix left operator right) token next
  end_of_infix right token None h = refl
  end_of_infix right token (Some next) h =
      ap (λ a. goes_on (counting (level_of a) (OneMore Operators ∷ []) token) (Wants a)) (weaker_goes_on right next (omega arith))

  infix_is_whole : (right : Expression) (rest : List Token) → Follows (operator_strength operator + 1) rest →
      reads (Has (RightOf around left operator) right) rest ≡ reads (Has around (Infix left operator right)) rest
  unfolding reads
  infix_is_whole right [] h = refl
  infix_is_whole right (token ∷ rest) h =
      ap (on_reads rest) (operand_step (RightOf around left operator) right token h.0 ∙ end_of_infix right token (token_operator token) h.1 ∙ sym (operand_step around (Infix left operator right) token h.0))

operator_taken : (around : ExpressionIn) (left : Expression) (operator : BinaryOp) → least_strength around ≤ operator_strength operator → with_operator around left operator ≡ RightOf around left operator
operator_taken (RightOf around before other) left operator h = rw (lt-ltb (operator_strength other) (operator_strength operator) (omega arith))
operator_taken (Under around other) left operator h = absurd (let most = strength_most operator in omega arith)
operator_taken (ValueOf outer) left operator h = refl
operator_taken (ArgumentOf outer spawned name before) left operator h = refl
operator_taken (AddedAt outer name) left operator h = refl
operator_taken (AddendOf outer name index) left operator h = refl
operator_taken (ChangedBy outer name direction) left operator h = refl
operator_taken (StoredAt outer name) left operator h = refl
operator_taken (StoredIn outer name index) left operator h = refl
operator_taken (IfCondition outer) left operator h = refl
operator_taken (WhileCondition outer) left operator h = refl
operator_taken (ForCondition outer start) left operator h = refl
operator_taken (Printed outer) left operator h = refl
operator_taken (Returned outer) left operator h = refl
operator_taken (InIndex around name) left operator h = refl
operator_taken (InGroup around) left operator h = refl

operator_read : (around : ExpressionIn) (left : Expression) (operator : BinaryOp) (rest : List Token) → least_strength around ≤ operator_strength operator →
    reads (Has around left) (Mark (operator_sign operator) ∷ rest) ≡ reads (Wants (RightOf around left operator)) rest
operator_read around left operator rest h =
    let known = operator_known operator in
    reads_step (Has around left) (Mark (operator_sign operator)) rest ∙
    ap (on_reads rest) (operand_step around left (Mark (operator_sign operator)) known.0 ∙ ap (step_operator around left (Mark (operator_sign operator))) known.1) ∙
    ap (λ a. reads (Wants a) rest) (operator_taken around left operator h)

-- ---- expressions

-- what `is_grouped` says of two operands
record AreGrouped (left right : Expression) (operator : BinaryOp) : Type 0 where
  weak : operator_strength operator ≤ strength left
  strong : operator_strength operator < strength right
  on_left : IsTrue (is_grouped left)
  on_right : IsTrue (is_grouped right)

are_grouped : (left right : Expression) (operator : BinaryOp) → IsTrue (is_grouped (Infix left operator right)) → AreGrouped left right operator
are_grouped left right operator h =
    let weak = nat_le (operator_strength operator) (strength left) in
    let strong = nat_lt (operator_strength operator) (strength right) in
    let whole = and_parts (weak && strong && is_grouped left) (is_grouped right) h in
    let three = and_parts (weak && strong) (is_grouped left) whole.0 in
    let two = and_parts weak strong three.0 in
    record { weak = leb-true _ _ two.0; strong = ltb-true _ _ two.1; on_left = three.1; on_right = whole.1 }

prefix_begins : (operator : UnaryOp) (around : ExpressionIn) (rest : List Token) → reads (Wants around) (Mark (unary_sign operator) ∷ rest) ≡ reads (Wants (Under around operator)) rest
unfolding step
prefix_begins unary.Neg around rest = reads_step (Wants around) (Mark sign.Minus) rest
prefix_begins unary.Not around rest = reads_step (Wants around) (Mark sign.Bang) rest

-- the token ends the operand
pub end_read : (around : ExpressionIn) (operand : Expression) (token : Token) (rest : List Token) → is_index token ≡ false → token_operator token ≡ None →
    reads (Has around operand) (token ∷ rest) ≡ on_reads rest (step_end around operand token)
end_read around operand token rest other ends = reads_step (Has around operand) token rest ∙ ap (on_reads rest) (end_step around operand token other ends)

pub expression_read : (e : Expression) (level : ℕ) (first : List Count) (around : ExpressionIn) (rest : List Token) → IsTrue (is_grouped e) → least_strength around ≤ strength e →
    Follows (strength e + 1) rest →
    reads (Wants around) (ahead (spell_expression level first e) rest) ≡ reads (Has around e) rest
unfolding step walk
expression_read (Numeral value) level first around rest grouped strong follows = reads_after_walk (Wants around) (Number value ∷ []) rest _ refl
expression_read (Variable name) level first around rest grouped strong follows = reads_after_walk (Wants around) (Name name ∷ []) rest _ refl
expression_read (Element name index) level first around rest grouped strong follows =
    reads_after_walk (Wants around) (Name name ∷ Mark sign.OpenBracket ∷ []) _ _ refl ∙
    ap (reads (Wants (InIndex around name))) (ahead_append (spell_expression (level + 1) [] index) _ rest) ∙
    expression_read index (level + 1) [] (InIndex around name) (Mark sign.CloseBracket ∷ rest) grouped (omega arith) (refl, tt) ∙
    end_read (InIndex around name) index (Mark sign.CloseBracket) rest refl refl
expression_read (Group inner) level first around rest grouped strong follows =
    reads_after_walk (Wants around) (Mark sign.OpenParen ∷ []) _ _ refl ∙
    ap (reads (Wants (InGroup around))) (ahead_append (spell_expression (level + 1) [] inner) _ rest) ∙
    expression_read inner (level + 1) [] (InGroup around) (Mark sign.CloseParen ∷ rest) grouped (omega arith) (refl, tt) ∙
    end_read (InGroup around) inner (Mark sign.CloseParen) rest refl refl
expression_read (Prefix operator operand) level first around rest grouped strong follows =
    let parts = and_parts (nat_le 7 (strength operand)) (is_grouped operand) grouped in
    let least : 7 ≤ strength operand = leb-true _ _ parts.0 in
    prefix_begins operator around (ahead (spell_expression (level + 1) [] operand) rest) ∙
    expression_read operand (level + 1) [] (Under around operator) rest parts.1 least (follows_sooner _ _ rest (omega arith) follows) ∙
    prefix_is_whole around operator operand _ rest follows
expression_read (Infix left operator right) level first around rest grouped strong follows =
    let parts = are_grouped left right operator grouped in
    ap (reads (Wants around)) (ahead_append (spell_expression level first left) _ rest) ∙
    expression_read left level first around (Mark (operator_sign operator) ∷ ahead (spell_expression level [] right) rest) parts.on_left (omega arith)
    (operator_follows _ operator (ahead (spell_expression level [] right) rest) (omega arith)) ∙
    operator_read around left operator (ahead (spell_expression level [] right) rest) strong ∙
    expression_read right level [] (RightOf around left operator) rest parts.on_right (omega arith) (follows_sooner _ _ rest (omega arith) follows) ∙
    infix_is_whole around left operator right rest follows
