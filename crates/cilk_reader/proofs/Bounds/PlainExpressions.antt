-- The canonical syntax of an expression passes no limit where its own does not.
use Rattle.std.proofs.Common.{◌≡◌, ℕ, ◌+◌, ◌≤◌, Bool, true, false, cond, List, [], ◌∷◌, ◌++◌, refl, ap, ◌∙◌, arith}
use Rattle.std.specs.Prelude.{nat_le}
use Rattle.cilk_tree.specs.declared.token.Token.TheVariants.{Mark}
use Rattle.cilk_tree.specs.declared.token.Sign.TheVariants.{CloseParen, CloseBracket}
use Rattle.cilk_tree.specs.Canonical.{grouped, plain_expression, plain_expression_here}
use Rattle.cilk_tree.specs.declared.count.Counted.{Counted}
use Rattle.cilk_tree.specs.declared.count.Counted.TheVariants.{Operators}
use Rattle.cilk_tree.specs.declared.count.Count.{Count}
use Rattle.cilk_tree.specs.declared.count.Count.TheVariants.{OneMore}
use Rattle.cilk_tree.specs.Counts.{limit, tally}
use Rattle.cilk_tree.specs.Levels.{counting, mark, operator_sign, spell_expression}
use Rattle.cilk_tree.specs.Sugar.{expression_tree}
use Rattle.cilk_tree.specs.Syntax.{Expression, Numeral, Variable, Element, Group, Prefix, Infix, operator_strength, strength}
use Rattle.cilk_reader.proofs.Bounds.Folds.{fold_number, fold_local, fold_get, fold_unary, fold_binary}
use Rattle.cilk_reader.proofs.Bounds.Tallies.{Stays, after, after-append, stays_begin, stays_end, stays_both, tally-append, tally-one, Matches}

-- the expression with the parentheses that it needs and no others
abbrev pub regrouped : Expression → Expression
regrouped (Numeral value) = Numeral value
regrouped (Variable name) = Variable name
regrouped (Element name index) = Element name (regrouped index)
regrouped (Group inner) = regrouped inner
regrouped (Prefix operator operand) = Prefix operator (grouped 7 (regrouped operand))
regrouped (Infix left operator right) = Infix (grouped (operator_strength operator) (regrouped left)) operator (grouped (operator_strength operator + 1) (regrouped right))

pub plain-regrouped : (e : Expression) → plain_expression (expression_tree e) ≡ regrouped e
plain-regrouped (Numeral value) = fold_number plain_expression_here value
plain-regrouped (Variable name) = fold_local plain_expression_here name
plain-regrouped (Element name index) = fold_get plain_expression_here name (expression_tree index) ∙ ap (Element name) (plain-regrouped index)
plain-regrouped (Group inner) = plain-regrouped inner
plain-regrouped (Prefix operator operand) =
    fold_unary plain_expression_here operator (expression_tree operand) ∙ ap (λ e. Prefix operator (grouped 7 e)) (plain-regrouped operand)
plain-regrouped (Infix left operator right) =
    fold_binary plain_expression_here operator (expression_tree left) (expression_tree right)
    ∙ ap (λ e. Infix (grouped (operator_strength operator) e) operator (grouped (operator_strength operator + 1) (plain_expression (expression_tree right)))) (plain-regrouped left)
    ∙ ap (λ e. Infix (grouped (operator_strength operator) (regrouped left)) operator (grouped (operator_strength operator + 1) e)) (plain-regrouped right)

-- ---- how many operators

-- how many operators an expression has, where each counts as this
abbrev pub operators : ℕ → Expression → ℕ
operators each (Numeral value) = 0
operators each (Variable name) = 0
operators each (Element name index) = operators each index
operators each (Group inner) = operators each inner
operators each (Prefix operator operand) = each + operators each operand
operators each (Infix left operator right) = operators each left + each + operators each right

pub operators-grouped : (each least : ℕ) (e : Expression) → operators each (grouped least e) ≡ operators each e
operators-grouped each least e = either (nat_le least (strength e))
  where
    either : (b : Bool) → operators each (cond b e (Group e)) ≡ operators each e
    either true = refl
    either false = refl

pub operators-regrouped : (each : ℕ) (e : Expression) → operators each (regrouped e) ≡ operators each e
operators-regrouped each (Numeral value) = refl
operators-regrouped each (Variable name) = refl
operators-regrouped each (Element name index) = operators-regrouped each index
operators-regrouped each (Group inner) = operators-regrouped each inner
operators-regrouped each (Prefix operator operand) = omega (arith, operators-grouped each 7 (regrouped operand), operators-regrouped each operand)
operators-regrouped each (Infix left operator right) =
    omega (arith, operators-grouped each (operator_strength operator) (regrouped left), operators-regrouped each left, operators-grouped each (operator_strength operator + 1) (regrouped right), operators-regrouped each right)

pub operators-zero : (e : Expression) → operators 0 e ≡ 0
operators-zero (Numeral value) = refl
operators-zero (Variable name) = refl
operators-zero (Element name index) = operators-zero index
operators-zero (Group inner) = operators-zero inner
operators-zero (Prefix operator operand) = omega (arith, operators-zero operand)
operators-zero (Infix left operator right) = omega (arith, operators-zero left, operators-zero right)

-- what an operator counts as
abbrev pub weight : Counted → ℕ
weight counted = tally counted 0 (OneMore Operators ∷ [])

pub after-expression : (c : Counted) (n level : ℕ) (first : List Count) (e : Expression) → after c n (spell_expression level first e) ≡ tally c n first + operators (weight c) e
after-expression c n level first (Numeral value) = omega arith
after-expression c n level first (Variable name) = omega arith
after-expression c n level first (Element name index) =
    after-append c (tally c n first) (spell_expression (level + 1) [] index) (mark level CloseBracket ∷ []) ∙ after-expression c (tally c n first) (level + 1) [] index
after-expression c n level first (Group inner) =
    after-append c (tally c n first) (spell_expression (level + 1) [] inner) (mark level CloseParen ∷ []) ∙ after-expression c (tally c n first) (level + 1) [] inner
after-expression c n level first (Prefix operator operand) =
    after-expression c (tally c n (first ++ OneMore Operators ∷ [])) (level + 1) [] operand ∙ omega (arith, tally-append c n first (OneMore Operators ∷ []), tally-one c Operators (tally c n first))
after-expression c n level first (Infix left operator right) =
    after-append c n (spell_expression level first left) (counting level (OneMore Operators ∷ []) (Mark (operator_sign operator)) ∷ spell_expression level [] right)
    ∙ after-expression c (tally c (after c n (spell_expression level first left)) (OneMore Operators ∷ [])) level [] right
    ∙ omega (arith, tally-one c Operators (after c n (spell_expression level first left)), after-expression c n level first left)

pub stays_expression : (c : Counted) (n level : ℕ) (first : List Count) (e : Expression) → n ≤ limit c → tally c n first + operators (weight c) e ≤ limit c → Stays c n (spell_expression level first e)
stays_expression c n level first (Numeral value) less most = (less, omega arith)
stays_expression c n level first (Variable name) less most = (less, omega arith)
stays_expression c n level first (Element name index) less most =
    let m = tally c n first in
    let fits : m ≤ limit c = omega arith in
    let inner = stays_expression c m (level + 1) [] index fits most in
    let ended = stays_end c m (spell_expression (level + 1) [] index) inner in
    (less, (fits, stays_both c m (spell_expression (level + 1) [] index) (mark level CloseBracket ∷ []) inner (ended, ended)))
stays_expression c n level first (Group inner) less most =
    let m = tally c n first in
    let fits : m ≤ limit c = omega arith in
    let within = stays_expression c m (level + 1) [] inner fits most in
    let ended = stays_end c m (spell_expression (level + 1) [] inner) within in
    (less, stays_both c m (spell_expression (level + 1) [] inner) (mark level CloseParen ∷ []) within (ended, ended))
stays_expression c n level first (Prefix operator operand) less most =
    let m = tally c n (first ++ OneMore Operators ∷ []) in
    let is : m ≡ tally c n first + weight c = tally-append c n first (OneMore Operators ∷ []) ∙ tally-one c Operators (tally c n first) in
    (less, stays_expression c m (level + 1) [] operand (omega arith) (omega arith))
stays_expression c n level first (Infix left operator right) less most =
    let whole = spell_expression level first left in
    let k = after c n whole in
    let m = tally c k (OneMore Operators ∷ []) in
    let is : m ≡ k + weight c = tally-one c Operators k in
    let was : k ≡ tally c n first + operators (weight c) left = after-expression c n level first left in
    stays_both c n whole (counting level (OneMore Operators ∷ []) (Mark (operator_sign operator)) ∷ spell_expression level [] right)
    (stays_expression c n level first left less (omega arith)) (omega arith, stays_expression c m level [] right (omega arith) (omega arith))

pub expression_bound : (c : Counted) (n level : ℕ) (first : List Count) (e : Expression) → Stays c n (spell_expression level first e) → tally c n first + operators (weight c) e ≤ limit c
expression_bound c n level first e h = omega (arith, stays_end c n (spell_expression level first e) h, after-expression c n level first e)

-- expressions that have as many operators
pub matches_expressions : (c : Counted) (level other_level : ℕ) (first : List Count) (e other : Expression) → operators (weight c) e ≡ operators (weight c) other → Matches c (spell_expression level first e) (spell_expression other_level first other)
matches_expressions c level other_level first e other same = record {
  stays = λ n h. stays_expression c n other_level first other (stays_begin c n (spell_expression level first e) h) (omega (arith, expression_bound c n level first e h));
  same = λ n. omega (arith, after-expression c n level first e, after-expression c n other_level first other);
}
