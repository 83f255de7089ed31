-- Where the body of an `if` or of a loop ends.
use Rattle.std.proofs.Common.{◌≡◌, false, Option, None, List, ◌∷◌, refl, sym, ◌∙◌}
use Rattle.cilk_tree.specs.declared.token.Keyword.TheVariants as word
use Rattle.cilk_tree.specs.declared.token.Placed.{Placed}
use Rattle.cilk_tree.specs.declared.token.Token.{Token}
use Rattle.cilk_tree.specs.declared.token.Token.TheVariants.{Word}
use Rattle.cilk_tree.specs.Syntax.{Expression, Simple, Start, Statement, IfAlone, IfElse, WhileLoop, ForLoop, Body}
use Rattle.cilk_parser.specs.Contexts.{BodyIn, IfTaken, IfOtherwise, WhileBody, ForBody, StatementIn, InInners, AsBody}
use Rattle.cilk_parser.specs.Spots.{Spot, from, is_keyword, is_keyword_token}
use Rattle.cilk_parser.specs.Steps.{Next, HasBody, Place, after_statement, ended_body, ended_statement, finish, otherwise_of_body, otherwise_of_statement, step, step_after_body, step_else, step_inner}
use Rattle.cilk_parser.proofs.Bricks.Stepping.{from_steps, keyword_absent, stepping_same}

-- how the machine goes on where a statement may be over: an `else` belongs to this `if`, and with another token this list goes on
abbrev step_behind : Option BodyIn → Place → Token → Option Next
step_behind otherwise place (Word word.Else) = step_else otherwise
step_behind otherwise place token = step_inner place.outer place.inners token

behind_body : (owner : BodyIn) (body : Body) (token : Token) → step_after_body owner body token ≡ step_behind (otherwise_of_body owner body) (ended_body owner body) token
behind_body owner body (Word word.Else) = refl
behind_body owner body _ = refl

behind_statement : (outer : StatementIn) (statement : Statement) (token : Token) → step (after_statement outer statement) token ≡ step_behind (otherwise_of_statement outer statement) (ended_statement outer statement) token
unfolding step
behind_statement (InInners outer before) statement (Word word.Else) = refl
behind_statement (InInners outer before) statement _ = refl
behind_statement (AsBody owner) statement (Word word.Else) = refl
behind_statement (AsBody owner) statement _ = refl

no_else : (one other : Option BodyIn) (place : Place) (token : Token) → is_keyword_token word.Else token ≡ false → step_behind one place token ≡ step_behind other place token
no_else one other place (Word word.Else) absent = absurd (cc)
no_else one other place _ absent = refl

never_ends : (outer : StatementIn) (statement : Statement) → finish (after_statement outer statement) ≡ None
never_ends (InInners outer before) statement = refl
never_ends (AsBody owner) statement = refl

module _ (owner : BodyIn) (body : Body) (outer : StatementIn) (statement : Statement) (spot : Spot) where
  ends_as : ((placed : Placed) (places : List Placed) → spot.left ≡ placed ∷ places → step_after_body owner body placed.token ≡ step (after_statement outer statement) placed.token) →
      from (HasBody owner body) spot ≡ from (after_statement outer statement) spot
  unfolding step
  ends_as same =
      from_steps (HasBody owner body) refl spot
      ∙ stepping_same (step_after_body owner body) (step (after_statement outer statement)) spot same
      ∙ sym (from_steps (after_statement outer statement) (never_ends outer statement) spot)

-- Where no `else` follows the body of an `if`, the `if` is over.
pub if_ends : (outer : StatementIn) (condition : Expression) (body : Body) (spot : Spot) → is_keyword word.Else spot.left ≡ false → from (HasBody (IfTaken outer condition) body) spot ≡ from (after_statement outer (IfAlone condition body)) spot
if_ends outer condition body spot absent =
    ends_as (IfTaken outer condition) body outer (IfAlone condition body) spot
    (λ placed places first.
    behind_body (IfTaken outer condition) body placed.token
    ∙ no_else (otherwise_of_body (IfTaken outer condition) body) (otherwise_of_statement outer (IfAlone condition body)) (ended_statement outer (IfAlone condition body)) placed.token (keyword_absent word.Else spot.left places placed first absent)
    ∙ sym (behind_statement outer (IfAlone condition body) placed.token))

-- Behind the body of an `else` or of a loop the statement is over, whatever follows.
pub else_ends : (outer : StatementIn) (condition : Expression) (taken body : Body) (spot : Spot) → from (HasBody (IfOtherwise outer condition taken) body) spot ≡ from (after_statement outer (IfElse condition taken body)) spot
else_ends outer condition taken body spot =
    ends_as (IfOtherwise outer condition taken) body outer (IfElse condition taken body) spot
    (λ placed places first. behind_body (IfOtherwise outer condition taken) body placed.token ∙ sym (behind_statement outer (IfElse condition taken body) placed.token))

pub while_ends : (outer : StatementIn) (condition : Expression) (body : Body) (spot : Spot) → from (HasBody (WhileBody outer condition) body) spot ≡ from (after_statement outer (WhileLoop condition body)) spot
while_ends outer condition body spot =
    ends_as (WhileBody outer condition) body outer (WhileLoop condition body) spot
    (λ placed places first. behind_body (WhileBody outer condition) body placed.token ∙ sym (behind_statement outer (WhileLoop condition body) placed.token))

pub for_ends : (outer : StatementIn) (start : Start) (condition : Option Expression) (last : Option Simple) (body : Body) (spot : Spot) →
    from (HasBody (ForBody outer start condition last) body) spot ≡ from (after_statement outer (ForLoop start condition last body)) spot
for_ends outer start condition last body spot =
    ends_as (ForBody outer start condition last) body outer (ForLoop start condition last body) spot
    (λ placed places first. behind_body (ForBody outer start condition last) body placed.token ∙ sym (behind_statement outer (ForLoop start condition last body) placed.token))
