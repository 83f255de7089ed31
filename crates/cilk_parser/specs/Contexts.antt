-- What is still open round a part of a program while it is read, and the level of the tokens there.
use Rattle.std.specs.Prelude.{ℕ, ◌+◌, Bool, Option, Some, None, List, [], ◌∷◌}
use Rattle.cilk_tree.specs.declared.tree.BinaryOp.{BinaryOp}
use Rattle.cilk_tree.specs.declared.tree.UnaryOp.{UnaryOp}
use Rattle.cilk_tree.specs.declared.count.Counted.TheVariants.{Operators, Arguments}
use Rattle.cilk_tree.specs.declared.count.Count.{Count}
use Rattle.cilk_tree.specs.declared.count.Count.TheVariants.{Anew, OneMore}
use Rattle.cilk_tree.specs.Syntax.{Commas, One, More, Expression, Declarator, Direction, Simple, Start, Inners, Body, Parameters, Source, operator_strength}

-- the list with one more at its end
abbrev pub with_last : {T : Type 0} → Option (Commas T) → T → Commas T
with_last None last = One last
with_last (Some before) last = More before last

-- what stands before the parameters of a function: the items before it, its kind and its name
pub record Heading : Type 0 where
  pub before : Source
  pub «cilk» : Bool
  pub gives : Bool
  pub name : List ℕ

-- ---- statements

-- `InnersIn` is what a list of statements belongs to, `BodyIn` what a body belongs to, and `StatementIn` where a statement stands.
mutual
  pub data InnersIn : Type 0 where
    FunctionBody : (heading : Heading) (formals : Parameters) → InnersIn
    InBlock : (outer : InnersIn) (before : Inners) → InnersIn
    InBody : (owner : BodyIn) → InnersIn

  pub data BodyIn : Type 0 where
    IfTaken : (outer : StatementIn) (condition : Expression) → BodyIn
    IfOtherwise : (outer : StatementIn) (condition : Expression) (taken : Body) → BodyIn
    WhileBody : (outer : StatementIn) (condition : Expression) → BodyIn
    ForBody : (outer : StatementIn) (start : Start) (condition : Option Expression) (last : Option Simple) → BodyIn

  pub data StatementIn : Type 0 where
    InInners : (outer : InnersIn) (before : Inners) → StatementIn
    AsBody : (owner : BodyIn) → StatementIn

-- the level of the statements there
abbrev mutual
  pub inners_level : InnersIn → ℕ
  inners_level (FunctionBody heading formals) = 1
  inners_level (InBlock outer before) = inners_level outer + 1
  inners_level (InBody owner) = body_level owner

  pub body_level : BodyIn → ℕ
  body_level (IfTaken outer condition) = statement_level outer + 1
  body_level (IfOtherwise outer condition taken) = statement_level outer + 1
  body_level (WhileBody outer condition) = statement_level outer + 1
  body_level (ForBody outer start condition last) = statement_level outer + 2

  pub statement_level : StatementIn → ℕ
  statement_level (InInners outer before) = inners_level outer
  statement_level (AsBody owner) = body_level owner

-- the level of the statement that holds the body, which the braces round it have
abbrev pub owner_level : BodyIn → ℕ
owner_level (IfTaken outer condition) = statement_level outer
owner_level (IfOtherwise outer condition taken) = statement_level outer
owner_level (WhileBody outer condition) = statement_level outer
owner_level (ForBody outer start condition last) = statement_level outer

-- the level of the brace behind the list
abbrev pub closing_level : InnersIn → ℕ
closing_level (FunctionBody heading formals) = 0
closing_level (InBlock outer before) = inners_level outer
closing_level (InBody owner) = owner_level owner

-- ---- parts of statements

-- where an assignment, a step or a store stands
pub data SimpleIn : Type 0 where
  AsStatement : (outer : StatementIn) → SimpleIn
  AsForStart : (outer : StatementIn) → SimpleIn
  AsForLast : (outer : StatementIn) (start : Start) (condition : Option Expression) → SimpleIn

abbrev pub simple_level : SimpleIn → ℕ
simple_level (AsStatement outer) = statement_level outer
simple_level (AsForStart outer) = statement_level outer + 1
simple_level (AsForLast outer start condition) = statement_level outer + 2

-- where a declaration stands
pub data DeclareIn : Type 0 where
  AsDeclaration : (outer : InnersIn) (before : Inners) → DeclareIn
  AsForDeclaration : (outer : StatementIn) → DeclareIn

abbrev pub declare_level : DeclareIn → ℕ
declare_level (AsDeclaration outer before) = inners_level outer
declare_level (AsForDeclaration outer) = statement_level outer + 1

-- what stands behind a `=` belongs to a name that is assigned, or to one that is declared behind others
pub data RightIn : Type 0 where
  Assigned : (outer : SimpleIn) (name : List ℕ) → RightIn
  Declared : (outer : DeclareIn) (before : Option (Commas Declarator)) (name : List ℕ) → RightIn

abbrev pub right_level : RightIn → ℕ
right_level (Assigned outer name) = simple_level outer
right_level (Declared outer before name) = declare_level outer

-- where a call or an addition stands
pub data CallIn : Type 0 where
  ResultOf : (outer : RightIn) → CallIn
  Called : (outer : StatementIn) → CallIn

abbrev pub call_level : CallIn → ℕ
call_level (ResultOf outer) = right_level outer
call_level (Called outer) = statement_level outer

-- ---- expressions

-- What is open round an expression. The last four hold a part of one, the others a whole expression: one of them an argument behind others,
-- two the index and the addend of an addition.
pub data ExpressionIn : Type 0 where
  ValueOf : (outer : RightIn) → ExpressionIn
  ArgumentOf : (outer : CallIn) (spawned : Bool) (name : List ℕ) (before : Option (Commas Expression)) → ExpressionIn
  AddedAt : (outer : CallIn) (name : List ℕ) → ExpressionIn
  AddendOf : (outer : CallIn) (name : List ℕ) (index : Expression) → ExpressionIn
  ChangedBy : (outer : SimpleIn) (name : List ℕ) (direction : Direction) → ExpressionIn
  StoredAt : (outer : SimpleIn) (name : List ℕ) → ExpressionIn
  StoredIn : (outer : SimpleIn) (name : List ℕ) (index : Expression) → ExpressionIn
  IfCondition : (outer : StatementIn) → ExpressionIn
  WhileCondition : (outer : StatementIn) → ExpressionIn
  ForCondition : (outer : StatementIn) (start : Start) → ExpressionIn
  Printed : (outer : StatementIn) → ExpressionIn
  Returned : (outer : StatementIn) → ExpressionIn
  RightOf : (around : ExpressionIn) (left : Expression) (operator : BinaryOp) → ExpressionIn
  Under : (around : ExpressionIn) (operator : UnaryOp) → ExpressionIn
  InIndex : (around : ExpressionIn) (name : List ℕ) → ExpressionIn
  InGroup : (around : ExpressionIn) → ExpressionIn

-- the level of the expression
abbrev pub level_of : ExpressionIn → ℕ
level_of (ValueOf outer) = right_level outer
level_of (ArgumentOf outer spawned name before) = call_level outer
level_of (AddedAt outer name) = call_level outer + 1
level_of (AddendOf outer name index) = call_level outer
level_of (ChangedBy outer name direction) = simple_level outer + 1
level_of (StoredAt outer name) = simple_level outer + 1
level_of (StoredIn outer name index) = simple_level outer
level_of (IfCondition outer) = statement_level outer
level_of (WhileCondition outer) = statement_level outer
level_of (ForCondition outer start) = statement_level outer + 1
level_of (Printed outer) = statement_level outer
level_of (Returned outer) = statement_level outer
level_of (RightOf around left operator) = level_of around
level_of (Under around operator) = level_of around + 1
level_of (InIndex around name) = level_of around + 1
level_of (InGroup around) = level_of around + 1

-- what its first token counts as besides
abbrev pub first_counts : ExpressionIn → List Count
first_counts (ValueOf outer) = Anew Operators ∷ []
first_counts (ArgumentOf outer spawned name before) = OneMore Arguments ∷ Anew Operators ∷ []
first_counts (AddedAt outer name) = Anew Operators ∷ []
first_counts (AddendOf outer name index) = Anew Operators ∷ []
first_counts (ChangedBy outer name direction) = []
first_counts (StoredAt outer name) = Anew Operators ∷ []
first_counts (StoredIn outer name index) = Anew Operators ∷ []
first_counts (IfCondition outer) = Anew Operators ∷ []
first_counts (WhileCondition outer) = Anew Operators ∷ []
first_counts (ForCondition outer start) = Anew Operators ∷ []
first_counts (Printed outer) = Anew Operators ∷ []
first_counts (Returned outer) = Anew Operators ∷ []
first_counts (RightOf around left operator) = []
first_counts (Under around operator) = []
first_counts (InIndex around name) = []
first_counts (InGroup around) = []

-- how strongly it has to hold together
abbrev pub least_strength : ExpressionIn → ℕ
least_strength (RightOf around left operator) = operator_strength operator + 1
least_strength (Under around operator) = 7
least_strength (ValueOf outer) = 0
least_strength (ArgumentOf outer spawned name before) = 0
least_strength (AddedAt outer name) = 0
least_strength (AddendOf outer name index) = 0
least_strength (ChangedBy outer name direction) = 0
least_strength (StoredAt outer name) = 0
least_strength (StoredIn outer name index) = 0
least_strength (IfCondition outer) = 0
least_strength (WhileCondition outer) = 0
least_strength (ForCondition outer start) = 0
least_strength (Printed outer) = 0
least_strength (Returned outer) = 0
least_strength (InIndex around name) = 0
least_strength (InGroup around) = 0
