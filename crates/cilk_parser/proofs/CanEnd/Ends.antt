-- From each state the machine can be brought to the end of a source.
use Rattle.std.proofs.Common.{◌≡◌, Bool, false, ℕ, pos, codes, Option, Some, None, option_and_then, option_map, List, [], ◌∷◌, ◌++◌, refl, ap, ◌∙◌}
use Rattle.cilk_tree.specs.declared.token.Keyword.TheVariants as word
use Rattle.cilk_tree.specs.declared.token.Sign.TheVariants as sign
use Rattle.cilk_tree.specs.declared.token.Token.{Token}
use Rattle.cilk_tree.specs.declared.token.Token.TheVariants.{Name, Number, Word, Mark}
use Rattle.cilk_tree.specs.Levels.{Spelled}
use Rattle.cilk_tree.specs.Syntax as syntax
use Rattle.cilk_tree.specs.Syntax.{NoParameters, VoidParameters, Named, Array, NoStart, SimpleStart, DeclaringStart, Simply, Syncing, Printing, Declaration, Assignment, Change, Storing, Valued, Commas, Declarator, Expression, Numeral, Variable, Element, Group, Prefix, Infix, Right, Value, Call, Addition, Simple, Statement, IfAlone, IfElse, WhileLoop, ForLoop, Nothing, Returning, Start, Body, Braced, Single, Inners, NoInners, ThenInner, Block, Stated, Source}
use Rattle.cilk_parser.specs.Contexts.{Heading, with_last, InnersIn, FunctionBody, InBlock, InBody, BodyIn, IfTaken, IfOtherwise, WhileBody, ForBody, StatementIn, InInners, AsBody, SimpleIn, AsStatement, AsForStart, AsForLast, DeclareIn, AsDeclaration, AsForDeclaration, RightIn, Assigned, Declared, CallIn, ResultOf, Called, ExpressionIn, ValueOf, ArgumentOf, AddedAt, AddendOf, ChangedBy, StoredAt, StoredIn, IfCondition, WhileCondition, ForCondition, Printed, Returned, RightOf, Under, InIndex, InGroup}
use Rattle.cilk_parser.specs.Run.{all_behind, walk}
use Rattle.cilk_parser.specs.Steps.{Awaited, ArrayOpen, ArrayClose, ParametersOpen, VoidClose, BodyOpen, CallOpen, CalledEnd, AddOpen, AddIndexOpen, AddComma, AddedEnd, SimpleEnd, StoreAssign, SyncEnd, IfOpen, WhileOpen, ForOpen, PrintOpen, PrintEnd, NameAwaited, FunctionName, ArrayName, ParameterName, DeclaratorName, SpawnedName, AddedName, State, Items, AfterCilk, AfterInt, AfterIntName, ArraySize, AfterArray, ParametersStart, AfterParameter, NextParameter, AtInner, AtBody, HasBody, AfterDeclarator, HasDeclarators, AtRight, AfterRightName, AtArguments, AfterName, AtForStart, AtForCondition, AtForLast, AfterReturn, Wants, Has, Awaits, AwaitsName, goes, after_statement, after_inners, after_right, after_call, after_addition, addition_of, ended_body, ended_statement, token_operator, call_of, named_state, step_awaited, step_declarators, step_end, step}
use Rattle.cilk_parser.proofs.LedThrough.Operands.{is_index, end_step}

-- Some tokens lead from here to the end of a source.
pub record Ends (state : State) : Type 0 where
  pub tokens : List Token
  pub source : Source
  pub emitted : List Spelled
  pub walked : walk state tokens ≡ Some (record { emitted = emitted; state = Items source })

-- with this token first
ends_on : (state next : State) (token : Token) (emitted : List Spelled) → step state token ≡ goes emitted next → Ends next → Ends state
unfolding walk
ends_on state next token emitted e h = record {
  tokens = token ∷ h.tokens;
  source = h.source;
  emitted = emitted ++ h.emitted;
  walked =
      ap (option_and_then (λ there. option_map (all_behind there.emitted) (walk there.state h.tokens))) e ∙ ap (option_map (all_behind emitted)) h.walked;
}

items_end : (source : Source) → Ends (Items source)
unfolding walk
items_end source = record { tokens = []; source = source; emitted = []; walked = refl }

-- ---- lists of statements and bodies

mutual
  unfolding step

  closes : (outer : InnersIn) (inside : Inners) → Ends (after_inners outer inside)
  closes (FunctionBody heading formals) inside = items_end _
  closes (InBlock outer before) inside = ends_on (AtInner outer (ThenInner before (Block inside))) _ (Mark sign.CloseBrace) _ refl (closes outer (ThenInner before (Block inside)))
  closes (InBody owner) inside = ends_on (HasBody owner (Braced inside)) _ (Mark sign.CloseBrace) _ refl (closes_body owner (Braced inside))

  closes_body : (owner : BodyIn) (body : Body) → Ends (after_inners (ended_body owner body).outer (ended_body owner body).inners)
  closes_body (IfTaken outer condition) body = closes_statement outer (IfAlone condition body)
  closes_body (IfOtherwise outer condition taken) body = closes_statement outer (IfElse condition taken body)
  closes_body (WhileBody outer condition) body = closes_statement outer (WhileLoop condition body)
  closes_body (ForBody outer start condition last) body = closes_statement outer (ForLoop start condition last body)

  closes_statement : (outer : StatementIn) (statement : Statement) → Ends (after_inners (ended_statement outer statement).outer (ended_statement outer statement).inners)
  closes_statement (InInners outer before) statement = closes outer (ThenInner before (Stated statement))
  closes_statement (AsBody owner) statement = closes_body owner (Single statement)

inner_ends : (outer : InnersIn) (before : Inners) → Ends (AtInner outer before)
unfolding step
inner_ends outer before = ends_on (AtInner outer before) _ (Mark sign.CloseBrace) _ refl (closes outer before)

body_ends : (owner : BodyIn) (body : Body) → Ends (HasBody owner body)
unfolding step
body_ends owner body = ends_on (HasBody owner body) _ (Mark sign.CloseBrace) _ refl (closes_body owner body)

-- ---- what is complete

statement_ends : (outer : StatementIn) (statement : Statement) → Ends (after_statement outer statement)
statement_ends (InInners outer before) statement = inner_ends outer (ThenInner before (Stated statement))
statement_ends (AsBody owner) statement = body_ends owner (Single statement)

at_body_ends : (owner : BodyIn) → Ends (AtBody owner)
unfolding step
at_body_ends owner = ends_on (AtBody owner) _ (Mark sign.Semicolon) _ refl (body_ends owner (Single Nothing))

last_ends : (outer : StatementIn) (start : Start) (condition : Option Expression) → Ends (AtForLast outer start condition)
unfolding step
last_ends outer start condition = ends_on (AtForLast outer start condition) _ (Mark sign.CloseParen) _ refl (at_body_ends (ForBody outer start condition None))

condition_ends : (outer : StatementIn) (start : Start) → Ends (AtForCondition outer start)
unfolding step
condition_ends outer start = ends_on (AtForCondition outer start) _ (Mark sign.Semicolon) _ refl (last_ends outer start None)

simple_ends : (outer : SimpleIn) (simple : Simple) → Ends (Awaits (SimpleEnd outer simple))
unfolding step
simple_ends (AsStatement outer) simple = ends_on (Awaits (SimpleEnd (AsStatement outer) simple)) _ (Mark sign.Semicolon) _ refl (statement_ends outer _)
simple_ends (AsForStart outer) simple = ends_on (Awaits (SimpleEnd (AsForStart outer) simple)) _ (Mark sign.Semicolon) _ refl (condition_ends outer _)
simple_ends (AsForLast outer start condition) simple =
    ends_on (Awaits (SimpleEnd (AsForLast outer start condition) simple)) _ (Mark sign.CloseParen) _ refl (at_body_ends (ForBody outer start condition (Some simple)))

declarators_end : (outer : DeclareIn) (declarators : Commas Declarator) → Ends (HasDeclarators outer declarators)
unfolding step
declarators_end (AsDeclaration outer before) declarators = ends_on (HasDeclarators (AsDeclaration outer before) declarators) _ (Mark sign.Semicolon) _ refl (inner_ends outer _)
declarators_end (AsForDeclaration outer) declarators = ends_on (HasDeclarators (AsForDeclaration outer) declarators) _ (Mark sign.Semicolon) _ refl (condition_ends outer _)

right_ends : (outer : RightIn) (right : Right) → Ends (after_right outer right)
right_ends (Assigned outer name) right = simple_ends outer _
right_ends (Declared outer before name) right = declarators_end outer _

call_ends : (outer : CallIn) (call : Call) → Ends (after_call outer call)
unfolding step
call_ends (ResultOf outer) call = right_ends outer _
call_ends (Called outer) call = ends_on (Awaits (CalledEnd outer call)) _ (Mark sign.Semicolon) _ refl (statement_ends outer _)

addition_ends : (outer : CallIn) (addition : Addition) → Ends (after_addition outer addition)
unfolding step
addition_ends (ResultOf outer) addition = right_ends outer _
addition_ends (Called outer) addition = ends_on (Awaits (AddedEnd outer addition)) _ (Mark sign.Semicolon) _ refl (statement_ends outer _)

-- ---- expressions

-- This token ends the operand, and then some lead to the end of a source.
record IsClosed (around : ExpressionIn) (operand : Expression) : Type 0 where
  token : Token
  other : is_index token ≡ false
  ends : token_operator token ≡ None
  emitted : List Spelled
  next : State
  stepped : step_end around operand token ≡ goes emitted next
  on : Ends next

closed_by : {around : ExpressionIn} {operand : Expression} (token : Token) {emitted : List Spelled} {next : State} → is_index token ≡ false → token_operator token ≡ None →
    step_end around operand token ≡ goes emitted next → Ends next → IsClosed around operand
closed_by token other ends stepped on = record { token = token; other = other; ends = ends; emitted = _; next = _; stepped = stepped; on = on }

has_ends : (around : ExpressionIn) (operand : Expression) → IsClosed around operand → Ends (Has around operand)
has_ends around operand h = ends_on (Has around operand) h.next h.token h.emitted (end_step around operand h.token h.other h.ends ∙ h.stepped) h.on

wants_ends : (around : ExpressionIn) → IsClosed around (Numeral (pos 0)) → Ends (Wants around)
unfolding step
wants_ends around h = ends_on (Wants around) _ (Number (pos 0)) _ refl (has_ends around (Numeral (pos 0)) h)

closed_simple : (around : ExpressionIn) (operand : Expression) (outer : SimpleIn) (simple : Simple) → ((token : Token) →
    step_end around operand token ≡ step_awaited (SimpleEnd outer simple) token) → IsClosed around operand
closed_simple around operand (AsStatement outer) simple same = closed_by (Mark sign.Semicolon) refl refl (same (Mark sign.Semicolon)) (statement_ends outer (Simply simple))
closed_simple around operand (AsForStart outer) simple same = closed_by (Mark sign.Semicolon) refl refl (same (Mark sign.Semicolon)) (condition_ends outer (SimpleStart simple))
closed_simple around operand (AsForLast outer start condition) simple same =
    closed_by (Mark sign.CloseParen) refl refl (same (Mark sign.CloseParen)) (at_body_ends (ForBody outer start condition (Some simple)))

closed_declarators : (around : ExpressionIn) (operand : Expression) (outer : DeclareIn) (declarators : Commas Declarator) → ((token : Token) →
    step_end around operand token ≡ step_declarators outer declarators token) →
    IsClosed around operand
closed_declarators around operand (AsDeclaration outer before) declarators same =
    closed_by (Mark sign.Semicolon) refl refl (same (Mark sign.Semicolon)) (inner_ends outer (ThenInner before (Declaration declarators)))
closed_declarators around operand (AsForDeclaration outer) declarators same = closed_by (Mark sign.Semicolon) refl refl (same (Mark sign.Semicolon)) (condition_ends outer (DeclaringStart declarators))

stored_ends : (outer : SimpleIn) (name : List ℕ) (index : Expression) → Ends (Awaits (StoreAssign outer name index))
unfolding step
stored_ends outer name index =
    ends_on (Awaits (StoreAssign outer name index)) _ (Mark sign.Assign) _ refl
    (wants_ends (StoredIn outer name index) (closed_simple (StoredIn outer name index) (Numeral (pos 0)) outer (Storing name index (Numeral (pos 0))) (λ token. refl)))

index_ends : (outer : CallIn) (name : List ℕ) (index : Expression) → Ends (Awaits (AddComma outer name index))
unfolding step
index_ends outer name index =
    ends_on (Awaits (AddComma outer name index)) _ (Mark sign.Comma) _ refl
    (wants_ends (AddendOf outer name index) (closed_by (Mark sign.CloseParen) refl refl refl (addition_ends outer (addition_of name index (Numeral (pos 0))))))

print_ends : (outer : StatementIn) (value : Expression) → Ends (Awaits (PrintEnd outer value))
unfolding step
print_ends outer value = ends_on (Awaits (PrintEnd outer value)) _ (Mark sign.Semicolon) _ refl (statement_ends outer (Printing value))

closed : (around : ExpressionIn) (operand : Expression) → IsClosed around operand
closed (RightOf around left operator) operand = let h = closed around (Infix left operator operand) in closed_by h.token h.other h.ends h.stepped h.on
closed (Under around operator) operand = let h = closed around (Prefix operator operand) in closed_by h.token h.other h.ends h.stepped h.on
closed (InGroup around) operand = closed_by (Mark sign.CloseParen) refl refl refl (has_ends around (Group operand) (closed around (Group operand)))
closed (InIndex around name) operand = closed_by (Mark sign.CloseBracket) refl refl refl (has_ends around (Element name operand) (closed around (Element name operand)))
closed (ValueOf (Assigned outer name)) operand = closed_simple (ValueOf (Assigned outer name)) operand outer (Assignment name (Value operand)) (λ token. refl)
closed (ValueOf (Declared outer before name)) operand = closed_declarators (ValueOf (Declared outer before name)) operand outer (with_last before (Valued name (Value operand))) (λ token. refl)
closed (ArgumentOf outer spawned name before) operand = closed_by (Mark sign.CloseParen) refl refl refl (call_ends outer (call_of spawned name (Some (with_last before operand))))
closed (AddedAt outer name) operand = closed_by (Mark sign.CloseBracket) refl refl refl (index_ends outer name operand)
closed (AddendOf outer name index) operand = closed_by (Mark sign.CloseParen) refl refl refl (addition_ends outer (addition_of name index operand))
closed (ChangedBy outer name direction) operand = closed_simple (ChangedBy outer name direction) operand outer (Change name direction operand) (λ token. refl)
closed (StoredAt outer name) operand = closed_by (Mark sign.CloseBracket) refl refl refl (stored_ends outer name operand)
closed (StoredIn outer name index) operand = closed_simple (StoredIn outer name index) operand outer (Storing name index operand) (λ token. refl)
closed (IfCondition outer) operand = closed_by (Mark sign.CloseParen) refl refl refl (at_body_ends (IfTaken outer operand))
closed (WhileCondition outer) operand = closed_by (Mark sign.CloseParen) refl refl refl (at_body_ends (WhileBody outer operand))
closed (ForCondition outer start) operand = closed_by (Mark sign.Semicolon) refl refl refl (last_ends outer start (Some operand))
closed (Printed outer) operand = closed_by (Mark sign.CloseParen) refl refl refl (print_ends outer operand)
closed (Returned outer) operand = closed_by (Mark sign.Semicolon) refl refl refl (statement_ends outer (Returning (Some operand)))

operand_ends : (around : ExpressionIn) → Ends (Wants around)
operand_ends around = wants_ends around (closed around (Numeral (pos 0)))

-- ---- items and heads

opened_end : (heading : Heading) (formals : syntax.Parameters) → Ends (Awaits (BodyOpen heading formals))
unfolding step
opened_end heading formals = ends_on (Awaits (BodyOpen heading formals)) _ (Mark sign.OpenBrace) _ refl (inner_ends (FunctionBody heading formals) NoInners)

parameters_end : (heading : Heading) → Ends (ParametersStart heading)
unfolding step
parameters_end heading = ends_on (ParametersStart heading) _ (Mark sign.CloseParen) _ refl (opened_end heading NoParameters)

parameter_ends : (heading : Heading) (names : Commas (List ℕ)) → Ends (AfterParameter heading names)
unfolding step
parameter_ends heading names = ends_on (AfterParameter heading names) _ (Mark sign.CloseParen) _ refl (opened_end heading (Named names))

array_ends : (before : Source) (arrays : Commas Array) → Ends (AfterArray before arrays)
unfolding step
array_ends before arrays = ends_on (AfterArray before arrays) _ (Mark sign.Semicolon) _ refl (items_end _)

size_ends : (before : Source) (arrays : Option (Commas Array)) (name : List ℕ) → Ends (ArraySize before arrays name)
unfolding step
size_ends before arrays name =
    ends_on (ArraySize before arrays name) (Awaits (ArrayClose before arrays name 0)) (Number (pos 0)) _ refl
    (ends_on (Awaits (ArrayClose before arrays name 0)) _ (Mark sign.CloseBracket) _ refl (array_ends before _))

-- ---- where one sign or a name alone may follow

arguments_end : (outer : CallIn) (spawned : Bool) (name : List ℕ) → Ends (AtArguments outer spawned name)
unfolding step
arguments_end outer spawned name = ends_on (AtArguments outer spawned name) _ (Mark sign.CloseParen) _ refl (call_ends outer (call_of spawned name None))

start_ends : (outer : StatementIn) → Ends (AtForStart outer)
unfolding step
start_ends outer = ends_on (AtForStart outer) _ (Mark sign.Semicolon) _ refl (condition_ends outer NoStart)

index_open_ends : (outer : CallIn) (name : List ℕ) → Ends (Awaits (AddIndexOpen outer name))
unfolding step
index_open_ends outer name = ends_on (Awaits (AddIndexOpen outer name)) _ (Mark sign.OpenBracket) _ refl (operand_ends (AddedAt outer name))

awaited_ends : (awaited : Awaited) → Ends (Awaits awaited)
unfolding step
awaited_ends (ArrayOpen before arrays name) = ends_on (Awaits (ArrayOpen before arrays name)) _ (Mark sign.OpenBracket) _ refl (size_ends before arrays name)
awaited_ends (ArrayClose before arrays name words) = ends_on (Awaits (ArrayClose before arrays name words)) _ (Mark sign.CloseBracket) _ refl (array_ends before _)
awaited_ends (ParametersOpen heading) = ends_on (Awaits (ParametersOpen heading)) _ (Mark sign.OpenParen) _ refl (parameters_end heading)
awaited_ends (VoidClose heading) = ends_on (Awaits (VoidClose heading)) _ (Mark sign.CloseParen) _ refl (opened_end heading VoidParameters)
awaited_ends (BodyOpen heading formals) = opened_end heading formals
awaited_ends (CallOpen outer spawned name) = ends_on (Awaits (CallOpen outer spawned name)) _ (Mark sign.OpenParen) _ refl (arguments_end outer spawned name)
awaited_ends (CalledEnd outer call) = call_ends (Called outer) call
awaited_ends (AddOpen outer) =
    ends_on (Awaits (AddOpen outer)) _ (Mark sign.OpenParen) _ refl (ends_on (AwaitsName (AddedName outer)) _ (Name (codes "x")) _ refl (index_open_ends outer (codes "x")))
awaited_ends (AddIndexOpen outer name) = index_open_ends outer name
awaited_ends (AddComma outer name index) = index_ends outer name index
awaited_ends (AddedEnd outer addition) = addition_ends (Called outer) addition
awaited_ends (SimpleEnd outer simple) = simple_ends outer simple
awaited_ends (StoreAssign outer name index) = stored_ends outer name index
awaited_ends (SyncEnd outer) = ends_on (Awaits (SyncEnd outer)) _ (Mark sign.Semicolon) _ refl (statement_ends outer Syncing)
awaited_ends (IfOpen outer) = ends_on (Awaits (IfOpen outer)) _ (Mark sign.OpenParen) _ refl (operand_ends (IfCondition outer))
awaited_ends (WhileOpen outer) = ends_on (Awaits (WhileOpen outer)) _ (Mark sign.OpenParen) _ refl (operand_ends (WhileCondition outer))
awaited_ends (ForOpen outer) = ends_on (Awaits (ForOpen outer)) _ (Mark sign.OpenParen) _ refl (start_ends outer)
awaited_ends (PrintOpen outer) = ends_on (Awaits (PrintOpen outer)) _ (Mark sign.OpenParen) _ refl (operand_ends (Printed outer))
awaited_ends (PrintEnd outer value) = print_ends outer value

declarator_ends : (outer : DeclareIn) (before : Option (Commas Declarator)) (name : List ℕ) → Ends (AfterDeclarator outer before name)
unfolding step
declarator_ends (AsDeclaration outer inners) before name = ends_on (AfterDeclarator (AsDeclaration outer inners) before name) _ (Mark sign.Semicolon) _ refl (inner_ends outer _)
declarator_ends (AsForDeclaration outer) before name = ends_on (AfterDeclarator (AsForDeclaration outer) before name) _ (Mark sign.Semicolon) _ refl (condition_ends outer _)

named_ends : (awaited : NameAwaited) (name : List ℕ) → Ends (named_state awaited name)
named_ends (FunctionName before is_cilk gives) name = awaited_ends _
named_ends (ArrayName before arrays) name = awaited_ends _
named_ends (ParameterName heading before) name = parameter_ends heading _
named_ends (DeclaratorName outer before) name = declarator_ends outer before name
named_ends (SpawnedName outer) name = awaited_ends _
named_ends (AddedName outer) name = index_open_ends outer name

name_ends : (awaited : NameAwaited) → Ends (AwaitsName awaited)
unfolding step
name_ends awaited = ends_on (AwaitsName awaited) _ (Name (codes "x")) _ refl (named_ends awaited (codes "x"))

-- ---- each state

pub state_ends : (state : State) → Ends state
unfolding step
state_ends (Items before) = items_end before
state_ends (AfterCilk before) = ends_on (AfterCilk before) _ (Word word.Int) _ refl (name_ends _)
state_ends (AfterInt before) =
    ends_on (AfterInt before) (AfterIntName before (codes "x")) (Name (codes "x")) _ refl (ends_on (AfterIntName before (codes "x")) _ (Mark sign.OpenBracket) _ refl (size_ends before None (codes "x")))
state_ends (AfterIntName before name) = ends_on (AfterIntName before name) _ (Mark sign.OpenBracket) _ refl (size_ends before None name)
state_ends (ArraySize before arrays name) = size_ends before arrays name
state_ends (AfterArray before arrays) = array_ends before arrays
state_ends (ParametersStart heading) = parameters_end heading
state_ends (AfterParameter heading names) = parameter_ends heading names
state_ends (NextParameter heading names) = ends_on (NextParameter heading names) _ (Word word.Int) _ refl (name_ends _)
state_ends (AtInner outer before) = inner_ends outer before
state_ends (AtBody owner) = at_body_ends owner
state_ends (HasBody owner body) = body_ends owner body
state_ends (AfterDeclarator outer before name) = declarator_ends outer before name
state_ends (HasDeclarators outer declarators) = declarators_end outer declarators
state_ends (AtRight outer) = ends_on (AtRight outer) _ (Number (pos 0)) _ refl (has_ends (ValueOf outer) _ (closed (ValueOf outer) _))
state_ends (AfterRightName outer name) = ends_on (AfterRightName outer name) _ (Mark sign.OpenParen) _ refl (arguments_end (ResultOf outer) false name)
state_ends (AtArguments outer spawned name) = arguments_end outer spawned name
state_ends (AfterName outer name) = ends_on (AfterName outer name) _ (Mark sign.PlusPlus) _ refl (simple_ends outer _)
state_ends (AtForStart outer) = start_ends outer
state_ends (AtForCondition outer start) = condition_ends outer start
state_ends (AtForLast outer start condition) = last_ends outer start condition
state_ends (AfterReturn outer) = ends_on (AfterReturn outer) _ (Mark sign.Semicolon) _ refl (statement_ends outer (Returning None))
state_ends (Wants around) = operand_ends around
state_ends (Has around operand) = has_ends around operand (closed around operand)
state_ends (Awaits awaited) = awaited_ends awaited
state_ends (AwaitsName awaited) = name_ends awaited
