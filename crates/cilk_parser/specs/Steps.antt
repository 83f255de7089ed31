-- A machine that reads a program token by token. It serves the proofs of the parser alone: where it stands between two tokens, and where it
-- goes with a token.
use Rattle.std.specs.Prelude.{ℕ, pos, ◌+◌, Bool, true, false, nat_lt, bytes_eq, Option, Some, None, option_map, if◌then◌else◌, List, [], ◌∷◌, ◌++◌}
use Rattle.cilk_tree.specs.declared.token.Keyword.TheVariants as word
use Rattle.cilk_tree.specs.declared.token.Sign.{Sign}
use Rattle.cilk_tree.specs.declared.token.Sign.TheVariants as sign
use Rattle.cilk_tree.specs.declared.token.Token.{Token}
use Rattle.cilk_tree.specs.declared.token.Token.TheVariants.{Name, Number, Word, Mark}
use Rattle.cilk_tree.specs.declared.tree.BinaryOp.{BinaryOp}
use Rattle.cilk_tree.specs.declared.tree.BinaryOp.TheVariants as op
use Rattle.cilk_tree.specs.declared.tree.UnaryOp.TheVariants as unary
use Rattle.cilk_tree.specs.declared.count.Counted.TheVariants.{Operators, Parameters, Arguments, Variables, Arrays, Functions}
use Rattle.cilk_tree.specs.declared.count.Count.{Count}
use Rattle.cilk_tree.specs.declared.count.Count.TheVariants.{Anew, OneMore}
use Rattle.cilk_tree.specs.Levels.{Spelled, counting, plain, mark, word_at}
use Rattle.cilk_tree.specs.Syntax as syntax
use Rattle.cilk_tree.specs.Syntax.{Commas, Empty, Then, Expression, Numeral, Variable, Element, Group, Prefix, Infix, Call, Addition, Right, Value, Result, Fetched, Declarator, Bare, Valued, Direction, Up, Down, Simple, Assignment, Change, Step, Storing, Start, NoStart, SimpleStart, DeclaringStart, Statement, Nothing, Simply, Calling, Adding, Syncing, IfAlone, IfElse, WhileLoop, ForLoop, Printing, Returning, Inner, Declaration, Block, Stated, Inners, NoInners, ThenInner, Body, Braced, Single, NoParameters, VoidParameters, Named, Array, Function, Defined, Source, operator_strength}
use Rattle.cilk_tree.specs.Token.{sign_text}
use Rattle.cilk_parser.specs.Contexts.{with_last, Heading, InnersIn, FunctionBody, InBlock, InBody, BodyIn, IfTaken, IfOtherwise, WhileBody, ForBody, StatementIn, InInners, AsBody, inners_level, statement_level, owner_level, closing_level, SimpleIn, AsStatement, AsForStart, AsForLast, simple_level, DeclareIn, AsDeclaration, AsForDeclaration, declare_level, RightIn, Assigned, Declared, right_level, CallIn, ResultOf, Called, call_level, ExpressionIn, ValueOf, ArgumentOf, AddedAt, AddendOf, ChangedBy, StoredAt, StoredIn, IfCondition, WhileCondition, ForCondition, Printed, Returned, RightOf, Under, InIndex, InGroup, level_of, first_counts}

-- ---- where the machine stands

-- Where one sign alone may follow.
pub data Awaited : Type 0 where
  ArrayOpen : (before : Source) (arrays : Option (Commas Array)) (name : List ℕ) → Awaited
  ArrayClose : (before : Source) (arrays : Option (Commas Array)) (name : List ℕ) (words : ℕ) → Awaited
  ParametersOpen : (heading : Heading) → Awaited
  VoidClose : (heading : Heading) → Awaited
  BodyOpen : (heading : Heading) (formals : syntax.Parameters) → Awaited
  CallOpen : (outer : CallIn) (spawned : Bool) (name : List ℕ) → Awaited
  CalledEnd : (outer : StatementIn) (call : Call) → Awaited
  AddOpen : (outer : CallIn) → Awaited
  AddIndexOpen : (outer : CallIn) (name : List ℕ) → Awaited
  AddComma : (outer : CallIn) (name : List ℕ) (index : Expression) → Awaited
  AddedEnd : (outer : StatementIn) (addition : Addition) → Awaited
  SimpleEnd : (outer : SimpleIn) (simple : Simple) → Awaited
  StoreAssign : (outer : SimpleIn) (name : List ℕ) (index : Expression) → Awaited
  SyncEnd : (outer : StatementIn) → Awaited
  IfOpen : (outer : StatementIn) → Awaited
  WhileOpen : (outer : StatementIn) → Awaited
  ForOpen : (outer : StatementIn) → Awaited
  PrintOpen : (outer : StatementIn) → Awaited
  PrintEnd : (outer : StatementIn) (value : Expression) → Awaited

-- Where a name alone may follow.
pub data NameAwaited : Type 0 where
  FunctionName : (before : Source) («cilk» gives : Bool) → NameAwaited
  ArrayName : (before : Source) (arrays : Commas Array) → NameAwaited
  ParameterName : (heading : Heading) (before : Option (Commas (List ℕ))) → NameAwaited
  DeclaratorName : (outer : DeclareIn) (before : Option (Commas Declarator)) → NameAwaited
  SpawnedName : (outer : CallIn) → NameAwaited
  AddedName : (outer : CallIn) → NameAwaited

-- `AfterInt` and `AfterIntName` stand behind `int` and `int NAME` between the items, which begin an array or a function, and
-- `AfterRightName` behind a name that begins an expression or a call.
pub data State : Type 0 where
  Items : (before : Source) → State
  AfterCilk : (before : Source) → State
  AfterInt : (before : Source) → State
  AfterIntName : (before : Source) (name : List ℕ) → State
  ArraySize : (before : Source) (arrays : Option (Commas Array)) (name : List ℕ) → State
  AfterArray : (before : Source) (arrays : Commas Array) → State
  ParametersStart : (heading : Heading) → State
  AfterParameter : (heading : Heading) (names : Commas (List ℕ)) → State
  NextParameter : (heading : Heading) (names : Commas (List ℕ)) → State
  AtInner : (outer : InnersIn) (before : Inners) → State
  AtBody : (owner : BodyIn) → State
  HasBody : (owner : BodyIn) (body : Body) → State
  AfterDeclarator : (outer : DeclareIn) (before : Option (Commas Declarator)) (name : List ℕ) → State
  HasDeclarators : (outer : DeclareIn) (declarators : Commas Declarator) → State
  AtRight : (outer : RightIn) → State
  AfterRightName : (outer : RightIn) (name : List ℕ) → State
  AtArguments : (outer : CallIn) (spawned : Bool) (name : List ℕ) → State
  AfterName : (outer : SimpleIn) (name : List ℕ) → State
  AtForStart : (outer : StatementIn) → State
  AtForCondition : (outer : StatementIn) (start : Start) → State
  AtForLast : (outer : StatementIn) (start : Start) (condition : Option Expression) → State
  AfterReturn : (outer : StatementIn) → State
  Wants : (around : ExpressionIn) → State
  Has : (around : ExpressionIn) (operand : Expression) → State
  Awaits : (awaited : Awaited) → State
  AwaitsName : (awaited : NameAwaited) → State

-- where it goes, and the tokens of which the level and the counts are known then
pub record Next : Type 0 where
  pub emitted : List Spelled
  pub state : State

abbrev pub goes : List Spelled → State → Option Next
goes emitted state = Some (record { emitted = emitted; state = state })

-- with the token alone
abbrev pub goes_on : Spelled → State → Option Next
goes_on spelled state = goes (spelled ∷ []) state

-- ---- what is complete

-- a statement
abbrev pub after_statement : StatementIn → Statement → State
after_statement (InInners outer before) statement = AtInner outer (ThenInner before (Stated statement))
after_statement (AsBody owner) statement = HasBody owner (Single statement)

abbrev pub function_of : Heading → syntax.Parameters → Inners → Function
function_of heading formals body = record { «cilk» = heading.«cilk»; gives = heading.gives; name = heading.name; parameters = formals; body = body }

-- a list of statements and the brace behind it
abbrev pub after_inners : InnersIn → Inners → State
after_inners (FunctionBody heading formals) inners = Items (Then heading.before (Defined (function_of heading formals inners)))
after_inners (InBlock outer before) inners = AtInner outer (ThenInner before (Block inners))
after_inners (InBody owner) inners = HasBody owner (Braced inners)

-- what stands behind a `=`
abbrev pub after_right : RightIn → Right → State
after_right (Assigned outer name) right = Awaits (SimpleEnd outer (Assignment name right))
after_right (Declared outer before name) right = HasDeclarators outer (with_last before (Valued name right))

-- a call
abbrev pub after_call : CallIn → Call → State
after_call (ResultOf outer) call = after_right outer (Result call)
after_call (Called outer) call = Awaits (CalledEnd outer call)

-- an addition
abbrev pub after_addition : CallIn → Addition → State
after_addition (ResultOf outer) addition = after_right outer (Fetched addition)
after_addition (Called outer) addition = Awaits (AddedEnd outer addition)

-- A list of statements with those read so far.
pub record Place : Type 0 where
  pub outer : InnersIn
  pub inners : Inners

-- Where no `else` follows a body, the statement that it belongs to ends with it.
abbrev mutual
  pub ended_body : BodyIn → Body → Place
  ended_body (IfTaken outer condition) body = ended_statement outer (IfAlone condition body)
  ended_body (IfOtherwise outer condition taken) body = ended_statement outer (IfElse condition taken body)
  ended_body (WhileBody outer condition) body = ended_statement outer (WhileLoop condition body)
  ended_body (ForBody outer start condition last) body = ended_statement outer (ForLoop start condition last body)

  pub ended_statement : StatementIn → Statement → Place
  ended_statement (InInners outer before) statement = record { outer = outer; inners = ThenInner before (Stated statement) }
  ended_statement (AsBody owner) statement = ended_body owner (Single statement)

-- An `else` behind a body belongs to the nearest `if` that has none.
abbrev mutual
  pub otherwise_of_body : BodyIn → Body → Option BodyIn
  otherwise_of_body (IfTaken outer condition) body = Some (IfOtherwise outer condition body)
  otherwise_of_body (IfOtherwise outer condition taken) body = otherwise_of_statement outer (IfElse condition taken body)
  otherwise_of_body (WhileBody outer condition) body = otherwise_of_statement outer (WhileLoop condition body)
  otherwise_of_body (ForBody outer start condition last) body = otherwise_of_statement outer (ForLoop start condition last body)

  pub otherwise_of_statement : StatementIn → Statement → Option BodyIn
  otherwise_of_statement (InInners outer before) statement = None
  otherwise_of_statement (AsBody owner) statement = otherwise_of_body owner (Single statement)

-- ---- a sign alone, a name alone

abbrev pub awaited_token : Awaited → Spelled
awaited_token (ArrayOpen before arrays name) = mark 0 sign.OpenBracket
awaited_token (ArrayClose before arrays name words) = mark 0 sign.CloseBracket
awaited_token (ParametersOpen heading) = mark 0 sign.OpenParen
awaited_token (VoidClose heading) = mark 0 sign.CloseParen
awaited_token (BodyOpen heading formals) = mark 0 sign.OpenBrace
awaited_token (CallOpen outer spawned name) = counting (call_level outer) (Anew Arguments ∷ []) (Mark sign.OpenParen)
awaited_token (CalledEnd outer call) = mark (statement_level outer) sign.Semicolon
awaited_token (AddOpen outer) = mark (call_level outer) sign.OpenParen
awaited_token (AddIndexOpen outer name) = mark (call_level outer) sign.OpenBracket
awaited_token (AddComma outer name index) = mark (call_level outer) sign.Comma
awaited_token (AddedEnd outer addition) = mark (statement_level outer) sign.Semicolon
awaited_token (SimpleEnd (AsStatement outer) simple) = mark (statement_level outer) sign.Semicolon
awaited_token (SimpleEnd (AsForStart outer) simple) = mark (statement_level outer + 1) sign.Semicolon
awaited_token (SimpleEnd (AsForLast outer start condition) simple) = mark (statement_level outer) sign.CloseParen
awaited_token (StoreAssign outer name index) = mark (simple_level outer) sign.Assign
awaited_token (SyncEnd outer) = mark (statement_level outer) sign.Semicolon
awaited_token (IfOpen outer) = mark (statement_level outer) sign.OpenParen
awaited_token (WhileOpen outer) = mark (statement_level outer) sign.OpenParen
awaited_token (ForOpen outer) = mark (statement_level outer) sign.OpenParen
awaited_token (PrintOpen outer) = mark (statement_level outer) sign.OpenParen
awaited_token (PrintEnd outer value) = mark (statement_level outer) sign.Semicolon

abbrev pub awaited_state : Awaited → State
awaited_state (ArrayOpen before arrays name) = ArraySize before arrays name
awaited_state (ArrayClose before arrays name words) = AfterArray before (with_last arrays (record { name = name; words = words }))
awaited_state (ParametersOpen heading) = ParametersStart heading
awaited_state (VoidClose heading) = Awaits (BodyOpen heading VoidParameters)
awaited_state (BodyOpen heading formals) = AtInner (FunctionBody heading formals) NoInners
awaited_state (CallOpen outer spawned name) = AtArguments outer spawned name
awaited_state (CalledEnd outer call) = after_statement outer (Calling call)
awaited_state (AddOpen outer) = AwaitsName (AddedName outer)
awaited_state (AddIndexOpen outer name) = Wants (AddedAt outer name)
awaited_state (AddComma outer name index) = Wants (AddendOf outer name index)
awaited_state (AddedEnd outer addition) = after_statement outer (Adding addition)
awaited_state (SimpleEnd (AsStatement outer) simple) = after_statement outer (Simply simple)
awaited_state (SimpleEnd (AsForStart outer) simple) = AtForCondition outer (SimpleStart simple)
awaited_state (SimpleEnd (AsForLast outer start condition) simple) = AtBody (ForBody outer start condition (Some simple))
awaited_state (StoreAssign outer name index) = Wants (StoredIn outer name index)
awaited_state (SyncEnd outer) = after_statement outer Syncing
awaited_state (IfOpen outer) = Wants (IfCondition outer)
awaited_state (WhileOpen outer) = Wants (WhileCondition outer)
awaited_state (ForOpen outer) = AtForStart outer
awaited_state (PrintOpen outer) = Wants (Printed outer)
awaited_state (PrintEnd outer value) = after_statement outer (Printing value)

-- the token is this sign
abbrev pub is_mark : Sign → Token → Bool
is_mark sign (Name name) = false
is_mark sign (Number value) = false
is_mark sign (Word word) = false
is_mark sign (Mark other) = bytes_eq (sign_text sign) (sign_text other)

-- the tokens are the same sign
abbrev pub is_same_sign : Token → Token → Bool
is_same_sign (Name name) token = false
is_same_sign (Number value) token = false
is_same_sign (Word word) token = false
is_same_sign (Mark sign) token = is_mark sign token

abbrev pub step_awaited : Awaited → Token → Option Next
step_awaited awaited token =
    if is_same_sign (awaited_token awaited).token token then goes_on (awaited_token awaited) (awaited_state awaited) else None

abbrev pub named_token : NameAwaited → List ℕ → Spelled
named_token (FunctionName before is_cilk gives) name = plain 0 (Name name)
named_token (ArrayName before arrays) name = counting 0 (OneMore Arrays ∷ []) (Name name)
named_token (ParameterName heading before) name = counting 0 (OneMore Variables ∷ []) (Name name)
named_token (DeclaratorName outer before) name = counting (declare_level outer) (OneMore Variables ∷ []) (Name name)
named_token (SpawnedName outer) name = plain (call_level outer) (Name name)
named_token (AddedName outer) name = plain (call_level outer) (Name name)

abbrev pub named_state : NameAwaited → List ℕ → State
named_state (FunctionName before is_cilk gives) name = Awaits (ParametersOpen (record { before = before; «cilk» = is_cilk; gives = gives; name = name }))
named_state (ArrayName before arrays) name = Awaits (ArrayOpen before (Some arrays) name)
named_state (ParameterName heading before) name = AfterParameter heading (with_last before name)
named_state (DeclaratorName outer before) name = AfterDeclarator outer before name
named_state (SpawnedName outer) name = Awaits (CallOpen outer true name)
named_state (AddedName outer) name = Awaits (AddIndexOpen outer name)

abbrev pub step_name : NameAwaited → Token → Option Next
step_name awaited (Name name) = goes_on (named_token awaited name) (named_state awaited name)
step_name awaited _ = None

-- ---- items

-- what the first token of a function counts as
abbrev pub function_counts : List Count
function_counts = OneMore Functions ∷ Anew Parameters ∷ Anew Variables ∷ []

abbrev pub step_items : Source → Token → Option Next
step_items before (Word word.Cilk) = goes_on (counting 0 function_counts (Word word.Cilk)) (AfterCilk before)
step_items before (Word word.Void) = goes_on (counting 0 function_counts (Word word.Void)) (AwaitsName (FunctionName before false false))
step_items before (Word word.Int) = goes [] (AfterInt before)
step_items before _ = None

abbrev pub step_cilk : Source → Token → Option Next
step_cilk before (Word word.Int) = goes_on (word_at 0 word.Int) (AwaitsName (FunctionName before true true))
step_cilk before (Word word.Void) = goes_on (word_at 0 word.Void) (AwaitsName (FunctionName before true false))
step_cilk before _ = None

abbrev pub step_int : Source → Token → Option Next
step_int before (Name name) = goes [] (AfterIntName before name)
step_int before _ = None

abbrev pub step_int_name : Source → List ℕ → Token → Option Next
step_int_name before name (Mark sign.OpenParen) =
    goes (counting 0 function_counts (Word word.Int) ∷ plain 0 (Name name) ∷ mark 0 sign.OpenParen ∷ []) (ParametersStart (record { before = before; «cilk» = false; gives = true; name = name }))
step_int_name before name (Mark sign.OpenBracket) =
    goes (word_at 0 word.Int ∷ counting 0 (OneMore Arrays ∷ []) (Name name) ∷ mark 0 sign.OpenBracket ∷ []) (ArraySize before None name)
step_int_name before name _ = None

abbrev pub step_size : Source → Option (Commas Array) → List ℕ → Token → Option Next
step_size before arrays name (Number (pos words)) = goes_on (plain 0 (Number (pos words))) (Awaits (ArrayClose before arrays name words))
step_size before arrays name _ = None

abbrev pub step_array : Source → Commas Array → Token → Option Next
step_array before arrays (Mark sign.Comma) = goes_on (mark 0 sign.Comma) (AwaitsName (ArrayName before arrays))
step_array before arrays (Mark sign.Semicolon) = goes_on (mark 0 sign.Semicolon) (Items (Then before (syntax.Arrays arrays)))
step_array before arrays _ = None

abbrev pub step_parameters : Heading → Token → Option Next
step_parameters heading (Mark sign.CloseParen) = goes_on (mark 0 sign.CloseParen) (Awaits (BodyOpen heading NoParameters))
step_parameters heading (Word word.Void) = goes_on (word_at 0 word.Void) (Awaits (VoidClose heading))
step_parameters heading (Word word.Int) = goes_on (counting 0 (OneMore Parameters ∷ []) (Word word.Int)) (AwaitsName (ParameterName heading None))
step_parameters heading _ = None

abbrev pub step_parameter : Heading → Commas (List ℕ) → Token → Option Next
step_parameter heading names (Mark sign.Comma) = goes_on (mark 0 sign.Comma) (NextParameter heading names)
step_parameter heading names (Mark sign.CloseParen) = goes_on (mark 0 sign.CloseParen) (Awaits (BodyOpen heading (Named names)))
step_parameter heading names _ = None

abbrev pub step_next_parameter : Heading → Commas (List ℕ) → Token → Option Next
step_next_parameter heading names (Word word.Int) = goes_on (counting 0 (OneMore Parameters ∷ []) (Word word.Int)) (AwaitsName (ParameterName heading (Some names)))
step_next_parameter heading names _ = None

-- ---- expressions

-- the operator of a sign
abbrev pub sign_operator : Sign → Option BinaryOp
sign_operator sign.OrOr = Some op.Or
sign_operator sign.AndAnd = Some op.And
sign_operator sign.Equal = Some op.Eq
sign_operator sign.NotEqual = Some op.Ne
sign_operator sign.Less = Some op.Lt
sign_operator sign.LessEqual = Some op.Le
sign_operator sign.Greater = Some op.Gt
sign_operator sign.GreaterEqual = Some op.Ge
sign_operator sign.Plus = Some op.Add
sign_operator sign.Minus = Some op.Sub
sign_operator sign.Star = Some op.Mul
sign_operator sign.Slash = Some op.Div
sign_operator sign.Percent = Some op.Rem
sign_operator _ = None

abbrev pub step_wants : ExpressionIn → Token → Option Next
step_wants around (Number value) = goes_on (counting (level_of around) (first_counts around) (Number value)) (Has around (Numeral value))
step_wants around (Name name) = goes_on (counting (level_of around) (first_counts around) (Name name)) (Has around (Variable name))
step_wants around (Mark sign.OpenParen) = goes_on (counting (level_of around) (first_counts around) (Mark sign.OpenParen)) (Wants (InGroup around))
step_wants around (Mark sign.Minus) = goes_on (counting (level_of around) (first_counts around ++ OneMore Operators ∷ []) (Mark sign.Minus)) (Wants (Under around unary.Neg))
step_wants around (Mark sign.Bang) = goes_on (counting (level_of around) (first_counts around ++ OneMore Operators ∷ []) (Mark sign.Bang)) (Wants (Under around unary.Not))
step_wants around _ = None

-- The operator takes the operand, or where it binds no stronger than the one before, the whole that ends there.
abbrev pub with_operator : ExpressionIn → Expression → BinaryOp → ExpressionIn
with_operator (RightOf around left before) operand operator =
    if nat_lt (operator_strength before) (operator_strength operator)
    then RightOf (RightOf around left before) operand operator
    else with_operator around (Infix left before operand) operator
with_operator (Under around before) operand operator = with_operator around (Prefix before operand) operator
with_operator (ValueOf outer) operand operator = RightOf (ValueOf outer) operand operator
with_operator (ArgumentOf outer spawned name before) operand operator = RightOf (ArgumentOf outer spawned name before) operand operator
with_operator (AddedAt outer name) operand operator = RightOf (AddedAt outer name) operand operator
with_operator (AddendOf outer name index) operand operator = RightOf (AddendOf outer name index) operand operator
with_operator (ChangedBy outer name direction) operand operator = RightOf (ChangedBy outer name direction) operand operator
with_operator (StoredAt outer name) operand operator = RightOf (StoredAt outer name) operand operator
with_operator (StoredIn outer name index) operand operator = RightOf (StoredIn outer name index) operand operator
with_operator (IfCondition outer) operand operator = RightOf (IfCondition outer) operand operator
with_operator (WhileCondition outer) operand operator = RightOf (WhileCondition outer) operand operator
with_operator (ForCondition outer start) operand operator = RightOf (ForCondition outer start) operand operator
with_operator (Printed outer) operand operator = RightOf (Printed outer) operand operator
with_operator (Returned outer) operand operator = RightOf (Returned outer) operand operator
with_operator (InIndex around name) operand operator = RightOf (InIndex around name) operand operator
with_operator (InGroup around) operand operator = RightOf (InGroup around) operand operator

abbrev pub step_declarators : DeclareIn → Commas Declarator → Token → Option Next
step_declarators outer declarators (Mark sign.Comma) = goes_on (mark (declare_level outer) sign.Comma) (AwaitsName (DeclaratorName outer (Some declarators)))
step_declarators (AsDeclaration outer before) declarators (Mark sign.Semicolon) = goes_on (mark (inners_level outer) sign.Semicolon) (AtInner outer (ThenInner before (Declaration declarators)))
step_declarators (AsForDeclaration outer) declarators (Mark sign.Semicolon) = goes_on (mark (statement_level outer + 1) sign.Semicolon) (AtForCondition outer (DeclaringStart declarators))
step_declarators outer declarators _ = None

-- behind what stands behind a `=`
abbrev pub step_right : RightIn → Right → Token → Option Next
step_right (Assigned outer name) right token = step_awaited (SimpleEnd outer (Assignment name right)) token
step_right (Declared outer before name) right token = step_declarators outer (with_last before (Valued name right)) token

-- the call whose arguments are these
abbrev pub call_of : Bool → List ℕ → Option (Commas Expression) → Call
call_of spawned name arguments = record { spawned = spawned; name = name; arguments = arguments }

-- the addition of these parts
abbrev pub addition_of : List ℕ → Expression → Expression → Addition
addition_of name index addend = record { name = name; index = index; addend = addend }

abbrev pub step_argument : CallIn → Bool → List ℕ → Commas Expression → Token → Option Next
step_argument outer spawned name arguments (Mark sign.Comma) = goes_on (mark (call_level outer) sign.Comma) (Wants (ArgumentOf outer spawned name (Some arguments)))
step_argument outer spawned name arguments (Mark sign.CloseParen) = goes_on (mark (call_level outer) sign.CloseParen) (after_call outer (call_of spawned name (Some arguments)))
step_argument outer spawned name arguments _ = None

-- where the sign alone may follow
abbrev pub step_only : Spelled → State → Token → Option Next
step_only spelled state token = if is_same_sign spelled.token token then goes_on spelled state else None

-- the token ends the expression
abbrev pub step_end : ExpressionIn → Expression → Token → Option Next
step_end (RightOf around left operator) operand token = step_end around (Infix left operator operand) token
step_end (Under around operator) operand token = step_end around (Prefix operator operand) token
step_end (InGroup around) operand token = step_only (mark (level_of around) sign.CloseParen) (Has around (Group operand)) token
step_end (InIndex around name) operand token = step_only (mark (level_of around) sign.CloseBracket) (Has around (Element name operand)) token
step_end (ValueOf outer) operand token = step_right outer (Value operand) token
step_end (ArgumentOf outer spawned name before) operand token = step_argument outer spawned name (with_last before operand) token
step_end (AddedAt outer name) operand token = step_only (mark (call_level outer) sign.CloseBracket) (Awaits (AddComma outer name operand)) token
step_end (AddendOf outer name index) operand token = step_only (mark (call_level outer) sign.CloseParen) (after_addition outer (addition_of name index operand)) token
step_end (ChangedBy outer name direction) operand token = step_awaited (SimpleEnd outer (Change name direction operand)) token
step_end (StoredAt outer name) operand token = step_only (mark (simple_level outer) sign.CloseBracket) (Awaits (StoreAssign outer name operand)) token
step_end (StoredIn outer name index) operand token = step_awaited (SimpleEnd outer (Storing name index operand)) token
step_end (IfCondition outer) operand token = step_only (mark (statement_level outer) sign.CloseParen) (AtBody (IfTaken outer operand)) token
step_end (WhileCondition outer) operand token = step_only (mark (statement_level outer) sign.CloseParen) (AtBody (WhileBody outer operand)) token
step_end (ForCondition outer start) operand token = step_only (mark (statement_level outer + 1) sign.Semicolon) (AtForLast outer start (Some operand)) token
step_end (Printed outer) operand token = step_only (mark (statement_level outer) sign.CloseParen) (Awaits (PrintEnd outer operand)) token
step_end (Returned outer) operand token = step_only (mark (statement_level outer) sign.Semicolon) (after_statement outer (Returning (Some operand))) token

-- an operator goes on with the operand, another token ends it
abbrev pub step_operator : ExpressionIn → Expression → Token → Option BinaryOp → Option Next
step_operator around operand token (Some operator) =
    goes_on (counting (level_of (with_operator around operand operator)) (OneMore Operators ∷ []) token) (Wants (with_operator around operand operator))
step_operator around operand token None = step_end around operand token

-- the operator that a token is
abbrev pub token_operator : Token → Option BinaryOp
token_operator (Name name) = None
token_operator (Number value) = None
token_operator (Word word) = None
token_operator (Mark sign) = sign_operator sign

abbrev pub step_operand : ExpressionIn → Expression → Token → Option Next
step_operand around operand token = step_operator around operand token (token_operator token)

-- a name before an index
abbrev pub step_has : ExpressionIn → Expression → Token → Option Next
step_has around (Variable name) (Mark sign.OpenBracket) = goes_on (mark (level_of around) sign.OpenBracket) (Wants (InIndex around name))
step_has around operand token = step_operand around operand token

-- ---- calls, additions and what stands behind a `=`

abbrev pub step_arguments : CallIn → Bool → List ℕ → Token → Option Next
step_arguments outer spawned name (Mark sign.CloseParen) = goes_on (mark (call_level outer) sign.CloseParen) (after_call outer (call_of spawned name None))
step_arguments outer spawned name token = step_wants (ArgumentOf outer spawned name None) token

abbrev pub step_at_right : RightIn → Token → Option Next
step_at_right outer (Word word.Spawn) = goes_on (word_at (right_level outer) word.Spawn) (AwaitsName (SpawnedName (ResultOf outer)))
step_at_right outer (Word word.FetchAdd) = goes_on (word_at (right_level outer) word.FetchAdd) (Awaits (AddOpen (ResultOf outer)))
step_at_right outer (Name name) = goes [] (AfterRightName outer name)
step_at_right outer token = step_wants (ValueOf outer) token

-- with a token more before
abbrev pub behind : Spelled → Next → Next
behind spelled next = record { emitted = spelled ∷ next.emitted; state = next.state }

abbrev pub step_right_name : RightIn → List ℕ → Token → Option Next
step_right_name outer name (Mark sign.OpenParen) =
    goes (plain (right_level outer) (Name name) ∷ counting (right_level outer) (Anew Arguments ∷ []) (Mark sign.OpenParen) ∷ []) (AtArguments (ResultOf outer) false name)
step_right_name outer name token =
    option_map (behind (counting (right_level outer) (Anew Operators ∷ []) (Name name))) (step_has (ValueOf outer) (Variable name) token)

abbrev pub step_declarator : DeclareIn → Option (Commas Declarator) → List ℕ → Token → Option Next
step_declarator outer before name (Mark sign.Assign) = goes_on (mark (declare_level outer) sign.Assign) (AtRight (Declared outer before name))
step_declarator outer before name token = step_declarators outer (with_last before (Bare name)) token

-- ---- statements

-- A call may stand where a statement does, and in no head of a `for`.
abbrev pub step_call : SimpleIn → List ℕ → Option Next
step_call (AsStatement outer) name = goes_on (counting (statement_level outer) (Anew Arguments ∷ []) (Mark sign.OpenParen)) (AtArguments (Called outer) false name)
step_call (AsForStart outer) name = None
step_call (AsForLast outer start condition) name = None

-- behind a name that begins a statement
abbrev pub step_after_name : SimpleIn → List ℕ → Token → Option Next
step_after_name outer name (Mark sign.Assign) = goes_on (mark (simple_level outer) sign.Assign) (AtRight (Assigned outer name))
step_after_name outer name (Mark sign.PlusAssign) = goes_on (counting (simple_level outer) (Anew Operators ∷ OneMore Operators ∷ []) (Mark sign.PlusAssign)) (Wants (ChangedBy outer name Up))
step_after_name outer name (Mark sign.MinusAssign) = goes_on (counting (simple_level outer) (Anew Operators ∷ OneMore Operators ∷ []) (Mark sign.MinusAssign)) (Wants (ChangedBy outer name Down))
step_after_name outer name (Mark sign.PlusPlus) = goes_on (mark (simple_level outer) sign.PlusPlus) (Awaits (SimpleEnd outer (Step name Up)))
step_after_name outer name (Mark sign.MinusMinus) = goes_on (mark (simple_level outer) sign.MinusMinus) (Awaits (SimpleEnd outer (Step name Down)))
step_after_name outer name (Mark sign.OpenBracket) = goes_on (mark (simple_level outer) sign.OpenBracket) (Wants (StoredAt outer name))
step_after_name outer name (Mark sign.OpenParen) = step_call outer name
step_after_name outer name _ = None

abbrev pub step_statement : StatementIn → Token → Option Next
step_statement outer (Mark sign.Semicolon) = goes_on (mark (statement_level outer) sign.Semicolon) (after_statement outer Nothing)
step_statement outer (Name name) = goes_on (plain (statement_level outer) (Name name)) (AfterName (AsStatement outer) name)
step_statement outer (Word word.Spawn) = goes_on (word_at (statement_level outer) word.Spawn) (AwaitsName (SpawnedName (Called outer)))
step_statement outer (Word word.FetchAdd) = goes_on (word_at (statement_level outer) word.FetchAdd) (Awaits (AddOpen (Called outer)))
step_statement outer (Word word.Sync) = goes_on (word_at (statement_level outer) word.Sync) (Awaits (SyncEnd outer))
step_statement outer (Word word.If) = goes_on (word_at (statement_level outer) word.If) (Awaits (IfOpen outer))
step_statement outer (Word word.While) = goes_on (word_at (statement_level outer) word.While) (Awaits (WhileOpen outer))
step_statement outer (Word word.For) = goes_on (word_at (statement_level outer) word.For) (Awaits (ForOpen outer))
step_statement outer (Word word.Print) = goes_on (word_at (statement_level outer) word.Print) (Awaits (PrintOpen outer))
step_statement outer (Word word.Return) = goes_on (word_at (statement_level outer) word.Return) (AfterReturn outer)
step_statement outer _ = None

abbrev pub step_inner : InnersIn → Inners → Token → Option Next
step_inner outer before (Mark sign.CloseBrace) = goes_on (mark (closing_level outer) sign.CloseBrace) (after_inners outer before)
step_inner outer before (Mark sign.OpenBrace) = goes_on (mark (inners_level outer) sign.OpenBrace) (AtInner (InBlock outer before) NoInners)
step_inner outer before (Word word.Int) = goes_on (word_at (inners_level outer) word.Int) (AwaitsName (DeclaratorName (AsDeclaration outer before) None))
step_inner outer before token = step_statement (InInners outer before) token

abbrev pub step_body : BodyIn → Token → Option Next
step_body owner (Mark sign.OpenBrace) = goes_on (mark (owner_level owner) sign.OpenBrace) (AtInner (InBody owner) NoInners)
step_body owner token = step_statement (AsBody owner) token

abbrev pub step_else : Option BodyIn → Option Next
step_else None = None
step_else (Some owner) = goes_on (word_at (owner_level owner) word.Else) (AtBody owner)

abbrev pub step_after_body : BodyIn → Body → Token → Option Next
step_after_body owner body (Word word.Else) = step_else (otherwise_of_body owner body)
step_after_body owner body token = step_inner (ended_body owner body).outer (ended_body owner body).inners token

abbrev pub step_for_start : StatementIn → Token → Option Next
step_for_start outer (Mark sign.Semicolon) = goes_on (mark (statement_level outer + 1) sign.Semicolon) (AtForCondition outer NoStart)
step_for_start outer (Word word.Int) = goes_on (word_at (statement_level outer + 1) word.Int) (AwaitsName (DeclaratorName (AsForDeclaration outer) None))
step_for_start outer (Name name) = goes_on (plain (statement_level outer + 1) (Name name)) (AfterName (AsForStart outer) name)
step_for_start outer _ = None

abbrev pub step_for_condition : StatementIn → Start → Token → Option Next
step_for_condition outer start (Mark sign.Semicolon) = goes_on (mark (statement_level outer + 1) sign.Semicolon) (AtForLast outer start None)
step_for_condition outer start token = step_wants (ForCondition outer start) token

abbrev pub step_for_last : StatementIn → Start → Option Expression → Token → Option Next
step_for_last outer start condition (Mark sign.CloseParen) = goes_on (mark (statement_level outer) sign.CloseParen) (AtBody (ForBody outer start condition None))
step_for_last outer start condition (Name name) = goes_on (plain (statement_level outer + 2) (Name name)) (AfterName (AsForLast outer start condition) name)
step_for_last outer start condition _ = None

abbrev pub step_return : StatementIn → Token → Option Next
step_return outer (Mark sign.Semicolon) = goes_on (mark (statement_level outer) sign.Semicolon) (after_statement outer (Returning None))
step_return outer token = step_wants (Returned outer) token

-- ---- the machine

-- where it goes with a token
unfoldable pub step : State → Token → Option Next
step (Items before) token = step_items before token
step (AfterCilk before) token = step_cilk before token
step (AfterInt before) token = step_int before token
step (AfterIntName before name) token = step_int_name before name token
step (ArraySize before arrays name) token = step_size before arrays name token
step (AfterArray before arrays) token = step_array before arrays token
step (ParametersStart heading) token = step_parameters heading token
step (AfterParameter heading names) token = step_parameter heading names token
step (NextParameter heading names) token = step_next_parameter heading names token
step (AtInner outer before) token = step_inner outer before token
step (AtBody owner) token = step_body owner token
step (HasBody owner body) token = step_after_body owner body token
step (AfterDeclarator outer before name) token = step_declarator outer before name token
step (HasDeclarators outer declarators) token = step_declarators outer declarators token
step (AtRight outer) token = step_at_right outer token
step (AfterRightName outer name) token = step_right_name outer name token
step (AtArguments outer spawned name) token = step_arguments outer spawned name token
step (AfterName outer name) token = step_after_name outer name token
step (AtForStart outer) token = step_for_start outer token
step (AtForCondition outer start) token = step_for_condition outer start token
step (AtForLast outer start condition) token = step_for_last outer start condition token
step (AfterReturn outer) token = step_return outer token
step (Wants around) token = step_wants around token
step (Has around operand) token = step_has around operand token
step (Awaits awaited) token = step_awaited awaited token
step (AwaitsName awaited) token = step_name awaited token

-- the source that was read, where it may end here
abbrev pub finish : State → Option Source
finish (Items before) = Some before
finish _ = None

-- The tokens behind those that were emitted, of which the counts are not known yet: here they have those that pass no limit.
abbrev pub pending : State → List Spelled
pending (AfterInt before) = word_at 0 word.Int ∷ []
pending (AfterIntName before name) = word_at 0 word.Int ∷ plain 0 (Name name) ∷ []
pending (AfterRightName outer name) = plain (right_level outer) (Name name) ∷ []
pending _ = []
