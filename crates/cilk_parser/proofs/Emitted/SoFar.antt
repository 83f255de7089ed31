-- The tokens that the machine has emitted, up to where it stands.
use Rattle.std.specs.Prelude.{ℕ, ◌+◌, pos, Bool, Option, Some, None, List, [], ◌∷◌, ◌++◌}
use Rattle.cilk_tree.specs.declared.token.Keyword.TheVariants as word
use Rattle.cilk_tree.specs.declared.token.Sign.TheVariants as sign
use Rattle.cilk_tree.specs.declared.token.Token.TheVariants.{Name, Number, Word, Mark}
use Rattle.cilk_tree.specs.declared.count.Counted.TheVariants.{Operators, Parameters, Arguments, Variables, Arrays}
use Rattle.cilk_tree.specs.declared.count.Count.TheVariants.{Anew, OneMore}
use Rattle.cilk_tree.specs.Levels.{Spelled, counting, plain, mark, word_at, operator_sign, unary_sign, change_sign, spell_expression, spell_whole, spell_argument, spell_commas, spell_any, spawn_word, spell_call, spell_addition, spell_declarator, spell_simple, spell_start, spell_condition, spell_inners, spell_body, spell_parameter, spell_parameters, spell_head, spell_array, spell_source}
use Rattle.cilk_tree.specs.Syntax as syntax
use Rattle.cilk_tree.specs.Syntax.{Commas, Expression, Declarator, Simple, Array}
use Rattle.cilk_parser.specs.Contexts.{Heading, InnersIn, FunctionBody, InBlock, InBody, BodyIn, IfTaken, IfOtherwise, WhileBody, ForBody, StatementIn, InInners, AsBody, inners_level, statement_level, owner_level, body_level, SimpleIn, AsStatement, AsForStart, AsForLast, simple_level, DeclareIn, AsDeclaration, AsForDeclaration, declare_level, RightIn, Assigned, Declared, CallIn, ResultOf, Called, call_level, ExpressionIn, ValueOf, ArgumentOf, AddedAt, AddendOf, ChangedBy, StoredAt, StoredIn, IfCondition, WhileCondition, ForCondition, Printed, Returned, RightOf, Under, InIndex, InGroup, level_of, first_counts}
use Rattle.cilk_parser.specs.Steps.{Awaited, ArrayOpen, ArrayClose, ParametersOpen, VoidClose, BodyOpen, CallOpen, CalledEnd, AddOpen, AddIndexOpen, AddComma, AddedEnd, SimpleEnd, StoreAssign, SyncEnd, IfOpen, WhileOpen, ForOpen, PrintOpen, PrintEnd, NameAwaited, FunctionName, ArrayName, ParameterName, DeclaratorName, SpawnedName, AddedName, State, Items, AfterCilk, AfterInt, AfterIntName, ArraySize, AfterArray, ParametersStart, AfterParameter, NextParameter, AtInner, AtBody, HasBody, AfterDeclarator, HasDeclarators, AtRight, AfterRightName, AtArguments, AfterName, AtForStart, AtForCondition, AtForLast, AfterReturn, Wants, Has, Awaits, AwaitsName, function_counts}

-- what stands before the next of a list with commas
abbrev pub commas_before : {T : Type 0} → ℕ → (T → List Spelled) → Option (Commas T) → List Spelled
commas_before level spell None = []
commas_before level spell (Some before) = spell_commas level spell before ++ mark level sign.Comma ∷ []

-- ---- items

abbrev pub head_so_far : Heading → List Spelled
head_so_far heading = spell_source heading.before ++ spell_head function_counts heading.«cilk» heading.gives ++ plain 0 (Name heading.name) ∷ []

abbrev pub parameters_so_far : Heading → Option (Commas (List ℕ)) → List Spelled
parameters_so_far heading names = head_so_far heading ++ mark 0 sign.OpenParen ∷ commas_before 0 spell_parameter names

abbrev pub formals_so_far : Heading → syntax.Parameters → List Spelled
formals_so_far heading formals = head_so_far heading ++ mark 0 sign.OpenParen ∷ spell_parameters formals

abbrev pub arrays_so_far : syntax.Source → Option (Commas Array) → List Spelled
arrays_so_far before arrays = spell_source before ++ word_at 0 word.Int ∷ commas_before 0 spell_array arrays

-- ---- statements

abbrev pub start_so_far : ℕ → syntax.Start → List Spelled
start_so_far level start = word_at level word.For ∷ mark level sign.OpenParen ∷ spell_start (level + 1) start ++ mark (level + 1) sign.Semicolon ∷ []

abbrev pub last_so_far : ℕ → syntax.Start → Option Expression → List Spelled
last_so_far level start condition = start_so_far level start ++ spell_any (spell_whole (level + 1)) condition ++ mark (level + 1) sign.Semicolon ∷ []

abbrev pub if_so_far : ℕ → Expression → List Spelled
if_so_far level condition = word_at level word.If ∷ spell_condition level condition

-- up to a list of statements, a body or a statement
abbrev mutual
  pub inners_so_far : InnersIn → List Spelled
  inners_so_far (FunctionBody heading formals) = formals_so_far heading formals ++ mark 0 sign.CloseParen ∷ mark 0 sign.OpenBrace ∷ []
  inners_so_far (InBlock outer before) = inners_so_far outer ++ spell_inners (inners_level outer) before ++ mark (inners_level outer) sign.OpenBrace ∷ []
  inners_so_far (InBody owner) = body_so_far owner ++ mark (owner_level owner) sign.OpenBrace ∷ []

  pub body_so_far : BodyIn → List Spelled
  body_so_far (IfTaken outer condition) = statement_so_far outer ++ if_so_far (statement_level outer) condition
  body_so_far (IfOtherwise outer condition taken) =
      statement_so_far outer ++ if_so_far (statement_level outer) condition ++ spell_body (statement_level outer) (statement_level outer + 1) taken
      ++ word_at (statement_level outer) word.Else ∷ []
  body_so_far (WhileBody outer condition) = statement_so_far outer ++ word_at (statement_level outer) word.While ∷ spell_condition (statement_level outer) condition
  body_so_far (ForBody outer start condition last) =
      statement_so_far outer ++ last_so_far (statement_level outer) start condition ++ spell_any (spell_simple (statement_level outer + 2)) last
      ++ mark (statement_level outer) sign.CloseParen ∷ []

  pub statement_so_far : StatementIn → List Spelled
  statement_so_far (InInners outer before) = inners_so_far outer ++ spell_inners (inners_level outer) before
  statement_so_far (AsBody owner) = body_so_far owner

-- ---- parts of statements

abbrev pub simple_so_far : SimpleIn → List Spelled
simple_so_far (AsStatement outer) = statement_so_far outer
simple_so_far (AsForStart outer) = statement_so_far outer ++ word_at (statement_level outer) word.For ∷ mark (statement_level outer) sign.OpenParen ∷ []
simple_so_far (AsForLast outer start condition) = statement_so_far outer ++ last_so_far (statement_level outer) start condition

abbrev pub declare_so_far : DeclareIn → List Spelled
declare_so_far (AsDeclaration outer before) = inners_so_far outer ++ spell_inners (inners_level outer) before ++ word_at (inners_level outer) word.Int ∷ []
declare_so_far (AsForDeclaration outer) =
    statement_so_far outer ++ word_at (statement_level outer) word.For ∷ mark (statement_level outer) sign.OpenParen ∷ word_at (statement_level outer + 1) word.Int ∷ []

abbrev pub declarators_so_far : DeclareIn → Option (Commas Declarator) → List Spelled
declarators_so_far outer before = declare_so_far outer ++ commas_before (declare_level outer) (spell_declarator (declare_level outer)) before

abbrev pub right_so_far : RightIn → List Spelled
right_so_far (Assigned outer name) = simple_so_far outer ++ plain (simple_level outer) (Name name) ∷ mark (simple_level outer) sign.Assign ∷ []
right_so_far (Declared outer before name) =
    declarators_so_far outer before ++ counting (declare_level outer) (OneMore Variables ∷ []) (Name name) ∷ mark (declare_level outer) sign.Assign ∷ []

abbrev pub call_so_far : CallIn → List Spelled
call_so_far (ResultOf outer) = right_so_far outer
call_so_far (Called outer) = statement_so_far outer

abbrev pub arguments_so_far : CallIn → Bool → List ℕ → Option (Commas Expression) → List Spelled
arguments_so_far outer spawned name before =
    call_so_far outer ++ spawn_word (call_level outer) spawned ++ plain (call_level outer) (Name name) ∷ counting (call_level outer) (Anew Arguments ∷ []) (Mark sign.OpenParen)
    ∷ commas_before (call_level outer) (spell_argument (call_level outer)) before

-- up to the index of an addition
abbrev pub add_so_far : CallIn → List ℕ → List Spelled
add_so_far outer name =
    call_so_far outer ++ word_at (call_level outer) word.FetchAdd ∷ mark (call_level outer) sign.OpenParen ∷ plain (call_level outer) (Name name)
    ∷ mark (call_level outer) sign.OpenBracket ∷ []

-- ---- expressions

abbrev pub expression_so_far : ExpressionIn → List Spelled
expression_so_far (ValueOf outer) = right_so_far outer
expression_so_far (ArgumentOf outer spawned name before) = arguments_so_far outer spawned name before
expression_so_far (AddedAt outer name) = add_so_far outer name
expression_so_far (AddendOf outer name index) =
    add_so_far outer name ++ spell_whole (call_level outer + 1) index ++ mark (call_level outer) sign.CloseBracket ∷ mark (call_level outer) sign.Comma ∷ []
expression_so_far (ChangedBy outer name direction) =
    simple_so_far outer ++ plain (simple_level outer) (Name name)
    ∷ counting (simple_level outer) (Anew Operators ∷ OneMore Operators ∷ []) (Mark (change_sign direction)) ∷ []
expression_so_far (StoredAt outer name) = simple_so_far outer ++ plain (simple_level outer) (Name name) ∷ mark (simple_level outer) sign.OpenBracket ∷ []
expression_so_far (StoredIn outer name index) =
    simple_so_far outer ++ plain (simple_level outer) (Name name) ∷ mark (simple_level outer) sign.OpenBracket ∷ spell_whole (simple_level outer + 1) index
    ++ mark (simple_level outer) sign.CloseBracket ∷ mark (simple_level outer) sign.Assign ∷ []
expression_so_far (IfCondition outer) = statement_so_far outer ++ word_at (statement_level outer) word.If ∷ mark (statement_level outer) sign.OpenParen ∷ []
expression_so_far (WhileCondition outer) = statement_so_far outer ++ word_at (statement_level outer) word.While ∷ mark (statement_level outer) sign.OpenParen ∷ []
expression_so_far (ForCondition outer start) = statement_so_far outer ++ start_so_far (statement_level outer) start
expression_so_far (Printed outer) = statement_so_far outer ++ word_at (statement_level outer) word.Print ∷ mark (statement_level outer) sign.OpenParen ∷ []
expression_so_far (Returned outer) = statement_so_far outer ++ word_at (statement_level outer) word.Return ∷ []
expression_so_far (RightOf around left operator) =
    expression_so_far around ++ spell_expression (level_of around) (first_counts around) left
    ++ counting (level_of around) (OneMore Operators ∷ []) (Mark (operator_sign operator)) ∷ []
expression_so_far (Under around operator) =
    expression_so_far around ++ counting (level_of around) (first_counts around ++ OneMore Operators ∷ []) (Mark (unary_sign operator)) ∷ []
expression_so_far (InIndex around name) = expression_so_far around ++ counting (level_of around) (first_counts around) (Name name) ∷ mark (level_of around) sign.OpenBracket ∷ []
expression_so_far (InGroup around) = expression_so_far around ++ counting (level_of around) (first_counts around) (Mark sign.OpenParen) ∷ []

abbrev pub has_so_far : ExpressionIn → Expression → List Spelled
has_so_far around operand = expression_so_far around ++ spell_expression (level_of around) (first_counts around) operand

-- ---- states

-- up to the sign that is awaited
abbrev pub awaited_so_far : Awaited → List Spelled
awaited_so_far (ArrayOpen before arrays name) = arrays_so_far before arrays ++ counting 0 (OneMore Arrays ∷ []) (Name name) ∷ []
awaited_so_far (ArrayClose before arrays name words) =
    arrays_so_far before arrays ++ counting 0 (OneMore Arrays ∷ []) (Name name) ∷ mark 0 sign.OpenBracket ∷ plain 0 (Number (pos words)) ∷ []
awaited_so_far (ParametersOpen heading) = head_so_far heading
awaited_so_far (VoidClose heading) = formals_so_far heading syntax.VoidParameters
awaited_so_far (BodyOpen heading formals) = formals_so_far heading formals ++ mark 0 sign.CloseParen ∷ []
awaited_so_far (CallOpen outer spawned name) = call_so_far outer ++ spawn_word (call_level outer) spawned ++ plain (call_level outer) (Name name) ∷ []
awaited_so_far (CalledEnd outer call) = statement_so_far outer ++ spell_call (statement_level outer) call
awaited_so_far (AddOpen outer) = call_so_far outer ++ word_at (call_level outer) word.FetchAdd ∷ []
awaited_so_far (AddIndexOpen outer name) =
    call_so_far outer ++ word_at (call_level outer) word.FetchAdd ∷ mark (call_level outer) sign.OpenParen ∷ plain (call_level outer) (Name name) ∷ []
awaited_so_far (AddComma outer name index) = add_so_far outer name ++ spell_whole (call_level outer + 1) index ++ mark (call_level outer) sign.CloseBracket ∷ []
awaited_so_far (AddedEnd outer addition) = statement_so_far outer ++ spell_addition (statement_level outer) addition
awaited_so_far (SimpleEnd outer simple) = simple_so_far outer ++ spell_simple (simple_level outer) simple
awaited_so_far (StoreAssign outer name index) =
    simple_so_far outer ++ plain (simple_level outer) (Name name) ∷ mark (simple_level outer) sign.OpenBracket ∷ spell_whole (simple_level outer + 1) index
    ++ mark (simple_level outer) sign.CloseBracket ∷ []
awaited_so_far (SyncEnd outer) = statement_so_far outer ++ word_at (statement_level outer) word.Sync ∷ []
awaited_so_far (IfOpen outer) = statement_so_far outer ++ word_at (statement_level outer) word.If ∷ []
awaited_so_far (WhileOpen outer) = statement_so_far outer ++ word_at (statement_level outer) word.While ∷ []
awaited_so_far (ForOpen outer) = statement_so_far outer ++ word_at (statement_level outer) word.For ∷ []
awaited_so_far (PrintOpen outer) = statement_so_far outer ++ word_at (statement_level outer) word.Print ∷ []
awaited_so_far (PrintEnd outer value) = statement_so_far outer ++ word_at (statement_level outer) word.Print ∷ spell_condition (statement_level outer) value

-- up to the name that is awaited
abbrev pub named_so_far : NameAwaited → List Spelled
named_so_far (FunctionName before is_cilk gives) = spell_source before ++ spell_head function_counts is_cilk gives
named_so_far (ArrayName before arrays) = arrays_so_far before (Some arrays)
named_so_far (ParameterName heading names) = parameters_so_far heading names ++ counting 0 (OneMore Parameters ∷ []) (Word word.Int) ∷ []
named_so_far (DeclaratorName outer before) = declarators_so_far outer before
named_so_far (SpawnedName outer) = call_so_far outer ++ word_at (call_level outer) word.Spawn ∷ []
named_so_far (AddedName outer) = call_so_far outer ++ word_at (call_level outer) word.FetchAdd ∷ mark (call_level outer) sign.OpenParen ∷ []

-- the tokens that were emitted up to this state
abbrev pub so_far : State → List Spelled
so_far (Items before) = spell_source before
so_far (AfterCilk before) = spell_source before ++ counting 0 function_counts (Word word.Cilk) ∷ []
so_far (AfterInt before) = spell_source before
so_far (AfterIntName before name) = spell_source before
so_far (ArraySize before arrays name) = arrays_so_far before arrays ++ counting 0 (OneMore Arrays ∷ []) (Name name) ∷ mark 0 sign.OpenBracket ∷ []
so_far (AfterArray before arrays) = spell_source before ++ word_at 0 word.Int ∷ spell_commas 0 spell_array arrays
so_far (ParametersStart heading) = head_so_far heading ++ mark 0 sign.OpenParen ∷ []
so_far (AfterParameter heading names) = formals_so_far heading (syntax.Named names)
so_far (NextParameter heading names) = parameters_so_far heading (Some names)
so_far (AtInner outer before) = inners_so_far outer ++ spell_inners (inners_level outer) before
so_far (AtBody owner) = body_so_far owner
so_far (HasBody owner body) = body_so_far owner ++ spell_body (owner_level owner) (body_level owner) body
so_far (AfterDeclarator outer before name) = declarators_so_far outer before ++ counting (declare_level outer) (OneMore Variables ∷ []) (Name name) ∷ []
so_far (HasDeclarators outer declarators) = declare_so_far outer ++ spell_commas (declare_level outer) (spell_declarator (declare_level outer)) declarators
so_far (AtRight outer) = right_so_far outer
so_far (AfterRightName outer name) = right_so_far outer
so_far (AtArguments outer spawned name) = arguments_so_far outer spawned name None
so_far (AfterName outer name) = simple_so_far outer ++ plain (simple_level outer) (Name name) ∷ []
so_far (AtForStart outer) = simple_so_far (AsForStart outer)
so_far (AtForCondition outer start) = statement_so_far outer ++ start_so_far (statement_level outer) start
so_far (AtForLast outer start condition) = simple_so_far (AsForLast outer start condition)
so_far (AfterReturn outer) = statement_so_far outer ++ word_at (statement_level outer) word.Return ∷ []
so_far (Wants around) = expression_so_far around
so_far (Has around operand) = has_so_far around operand
so_far (Awaits awaited) = awaited_so_far awaited
so_far (AwaitsName awaited) = named_so_far awaited
