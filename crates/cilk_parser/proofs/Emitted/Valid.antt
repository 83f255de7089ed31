-- What the machine carries is well formed.
use Rattle.std.specs.Prelude.{◌≤◌, not, IsTrue, Option}
use Rattle.cilk_tree.specs.Syntax.{Commas, Expression, Declarator, Body, is_grouped, is_simple, is_start, is_call, is_addition, is_declarator, each_of, if_any, are_inners, is_body, dangles, operator_strength, strength, IsWellFormed}
use Rattle.cilk_parser.specs.Contexts.{InnersIn, FunctionBody, InBlock, InBody, BodyIn, IfTaken, IfOtherwise, WhileBody, ForBody, StatementIn, InInners, AsBody, SimpleIn, AsStatement, AsForStart, AsForLast, DeclareIn, AsDeclaration, AsForDeclaration, RightIn, Assigned, Declared, CallIn, ResultOf, Called, ExpressionIn, ValueOf, ArgumentOf, AddedAt, AddendOf, ChangedBy, StoredAt, StoredIn, IfCondition, WhileCondition, ForCondition, Printed, Returned, RightOf, Under, InIndex, InGroup, least_strength}
use Rattle.cilk_parser.specs.Steps.{Awaited, ArrayOpen, ArrayClose, ParametersOpen, VoidClose, BodyOpen, CallOpen, CalledEnd, AddOpen, AddIndexOpen, AddComma, AddedEnd, SimpleEnd, StoreAssign, SyncEnd, IfOpen, WhileOpen, ForOpen, PrintOpen, PrintEnd, NameAwaited, FunctionName, ArrayName, ParameterName, DeclaratorName, SpawnedName, AddedName, State, Items, AfterCilk, AfterInt, AfterIntName, ArraySize, AfterArray, ParametersStart, AfterParameter, NextParameter, AtInner, AtBody, HasBody, AfterDeclarator, HasDeclarators, AtRight, AfterRightName, AtArguments, AfterName, AtForStart, AtForCondition, AtForLast, AfterReturn, Wants, Has, Awaits, AwaitsName}

-- ---- contexts

abbrev mutual
  pub AreInnersOpen : InnersIn → Type 0
  AreInnersOpen (FunctionBody heading formals) = IsWellFormed heading.before
  AreInnersOpen (InBlock outer before) = AreInnersOpen outer × IsTrue (are_inners before)
  AreInnersOpen (InBody owner) = IsBodyOpen owner

  pub IsBodyOpen : BodyIn → Type 0
  IsBodyOpen (IfTaken outer condition) = IsStatementOpen outer × IsTrue (is_grouped condition)
  IsBodyOpen (IfOtherwise outer condition taken) = IsStatementOpen outer × IsTrue (is_grouped condition) × IsTrue (is_body taken) × IsTrue (not (dangles taken))
  IsBodyOpen (WhileBody outer condition) = IsStatementOpen outer × IsTrue (is_grouped condition)
  IsBodyOpen (ForBody outer start condition last) = IsStatementOpen outer × IsTrue (is_start start) × IsTrue (if_any is_grouped condition) × IsTrue (if_any is_simple last)

  pub IsStatementOpen : StatementIn → Type 0
  IsStatementOpen (InInners outer before) = AreInnersOpen outer × IsTrue (are_inners before)
  IsStatementOpen (AsBody owner) = IsBodyOpen owner

abbrev pub IsSimpleOpen : SimpleIn → Type 0
IsSimpleOpen (AsStatement outer) = IsStatementOpen outer
IsSimpleOpen (AsForStart outer) = IsStatementOpen outer
IsSimpleOpen (AsForLast outer start condition) = IsStatementOpen outer × IsTrue (is_start start) × IsTrue (if_any is_grouped condition)

abbrev pub IsDeclareOpen : DeclareIn → Type 0
IsDeclareOpen (AsDeclaration outer before) = AreInnersOpen outer × IsTrue (are_inners before)
IsDeclareOpen (AsForDeclaration outer) = IsStatementOpen outer

abbrev pub AreDeclarators : Option (Commas Declarator) → Type 0
AreDeclarators before = IsTrue (if_any (each_of is_declarator) before)

abbrev pub IsRightOpen : RightIn → Type 0
IsRightOpen (Assigned outer name) = IsSimpleOpen outer
IsRightOpen (Declared outer before name) = IsDeclareOpen outer × AreDeclarators before

abbrev pub IsCallOpen : CallIn → Type 0
IsCallOpen (ResultOf outer) = IsRightOpen outer
IsCallOpen (Called outer) = IsStatementOpen outer

abbrev pub IsOpen : ExpressionIn → Type 0
IsOpen (ValueOf outer) = IsRightOpen outer
IsOpen (ArgumentOf outer spawned name before) = IsCallOpen outer × IsTrue (if_any (each_of is_grouped) before)
IsOpen (AddedAt outer name) = IsCallOpen outer
IsOpen (AddendOf outer name index) = IsCallOpen outer × IsTrue (is_grouped index)
IsOpen (ChangedBy outer name direction) = IsSimpleOpen outer
IsOpen (StoredAt outer name) = IsSimpleOpen outer
IsOpen (StoredIn outer name index) = IsSimpleOpen outer × IsTrue (is_grouped index)
IsOpen (IfCondition outer) = IsStatementOpen outer
IsOpen (WhileCondition outer) = IsStatementOpen outer
IsOpen (ForCondition outer start) = IsStatementOpen outer × IsTrue (is_start start)
IsOpen (Printed outer) = IsStatementOpen outer
IsOpen (Returned outer) = IsStatementOpen outer
IsOpen (RightOf around left operator) =
    IsOpen around × IsTrue (is_grouped left) × (operator_strength operator ≤ strength left) × (least_strength around ≤ operator_strength operator)
IsOpen (Under around operator) = IsOpen around
IsOpen (InIndex around name) = IsOpen around
IsOpen (InGroup around) = IsOpen around

-- The expression may stand there.
pub record IsOperand (around : ExpressionIn) (operand : Expression) : Type 0 where
  pub opened : IsOpen around
  pub grouped : IsTrue (is_grouped operand)
  pub strong : least_strength around ≤ strength operand

-- The body may stand there, and an `else` behind it would not belong to an `if` in it.
pub record IsBodyThere (owner : BodyIn) (body : Body) : Type 0 where
  pub opened : IsBodyOpen owner
  pub formed : IsTrue (is_body body)
  pub closed : IsTrue (not (dangles body))

-- ---- states

abbrev pub IsAwaitedValid : Awaited → Type 0
IsAwaitedValid (ArrayOpen before arrays name) = IsWellFormed before
IsAwaitedValid (ArrayClose before arrays name words) = IsWellFormed before
IsAwaitedValid (ParametersOpen heading) = IsWellFormed heading.before
IsAwaitedValid (VoidClose heading) = IsWellFormed heading.before
IsAwaitedValid (BodyOpen heading formals) = IsWellFormed heading.before
IsAwaitedValid (CallOpen outer spawned name) = IsCallOpen outer
IsAwaitedValid (CalledEnd outer call) = IsStatementOpen outer × IsTrue (is_call call)
IsAwaitedValid (AddOpen outer) = IsCallOpen outer
IsAwaitedValid (AddIndexOpen outer name) = IsCallOpen outer
IsAwaitedValid (AddComma outer name index) = IsCallOpen outer × IsTrue (is_grouped index)
IsAwaitedValid (AddedEnd outer addition) = IsStatementOpen outer × IsTrue (is_addition addition)
IsAwaitedValid (SimpleEnd outer simple) = IsSimpleOpen outer × IsTrue (is_simple simple)
IsAwaitedValid (StoreAssign outer name index) = IsSimpleOpen outer × IsTrue (is_grouped index)
IsAwaitedValid (SyncEnd outer) = IsStatementOpen outer
IsAwaitedValid (IfOpen outer) = IsStatementOpen outer
IsAwaitedValid (WhileOpen outer) = IsStatementOpen outer
IsAwaitedValid (ForOpen outer) = IsStatementOpen outer
IsAwaitedValid (PrintOpen outer) = IsStatementOpen outer
IsAwaitedValid (PrintEnd outer value) = IsStatementOpen outer × IsTrue (is_grouped value)

abbrev pub IsNameAwaitedValid : NameAwaited → Type 0
IsNameAwaitedValid (FunctionName before is_cilk gives) = IsWellFormed before
IsNameAwaitedValid (ArrayName before arrays) = IsWellFormed before
IsNameAwaitedValid (ParameterName heading names) = IsWellFormed heading.before
IsNameAwaitedValid (DeclaratorName outer before) = IsDeclareOpen outer × AreDeclarators before
IsNameAwaitedValid (SpawnedName outer) = IsCallOpen outer
IsNameAwaitedValid (AddedName outer) = IsCallOpen outer

abbrev pub IsValid : State → Type 0
IsValid (Items before) = IsWellFormed before
IsValid (AfterCilk before) = IsWellFormed before
IsValid (AfterInt before) = IsWellFormed before
IsValid (AfterIntName before name) = IsWellFormed before
IsValid (ArraySize before arrays name) = IsWellFormed before
IsValid (AfterArray before arrays) = IsWellFormed before
IsValid (ParametersStart heading) = IsWellFormed heading.before
IsValid (AfterParameter heading names) = IsWellFormed heading.before
IsValid (NextParameter heading names) = IsWellFormed heading.before
IsValid (AtInner outer before) = AreInnersOpen outer × IsTrue (are_inners before)
IsValid (AtBody owner) = IsBodyOpen owner
IsValid (HasBody owner body) = IsBodyThere owner body
IsValid (AfterDeclarator outer before name) = IsDeclareOpen outer × AreDeclarators before
IsValid (HasDeclarators outer declarators) = IsDeclareOpen outer × IsTrue (each_of is_declarator declarators)
IsValid (AtRight outer) = IsRightOpen outer
IsValid (AfterRightName outer name) = IsRightOpen outer
IsValid (AtArguments outer spawned name) = IsCallOpen outer
IsValid (AfterName outer name) = IsSimpleOpen outer
IsValid (AtForStart outer) = IsStatementOpen outer
IsValid (AtForCondition outer start) = IsStatementOpen outer × IsTrue (is_start start)
IsValid (AtForLast outer start condition) = IsStatementOpen outer × IsTrue (is_start start) × IsTrue (if_any is_grouped condition)
IsValid (AfterReturn outer) = IsStatementOpen outer
IsValid (Wants around) = IsOpen around
IsValid (Has around operand) = IsOperand around operand × (8 ≤ strength operand)
IsValid (Awaits awaited) = IsAwaitedValid awaited
IsValid (AwaitsName awaited) = IsNameAwaitedValid awaited
