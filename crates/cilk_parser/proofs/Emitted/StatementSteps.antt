-- What the machine does where a statement or a part of one may stand.
use Rattle.std.proofs.Common.{ℕ, Bool, IsTrue, Option, Some, None, List, [], ◌∷◌, ◌++◌, refl, ap, append_assoc, append-nil}
use Rattle.std.specs.Option.{IfSome}
use Rattle.cilk_tree.specs.declared.token.Keyword.TheVariants as word
use Rattle.cilk_tree.specs.declared.token.Sign.TheVariants as sign
use Rattle.cilk_tree.specs.declared.token.Token.{Token}
use Rattle.cilk_tree.specs.declared.token.Token.TheVariants.{Name, Word, Mark}
use Rattle.cilk_tree.specs.Levels.{Spelled, mark, spell_declarator}
use Rattle.cilk_tree.specs.Syntax.{Commas, Expression, Declarator, Bare, Start, Inners, Body, Nothing, Returning, is_start, is_grouped, if_any, are_inners}
use Rattle.cilk_parser.specs.Contexts.{InnersIn, BodyIn, StatementIn, InInners, AsBody, statement_level, SimpleIn, AsStatement, AsForStart, AsForLast, DeclareIn, declare_level, CallIn, ForCondition, Returned, ArgumentOf}
use Rattle.cilk_parser.specs.Steps.{AtInner, HasBody, AfterName, AtForStart, AtForCondition, AtForLast, AfterReturn, ended_body, otherwise_of_body, call_of, step_arguments, step_declarator, step_call, step_after_name, step_statement, step_inner, step_body, step_else, step_after_body, step_for_start, step_for_condition, step_for_last, step_return}
use Rattle.cilk_parser.proofs.Emitted.Advancing.{Advances, on, on_here, advances_as}
use Rattle.cilk_parser.proofs.Emitted.AwaitedSteps.{declarator_ends}
use Rattle.cilk_parser.proofs.Emitted.Completed.{after_call_stands, after_statement_stands, after_inners_stands, ended_body_lists, Otherwise, otherwise_of_body_opens}
use Rattle.cilk_parser.proofs.Emitted.ExpressionSteps.{wants_moves}
use Rattle.cilk_parser.proofs.Emitted.SoFar.{statement_so_far, body_so_far, simple_so_far, declarators_so_far, arguments_so_far, so_far}
use Rattle.cilk_parser.proofs.Emitted.Valid.{AreInnersOpen, IsBodyOpen, IsStatementOpen, IsSimpleOpen, IsDeclareOpen, IsCallOpen, AreDeclarators, IsBodyThere}

-- ---- calls and declarators

pub arguments_move : (outer : CallIn) (spawned : Bool) (name : List ℕ) (token : Token) → IsCallOpen outer → IfSome (step_arguments outer spawned name token) (Advances (arguments_so_far outer spawned name None) token)
arguments_move outer spawned name (Mark sign.CloseParen) opened = on _ _ _ _ (after_call_stands outer (call_of spawned name None) opened refl) (simp append_assoc)
arguments_move outer spawned name token opened = wants_moves (ArgumentOf outer spawned name None) token (opened, refl)

pub declarator_moves : (outer : DeclareIn) (before : Option (Commas Declarator)) (name : List ℕ) (token : Token) → IsDeclareOpen outer → AreDeclarators before →
    IfSome (step_declarator outer before name token) (Advances (declarators_so_far outer before ++ spell_declarator (declare_level outer) (Bare name)) token)
declarator_moves outer before name (Mark sign.Assign) opened formed = on_here _ _ _ (opened, formed) refl (simp append_assoc)
declarator_moves outer before name token opened formed = declarator_ends outer before (Bare name) token opened formed refl

-- ---- a name that begins a statement

call_moves : (outer : SimpleIn) (name : List ℕ) → IsSimpleOpen outer → IfSome (step_call outer name) (Advances (so_far (AfterName outer name)) (Mark sign.OpenParen))
call_moves (AsStatement outer) name opened = on_here _ _ _ opened refl (simp append_assoc)
call_moves (AsForStart outer) name opened = tt
call_moves (AsForLast outer start condition) name opened = tt

pub after_name_moves : (outer : SimpleIn) (name : List ℕ) (token : Token) → IsSimpleOpen outer → IfSome (step_after_name outer name token) (Advances (so_far (AfterName outer name)) token)
after_name_moves outer name (Mark sign.Assign) opened = on_here _ _ _ opened refl (simp append_assoc)
after_name_moves outer name (Mark sign.PlusAssign) opened = on_here _ _ _ opened refl (simp append_assoc)
after_name_moves outer name (Mark sign.MinusAssign) opened = on_here _ _ _ opened refl (simp append_assoc)
after_name_moves outer name (Mark sign.PlusPlus) opened = on_here _ _ _ (opened, refl) refl (simp append_assoc)
after_name_moves outer name (Mark sign.MinusMinus) opened = on_here _ _ _ (opened, refl) refl (simp append_assoc)
after_name_moves outer name (Mark sign.OpenBracket) opened = on_here _ _ _ opened refl (simp append_assoc)
after_name_moves outer name (Mark sign.OpenParen) opened = call_moves outer name opened
after_name_moves outer name _ opened = tt

-- ---- statements

pub statement_moves : (outer : StatementIn) (token : Token) → IsStatementOpen outer → IfSome (step_statement outer token) (Advances (statement_so_far outer) token)
statement_moves outer (Mark sign.Semicolon) opened = on _ _ _ _ (after_statement_stands outer Nothing opened refl refl) refl
statement_moves outer (Name name) opened = on_here _ _ _ opened refl refl
statement_moves outer (Word word.Spawn) opened = on_here _ _ _ opened refl refl
statement_moves outer (Word word.FetchAdd) opened = on_here _ _ _ opened refl refl
statement_moves outer (Word word.Sync) opened = on_here _ _ _ opened refl refl
statement_moves outer (Word word.If) opened = on_here _ _ _ opened refl refl
statement_moves outer (Word word.While) opened = on_here _ _ _ opened refl refl
statement_moves outer (Word word.For) opened = on_here _ _ _ opened refl refl
statement_moves outer (Word word.Print) opened = on_here _ _ _ opened refl refl
statement_moves outer (Word word.Return) opened = on_here _ _ _ opened refl refl
statement_moves outer _ opened = tt

pub inner_moves : (outer : InnersIn) (before : Inners) (token : Token) → AreInnersOpen outer → IsTrue (are_inners before) →
    IfSome (step_inner outer before token) (Advances (so_far (AtInner outer before)) token)
inner_moves outer before (Mark sign.CloseBrace) opened formed = on _ _ _ _ (after_inners_stands outer before opened formed) refl
inner_moves outer before (Mark sign.OpenBrace) opened formed = on_here _ _ _ ((opened, formed), refl) refl (simp append_assoc)
inner_moves outer before (Word word.Int) opened formed = on_here _ _ _ ((opened, formed), refl) refl (simp append_assoc)
inner_moves outer before token opened formed = statement_moves (InInners outer before) token (opened, formed)

pub body_moves : (owner : BodyIn) (token : Token) → IsBodyOpen owner → IfSome (step_body owner token) (Advances (body_so_far owner) token)
body_moves owner (Mark sign.OpenBrace) opened = on_here _ _ _ (opened, refl) refl (simp append_assoc)
body_moves owner token opened = statement_moves (AsBody owner) token opened

-- ---- behind a body

else_moves : (seen : List Spelled) (owner : Option BodyIn) → IfSome owner (Otherwise seen) → IfSome (step_else owner) (Advances seen (Word word.Else))
else_moves seen None h = tt
else_moves seen (Some owner) h = on_here _ _ _ h.opened refl h.same

ended_moves : (owner : BodyIn) (body : Body) (token : Token) → IsBodyThere owner body →
    IfSome (step_inner (ended_body owner body).outer (ended_body owner body).inners token) (Advances (so_far (HasBody owner body)) token)
ended_moves owner body token h =
    let ended = ended_body_lists owner body h.opened h.formed in
    advances_as _ _ token (step_inner (ended_body owner body).outer (ended_body owner body).inners token) ended.same
    (inner_moves (ended_body owner body).outer (ended_body owner body).inners token ended.opened ended.formed)

pub after_body_moves : (owner : BodyIn) (body : Body) (token : Token) → IsBodyThere owner body → IfSome (step_after_body owner body token) (Advances (so_far (HasBody owner body)) token)
after_body_moves owner body (Word word.Else) h = else_moves (so_far (HasBody owner body)) (otherwise_of_body owner body) (otherwise_of_body_opens owner body h.opened h.formed h.closed)
after_body_moves owner body token h = ended_moves owner body token h

-- ---- the head of a `for`, and `return`

pub for_start_moves : (outer : StatementIn) (token : Token) → IsStatementOpen outer → IfSome (step_for_start outer token) (Advances (so_far (AtForStart outer)) token)
for_start_moves outer (Mark sign.Semicolon) opened = on_here _ _ _ (opened, refl) refl (simp append_assoc)
for_start_moves outer (Word word.Int) opened = on_here _ _ _ (opened, refl) refl (simp append_assoc)
for_start_moves outer (Name name) opened = on_here _ _ _ opened refl refl
for_start_moves outer _ opened = tt

pub for_condition_moves : (outer : StatementIn) (start : Start) (token : Token) → IsStatementOpen outer → IsTrue (is_start start) →
    IfSome (step_for_condition outer start token) (Advances (so_far (AtForCondition outer start)) token)
for_condition_moves outer start (Mark sign.Semicolon) opened formed = on_here _ _ _ (opened, formed, refl) refl (simp append_assoc)
for_condition_moves outer start token opened formed = wants_moves (ForCondition outer start) token (opened, formed)

pub for_last_moves : (outer : StatementIn) (start : Start) (condition : Option Expression) (token : Token) → IsStatementOpen outer → IsTrue (is_start start) → IsTrue (if_any is_grouped condition) →
    IfSome (step_for_last outer start condition token) (Advances (so_far (AtForLast outer start condition)) token)
for_last_moves outer start condition (Mark sign.CloseParen) opened formed known = on_here _ _ _ (opened, formed, known, refl) refl (ap (λ s. s ++ mark (statement_level outer) sign.CloseParen ∷ []) (append-nil (simple_so_far (AsForLast outer start condition))))
for_last_moves outer start condition (Name name) opened formed known = on_here _ _ _ (opened, formed, known) refl refl
for_last_moves outer start condition _ opened formed known = tt

pub return_moves : (outer : StatementIn) (token : Token) → IsStatementOpen outer → IfSome (step_return outer token) (Advances (so_far (AfterReturn outer)) token)
return_moves outer (Mark sign.Semicolon) opened = on _ _ _ _ (after_statement_stands outer (Returning None) opened refl refl) (simp append_assoc)
return_moves outer token opened = wants_moves (Returned outer) token opened
