-- What the functions of the parser say: which phrase of the grammar was read between two spots, and how the machine goes on there.
use Rattle.std.specs.Prelude.{◌≡◌, ℕ, ◌+◌, ◌<◌, ◌≤◌, Bool, true, false, ◌&&◌, nat_lt, Option, Some, None, List, [], ◌∷◌, ◌++◌, length}
use Rattle.std.specs.Option.{option_map_or}
use Rattle.cilk_tree.specs.declared.count.Count.{Count}
use Rattle.cilk_tree.specs.declared.count.Count.TheVariants.{Anew, OneMore}
use Rattle.cilk_tree.specs.declared.count.Counted.TheVariants.{Operators, Arguments}
use Rattle.cilk_tree.specs.declared.token.Keyword.TheVariants.{Void}
use Rattle.cilk_tree.specs.declared.token.Placed.{Placed}
use Rattle.cilk_tree.specs.declared.token.Sign.{Sign}
use Rattle.cilk_tree.specs.declared.token.Sign.TheVariants.{OpenParen, CloseParen}
use Rattle.cilk_tree.specs.declared.token.Token.{Token}
use Rattle.cilk_tree.specs.declared.tree.BinaryOp.{BinaryOp}
use Rattle.cilk_tree.specs.declared.tree.Expr.{Expr}
use Rattle.cilk_tree.specs.declared.tree.Function.{Function}
use Rattle.cilk_tree.specs.declared.tree.Program.{Program}
use Rattle.cilk_tree.specs.declared.tree.Shared.{Shared}
use Rattle.cilk_tree.specs.declared.tree.Stmt.{Stmt}
use Rattle.cilk_tree.specs.Levels.{mark}
use Rattle.cilk_tree.specs.Sugar.{expression_tree, commas_list, argument_trees, right_tree, declarator_trees, simple_tree, one_simple, if_there, start_trees, condition_tree, statement_trees, inner_trees, inners_trees, body_trees, parameter_names, function_tree, one_array, item_arrays, item_functions, source_tree}
use Rattle.cilk_tree.specs.Syntax as syntax
use Rattle.cilk_tree.specs.Syntax.{Commas, One, More, Empty, Then, Expression, Variable, Right, Result, Declarator, Simple, Start, DeclaringStart, Statement, Inner, Declaration, Inners, NoInners, ThenInner, Body, Parameters, Array, Item, Defined, Source, operator_strength, IfAlone, IfElse}
use Rattle.cilk_parser.specs.declared.addition.Addition.{Addition}
use Rattle.cilk_parser.specs.declared.call.Call.{Call}
use Rattle.cilk_parser.specs.declared.opening.Opening.{Opening}
use Rattle.cilk_parser.specs.declared.opening.Opening.TheVariants.{Inside, Whole, Argument}
use Rattle.cilk_parser.specs.declared.parser.End.{End}
use Rattle.cilk_parser.specs.declared.refusal.ParseRefusal.{ParseRefusal}
use Rattle.cilk_parser.specs.declared.statement.ForHead.{ForHead}
use Rattle.cilk_parser.specs.Contexts.{with_last, Heading, InnersIn, BodyIn, IfTaken, ForBody, StatementIn, inners_level, body_level, statement_level, owner_level, closing_level, SimpleIn, AsStatement, AsForStart, AsForLast, simple_level, DeclareIn, AsDeclaration, AsForDeclaration, declare_level, RightIn, right_level, CallIn, call_level, ExpressionIn, level_of, first_counts, least_strength}
use Rattle.cilk_parser.specs.Run.{Answer, Accepted}
use Rattle.cilk_parser.specs.Spots.{Spot, Refuses, from, is_keyword, is_sign, stepping}
use Rattle.cilk_parser.specs.Steps.{State, Items, AfterCilk, AfterArray, ParametersStart, AfterParameter, NextParameter, AtInner, AtBody, HasBody, HasDeclarators, AtRight, AtArguments, AfterName, AtForStart, AtForCondition, AtForLast, Wants, Has, Awaits, AwaitsName, AddOpen, ArrayOpen, BodyOpen, CallOpen, SimpleEnd, FunctionName, DeclaratorName, SpawnedName, after_addition, after_call, after_right, after_statement, after_inners, call_of, finish, step, step_end, step_only, step_operand, step_statement, token_operator}
use Rattle.cilk_parser.specs.Tally.{none_counted}

-- A phrase of the grammar: the contexts in which it may stand, the machine's answer where it is to come and where it was read as this
-- syntax, and what is made of the syntax.
pub record Phrase (Context Syntax Made : Type 0) : Type 1 where
  pub fits : Context → Type 0
  pub before : Context → Spot → Answer
  pub behind : Context → Syntax → Spot → Answer
  pub makes : Syntax → Made → Type 0

-- The phrase was read, and this was made of it: in each context the machine's answer before it is its answer behind it.
pub record Parses {Context Syntax Made : Type 0} (phrase : Phrase Context Syntax Made) (old new : Spot) (made : Made) : Type 0 where
  pub syntax : Syntax
  pub same : phrase.makes syntax made
  pub shorter : length new.left < length old.left
  pub leads : (context : Context) → phrase.fits context → phrase.before context old ≡ phrase.behind context syntax new

-- No such phrase can be read: in each context the machine's answer is this refusal.
abbrev pub Lacks : {Context Syntax Made : Type 0} → Phrase Context Syntax Made → Spot → ParseRefusal → Type 0
Lacks {Context} phrase old refusal = (context : Context) → phrase.fits context → Refuses (phrase.before context old) refusal

-- a phrase between two states of the machine
abbrev pub between : {Context Syntax Made : Type 0} → (Context → Type 0) → (Context → State) → (Context → Syntax → State) → (Syntax → Made → Type 0) → Phrase Context Syntax Made
between fits before behind makes = record { fits = fits; before = λ context. from (before context); behind = λ context syntax. from (behind context syntax); makes = makes }

-- in every context of its kind
abbrev pub anywhere : {Context : Type 0} → Context → Type 0
anywhere context = Unit {0}

-- These trees are put behind those of a list, which it was before and is now.
abbrev pub Adds : {Syntax Tree : Type 0} → (Syntax → List Tree) → Syntax → List Tree × List Tree → Type 0
Adds trees syntax (before, now) = now ≡ before ++ trees syntax

-- ---- expressions

-- what the first token of an expression counts as besides
abbrev pub opening_counts : Opening → List Count
opening_counts Inside = []
opening_counts Whole = Anew Operators ∷ []
opening_counts Argument = OneMore Arguments ∷ Anew Operators ∷ []

-- what is open round the expression asks for this strength, level and first count
pub record Fits (least level : ℕ) (opening : Opening) (around : ExpressionIn) : Type 0 where
  pub strong : least_strength around ≡ least
  pub same_level : level_of around ≡ level
  pub counted : first_counts around ≡ opening_counts opening

-- no operator that binds as strongly stands first
abbrev pub stops_below : ℕ → List Placed → Bool
stops_below least [] = true
stops_below least (placed ∷ places) = option_map_or (λ operator. nat_lt (operator_strength operator) least) (token_operator placed.token) true

abbrev pub expression_phrase : ℕ → ℕ → Opening → Phrase ExpressionIn Expression Expr
expression_phrase least level opening = record {
  fits = Fits least level opening;
  before = λ around. from (Wants around);
  behind = λ around syntax. stepping (step_operand around syntax);
  makes = λ syntax tree. tree ≡ expression_tree syntax;
}

-- Round a whole expression of this level stands what this sign closes, which has a level of its own.
pub record Encloses (level : ℕ) (opening : Opening) (around : ExpressionIn) (own : ℕ) (closing : Sign) (after : Expression → State) : Type 0 where
  pub fits : Fits 0 level opening around
  pub closes : (syntax : Expression) (token : Token) → step_end around syntax token ≡ step_only (mark own closing) (after syntax) token

-- an expression and the sign that closes it
abbrev pub enclosed_phrase : ℕ → Opening → Sign → ℕ → Phrase (ExpressionIn × (Expression → State)) Expression Expr
enclosed_phrase level opening closing own =
    between (λ (around, after). Encloses level opening around own closing after) (λ (around, after). Wants around) (λ (around, after) syntax. after syntax) (λ syntax tree. tree ≡ expression_tree syntax)

-- the operator stands first and binds as strongly
pub record HasOperator (least : ℕ) (left : List Placed) (operator : BinaryOp) : Type 0 where
  pub placed : Placed
  pub rest : List Placed
  pub same : left ≡ placed ∷ rest
  pub known : token_operator placed.token ≡ Some operator
  pub strong : least ≤ operator_strength operator

-- A name, or one with an index, was read behind the name.
pub record HasVariable (level : ℕ) (name : List ℕ) (old new : Spot) (tree : Expr) : Type 0 where
  pub syntax : Expression
  pub same : tree ≡ expression_tree syntax
  pub no_longer : length new.left ≤ length old.left
  pub leads : (around : ExpressionIn) → level_of around ≡ level → from (Has around (Variable name)) old ≡ stepping (step_operand around syntax) new

abbrev pub LacksVariable : ℕ → List ℕ → Spot → ParseRefusal → Type 0
LacksVariable level name old refusal = (around : ExpressionIn) → level_of around ≡ level → Refuses (from (Has around (Variable name)) old) refusal

-- ---- calls

-- arguments and the parenthesis behind them
abbrev pub arguments_phrase : ℕ → Phrase (CallIn × Bool × List ℕ) (Option (Commas Expression)) (List Expr)
arguments_phrase level =
    between (λ (outer, spawned, name). call_level outer ≡ level) (λ (outer, spawned, name). AtArguments outer spawned name) (λ (outer, spawned, name) arguments. after_call outer (call_of spawned name arguments))
    (λ arguments trees. trees ≡ argument_trees arguments)

-- the parenthesis before arguments, and these
abbrev pub opened_phrase : ℕ → Phrase (CallIn × Bool × List ℕ) (Option (Commas Expression)) (List Expr)
opened_phrase level =
    between (λ (outer, spawned, name). call_level outer ≡ level) (λ (outer, spawned, name). Awaits (CallOpen outer spawned name))
    (λ (outer, spawned, name) arguments. after_call outer (call_of spawned name arguments)) (λ arguments trees. trees ≡ argument_trees arguments)

-- what is called or spawned
abbrev pub IsCall : List ℕ × Option (Commas Expression) → Call → Type 0
IsCall (name, arguments) call = call ≡ record { name = name; arguments = argument_trees arguments }

-- the name and the arguments behind `spawn`
abbrev pub spawn_phrase : ℕ → Phrase CallIn (List ℕ × Option (Commas Expression)) Call
spawn_phrase level = between (λ outer. call_level outer ≡ level) (λ outer. AwaitsName (SpawnedName outer)) (λ outer (name, arguments). after_call outer (call_of true name arguments)) IsCall

-- a call behind `=`
abbrev pub call_phrase : ℕ → Phrase RightIn (List ℕ × Option (Commas Expression)) Call
call_phrase level = between (λ outer. right_level outer ≡ level) AtRight (λ outer (name, arguments). after_right outer (Result (call_of false name arguments))) IsCall

-- what stands in an addition behind its word
abbrev pub addition_phrase : ℕ → Phrase CallIn syntax.Addition Addition
addition_phrase level =
    between (λ outer. call_level outer ≡ level) (λ outer. Awaits (AddOpen outer)) after_addition
    (λ read addition. addition ≡ record { name = read.name; index = expression_tree read.index; addend = expression_tree read.addend })

-- ---- parts of statements

-- what stands behind `=`, as a statement that sets the target
abbrev pub right_phrase : ℕ → Phrase RightIn Right (List ℕ × Stmt)
right_phrase level = between (λ outer. right_level outer ≡ level) AtRight after_right (λ right (target, tree). tree ≡ right_tree target right)

-- a name that is declared, with its value where it has one
abbrev pub declarator_phrase : ℕ → Phrase (DeclareIn × Option (Commas Declarator)) Declarator (List Stmt × List Stmt)
declarator_phrase level =
    between (λ (outer, others). declare_level outer ≡ level) (λ (outer, others). AwaitsName (DeclaratorName outer others)) (λ (outer, others) declarator. HasDeclarators outer (with_last others declarator)) (Adds declarator_trees)

-- where a declaration is complete
abbrev pub after_declaration : DeclareIn → Commas Declarator → State
after_declaration (AsDeclaration outer before) declarators = AtInner outer (ThenInner before (Declaration declarators))
after_declaration (AsForDeclaration outer) declarators = AtForCondition outer (DeclaringStart declarators)

-- the names of a declaration and the semicolon
abbrev pub declaration_phrase : ℕ → Phrase DeclareIn (Commas Declarator) (List Stmt × List Stmt)
declaration_phrase level = between (λ outer. declare_level outer ≡ level) (λ outer. AwaitsName (DeclaratorName outer None)) after_declaration (Adds (commas_list declarator_trees))

-- an assignment, a step or a store behind its name
abbrev pub simple_phrase : ℕ → List ℕ → Phrase SimpleIn Simple Stmt
simple_phrase level name = between (λ outer. simple_level outer ≡ level) (λ outer. AfterName outer name) (λ outer simple. Awaits (SimpleEnd outer simple)) (λ simple tree. tree ≡ simple_tree simple)

-- a statement, which may be a call too
abbrev pub is_statement : SimpleIn → Bool
is_statement (AsStatement outer) = true
is_statement (AsForStart outer) = false
is_statement (AsForLast outer start condition) = false

-- None can be read; where a statement may stand, no parenthesis follows the name.
abbrev pub LacksSimple : ℕ → List ℕ → Spot → ParseRefusal → Type 0
LacksSimple level name old refusal = (outer : SimpleIn) → simple_level outer ≡ level → (is_statement outer && is_sign OpenParen old.left) ≡ false → Refuses (from (AfterName outer name) old) refusal

-- ---- statements

-- a statement that is no declaration and no block
abbrev pub statement_phrase : ℕ → Phrase StatementIn Statement (List Stmt × List Stmt)
statement_phrase level = record {
  fits = λ outer. statement_level outer ≡ level;
  before = λ outer. stepping (step_statement outer);
  behind = λ outer statement. from (after_statement outer statement);
  makes = Adds statement_trees;
}

-- what stands between braces
abbrev pub inner_phrase : ℕ → Phrase (InnersIn × Inners) Inner (List Stmt × List Stmt)
inner_phrase level =
    between (λ (outer, others). inners_level outer ≡ level) (λ (outer, others). AtInner outer others) (λ (outer, others) inner. AtInner outer (ThenInner others inner)) (Adds inner_trees)

-- statements and the brace behind them
abbrev pub inners_phrase : ℕ → ℕ → Phrase InnersIn Inners (List Stmt)
inners_phrase level closing =
    between (λ outer. (inners_level outer ≡ level) × (closing_level outer ≡ closing)) (λ outer. AtInner outer NoInners) after_inners (λ inners trees. trees ≡ inners_trees inners)

-- what an `if`, an `else` or a loop holds, whose own level is `owner`
abbrev pub body_phrase : ℕ → ℕ → Phrase BodyIn Body (List Stmt)
body_phrase level owner = between (λ outer. (body_level outer ≡ level) × (owner_level outer ≡ owner)) AtBody HasBody (λ body trees. trees ≡ body_trees body)

-- the `if` with what its `else` holds, where it has one
abbrev pub if_statement : Expression → Body → Option Body → Statement
if_statement condition taken None = IfAlone condition taken
if_statement condition taken (Some body) = IfElse condition taken body

-- `else` and what it holds were read behind the body of an `if`, or there is none.
pub record HasElse (level : ℕ) (old new : Spot) (trees : List Stmt) : Type 0 where
  pub otherwise : Option Body
  pub same : trees ≡ if_there body_trees otherwise
  pub no_longer : length new.left ≤ length old.left
  pub leads : (outer : StatementIn) (condition : Expression) (taken : Body) → statement_level outer ≡ level → from (HasBody (IfTaken outer condition) taken) old ≡ from (after_statement outer (if_statement condition taken otherwise)) new

abbrev pub LacksElse : ℕ → Spot → ParseRefusal → Type 0
LacksElse level old refusal = (outer : StatementIn) (condition : Expression) (taken : Body) → statement_level outer ≡ level → Refuses (from (HasBody (IfTaken outer condition) taken) old) refusal

-- An expression in parentheses stands between these two states, whatever it is.
pub record IsCondition (level : ℕ) (around : ExpressionIn) (before : State) (after : Expression → State) : Type 0 where
  pub opens : (token : Token) → step before token ≡ step_only (mark level OpenParen) (Wants around) token
  pub encloses : Encloses level Whole around level CloseParen after
  pub unfinished : finish before ≡ None

-- an expression in parentheses
abbrev pub condition_phrase : ℕ → Phrase (ExpressionIn × State × (Expression → State)) Expression Expr
condition_phrase level =
    between (λ (around, before, after). IsCondition level around before after) (λ (around, before, after). before) (λ (around, before, after) syntax. after syntax) (λ syntax tree. tree ≡ expression_tree syntax)

-- the first part of a `for` and the semicolon
abbrev pub for_start_phrase : ℕ → Phrase StatementIn Start (List Stmt × List Stmt)
for_start_phrase level = between (λ outer. statement_level outer + 1 ≡ level) AtForStart AtForCondition (Adds start_trees)

-- its condition and the semicolon
abbrev pub for_condition_phrase : ℕ → Phrase (StatementIn × Start) (Option Expression) Expr
for_condition_phrase level =
    between (λ (outer, start). statement_level outer + 1 ≡ level) (λ (outer, start). AtForCondition outer start) (λ (outer, start) condition. AtForLast outer start condition)
    (λ condition tree. tree ≡ condition_tree condition)

-- its last part and the parenthesis, which has the level of the `for`
abbrev pub for_last_phrase : ℕ → ℕ → Phrase (StatementIn × Start × Option Expression) (Option Simple) (List Stmt × List Stmt)
for_last_phrase level owner =
    between (λ (outer, start, condition). (statement_level outer + 2 ≡ level) × (statement_level outer ≡ owner)) (λ (outer, start, condition). AtForLast outer start condition)
    (λ (outer, start, condition) last. AtBody (ForBody outer start condition last)) (Adds (if_there one_simple))

-- `for` and what stands between its parentheses
abbrev pub for_head_phrase : ℕ → Phrase StatementIn (Start × Option Expression × Option Simple) ForHead
for_head_phrase level = record {
  fits = λ outer. statement_level outer ≡ level;
  before = λ outer. stepping (step_statement outer);
  behind = λ outer (start, condition, last). from (AtBody (ForBody outer start condition last));
  makes = λ (start, condition, last) head. (head ≡ record { start = start_trees start; condition = condition_tree condition; last = if_there one_simple last }) × (level ≤ 64);
}

-- ---- items

-- `int` and the name of an array
abbrev pub array_name_phrase : Phrase Source (List ℕ) (List ℕ)
array_name_phrase = between anywhere Items (λ before name. Awaits (ArrayOpen before None name)) (λ read name. name ≡ read)

-- the number of words in brackets behind the name of an array
abbrev pub array_phrase : List ℕ → Phrase (Source × Option (Commas Array)) ℕ Shared
array_phrase name =
    between anywhere (λ (before, others). Awaits (ArrayOpen before others name)) (λ (before, others) words. AfterArray before (with_last others (record { name = name; words = words })))
    (λ words array. array ≡ record { name = name; words = words })

-- arrays
abbrev pub arrays_phrase : Phrase Source (Commas Array) (List Shared × List Shared)
arrays_phrase = between anywhere Items (λ before arrays. Items (Then before (syntax.Arrays arrays))) (Adds (commas_list one_array))

-- `int` or `void` behind `cilk`
abbrev pub result_phrase : Phrase Source Bool Bool
result_phrase = between anywhere AfterCilk (λ before gives. AwaitsName (FunctionName before true gives)) (λ read gives. gives ≡ read)

-- a parameter was read
pub record HasParameter (old new : Spot) (name : List ℕ) : Type 0 where
  pub shorter : length new.left < length old.left
  pub leads_first : (heading : Heading) → is_sign CloseParen old.left ≡ false → is_keyword Void old.left ≡ false → from (ParametersStart heading) old ≡ from (AfterParameter heading (One name)) new
  pub leads_next : (heading : Heading) (names : Commas (List ℕ)) → from (NextParameter heading names) old ≡ from (AfterParameter heading (More names name)) new

pub record LacksParameter (old : Spot) (refusal : ParseRefusal) : Type 0 where
  pub first : (heading : Heading) → is_sign CloseParen old.left ≡ false → is_keyword Void old.left ≡ false → Refuses (from (ParametersStart heading) old) refusal
  pub next : (heading : Heading) (names : Commas (List ℕ)) → Refuses (from (NextParameter heading names) old) refusal

-- parameters and the parenthesis behind them
abbrev pub parameters_phrase : Phrase Heading Parameters (List (List ℕ))
parameters_phrase = between anywhere ParametersStart (λ heading formals. Awaits (BodyOpen heading formals)) (λ formals names. names ≡ parameter_names formals)

-- what stands before the name of a function: whether it is a `cilk` procedure, and whether it gives a value
abbrev pub function_kind_phrase : Phrase Source (Bool × Bool) (Bool × Bool)
function_kind_phrase = between anywhere Items (λ before (is_cilk, gives). AwaitsName (FunctionName before is_cilk gives)) (λ read kind. kind ≡ read)

-- a function
abbrev pub function_phrase : Phrase Source syntax.Function Function
function_phrase = between anywhere Items (λ before function. Items (Then before (Defined function))) (λ read function. function ≡ function_tree read)

-- an item, which is added to the program
abbrev pub item_phrase : Phrase Source Item (Program × Program)
item_phrase =
    between anywhere Items (λ before item. Items (Then before item))
    (λ item (before, now). (now.shared ≡ before.shared ++ item_arrays item) × (now.functions ≡ before.functions ++ item_functions item))

-- the machine's answer on the tokens of a text
abbrev pub answer_on : End → List Placed → Answer
answer_on end places = from (Items Empty) (record { end = end; tallies = none_counted; left = places })

-- a program was read
pub record HasProgram (end : End) (places : List Placed) (program : Program) : Type 0 where
  pub source : Source
  pub same : program ≡ source_tree source
  pub answer : answer_on end places ≡ Accepted source
