-- The tree that a concrete syntax stands for.
use Rattle.std.specs.Prelude.{ℕ, pos, Bool, true, false, Option, Some, None, List, [], ◌∷◌, ◌++◌, option_map}
use Rattle.cilk_tree.specs.declared.tree.BinaryOp.{BinaryOp}
use Rattle.cilk_tree.specs.declared.tree.BinaryOp.TheVariants as op
use Rattle.cilk_tree.specs.declared.tree.Expr.{Expr}
use Rattle.cilk_tree.specs.declared.tree.Expr.TheVariants as expr
use Rattle.cilk_tree.specs.declared.tree.Function.{Function}
use Rattle.cilk_tree.specs.declared.tree.Program.{Program}
use Rattle.cilk_tree.specs.declared.tree.Shared.{Shared}
use Rattle.cilk_tree.specs.declared.tree.Stmt.{Stmt}
use Rattle.cilk_tree.specs.declared.tree.Stmt.TheVariants as stmt
use Rattle.cilk_tree.specs.Syntax as syntax
use Rattle.cilk_tree.specs.Syntax.{Commas, One, More, Empty, Then, Expression, Numeral, Variable, Element, Group, Prefix, Infix, Call, Addition, Right, Value, Result, Fetched, Declarator, Bare, Valued, Direction, Up, Down, Simple, Assignment, Change, Step, Storing, Start, NoStart, SimpleStart, DeclaringStart, Statement, Nothing, Simply, Calling, Adding, Syncing, IfAlone, IfElse, WhileLoop, ForLoop, Printing, Returning, Inner, Declaration, Block, Stated, Inners, NoInners, ThenInner, Body, Braced, Single, Parameters, NoParameters, VoidParameters, Named, Array, Item, Arrays, Defined, Source}

-- Parentheses give nothing.
abbrev pub expression_tree : Expression → Expr
expression_tree (Numeral value) = expr.Number value
expression_tree (Variable name) = expr.Local name
expression_tree (Element name index) = expr.Get name (expression_tree index)
expression_tree (Group inner) = expression_tree inner
expression_tree (Prefix operator operand) = expr.Unary operator (expression_tree operand)
expression_tree (Infix left operator right) = expr.Binary operator (expression_tree left) (expression_tree right)

-- what each gives, in order
abbrev pub commas_list : {T U : Type 0} → (T → List U) → Commas T → List U
commas_list give (One only) = give only
commas_list give (More before last) = commas_list give before ++ give last

abbrev pub if_there : {T U : Type 0} → (T → List U) → Option T → List U
if_there give None = []
if_there give (Some value) = give value

abbrev pub one_expression : Expression → List Expr
one_expression expression = expression_tree expression ∷ []

abbrev pub argument_trees : Option (Commas Expression) → List Expr
argument_trees arguments = if_there (commas_list one_expression) arguments

-- `f(..);`, `spawn f(..);`, and the same behind `x =`
abbrev pub call_tree : Option (List ℕ) → Bool → List ℕ → List Expr → Stmt
call_tree target false name arguments = stmt.Call target name arguments
call_tree target true name arguments = stmt.Spawn target name arguments

-- `fetch_add(a[i], e);`, and the same behind `x =`
abbrev pub addition_tree : Option (List ℕ) → Addition → Stmt
addition_tree target addition = stmt.Add target addition.name (expression_tree addition.index) (expression_tree addition.addend)

-- `x = r;`
abbrev pub right_tree : List ℕ → Right → Stmt
right_tree name (Value value) = stmt.Assign name (expression_tree value)
right_tree name (Result call) = call_tree (Some name) call.spawned call.name (argument_trees call.arguments)
right_tree name (Fetched addition) = addition_tree (Some name) addition

-- A name with a value is declared, and then the value is assigned.
abbrev pub declarator_trees : Declarator → List Stmt
declarator_trees (Bare name) = stmt.Declare name ∷ []
declarator_trees (Valued name value) = stmt.Declare name ∷ right_tree name value ∷ []

abbrev pub direction_operator : Direction → BinaryOp
direction_operator Up = op.Add
direction_operator Down = op.Sub

-- `x = x + e`, or with `-`
abbrev pub change_tree : List ℕ → Direction → Expr → Stmt
change_tree name direction value = stmt.Assign name (expr.Binary (direction_operator direction) (expr.Local name) value)

abbrev pub simple_tree : Simple → Stmt
simple_tree (Assignment name value) = right_tree name value
simple_tree (Change name direction value) = change_tree name direction (expression_tree value)
simple_tree (Step name direction) = change_tree name direction (expr.Number (pos 1))
simple_tree (Storing name index value) = stmt.Put name (expression_tree index) (expression_tree value)

abbrev pub one_simple : Simple → List Stmt
one_simple simple = simple_tree simple ∷ []

abbrev pub start_trees : Start → List Stmt
start_trees NoStart = []
start_trees (SimpleStart simple) = one_simple simple
start_trees (DeclaringStart declarators) = commas_list declarator_trees declarators

-- an absent condition of a `for` is 1
abbrev pub condition_tree : Option Expression → Expr
condition_tree None = expr.Number (pos 1)
condition_tree (Some condition) = expression_tree condition

-- An empty statement gives nothing. A `for` is a block of its first part and a `while`, of which the body is the loop's with
-- the last part behind it. A body in braces is the list of its statements, and one without the list of that statement.
abbrev mutual
  pub statement_trees : Statement → List Stmt
  statement_trees Nothing = []
  statement_trees (Simply simple) = one_simple simple
  statement_trees (Calling call) = call_tree None call.spawned call.name (argument_trees call.arguments) ∷ []
  statement_trees (Adding addition) = addition_tree None addition ∷ []
  statement_trees Syncing = stmt.Sync ∷ []
  statement_trees (IfAlone condition taken) = stmt.If (expression_tree condition) (body_trees taken) [] ∷ []
  statement_trees (IfElse condition taken otherwise) = stmt.If (expression_tree condition) (body_trees taken) (body_trees otherwise) ∷ []
  statement_trees (WhileLoop condition body) = stmt.While (expression_tree condition) (body_trees body) ∷ []
  statement_trees (ForLoop start condition last body) =
      stmt.Block (start_trees start ++ stmt.While (condition_tree condition) (body_trees body ++ if_there one_simple last) ∷ []) ∷ []
  statement_trees (Printing value) = stmt.Print (expression_tree value) ∷ []
  statement_trees (Returning value) = stmt.Return (option_map expression_tree value) ∷ []

  pub inner_trees : Inner → List Stmt
  inner_trees (Declaration declarators) = commas_list declarator_trees declarators
  inner_trees (Block inside) = stmt.Block (inners_trees inside) ∷ []
  inner_trees (Stated statement) = statement_trees statement

  pub inners_trees : Inners → List Stmt
  inners_trees NoInners = []
  inners_trees (ThenInner before last) = inners_trees before ++ inner_trees last

  pub body_trees : Body → List Stmt
  body_trees (Braced inside) = inners_trees inside
  body_trees (Single statement) = statement_trees statement

-- `void` between the parentheses means no parameters.
abbrev pub parameter_names : Parameters → List (List ℕ)
parameter_names NoParameters = []
parameter_names VoidParameters = []
parameter_names (Named names) = commas_list (λ name. name ∷ []) names

abbrev pub function_tree : syntax.Function → Function
function_tree function = record {
  «cilk» = function.«cilk»;
  gives = function.gives;
  name = function.name;
  params = parameter_names function.parameters;
  body = inners_trees function.body;
}

abbrev pub one_array : Array → List Shared
one_array array = record { name = array.name; words = array.words } ∷ []

-- the arrays of an item, and its function
abbrev pub item_arrays : Item → List Shared
item_arrays (Arrays arrays) = commas_list one_array arrays
item_arrays (Defined function) = []

abbrev pub item_functions : Item → List Function
item_functions (Arrays arrays) = []
item_functions (Defined function) = function_tree function ∷ []

-- what the items give, in order
abbrev pub row_list : {U : Type 0} → (Item → List U) → Source → List U
row_list give Empty = []
row_list give (Then before last) = row_list give before ++ give last

abbrev pub source_tree : Source → Program
source_tree source = record { shared = row_list item_arrays source; functions = row_list item_functions source }
