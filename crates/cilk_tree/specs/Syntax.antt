-- The concrete syntax of the whole language, and when it is well formed.
use Rattle.std.specs.Prelude.{ℕ, ℤ, Bool, true, false, not, ◌&&◌, nat_lt, nat_le, Option, Some, None, List, IsTrue}
use Rattle.cilk_tree.specs.declared.tree.BinaryOp.{BinaryOp}
use Rattle.cilk_tree.specs.declared.tree.BinaryOp.TheVariants as op
use Rattle.cilk_tree.specs.declared.tree.UnaryOp.{UnaryOp}

-- One or more, with a comma between each two.
pub data Commas (T : Type 0) : Type 0 where
  One : (only : T) → Commas T
  More : (before : Commas T) (last : T) → Commas T

-- One after another.
pub data Row (T : Type 0) : Type 0 where
  Empty : Row T
  Then : (before : Row T) (last : T) → Row T

-- An expression as it is written: a number, a name, `a[i]`, one in parentheses, an operand behind a unary operator, or
-- two operands round an operator.
pub data Expression : Type 0 where
  Numeral : (value : ℤ) → Expression
  Variable : (name : List ℕ) → Expression
  Element : (name : List ℕ) (index : Expression) → Expression
  Group : (inner : Expression) → Expression
  Prefix : (operator : UnaryOp) (operand : Expression) → Expression
  Infix : (left : Expression) (operator : BinaryOp) (right : Expression) → Expression

-- `f(..)` or `spawn f(..)`
pub record Call : Type 0 where
  pub spawned : Bool
  pub name : List ℕ
  pub arguments : Option (Commas Expression)

-- `fetch_add(a[i], e)`: the array's name, the index and the addend
pub record Addition : Type 0 where
  pub name : List ℕ
  pub index : Expression
  pub addend : Expression

-- what stands behind a `=`
pub data Right : Type 0 where
  Value : (value : Expression) → Right
  Result : (call : Call) → Right
  Fetched : (addition : Addition) → Right

-- a name that is declared, with or without a value
pub data Declarator : Type 0 where
  Bare : (name : List ℕ) → Declarator
  Valued : (name : List ℕ) (value : Right) → Declarator

-- `+` in `+=` and `++`, `-` in `-=` and `--`
pub data Direction : Type 0 where
  Up Down : Direction

-- `x = r`; `x += e` and `x -= e`; `x++` and `x--`; `a[i] = e`
pub data Simple : Type 0 where
  Assignment : (name : List ℕ) (value : Right) → Simple
  Change : (name : List ℕ) (direction : Direction) (value : Expression) → Simple
  Step : (name : List ℕ) (direction : Direction) → Simple
  Storing : (name : List ℕ) (index value : Expression) → Simple

-- the first part of a `for`
pub data Start : Type 0 where
  NoStart : Start
  SimpleStart : (simple : Simple) → Start
  DeclaringStart : (declarators : Commas Declarator) → Start

-- `Statement` is a statement that is no block, `Inner` what stands between braces, and `Body` what an `if`, an `else`, a
-- `while` or a `for` holds, of which the braces are no block. A declaration is no body.
mutual
  pub data Statement : Type 0 where
    Nothing : Statement
    Simply : (simple : Simple) → Statement
    Calling : (call : Call) → Statement
    Adding : (addition : Addition) → Statement
    Syncing : Statement
    IfAlone : (condition : Expression) (taken : Body) → Statement
    IfElse : (condition : Expression) (taken otherwise : Body) → Statement
    WhileLoop : (condition : Expression) (body : Body) → Statement
    ForLoop : (start : Start) (condition : Option Expression) (last : Option Simple) (body : Body) → Statement
    Printing : (value : Expression) → Statement
    Returning : (value : Option Expression) → Statement

  pub data Inner : Type 0 where
    Declaration : (declarators : Commas Declarator) → Inner
    Block : (inside : Inners) → Inner
    Stated : (statement : Statement) → Inner

  pub data Inners : Type 0 where
    NoInners : Inners
    ThenInner : (before : Inners) (last : Inner) → Inners

  pub data Body : Type 0 where
    Braced : (inside : Inners) → Body
    Single : (statement : Statement) → Body

-- what stands between the parentheses of a function's head: nothing, `void`, or parameters
pub data Parameters : Type 0 where
  NoParameters : Parameters
  VoidParameters : Parameters
  Named : (names : Commas (List ℕ)) → Parameters

-- `NAME[words]`
pub record Array : Type 0 where
  pub name : List ℕ
  pub words : ℕ

-- `cilk` says whether it is a `cilk` procedure, and `gives` whether it is `int` or `void`.
pub record Function : Type 0 where
  pub «cilk» : Bool
  pub gives : Bool
  pub name : List ℕ
  pub parameters : Parameters
  pub body : Inners

pub data Item : Type 0 where
  Arrays : (arrays : Commas Array) → Item
  Defined : (function : Function) → Item

-- a whole source file
abbrev pub Source : Type 0
Source = Row Item

-- ---- how strongly operators bind

-- how strongly an operator binds its operands
abbrev pub operator_strength : BinaryOp → ℕ
operator_strength op.Or = 1
operator_strength op.And = 2
operator_strength op.Eq = 3
operator_strength op.Ne = 3
operator_strength op.Lt = 4
operator_strength op.Le = 4
operator_strength op.Gt = 4
operator_strength op.Ge = 4
operator_strength op.Add = 5
operator_strength op.Sub = 5
operator_strength op.Mul = 6
operator_strength op.Div = 6
operator_strength op.Rem = 6

-- How strongly the parts of an expression hold together: a unary operator and its operand more than any two operands
-- round an operator, and what is no operation the most.
abbrev pub strength : Expression → ℕ
strength (Numeral value) = 8
strength (Variable name) = 8
strength (Element name index) = 8
strength (Group inner) = 8
strength (Prefix operator operand) = 7
strength (Infix left operator right) = operator_strength operator

-- Operands hold together as strongly as they must: a unary operator's is no operation of two operands, a left one is no
-- weaker than the operator and a right one stronger, so that equally strong operators associate to the left.
abbrev pub is_grouped : Expression → Bool
is_grouped (Numeral value) = true
is_grouped (Variable name) = true
is_grouped (Element name index) = is_grouped index
is_grouped (Group inner) = is_grouped inner
is_grouped (Prefix operator operand) = nat_le 7 (strength operand) && is_grouped operand
is_grouped (Infix left operator right) =
    nat_le (operator_strength operator) (strength left) && nat_lt (operator_strength operator) (strength right)
    && is_grouped left && is_grouped right

-- ---- what an `else` belongs to

-- An `else` behind this body would belong to an `if` at its end that has none.
abbrev mutual
  pub dangles : Body → Bool
  dangles (Braced inside) = false
  dangles (Single statement) = statement_dangles statement

  pub statement_dangles : Statement → Bool
  statement_dangles Nothing = false
  statement_dangles (Simply simple) = false
  statement_dangles (Calling call) = false
  statement_dangles (Adding addition) = false
  statement_dangles Syncing = false
  statement_dangles (IfAlone condition taken) = true
  statement_dangles (IfElse condition taken otherwise) = dangles otherwise
  statement_dangles (WhileLoop condition body) = dangles body
  statement_dangles (ForLoop start condition last body) = dangles body
  statement_dangles (Printing value) = false
  statement_dangles (Returning value) = false

-- ---- well-formed syntax

-- the test holds of each
abbrev pub each_of : {T : Type 0} → (T → Bool) → Commas T → Bool
each_of test (One only) = test only
each_of test (More before last) = each_of test before && test last

abbrev pub each_in : {T : Type 0} → (T → Bool) → Row T → Bool
each_in test Empty = true
each_in test (Then before last) = each_in test before && test last

-- the test holds, or there is nothing
abbrev pub if_any : {T : Type 0} → (T → Bool) → Option T → Bool
if_any test None = true
if_any test (Some value) = test value

abbrev pub is_call : Call → Bool
is_call call = if_any (each_of is_grouped) call.arguments

abbrev pub is_addition : Addition → Bool
is_addition addition = is_grouped addition.index && is_grouped addition.addend

abbrev pub is_right : Right → Bool
is_right (Value value) = is_grouped value
is_right (Result call) = is_call call
is_right (Fetched addition) = is_addition addition

abbrev pub is_declarator : Declarator → Bool
is_declarator (Bare name) = true
is_declarator (Valued name value) = is_right value

abbrev pub is_simple : Simple → Bool
is_simple (Assignment name value) = is_right value
is_simple (Change name direction value) = is_grouped value
is_simple (Step name direction) = true
is_simple (Storing name index value) = is_grouped index && is_grouped value

abbrev pub is_start : Start → Bool
is_start NoStart = true
is_start (SimpleStart simple) = is_simple simple
is_start (DeclaringStart declarators) = each_of is_declarator declarators

-- Expressions are grouped by their operators, and before each `else` stands no `if` that would take it.
abbrev mutual
  pub is_statement : Statement → Bool
  is_statement Nothing = true
  is_statement (Simply simple) = is_simple simple
  is_statement (Calling call) = is_call call
  is_statement (Adding addition) = is_addition addition
  is_statement Syncing = true
  is_statement (IfAlone condition taken) = is_grouped condition && is_body taken
  is_statement (IfElse condition taken otherwise) = is_grouped condition && is_body taken && not (dangles taken) && is_body otherwise
  is_statement (WhileLoop condition body) = is_grouped condition && is_body body
  is_statement (ForLoop start condition last body) = is_start start && if_any is_grouped condition && if_any is_simple last && is_body body
  is_statement (Printing value) = is_grouped value
  is_statement (Returning value) = if_any is_grouped value

  pub is_inner : Inner → Bool
  is_inner (Declaration declarators) = each_of is_declarator declarators
  is_inner (Block inside) = are_inners inside
  is_inner (Stated statement) = is_statement statement

  pub are_inners : Inners → Bool
  are_inners NoInners = true
  are_inners (ThenInner before last) = are_inners before && is_inner last

  pub is_body : Body → Bool
  is_body (Braced inside) = are_inners inside
  is_body (Single statement) = is_statement statement

abbrev pub is_item : Item → Bool
is_item (Arrays arrays) = true
is_item (Defined function) = are_inners function.body

abbrev pub IsWellFormed : Source → Type 0
IsWellFormed source = IsTrue (each_in is_item source)
