-- A program without its names. A local is the number of its declaration, the parameters first; an array and a function are their
-- places in the program. A block is what it holds, a declaration sets its local to 0, and a `return;` gives 0.
use Rattle.std.specs.Prelude.{ℕ, ℤ, Bool, Option, List}
use Rattle.cilk_tree.specs.declared.tree.BinaryOp.{BinaryOp}
use Rattle.cilk_tree.specs.declared.tree.UnaryOp.{UnaryOp}

pub data Expr : Type 0 where
  Number : (value : ℤ) → Expr
  Local : (local : ℕ) → Expr
  Get : (array : ℕ) (index : Expr) → Expr
  Unary : (operator : UnaryOp) (operand : Expr) → Expr
  Binary : (operator : BinaryOp) (left : Expr) (right : Expr) → Expr

pub data Stmt : Type 0 where
  Skip : Stmt
  Then : (first : Stmt) (second : Stmt) → Stmt
  Assign : (local : ℕ) (value : Expr) → Stmt
  Put : (array : ℕ) (index : Expr) (value : Expr) → Stmt
  Print : (value : Expr) → Stmt
  If : (condition : Expr) (met : Stmt) (unmet : Stmt) → Stmt
  While : (condition : Expr) (body : Stmt) → Stmt
  Call : (target : Option ℕ) (function : ℕ) (arguments : List Expr) → Stmt
  Spawn : (target : Option ℕ) (procedure : ℕ) (arguments : List Expr) → Stmt
  Add : (target : Option ℕ) (array : ℕ) (index : Expr) (addend : Expr) → Stmt
  Sync : Stmt
  Return : (value : Expr) → Stmt

-- A `cilk` procedure or a plain function: the number of its parameters, that of its parameters and locals, and its body.
pub record Function : Type 0 where
  pub «cilk» : Bool
  pub params : ℕ
  pub locals : ℕ
  pub body : Stmt

-- where an array lies among the shared words: its first word, and how many words it has
pub record Extent : Type 0 where
  pub base : ℕ
  pub words : ℕ

-- `main` is a place among the functions.
pub record Program : Type 0 where
  pub shared : List Extent
  pub functions : List Function
  pub main : ℕ
