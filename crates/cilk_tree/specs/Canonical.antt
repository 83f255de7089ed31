-- The text in which a tree is printed.
use Rattle.std.specs.Prelude.{ℕ, ◌+◌, ◌*◌, Bool, true, false, nat_le, if◌then◌else◌, Option, Some, None, List, [], ◌∷◌, ◌++◌, map, replicate, flat_map, codes, decimal}
use Rattle.std.specs.Fmt.{signed_decimal}
use Rattle.cilk_tree.specs.declared.tree.UnaryOp.{UnaryOp}
use Rattle.cilk_tree.specs.declared.tree.UnaryOp.TheVariants as unary
use Rattle.cilk_tree.specs.declared.tree.Expr.{Expr, fold-Expr}
use Rattle.cilk_tree.specs.declared.tree.Expr.TheOpen as expr
use Rattle.cilk_tree.specs.declared.tree.Expr.TheOpen.{Expr-F}
use Rattle.cilk_tree.specs.declared.tree.Function.{Function}
use Rattle.cilk_tree.specs.declared.tree.Program.{Program}
use Rattle.cilk_tree.specs.declared.tree.Shared.{Shared}
use Rattle.cilk_tree.specs.declared.tree.Stmt.{Stmt, fold-Stmt}
use Rattle.cilk_tree.specs.declared.tree.Stmt.TheOpen as stmt
use Rattle.cilk_tree.specs.declared.tree.Stmt.TheOpen.{Stmt-F}
use Rattle.cilk_tree.specs.Levels.{operator_sign, unary_sign}
use Rattle.cilk_tree.specs.Syntax.{Expression, Numeral, Variable, Element, Group, Prefix, Infix, operator_strength, strength}
use Rattle.cilk_tree.specs.Token.{sign_text}

-- ---- expressions

-- in parentheses where it binds weaker than this
abbrev pub grouped : ℕ → Expression → Expression
grouped least expression = if nat_le least (strength expression) then expression else Group expression

-- One step of `plain_expression`: parentheses stand round a left operand that binds weaker than its operator, round a right one
-- that does not bind stronger, and round two operands behind a unary operator.
abbrev pub plain_expression_here : Expr-F Expression → Expression
plain_expression_here (expr.Number value) = Numeral value
plain_expression_here (expr.Local name) = Variable name
plain_expression_here (expr.Get name index) = Element name index
plain_expression_here (expr.Unary operator operand) = Prefix operator (grouped 7 operand)
plain_expression_here (expr.Binary operator left right) =
    Infix (grouped (operator_strength operator) left) operator (grouped (operator_strength operator + 1) right)

-- the expression as it is printed, with the parentheses that it needs and no others
abbrev pub plain_expression : Expr → Expression
plain_expression = fold-Expr Expression plain_expression_here

-- the blank between two unary `-`
abbrev pub gap_between : UnaryOp → Expression → List ℕ
gap_between unary.Neg (Prefix unary.Neg operand) = codes " "
gap_between _ _ = []

abbrev pub expression_text : Expression → List ℕ
expression_text (Numeral value) = signed_decimal value
expression_text (Variable name) = name
expression_text (Element name index) = name ++ codes "[" ++ expression_text index ++ codes "]"
expression_text (Group inner) = codes "(" ++ expression_text inner ++ codes ")"
expression_text (Prefix operator operand) = sign_text (unary_sign operator) ++ gap_between operator operand ++ expression_text operand
expression_text (Infix left operator right) =
    expression_text left ++ codes " " ++ sign_text (operator_sign operator) ++ codes " " ++ expression_text right

abbrev pub expr_text : Expr → List ℕ
expr_text value = expression_text (plain_expression value)

-- ---- statements

-- the texts, with `, ` between each two
abbrev pub listed : List (List ℕ) → List ℕ
listed [] = []
listed (only ∷ []) = only
listed (first ∷ second ∷ rest) = first ++ codes ", " ++ listed (second ∷ rest)

-- a line, indented by two blanks for each level
abbrev pub line : ℕ → List ℕ → List ℕ
line level text = replicate (2 * level) 32 ++ text ++ 10 ∷ []

-- `x = `, or nothing
abbrev pub target_text : Option (List ℕ) → List ℕ
target_text None = []
target_text (Some name) = name ++ codes " = "

abbrev pub call_text : List ℕ → List Expr → List ℕ
call_text name arguments = name ++ codes "(" ++ listed (map expr_text arguments) ++ codes ");"

abbrev pub addition_text : List ℕ → Expr → Expr → List ℕ
addition_text name index addend = codes "fetch_add(" ++ name ++ codes "[" ++ expr_text index ++ codes "], " ++ expr_text addend ++ codes ");"

abbrev pub return_text : Option Expr → List ℕ
return_text None = codes "return;"
return_text (Some value) = codes "return " ++ expr_text value ++ codes ";"

-- the lines of the statements of a list
abbrev pub lines_at : ℕ → List (ℕ → List ℕ) → List ℕ
lines_at level statements = flat_map (λ statement. statement level) statements

-- what stands behind the lines of an `if`
abbrev pub else_lines : ℕ → List (ℕ → List ℕ) → List ℕ
else_lines level [] = line level (codes "}")
else_lines level (first ∷ rest) = line level (codes "} else {") ++ lines_at (level + 1) (first ∷ rest) ++ line level (codes "}")

-- one step of `statement_lines`, where the statements inside are replaced by their own lines at each level
abbrev pub lines_here : Stmt-F (ℕ → List ℕ) → ℕ → List ℕ
lines_here (stmt.Declare name) level = line level (codes "int " ++ name ++ codes ";")
lines_here (stmt.Assign name value) level = line level (name ++ codes " = " ++ expr_text value ++ codes ";")
lines_here (stmt.Put name index value) level = line level (name ++ codes "[" ++ expr_text index ++ codes "] = " ++ expr_text value ++ codes ";")
lines_here (stmt.Print value) level = line level (codes "print(" ++ expr_text value ++ codes ");")
lines_here (stmt.If condition taken otherwise) level =
    line level (codes "if (" ++ expr_text condition ++ codes ") {") ++ lines_at (level + 1) taken ++ else_lines level otherwise
lines_here (stmt.While condition body) level =
    line level (codes "while (" ++ expr_text condition ++ codes ") {") ++ lines_at (level + 1) body ++ line level (codes "}")
lines_here (stmt.Block inside) level = line level (codes "{") ++ lines_at (level + 1) inside ++ line level (codes "}")
lines_here (stmt.Call target name arguments) level = line level (target_text target ++ call_text name arguments)
lines_here (stmt.Spawn target name arguments) level = line level (target_text target ++ codes "spawn " ++ call_text name arguments)
lines_here (stmt.Add target name index addend) level = line level (target_text target ++ addition_text name index addend)
lines_here stmt.Sync level = line level (codes "sync;")
lines_here (stmt.Return value) level = line level (return_text value)

-- the lines of a statement at a level
abbrev pub statement_lines : Stmt → ℕ → List ℕ
statement_lines = fold-Stmt (ℕ → List ℕ) lines_here

-- ---- programs

abbrev pub array_line : Shared → List ℕ
array_line array = line 0 (codes "int " ++ array.name ++ codes "[" ++ decimal array.words ++ codes "];")

abbrev pub cilk_text : Bool → List ℕ
cilk_text true = codes "cilk "
cilk_text false = []

abbrev pub result_text : Bool → List ℕ
result_text true = codes "int "
result_text false = codes "void "

abbrev pub parameter_text : List ℕ → List ℕ
parameter_text name = codes "int " ++ name

abbrev pub function_lines : Function → List ℕ
function_lines function =
    line 0 (cilk_text function.«cilk» ++ result_text function.gives ++ function.name ++ codes "(" ++ listed (map parameter_text function.params) ++ codes ") {")
    ++ flat_map (λ statement. statement_lines statement 1) function.body
    ++ line 0 (codes "}")

-- The arrays first, one a line, then the functions.
abbrev pub canonical_text : Program → List ℕ
canonical_text program = flat_map array_line program.shared ++ flat_map function_lines program.functions
