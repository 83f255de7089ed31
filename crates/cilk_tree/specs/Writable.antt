-- Which trees have a text.
use Rattle.std.specs.Prelude.{ℕ, pos, negsuc, ◌^◌, Bool, true, false, ◌&&◌, nat_lt, Option, Some, None, List, [], ◌∷◌, map, option_map, IsTrue}
use Rattle.std.specs.List.{list_all}
use Rattle.cilk_tree.specs.declared.tree.Expr.{Expr}
use Rattle.cilk_tree.specs.declared.tree.Function.{Function}
use Rattle.cilk_tree.specs.declared.tree.Program.{Program}
use Rattle.cilk_tree.specs.declared.tree.Shared.{Shared}
use Rattle.cilk_tree.specs.declared.tree.Stmt.{Stmt, fold-Stmt}
use Rattle.cilk_tree.specs.declared.tree.Stmt.TheOpen as stmt
use Rattle.cilk_tree.specs.declared.tree.Stmt.TheOpen.{Stmt-F}
use Rattle.cilk_tree.specs.Canonical.{plain_expression}
use Rattle.cilk_tree.specs.Levels.{source_tokens}
use Rattle.cilk_tree.specs.Lexeme.{is_name}
use Rattle.cilk_tree.specs.Spelling.{is_within_limits}
use Rattle.cilk_tree.specs.Syntax.{Commas, One, More, Empty, Then, Call, Addition, Value, Result, Fetched, Bare, Assignment, Storing, Simply, Calling, Adding, Syncing, IfAlone, IfElse, WhileLoop, Printing, Returning, Inner, Declaration, Block, Stated, Inners, NoInners, ThenInner, Body, Braced, Parameters, NoParameters, Named, Item, Arrays, Defined, Source}
use Rattle.cilk_tree.specs.declared.token.Token.{Token}
use Rattle.cilk_tree.specs.declared.token.Token.TheVariants.{Name, Number, Word, Mark}

-- ---- the concrete syntax of the canonical text

abbrev pub commas_after : {T : Type 0} → Commas T → List T → Commas T
commas_after before [] = before
commas_after before (next ∷ rest) = commas_after (More before next) rest

-- the list with commas, where it has an element
abbrev pub commas_of : {T : Type 0} → List T → Option (Commas T)
commas_of [] = None
commas_of (first ∷ rest) = Some (commas_after (One first) rest)

abbrev pub inners_after : Inners → List Inner → Inners
inners_after before [] = before
inners_after before (next ∷ rest) = inners_after (ThenInner before next) rest

abbrev pub braced : List Inner → Body
braced inside = Braced (inners_after NoInners inside)

abbrev pub plain_call : Bool → List ℕ → List Expr → Call
plain_call spawned name arguments = record { spawned = spawned; name = name; arguments = commas_of (map plain_expression arguments) }

-- a call that stands alone, or behind `x =`
abbrev pub plain_target : Option (List ℕ) → Call → Inner
plain_target None call = Stated (Calling call)
plain_target (Some name) call = Stated (Simply (Assignment name (Result call)))

abbrev pub plain_addition : List ℕ → Expr → Expr → Addition
plain_addition name index addend = record { name = name; index = plain_expression index; addend = plain_expression addend }

-- an addition that stands alone, or behind `x =`
abbrev pub plain_added : Option (List ℕ) → Addition → Inner
plain_added None addition = Stated (Adding addition)
plain_added (Some name) addition = Stated (Simply (Assignment name (Fetched addition)))

-- an `if`, with an `else` where it has statements
abbrev pub plain_if : Expr → List Inner → List Inner → Inner
plain_if condition taken [] = Stated (IfAlone (plain_expression condition) (braced taken))
plain_if condition taken (first ∷ rest) = Stated (IfElse (plain_expression condition) (braced taken) (braced (first ∷ rest)))

-- one step of `plain_statement`, where the statements inside are replaced by their own syntax
abbrev pub plain_inner_here : Stmt-F Inner → Inner
plain_inner_here (stmt.Declare name) = Declaration (One (Bare name))
plain_inner_here (stmt.Assign name value) = Stated (Simply (Assignment name (Value (plain_expression value))))
plain_inner_here (stmt.Put name index value) = Stated (Simply (Storing name (plain_expression index) (plain_expression value)))
plain_inner_here (stmt.Print value) = Stated (Printing (plain_expression value))
plain_inner_here (stmt.If condition taken otherwise) = plain_if condition taken otherwise
plain_inner_here (stmt.While condition body) = Stated (WhileLoop (plain_expression condition) (braced body))
plain_inner_here (stmt.Block inside) = Block (inners_after NoInners inside)
plain_inner_here (stmt.Call target name arguments) = plain_target target (plain_call false name arguments)
plain_inner_here (stmt.Spawn target name arguments) = plain_target target (plain_call true name arguments)
plain_inner_here (stmt.Add target name index addend) = plain_added target (plain_addition name index addend)
plain_inner_here stmt.Sync = Stated Syncing
plain_inner_here (stmt.Return value) = Stated (Returning (option_map plain_expression value))

abbrev pub plain_statement : Stmt → Inner
plain_statement = fold-Stmt Inner plain_inner_here

abbrev pub plain_parameters : Option (Commas (List ℕ)) → Parameters
plain_parameters None = NoParameters
plain_parameters (Some names) = Named names

abbrev pub plain_function : Function → Item
plain_function function = Defined (record {
  «cilk» = function.«cilk»;
  gives = function.gives;
  name = function.name;
  parameters = plain_parameters (commas_of function.params);
  body = inners_after NoInners (map plain_statement function.body);
})

abbrev pub plain_array : Shared → Item
plain_array array = Arrays (One (record { name = array.name; words = array.words }))

abbrev pub row_after : Source → List Item → Source
row_after before [] = before
row_after before (next ∷ rest) = row_after (Then before next) rest

-- the concrete syntax of the program's canonical text
abbrev pub plain_source : Program → Source
plain_source program = row_after (row_after Empty (map plain_array program.shared)) (map plain_function program.functions)

-- ---- writable trees

-- A name of the language, a number that is not negative and a value of `i64`, a word or a sign.
abbrev pub is_token : Token → Bool
is_token (Name name) = is_name name
is_token (Number (pos value)) = nat_lt value (2 ^ 63)
is_token (Number (negsuc value)) = false
is_token (Word word) = true
is_token (Mark sign) = true

-- The names and numbers are those of the language, and the levels and counts of the canonical text are within the limits.
abbrev pub is_writable : Program → Bool
is_writable program = list_all is_token (source_tokens (plain_source program)) && is_within_limits (plain_source program)

abbrev pub IsWritable : Program → Type 0
IsWritable program = IsTrue (is_writable program)
