-- A program has at most twice as many parts as its source has tokens.
use Rattle.std.proofs.Common.{◌≡◌, ℕ, ◌+◌, ◌*◌, ◌≤◌, pos, List, [], ◌∷◌, ◌++◌, length, Option, Some, None, option_map, sum_by, Bool, true, false, ap, ◌∙◌, arith, length-append}
use Rattle.std.proofs.lemmas.List.{length-map}
use Rattle.std.proofs.lemmas.List.Sums.{sum-map, sum_by-append}
use Rattle.cilk_tree.specs.declared.tree.Expr.{Expr}
use Rattle.cilk_tree.specs.declared.tree.Expr.TheVariants as expr
use Rattle.cilk_tree.specs.declared.tree.Stmt.{Stmt}
use Rattle.cilk_tree.specs.declared.tree.Stmt.TheVariants as stmt
use Rattle.cilk_tree.specs.declared.count.Counted.TheVariants.{Operators, Arguments}
use Rattle.cilk_tree.specs.declared.count.Count.{Count}
use Rattle.cilk_tree.specs.declared.count.Count.TheVariants.{Anew, OneMore}
use Rattle.cilk_tree.specs.Levels.{Spelled, mark, spell_expression, spell_whole, spell_argument, spell_commas, spell_any, spell_call, spell_addition, spell_right, spell_declarator, spell_declaration, spell_simple, spell_start, spell_statement, spell_inner, spell_inners, spell_body, spell_array, spell_item, spell_source, source_tokens}
use Rattle.cilk_tree.specs.declared.token.Sign.TheVariants.{Semicolon}
use Rattle.cilk_tree.specs.Size.{value_size, expression_size, expression_size_here, statement_size, statement_size_here, function_size, program_size}
use Rattle.cilk_tree.specs.Sugar.{expression_tree, commas_list, if_there, one_expression, argument_trees, call_tree, addition_tree, right_tree, declarator_trees, direction_operator, change_tree, simple_tree, one_simple, start_trees, condition_tree, statement_trees, inner_trees, inners_trees, body_trees, one_array, item_arrays, item_functions, row_list, source_tree}
use Rattle.cilk_tree.specs.Syntax.{Commas, One, More, Empty, Then, Expression, Numeral, Variable, Element, Group, Prefix, Infix, Call, Addition, Right, Value, Result, Fetched, Declarator, Bare, Valued, Direction, Simple, Assignment, Change, Step, Storing, Start, NoStart, SimpleStart, DeclaringStart, Statement, Nothing, Simply, Calling, Adding, Syncing, IfAlone, IfElse, WhileLoop, ForLoop, Printing, Returning, Inner, Declaration, Block, Stated, Inners, NoInners, ThenInner, Body, Braced, Single, Array, Item, Arrays, Defined, Source}
use Rattle.cilk_reader.proofs.Bounds.Folds.{fold_number, fold_local, fold_get, fold_unary, fold_binary, fold_declare, fold_assign, fold_put, fold_print, fold_if, fold_while, fold_block, fold_call, fold_spawn, fold_add, fold_sync, fold_return}

abbrev sizes : List Stmt → ℕ
sizes statements = sum_by statement_size statements

expression_small : (level : ℕ) (first : List Count) (e : Expression) → expression_size (expression_tree e) ≤ length (spell_expression level first e)
expression_small level first (Numeral value) = omega (arith, fold_number expression_size_here value)
expression_small level first (Variable name) = omega (arith, fold_local expression_size_here name)
expression_small level first (Element name index) =
    simp length-append (omega (arith, fold_get expression_size_here name (expression_tree index), expression_small (level + 1) [] index))
expression_small level first (Group inner) = simp length-append (omega (arith, expression_small (level + 1) [] inner))
expression_small level first (Prefix operator operand) =
    omega (arith, fold_unary expression_size_here operator (expression_tree operand), expression_small (level + 1) [] operand)
expression_small level first (Infix left operator right) =
    simp length-append (omega (arith, fold_binary expression_size_here operator (expression_tree left) (expression_tree right), expression_small level first left, expression_small level [] right))

-- where each of the parts between commas gives no more than twice its tokens, so do all of them
commas_small : {T U : Type 0} (size : U → ℕ) (give : T → List U) (level : ℕ) (spell : T → List Spelled) → ((t : T) → sum_by size (give t) ≤ 2 * length (spell t)) → (commas : Commas T) → sum_by size (commas_list give commas) ≤ 2 * length (spell_commas level spell commas)
commas_small size give level spell each (One only) = each only
commas_small size give level spell each (More before last) =
    simp (length-append, sum_by-append) (omega (arith, commas_small size give level spell each before, each last))

one_small : (level : ℕ) (first : List Count) (e : Expression) → sum_by expression_size (one_expression e) ≤ 2 * length (spell_expression level first e)
one_small level first e = omega (arith, expression_small level first e)

arguments_small : (level : ℕ) (arguments : Option (Commas Expression)) → sum_by expression_size (argument_trees arguments) ≤ 2 * length (spell_any (spell_commas level (spell_argument level)) arguments)
arguments_small level None = omega arith
arguments_small level (Some arguments) =
    commas_small expression_size one_expression level (spell_argument level) (λ e. one_small level (OneMore Arguments ∷ Anew Operators ∷ []) e) arguments

-- a call is one statement more than its arguments
call_size : (target : Option (List ℕ)) (spawned : Bool) (name : List ℕ) (arguments : List Expr) → statement_size (call_tree target spawned name arguments) ≡ 1 + sum_by expression_size arguments
call_size target false name arguments = fold_call statement_size_here target name arguments
call_size target true name arguments = fold_spawn statement_size_here target name arguments

call_small : (level : ℕ) (target : Option (List ℕ)) (call : Call) → statement_size (call_tree target call.spawned call.name (argument_trees call.arguments)) ≤ 2 * length (spell_call level call)
call_small level target call =
    simp length-append (omega (arith, call_size target call.spawned call.name (argument_trees call.arguments), arguments_small level call.arguments))

addition_small : (level : ℕ) (target : Option (List ℕ)) (addition : Addition) → statement_size (addition_tree target addition) ≤ 2 * length (spell_addition level addition)
addition_small level target addition =
    simp length-append (omega (arith, fold_add statement_size_here target addition.name (expression_tree addition.index) (expression_tree addition.addend), expression_small (level + 1) (Anew Operators ∷ []) addition.index, expression_small level (Anew Operators ∷ []) addition.addend))

right_small : (level : ℕ) (name : List ℕ) (value : Right) → statement_size (right_tree name value) ≤ 1 + 2 * length (spell_right level value)
right_small level name (Value value) =
    omega (arith, fold_assign statement_size_here name (expression_tree value), expression_small level (Anew Operators ∷ []) value)
right_small level name (Result call) = omega (arith, call_small level (Some name) call)
right_small level name (Fetched addition) = omega (arith, addition_small level (Some name) addition)

declarator_small : (level : ℕ) (declarator : Declarator) → sizes (declarator_trees declarator) ≤ 2 * length (spell_declarator level declarator)
declarator_small level (Bare name) = omega (arith, fold_declare statement_size_here name)
declarator_small level (Valued name value) = omega (arith, fold_declare statement_size_here name, right_small level name value)

declaration_small : (level : ℕ) (declarators : Commas Declarator) → sizes (commas_list declarator_trees declarators) ≤ 2 * length (spell_declaration level declarators)
declaration_small level declarators =
    omega (arith, commas_small statement_size declarator_trees level (spell_declarator level) (declarator_small level) declarators)

change_size : (name : List ℕ) (direction : Direction) (value : Expr) → statement_size (change_tree name direction value) ≡ 3 + expression_size value
change_size name direction value = omega (arith, fold_assign statement_size_here name (expr.Binary (direction_operator direction) (expr.Local name) value), fold_binary expression_size_here (direction_operator direction) (expr.Local name) value, fold_local expression_size_here name)

simple_small : (level : ℕ) (simple : Simple) → statement_size (simple_tree simple) ≤ 2 * length (spell_simple level simple)
simple_small level (Assignment name value) = omega (arith, right_small level name value)
simple_small level (Change name direction value) = omega (arith, change_size name direction (expression_tree value), expression_small (level + 1) [] value)
simple_small level (Step name direction) = omega (arith, change_size name direction (expr.Number (pos 1)), fold_number expression_size_here (pos 1))
simple_small level (Storing name index value) =
    simp length-append (omega (arith, fold_put statement_size_here name (expression_tree index) (expression_tree value), expression_small (level + 1) (Anew Operators ∷ []) index, expression_small level (Anew Operators ∷ []) value))

start_small : (level : ℕ) (start : Start) → sizes (start_trees start) ≤ 2 * length (spell_start level start)
start_small level NoStart = omega arith
start_small level (SimpleStart simple) = omega (arith, simple_small level simple)
start_small level (DeclaringStart declarators) = declaration_small level declarators

condition_small : (level : ℕ) (condition : Option Expression) → expression_size (condition_tree condition) ≤ 1 + length (spell_any (spell_whole level) condition)
condition_small level None = omega (arith, fold_number expression_size_here (pos 1))
condition_small level (Some condition) = omega (arith, expression_small level (Anew Operators ∷ []) condition)

last_small : (level : ℕ) (last : Option Simple) → sizes (if_there one_simple last) ≤ 2 * length (spell_any (spell_simple level) last)
last_small level None = omega arith
last_small level (Some simple) = omega (arith, simple_small level simple)

returned_small : (level : ℕ) (value : Option Expression) → value_size (option_map expression_tree value) ≤ length (spell_any (spell_whole level) value)
returned_small level None = omega arith
returned_small level (Some value) = expression_small level (Anew Operators ∷ []) value

block_size : (inside : List Stmt) → statement_size (stmt.Block inside) ≡ 1 + sizes inside
block_size inside = fold_block statement_size_here inside ∙ ap (λ n. 1 + n) (sum-map statement_size inside)

if_size : (condition : Expression) (taken otherwise : List Stmt) → statement_size (stmt.If (expression_tree condition) taken otherwise) ≡ 1 + expression_size (expression_tree condition) + sizes taken + sizes otherwise
if_size condition taken otherwise = fold_if statement_size_here (expression_tree condition) taken otherwise ∙ simp sum-map

while_size : (condition : Expr) (body : List Stmt) → statement_size (stmt.While condition body) ≡ 1 + expression_size condition + sizes body
while_size condition body = fold_while statement_size_here condition body ∙ simp sum-map

for_size : (start : Start) (condition : Option Expression) (last : Option Simple) (body : List Stmt) → statement_size (stmt.Block (start_trees start ++ stmt.While (condition_tree condition) (body ++ if_there one_simple last) ∷ [])) ≡ 2 + sizes (start_trees start) + expression_size (condition_tree condition) + sizes body + sizes (if_there one_simple last)
for_size start condition last body = omega (arith, block_size (start_trees start ++ stmt.While (condition_tree condition) (body ++ if_there one_simple last) ∷ []), sum_by-append statement_size (start_trees start) (stmt.While (condition_tree condition) (body ++ if_there one_simple last) ∷ []), while_size (condition_tree condition) (body ++ if_there one_simple last), sum_by-append statement_size body (if_there one_simple last))

mutual
  statement_small : (level : ℕ) (statement : Statement) → sizes (statement_trees statement) ≤ 2 * length (spell_statement level statement)
  statement_small level Nothing = omega arith
  statement_small level (Simply simple) = simp length-append (omega (arith, simple_small level simple))
  statement_small level (Calling call) = omega (arith, length-append (spell_call level call) (mark level Semicolon ∷ []), call_small level None call)
  statement_small level (Adding addition) = omega (arith, length-append (spell_addition level addition) (mark level Semicolon ∷ []), addition_small level None addition)
  statement_small level Syncing = omega (arith, fold_sync statement_size_here)
  statement_small level (IfAlone condition taken) =
      simp length-append (omega (arith, if_size condition (body_trees taken) [], expression_small level (Anew Operators ∷ []) condition, body_small level (level + 1) taken))
  statement_small level (IfElse condition taken otherwise) =
      simp length-append (omega (arith, if_size condition (body_trees taken) (body_trees otherwise), expression_small level (Anew Operators ∷ []) condition, body_small level (level + 1) taken, body_small level (level + 1) otherwise))
  statement_small level (WhileLoop condition body) =
      simp length-append (omega (arith, while_size (expression_tree condition) (body_trees body), expression_small level (Anew Operators ∷ []) condition, body_small level (level + 1) body))
  statement_small level (ForLoop start condition last body) =
      simp length-append (omega (arith, for_size start condition last (body_trees body), start_small (level + 1) start, condition_small (level + 1) condition, last_small (level + 2) last, body_small level (level + 2) body))
  statement_small level (Printing value) = simp length-append (omega (arith, fold_print statement_size_here (expression_tree value), expression_small level (Anew Operators ∷ []) value))
  statement_small level (Returning value) = simp length-append (omega (arith, fold_return statement_size_here (option_map expression_tree value), returned_small level value))

  inner_small : (level : ℕ) (inner : Inner) → sizes (inner_trees inner) ≤ 2 * length (spell_inner level inner)
  inner_small level (Declaration declarators) = simp length-append (omega (arith, declaration_small level declarators))
  inner_small level (Block inside) = simp length-append (omega (arith, block_size (inners_trees inside), inners_small (level + 1) inside))
  inner_small level (Stated statement) = statement_small level statement

  inners_small : (level : ℕ) (inners : Inners) → sizes (inners_trees inners) ≤ 2 * length (spell_inners level inners)
  inners_small level NoInners = omega arith
  inners_small level (ThenInner before last) = simp (length-append, sum_by-append) (omega (arith, inners_small level before, inner_small level last))

  body_small : (outer level : ℕ) (body : Body) → sizes (body_trees body) ≤ 2 * length (spell_body outer level body)
  body_small outer level (Braced inside) = simp length-append (omega (arith, inners_small level inside))
  body_small outer level (Single statement) = statement_small level statement

item_small : (item : Item) → length (item_arrays item) + sum_by function_size (item_functions item) ≤ 2 * length (spell_item item)
item_small (Arrays arrays) = simp length-append (omega (arith, shared_small arrays))
  where
    shared_small : (arrays : Commas Array) → length (commas_list one_array arrays) ≤ length (spell_commas 0 spell_array arrays)
    shared_small (One only) = omega arith
    shared_small (More before last) = simp length-append (omega (arith, shared_small before))
item_small (Defined function) = simp length-append (omega (arith, inners_small 1 function.body))

rows_small : (source : Source) → length (row_list item_arrays source) + sum_by function_size (row_list item_functions source) ≤ 2 * length (spell_source source)
rows_small Empty = omega arith
rows_small (Then before last) = simp (length-append, sum_by-append) (omega (arith, rows_small before, item_small last))

-- a program has at most twice as many arrays, functions, statements and expressions as its source has tokens
pub written_is_small : (source : Source) → program_size (source_tree source) ≤ 2 * length (source_tokens source)
written_is_small source = simp length-map (rows_small source)
