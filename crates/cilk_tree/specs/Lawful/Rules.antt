-- The rules 201 to 208, 210 and 211: at which places each is broken. Each rule is judged by itself.
use Rattle.std.specs.Prelude.{ℕ, ◌+◌, ◌^◌, Bool, true, false, not, ◌&&◌, ◌||◌, ◌==◌, nat_lt, List, [], ◌∷◌, ◌++◌, length, map, take, slice_get, codes, Option, Some, None, is_some, sum_by}
use Rattle.std.specs.List.{flat_map, list_any}
use Rattle.std.specs.Option.{option_map_or}
use Rattle.std.specs.Str.{bytes_eq}
use Rattle.cilk_tree.specs.declared.place.CheckPlace.{CheckPlace}
use Rattle.cilk_tree.specs.declared.place.CheckPlace.TheVariants as place
use Rattle.cilk_tree.specs.declared.rule.Rule.{Rule}
use Rattle.cilk_tree.specs.declared.rule.Rule.TheVariants as rule
use Rattle.cilk_tree.specs.declared.tree.Expr.{Expr, fold-Expr}
use Rattle.cilk_tree.specs.declared.tree.Expr.TheOpen as layer
use Rattle.cilk_tree.specs.declared.tree.Expr.TheOpen.{Expr-F}
use Rattle.cilk_tree.specs.declared.tree.Function.{Function}
use Rattle.cilk_tree.specs.declared.tree.Program.{Program}
use Rattle.cilk_tree.specs.declared.tree.Shared.{Shared}
use Rattle.cilk_tree.specs.declared.tree.Stmt.TheOpen as head
use Rattle.cilk_tree.specs.Rule.{rule_number}
use Rattle.cilk_tree.specs.Lawful.Flow.{Head, Site, sites, flow_of}
use Rattle.cilk_tree.specs.Lawful.Scope.{Point, Meaning, Unknown, Variable, Array, Procedure, meaning, is_known, is_global}

-- What a use of a name needs it to stand for: a parameter or local, an array, or a function.
pub data Need : Type 0 where
  NeedsVariable : Need
  NeedsArray : Need
  NeedsFunction : Need

-- a name that a statement uses
pub record Use : Type 0 where
  pub need : Need
  pub name : List ℕ

-- a name that is read, assigned or a target
abbrev pub variable_use : List ℕ → Use
variable_use name = record { need = NeedsVariable; name = name }

-- a name with an index
abbrev pub array_use : List ℕ → Use
array_use name = record { need = NeedsArray; name = name }

-- a name that is called or spawned
abbrev pub function_use : List ℕ → Use
function_use name = record { need = NeedsFunction; name = name }

-- one step of `uses`, where the operands are replaced by their own answers
abbrev pub uses_here : Expr-F (List Use) → List Use
uses_here (layer.Number value) = []
uses_here (layer.Local name) = variable_use name ∷ []
uses_here (layer.Get name index) = array_use name ∷ index
uses_here (layer.Unary operator operand) = operand
uses_here (layer.Binary operator left right) = left ++ right

-- the names that an expression uses, whether evaluated or not
abbrev pub uses : Expr → List Use
uses = fold-Expr (List Use) uses_here

-- the target of a call, spawn or add, where it has one
abbrev pub target_uses : Option (List ℕ) → List Use
target_uses None = []
target_uses (Some name) = variable_use name ∷ []

-- the names in what a return gives
abbrev pub value_uses : Option Expr → List Use
value_uses None = []
value_uses (Some value) = uses value

-- The names that a statement itself uses: an If or a While answers for its condition, not for the statements that it holds.
abbrev pub head_uses : Head → List Use
head_uses (head.Declare name) = []
head_uses (head.Assign name value) = variable_use name ∷ uses value
head_uses (head.Put name index value) = array_use name ∷ uses index ++ uses value
head_uses (head.Print value) = uses value
head_uses (head.If condition met unmet) = uses condition
head_uses (head.While condition body) = uses condition
head_uses (head.Block body) = []
head_uses (head.Call target name arguments) = target_uses target ++ function_use name ∷ flat_map uses arguments
head_uses (head.Spawn target name arguments) = target_uses target ++ function_use name ∷ flat_map uses arguments
head_uses (head.Add target name index addend) = target_uses target ++ array_use name ∷ uses index ++ uses addend
head_uses head.Sync = []
head_uses (head.Return value) = value_uses value

-- the name stands for something, but not for what is needed
abbrev pub is_wrong : Need → Meaning → Bool
is_wrong need Unknown = false
is_wrong NeedsVariable (Variable number) = false
is_wrong NeedsArray Array = false
is_wrong NeedsFunction (Procedure function) = false
is_wrong _ _ = true

-- it is a function that passes the test
abbrev pub is_function : (Function → Bool) → Meaning → Bool
is_function test (Procedure function) = test function
is_function test _ = false

-- the function takes another number of arguments
abbrev pub takes_other : List Expr → Function → Bool
takes_other arguments function = not (length function.params == length arguments)

-- the function gives no value
abbrev pub is_void : Function → Bool
is_void function = not function.gives

-- the function is a `cilk` procedure
abbrev pub is_cilk : Function → Bool
is_cilk function = function.«cilk»

-- the function is none
abbrev pub is_plain : Function → Bool
is_plain function = not function.«cilk»

-- 201 at a statement: it declares a name of a parameter or local in scope, or of an array or function
abbrev pub declares_again : Program → Point → Head → Bool
declares_again program point (head.Declare name) = is_known (meaning program point.scope name)
declares_again program point _ = false

-- 202: it uses a name that is none in scope
abbrev pub uses_unknown : Program → Point → Head → Bool
uses_unknown program point statement = list_any (λ used. not (is_known (meaning program point.scope used.name))) (head_uses statement)

-- 203: it uses a name that stands for another kind of thing
abbrev pub uses_wrong : Program → Point → Head → Bool
uses_wrong program point statement = list_any (λ used. is_wrong used.need (meaning program point.scope used.name)) (head_uses statement)

-- 204: a call or spawn has another number of arguments than the function has parameters
abbrev pub has_wrong_arity : Program → Point → Head → Bool
has_wrong_arity program point (head.Call target name arguments) = is_function (takes_other arguments) (meaning program point.scope name)
has_wrong_arity program point (head.Spawn target name arguments) = is_function (takes_other arguments) (meaning program point.scope name)
has_wrong_arity program point _ = false

-- 205: a call or spawn of a `void` function has a target, or a `void` function returns an expression
abbrev pub lacks_value : Program → Function → Point → Head → Bool
lacks_value program function point (head.Call target name arguments) = is_some target && is_function is_void (meaning program point.scope name)
lacks_value program function point (head.Spawn target name arguments) = is_some target && is_function is_void (meaning program point.scope name)
lacks_value program function point (head.Return value) = is_some value && is_void function
lacks_value program function point _ = false

-- 206: a spawn or sync in a plain function
abbrev pub spawns_in_plain : Function → Head → Bool
spawns_in_plain function (head.Spawn target name arguments) = is_plain function
spawns_in_plain function head.Sync = is_plain function
spawns_in_plain function _ = false

-- 207: a plain call names a `cilk` procedure
abbrev pub calls_cilk : Program → Point → Head → Bool
calls_cilk program point (head.Call target name arguments) = is_function is_cilk (meaning program point.scope name)
calls_cilk program point _ = false

-- 208: a spawn names a plain function
abbrev pub spawns_plain : Program → Point → Head → Bool
spawns_plain program point (head.Spawn target name arguments) = is_function is_plain (meaning program point.scope name)
spawns_plain program point _ = false

-- the name is one of these
abbrev pub is_among : List (List ℕ) → List ℕ → Bool
is_among names name = list_any (λ other. bytes_eq other name) names

-- one of the names stands twice in the list
abbrev pub repeats : List (List ℕ) → Bool
repeats [] = false
repeats (name ∷ names) = is_among names name || repeats names

-- 201 at an array: an earlier array has its name
abbrev pub array_again : Program → ℕ → Shared → Bool
array_again program number array = is_among (map (λ other. other.name) (take number program.shared)) array.name

-- 201 at a function: an array or an earlier function has its name, or a parameter has the name of an array, of a function
-- or of another parameter
abbrev pub function_again : Program → ℕ → Function → Bool
function_again program number function =
    is_among (map (λ array. array.name) program.shared) function.name ||
    is_among (map (λ other. other.name) (take number program.functions)) function.name ||
    list_any (is_global program) function.params || repeats function.params

-- how many words the arrays of a program may have together: 4,194,304
abbrev pub most_shared_words : ℕ
most_shared_words = 2 ^ 22

-- 211: the arrays up to this one have more words together
abbrev pub has_too_many_words : Program → ℕ → Bool
has_too_many_words program number = nat_lt most_shared_words (sum_by (λ array. array.words) (take (number + 1) program.shared))

-- 210: what the name `main` stands for, which is the first thing of that name, is no function, or one with parameters
abbrev pub lacks_main : Program → Bool
lacks_main program = not (is_function (λ function. length function.params == 0) (meaning program [] (codes "main")))

-- the number of the rule, where it is broken
abbrev pub kind_if : Bool → Rule → List ℕ
kind_if true broken = rule_number broken ∷ []
kind_if false broken = []

-- the kinds that are broken at an array, ascending
abbrev pub array_kinds : Program → ℕ → Shared → List ℕ
array_kinds program number array = kind_if (array_again program number array) rule.DuplicateName ++ kind_if (has_too_many_words program number) rule.TooManyWords

-- those at a function
abbrev pub function_kinds : Program → ℕ → Function → List ℕ
function_kinds program number function = kind_if (function_again program number function) rule.DuplicateName

-- those at a statement
abbrev pub statement_kinds : Program → Function → Site → List ℕ
statement_kinds program function site =
    let at = site.point in
    let statement = site.head in
    kind_if (declares_again program at statement) rule.DuplicateName ++
    kind_if (uses_unknown program at statement) rule.UnknownName ++
    kind_if (uses_wrong program at statement) rule.WrongKind ++
    kind_if (has_wrong_arity program at statement) rule.WrongArity ++
    kind_if (lacks_value program function at statement) rule.NoValue ++
    kind_if (spawns_in_plain function statement) rule.SpawnInPlain ++
    kind_if (calls_cilk program at statement) rule.CallOfCilk ++
    kind_if (spawns_plain program at statement) rule.SpawnOfPlain

-- those at the statement of this number in preorder
abbrev pub kinds_in : Program → ℕ → Function → List ℕ
kinds_in program statement function = option_map_or (statement_kinds program function) (slice_get (sites (flow_of function)) statement) []

-- The kinds of 201 to 208, 210 and 211 that are broken at a place, ascending.
abbrev pub kinds_at : Program → CheckPlace → List ℕ
kinds_at program (place.Shared number) = option_map_or (array_kinds program number) (slice_get program.shared number) []
kinds_at program (place.Function number) = option_map_or (function_kinds program number) (slice_get program.functions number) []
kinds_at program (place.Statement number statement) = option_map_or (kinds_in program statement) (slice_get program.functions number) []
kinds_at program place.Whole = kind_if (lacks_main program) rule.NoMain
