-- The concrete syntax of a program's canonical text is well formed, and stands for the program.
use Rattle.std.specs.Prelude.{◌≡◌, ℕ, IsTrue, List, [], ◌∷◌, ◌++◌, map, flat_map}
use Rattle.std.specs.List.{list_all}
use Rattle.std.proofs.Common.{refl, sym, ap, ◌∙◌, append_assoc, append-nil}
use Rattle.std.proofs.lemmas.Bool.{and_from, and_parts}
use Rattle.std.proofs.lemmas.List.{map-id}
use Rattle.std.proofs.lemmas.List.Concat.{flat_map_single}
use Rattle.cilk_tree.specs.declared.tree.Function.{Function}
use Rattle.cilk_tree.specs.declared.tree.Program.{Program}
use Rattle.cilk_tree.specs.declared.tree.Shared.{Shared}
use Rattle.cilk_tree.specs.declared.tree.Stmt.{Stmt}
use Rattle.cilk_tree.specs.Sugar.{inner_trees, inners_trees, parameter_names, item_arrays, item_functions, row_list, source_tree}
use Rattle.cilk_tree.specs.Syntax.{One, NoInners, Item, Empty, Then, Source, is_inner, each_in, is_item, IsWellFormed}
use Rattle.cilk_tree.specs.Writable.{commas_of, inners_after, plain_statement, plain_parameters, plain_function, plain_array, row_after, plain_source}
use Rattle.cilk_tree.proofs.PlainStatements.{commas_list_after, inners_formed, inners_tree, statement_is_plain}

-- ---- rows of items

row_formed : (before : Source) (more : List Item) → IsTrue (each_in is_item before) → IsTrue (list_all is_item more) → IsTrue (each_in is_item (row_after before more))
row_formed before [] first others = first
row_formed before (next ∷ rest) first others =
    let parts = and_parts (is_item next) (list_all is_item rest) others in
    row_formed (Then before next) rest (and_from (each_in is_item before) (is_item next) first parts.0) parts.1

row_list_after : {U : Type 0} (give : Item → List U) (before : Source) (more : List Item) → row_list give (row_after before more) ≡ row_list give before ++ flat_map give more
row_list_after give before [] = sym (append-nil (row_list give before))
row_list_after give before (next ∷ rest) = row_list_after give (Then before next) rest ∙ append_assoc (row_list give before) (give next) (flat_map give rest)

-- ---- functions

each_formed : (body : List Stmt) → IsTrue (list_all is_inner (map plain_statement body))
each_formed [] = refl
each_formed (s ∷ body) = and_from _ _ (statement_is_plain s).formed (each_formed body)

each_tree : (body : List Stmt) → flat_map inner_trees (map plain_statement body) ≡ body
each_tree [] = refl
each_tree (s ∷ body) = ap (λ list. list ++ flat_map inner_trees (map plain_statement body)) (statement_is_plain s).tree ∙ ap (λ list. s ∷ list) (each_tree body)

parameters_tree : (names : List (List ℕ)) → parameter_names (plain_parameters (commas_of names)) ≡ names
parameters_tree [] = refl
parameters_tree (first ∷ others) =
    commas_list_after (λ name. name ∷ []) (One first) others ∙ ap (λ list. first ∷ list) (flat_map_single (λ name. name) others ∙ map-id others)

function_plain : (f : Function) → item_functions (plain_function f) ≡ f ∷ []
function_plain f =
    ap (λ names. record f { params = names; body = inners_trees (inners_after NoInners (map plain_statement f.body)) } ∷ []) (parameters_tree f.params)
    ∙ ap (λ list. record f { body = list } ∷ []) (inners_tree NoInners (map plain_statement f.body) ∙ each_tree f.body)

functions_formed : (functions : List Function) → IsTrue (list_all is_item (map plain_function functions))
functions_formed [] = refl
functions_formed (f ∷ functions) = and_from _ _ (inners_formed NoInners (map plain_statement f.body) refl (each_formed f.body)) (functions_formed functions)

functions_tree : (functions : List Function) → flat_map item_functions (map plain_function functions) ≡ functions
functions_tree [] = refl
functions_tree (f ∷ functions) = ap (λ list. list ++ flat_map item_functions (map plain_function functions)) (function_plain f) ∙ ap (λ list. f ∷ list) (functions_tree functions)

no_arrays : (functions : List Function) → flat_map item_arrays (map plain_function functions) ≡ []
no_arrays [] = refl
no_arrays (f ∷ functions) = no_arrays functions

-- ---- arrays

arrays_formed : (arrays : List Shared) → IsTrue (list_all is_item (map plain_array arrays))
arrays_formed [] = refl
arrays_formed (array ∷ arrays) = arrays_formed arrays

arrays_tree : (arrays : List Shared) → flat_map item_arrays (map plain_array arrays) ≡ arrays
arrays_tree [] = refl
arrays_tree (array ∷ arrays) = ap (λ list. array ∷ list) (arrays_tree arrays)

no_functions : (arrays : List Shared) → flat_map item_functions (map plain_array arrays) ≡ []
no_functions [] = refl
no_functions (array ∷ arrays) = no_functions arrays

-- ---- programs

pub plain_formed : (program : Program) → IsWellFormed (plain_source program)
plain_formed program =
    row_formed (row_after Empty (map plain_array program.shared)) (map plain_function program.functions)
    (row_formed Empty (map plain_array program.shared) refl (arrays_formed program.shared)) (functions_formed program.functions)

-- what the items of the program give
given : {U : Type 0} (give : Item → List U) (program : Program) → row_list give (plain_source program) ≡ flat_map give (map plain_array program.shared) ++ flat_map give (map plain_function program.functions)
given give program =
    row_list_after give (row_after Empty (map plain_array program.shared)) (map plain_function program.functions)
    ∙ ap (λ list. list ++ flat_map give (map plain_function program.functions)) (row_list_after give Empty (map plain_array program.shared))

pub plain_tree : (program : Program) → source_tree (plain_source program) ≡ program
plain_tree program =
    let shared : row_list item_arrays (plain_source program) ≡ program.shared =
    given item_arrays program ∙ ap (λ list. list ++ flat_map item_arrays (map plain_function program.functions)) (arrays_tree program.shared) ∙ ap (λ list. program.shared ++ list) (no_arrays program.functions) ∙ append-nil program.shared in
    let functions : row_list item_functions (plain_source program) ≡ program.functions =
    given item_functions program ∙ ap (λ list. list ++ flat_map item_functions (map plain_function program.functions)) (no_functions program.shared) ∙ functions_tree program.functions in
    ap (λ list. record program { shared = list; functions = row_list item_functions (plain_source program) }) shared ∙ ap (λ list. record program { functions = list }) functions
