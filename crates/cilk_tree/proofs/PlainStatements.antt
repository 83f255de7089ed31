-- The concrete syntax of a statement's canonical text is well formed, and stands for the statement.
use Rattle.std.specs.Prelude.{◌≡◌, ℕ, Bool, true, false, IsTrue, Option, Some, None, option_map, List, [], ◌∷◌, ◌++◌, map, flat_map}
use Rattle.std.specs.List.{list_all}
use Rattle.std.proofs.Common.{refl, sym, ap, subst, ◌∙◌, append_assoc, append-nil}
use Rattle.std.proofs.lemmas.Bool.{and_from, and_parts}
use Rattle.cilk_tree.specs.declared.tree.Expr.{Expr}
use Rattle.cilk_tree.specs.declared.tree.Stmt.{Stmt, roll-Stmt, map-Stmt, fold-roll-Stmt, ind-Stmt}
use Rattle.cilk_tree.specs.declared.tree.Stmt.TheOpen as layer
use Rattle.cilk_tree.specs.declared.tree.Stmt.TheOpen.{Stmt-F}
use Rattle.cilk_tree.specs.declared.tree.Stmt.TheVariants as stmt
use Rattle.cilk_tree.specs.declared.tree.Stmt.TheVariants.{rolls-Declare, rolls-Assign, rolls-Put, rolls-Print, rolls-If, rolls-While, rolls-Block, rolls-Call, rolls-Spawn, rolls-Add, rolls-Sync, rolls-Return}
use Rattle.cilk_tree.specs.Canonical.{plain_expression}
use Rattle.cilk_tree.specs.Sugar.{expression_tree, commas_list, one_expression, argument_trees, call_tree, addition_tree, inner_trees, inners_trees}
use Rattle.cilk_tree.specs.Syntax.{Commas, One, More, Call, Addition, Value, Bare, Assignment, Storing, Simply, Syncing, WhileLoop, Printing, Returning, Inner, Declaration, Block, Stated, Inners, NoInners, ThenInner, is_grouped, each_of, if_any, is_call, is_addition, is_inner, are_inners}
use Rattle.cilk_tree.specs.Writable.{commas_after, commas_of, inners_after, braced, plain_call, plain_target, plain_addition, plain_added, plain_if, plain_inner_here, plain_statement}
use Rattle.cilk_tree.proofs.PlainExpressions.{plain_is_plain}

-- ---- lists

pub each_after : {T : Type 0} (test : T → Bool) (before : Commas T) (more : List T) → IsTrue (each_of test before) → IsTrue (list_all test more) → IsTrue (each_of test (commas_after before more))
each_after test before [] first others = first
each_after test before (next ∷ rest) first others =
    let parts = and_parts (test next) (list_all test rest) others in
    each_after test (More before next) rest (and_from (each_of test before) (test next) first parts.0) parts.1

pub commas_list_after : {T U : Type 0} (give : T → List U) (before : Commas T) (more : List T) → commas_list give (commas_after before more) ≡ commas_list give before ++ flat_map give more
commas_list_after give before [] = sym (append-nil (commas_list give before))
commas_list_after give before (next ∷ rest) = commas_list_after give (More before next) rest ∙ append_assoc (commas_list give before) (give next) (flat_map give rest)

pub inners_formed : (before : Inners) (more : List Inner) → IsTrue (are_inners before) → IsTrue (list_all is_inner more) → IsTrue (are_inners (inners_after before more))
inners_formed before [] first others = first
inners_formed before (next ∷ rest) first others =
    let parts = and_parts (is_inner next) (list_all is_inner rest) others in
    inners_formed (ThenInner before next) rest (and_from (are_inners before) (is_inner next) first parts.0) parts.1

pub inners_tree : (before : Inners) (more : List Inner) → inners_trees (inners_after before more) ≡ inners_trees before ++ flat_map inner_trees more
inners_tree before [] = sym (append-nil (inners_trees before))
inners_tree before (next ∷ rest) = inners_tree (ThenInner before next) rest ∙ append_assoc (inners_trees before) (inner_trees next) (flat_map inner_trees rest)

-- ---- parts of statements

each_grouped : (values : List Expr) → IsTrue (list_all is_grouped (map plain_expression values))
each_grouped [] = refl
each_grouped (value ∷ values) = and_from (is_grouped (plain_expression value)) (list_all is_grouped (map plain_expression values)) (plain_is_plain value).formed (each_grouped values)

each_expression : (values : List Expr) → flat_map one_expression (map plain_expression values) ≡ values
each_expression [] = refl
each_expression (value ∷ values) = ap (λ e. e ∷ flat_map one_expression (map plain_expression values)) (plain_is_plain value).tree ∙ ap (λ es. value ∷ es) (each_expression values)

call_formed : (spawned : Bool) (name : List ℕ) (arguments : List Expr) → IsTrue (is_call (plain_call spawned name arguments))
call_formed spawned name [] = refl
call_formed spawned name (first ∷ rest) = each_after is_grouped (One (plain_expression first)) (map plain_expression rest) (plain_is_plain first).formed (each_grouped rest)

arguments_tree : (arguments : List Expr) → argument_trees (commas_of (map plain_expression arguments)) ≡ arguments
arguments_tree [] = refl
arguments_tree (first ∷ rest) = commas_list_after one_expression (One (plain_expression first)) (map plain_expression rest) ∙ each_expression (first ∷ rest)

target_formed : (target : Option (List ℕ)) (call : Call) → IsTrue (is_call call) → IsTrue (is_inner (plain_target target call))
target_formed None call h = h
target_formed (Some name) call h = h

target_tree : (target : Option (List ℕ)) (call : Call) → inner_trees (plain_target target call) ≡ call_tree target call.spawned call.name (argument_trees call.arguments) ∷ []
target_tree None call = refl
target_tree (Some name) call = refl

added_formed : (target : Option (List ℕ)) (addition : Addition) → IsTrue (is_addition addition) → IsTrue (is_inner (plain_added target addition))
added_formed None addition h = h
added_formed (Some name) addition h = h

added_tree : (target : Option (List ℕ)) (addition : Addition) → inner_trees (plain_added target addition) ≡ addition_tree target addition ∷ []
added_tree None addition = refl
added_tree (Some name) addition = refl

value_formed : (value : Option Expr) → IsTrue (if_any is_grouped (option_map plain_expression value))
value_formed None = refl
value_formed (Some value) = (plain_is_plain value).formed

value_tree : (value : Option Expr) → option_map expression_tree (option_map plain_expression value) ≡ value
value_tree None = refl
value_tree (Some value) = ap Some (plain_is_plain value).tree

if_formed : (condition : Expr) (taken otherwise : List Inner) → IsTrue (list_all is_inner taken) → IsTrue (list_all is_inner otherwise) → IsTrue (is_inner (plain_if condition taken otherwise))
if_formed condition taken [] formed formed_too = and_from _ _ (plain_is_plain condition).formed (inners_formed NoInners taken refl formed)
if_formed condition taken (first ∷ rest) formed formed_too =
    and_from _ _ (and_from _ _ (and_from _ _ (plain_is_plain condition).formed (inners_formed NoInners taken refl formed)) refl) (inners_formed NoInners (first ∷ rest) refl formed_too)

if_tree : (condition : Expr) (taken otherwise : List Inner) → inner_trees (plain_if condition taken otherwise) ≡ stmt.If condition (flat_map inner_trees taken) (flat_map inner_trees otherwise) ∷ []
if_tree condition taken [] =
    ap (λ e. stmt.If e (inners_trees (inners_after NoInners taken)) [] ∷ []) (plain_is_plain condition).tree
    ∙ ap (λ body. stmt.If condition body [] ∷ []) (inners_tree NoInners taken)
if_tree condition taken (first ∷ rest) =
    ap (λ e. stmt.If e (inners_trees (inners_after NoInners taken)) (inners_trees (inners_after NoInners (first ∷ rest))) ∷ []) (plain_is_plain condition).tree
    ∙ ap (λ body. stmt.If condition body (inners_trees (inners_after NoInners (first ∷ rest))) ∷ []) (inners_tree NoInners taken)
    ∙ ap (λ body. stmt.If condition (flat_map inner_trees taken) body ∷ []) (inners_tree NoInners (first ∷ rest))

-- ---- statements

pub record IsPlainStatement (s : Stmt) : Type 0 where
  pub formed : IsTrue (is_inner (plain_statement s))
  pub tree : inner_trees (plain_statement s) ≡ s ∷ []

plain_from : (y : Stmt-F Stmt) (inner : Inner) → plain_statement (roll-Stmt y) ≡ inner → IsTrue (is_inner inner) → inner_trees inner ≡ roll-Stmt y ∷ [] → IsPlainStatement (roll-Stmt y)
plain_from y inner is formed tree = record {
  formed = subst (λ x. IsTrue (is_inner x)) (sym is) formed;
  tree = ap inner_trees is ∙ tree;
}

abbrev Proved : Type 0
Proved = (s : Stmt) × IsPlainStatement s

abbrev bodies : List Proved → List Stmt
bodies ys = map (λ s. s.0) ys

each_formed : (ys : List Proved) → IsTrue (list_all is_inner (map plain_statement (bodies ys)))
each_formed [] = refl
each_formed (y ∷ ys) = and_from _ _ y.1.formed (each_formed ys)

each_tree : (ys : List Proved) → flat_map inner_trees (map plain_statement (bodies ys)) ≡ bodies ys
each_tree [] = refl
each_tree (y ∷ ys) = ap (λ list. list ++ flat_map inner_trees (map plain_statement (bodies ys))) y.1.tree ∙ ap (λ list. y.0 ∷ list) (each_tree ys)

body_tree : (ys : List Proved) → inners_trees (inners_after NoInners (map plain_statement (bodies ys))) ≡ bodies ys
body_tree ys = inners_tree NoInners (map plain_statement (bodies ys)) ∙ each_tree ys

layer_plain : (y : Stmt-F Proved) → IsPlainStatement (roll-Stmt (map-Stmt _ Stmt (λ s. s.0) y))
layer_plain (layer.Declare name) =
    plain_from (layer.Declare name) (Declaration (One (Bare name))) (fold-roll-Stmt Inner plain_inner_here (layer.Declare name)) refl (ap (λ s. s ∷ []) (sym (rolls-Declare name)))
layer_plain (layer.Assign name value) =
    plain_from (layer.Assign name value) (Stated (Simply (Assignment name (Value (plain_expression value))))) (fold-roll-Stmt Inner plain_inner_here (layer.Assign name value)) (plain_is_plain value).formed
    (ap (λ e. stmt.Assign name e ∷ []) (plain_is_plain value).tree ∙ ap (λ s. s ∷ []) (sym (rolls-Assign name value)))
layer_plain (layer.Put name index value) =
    plain_from (layer.Put name index value) (Stated (Simply (Storing name (plain_expression index) (plain_expression value)))) (fold-roll-Stmt Inner plain_inner_here (layer.Put name index value))
    (and_from _ _ (plain_is_plain index).formed (plain_is_plain value).formed)
    (ap (λ e. stmt.Put name e (expression_tree (plain_expression value)) ∷ []) (plain_is_plain index).tree ∙ ap (λ e. stmt.Put name index e ∷ []) (plain_is_plain value).tree ∙ ap (λ s. s ∷ []) (sym (rolls-Put name index value)))
layer_plain (layer.Print value) =
    plain_from (layer.Print value) (Stated (Printing (plain_expression value))) (fold-roll-Stmt Inner plain_inner_here (layer.Print value)) (plain_is_plain value).formed
    (ap (λ e. stmt.Print e ∷ []) (plain_is_plain value).tree ∙ ap (λ s. s ∷ []) (sym (rolls-Print value)))
layer_plain (layer.If condition taken otherwise) =
    plain_from (layer.If condition (bodies taken) (bodies otherwise)) (plain_if condition (map plain_statement (bodies taken)) (map plain_statement (bodies otherwise)))
    (fold-roll-Stmt Inner plain_inner_here (layer.If condition (bodies taken) (bodies otherwise)))
    (if_formed condition (map plain_statement (bodies taken)) (map plain_statement (bodies otherwise)) (each_formed taken) (each_formed otherwise))
    (if_tree condition (map plain_statement (bodies taken)) (map plain_statement (bodies otherwise))
    ∙ ap (λ body. stmt.If condition body (flat_map inner_trees (map plain_statement (bodies otherwise))) ∷ []) (each_tree taken)
    ∙ ap (λ body. stmt.If condition (bodies taken) body ∷ []) (each_tree otherwise)
    ∙ ap (λ s. s ∷ []) (sym (rolls-If condition (bodies taken) (bodies otherwise))))
layer_plain (layer.While condition body) =
    plain_from (layer.While condition (bodies body)) (Stated (WhileLoop (plain_expression condition) (braced (map plain_statement (bodies body)))))
    (fold-roll-Stmt Inner plain_inner_here (layer.While condition (bodies body)))
    (and_from _ _ (plain_is_plain condition).formed (inners_formed NoInners (map plain_statement (bodies body)) refl (each_formed body)))
    (ap (λ e. stmt.While e (inners_trees (inners_after NoInners (map plain_statement (bodies body)))) ∷ []) (plain_is_plain condition).tree
    ∙ ap (λ inside. stmt.While condition inside ∷ []) (body_tree body)
    ∙ ap (λ s. s ∷ []) (sym (rolls-While condition (bodies body))))
layer_plain (layer.Block inside) =
    plain_from (layer.Block (bodies inside)) (Block (inners_after NoInners (map plain_statement (bodies inside)))) (fold-roll-Stmt Inner plain_inner_here (layer.Block (bodies inside)))
    (inners_formed NoInners (map plain_statement (bodies inside)) refl (each_formed inside))
    (ap (λ list. stmt.Block list ∷ []) (body_tree inside) ∙ ap (λ s. s ∷ []) (sym (rolls-Block (bodies inside))))
layer_plain (layer.Call target name arguments) =
    plain_from (layer.Call target name arguments) (plain_target target (plain_call false name arguments)) (fold-roll-Stmt Inner plain_inner_here (layer.Call target name arguments))
    (target_formed target (plain_call false name arguments) (call_formed false name arguments))
    (target_tree target (plain_call false name arguments) ∙ ap (λ list. stmt.Call target name list ∷ []) (arguments_tree arguments) ∙ ap (λ s. s ∷ []) (sym (rolls-Call target name arguments)))
layer_plain (layer.Spawn target name arguments) =
    plain_from (layer.Spawn target name arguments) (plain_target target (plain_call true name arguments)) (fold-roll-Stmt Inner plain_inner_here (layer.Spawn target name arguments))
    (target_formed target (plain_call true name arguments) (call_formed true name arguments))
    (target_tree target (plain_call true name arguments) ∙ ap (λ list. stmt.Spawn target name list ∷ []) (arguments_tree arguments) ∙ ap (λ s. s ∷ []) (sym (rolls-Spawn target name arguments)))
layer_plain (layer.Add target name index addend) =
    plain_from (layer.Add target name index addend) (plain_added target (plain_addition name index addend)) (fold-roll-Stmt Inner plain_inner_here (layer.Add target name index addend))
    (added_formed target (plain_addition name index addend) (and_from _ _ (plain_is_plain index).formed (plain_is_plain addend).formed))
    (added_tree target (plain_addition name index addend) ∙ ap (λ e. stmt.Add target name e (expression_tree (plain_expression addend)) ∷ []) (plain_is_plain index).tree
    ∙ ap (λ e. stmt.Add target name index e ∷ []) (plain_is_plain addend).tree ∙ ap (λ s. s ∷ []) (sym (rolls-Add target name index addend)))
layer_plain layer.Sync =
    plain_from layer.Sync (Stated Syncing) (fold-roll-Stmt Inner plain_inner_here layer.Sync) refl (ap (λ s. s ∷ []) (sym rolls-Sync))
layer_plain (layer.Return value) =
    plain_from (layer.Return value) (Stated (Returning (option_map plain_expression value))) (fold-roll-Stmt Inner plain_inner_here (layer.Return value)) (value_formed value)
    (ap (λ v. stmt.Return v ∷ []) (value_tree value) ∙ ap (λ s. s ∷ []) (sym (rolls-Return value)))

pub statement_is_plain : (s : Stmt) → IsPlainStatement s
statement_is_plain = ind-Stmt IsPlainStatement (λ x y is. subst (λ z. IsPlainStatement (roll-Stmt z)) is (layer_plain y))
