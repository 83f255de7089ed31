-- How the table of arrays and functions grows.
use Rattle.std.specs.Prelude.{◌≡◌, ℕ, Bool, true, false, cond, ◌||◌, List, [], ◌∷◌, ◌++◌, Option, Some, None}
use Rattle.std.proofs.Common.{refl, sym, ap, subst, ◌∙◌}
use Rattle.std.specs.List.{find, list_any}
use Rattle.std.specs.Option.{option_or}
use Rattle.std.specs.Map.{update}
use Rattle.std.specs.Str.{bytes_eq}
use Rattle.std.proofs.lemmas.Bool.{false≢true}
use Rattle.std.proofs.lemmas.List.Folds.{find-append, list_any-append}
use Rattle.std.proofs.lemmas.Slice.Eq.{bytes_eq-Decides}
use denote.Ref.{Bor}
use Rattle.cilk_tree.specs.declared.tree.Function.{Function}
use Rattle.cilk_tree.specs.declared.tree.Shared.{Shared}
use Rattle.cilk_tree.specs.Lawful.Scope as scope
use Rattle.cilk_tree.specs.Lawful.Scope.{first_meaning, is_known}
use Rattle.cilk_checker.specs.declared.meaning.Meaning.{Meaning}
use Rattle.cilk_checker.specs.declared.meaning.Meaning.TheVariants as found
use Rattle.cilk_checker.specs.Meanings.{entry_meaning, global_meaning}

-- what the entries mean after one of them is set
pub entry_set : (before : List ℕ → Option Meaning) (name : List ℕ) (value : Option Meaning) (other : List ℕ)
    → entry_meaning (update bytes_eq before name value other) ≡ cond (bytes_eq name other) (entry_meaning value) (entry_meaning (before other))
entry_set before name value other = by_test (bytes_eq name other)
  where
    by_test : (b : Bool) → entry_meaning (cond b value (before other)) ≡ cond b (entry_meaning value) (entry_meaning (before other))
    by_test true = refl
    by_test false = refl

array_more : (x b : Bool) → first_meaning None (x || (b || false)) None ≡ cond b scope.Array (first_meaning None x None)
array_more true true = refl
array_more false true = refl
array_more true false = refl
array_more false false = refl

-- one array more
pub meaning_with_array : (arrays : List Shared) (array : Shared) (name : List ℕ)
    → global_meaning (arrays ++ array ∷ []) [] name ≡ cond (bytes_eq array.name name) scope.Array (global_meaning arrays [] name)
meaning_with_array arrays array name =
    ap (λ b. first_meaning None b None) (list_any-append (λ other. bytes_eq other.name name) arrays (array ∷ []))
    ∙ array_more (list_any (λ other. bytes_eq other.name name) arrays) (bytes_eq array.name name)

stays : (a b : Bool) (o : Option Function) (function : Function) → (b ≡ true → is_known (first_meaning None a o) ≡ true)
    → first_meaning None a (option_or o (cond b (Some function) None)) ≡ first_meaning None a o
stays true b o function h = refl
stays false b (Some first) function h = refl
stays false true None function h = absurd (false≢true (h refl))
stays false false None function h = refl

comes : (a b : Bool) (o : Option Function) (function : Function) → (b ≡ true → is_known (first_meaning None a o) ≡ false)
    → first_meaning None a (option_or o (cond b (Some function) None)) ≡ cond b (scope.Procedure function) (first_meaning None a o)
comes true true o function h = absurd (false≢true (sym (h refl)))
comes false true (Some first) function h = absurd (false≢true (sym (h refl)))
comes false true None function h = refl
comes true false o function h = refl
comes false false (Some first) function h = refl
comes false false None function h = refl

module _ (arrays : List Shared) (functions : List Function) (function : Function) (name : List ℕ) where
  meaning_more : global_meaning arrays (functions ++ function ∷ []) name
      ≡ first_meaning None (list_any (λ array. bytes_eq array.name name) arrays) (option_or (find (λ other. bytes_eq other.name name) functions) (cond (bytes_eq function.name name) (Some function) None))
  meaning_more = ap (first_meaning None (list_any (λ array. bytes_eq array.name name) arrays)) (find-append (λ other. bytes_eq other.name name) functions (function ∷ []))

  -- one function more, whose name is taken
  pub meaning_stays : is_known (global_meaning arrays functions function.name) ≡ true → global_meaning arrays (functions ++ function ∷ []) name ≡ global_meaning arrays functions name
  meaning_stays known = meaning_more ∙ stays _ (bytes_eq function.name name) _ function (λ same. subst (λ other. is_known (global_meaning arrays functions other) ≡ true) ((bytes_eq-Decides function.name name).0 same) known)

  -- one function more, whose name is not
  pub meaning_with_function : is_known (global_meaning arrays functions function.name) ≡ false
      → global_meaning arrays (functions ++ function ∷ []) name ≡ cond (bytes_eq function.name name) (scope.Procedure function) (global_meaning arrays functions name)
  meaning_with_function unknown = meaning_more ∙ comes _ (bytes_eq function.name name) _ function (λ same. subst (λ other. is_known (global_meaning arrays functions other) ≡ false) ((bytes_eq-Decides function.name name).0 same) unknown)

module _ (before after : List ℕ → Option Meaning) (key : List ℕ) where
  -- the table with one array more
  pub array_added : (arrays : List Shared) (array : Shared) → key ≡ array.name
      → ((name : List ℕ) → entry_meaning (before name) ≡ global_meaning arrays [] name)
      → ((name : List ℕ) → after name ≡ update bytes_eq before key (Some found.Array) name)
      → (name : List ℕ) → entry_meaning (after name) ≡ global_meaning (arrays ++ array ∷ []) [] name
  array_added arrays array same is made name =
      ap entry_meaning (made name) ∙ entry_set before key (Some found.Array) name
      ∙ ap (λ other. cond (bytes_eq other name) scope.Array (entry_meaning (before name))) same
      ∙ ap (cond (bytes_eq array.name name) scope.Array) (is name) ∙ sym (meaning_with_array arrays array name)

  -- the table with one function more
  pub function_added : (arrays : List Shared) (functions : List Function) (function : Bor Function) → key ≡ function.now.name
      → is_known (global_meaning arrays functions function.now.name) ≡ false
      → ((name : List ℕ) → entry_meaning (before name) ≡ global_meaning arrays functions name)
      → ((name : List ℕ) → after name ≡ update bytes_eq before key (Some (found.Procedure function)) name)
      → (name : List ℕ) → entry_meaning (after name) ≡ global_meaning arrays (functions ++ function.now ∷ []) name
  function_added arrays functions function same new is made name =
      ap entry_meaning (made name) ∙ entry_set before key (Some (found.Procedure function)) name
      ∙ ap (λ other. cond (bytes_eq other name) (scope.Procedure function.now) (entry_meaning (before name))) same
      ∙ ap (cond (bytes_eq function.now.name name) (scope.Procedure function.now)) (is name) ∙ sym (meaning_with_function arrays functions function.now name new)
