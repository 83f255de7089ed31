-- The stack of locals and the scope that it stands for.
use Rattle.std.proofs.Common.{◌≡◌, ℕ, ◌-◌, Bool, true, false, cond, List, [], ◌∷◌, ◌++◌, length, map, take, drop, reverse, Option, Some, None, refl, sym, ap, ◌∙◌, arith}
use Rattle.std.proofs.lemmas.List.{reverse-append, length-reverse, map-append, length-map, take-append-drop, length-drop}
use Rattle.std.proofs.Math.Seq.{drop-append_seam}
use Rattle.std.specs.List.{find}
use Rattle.std.specs.Option.{option_map, unwrap_or}
use Rattle.std.specs.Str.{bytes_eq}
use Rattle.cilk_meaning.specs.Resolving.{local_number}
use Rattle.cilk_tree.specs.Lawful.Scope as scope
use Rattle.cilk_compiler.specs.declared.locals.Local.{Local}
use Rattle.cilk_compiler.specs.Scopes.{seen, scope_of}

-- one local more
pub pushed : (stack : List Local) (top : Local) → scope_of (stack ++ top ∷ []) ≡ seen top ∷ scope_of stack
pushed stack top = ap (map seen) (reverse-append stack (top ∷ []))

pub depth_is : (stack : List Local) → length (scope_of stack) ≡ length stack
depth_is stack = length-map (reverse stack) seen ∙ length-reverse stack

-- the first so many alone
pub cut : (stack : List Local) (depth : ℕ) → scope_of (take depth stack) ≡ drop (length (scope_of stack) - depth) (scope_of stack)
cut stack depth =
    let front = take depth stack in
    let back = drop depth stack in
    let split : scope_of stack ≡ scope_of back ++ scope_of front =
    ap scope_of (sym (take-append-drop depth stack)) ∙ ap (map seen) (reverse-append front back) ∙ map-append seen (reverse back) (reverse front) in
    let count : length (scope_of stack) - depth ≡ length (scope_of back) = omega (arith, depth_is stack, depth_is back, length-drop depth stack) in
    sym ((λ i. drop (count i) (split i)) ∙ drop-append_seam (scope_of back) (scope_of front))

pub find_in_map : {A B : Type 0} (test : B → Bool) (f : A → B) (xs : List A) → find test (map f xs) ≡ option_map f (find (λ x. test (f x)) xs)
find_in_map test f [] = refl
find_in_map test f (x ∷ xs) = by_test (test (f x)) (find_in_map test f xs)
  where
    by_test : (b : Bool) → find test (map f xs) ≡ option_map f (find (λ y. test (f y)) xs) → cond b (Some (f x)) (find test (map f xs)) ≡ option_map f (cond b (Some x) (find (λ y. test (f y)) xs))
    by_test true rest = refl
    by_test false rest = rest

numbers_same : (o : Option Local) → option_map (λ (local : scope.Local). local.number) (option_map seen o) ≡ option_map (λ (local : Local). local.number) o
numbers_same None = refl
numbers_same (Some local) = refl

-- the number of a name is that of the last local that has it
pub number_found : (stack : List Local) (name : List ℕ) (found : Option Local) → found ≡ find (λ local. bytes_eq local.name.now name) (reverse stack)
    → unwrap_or (option_map (λ (local : Local). local.number) found) 0 ≡ local_number (scope_of stack) name
number_found stack name found is =
    ap (λ o. unwrap_or o 0)
    (sym (ap (option_map (λ (local : scope.Local). local.number)) (find_in_map (λ (local : scope.Local). bytes_eq local.name name) seen (reverse stack) ∙ ap (option_map seen) (sym is))
    ∙ numbers_same found))
