-- The stack of locals, and its table of numbers.
use Rattle.std.specs.Prelude.{◌≡◌, ℕ, ◌+◌, Bool, true, false, cond, List, [], ◌∷◌, length, drop, Option, Some, None}
use Rattle.std.proofs.Common.{refl, sym, ap, subst, ◌∙◌, arith}
use Rattle.std.specs.List.{fold, find}
use Rattle.std.specs.Option.{option_map}
use Rattle.std.specs.Map.{update}
use Rattle.std.specs.Str.{bytes_eq}
use Rattle.std.proofs.lemmas.Slice.Eq.{bytes_eq-Decides}
use Rattle.std.proofs.lemmas.List.{drop-drop}
use Rattle.cilk_tree.specs.Lawful.Flow.{with_scope}
use Rattle.cilk_tree.specs.Lawful.Scope as scope
use Rattle.cilk_tree.specs.Lawful.Scope.{Point, local_named}
use Rattle.cilk_checker.specs.declared.locals.Local.{Local}
use Rattle.cilk_checker.specs.Scopes.{with_one, scope_of}

length_from : (below : List scope.Local) (stack : List Local) → length (fold with_one below stack) ≡ length below + length stack
length_from below [] = omega arith
length_from below (local ∷ stack) =
    let e = length_from (with_one below local) stack in
    omega (arith, e)

pub length_of_scope : (stack : List Local) → length (scope_of stack) ≡ length stack
length_of_scope stack = let e = length_from [] stack in omega (arith, e)

without : (b : Bool) (top : scope.Local) (found : Option scope.Local) → (b ≡ true → option_map (λ local. local.number) found ≡ None)
    → cond b None (option_map (λ local. local.number) (cond b (Some top) found)) ≡ option_map (λ local. local.number) found
without true top found h = sym (h refl)
without false top found h = refl

-- without the latest local, a table of the scope is one of the scope below it
pub forgotten : (top : scope.Local) (below : List scope.Local) (before after : List ℕ → Option ℕ)
    → local_named below top.name ≡ None
    → ((name : List ℕ) → before name ≡ local_named (top ∷ below) name)
    → ((name : List ℕ) → after name ≡ update bytes_eq before top.name None name)
    → (name : List ℕ) → after name ≡ local_named below name
forgotten top below before after fresh is made name =
    made name ∙ ap (cond (bytes_eq top.name name) None) (is name)
    ∙ without (bytes_eq top.name name) top (find (λ local. bytes_eq local.name name) below)
    (λ same. subst (λ other. local_named below other ≡ None) ((bytes_eq-Decides top.name name).0 same) fresh)

-- one local more goes out of scope
pub left_more : (begun now after : Point) (gone : ℕ) → now ≡ with_scope (drop gone begun.scope) begun → after ≡ with_scope (drop 1 now.scope) now → after ≡ with_scope (drop (gone + 1) begun.scope) begun
left_more begun now after gone e f =
    f ∙ ap (λ point. with_scope (drop 1 point.scope) point) e ∙ ap (λ left. with_scope left begun) (drop-drop 1 gone begun.scope)
