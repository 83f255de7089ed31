-- What a list declares is out of scope behind it.
use Rattle.std.proofs.Common.{◌≡◌, ℕ, ◌-◌, List, length, drop, map, ap, ◌∙◌}
use Rattle.cilk_tree.specs.declared.tree.Stmt.{Stmt}
use Rattle.cilk_tree.specs.Lawful.Flow.{after_all, after_list, with_scope}
use Rattle.cilk_tree.specs.Lawful.Scope.{Point}
use Rattle.cilk_meaning.proofs.Parting.{parts_in_scope}
use Rattle.cilk_meaning.specs.Resolving.{part_in}
use Rattle.cilk_checker.proofs.Lists.{declared_dropped}
use Rattle.cilk_compiler.specs.declared.emitter.Emitter.{Emitter}
use Rattle.cilk_compiler.specs.Emitting.{statements_in, at_point, behind_all, behind_list}

pub list_left : (old now : Emitter) (list : List Stmt) (depth : ℕ) (left : Point) → now ≡ behind_all (statements_in old list) old → depth ≡ length old.locals.scope
    → left ≡ with_scope (drop (length now.locals.scope - depth) now.locals.scope) now.locals
    → at_point left now ≡ behind_list (statements_in old list) old
list_left old now list depth left all depth_is left_is =
    let parts = map part_in (statements_in old list) in
    let behind = after_all parts old.locals in
    let reached : now.locals ≡ behind = ap (λ (e : Emitter). e.locals) all in
    let dropped : drop (length behind.scope - length old.locals.scope) behind.scope ≡ old.locals.scope =
    ap (λ ps. drop (length (after_all ps old.locals).scope - length old.locals.scope) (after_all ps old.locals).scope) (parts_in_scope old.globals.now list)
    ∙ declared_dropped list old.locals in
    let point : left ≡ after_list parts old.locals =
    left_is
    ∙ (λ i. with_scope (drop (length (reached i).scope - depth_is i) (reached i).scope) (reached i))
    ∙ ap (λ scope. with_scope scope behind) dropped in
    λ i. at_point (point i) (all i)
