-- What an `if` and a `while` of the source add.
use Rattle.std.proofs.Common.{◌≡◌, List, map, refl, sym, ap, ◌∙◌}
use Rattle.cilk_tree.specs.declared.tree.Expr.{Expr}
use Rattle.cilk_tree.specs.declared.tree.Program.{Program}
use Rattle.cilk_tree.specs.declared.tree.Stmt.{Stmt}
use Rattle.cilk_tree.specs.declared.tree.Stmt.TheVariants as stmt
use Rattle.cilk_tree.specs.declared.tree.Stmt.TheOpen as head
use Rattle.cilk_tree.specs.declared.tree.Stmt.TheOpen.{Stmt-F}
use Rattle.cilk_tree.specs.Lawful.Flow.{inside}
use Rattle.cilk_tree.specs.Lawful.Scope.{Point}
use Rattle.cilk_meaning.proofs.Resolving.{resolving_if, resolving_while}
use Rattle.cilk_meaning.specs.Resolving.{Resolving, resolving, resolving_here}
use Rattle.cilk_compiler.specs.declared.emitter.Emitter.{Emitter}
use Rattle.cilk_compiler.specs.Emitting.{expr_in, statements_in, at_point, behind}
use Rattle.cilk_compiler.proofs.Steps.{with_choice, with_loop}

-- What a step adds at the point inside a statement is what the statement adds.
module _ (old new : Emitter) (point : Point) (advanced : point ≡ inside old.locals) (statement : Stmt) where
  abbrev here : Emitter
  here = at_point point old

  abbrev program : Program
  program = old.globals.now

  abbrev Adds : Type 0
  Adds = new ≡ behind (resolving program statement) old

  by_form : (step : Emitter → Emitter) (layer : Resolving) → resolving program statement ≡ layer → step (at_point (inside old.locals) old) ≡ behind layer old → new ≡ step here → Adds
  by_form step layer is same made = made ∙ ap (λ p. step (at_point p old)) advanced ∙ same ∙ ap (λ r. behind r old) (sym is)

  pub chooses : (condition : Expr) (met unmet : List Stmt) → statement ≡ stmt.If condition met unmet → new ≡ with_choice (expr_in here condition) (statements_in here met) (statements_in here unmet) here → Adds
  chooses condition met unmet is = by_form (λ e. with_choice (expr_in e condition) (statements_in e met) (statements_in e unmet) e) (resolving_here program (head.If condition (map (resolving program) met) (map (resolving program) unmet))) (ap (resolving program) is ∙ resolving_if program condition met unmet) refl

  pub repeats : (condition : Expr) (body : List Stmt) → statement ≡ stmt.While condition body → new ≡ with_loop (expr_in here condition) (statements_in here body) here → Adds
  repeats condition body is = by_form (λ e. with_loop (expr_in e condition) (statements_in e body) e) (resolving_here program (head.While condition (map (resolving program) body))) (ap (resolving program) is ∙ resolving_while program condition body) refl
