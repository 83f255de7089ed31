use Rattle.std.proofs.Common.{ap, sym, ◌∙◌}
use Rattle.cilk_tree.specs.declared.tree.Stmt.{out-Stmt}
use Rattle.cilk_tree.specs.declared.tree.Stmt.TheVariants.{outs-Spawn}
use Rattle.cilk_tree.specs.Lawful.Flow.{head_of}
use Rattle.cilk_tree.specs.Lawful.Pending.{after_head}
use Rattle.cilk_checker.proofs.path.effect_of.Goals as goal

pub returns-in-Spawn : goal.returns-in-Spawn
returns-in-Spawn c =
    c.spawn_effect.ensures
    ∙ ap (λ layer. after_head c.args.names.locals.now.scope (head_of layer)) (sym (ap out-Stmt c.in-Spawn.is ∙ outs-Spawn c.in-Spawn.target c.in-Spawn.field-1 c.in-Spawn.field-2))
