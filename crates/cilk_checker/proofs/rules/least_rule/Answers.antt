use Rattle.std.proofs.Common.{◌≡◌, false, ap, sym, ◌∙◌}
use Rattle.cilk_tree.specs.declared.tree.Stmt.{out-Stmt}
use Rattle.cilk_tree.specs.declared.tree.Stmt.TheVariants.{outs-Spawn}
use Rattle.cilk_tree.specs.Lawful.Flow.{head_of}
use Rattle.cilk_checker.specs.Seeing.{meaning_in}
use Rattle.cilk_checker.proofs.Spawning.{spawn_first}
use Rattle.cilk_checker.proofs.rules.least_rule.Goals as goal

pub returns-in-Spawn : goal.returns-in-Spawn
returns-in-Spawn c =
    let known = sym c.requires.uses.unknown ∙ c.if-uses.false in
    let right = sym c.requires.uses.wrong ∙ c.if-uses-2.false in
    let spawn = ap head_of (ap out-Stmt c.in-Spawn.is ∙ outs-Spawn c.in-Spawn.target c.in-Spawn.name c.in-Spawn.arguments) in
    rw (known, right, spawn, c.spawn_kind.ensures, c.meaning-in-Spawn.ensures, c.as_slice-in-Spawn.ensures) (spawn_first c.args.function.now (meaning_in c.args.names c.in-Spawn.name) c.in-Spawn.target c.in-Spawn.arguments)
