use Rattle.cilk_tree.specs.declared.tree.Stmt.{out-Stmt}
use Rattle.cilk_tree.specs.Lawful.Flow.{head_of}
use Rattle.cilk_checker.proofs.Passing.{step_is}
use Rattle.cilk_checker.proofs.path.Step.of.Goals as goal

pub returns : goal.returns
returns c = step_is _ (record { point = c.args.names.locals.now; head = head_of (out-Stmt c.args.statement.now) }) c.statement.ensures c.in_ok-touched_by.ensures c.effect_of.ensures
