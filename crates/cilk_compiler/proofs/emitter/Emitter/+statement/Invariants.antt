use Rattle.std.proofs.Common.{◌≡◌, drop}
use Rattle.cilk_compiler.specs.Emitting.{behind_all, statements_in}
use Rattle.cilk_compiler.proofs.emitter.Emitter.+statement.Given as goal

-- what is behind the statements that are left is what is behind all of them
abbrev pub invariant-statements-loop-statement : goal.invariant-statements-loop-statement
invariant-statements-loop-statement l =
    behind_all (statements_in l.initial.self (drop l.statement-index l.statements)) l.self ≡ behind_all (statements_in l.initial.self l.statements) l.initial.self
