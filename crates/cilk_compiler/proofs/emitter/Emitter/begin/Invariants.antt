use Rattle.std.proofs.Common.{◌≡◌, drop}
use Rattle.std.specs.List.{fold}
use Rattle.cilk_tree.specs.Lawful.Scope.{declared}
use Rattle.cilk_compiler.specs.Emitting.{at_point}
use Rattle.cilk_compiler.proofs.emitter.Emitter.begin.Given as goal

-- with the parameters that are left in scope the point is that of the function, and nothing else has changed
abbrev pub invariant-loop-parameter : goal.invariant-loop-parameter
invariant-loop-parameter l = record {
  left : fold declared l.self.locals (drop l.parameter-index l.parameter-items) ≡ fold declared l.initial.self.locals l.parameter-items;
  rest : l.self ≡ at_point l.self.locals l.initial.self;
}
