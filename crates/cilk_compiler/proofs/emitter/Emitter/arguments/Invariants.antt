use Rattle.std.proofs.Common.{◌≡◌, max, drop}
use Rattle.compiled_code.specs.Emitted.{exprs_operands}
use Rattle.cilk_compiler.specs.Emitting.{exprs_in, with_exprs}
use Rattle.cilk_compiler.proofs.emitter.Emitter.arguments.Given as goal

-- with the code and the operands of the arguments that are left there is what all arguments have
abbrev pub invariant-loop-argument : goal.invariant-loop-argument
invariant-loop-argument l = record {
  code : with_exprs (exprs_in l.initial.self (drop l.argument-index l.arguments)) l.self ≡ with_exprs (exprs_in l.initial.self l.arguments) l.initial.self;
  operands : max l.operands (exprs_operands l.before (exprs_in l.initial.self (drop l.argument-index l.arguments))) ≡ exprs_operands 0 (exprs_in l.initial.self l.arguments);
}
