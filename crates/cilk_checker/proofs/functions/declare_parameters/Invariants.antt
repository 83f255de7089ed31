use Rattle.std.proofs.Common.{◌≡◌, ◌||◌, false, take}
use Rattle.std.specs.List.{fold, list_any}
use Rattle.cilk_tree.specs.Lawful.Rules.{repeats}
use Rattle.cilk_tree.specs.Lawful.Scope.{declared, is_global}
use Rattle.cilk_checker.proofs.functions.declare_parameters.Given as goal

-- the parameters so far are in scope, and no name of them was taken
abbrev pub invariant-loop-parameter : goal.invariant-loop-parameter
invariant-loop-parameter l = record {
  point : l.locals ≡ fold declared l.initial.locals (take l.parameter-index l.around.function.now.params);
  new : (list_any (is_global l.around.globals.now.program.now) (take l.parameter-index l.around.function.now.params) || repeats (take l.parameter-index l.around.function.now.params)) ≡ false;
}
