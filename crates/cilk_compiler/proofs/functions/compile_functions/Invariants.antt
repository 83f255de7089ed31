use Rattle.std.proofs.Common.{◌≡◌, ◌++◌, drop, length, map}
use Rattle.cilk_meaning.specs.Resolving.{resolved_function}
use Rattle.compiled_code.specs.Emitted.{functions_code, procs_at}
use Rattle.cilk_compiler.proofs.functions.compile_functions.Given as goal

-- with the code and the procedures of the functions that are left there are those of all
abbrev pub invariant-loop-function : goal.invariant-loop-function
invariant-loop-function l = record {
  globals : l.emitter.globals.now ≡ l.globals;
  code : l.emitter.instrs ++ functions_code (length l.emitter.instrs) (map (resolved_function l.globals) (drop l.function-index l.function-items)) ≡ functions_code 0 (map (resolved_function l.globals) l.function-items);
  procs : l.procs.items ++ procs_at (length l.emitter.instrs) (map (resolved_function l.globals) (drop l.function-index l.function-items)) ≡ procs_at 0 (map (resolved_function l.globals) l.function-items);
}
