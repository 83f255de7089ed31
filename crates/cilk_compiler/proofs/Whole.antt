-- The procedures of functions, and the code of the whole program.
use Rattle.std.proofs.Common.{◌≡◌, ℕ, ℤ, ◌+◌, ◌<◌, ◌^◌, List, [], ◌∷◌, length, sym, ap, ◌∙◌, subst, arith}
use Rattle.std.specs.List.{fold}
use Rattle.std.specs.Prelude.{codes}
use Rattle.cilk_tree.specs.declared.tree.Function as source_function
use Rattle.cilk_tree.specs.declared.tree.Program as source_program
use Rattle.cilk_tree.specs.declared.tree.Shared.{Shared}
use Rattle.cilk_tree.specs.Lawful.Lawful.{IsLawful}
use Rattle.cilk_tree.specs.Lawful.Scope.{Point, declared}
use Rattle.cilk_meaning.specs.Resolved.{Extent}
use Rattle.cilk_meaning.specs.Resolving.{extents_from, function_number, resolved, resolved_function}
use Rattle.compiled_code.proofs.Validity.{compiled_is_valid}
use Rattle.compiled_code.specs.Emitted.{compiled, functions_code, proc_at, procs_at}
use Rattle.lawful_program.proofs.Formed.{lawful_is_well_formed}
use Rattle.lawful_program.proofs.Keeping.{lawful_code}
use Rattle.machine_code.specs.declared.code.Proc.{Proc}
use Rattle.machine_code.specs.declared.instr.Instr.{Instr}
use Rattle.machine_code.specs.Machine.{Code}
use Rattle.machine_code.specs.StandsFor.{StandsFor}
use Rattle.machine_code.specs.Valid.{IsValid, words_in}
use Rattle.cilk_compiler.specs.declared.emitter.Emitter.{Emitter}
use Rattle.cilk_compiler.specs.Emitting.{at_start, behind_all, functions_in, statements_in}

-- each parameter is a local
params_counted : (names : List (List ℕ)) (point : Point) → (fold declared point names).local ≡ point.local + length names
params_counted [] point = omega arith
params_counted (name ∷ names) point = let rest = params_counted names (declared point name) in omega (arith, rest)

-- the procedure of a function
pub proc_made : (old begun run ended : Emitter) (function : source_function.Function) (start params locals : ℕ)
    → start ≡ length old.instrs → begun ≡ at_start function old → params ≡ begun.locals.local → run ≡ behind_all (statements_in begun function.body) begun
    → ended.locals ≡ run.locals → ended.operands ≡ run.operands → locals ≡ ended.locals.local
    → record { «cilk» = function.«cilk»; start = start; params = params; locals = locals; operands = ended.operands } ≡ proc_at (length old.instrs) (resolved_function old.globals.now function)
proc_made old begun run ended function start params locals start_is begun_is params_is run_is ended_at ended_with locals_is =
    let all : run ≡ behind_all (statements_in old function.body) (at_start function old) = run_is ∙ ap (λ e. behind_all (statements_in e function.body) e) begun_is in
    let counted = params_counted function.params (record { statement = 0; local = 0; scope = [] }) in
    let none : 0 + length function.params ≡ length function.params = omega arith in
    λ i. record {
      «cilk» = function.«cilk»;
      start = start_is i;
      params = (params_is ∙ ap (λ (e : Emitter). e.locals.local) begun_is ∙ counted ∙ none) i;
      locals = (locals_is ∙ ap (λ (point : Point). point.local) ended_at ∙ ap (λ (e : Emitter). e.locals.local) all) i;
      operands = (ended_with ∙ ap (λ (e : Emitter). e.operands) all) i;
    }

-- the code that is made of the parts
pub code_made : (source program : source_program.Program) (procs : List Proc) (instrs : List Instr) (shared : List Extent) (main : ℕ) (input : List ℤ)
    → program ≡ source → procs ≡ procs_at 0 (functions_in program) → instrs ≡ functions_code 0 (functions_in program) → shared ≡ extents_from 0 source.shared
    → main ≡ function_number program (codes "main") → input ≡ []
    → record { procs = procs; instrs = instrs; shared = shared; main = main; input_base = 0; input = input } ≡ compiled (resolved source)
code_made source program procs instrs shared main input same procs_is instrs_is shared_is main_is input_is = λ i. record {
  procs = (procs_is ∙ ap (λ p. procs_at 0 (functions_in p)) same) i;
  instrs = (instrs_is ∙ ap (λ p. functions_code 0 (functions_in p)) same) i;
  shared = shared_is i;
  main = (main_is ∙ ap (λ p. function_number p (codes "main")) same) i;
  input_base = 0;
  input = input_is i;
}

-- it is well formed where it has few instructions, and stands for the program
pub code_is_valid : (source : source_program.Program) → IsLawful source → (code : Code) → code ≡ compiled (resolved source) → length code.instrs < 2 ^ 32 → IsValid code
code_is_valid source lawful code is few =
    let formed = lawful_is_well_formed source lawful in
    let words = formed.1 in
    subst IsValid (sym is) (compiled_is_valid (resolved source) formed.0 (subst (λ (c : Code). length c.instrs < 2 ^ 32) is few) (omega arith))

pub code_stands : (source : source_program.Program) → IsLawful source → (code : Code) → code ≡ compiled (resolved source) → StandsFor code (resolved source)
code_stands source lawful code is = subst (λ c. StandsFor c (resolved source)) (sym is) (lawful_code source lawful)

-- its arrays have few words
pub few_words : (source : source_program.Program) → IsLawful source → (arrays : List Shared) → arrays ≡ source.shared → words_in (extents_from 0 arrays) < 2 ^ 32
few_words source lawful arrays is =
    let few = (lawful_is_well_formed source lawful).1 in
    subst (λ l. words_in (extents_from 0 l) < 2 ^ 32) (sym is) (omega (arith, few))
