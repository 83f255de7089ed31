use Rattle.std.proofs.Common.{◌∙◌, ap, subst, sym, length, ◌<◌, ◌^◌}
use Rattle.machine_code.specs.Valid.{extents}
use Rattle.cilk_meaning.specs.Resolving.{extents_from}
use Rattle.cilk_tree.specs.declared.tree.Program.{Program}
use Rattle.cilk_compiler.proofs.Whole.{code_made, code_is_valid, code_stands, few_words}
use Rattle.cilk_compiler.proofs.program.compile.Goals as goal

pub lay_out-requires : goal.lay_out-requires
lay_out-requires c =
    few_words c.args.checked.now c.program-program.ensures.lawful c.as_slice.result.now (c.as_slice.ensures ∙ ap (λ (p : Program). p.shared) c.program-program.ensures.same)

pub invariant_of-result : goal.invariant_of-result
invariant_of-result c =
    let source = c.args.checked.now in
    let same = c.in_ok-globals.ensures ∙ c.program-program.ensures.same in
    let shared = c.in_ok-shared.ensures ∙ ap (extents_from 0) c.as_slice.ensures ∙ ap (λ (p : Program). extents_from 0 p.shared) c.program-program.ensures.same in
    let code = code_made source c.in_ok-globals.globals c.in_ok-procs.procs.items c.into_vec.result.items (extents c.in_ok-shared.shared.items) c.function.result c.new-2.result
    same c.in_ok-procs.ensures.procs (c.into_vec.ensures.items ∙ c.in_ok-procs.ensures.instrs) shared c.function.ensures c.new-2.ensures in
    code_is_valid source c.program-program.ensures.lawful _ code (subst (λ l. length l < 2 ^ 32) (sym c.into_vec.ensures.items) c.into_vec.ensures.few)

pub returns-clause-stands : goal.returns-clause-stands
returns-clause-stands c =
    let source = c.args.checked.now in
    let same = c.in_ok-globals.ensures ∙ c.program-program.ensures.same in
    let shared = c.in_ok-shared.ensures ∙ ap (extents_from 0) c.as_slice.ensures ∙ ap (λ (p : Program). extents_from 0 p.shared) c.program-program.ensures.same in
    let code = code_made source c.in_ok-globals.globals c.in_ok-procs.procs.items c.into_vec.result.items (extents c.in_ok-shared.shared.items) c.function.result c.new-2.result
    same c.in_ok-procs.ensures.procs (c.into_vec.ensures.items ∙ c.in_ok-procs.ensures.instrs) shared c.function.ensures c.new-2.ensures in
    code_stands source c.program-program.ensures.lawful _ code
