use Rattle.std.proofs.Common.{◌+◌, ◌≤◌, length, sym, subst}
use Rattle.machine_code.specs.Machine.{Code}
use Rattle.machine_code.specs.Valid.{words_in}
use Rattle.machine_code.proofs.code.Code.set_input.Goals as goal

-- src/code.rt:62:5
pub invariant_of-self : goal.invariant_of-self
invariant_of-self c =
    let valid = c.self.invariant in
    record {
      shapes = valid.shapes;
      procs = valid.procs;
      instrs = valid.instrs;
      forward = valid.forward;
      main = valid.main;
      arrays = valid.arrays;
      input = subst (λ (code : Code). c.args.base + length c.args.numbers ≤ words_in code.shared) (sym c.self.view_is) c.requires.inside;
      few_instrs = valid.few_instrs;
      few_words = valid.few_words;
    }
