use Rattle.std.proofs.Common.{◌∙◌, ap}
use Rattle.cilk_meaning.specs.Resolving.{function_number}
use Rattle.cilk_compiler.proofs.Numbering.{function_is}
use Rattle.cilk_compiler.proofs.globals.Globals.function.Goals as goal

pub returns : goal.returns
returns c = c.number.ensures _ c.self.invariant.functions ∙ function_is c.self.inside.program.now c.args.name.now ∙ ap (λ program. function_number program c.args.name.now) c.self.view_is
