use Rattle.std.proofs.Common.{◌∙◌, ap}
use Rattle.cilk_meaning.specs.Resolving.{array_number}
use Rattle.cilk_compiler.proofs.Numbering.{array_is}
use Rattle.cilk_compiler.proofs.globals.Globals.array.Goals as goal

pub returns : goal.returns
returns c = c.number.ensures _ c.self.invariant.arrays ∙ array_is c.self.inside.program.now c.args.name.now ∙ ap (λ program. array_number program c.args.name.now) c.self.view_is
