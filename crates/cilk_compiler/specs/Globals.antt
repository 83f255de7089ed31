-- The tables of arrays and functions.
use Rattle.cilk_compiler.specs.declared.globals.Globals.TheInside.{Inside}
use Rattle.cilk_compiler.specs.Numbering.{IsNumbering, array_names, function_names}

-- they are those of the program
pub record IsComplete (globals : Inside) : Type 0 where
  pub arrays : IsNumbering globals.arrays (array_names globals.program.now)
  pub functions : IsNumbering globals.functions (function_names globals.program.now)
