-- What holds of the code of a program.
use Rattle.std.specs.Prelude.{◌<◌, ◌^◌, length}
use Rattle.cilk_meaning.specs.Resolved.{Program}
use Rattle.machine_code.specs.StandsFor.{StandsFor}
use Rattle.machine_code.specs.Valid.{IsValid, words_in}
use Rattle.compiled_code.specs.Emitted.{compiled}
use Rattle.compiled_code.specs.Safe.{KeepsValues}
use Rattle.compiled_code.specs.WellFormed.{IsWellFormed}

-- It is well formed where the program is, and no longer than a code may be.
abbrev pub CompiledIsValid : Type 0
CompiledIsValid = (program : Program) → IsWellFormed program → length (compiled program).instrs < 2 ^ 32 → words_in program.shared < 2 ^ 32 → IsValid (compiled program)

-- It stands for the program, which is well formed and uses no value before its sync.
abbrev pub CompiledStands : Type 0
CompiledStands = (program : Program) → IsWellFormed program → KeepsValues program → StandsFor (compiled program) program
