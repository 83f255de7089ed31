-- The numbers of the traps.
use Rattle.std.specs.Prelude.{ℕ}
use Rattle.cilk_meaning.specs.declared.ends.TrapKind.{TrapKind}
use Rattle.cilk_meaning.specs.declared.ends.TrapKind.TheVariants.{DivideByZero, IndexOutOfRange, Overflow, TooDeep}

abbrev pub trap_number : TrapKind → ℕ
trap_number DivideByZero = 1
trap_number IndexOutOfRange = 2
trap_number Overflow = 3
trap_number TooDeep = 4
