-- When a code stands for a program.
use Rattle.std.specs.Prelude.{◌≡◌, ℕ, ℤ, Bool, map}
use Rattle.cilk_meaning.specs.Instance as instance
use Rattle.cilk_meaning.specs.Resolved.{Program, Function}
use Rattle.cilk_meaning.specs.World.{start_words}
use Rattle.machine_code.specs.Early.{TakesEarly}
use Rattle.machine_code.specs.Machine.{Code, starts}
use Rattle.machine_code.specs.declared.code.Proc.{Proc}

-- what is seen of a function without its body
pub record Header : Type 0 where
  pub «cilk» : Bool
  pub params : ℕ
  pub locals : ℕ

abbrev pub header_of_function : Function → Header
header_of_function function = record { «cilk» = function.«cilk»; params = function.params; locals = function.locals }

abbrev pub header_of_proc : Proc → Header
header_of_proc proc = record { «cilk» = proc.«cilk»; params = proc.params; locals = proc.locals }

-- The code has the main, the arrays and the procedures of the program; for every depth, procedure, arguments and answers it wants what the
-- program wants; and a value that comes before its sync changes no want before that sync.
pub record StandsFor (code : Code) (program : Program) : Type 0 where
  pub main : code.main ≡ program.main
  pub arrays : code.shared ≡ program.shared
  pub procedures : map header_of_proc code.procs ≡ map header_of_function program.functions
  pub wants : starts code ≡ instance.wants program
  pub early : TakesEarly code

-- the start word of each shared word of the code
abbrev pub start_words_of : Code → ℕ → ℤ
start_words_of code = start_words code.input_base code.input
