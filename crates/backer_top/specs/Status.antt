-- The numbers and the lines of the statuses.
use Rattle.std.specs.Prelude.{◌≡◌, ℕ, Bool, true, false, List, [], ◌∷◌, ◌++◌, codes, slice_get}
use Rattle.std.specs.Fmt.{decimal}
use Rattle.std.specs.Option.{option_map_or}
use Rattle.cilk_meaning.specs.declared.ends.TrapKind.{TrapKind}
use Rattle.cilk_meaning.specs.declared.ends.TrapKind.TheVariants.{DivideByZero, IndexOutOfRange, Overflow, TooDeep}
use Rattle.cilk_tree.specs.declared.place.CheckPlace.{CheckPlace}
use Rattle.cilk_tree.specs.declared.place.CheckPlace.TheVariants.{Shared, Function, Statement, Whole}
use Rattle.cilk_tree.specs.declared.tree.Program.{Program}
use Rattle.backer_top.specs.declared.status.SourceRefusal.TheVariants.{TooLong, Read, Check}
use Rattle.backer_top.specs.declared.status.Status.{Status}
use Rattle.backer_top.specs.declared.status.Status.TheVariants.{Done, Words, Source, ReadFault, WriteFault, Trap, Budget, Race, Memory}

abbrev pub status_number : Status → ℕ
status_number Done = 0
status_number Words = 1
status_number (Source refusal) = 2
status_number ReadFault = 3
status_number WriteFault = 4
status_number (Trap kind node) = 5
status_number (Budget node) = 6
status_number (Race found) = 7
status_number Memory = 8

-- What was asked for is shown on `out`, and nothing is told on `err`.
abbrev pub is_shown : Status → Bool
is_shown Done = true
is_shown (Race found) = true
is_shown Words = false
is_shown (Source refusal) = false
is_shown ReadFault = false
is_shown WriteFault = false
is_shown (Trap kind node) = false
is_shown (Budget node) = false
is_shown Memory = false

abbrev pub trap_name : TrapKind → List ℕ
trap_name DivideByZero = codes "DivideByZero"
trap_name IndexOutOfRange = codes "IndexOutOfRange"
trap_name Overflow = codes "Overflow"
trap_name TooDeep = codes "TooDeep"

-- the name of the array of this number
abbrev pub array_name : Program → ℕ → List ℕ
array_name program number = option_map_or (λ array. array.name) (slice_get program.shared number) []

-- the name of the function of this number
abbrev pub function_name : Program → ℕ → List ℕ
function_name program number = option_map_or (λ function. function.name) (slice_get program.functions number) []

abbrev pub function_words : Program → ℕ → List ℕ
function_words program function = codes "function " ++ function_name program function

abbrev pub statement_words : ℕ → List ℕ
statement_words statement = codes " statement " ++ decimal statement

-- a place of a program in words
abbrev pub place_words : Program → CheckPlace → List ℕ
place_words program (Shared array) = codes "array " ++ array_name program array
place_words program (Function function) = function_words program function
place_words program (Statement function statement) = function_words program function ++ statement_words statement
place_words program Whole = codes "program"

-- what a status says, after the name of `backer`; a rule that is broken is told with the names of the source's program
abbrev pub error_words : Program → Status → List ℕ
error_words program Done = []
error_words program (Race found) = []
error_words program Words = codes "words refused"
error_words program (Source TooLong) = codes "source refused: too long"
error_words program (Source (Read kind offset)) = codes "source refused: " ++ decimal kind ++ codes " at byte " ++ decimal offset
error_words program (Source (Check kind place)) = codes "source refused: " ++ decimal kind ++ codes " in " ++ place_words program place
error_words program ReadFault = codes "read failed"
error_words program WriteFault = codes "write failed"
error_words program (Trap kind node) = codes "trap " ++ trap_name kind ++ codes " on node " ++ decimal node
error_words program (Budget node) = codes "budget spent on node " ++ decimal node
error_words program Memory = codes "out of memory"

-- the line that tells a status, ended by byte 10; none tells one that is shown on `out`
abbrev pub error_line : Program → Status → List ℕ
error_line program Done = []
error_line program (Race found) = []
error_line program status = codes "backer: " ++ error_words program status ++ 10 ∷ []

-- its line is the same each time: one without numbers and names, or one that names node 0
abbrev pub HasFixedLine : Status → Type 0
HasFixedLine (Source TooLong) = Unit {0}
HasFixedLine (Source (Read kind offset)) = ⊥
HasFixedLine (Source (Check kind place)) = ⊥
HasFixedLine (Trap kind node) = node ≡ 0
HasFixedLine (Budget node) = node ≡ 0
HasFixedLine (Race found) = Unit {0}
HasFixedLine Done = Unit {0}
HasFixedLine Words = Unit {0}
HasFixedLine ReadFault = Unit {0}
HasFixedLine WriteFault = Unit {0}
HasFixedLine Memory = Unit {0}
