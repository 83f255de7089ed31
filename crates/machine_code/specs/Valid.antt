-- Codes that are well formed: no step is stuck or leaves its procedure but by a call or a return.
use Rattle.std.specs.Prelude.{◌≡◌, ◌⊎◌, ℕ, suc, ◌+◌, ◌<◌, ◌≤◌, ◌^◌, Bool, true, false, Option, Some, None, List, [], ◌∷◌, length, map, slice_get}
use Rattle.cilk_meaning.specs.Resolved as resolved
use Rattle.machine_code.specs.Machine.{Code}
use Rattle.machine_code.specs.declared.code.Extent.{Extent}
use Rattle.machine_code.specs.declared.code.Proc.{Proc}
use Rattle.machine_code.specs.declared.instr.Instr.{Instr}
use Rattle.machine_code.specs.declared.instr.Instr.TheVariants.{Const, Load, Store, Pop, Add, Sub, Mul, Div, Rem, Neg, Not, Eq, Ne, Lt, Le, Gt, Ge, Jump, JumpIfZero, ReadShared, WriteShared, AddShared, PrintTop, Turn, Call, Spawn, SyncAll, Return}

abbrev pub extents : List Extent → List resolved.Extent
extents shared = map (λ extent. record { base = extent.base; words = extent.words }) shared

-- how many words the arrays have together
abbrev pub words_in : List resolved.Extent → ℕ
words_in [] = 0
words_in (first ∷ rest) = first.words + words_in rest

-- the arrays lie one behind another from this word on
abbrev pub AreInOrder : ℕ → List resolved.Extent → Type 0
AreInOrder base [] = Unit {0}
AreInOrder base (first ∷ rest) = (first.base ≡ base) × AreInOrder (base + first.words) rest

-- how many parameters a procedure has
abbrev pub params_of : Option Proc → ℕ
params_of None = 0
params_of (Some proc) = proc.params

-- how many operands an instruction takes off
abbrev pub takes : List Proc → Instr → ℕ
takes procs (Const v) = 0
takes procs (Load k) = 0
takes procs (Store k) = 1
takes procs Pop = 1
takes procs Add = 2
takes procs Sub = 2
takes procs Mul = 2
takes procs Div = 2
takes procs Rem = 2
takes procs Neg = 1
takes procs Not = 1
takes procs Eq = 2
takes procs Ne = 2
takes procs Lt = 2
takes procs Le = 2
takes procs Gt = 2
takes procs Ge = 2
takes procs (Jump to) = 0
takes procs (JumpIfZero to) = 1
takes procs (ReadShared array) = 1
takes procs (WriteShared array) = 2
takes procs (AddShared array) = 2
takes procs PrintTop = 1
takes procs Turn = 0
takes procs (Call procedure) = params_of (slice_get procs procedure)
takes procs (Spawn procedure target) = params_of (slice_get procs procedure)
takes procs SyncAll = 0
takes procs Return = 1

-- and how many it then puts on, where control goes on behind it
abbrev pub puts : Instr → ℕ
puts (Store k) = 0
puts Pop = 0
puts (Jump to) = 0
puts (JumpIfZero to) = 0
puts (WriteShared array) = 0
puts PrintTop = 0
puts Turn = 0
puts (Spawn procedure target) = 0
puts SyncAll = 0
puts Return = 0
puts _ = 1

-- where an instruction jumps to, if it may
abbrev pub jumps_to : Instr → Option ℕ
jumps_to (Jump to) = Some to
jumps_to (JumpIfZero to) = Some to
jumps_to _ = None

-- control may go on behind the instruction
abbrev pub goes_behind : Instr → Bool
goes_behind (Jump to) = false
goes_behind Return = false
goes_behind _ = true

-- there is this procedure, of this kind
abbrev pub IsProc : List Proc → ℕ → Bool → Type 0
IsProc procs procedure kind = (proc : Proc) × (slice_get procs procedure ≡ Some proc) × (proc.«cilk» ≡ kind)

abbrev pub IsLocal : Proc → Option ℕ → Type 0
IsLocal proc None = Unit {0}
IsLocal proc (Some local) = local < proc.locals

-- Where there are these procedures and so many arrays, the numbers in the instruction are in range, and it may stand in this procedure.
abbrev pub IsInRange : List Proc → ℕ → Proc → Instr → Type 0
IsInRange procs arrays proc (Load k) = k < proc.locals
IsInRange procs arrays proc (Store k) = k < proc.locals
IsInRange procs arrays proc (ReadShared array) = array < arrays
IsInRange procs arrays proc (WriteShared array) = array < arrays
IsInRange procs arrays proc (AddShared array) = array < arrays
IsInRange procs arrays proc (Call procedure) = IsProc procs procedure false
IsInRange procs arrays proc (Spawn procedure target) = (proc.«cilk» ≡ true) × IsProc procs procedure true × IsLocal proc target
IsInRange procs arrays proc SyncAll = proc.«cilk» ≡ true
IsInRange procs arrays proc _ = Unit {0}

-- What holds of control at a place: which procedure it is in, and how many operands there are.
pub record Shape : Type 0 where
  pub procedure : ℕ
  pub operands : ℕ

-- Control of this procedure may come to a place with so many operands: it is expected so there, and there is room for them.
pub record Leads (instrs : List Instr) (shapes : ℕ → Shape) (procedure : ℕ) (proc : Proc) (operands to : ℕ) : Type 0 where
  pub inside : to < length instrs
  pub expected : shapes to ≡ record { procedure = procedure; operands = operands }
  pub room : operands ≤ proc.operands

-- A jump goes forward, or to a test of a loop.
abbrev pub IsForward : List Instr → ℕ → ℕ → Type 0
IsForward instrs at to = (at < to) ⊎ (slice_get instrs to ≡ Some Turn)

-- Each jump does.
abbrev pub GoesForward : List Instr → Type 0
GoesForward instrs = (at to : ℕ) (instr : Instr) → slice_get instrs at ≡ Some instr → jumps_to instr ≡ Some to → IsForward instrs at to

-- The instruction at a place of this procedure does no harm: it takes operands that are there, and leads on with those that it leaves.
pub record IsFine (procs : List Proc) (instrs : List Instr) (arrays : ℕ) (shapes : ℕ → Shape) (at : ℕ) (proc : Proc) (instr : Instr) : Type 0 where
  pub in_range : IsInRange procs arrays proc instr
  pub below : ℕ
  pub taken : (shapes at).operands ≡ takes procs instr + below
  pub behind : goes_behind instr ≡ true → Leads instrs shapes (shapes at).procedure proc (puts instr + below) (suc at)
  pub jumps : (to : ℕ) → jumps_to instr ≡ Some to → Leads instrs shapes (shapes at).procedure proc (puts instr + below) to

-- A procedure starts without operands, and its parameters are among its locals.
pub record IsSound (instrs : List Instr) (shapes : ℕ → Shape) (procedure : ℕ) (proc : Proc) : Type 0 where
  pub starts : Leads instrs shapes procedure proc 0 proc.start
  pub params : proc.params ≤ proc.locals

-- A well formed code: some shapes fit its places, and its jumps go forward; its `main` takes no arguments; its arrays lie one behind
-- another from word 0 on; and the input lies in them.
pub record IsValid (code : Code) : Type 0 where
  pub shapes : ℕ → Shape
  pub procs : (procedure : ℕ) (proc : Proc) → slice_get code.procs procedure ≡ Some proc → IsSound code.instrs shapes procedure proc
  pub instrs : (at : ℕ) (proc : Proc) (instr : Instr) → slice_get code.procs (shapes at).procedure ≡ Some proc → slice_get code.instrs at ≡ Some instr →
      IsFine code.procs code.instrs (length code.shared) shapes at proc instr
  pub forward : GoesForward code.instrs
  pub main : (proc : Proc) × (slice_get code.procs code.main ≡ Some proc) × (proc.params ≡ 0)
  pub arrays : AreInOrder 0 code.shared
  pub input : code.input_base + length code.input ≤ words_in code.shared
  pub few_instrs : length code.instrs < 2 ^ 32
  pub few_words : words_in code.shared < 2 ^ 32
