-- How one frame came to be from another.
use Rattle.std.specs.Prelude.{◌≡◌, ℕ, suc, ◌+◌, ◌-◌, ◌<◌, ◌≤◌, ◌^◌, true, Option, Some, None, List, [], ◌∷◌, ◌++◌, length, replicate, slice_get}
use Rattle.cilk_meaning.specs.Alone.{Block, block_after}
use Rattle.cilk_meaning.specs.Wants as wanted
use Rattle.cilk_meaning.specs.Wants.{Request, suits}
use Rattle.machine_code.specs.Early.{Steps, Answered, after_events}
use Rattle.machine_code.specs.Machine.{Code, Activation, Frame, Move, GoesOn, Requests, Ends, Stuck}
use Rattle.machine_code.specs.Valid.{params_of}
use Rattle.machine_code.specs.declared.code.Proc.{Proc}
use Rattle.machine_code.specs.declared.instr.Instr.{Instr}
use Rattle.machine_code.specs.declared.instr.Instr.TheVariants.{Call, Spawn}
use Rattle.plain_machine.specs.Shown.{shown_request, shown_want, meant}
use Rattle.plain_machine.specs.declared.want.Answer.{Answer}
use Rattle.plain_machine.specs.declared.want.Want.{Want}
use Rattle.plain_machine.specs.declared.want.Want.TheVariants as want

-- Some instructions that ask for nothing led from one frame to the other, whatever children are out.
pub record HasStepped (code : Code) (old new : Frame) : Type 0 where
  pub count : ℕ
  pub comes : (block : Block) → after_events code (replicate count Steps) (record { frame = old; block = block }) ≡ Some (record { frame = new; block = block })

-- Some such instructions led to the request, and the answer to the other frame.
pub record HasResumed (code : Code) (request : Request) (answer : wanted.Answer) (old new : Frame) : Type 0 where
  pub count : ℕ
  pub comes : (block : Block) → after_events code (replicate count Steps ++ Answered answer ∷ []) (record { frame = old; block = block })
      ≡ Some (record { frame = new; block = block_after request block })

-- what a frame wants that goes no further
abbrev pub asked : Move → Option Want
asked (GoesOn frame) = None
asked (Requests request follows) = Some (shown_request request)
asked (Ends want) = Some (shown_want want)
asked Stuck = None

-- A step that finds this move goes on, or stays and says what the frame wants.
abbrev pub Makes : Move → Frame → Frame → Option Want → Type 0
Makes move old new None = move ≡ GoesOn new
Makes move old new (Some want) = (new ≡ old) × (asked move ≡ Some want)

-- The function has operands that an instruction takes, room for those that it puts on, and a place behind it.
pub record IsReady (takes puts : ℕ) (activation : Activation) : Type 0 where
  pub operands : takes ≤ length activation.operands
  pub room : puts + (length activation.operands - takes) ≤ activation.room
  pub next : suc activation.pc < 2 ^ 32

-- where the answer leads
abbrev pub led_to : Move → Answer → Option Frame
led_to (GoesOn frame) answer = None
led_to (Requests request follows) answer = follows (meant request answer)
led_to (Ends want) answer = None
led_to Stuck answer = None

-- A request that gets the answer, and goes on with it.
abbrev pub Resumes : Move → Answer → Type 0
Resumes (GoesOn frame) answer = ⊥
Resumes (Requests request follows) answer = suits request (meant request answer) ≡ true
Resumes (Ends want) answer = ⊥
Resumes Stuck answer = ⊥

-- the last caller has room for the value of the call
abbrev pub CanReceive : List Activation → Type 0
CanReceive [] = Unit {0}
CanReceive (caller ∷ callers) = length caller.operands < caller.room

-- the procedure that an instruction names, if it does, is one of the code
abbrev pub NamesProc : List Proc → Instr → Type 0
NamesProc procs (Call procedure) = procedure < length procs
NamesProc procs (Spawn procedure target) = procedure < length procs
NamesProc procs _ = Unit {0}

-- how many parameters the procedure has that a want spawns, if it does
abbrev pub child_params : List Proc → Want → ℕ
child_params procs (want.Spawn procedure target) = params_of (slice_get procs procedure)
child_params procs _ = 0

-- and that it is one of the code
abbrev pub NamesChild : List Proc → Want → Type 0
NamesChild procs (want.Spawn procedure target) = procedure < length procs
NamesChild procs _ = Unit {0}
