-- The stack machine: what each instruction does, and what a frame wants for a list of answers.
use Rattle.std.specs.Prelude.{ℕ, zero, suc, ◌+◌, ◌-◌, ◌*◌, ◌==◌, ℤ, pos, ◌+ℤ◌, Bool, false, not, if◌then◌else◌, Option, Some, None, Result, Ok, Err, List, [], ◌∷◌, ◌++◌, length, take, drop, reverse, replicate, slice_get, slice_set}
use Rattle.cilk_tree.specs.declared.tree.BinaryOp.{BinaryOp}
use Rattle.cilk_tree.specs.declared.tree.BinaryOp.TheVariants as op
use Rattle.cilk_tree.specs.declared.tree.UnaryOp.{UnaryOp}
use Rattle.cilk_tree.specs.declared.tree.UnaryOp.TheVariants as unary_op
use Rattle.cilk_meaning.specs.declared.ends.TrapKind.{TrapKind}
use Rattle.cilk_meaning.specs.declared.ends.TrapKind.TheVariants.{Overflow, TooDeep}
use Rattle.cilk_meaning.specs.Instance.{Meaning, limits}
use Rattle.cilk_meaning.specs.Locals.{Locals, local_at, deposited, extent_of}
use Rattle.cilk_meaning.specs.Resolved.{Extent}
use Rattle.cilk_meaning.specs.Values.{fits, is_zero, negated, operated, word_of}
use Rattle.cilk_meaning.specs.Wants as want
use Rattle.cilk_meaning.specs.Wants.{Request, Want, Asks, Returns, Traps, Deposit, Answer, Value, Children, Done}
use Rattle.machine_code.specs.declared.code.Proc.{Proc}
use Rattle.machine_code.specs.declared.instr.Instr.{Instr}
use Rattle.machine_code.specs.declared.instr.Instr.TheVariants as instr

-- What contracts see of a code.
pub record Code : Type 0 where
  pub procs : List Proc
  pub instrs : List Instr
  pub shared : List Extent
  pub main : ℕ
  pub input_base : ℕ
  pub input : List ℤ

-- A function that runs or waits for one that it called: the place of its next instruction, its locals, its operands, the top first,
-- and how many of these it has room for.
pub record Activation : Type 0 where
  pub pc : ℕ
  pub locals : Locals
  pub operands : List ℤ
  pub room : ℕ

-- A frame: the function that runs, the open plain calls behind it, the last one first, how deep the instance is, and whether the sum
-- of its last add was no value.
pub record Frame : Type 0 where
  pub running : Activation
  pub callers : List Activation
  pub depth : ℕ
  pub overflowed : Bool

-- What the next instruction does: it goes on, makes a request and goes on where an answer leads, ends the instance, or finds no operand
-- or no place, which no frame of a valid code does.
pub data Move : Type 0 where
  GoesOn : (frame : Frame) → Move
  Requests : (request : Request) (next : Answer → Option Frame) → Move
  Ends : (want : Want) → Move
  Stuck : Move

-- the frame at the next instruction, or at another one, with these operands
abbrev pub moved : Frame → ℕ → List ℤ → Frame
moved frame pc operands = record frame { running = record frame.running { pc = pc; operands = operands } }

abbrev pub next_with : Frame → List ℤ → Frame
next_with frame operands = moved frame (suc frame.running.pc) operands

-- and with these locals
abbrev pub stored : Frame → Locals → List ℤ → Frame
stored frame locals operands = record frame { running = record frame.running { pc = suc frame.running.pc; locals = locals; operands = operands } }

abbrev pub popping : List ℤ → (ℤ → List ℤ → Move) → Move
popping [] next = Stuck
popping (v ∷ operands) next = next v operands

-- goes on with a value, or traps
abbrev pub given : {A : Type 0} → Result A TrapKind → (A → Move) → Move
given (Ok v) next = next v
given (Err kind) next = Ends (Traps kind)

-- traps where the limit is reached
abbrev pub limited : ℕ → ℕ → Move → Move
limited limit reached next = if reached == limit then Ends (Traps TooDeep) else next

abbrev pub on_value : (ℤ → Frame) → Answer → Option Frame
on_value next (Value v) = Some (next v)
on_value next (Children deposits) = None
on_value next Done = None

abbrev pub on_children : (List Deposit → Frame) → Answer → Option Frame
on_children next (Value v) = None
on_children next (Children deposits) = Some (next deposits)
on_children next Done = None

abbrev pub on_done : Frame → Answer → Option Frame
on_done next (Value v) = None
on_done next (Children deposits) = None
on_done next Done = Some next

abbrev pub with_proc : Option Proc → (Proc → Move) → Move
with_proc None next = Stuck
with_proc (Some proc) next = next proc

abbrev pub binary : Frame → BinaryOp → Move
binary f operator = popping f.running.operands (λ y below. popping below (λ x rest. given (operated operator x y) (λ v. GoesOn (next_with f (v ∷ rest)))))

abbrev pub unary : Frame → UnaryOp → Move
unary f operator = popping f.running.operands (λ x rest. given (negated operator x) (λ v. GoesOn (next_with f (v ∷ rest))))

-- a procedure at its start, with these locals
abbrev pub activation : Proc → Locals → Activation
activation proc arguments = record {
  pc = proc.start;
  locals = arguments ++ replicate (proc.locals - proc.params) (pos 0);
  operands = [];
  room = proc.operands;
}

-- the arguments of a function of so many parameters: the last one is the top
abbrev pub arguments_on : ℕ → List ℤ → List ℤ
arguments_on params operands = reverse (take params operands)

-- the called function runs, and its caller waits without the arguments
abbrev pub called : Frame → Proc → Frame
called f proc = record f {
  running = activation proc (arguments_on proc.params f.running.operands);
  callers = record f.running { pc = suc f.running.pc; operands = drop proc.params f.running.operands } ∷ f.callers;
}

-- a value goes back to the last caller, or is what the instance returns
abbrev pub returned : Frame → ℤ → List Activation → Move
returned f v [] = Ends (Returns v)
returned f v (caller ∷ callers) = GoesOn (record f { running = record caller { operands = v ∷ caller.operands }; callers = callers })

-- behind an add: where the sum is no value, the frame traps
abbrev pub added : Frame → ℤ → List ℤ → ℤ → Frame
added f addend rest old = record (next_with f (old ∷ rest)) { overflowed = not (fits (old +ℤ addend)) }

-- What the instruction does.
abbrev pub act : Code → Frame → Option Instr → Move
act code f None = Stuck
act code f (Some (instr.Const v)) = GoesOn (next_with f (v ∷ f.running.operands))
act code f (Some (instr.Load k)) = GoesOn (next_with f (local_at f.running.locals k ∷ f.running.operands))
act code f (Some (instr.Store k)) = popping f.running.operands (λ v rest. GoesOn (stored f (slice_set f.running.locals k v) rest))
act code f (Some instr.Pop) = popping f.running.operands (λ v rest. GoesOn (next_with f rest))
act code f (Some instr.Add) = binary f op.Add
act code f (Some instr.Sub) = binary f op.Sub
act code f (Some instr.Mul) = binary f op.Mul
act code f (Some instr.Div) = binary f op.Div
act code f (Some instr.Rem) = binary f op.Rem
act code f (Some instr.Neg) = unary f unary_op.Neg
act code f (Some instr.Not) = unary f unary_op.Not
act code f (Some instr.Eq) = binary f op.Eq
act code f (Some instr.Ne) = binary f op.Ne
act code f (Some instr.Lt) = binary f op.Lt
act code f (Some instr.Le) = binary f op.Le
act code f (Some instr.Gt) = binary f op.Gt
act code f (Some instr.Ge) = binary f op.Ge
act code f (Some (instr.Jump to)) = GoesOn (moved f to f.running.operands)
act code f (Some (instr.JumpIfZero to)) =
    popping f.running.operands (λ v rest. GoesOn (moved f (if is_zero v then to else suc f.running.pc) rest))
act code f (Some (instr.ReadShared array)) =
    popping f.running.operands (λ i rest.
    given (word_of (extent_of code.shared array) i) (λ word. Requests (want.Read word) (on_value (λ v. next_with f (v ∷ rest)))))
act code f (Some (instr.WriteShared array)) =
    popping f.running.operands (λ v below. popping below (λ i rest.
    given (word_of (extent_of code.shared array) i) (λ word. Requests (want.Write word v) (on_done (next_with f rest)))))
act code f (Some (instr.AddShared array)) =
    popping f.running.operands (λ addend below. popping below (λ i rest.
    given (word_of (extent_of code.shared array) i) (λ word. Requests (want.Add word addend) (on_value (added f addend rest)))))
act code f (Some instr.PrintTop) = popping f.running.operands (λ v rest. Requests (want.Print v) (on_done (next_with f rest)))
act code f (Some instr.Turn) = Requests want.LoopTurn (on_done (next_with f f.running.operands))
act code f (Some (instr.Call procedure)) =
    with_proc (slice_get code.procs procedure) (λ proc.
    limited limits.calls (length f.callers) (Requests want.Call (on_done (called f proc))))
act code f (Some (instr.Spawn procedure target)) =
    with_proc (slice_get code.procs procedure) (λ proc.
    limited limits.depth f.depth
    (Requests (want.Spawn target procedure (arguments_on proc.params f.running.operands)) (on_done (next_with f (drop proc.params f.running.operands)))))
act code f (Some instr.SyncAll) =
    Requests want.Sync (on_children (λ deposits. stored f (deposited deposits f.running.locals) f.running.operands))
act code f (Some instr.Return) = popping f.running.operands (λ v rest. returned f v f.callers)

-- What the frame does next.
abbrev pub look : Code → Frame → Move
look code frame = if frame.overflowed then Ends (Traps Overflow) else act code frame (slice_get code.instrs frame.running.pc)

abbrev pub go_on : Move → (Frame → Move) → Move
go_on (GoesOn frame) next = next frame
go_on (Requests request follows) next = Requests request follows
go_on (Ends want) next = Ends want
go_on Stuck next = Stuck

-- at most so many instructions
abbrev pub settle : Code → ℕ → Frame → Move
settle code zero frame = Stuck
settle code (suc n) frame = go_on (look code frame) (settle code n)

-- In a valid code no more instructions than these lie before the next want: the last ones of each open call, since a jump back goes to
-- a test of a loop.
abbrev pub remaining : Code → Frame → ℕ
remaining code frame = length frame.callers * suc (length code.instrs) + (length code.instrs - frame.running.pc)

-- What the frame wants next.
abbrev pub settled : Code → Frame → Move
settled code frame = settle code (suc (suc (remaining code frame))) frame

-- the want, where no answer is left
abbrev pub last_want : Move → List Want
last_want (GoesOn frame) = []
last_want (Requests request follows) = Asks request ∷ []
last_want (Ends want) = want ∷ []
last_want Stuck = []

abbrev pub resumed : Option Frame → (Frame → List Want) → List Want
resumed None next = []
resumed (Some frame) next = next frame

-- the want and what follows this answer
abbrev pub want_and : Move → Answer → (Frame → List Want) → List Want
want_and (GoesOn frame) answer next = []
want_and (Requests request follows) answer next = Asks request ∷ resumed (follows answer) next
want_and (Ends want) answer next = want ∷ []
want_and Stuck answer next = []

abbrev pub wants_for : Code → List Answer → Frame → List Want
wants_for code [] frame = last_want (settled code frame)
wants_for code (answer ∷ answers) frame = want_and (settled code frame) answer (wants_for code answers)

-- What a frame wants, for some answers.
abbrev pub wants : Code → Frame → Meaning
wants code frame answers = wants_for code answers frame

-- the frame that starts a procedure
abbrev pub start_frame : Proc → List ℤ → ℕ → Frame
start_frame proc arguments depth = record { running = activation proc arguments; callers = []; depth = depth; overflowed = false }

abbrev pub starts_at : Code → ℕ → Option Proc → List ℤ → Meaning
starts_at code depth None arguments answers = Returns (pos 0) ∷ []
starts_at code depth (Some proc) arguments answers = wants code (start_frame proc arguments depth) answers

-- What a procedure at this depth and with these arguments wants; one that the code has not gives 0, as in a program.
abbrev pub starts : Code → ℕ → ℕ → List ℤ → Meaning
starts code depth procedure arguments answers = starts_at code depth (slice_get code.procs procedure) arguments answers
