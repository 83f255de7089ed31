-- What contracts see of a frame, and the words of the calls in the words of the meaning.
use Rattle.std.specs.Prelude.{◌≡◌, ℤ, true, Some, List, []}
use Rattle.cilk_meaning.specs.Serve.{now}
use Rattle.cilk_meaning.specs.Wants.{Request, Read, Write, Add, Print, Spawn, Sync, Call, LoopTurn, Want, Asks, Returns, Traps, Value, Children, Done, suits}
use Rattle.cilk_meaning.specs.Wants as wanted
use Rattle.machine_code.specs.Machine.{Code, Frame, wants}
use Rattle.plain_machine.specs.declared.want.Answer.{Answer}
use Rattle.plain_machine.specs.declared.want.Answer.TheVariants as given
use Rattle.plain_machine.specs.declared.want.Want.TheVariants as shown
use Rattle.plain_machine.specs.declared.want.Want as declared

-- A frame, and the arguments of the child for whose spawn it was last asked; there are none otherwise.
pub record Shown : Type 0 where
  pub frame : Frame
  pub arguments : List ℤ

abbrev pub shown_request : Request → declared.Want
shown_request (Read word) = shown.Read word
shown_request (Write word value) = shown.Write word value
shown_request (Add word addend) = shown.Add word addend
shown_request (Print value) = shown.Print value
shown_request (Spawn target procedure arguments) = shown.Spawn procedure target
shown_request Sync = shown.Sync
shown_request Call = shown.Call
shown_request LoopTurn = shown.LoopTurn

-- A want as `Frame::want` gives it: the arguments of a spawn are left out.
abbrev pub shown_want : Want → declared.Want
shown_want (Asks request) = shown_request request
shown_want (Returns value) = shown.Return value
shown_want (Traps kind) = shown.Trap kind

abbrev pub arguments_in : Request → List ℤ
arguments_in (Spawn target procedure arguments) = arguments
arguments_in _ = []

-- the arguments of the child that a want spawns
abbrev pub arguments_of : Want → List ℤ
arguments_of (Asks request) = arguments_in request
arguments_of (Returns value) = []
arguments_of (Traps kind) = []

-- What an answer is to a request. The values of the children of a block came before its sync, so Done brings none there.
abbrev pub meant : Request → Answer → wanted.Answer
meant Sync given.Done = Children []
meant _ given.Done = Done
meant _ (given.Value value) = Value value

-- what the frame wants next is this
abbrev pub WantsNext : Code → Frame → Want → Type 0
WantsNext code frame want = now (wants code frame) ≡ Some want

-- The frame wants a request next that gets such an answer: a value at Read and Add, Done at each other.
pub record Suits (code : Code) (frame : Frame) (answer : Answer) : Type 0 where
  pub request : Request
  pub next : WantsNext code frame (Asks request)
  pub suits : suits request (meant request answer) ≡ true
