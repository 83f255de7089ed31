-- How a command may end.
use Rattle.std.specs.Prelude.{◌≡◌, ℕ, true, List}
use Rattle.cilk_tree.specs.declared.tree.Program.{Program}
use Rattle.command_words.specs.declared.command.Offline.{Offline}
use Rattle.backer_top.specs.declared.status.Status.{Status}
use Rattle.backer_top.specs.declared.status.Status.TheVariants.{ReadFault, WriteFault, Memory}
use Rattle.backer_top.specs.Due.{Accepts, IsDue, IsOfAccepted, Reply}
use Rattle.backer_top.specs.Output.{IsCutShort, IsWritten, SinkUse, WriteFailed}
use Rattle.backer_top.specs.Reading.{HasCalls, IsToldText, ReadFailed, ShelfUse}
use Rattle.backer_top.specs.Status.{is_shown}

-- the text calls for this status
abbrev pub IsStatusDue : Offline → List ℕ → Status → Type 0
IsStatusDue command text status = (reply : Reply) × IsDue command text reply × (reply.status ≡ status)

-- the text calls for a text on `out`
abbrev pub IsTextDue : Offline → List ℕ → Type 0
IsTextDue command text = (reply : Reply) × IsDue command text reply × (is_shown reply.status ≡ true)

-- Why a status is answered: it is due, or a device failed, or memory ran out. A failure to write takes the place of a status that is
-- shown on `out`.
abbrev pub HasCause : Offline → List ℕ → (read_failed write_failed : Type 0) → Status → Type 0
HasCause command text read_failed write_failed ReadFault = read_failed
HasCause command text read_failed write_failed WriteFault = write_failed × IsTextDue command text
HasCause command text read_failed write_failed Memory = Unit {0}
HasCause command text read_failed write_failed status = IsStatusDue command text status

-- What is due is answered, unless a device failed or memory ran out.
abbrev pub Answers : Status → (read_failed write_failed : Type 0) → Status → Type 0
Answers due read_failed write_failed ReadFault = read_failed
Answers due read_failed write_failed WriteFault = write_failed × (is_shown due ≡ true)
Answers due read_failed write_failed Memory = Unit {0}
Answers due read_failed write_failed status = status ≡ due

-- How a command on a file ended, of which this is the text. Where reading stopped, the shelf may not have given all of it:
-- `told` and `calls` say how far it is known.
pub record IsRun {S O : Type 0} (shelf : ShelfUse S) (out : SinkUse O) (command : Offline) (text : List ℕ) (status : Status) : Type 0 where
  pub told : IsToldText shelf text status
  pub calls : HasCalls shelf text status
  pub cause : HasCause command text (ReadFailed shelf) (WriteFailed out) status
  pub due : (reply : Reply) → IsDue command text reply → Answers reply.status (ReadFailed shelf) (WriteFailed out) status
  pub accepted : ¬ ReadFailed shelf → ¬ WriteFailed out → (program : Program) → Accepts text program → IsOfAccepted command status
  -- where the due status is answered, the due text is put on `out`, and nothing else
  pub output : (reply : Reply) → IsDue command text reply → reply.status ≡ status → IsWritten out.held out.took out.old out.new reply.text
  -- after a failure to write it is cut short there
  pub unwritten : status ≡ WriteFault → (reply : Reply) → IsDue command text reply → IsCutShort out.held out.took out.failed out.old out.new reply.text
