-- What the private parts of the top call hand to one another. The public contract cites none of it.
use Rattle.std.specs.Prelude.{◌≡◌, ◌⊎◌, ℕ, false, List, []}
use Rattle.cilk_tree.specs.declared.tree.Program.{Program}
use Rattle.command_words.specs.declared.command.Offline.{Offline}
use Rattle.serial_run.specs.declared.serial_end.SerialEnd.{SerialEnd}
use Rattle.backer_top.specs.declared.status.Status.{Status}
use Rattle.backer_top.specs.declared.status.Status.TheVariants.{Memory}
use Rattle.backer_top.specs.Due.{Accepts, IsDue, IsOfAccepted, Makes, Reply, elided, elided_history, only}
use Rattle.backer_top.specs.Status.{is_shown}

-- The text was read, and its program, which is this one, accepted: what the text calls for is what is made of the program.
pub record IsReading (text : List ℕ) (program : Program) : Type 0 where
  pub accepted : Accepts text program
  pub calls_for : (command : Offline) (reply : Reply) → IsDue command text reply → Makes command program reply

-- This, and nothing else, is what the text calls for.
pub record IsOutcome (command : Offline) (text : List ℕ) (reply : Reply) : Type 0 where
  pub due : IsDue command text reply
  pub once : (other : Reply) → IsDue command text other → other ≡ reply
  pub accepted : (program : Program) → Accepts text program → IsOfAccepted command reply.status
  pub silent : is_shown reply.status ≡ false → reply.text ≡ []

-- The command ends with this status and no text, which the text calls for, or memory ran out.
abbrev pub StopsWith : Offline → List ℕ → Status → Type 0
StopsWith command text status = IsOutcome command text (only status) ⊎ (status ≡ Memory)

-- The run ended as the elision of the program does, with its history.
pub record IsElided (program : Program) (budget : ℕ) (ended : SerialEnd) : Type 0 where
  pub end : ended.end ≡ (elided program budget).end
  pub history : ended.history ≡ elided_history program budget
