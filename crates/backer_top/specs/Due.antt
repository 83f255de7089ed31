-- What a command makes of a text.
use Rattle.std.specs.Prelude.{◌≡◌, ℕ, ◌<◌, ◌≤◌, List, [], length}
use Rattle.cilk_reader.specs.Refusals.{IsRefusedAt}
use Rattle.cilk_meaning.specs.declared.ends.NodeEnd.{NodeEnd}
use Rattle.cilk_meaning.specs.declared.ends.NodeEnd.TheVariants as ends
use Rattle.cilk_meaning.specs.Elision.{elision}
use Rattle.cilk_meaning.specs.Resolving.{resolved}
use Rattle.cilk_meaning.specs.World.{End, output_of, start_words}
use Rattle.cilk_tree.specs.declared.place.CheckPlace.{CheckPlace}
use Rattle.cilk_tree.specs.declared.tree.Program.{Program}
use Rattle.cilk_tree.specs.Canonical.{canonical_text}
use Rattle.cilk_tree.specs.Lawful.Lawful.{IsCheckRefusal, IsLawful}
use Rattle.cilk_tree.specs.Spelling.{Spells}
use Rattle.command_words.specs.declared.command.Offline.{Offline}
use Rattle.command_words.specs.declared.command.Offline.TheVariants as offline
use Rattle.elision_history.specs.Logged.{history_of}
use Rattle.race_check.specs.declared.Race as found
use Rattle.span_tree.specs.History.{History}
use Rattle.span_tree.specs.Memory.{HasNoRace, IsFirstRace}
use Rattle.backer_top.specs.declared.status.SourceRefusal.TheVariants as source
use Rattle.backer_top.specs.declared.status.Status.{Status}
use Rattle.backer_top.specs.declared.status.Status.TheVariants.{Done, Source, Trap, Budget, Race, Memory}
use Rattle.backer_top.specs.Output.{lines}
use Rattle.backer_top.specs.RaceLine.{no_race_line, race_line}
use Rattle.backer_top.specs.Reading.{source_limit}

-- The text is within the limit, and spells this program.
abbrev pub IsProgramOf : List ℕ → Program → Type 0
IsProgramOf text program = (length text ≤ source_limit) × Spells text program

-- The text is accepted: it spells this program, which is lawful.
abbrev pub Accepts : List ℕ → Program → Type 0
Accepts text program = IsProgramOf text program × IsLawful program

-- the serial elision of a program for at most so many ticks; each shared word is 0 at first
abbrev pub elided : Program → ℕ → End
elided program budget = elision (resolved program) (start_words 0 []) budget

-- and its history
abbrev pub elided_history : Program → ℕ → History
elided_history program budget = history_of (resolved program) (elided program budget)

-- What a command answers where memory suffices and no device fails: a status, and a text for `out`.
pub record Reply : Type 0 where
  pub status : Status
  pub text : List ℕ

abbrev pub done : List ℕ → Reply
done text = record { status = Done; text = text }

abbrev pub only : Status → Reply
only status = record { status = status; text = [] }

-- What is told of a run that ended so: where it finished, what is said of finished runs. A run of one node is on node 0.
abbrev pub Tells : NodeEnd → (Reply → Type 0) → Reply → Type 0
Tells ends.Finished finished reply = finished reply
Tells (ends.Trapped kind) finished reply = reply ≡ only (Trap kind 0)
Tells ends.Budget finished reply = reply ≡ only (Budget 0)

-- What is told of a history of the program: its first race, or that there is none.
pub data TellsRace (program : Program) (history : History) (reply : Reply) : Type 0 where
  NoRace : (none : HasNoRace history) (is : reply ≡ done no_race_line) → TellsRace program history reply
  First : (race : found.Race) (first : IsFirstRace history race.word race.first race.second)
      (is : reply ≡ record { status = Race race; text = race_line program history race }) → TellsRace program history reply

-- What a command makes of a lawful program. `check` gives the canonical text, `serial` a line for each value that the serial elision
-- prints, and `race` the first race of its history, in a line.
abbrev pub Makes : Offline → Program → Reply → Type 0
Makes (offline.Check file) program reply = reply ≡ done (canonical_text program)
Makes (offline.Serial file budget) program reply =
    Tells (elided program budget).end (λ reply. reply ≡ done (lines (output_of (elided program budget)))) reply
Makes (offline.Race file budget) program reply = Tells (elided program budget).end (TellsRace program (elided_history program budget)) reply

-- What a text calls for.
pub data IsDue (command : Offline) (text : List ℕ) (reply : Reply) : Type 0 where
  TooLong : (long : source_limit < length text) (is : reply ≡ only (Source source.TooLong)) → IsDue command text reply
  Unread : (number offset : ℕ) (short : length text ≤ source_limit) (refused : IsRefusedAt text number offset)
      (is : reply ≡ only (Source (source.Read number offset))) → IsDue command text reply
  Unlawful : (program : Program) (kind : ℕ) (place : CheckPlace) (spelled : IsProgramOf text program) (refused : IsCheckRefusal program kind place)
      (is : reply ≡ only (Source (source.Check kind place))) → IsDue command text reply
  Accepted : (program : Program) (accepted : Accepts text program) (made : Makes command program reply) → IsDue command text reply

-- a status that an accepted text may have where no device fails
abbrev pub IsOfAccepted : Offline → Status → Type 0
IsOfAccepted command Done = Unit {0}
IsOfAccepted command Memory = Unit {0}
IsOfAccepted (offline.Serial file budget) (Trap kind node) = Unit {0}
IsOfAccepted (offline.Serial file budget) (Budget node) = Unit {0}
IsOfAccepted (offline.Race file budget) (Trap kind node) = Unit {0}
IsOfAccepted (offline.Race file budget) (Budget node) = Unit {0}
IsOfAccepted (offline.Race file budget) (Race found) = Unit {0}
IsOfAccepted command _ = ⊥
