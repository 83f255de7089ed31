-- What is put on `err`.
use Rattle.std.specs.Prelude.{◌≡◌, ℕ, true, false, Option, List}
use Rattle.cilk_tree.specs.declared.tree.Program.{Program}
use Rattle.cilk_tree.specs.Spelling.{Spells}
use Rattle.backer_top.specs.declared.answer.Line.{Line}
use Rattle.backer_top.specs.declared.answer.Line.TheVariants.{Fixed, Made}
use Rattle.backer_top.specs.declared.status.Ended.{Ended}
use Rattle.backer_top.specs.declared.status.SourceRefusal.TheVariants.{Check}
use Rattle.backer_top.specs.declared.status.Status.{Status}
use Rattle.backer_top.specs.declared.status.Status.TheVariants.{Source}
use Rattle.backer_top.specs.Output.{IsHalfTold, IsTold}
use Rattle.backer_top.specs.Status.{error_line, is_shown}

-- the bytes of a line
abbrev pub line_bytes : Line → List ℕ
line_bytes (Fixed bytes) = bytes.now
line_bytes (Made bytes) = bytes.items

-- The line tells the status, where this is the command's text: a rule that is broken is told with the names of the program
-- that the text spells. The other lines name nothing of a program.
abbrev pub IsLineOf : List ℕ → Status → List ℕ → Type 0
IsLineOf text (Source (Check kind place)) line = (program : Program) × Spells text program × (line ≡ error_line program (Source (Check kind place)))
IsLineOf text status line = (program : Program) → line ≡ error_line program status

-- The line of a status that is not shown on `out` is put, once and whole, or the put fails and a front of the line stands there.
pub record IsTelling {S : Type 0} (held : S → Option (List ℕ)) (took failed : S → List ℕ → S → Type 0) (old new : S) (text : List ℕ) (ended : Ended) : Type 0 where
  pub told : is_shown ended.status ≡ false → ended.mute ≡ false → (line : List ℕ) × IsLineOf text ended.status line × IsTold held took old new line
  pub half_told : ended.mute ≡ true → (line : List ℕ) × IsLineOf text ended.status line × IsHalfTold held failed old new line
