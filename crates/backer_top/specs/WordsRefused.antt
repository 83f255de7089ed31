-- The words that the program does not take.
use Rattle.std.specs.Prelude.{ℕ, List}
use Rattle.command_words.specs.declared.command.Command.{Command}
use Rattle.command_words.specs.Words.{IsCommand}

-- they are no command
abbrev pub IsNoCommand : List (List ℕ) → Type 0
IsNoCommand words = (command : Command) → ¬ IsCommand words command
