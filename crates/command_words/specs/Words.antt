-- The words of a command line, and the command that they are.
use Rattle.std.specs.Prelude.{◌≡◌, ℕ, ◌≤◌, List, [], ◌∷◌, ◌++◌, codes}
use Rattle.std.specs.Fmt.{decimal}
use Rattle.std.specs.List.{flat_map}
use Rattle.command_words.specs.declared.command.Command.{Command}
use Rattle.command_words.specs.declared.command.Command.TheVariants.{Offline}
use Rattle.command_words.specs.declared.command.Offline.{Offline as OfflineCommand}
use Rattle.command_words.specs.declared.command.Offline.TheVariants.{Check, Serial, Race}
use Rattle.command_words.specs.declared.option_name.OptionName.{OptionName}
use Rattle.command_words.specs.declared.option_name.OptionName.TheVariants.{Budget}

-- how an option is written
abbrev pub option_word : OptionName → List ℕ
option_word Budget = codes "--budget"

-- A part of the words behind the command's name: a file, or an option, whose value is the next word or stands behind `=`.
pub data Part : Type 0 where
  File : List ℕ → Part
  Apart : OptionName → List ℕ → Part
  Joined : OptionName → List ℕ → Part

abbrev pub part_words : Part → List (List ℕ)
part_words (File name) = name ∷ []
part_words (Apart option value) = option_word option ∷ value ∷ []
part_words (Joined option value) = (option_word option ++ codes "=" ++ value) ∷ []

-- the files among the parts
abbrev pub files : List Part → List (List ℕ)
files [] = []
files (File name ∷ parts) = name ∷ files parts
files (_ ∷ parts) = files parts

-- the values that the parts give an option
abbrev pub values : List Part → OptionName → List (List ℕ)
values [] _ = []
values (Apart Budget value ∷ parts) Budget = value ∷ values parts Budget
values (Joined Budget value ∷ parts) Budget = value ∷ values parts Budget
values (_ ∷ parts) option = values parts option

-- the word may name a file: it is not empty and does not begin with `-`
abbrev pub IsFileName : List ℕ → Type 0
IsFileName [] = ⊥
IsFileName (first ∷ others) = ¬ (first ≡ 45)

-- the file that is given, exactly once
abbrev pub IsFile : List (List ℕ) → List ℕ → Type 0
IsFile given file = (given ≡ file ∷ []) × IsFileName file

-- the number that is given in decimal, at most once and within its limits, or the default where none is
abbrev pub IsNumber : (least most default : ℕ) → List (List ℕ) → ℕ → Type 0
IsNumber least most default [] n = n ≡ default
IsNumber least most default (word ∷ []) n = (word ≡ decimal n) × (least ≤ n) × (n ≤ most)
IsNumber least most default _ n = ⊥

-- how many ticks a serial elision may make at most, and makes where no budget is given
abbrev pub elision_ticks : ℕ
elision_ticks = 2000000

abbrev pub IsElisionBudget : List (List ℕ) → ℕ → Type 0
IsElisionBudget = IsNumber 1 elision_ticks elision_ticks

-- The command of this name, these files and these values of its options. An option that it has not is given no value.
abbrev pub IsOffline : List ℕ → List (List ℕ) → (OptionName → List (List ℕ)) → OfflineCommand → Type 0
IsOffline name given options (Check file) = (name ≡ codes "check") × IsFile given file × (options Budget ≡ [])
IsOffline name given options (Serial file budget) = (name ≡ codes "serial") × IsFile given file × IsElisionBudget (options Budget) budget
IsOffline name given options (Race file budget) = (name ≡ codes "race") × IsFile given file × IsElisionBudget (options Budget) budget

-- The words are this command: its name, and behind it parts in any order.
abbrev pub IsCommand : List (List ℕ) → Command → Type 0
IsCommand words (Offline command) =
    (name : List ℕ) × (parts : List Part) × (words ≡ name ∷ flat_map part_words parts) × IsOffline name (files parts) (values parts) command
