-- How the words behind a command's name are gathered, one after another.
use Rattle.std.specs.Prelude.{ℕ, ◌==◌, if◌then◌else◌, Option, Some, None, List, [], ◌∷◌, codes}
use Rattle.std.specs.Option.{option_and_then, option_to_list}
use Rattle.std.specs.Str.{bytes_eq}
use Rattle.command_words.specs.declared.option_name.OptionName.{OptionName}
use Rattle.command_words.specs.declared.option_name.OptionName.TheVariants.{Budget}

-- The file and the values that the words so far have given, and the option whose value is due.
pub record Gathered : Type 0 where
  pub file : Option (List ℕ)
  pub budget : Option (List ℕ)
  pub due : Option OptionName

abbrev pub nothing : Gathered
nothing = record { file = None; budget = None; due = None }

abbrev pub option_named : List ℕ → Option OptionName
option_named word = if bytes_eq word (codes "--budget") then Some Budget else None

-- what stands before the first `=`, and what behind it
abbrev pub parted : List ℕ → List ℕ × Option (List ℕ)
parted [] = ([], None)
parted (first ∷ others) = if first == 61 then ([], Some others) else (first ∷ (parted others).0, (parted others).1)

-- the slot filled, where it was empty
abbrev pub filled : Option (List ℕ) → List ℕ → Option (Option (List ℕ))
filled None word = Some (Some word)
filled (Some _) word = None

abbrev pub with_file : Gathered → List ℕ → Option Gathered
with_file g word = option_and_then (λ file. Some (record g { file = file })) (filled g.file word)

abbrev pub with_value : Gathered → OptionName → List ℕ → Option Gathered
with_value g Budget word = option_and_then (λ budget. Some (record g { budget = budget; due = None })) (filled g.budget word)

abbrev pub with_parted : Gathered → List ℕ → Option OptionName → Option (List ℕ) → Option Gathered
with_parted g word None value = with_file g word
with_parted g word (Some option) None = Some (record g { due = Some option })
with_parted g word (Some option) (Some value) = with_value g option value

abbrev pub with_word_at : Gathered → List ℕ → Option OptionName → Option Gathered
with_word_at g word (Some option) = with_value g option word
with_word_at g word None = with_parted g word (option_named (parted word).0) (parted word).1

abbrev pub with_word : Gathered → List ℕ → Option Gathered
with_word g word = with_word_at g word g.due

abbrev pub with_words : Gathered → List (List ℕ) → Option Gathered
with_words g [] = Some g
with_words g (word ∷ words) = option_and_then (λ next. with_words next words) (with_word g word)

abbrev pub finished : Option OptionName → Gathered → Option Gathered
finished None g = Some g
finished (Some _) g = None

-- what all the words give, behind which no value is due
abbrev pub gathered_from : List (List ℕ) → Option Gathered
gathered_from words = option_and_then (λ g. finished g.due g) (with_words nothing words)

-- what was gathered, as lists
abbrev pub file_in : Gathered → List (List ℕ)
file_in g = option_to_list g.file

abbrev pub values_in : Gathered → OptionName → List (List ℕ)
values_in g Budget = option_to_list g.budget
