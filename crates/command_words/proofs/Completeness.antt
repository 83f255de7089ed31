-- Parts are gathered to what they give.
use Rattle.std.proofs.Common.{◌≡◌, ℕ, Bool, true, false, Option, Some, None, List, [], ◌∷◌, ◌++◌, if◌then◌else◌, ◌==◌, refl, subst}
use Rattle.std.specs.List.{flat_map}
use Rattle.std.specs.Option.{option_to_list}
use Rattle.std.proofs.lemmas.Bool.{ne_eqb}
use Rattle.command_words.specs.declared.command.Offline.{Offline as OfflineCommand}
use Rattle.command_words.specs.declared.command.Offline.TheVariants.{Check, Serial, Race}
use Rattle.command_words.specs.declared.option_name.OptionName.TheVariants.{Budget}
use Rattle.command_words.specs.Gathering.{Gathered, parted, option_named, with_words, gathered_from, file_in, values_in}
use Rattle.command_words.specs.Words.{Part, File, Apart, Joined, part_words, files, values, IsFileName, IsFile, IsElisionBudget, IsOffline}

-- a file that is given may be one
abbrev pub IsNamed : Option (List ℕ) → Type 0
IsNamed None = Unit {0}
IsNamed (Some name) = IsFileName name

unnamed : (first : ℕ) (rest others : List ℕ) (value : Option (List ℕ)) (b : Bool) → ¬ (first ≡ 45) →
    let cut : List ℕ × Option (List ℕ) = if b then ([], Some others) else (first ∷ rest, value) in option_named cut.0 ≡ None
unnamed first rest others value true valid = refl
unnamed first rest others value false valid = rw (ne_eqb first 45 valid) refl

no_option : (name : List ℕ) → IsFileName name → option_named (parted name).0 ≡ None
no_option [] valid = absurd valid
no_option (first ∷ others) valid = unnamed first (parted others).0 others (parted others).1 (first == 61) valid

abbrev all_gathered : Option (List ℕ) → Option (List ℕ) → Gathered
all_gathered file budget = record { file = file; budget = budget; due = None }

same_slot : (x y : Option (List ℕ)) → option_to_list x ++ [] ≡ option_to_list y → x ≡ y
same_slot None None e = refl
same_slot None (Some y) e = absurd cc
same_slot (Some x) None e = absurd cc
same_slot (Some x) (Some y) e = cc

not_two : (x y : List ℕ) (more : List (List ℕ)) (slot : Option (List ℕ)) → x ∷ y ∷ more ≡ option_to_list slot → ⊥
not_two x y more None e = absurd cc
not_two x y more (Some z) e = absurd cc

named_first : (name : List ℕ) (more : List (List ℕ)) (slot : Option (List ℕ)) → name ∷ more ≡ option_to_list slot → IsNamed slot → IsFileName name
named_first name more None e valid = absurd cc
named_first name more (Some file) e valid = let same : file ≡ name = cc in subst IsFileName same valid

gathers : (parts : List Part) (file budget last_file last_budget : Option (List ℕ)) →
    option_to_list file ++ files parts ≡ option_to_list last_file →
    option_to_list budget ++ values parts Budget ≡ option_to_list last_budget →
    IsNamed last_file →
    with_words (all_gathered file budget) (flat_map part_words parts) ≡ Some (all_gathered last_file last_budget)
gathers [] file budget last_file last_budget given optioned valid = rw (same_slot file last_file given, same_slot budget last_budget optioned) refl
gathers (File name ∷ parts) None budget last_file last_budget given optioned valid =
    rw (no_option name (named_first name (files parts) last_file given valid)) (gathers parts (Some name) budget last_file last_budget given optioned valid)
gathers (File name ∷ parts) (Some file) budget last_file last_budget given optioned valid = absurd (not_two file name (files parts) last_file given)
gathers (Apart Budget value ∷ parts) file None last_file last_budget given optioned valid = gathers parts file (Some value) last_file last_budget given optioned valid
gathers (Apart Budget value ∷ parts) file (Some budget) last_file last_budget given optioned valid = absurd (not_two budget value (values parts Budget) last_budget optioned)
gathers (Joined Budget value ∷ parts) file None last_file last_budget given optioned valid = gathers parts file (Some value) last_file last_budget given optioned valid
gathers (Joined Budget value ∷ parts) file (Some budget) last_file last_budget given optioned valid = absurd (not_two budget value (values parts Budget) last_budget optioned)

gathers_all : (parts : List Part) (file : List ℕ) (budget : Option (List ℕ)) → IsFile (files parts) file → values parts Budget ≡ option_to_list budget →
    gathered_from (flat_map part_words parts) ≡ Some (all_gathered (Some file) budget)
gathers_all parts file budget given optioned = rw (gathers parts None None (Some file) budget given.0 optioned given.1) refl

-- what the parts of a command give is gathered from their words
abbrev IsGathered : List ℕ → List Part → OfflineCommand → Type 0
IsGathered name parts command = (g : Gathered) × (gathered_from (flat_map part_words parts) ≡ Some g) × IsOffline name (file_in g) (values_in g) command

-- an option that has a number is given once at most
number_slot : (given : List (List ℕ)) (n : ℕ) → IsElisionBudget given n → (slot : Option (List ℕ)) × (given ≡ option_to_list slot) × IsElisionBudget (option_to_list slot) n
number_slot [] n is = (None, refl, is)
number_slot (word ∷ []) n is = (Some word, refl, is)
number_slot (word ∷ next ∷ words) n is = absurd is

pub command_gathered : (name : List ℕ) (parts : List Part) (command : OfflineCommand) → IsOffline name (files parts) (values parts) command → IsGathered name parts command
command_gathered name parts (Check file) is = (all_gathered (Some file) None, gathers_all parts file None is.1 is.2, (is.0, (refl, is.1.1), refl))
command_gathered name parts (Serial file budget) is =
    let slot = number_slot (values parts Budget) budget is.2 in
    (all_gathered (Some file) slot.0, gathers_all parts file slot.0 is.1 slot.1, (is.0, (refl, is.1.1), slot.2))
command_gathered name parts (Race file budget) is =
    let slot = number_slot (values parts Budget) budget is.2 in
    (all_gathered (Some file) slot.0, gathers_all parts file slot.0 is.1 slot.1, (is.0, (refl, is.1.1), slot.2))
