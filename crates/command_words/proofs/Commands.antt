-- The command that words are, from what is gathered of them.
use Rattle.std.proofs.Common.{◌≡◌, ℕ, Some, None, List, ◌∷◌, refl, sym, ap, ◌∙◌, subst}
use Rattle.std.proofs.lemmas.Option.{none-some, same_Some}
use Rattle.std.specs.List.{flat_map}
use Rattle.command_words.specs.declared.command.Command.{Command}
use Rattle.command_words.specs.declared.command.Command.TheVariants.{Offline}
use Rattle.command_words.specs.declared.command.Offline.{Offline as OfflineCommand}
use Rattle.command_words.specs.declared.refusal.WordRefusal.{WordRefusal}
use Rattle.command_words.specs.declared.refusal.WordRefusal.TheVariants.{Words, Memory}
use Rattle.command_words.specs.Gathering.{Gathered, gathered_from, file_in, values_in}
use Rattle.command_words.specs.Words.{part_words, files, IsOffline, IsCommand}
use Rattle.command_words.proofs.Completeness.{command_gathered}
use Rattle.command_words.proofs.Soundness.{gathered_parts}
use Rattle.command_words.proofs.Uniqueness.{one_offline}

-- this command is gathered
abbrev pub IsGatheredAs : List ℕ → Gathered → OfflineCommand → Type 0
IsGatheredAs name g command = IsOffline name (file_in g) (values_in g) command

-- a refusal that does not tell that the words are no command
pub other_refusal : (refusal : WordRefusal) → ¬ (refusal ≡ Words) → refusal ≡ Memory
other_refusal Words other = absurd (other refl)
other_refusal Memory other = refl

module _ (words : List (List ℕ)) (name : List ℕ) (others : List (List ℕ)) (begins : words ≡ name ∷ others) where
  gathered_of : (command : OfflineCommand) → IsCommand words (Offline command) → (g : Gathered) × (gathered_from others ≡ Some g) × IsGatheredAs name g command
  gathered_of command (first, parts, spelled, is) =
      let whole = sym begins ∙ spelled in
      let same : first ≡ name = cc in
      let rest : flat_map part_words parts ≡ others = cc in
      let all = command_gathered first parts command is in
      (all.0, ap gathered_from (sym rest) ∙ all.1, subst (λ n. IsGatheredAs n all.0 command) same all.2)

  pub is_command : (g : Gathered) (command : OfflineCommand) → gathered_from others ≡ Some g → IsGatheredAs name g command → IsCommand words (Offline command)
  is_command g command found is =
      let all = gathered_parts g others found in
      let named = subst (λ given. IsOffline name given (values_in g) command) (sym all.2) is in
      (name, all.0, begins ∙ ap (λ rest. name ∷ rest) all.1, subst (λ options. IsOffline name (files all.0) options command) (sym all.3) named)

  pub none_gathered : gathered_from others ≡ None → (command : Command) → ¬ IsCommand words command
  none_gathered none (Offline command) is =
      let all = gathered_of command is in none-some all.0 (sym none ∙ all.1)

  pub is_gathered : (g : Gathered) (command : OfflineCommand) → gathered_from others ≡ Some g → IsCommand words (Offline command) → IsGatheredAs name g command
  is_gathered g command found is =
      let all = gathered_of command is in
      subst (λ h. IsGatheredAs name h command) (same_Some all.0 g (sym all.1 ∙ found)) all.2

  pub no_command : (g : Gathered) → gathered_from others ≡ Some g → ((command : OfflineCommand) → ¬ IsGatheredAs name g command) → (command : Command) → ¬ IsCommand words command
  no_command g found none (Offline command) is = none command (is_gathered g command found is)

  pub only_command : (g : Gathered) (one : OfflineCommand) → gathered_from others ≡ Some g → IsGatheredAs name g one → (command : Command) → IsCommand words command → Offline one ≡ command
  only_command g one found is (Offline command) also =
      ap (λ c. Offline c) (one_offline name (file_in g) (values_in g) one command is (is_gathered g command found also))
