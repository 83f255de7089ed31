-- Words that were gathered are parts, which give what was gathered.
use Rattle.std.proofs.Common.{◌≡◌, ℕ, Bool, true, false, Option, Some, None, List, [], ◌∷◌, ◌++◌, codes, if◌then◌else◌, inl, inr, refl, sym, ap, ◌∙◌, subst}
use Rattle.std.specs.List.{flat_map}
use Rattle.std.specs.Str.{bytes_eq}
use Rattle.std.proofs.lemmas.Bool.Decides.{eqb_tells}
use Rattle.std.proofs.lemmas.List.{append-nil}
use Rattle.std.proofs.lemmas.Option.{none-some, option_and_then_some, same_Some}
use Rattle.std.proofs.lemmas.Slice.Eq.{bytes_eq-Decides}
use Rattle.command_words.specs.declared.option_name.OptionName.{OptionName}
use Rattle.command_words.specs.declared.option_name.OptionName.TheVariants.{Budget}
use Rattle.command_words.specs.Gathering.{Gathered, nothing, parted, option_named, with_word, with_words, with_parted, finished, gathered_from, file_in, values_in}
use Rattle.command_words.specs.Words.{Part, File, Apart, Joined, option_word, part_words, files, values}

-- the option whose value is due, as it was written
abbrev due_words : Option OptionName → List (List ℕ)
due_words None = []
due_words (Some option) = option_word option ∷ []

-- The words are parts, which give what is gathered last beside what was gathered first.
record AreParts (first last : Gathered) (words : List (List ℕ)) : Type 0 where
  parts : List Part
  spelled : due_words first.due ++ words ≡ flat_map part_words parts
  given : file_in first ++ files parts ≡ file_in last
  optioned : values_in first Budget ++ values parts Budget ≡ values_in last Budget

-- the word is what stands before the first `=` of it, the `=` and what stands behind
abbrev Joins : List ℕ → List ℕ → Option (List ℕ) → Type 0
Joins word name None = word ≡ name
Joins word name (Some value) = word ≡ name ++ 61 ∷ value

joins_on : (c : ℕ) (word name : List ℕ) (value : Option (List ℕ)) → Joins word name value → Joins (c ∷ word) (c ∷ name) value
joins_on c word name None e = ap (λ cs. c ∷ cs) e
joins_on c word name (Some value) e = ap (λ cs. c ∷ cs) e

parted_joins : (word : List ℕ) → Joins word (parted word).0 (parted word).1
parted_joins [] = refl
parted_joins (c ∷ word) = elim (eqb_tells c 61) [
  | inl equal ↦ rw equal.0 (ap (λ first. first ∷ word) equal.1)
  | inr other ↦ rw other.0 (joins_on c word (parted word).0 (parted word).1 (parted_joins word))
]

chosen : (b : Bool) → (if b then Some Budget else None) ≡ Some Budget → b ≡ true
chosen true e = refl
chosen false e = absurd (none-some Budget e)

name_is : (name : List ℕ) → option_named name ≡ Some Budget → name ≡ option_word Budget
name_is name e = (bytes_eq-Decides name (codes "--budget")).0 (chosen (bytes_eq name (codes "--budget")) e)

abbrev gathered : Option (List ℕ) → Option (List ℕ) → Option OptionName → Gathered
gathered file budget due = record { file = file; budget = budget; due = due }

-- what was gathered next is known
from_next : (known next last : Gathered) (words : List (List ℕ)) → Some known ≡ Some next → AreParts next last words → AreParts known last words
from_next known next last words e behind = subst (λ g. AreParts g last words) (sym (same_Some known next e)) behind

stepped_value : (file budget : Option (List ℕ)) (next last : Gathered) (word : List ℕ) (words : List (List ℕ)) →
    with_word (gathered file budget (Some Budget)) word ≡ Some next → AreParts next last words → AreParts (gathered file budget (Some Budget)) last (word ∷ words)
stepped_value file None next last word words e behind =
    let later = from_next (gathered file (Some word) None) next last words e behind in
    record {
      parts = Apart Budget word ∷ later.parts;
      spelled = ap (λ all. option_word Budget ∷ word ∷ all) later.spelled;
      given = later.given;
      optioned = later.optioned;
    }
stepped_value file (Some budget) next last word words e behind = absurd (none-some next e)

stepped_name : (file budget : Option (List ℕ)) (next last : Gathered) (word name : List ℕ) (words : List (List ℕ)) (option : Option OptionName) (value : Option (List ℕ)) →
    option_named name ≡ option → Joins word name value → with_parted (gathered file budget None) word option value ≡ Some next → AreParts next last words →
    AreParts (gathered file budget None) last (word ∷ words)
stepped_name None budget next last word name words None value n joins e behind =
    let later = from_next (gathered (Some word) budget None) next last words e behind in
    record {
      parts = File word ∷ later.parts;
      spelled = ap (λ all. word ∷ all) later.spelled;
      given = later.given;
      optioned = later.optioned;
    }
stepped_name (Some file) budget next last word name words None value n joins e behind = absurd (none-some next e)
stepped_name file budget next last word name words (Some Budget) None n joins e behind =
    let later = from_next (gathered file budget (Some Budget)) next last words e behind in
    record {
      parts = later.parts;
      spelled = ap (λ first. first ∷ words) (joins ∙ name_is name n) ∙ later.spelled;
      given = later.given;
      optioned = later.optioned;
    }
stepped_name file None next last word name words (Some Budget) (Some value) n joins e behind =
    let later = from_next (gathered file (Some value) None) next last words e behind in
    let spelled : word ≡ option_word Budget ++ 61 ∷ value = joins ∙ ap (λ front. front ++ 61 ∷ value) (name_is name n) in
    record {
      parts = Joined Budget value ∷ later.parts;
      spelled = ap (λ first. first ∷ words) spelled ∙ ap (λ all. (option_word Budget ++ 61 ∷ value) ∷ all) later.spelled;
      given = later.given;
      optioned = later.optioned;
    }
stepped_name file (Some budget) next last word name words (Some Budget) (Some value) n joins e behind = absurd (none-some next e)

stepped : (file budget : Option (List ℕ)) (due : Option OptionName) (next last : Gathered) (word : List ℕ) (words : List (List ℕ)) →
    with_word (gathered file budget due) word ≡ Some next → AreParts next last words → AreParts (gathered file budget due) last (word ∷ words)
stepped file budget (Some Budget) next last word words e behind = stepped_value file budget next last word words e behind
stepped file budget None next last word words e behind =
    stepped_name file budget next last word (parted word).0 words (option_named (parted word).0) (parted word).1 refl (parted_joins word) e behind

no_words : (last : Gathered) → last.due ≡ None → AreParts last last []
no_words last done = record {
  parts = [];
  spelled = rw done refl;
  given = append-nil (file_in last);
  optioned = append-nil (values_in last Budget);
}

are_parts : (first last : Gathered) (words : List (List ℕ)) → with_words first words ≡ Some last → last.due ≡ None → AreParts first last words
are_parts first last [] e done = from_next first last last [] e (no_words last done)
are_parts first last (word ∷ words) e done =
    option_and_then_some (λ next. with_words next words) (with_word first word) last e
    (λ next one others. stepped first.file first.budget first.due next last word words one (are_parts next last words others done))

finished_is : (due : Option OptionName) (last g : Gathered) → finished due last ≡ Some g → (due ≡ None) × (last ≡ g)
finished_is None last g e = (refl, same_Some last g e)
finished_is (Some option) last g e = absurd (none-some g e)

on_each : (f g : OptionName → List (List ℕ)) → f Budget ≡ g Budget → (option : OptionName) → f option ≡ g option
on_each f g e Budget = e

all_parts : (g : Gathered) (words : List (List ℕ)) → with_words nothing words ≡ Some g → g.due ≡ None →
    (parts : List Part) × (words ≡ flat_map part_words parts) × (files parts ≡ file_in g) × (values parts ≡ values_in g)
all_parts g words e done =
    let all = are_parts nothing g words e done in
    (all.parts, all.spelled, all.given, λ i option. on_each (values all.parts) (values_in g) all.optioned option i)

-- what was gathered is what some parts give
pub gathered_parts : (g : Gathered) (words : List (List ℕ)) → gathered_from words ≡ Some g →
    (parts : List Part) × (words ≡ flat_map part_words parts) × (files parts ≡ file_in g) × (values parts ≡ values_in g)
gathered_parts g words e =
    option_and_then_some (λ last. finished last.due last) (with_words nothing words) g e
    (λ last some done.
    let end = finished_is last.due last g done in
    all_parts g words (some ∙ ap (λ h. Some h) end.1) (ap (λ h. h.due) (sym end.1) ∙ end.0))
