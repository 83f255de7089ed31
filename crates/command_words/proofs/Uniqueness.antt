-- Words are one command at most.
use Rattle.std.proofs.Common.{◌≡◌, ℕ, ◌<◌, ◌^◌, false, List, [], ◌∷◌, codes, refl, sym, ap, lit<, ◌∙◌, arith}
use Rattle.std.specs.Str.{bytes_eq}
use Rattle.std.proofs.lemmas.Fmt.{decimal_injective}
use Rattle.std.proofs.lemmas.Slice.Eq.{bytes_eq-Decides}
use Rattle.command_words.specs.declared.command.Offline.{Offline as OfflineCommand}
use Rattle.command_words.specs.declared.command.Offline.TheVariants.{Check, Serial, Race}
use Rattle.command_words.specs.declared.option_name.OptionName.{OptionName}
use Rattle.command_words.specs.declared.option_name.OptionName.TheVariants.{Budget}
use Rattle.command_words.specs.Words.{IsFile, IsNumber, IsElisionBudget, elision_ticks, IsOffline}

pub one_number : (least most default : ℕ) (given : List (List ℕ)) (m n : ℕ) → most < 2 ^ 64 → IsNumber least most default given m → IsNumber least most default given n → m ≡ n
one_number least most default [] m n small first second = first ∙ sym second
one_number least most default (word ∷ []) m n small first second =
    decimal_injective m n (omega (arith, first.2)) (omega (arith, second.2)) (sym first.0 ∙ second.0)
one_number least most default (word ∷ next ∷ words) m n small first second = absurd first

one_file : (given : List (List ℕ)) (first second : List ℕ) → IsFile given first → IsFile given second → first ≡ second
one_file given first second is also = let e : first ∷ [] ≡ second ∷ [] = sym is.0 ∙ also.0 in cc

one_budget : (given : List (List ℕ)) (m n : ℕ) → IsElisionBudget given m → IsElisionBudget given n → m ≡ n
one_budget given m n = one_number 1 elision_ticks elision_ticks given m n (lit< tt)

different : (name first second : List ℕ) → bytes_eq first second ≡ false → name ≡ first → name ≡ second → ⊥
different name first second e is also = let same = (bytes_eq-Decides first second).1 (sym is ∙ also) in absurd cc

pub one_offline : (name : List ℕ) (given : List (List ℕ)) (options : OptionName → List (List ℕ)) (first second : OfflineCommand) →
    IsOffline name given options first → IsOffline name given options second → first ≡ second
one_offline name given options (Check file) (Check other) is also = ap (λ f. Check f) (one_file given file other is.1 also.1)
one_offline name given options (Check file) (Serial other n) is also = absurd (different name (codes "check") (codes "serial") refl is.0 also.0)
one_offline name given options (Check file) (Race other n) is also = absurd (different name (codes "check") (codes "race") refl is.0 also.0)
one_offline name given options (Serial file m) (Check other) is also = absurd (different name (codes "serial") (codes "check") refl is.0 also.0)
one_offline name given options (Serial file m) (Serial other n) is also =
    let f = one_file given file other is.1 also.1 in
    let b = one_budget (options Budget) m n is.2 also.2 in
    λ i. Serial (f i) (b i)
one_offline name given options (Serial file m) (Race other n) is also = absurd (different name (codes "serial") (codes "race") refl is.0 also.0)
one_offline name given options (Race file m) (Check other) is also = absurd (different name (codes "race") (codes "check") refl is.0 also.0)
one_offline name given options (Race file m) (Serial other n) is also = absurd (different name (codes "race") (codes "serial") refl is.0 also.0)
one_offline name given options (Race file m) (Race other n) is also =
    let f = one_file given file other is.1 also.1 in
    let b = one_budget (options Budget) m n is.2 also.2 in
    λ i. Race (f i) (b i)
