-- Tests on numbers, and the sizes of pages.
use Rattle.std.proofs.Common.{◌≡◌, ◌≢◌, ℕ, ◌<◌, ◌≤◌, nat_eq, true, false, arith}
use Rattle.std.proofs.lemmas.Bool.Decides.{nat_tests}
use Rattle.std.specs.List.{list_any}
use Rattle.std.specs.Prelude.{◌==◌, IsTrue}
use Rattle.page_words.specs.declared.config.Config.{Config}
use Rattle.page_words.specs.Limits.{page_sizes}

pub same_number : (a b : ℕ) → nat_eq a b ≡ true → a ≡ b
same_number a b e = grind (arith, nat_tests)

pub other_number : (a b : ℕ) → nat_eq a b ≡ false → a ≢ b
other_number a b e = grind (arith, nat_tests)

pub unequal_numbers : (a b : ℕ) → a ≢ b → nat_eq a b ≡ false
unequal_numbers a b e = grind (arith, nat_tests)

pub equal_numbers : (a b : ℕ) → a ≡ b → nat_eq a b ≡ true
equal_numbers a b e = grind (arith, nat_tests)

page_size : (size : ℕ) → IsTrue (list_any (λ known. known == size) page_sizes) → (1 ≤ size) × (size ≤ 64)
page_size size is = grind (arith, nat_tests)

pub some_word : (config : Config) → 0 < config.page_words
some_word config = (page_size config.page_words config.limits.page_size).0

pub few_words : (config : Config) → config.page_words ≤ 64
few_words config = (page_size config.page_words config.limits.page_size).1
