-- What stands before the first `=` of a word, and what behind it.
use Rattle.std.proofs.Common.{◌≡◌, ◌≢◌, ℕ, suc, ◌<◌, Option, Some, None, Bor, List, [], ◌∷◌, ◌++◌, length, get_or, MatchOption, refl, ap, ◌∙◌, arith, lit<}
use Rattle.std.proofs.lemmas.Bool.{ne_eqb}
use Rattle.std.proofs.lemmas.Str.Pattern.{IsSplitOnceResult, split_parts}
use Rattle.command_words.specs.Gathering.{parted}

-- no `=` stands in the word
abbrev HasNoEquals : List ℕ → Type 0
HasNoEquals word = (i : ℕ) → i < length word → get_or word i 0 ≢ 61

rest_has_none : (c : ℕ) (word : List ℕ) → HasNoEquals (c ∷ word) → HasNoEquals word
rest_has_none c word none i within = none (suc i) (omega arith)

first_is_none : (c : ℕ) (word : List ℕ) → HasNoEquals (c ∷ word) → c ≢ 61
first_is_none c word none = none 0 (omega arith)

parted_none : (word : List ℕ) → HasNoEquals word → parted word ≡ (word, None)
parted_none [] none = refl
parted_none (c ∷ word) none =
    rw (ne_eqb c 61 (first_is_none c word none), parted_none word (rest_has_none c word none)) refl

parted_at : (name value : List ℕ) → HasNoEquals name → parted (name ++ 61 ∷ value) ≡ (name, Some value)
parted_at [] value none = refl
parted_at (c ∷ name) value none =
    rw (ne_eqb c 61 (first_is_none c name none), parted_at name value (rest_has_none c name none)) refl

-- what `split_once` gives at `=`
pub split_is_parted : (word : List ℕ) (r : Option (Bor (List ℕ) × Bor (List ℕ))) → IsSplitOnceResult 61 word r →
    MatchOption r (parted word ≡ (word, None)) (λ x. parted word ≡ (x.0.now, Some x.1.now))
split_is_parted word None cut = parted_none word (split_parts 61 word None cut (lit< tt))
split_is_parted word (Some x) cut =
    let parts = split_parts 61 word (Some x) cut (lit< tt) in
    ap parted parts.0 ∙ parted_at x.0.now x.1.now parts.1
