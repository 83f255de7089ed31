-- The array and the index of a shared word.
use Rattle.std.proofs.Common.{◌≡◌, ℕ, ◌<◌, true, List, ◌∷◌, ◌++◌, codes, if◌then◌else◌, nat_lt, ◌-◌, append_assoc, refl, sym, ◌∙◌, subst, arith}
use Rattle.std.proofs.lemmas.Bool.Decides.{nat_tests}
use Rattle.std.specs.Fmt.{decimal}
use Rattle.cilk_tree.specs.declared.tree.Shared.{Shared}
use Rattle.backer_top.specs.RaceLine.{word_words}

-- a word of the first array
pub found_in : (array : Shared) (arrays : List Shared) (index : ℕ) → index < array.words → word_words (array ∷ arrays) index ≡ array.name ++ (codes "[" ++ decimal index ++ codes "]")
found_in array arrays index within =
    let here : nat_lt index array.words ≡ true = grind (arith, nat_tests) in
    let name = array.name ++ codes "[" ++ decimal index ++ codes "]" in
    subst (λ b. (if b then name else word_words arrays (index - array.words)) ≡ name) (sym here) refl
    ∙ append_assoc (array.name ++ codes "[") (decimal index) (codes "]") ∙ append_assoc array.name (codes "[") (decimal index ++ codes "]")
