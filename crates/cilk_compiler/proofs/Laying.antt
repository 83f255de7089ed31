-- Arrays one behind another.
use Rattle.std.proofs.Common.{◌≡◌, ℕ, ◌+◌, ◌<◌, List, [], ◌∷◌, ◌++◌, get_or, length, drop, sym, ap, ◌∙◌, append_assoc}
use Rattle.std.proofs.lemmas.List.{map-append}
use Rattle.cilk_checker.proofs.Turns.{next_dropped}
use Rattle.cilk_meaning.specs.Resolving.{extents_from}
use Rattle.cilk_tree.specs.declared.tree.Shared.{Shared}
use Rattle.machine_code.specs.declared.code.Extent.{Extent}
use Rattle.machine_code.specs.Valid.{extents, words_in}

-- one array more
pub array_laid : (laid more : List Extent) (arrays : List Shared) (i base words next : ℕ) (array : Shared)
    → i < length arrays → array ≡ get_or arrays i array → words ≡ array.words → next ≡ base + words → more ≡ laid ++ record { base = base; words = words } ∷ []
    → extents more ++ extents_from next (drop (i + 1) arrays) ≡ extents laid ++ extents_from base (drop i arrays)
array_laid laid more arrays i base words next array within is words_is next_is more_is =
    (λ j. extents (more_is j) ++ extents_from (next_is j) (drop (i + 1) arrays))
    ∙ ap (λ l. l ++ extents_from (base + words) (drop (i + 1) arrays)) (map-append (λ (extent : Extent). record { base = extent.base; words = extent.words }) laid (record { base = base; words = words } ∷ []))
    ∙ append_assoc (extents laid) (record { base = base; words = words } ∷ []) (extents_from (base + words) (drop (i + 1) arrays))
    ∙ (λ j. extents laid ++ record { base = base; words = words_is j } ∷ extents_from (base + words_is j) (drop (i + 1) arrays))
    ∙ ap (λ l. extents laid ++ extents_from base l) (sym (next_dropped arrays i array within is))

-- the words of the arrays that are left
pub words_left : (arrays : List Shared) (i base : ℕ) (array : Shared) → i < length arrays → array ≡ get_or arrays i array
    → words_in (extents_from base (drop i arrays)) ≡ array.words + words_in (extents_from (base + array.words) (drop (i + 1) arrays))
words_left arrays i base array within is = ap (λ l. words_in (extents_from base l)) (next_dropped arrays i array within is)
