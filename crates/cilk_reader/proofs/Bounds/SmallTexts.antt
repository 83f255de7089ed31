-- A text has at least as many bytes as tokens.
use Rattle.std.proofs.Common.{ℕ, ◌+◌, ◌≤◌, List, [], ◌∷◌, ◌++◌, length, ap, arith, length-append}
use Rattle.cilk_tree.specs.declared.ending.Ending.{Ending}
use Rattle.cilk_tree.specs.declared.token.Placed.{Placed}
use Rattle.cilk_tree.specs.Lexeme.{gap_text, Divides}
use Rattle.cilk_tree.proofs.LexemeSizes.{lexeme_some}

-- a text is divided into no more tokens than it has bytes
pub divided_is_small : (offset : ℕ) (text : List ℕ) (places : List Placed) (ending : Ending) → Divides offset text places ending → length places ≤ length text
divided_is_small offset text [] ending divides = omega arith
divided_is_small offset text (placed ∷ more) ending divides =
    let start = divides.1 in
    let some = lexeme_some start.lexeme placed.token start.spelled in
    let size = ap length start.parts in
    let gap = gap_text start.gap in
    let rest = divided_is_small (placed.offset + length start.lexeme) divides.0 more ending divides.3 in
    omega (arith, size, length-append (gap ++ start.lexeme) divides.0, length-append gap start.lexeme)
