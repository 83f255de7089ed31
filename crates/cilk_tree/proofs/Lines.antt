-- The lists and lines of the canonical text, as they are written piece by piece.
use Rattle.std.specs.Prelude.{◌≡◌, ℕ, ◌+◌, ◌*◌, List, [], ◌∷◌, ◌++◌, map, replicate, flat_map, codes}
use Rattle.std.proofs.Common.{sym, ap, ◌∙◌, append_assoc, append-nil, arith}
use Rattle.std.proofs.lemmas.List.{replicate-append-replicate}
use Rattle.std.proofs.lemmas.List.Folds.{flat_map-map}
use Rattle.cilk_tree.specs.declared.tree.Stmt.{Stmt}
use Rattle.cilk_tree.specs.Canonical.{listed, lines_at, statement_lines}

-- a list with commas is its first element, and each other one with a comma before it
pub listed_more : {T : Type 0} (text : T → List ℕ) (first : T) (others : List T) → listed (map text (first ∷ others)) ≡ text first ++ flat_map (λ other. codes ", " ++ text other) others
listed_more text first [] = sym (append-nil (text first))
listed_more text first (second ∷ rest) =
    append_assoc (text first) (codes ", ") (listed (map text (second ∷ rest)))
    ∙ ap (λ later. text first ++ (codes ", " ++ later)) (listed_more text second rest)
    ∙ ap (λ later. text first ++ later) (sym (append_assoc (codes ", ") (text second) (flat_map (λ other. codes ", " ++ text other) rest)))

-- one level more is two blanks more
pub indent_more : (level : ℕ) → replicate {A = ℕ} (2 * (level + 1)) 32 ≡ replicate (2 * level) 32 ++ 32 ∷ 32 ∷ []
indent_more level = ap (λ n. replicate {A = ℕ} n 32) (let e : 2 * (level + 1) ≡ 2 * level + 2 = omega arith in e) ∙ sym (replicate-append-replicate (2 * level) 2 32)

-- the lines of statements at a level
pub lines_each : (level : ℕ) (statements : List Stmt) → lines_at level (map statement_lines statements) ≡ flat_map (λ statement. statement_lines statement level) statements
lines_each level statements = flat_map-map (λ statement. statement level) statement_lines statements
