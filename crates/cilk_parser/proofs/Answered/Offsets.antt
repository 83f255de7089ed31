-- The offsets of the tokens of a text ascend, and come before the end of what is divided.
use Rattle.std.proofs.Common.{◌≡◌, ℕ, zero, suc, ◌+◌, ◌<◌, ◌≤◌, Some, List, [], ◌∷◌, ◌++◌, length, slice_get, ap, subst, arith, length-append}
use Rattle.std.proofs.lemmas.Option.{same_Some}
use Rattle.cilk_tree.specs.declared.ending.Ending.{Ending}
use Rattle.cilk_tree.specs.declared.ending.Ending.TheVariants.{Reached, Stopped}
use Rattle.cilk_tree.specs.declared.kind.Kind.TheVariants.{BadByte, BadNumber, Unexpected, TooDeep, TooMany}
use Rattle.cilk_tree.specs.declared.token.Placed.{Placed}
use Rattle.cilk_tree.specs.declared.token.Token.{Token}
use Rattle.cilk_tree.specs.Lexeme.{StartsWith, EndsWith, gap_text, Divides}
use Rattle.cilk_tree.proofs.LexemeSizes.{lexeme_some}

-- where the tokens end, in a text of this size
abbrev pub end_place : ℕ → Ending → ℕ
end_place size Reached = size
end_place size (Stopped kind place) = place

-- The parts of a text by their sizes.
sizes : (offset : ℕ) (text : List ℕ) (token : Token) (rest : List ℕ) (start : StartsWith text token rest) →
    (0 < length start.lexeme) × (offset + length text ≡ offset + length (gap_text start.gap) + length start.lexeme + length rest)
sizes offset text token rest start =
    (lexeme_some start.lexeme token start.spelled, omega (arith, ap length start.parts, length-append (gap_text start.gap ++ start.lexeme) rest, length-append (gap_text start.gap) start.lexeme))

end_behind : (offset : ℕ) (text : List ℕ) (ending : Ending) → EndsWith offset text ending → offset ≤ end_place (offset + length text) ending
end_behind offset text Reached h = omega arith
end_behind offset text (Stopped BadByte place) h = omega (arith, h.ends.1)
end_behind offset text (Stopped BadNumber place) h = omega (arith, h.ends.1)
end_behind offset text (Stopped Unexpected place) h = omega (arith, h.ends.1)
end_behind offset text (Stopped TooDeep place) h = absurd h.ends
end_behind offset text (Stopped TooMany place) h = absurd h.ends

end_later : (offset : ℕ) (text : List ℕ) (places : List Placed) (ending : Ending) → Divides offset text places ending → offset ≤ end_place (offset + length text) ending
end_later offset text [] ending h = end_behind offset text ending h
end_later offset text (first ∷ places) ending h =
    let size = sizes offset text first.token h.0 h.1 in
    let same : first.offset + length h.1.lexeme + length h.0 ≡ offset + length text = omega (arith, size.1, h.2) in
    let later : first.offset + length h.1.lexeme ≤ end_place (offset + length text) ending =
    subst (λ n. first.offset + length h.1.lexeme ≤ end_place n ending) same (end_later (first.offset + length h.1.lexeme) h.0 places ending h.3) in
    omega (arith, later, h.2)

pub before_end : (offset : ℕ) (text : List ℕ) (places : List Placed) (ending : Ending) → Divides offset text places ending →
    (place : ℕ) (placed : Placed) → slice_get places place ≡ Some placed → placed.offset < end_place (offset + length text) ending
before_end offset text [] ending h place placed e = absurd (cc)
before_end offset text (first ∷ places) ending h zero placed e =
    let size = sizes offset text first.token h.0 h.1 in
    let same : first.offset + length h.1.lexeme + length h.0 ≡ offset + length text = omega (arith, size.1, h.2) in
    let later : first.offset + length h.1.lexeme ≤ end_place (offset + length text) ending =
    subst (λ n. first.offset + length h.1.lexeme ≤ end_place n ending) same (end_later (first.offset + length h.1.lexeme) h.0 places ending h.3) in
    omega (arith, later, size.0, ap (λ p. p.offset) (same_Some first placed e))
before_end offset text (first ∷ places) ending h (suc place) placed e =
    let size = sizes offset text first.token h.0 h.1 in
    let same : first.offset + length h.1.lexeme + length h.0 ≡ offset + length text = omega (arith, size.1, h.2) in
    subst (λ n. placed.offset < end_place n ending) same (before_end (first.offset + length h.1.lexeme) h.0 places ending h.3 place placed e)

first_later : (offset : ℕ) (text : List ℕ) (places : List Placed) (ending : Ending) → Divides offset text places ending → (place : ℕ) (placed : Placed) → slice_get places place ≡ Some placed → offset ≤ placed.offset
first_later offset text [] ending h place placed e = absurd (cc)
first_later offset text (first ∷ places) ending h zero placed e = omega (arith, h.2, ap (λ p. p.offset) (same_Some first placed e))
first_later offset text (first ∷ places) ending h (suc place) placed e =
    omega (arith, h.2, first_later (first.offset + length h.1.lexeme) h.0 places ending h.3 place placed e)

pub offsets_ascend : (offset : ℕ) (text : List ℕ) (places : List Placed) (ending : Ending) → Divides offset text places ending →
    (place other : ℕ) (placed behind : Placed) → place < other → slice_get places place ≡ Some placed → slice_get places other ≡ Some behind → placed.offset < behind.offset
offsets_ascend offset text [] ending h place other placed behind less e o = absurd (cc)
offsets_ascend offset text (first ∷ places) ending h place zero placed behind less e o = absurd (omega arith)
offsets_ascend offset text (first ∷ places) ending h zero (suc other) placed behind less e o =
    let size = sizes offset text first.token h.0 h.1 in
    omega (arith, size.0, ap (λ p. p.offset) (same_Some first placed e), first_later (first.offset + length h.1.lexeme) h.0 places ending h.3 other behind o)
offsets_ascend offset text (first ∷ places) ending h (suc place) (suc other) placed behind less e o =
    offsets_ascend (first.offset + length h.1.lexeme) h.0 places ending h.3 place other placed behind (omega arith) e o
