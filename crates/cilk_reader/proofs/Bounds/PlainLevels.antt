-- The canonical syntax of an expression has good tokens and levels where its own has.
use Rattle.std.proofs.Common.{◌≡◌, ℕ, ◌+◌, ◌≤◌, Bool, true, false, cond, ◌&&◌, IsTrue, List, [], ◌∷◌, ◌++◌, refl, arith}
use Rattle.std.specs.Prelude.{nat_le, nat_lt}
use Rattle.std.proofs.lemmas.Bool.{and_parts, both_ways, ltb-true, le-leb}
use Rattle.cilk_tree.specs.declared.token.Token.TheVariants.{Name, Number, Mark}
use Rattle.cilk_tree.specs.declared.token.Sign.TheVariants.{OpenParen, CloseParen, OpenBracket, CloseBracket}
use Rattle.cilk_tree.specs.Canonical.{grouped}
use Rattle.cilk_tree.specs.declared.count.Counted.TheVariants.{Operators}
use Rattle.cilk_tree.specs.declared.count.Count.{Count}
use Rattle.cilk_tree.specs.declared.count.Count.TheVariants.{OneMore}
use Rattle.cilk_tree.specs.Levels.{counting, mark, operator_sign, unary_sign, spell_expression}
use Rattle.cilk_tree.specs.Syntax.{Expression, Numeral, Variable, Element, Group, Prefix, Infix, operator_strength, strength, is_grouped}
use Rattle.cilk_reader.proofs.Bounds.Covering.{Fine, fine_parts, fine_both, fine_each, fine_lower, signs_fine}
use Rattle.cilk_reader.proofs.Bounds.PlainExpressions.{regrouped}

pub lowered : (low high : ℕ) (first other : List Count) (e : Expression) → low ≤ high → Fine (spell_expression high first e) → Fine (spell_expression low other e)
lowered low high first other (Numeral value) less h = fine_lower low high first other (Number value) less h
lowered low high first other (Variable name) less h = fine_lower low high first other (Name name) less h
lowered low high first other (Element name index) less h =
    fine_each (counting high first (Name name) ∷ []) (counting low other (Name name) ∷ [])
    (mark high OpenBracket ∷ spell_expression (high + 1) [] index ++ mark high CloseBracket ∷ []) (mark low OpenBracket ∷ spell_expression (low + 1) [] index ++ mark low CloseBracket ∷ [])
    (fine_lower low high first other (Name name) less)
    (fine_each (mark high OpenBracket ∷ []) (mark low OpenBracket ∷ [])
    (spell_expression (high + 1) [] index ++ mark high CloseBracket ∷ []) (spell_expression (low + 1) [] index ++ mark low CloseBracket ∷ [])
    (fine_lower low high [] [] (Mark OpenBracket) less)
    (fine_each (spell_expression (high + 1) [] index) (spell_expression (low + 1) [] index) (mark high CloseBracket ∷ []) (mark low CloseBracket ∷ [])
    (lowered (low + 1) (high + 1) [] [] index (omega arith)) (fine_lower low high [] [] (Mark CloseBracket) less)))
    h
lowered low high first other (Group inner) less h =
    fine_each (counting high first (Mark OpenParen) ∷ []) (counting low other (Mark OpenParen) ∷ [])
    (spell_expression (high + 1) [] inner ++ mark high CloseParen ∷ []) (spell_expression (low + 1) [] inner ++ mark low CloseParen ∷ [])
    (fine_lower low high first other (Mark OpenParen) less)
    (fine_each (spell_expression (high + 1) [] inner) (spell_expression (low + 1) [] inner) (mark high CloseParen ∷ []) (mark low CloseParen ∷ [])
    (lowered (low + 1) (high + 1) [] [] inner (omega arith)) (fine_lower low high [] [] (Mark CloseParen) less))
    h
lowered low high first other (Prefix operator operand) less h =
    fine_each (counting high (first ++ OneMore Operators ∷ []) (Mark (unary_sign operator)) ∷ []) (counting low (other ++ OneMore Operators ∷ []) (Mark (unary_sign operator)) ∷ [])
    (spell_expression (high + 1) [] operand) (spell_expression (low + 1) [] operand)
    (fine_lower low high (first ++ OneMore Operators ∷ []) (other ++ OneMore Operators ∷ []) (Mark (unary_sign operator)) less)
    (lowered (low + 1) (high + 1) [] [] operand (omega arith))
    h
lowered low high first other (Infix left operator right) less h =
    fine_each (spell_expression high first left) (spell_expression low other left)
    (counting high (OneMore Operators ∷ []) (Mark (operator_sign operator)) ∷ spell_expression high [] right) (counting low (OneMore Operators ∷ []) (Mark (operator_sign operator)) ∷ spell_expression low [] right)
    (lowered low high first other left less)
    (fine_each (counting high (OneMore Operators ∷ []) (Mark (operator_sign operator)) ∷ []) (counting low (OneMore Operators ∷ []) (Mark (operator_sign operator)) ∷ [])
    (spell_expression high [] right) (spell_expression low [] right)
    (fine_lower low high (OneMore Operators ∷ []) (OneMore Operators ∷ []) (Mark (operator_sign operator)) less) (lowered low high [] [] right less))
    h

abbrev is_group : Expression → Bool
is_group (Numeral value) = false
is_group (Variable name) = false
is_group (Element name index) = false
is_group (Group inner) = true
is_group (Prefix operator operand) = false
is_group (Infix left operator right) = false

-- The expression may be regrouped, and may keep parentheses round it where it has some.
pub record Kept (e : Expression) : Type 0 where
  pub bare : (level : ℕ) (first : List Count) → Fine (spell_expression level first e) → Fine (spell_expression level first (regrouped e))
  pub wrapped : IsTrue (is_group e) → (level : ℕ) (first : List Count) → Fine (spell_expression level first e) → Fine (spell_expression level first (Group (regrouped e)))

-- what binds weaker once it is regrouped stood in parentheses
was_group : (least : ℕ) (e : Expression) → nat_le least (strength e) ≡ true → nat_le least (strength (regrouped e)) ≡ false → IsTrue (is_group e)
was_group least (Numeral value) strong weak = absurd (both_ways _ weak strong)
was_group least (Variable name) strong weak = absurd (both_ways _ weak strong)
was_group least (Element name index) strong weak = absurd (both_ways _ weak strong)
was_group least (Group inner) strong weak = refl
was_group least (Prefix operator operand) strong weak = absurd (both_ways _ weak strong)
was_group least (Infix left operator right) strong weak = absurd (both_ways _ weak strong)

kept_operand : (least : ℕ) (e : Expression) → Kept e → IsTrue (nat_le least (strength e)) → (level : ℕ) (first : List Count) → Fine (spell_expression level first e) → Fine (spell_expression level first (grouped least (regrouped e)))
kept_operand least e kept strong level first h = either (nat_le least (strength (regrouped e))) refl
  where
    either : (b : Bool) → nat_le least (strength (regrouped e)) ≡ b → Fine (spell_expression level first (cond b (regrouped e) (Group (regrouped e))))
    either true is = kept.bare level first h
    either false is = kept.wrapped (was_group least e strong is) level first h

no_group : (e : Expression) → is_group e ≡ false → IsTrue (is_group e) → (level : ℕ) (first : List Count) → Fine (spell_expression level first e) → Fine (spell_expression level first (Group (regrouped e)))
no_group e none some level first h = absurd (both_ways (is_group e) none some)

pub kept : (e : Expression) → IsTrue (is_grouped e) → Kept e
kept (Numeral value) is = record { bare = λ level first h. h; wrapped = no_group (Numeral value) refl }
kept (Variable name) is = record { bare = λ level first h. h; wrapped = no_group (Variable name) refl }
kept (Element name index) is = record {
  bare = λ level first h.
      let parts = fine_parts (counting level first (Name name) ∷ mark level OpenBracket ∷ []) (spell_expression (level + 1) [] index ++ mark level CloseBracket ∷ []) h in
      fine_both (counting level first (Name name) ∷ mark level OpenBracket ∷ []) (spell_expression (level + 1) [] (regrouped index) ++ mark level CloseBracket ∷ []) parts.0
      (fine_each (spell_expression (level + 1) [] index) (spell_expression (level + 1) [] (regrouped index)) (mark level CloseBracket ∷ []) (mark level CloseBracket ∷ [])
      ((kept index is).bare (level + 1) []) (λ k. k) parts.1);
  wrapped = no_group (Element name index) refl;
}
kept (Group inner) is = record {
  bare = λ level first h.
      let rest = fine_parts (counting level first (Mark OpenParen) ∷ []) (spell_expression (level + 1) [] inner ++ mark level CloseParen ∷ []) h in
      let parts = fine_parts (spell_expression (level + 1) [] inner) (mark level CloseParen ∷ []) rest.1 in
      lowered level (level + 1) [] first (regrouped inner) (omega arith) ((kept inner is).bare (level + 1) [] parts.0);
  wrapped = λ some level first h.
      let rest = fine_parts (counting level first (Mark OpenParen) ∷ []) (spell_expression (level + 1) [] inner ++ mark level CloseParen ∷ []) h in
      fine_both (counting level first (Mark OpenParen) ∷ []) (spell_expression (level + 1) [] (regrouped inner) ++ mark level CloseParen ∷ []) rest.0
      (fine_each (spell_expression (level + 1) [] inner) (spell_expression (level + 1) [] (regrouped inner)) (mark level CloseParen ∷ []) (mark level CloseParen ∷ [])
      ((kept inner is).bare (level + 1) []) (λ k. k) rest.1);
}
kept (Prefix operator operand) is =
    let strong = and_parts (nat_le 7 (strength operand)) (is_grouped operand) is in
    record {
      bare = λ level first h.
          let token = counting level (first ++ OneMore Operators ∷ []) (Mark (unary_sign operator)) in
          let rest = fine_parts (token ∷ []) (spell_expression (level + 1) [] operand) h in
          fine_both (token ∷ []) (spell_expression (level + 1) [] (grouped 7 (regrouped operand))) rest.0
          (kept_operand 7 operand (kept operand strong.1) strong.0 (level + 1) [] rest.1);
      wrapped = no_group (Prefix operator operand) refl;
    }
kept (Infix left operator right) is =
    let s = operator_strength operator in
    let three = and_parts (nat_le s (strength left) && nat_lt s (strength right) && is_grouped left) (is_grouped right) is in
    let two = and_parts (nat_le s (strength left) && nat_lt s (strength right)) (is_grouped left) three.0 in
    let one = and_parts (nat_le s (strength left)) (nat_lt s (strength right)) two.0 in
    let above : s + 1 ≤ strength right = omega (arith, ltb-true s (strength right) one.1) in
    record {
      bare = λ level first h.
          let token = counting level (OneMore Operators ∷ []) (Mark (operator_sign operator)) in
          fine_each (spell_expression level first left) (spell_expression level first (grouped s (regrouped left)))
          (token ∷ spell_expression level [] right) (token ∷ spell_expression level [] (grouped (s + 1) (regrouped right)))
          (kept_operand s left (kept left two.1) one.0 level first)
          (fine_each (token ∷ []) (token ∷ []) (spell_expression level [] right) (spell_expression level [] (grouped (s + 1) (regrouped right)))
          (λ k. k) (kept_operand (s + 1) right (kept right three.1) (le-leb (s + 1) (strength right) above) level []))
          h;
      wrapped = no_group (Infix left operator right) refl;
    }

-- Where an expression stood one level deeper, there is room for parentheses round it.
pub raised : (least level : ℕ) (first : List Count) (e : Expression) → level ≤ 64 → Fine (spell_expression (level + 1) [] e) → Fine (spell_expression level first (grouped least e))
raised least level first e less h = either (nat_le least (strength e))
  where
    either : (b : Bool) → Fine (spell_expression level first (cond b e (Group e)))
    either true = lowered level (level + 1) [] first e (omega arith) h
    either false =
        fine_both (counting level first (Mark OpenParen) ∷ []) (spell_expression (level + 1) [] e ++ mark level CloseParen ∷ []) (signs_fine level (Mark OpenParen ∷ []) refl less)
        (fine_both (spell_expression (level + 1) [] e) (mark level CloseParen ∷ []) h (signs_fine level (Mark CloseParen ∷ []) refl less))
