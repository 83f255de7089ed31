-- How a text is divided into tokens: in one way, of which a token from the left is found at a time.
use Rattle.std.proofs.Common.{◌≡◌, ℕ, ◌+◌, ◌-◌, ◌<◌, true, List, [], ◌∷◌, ◌++◌, length, sym, refl, ap, ◌∙◌, subst, arith, append_assoc, length-append}
use Rattle.std.proofs.lemmas.List.{append-nil}
use Rattle.cilk_tree.specs.declared.ending.Ending.{Ending}
use Rattle.cilk_tree.specs.declared.token.Placed.{Placed}
use Rattle.cilk_tree.specs.declared.token.Token.{Token}
use Rattle.cilk_tree.specs.Lexeme.{gap_text, is_gap, IsEnding, StartsWith, EndsWith, Divides}
use Rattle.cilk_reader.specs.Heads.{IsGapBefore, StartsAt}
use Rattle.cilk_reader.proofs.Gaps.{gap_unique}
use Rattle.cilk_tree.proofs.LexemeSizes.{lexeme_some}
use Rattle.cilk_reader.proofs.Lexemes.{token_plain, ending_plain, same_start, same_ending, token_or_ending}

-- ---- a token or an end after a gap

gap_before : (text rest : List ℕ) (token : Token) (s : StartsWith text token rest) → text ≡ gap_text s.gap ++ (s.lexeme ++ rest)
gap_before text rest token s = s.parts ∙ append_assoc (gap_text s.gap) s.lexeme rest

abbrev at_lexeme : (text rest : List ℕ) (token : Token) (s : StartsWith text token rest) → StartsAt (s.lexeme ++ rest) token rest
at_lexeme text rest token s = record { lexeme = s.lexeme; parts = refl; spelled = s.spelled; ends = s.ends }

record IsSameStep {text : List ℕ} {token other : Token} {rest after : List ℕ} (s : StartsWith text token rest) (t : StartsWith text other after) : Type 0 where
  pub gaps : s.gap ≡ t.gap
  pub tokens : token ≡ other
  pub lexemes : s.lexeme ≡ t.lexeme
  pub rests : rest ≡ after

-- a text begins with one gap and one token at most
same_step : (text rest after : List ℕ) (token other : Token) (s : StartsWith text token rest) (t : StartsWith text other after) → IsSameStep s t
same_step text rest after token other s t =
    let one = at_lexeme text rest token s in
    let two = at_lexeme text after other t in
    let gaps = gap_unique s.gap t.gap (s.lexeme ++ rest) (t.lexeme ++ after) (sym (gap_before text rest token s) ∙ gap_before text after other t) s.between t.between (token_plain _ token rest one) (token_plain _ other after two) in
    let moved : StartsAt (s.lexeme ++ rest) other after = record { lexeme = t.lexeme; parts = gaps.1; spelled = t.spelled; ends = t.ends } in
    let same = same_start (s.lexeme ++ rest) token other rest after one moved in
    record { gaps = gaps.0; tokens = same.tokens; lexemes = same.lexemes; rests = same.rests }

same_end : (offset : ℕ) (text : List ℕ) (ending other : Ending) → EndsWith offset text ending → EndsWith offset text other → ending ≡ other
same_end offset text ending other e f =
    let gaps = gap_unique e.gap f.gap e.rest f.rest (sym e.parts ∙ f.parts) e.between f.between (ending_plain _ e.rest ending e.ends) (ending_plain _ f.rest other f.ends) in
    same_ending (offset + length (gap_text f.gap)) f.rest ending other
    (subst (λ r. IsEnding (offset + length (gap_text f.gap)) r ending) gaps.1 (subst (λ g. IsEnding (offset + length (gap_text g)) e.rest ending) gaps.0 e.ends))
    f.ends

step_or_end : (offset : ℕ) (text rest : List ℕ) (token : Token) (ending : Ending) → StartsWith text token rest → EndsWith offset text ending → ⊥
step_or_end offset text rest token ending s e =
    let one = at_lexeme text rest token s in
    let gaps = gap_unique s.gap e.gap (s.lexeme ++ rest) e.rest (sym (gap_before text rest token s) ∙ e.parts) s.between e.between (token_plain _ token rest one) (ending_plain _ e.rest ending e.ends) in
    token_or_ending (offset + length (gap_text e.gap)) e.rest token rest ending (subst (λ r. StartsAt r token rest) gaps.1 one) e.ends

-- ---- the one division

same_placed : (placed other : Placed) → placed.offset ≡ other.offset → placed.token ≡ other.token → placed ≡ other
same_placed placed other offsets tokens = λ i. record { offset = offsets i; token = tokens i }

pub divides_once : (offset : ℕ) (text : List ℕ) (places others : List Placed) (ending end : Ending) → Divides offset text places ending → Divides offset text others end → (places ≡ others) × (ending ≡ end)
divides_once offset text [] [] ending end d e = (refl, same_end offset text ending end d e)
divides_once offset text [] (other ∷ others) ending end d e = absurd (step_or_end offset text e.0 other.token ending e.1 d)
divides_once offset text (placed ∷ places) [] ending end d e = absurd (step_or_end offset text d.0 placed.token end d.1 e)
divides_once offset text (placed ∷ places) (other ∷ others) ending end (rest, s, at, d) (after, t, at_too, e) =
    let same = same_step text rest after placed.token other.token s t in
    let offsets : placed.offset ≡ other.offset = at ∙ ap (λ g. offset + length (gap_text g)) same.gaps ∙ sym at_too in
    let moved : Divides (placed.offset + length s.lexeme) rest others end = subst (λ r. Divides (placed.offset + length s.lexeme) r others end) (sym same.rests) (subst (λ n. Divides n after others end) (sym (ap (λ n. n + length s.lexeme) offsets ∙ ap (λ b. other.offset + length b) same.lexemes)) e) in
    let both = divides_once (placed.offset + length s.lexeme) rest places others ending end d moved in
    let firsts = same_placed placed other offsets same.tokens in
    (λ i. firsts i ∷ both.0 i, both.1)

-- ---- the division that is found from the left

-- The text's tokens are these and then the tokens of the rest, in whatever way that is divided.
pub record SoFar (text : List ℕ) (places : List Placed) (rest : List ℕ) : Type 0 where
  pub offset : ℕ
  pub reached : offset + length rest ≡ length text
  pub found : (more : List Placed) (ending : Ending) → Divides offset rest more ending → Divides 0 text (places ++ more) ending

-- the offset of what follows the gap
gap_end : (text rest start : List ℕ) (places : List Placed) (so_far : SoFar text places rest) (g : IsGapBefore rest start) → length text - length start ≡ so_far.offset + length (gap_text g.gap)
gap_end text rest start places so_far g =
    omega (arith, so_far.reached, ap length g.parts, length-append (gap_text g.gap) start)

pub so_far_push : (text rest start after : List ℕ) (places : List Placed) (token : Token) → SoFar text places rest → IsGapBefore rest start → StartsAt start token after → SoFar text (places ++ record { offset = length text - length start; token = token } ∷ []) after
so_far_push text rest start after places token so_far g s =
    let placed : Placed = record { offset = length text - length start; token = token } in
    record {
      offset = length text - length start + length s.lexeme;
      reached = omega (arith, so_far.reached, ap length g.parts, length-append (gap_text g.gap) start, ap length s.parts, length-append s.lexeme after);
      found = λ more ending d.
          subst (λ ps. Divides 0 text ps ending) (sym (append_assoc places (placed ∷ []) more))
          (so_far.found (placed ∷ more) ending (
            after,
            record {
              gap = g.gap;
              lexeme = s.lexeme;
              parts = g.parts ∙ ap (λ r. gap_text g.gap ++ r) s.parts ∙ sym (append_assoc (gap_text g.gap) s.lexeme after);
              between = subst (λ r. is_gap g.gap r ≡ true) s.parts g.between;
              spelled = s.spelled;
              ends = s.ends;
            },
            gap_end text rest start places so_far g,
            d,
          ));
    }

pub so_far_end : (text rest start : List ℕ) (places : List Placed) (ending : Ending) → SoFar text places rest → IsGapBefore rest start → IsEnding (length text - length start) start ending → Divides 0 text places ending
so_far_end text rest start places ending so_far g e =
    subst (λ ps. Divides 0 text ps ending) (append-nil places)
    (so_far.found [] ending (record {
      gap = g.gap;
      rest = start;
      parts = g.parts;
      between = g.between;
      ends = subst (λ n. IsEnding n start ending) (gap_end text rest start places so_far g) e;
    }))

-- a token takes one byte at least
pub token_shorter : (rest start after : List ℕ) (token : Token) → IsGapBefore rest start → StartsAt start token after → length after < length rest
token_shorter rest start after token g s =
    omega (arith, ap length g.parts, length-append (gap_text g.gap) start, ap length s.parts, length-append s.lexeme after, lexeme_some s.lexeme token s.spelled)
