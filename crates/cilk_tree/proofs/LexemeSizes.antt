-- No lexeme is empty.
use Rattle.std.proofs.Common.{ℕ, ◌<◌, nat_lt, Bool, ◌&&◌, not, IsTrue, List, [], ◌∷◌, length, sym, refl, subst, arith}
use Rattle.std.specs.List.{list_all}
use Rattle.std.proofs.lemmas.Bool.{and_parts, false≢true, ltb-true}
use Rattle.std.proofs.lemmas.Fmt.{decimal_nonempty}
use Rattle.cilk_tree.specs.declared.token.Token.{Token}
use Rattle.cilk_tree.specs.declared.token.Token.TheVariants.{Name, Number, Word, Mark}
use Rattle.cilk_tree.specs.Lexeme.{starts, is_letter, is_word, is_reserved, IsLexeme}
use Rattle.cilk_tree.specs.Token.{keyword_text, sign_text}
use Rattle.cilk_tree.proofs.Tables.{of_keywords, of_signs}

pub starts_some : (test : ℕ → Bool) (bytes : List ℕ) → IsTrue (starts test bytes) → 0 < length bytes
starts_some test [] h = absurd (false≢true h)
starts_some test (byte ∷ rest) h = omega arith

pub lexeme_some : (bytes : List ℕ) (token : Token) → IsLexeme bytes token → 0 < length bytes
lexeme_some bytes (Name name) is =
    let parts = and_parts (starts is_letter name && list_all is_word name) (not (is_reserved name)) is.1 in
    let first = and_parts (starts is_letter name) (list_all is_word name) parts.0 in
    subst (λ b. 0 < length b) (sym is.0) (starts_some is_letter name first.0)
lexeme_some bytes (Number value) is = subst (λ b. 0 < length b) (sym is.2.0) (decimal_nonempty is.0 (omega (arith, is.2.1)))
lexeme_some bytes (Word keyword) is = subst (λ b. 0 < length b) (sym is) (ltb-true 0 _ (of_keywords (λ w. nat_lt 0 (length (keyword_text w))) refl keyword))
lexeme_some bytes (Mark mark) is = subst (λ b. 0 < length b) (sym is) (ltb-true 0 _ (of_signs (λ s. nat_lt 0 (length (sign_text s))) refl mark))
