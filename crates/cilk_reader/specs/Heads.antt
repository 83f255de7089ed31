-- What the parts of the lexer say of a text: of the gap before its first token, and of what stands after that.
use Rattle.std.specs.Prelude.{◌≡◌, ℕ, Bool, not, ◌&&◌, ◌||◌, ◌==◌, nat_eq, IsTrue, IsFalse, List, ◌++◌, codes, drop}
use Rattle.std.specs.List.{prefix_len, starts_with}
use Rattle.cilk_tree.specs.declared.token.Token.{Token}
use Rattle.cilk_tree.specs.Lexeme.{Piece, piece_text, gap_text, is_piece, is_gap, has_close, is_blank, starts, IsLexeme, ends_before, IsEnding}
use Rattle.cilk_reader.specs.declared.lexer.Head.{Head}
use Rattle.cilk_reader.specs.declared.lexer.Head.TheVariants as head

-- the text begins with a blank or with a whole comment
abbrev pub begins_piece : List ℕ → Bool
begins_piece text =
    starts is_blank text || starts_with nat_eq text (codes "//") || (starts_with nat_eq text (codes "/*") && has_close (drop 2 text))

-- the text from the end of its first line on
abbrev pub past_line : List ℕ → List ℕ
past_line text = drop (prefix_len (λ byte. not (byte == 10)) text) text

-- the text is the body of a comment, the `*/` that closes it, and the rest
pub record IsCommentBody (text rest : List ℕ) : Type 0 where
  pub body : List ℕ
  pub parts : text ≡ body ++ codes "*/" ++ rest
  pub unclosed : IsFalse (has_close body)

-- the text is a blank or a whole comment, and the rest
pub record IsPieceBefore (text rest : List ℕ) : Type 0 where
  pub piece : Piece
  pub parts : text ≡ piece_text piece ++ rest
  pub fits : IsTrue (is_piece piece rest)

-- the text is a gap, and the rest
pub record IsGapBefore (text rest : List ℕ) : Type 0 where
  pub gap : List Piece
  pub parts : text ≡ gap_text gap ++ rest
  pub between : IsTrue (is_gap gap rest)

-- the text begins with this token, with no gap before it
pub record StartsAt (text : List ℕ) (token : Token) (rest : List ℕ) : Type 0 where
  pub lexeme : List ℕ
  pub parts : text ≡ lexeme ++ rest
  pub spelled : IsLexeme lexeme token
  pub ends : IsTrue (ends_before token rest)

-- what stands at this offset, where the text begins and no gap
abbrev pub IsHead : ℕ → List ℕ → Head → Type 0
IsHead offset text (head.Token token rest) = StartsAt text token rest.now
IsHead offset text (head.End ending) = IsEnding offset text ending
