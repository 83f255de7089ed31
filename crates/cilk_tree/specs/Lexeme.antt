-- How the bytes of a text are divided into tokens, each at its offset, and where they cannot be.
use Rattle.std.specs.Prelude.{◌≡◌, ℕ, pos, ◌+◌, ◌^◌, ◌<◌, Bool, true, false, not, ◌&&◌, ◌||◌, ◌==◌, nat_eq, nat_le, IsTrue, IsFalse, List, [], ◌∷◌, ◌++◌, length, codes, bytes_eq, decimal, flat_map, map}
use Rattle.std.specs.List.{list_all, list_any, starts_with}
use Rattle.cilk_tree.specs.declared.ending.Ending.{Ending}
use Rattle.cilk_tree.specs.declared.ending.Ending.TheVariants.{Reached, Stopped}
use Rattle.cilk_tree.specs.declared.token.Placed.{Placed}
use Rattle.cilk_tree.specs.Token.{keyword_text}
use Rattle.cilk_tree.specs.declared.kind.Kind.TheVariants.{BadByte, BadNumber, Unexpected, TooDeep, TooMany}
use Rattle.cilk_tree.specs.declared.token.Token.{Token}
use Rattle.cilk_tree.specs.declared.token.Token.TheVariants.{Name, Number, Word, Mark}
use Rattle.cilk_tree.specs.Token.{all_keywords, all_signs, sign_text}

-- the byte is from the first to the last, both included
abbrev pub is_between : ℕ → ℕ → ℕ → Bool
is_between first last byte = nat_le first byte && nat_le byte last

-- the bytes 9 to 13, and the space
abbrev pub is_blank : ℕ → Bool
is_blank byte = is_between 9 13 byte || byte == 32

abbrev pub is_digit : ℕ → Bool
is_digit byte = is_between 48 57 byte

-- a letter or `_`
abbrev pub is_letter : ℕ → Bool
is_letter byte = is_between 97 122 byte || is_between 65 90 byte || byte == 95

-- a letter, a digit or `_`
abbrev pub is_word : ℕ → Bool
is_word byte = is_letter byte || is_digit byte

-- the text begins with such a byte
abbrev pub starts : (ℕ → Bool) → List ℕ → Bool
starts test [] = false
starts test (byte ∷ rest) = test byte

-- ---- gaps

-- What may stand between tokens: a blank, or a comment of either form, of which the body is what stands inside.
pub data Piece : Type 0 where
  Blank : (byte : ℕ) → Piece
  LineComment : (body : List ℕ) → Piece
  BlockComment : (body : List ℕ) → Piece

abbrev pub piece_text : Piece → List ℕ
piece_text (Blank byte) = byte ∷ []
piece_text (LineComment body) = codes "//" ++ body
piece_text (BlockComment body) = codes "/*" ++ body ++ codes "*/"

abbrev pub gap_text : List Piece → List ℕ
gap_text gap = flat_map piece_text gap

-- `*/` stands somewhere in these bytes
abbrev pub has_close : List ℕ → Bool
has_close [] = false
has_close (byte ∷ rest) = starts_with nat_eq (byte ∷ rest) (codes "*/") || has_close rest

-- The end of the text, or the byte 10.
abbrev pub ends_line : List ℕ → Bool
ends_line [] = true
ends_line (byte ∷ rest) = byte == 10

-- This text may follow the piece: a comment goes on to the next byte 10 or the end of the text, or to the next `*/`, which
-- shares no byte with the `/*` before it.
abbrev pub is_piece : Piece → List ℕ → Bool
is_piece (Blank byte) rest = is_blank byte
is_piece (LineComment body) rest = list_all (λ byte. not (byte == 10)) body && ends_line rest
is_piece (BlockComment body) rest = not (has_close body)

-- These blanks and comments stand before the rest.
abbrev pub is_gap : List Piece → List ℕ → Bool
is_gap [] rest = true
is_gap (piece ∷ gap) rest = is_piece piece (gap_text gap ++ rest) && is_gap gap rest

-- ---- tokens

abbrev pub is_reserved : List ℕ → Bool
is_reserved bytes = list_any (λ word. bytes_eq bytes (keyword_text word)) all_keywords

-- A letter or `_`, then letters, digits and `_`, and no reserved word.
abbrev pub is_name : List ℕ → Bool
is_name bytes = starts is_letter bytes && list_all is_word bytes && not (is_reserved bytes)

-- These bytes are the number: decimal without leading zeros, and a value of `i64`.
abbrev pub IsNumeral : List ℕ → ℕ → Type 0
IsNumeral bytes n = (bytes ≡ decimal n) × (n < 2 ^ 63)

-- these bytes are this token
abbrev pub IsLexeme : List ℕ → Token → Type 0
IsLexeme bytes (Name name) = (bytes ≡ name) × IsTrue (is_name name)
IsLexeme bytes (Number value) = (n : ℕ) × (value ≡ pos n) × IsNumeral bytes n
IsLexeme bytes (Word word) = bytes ≡ keyword_text word
IsLexeme bytes (Mark sign) = bytes ≡ sign_text sign

-- a comment begins with the text's first byte
abbrev pub opens_comment : List ℕ → Bool
opens_comment text = starts_with nat_eq text (codes "//") || starts_with nat_eq text (codes "/*")

-- a sign longer than this many bytes begins with the text's first byte
abbrev pub has_longer_sign : ℕ → List ℕ → Bool
has_longer_sign size text = list_any (λ sign. not (nat_le (length (sign_text sign)) size) && starts_with nat_eq text (sign_text sign)) all_signs

-- A token ends where this text follows it: a name, number or reserved word at the end of the whole run of letters,
-- digits and `_`, a sign where neither a longer one nor a comment begins at the same place.
abbrev pub ends_before : Token → List ℕ → Bool
ends_before (Name name) rest = not (starts is_word rest)
ends_before (Number value) rest = not (starts is_word rest)
ends_before (Word word) rest = not (starts is_word rest)
ends_before (Mark sign) rest = not (has_longer_sign (length (sign_text sign)) (sign_text sign ++ rest)) && not (opens_comment (sign_text sign ++ rest))

-- The text is a gap, this token's lexeme, and the rest, and the token ends there.
pub record StartsWith (text : List ℕ) (token : Token) (rest : List ℕ) : Type 0 where
  pub gap : List Piece
  pub lexeme : List ℕ
  pub parts : text ≡ gap_text gap ++ lexeme ++ rest
  pub between : IsTrue (is_gap gap (lexeme ++ rest))
  pub spelled : IsLexeme lexeme token
  pub ends : IsTrue (ends_before token rest)

-- ---- where the tokens end

-- The text begins with a byte that is no blank and begins no token and no comment.
abbrev pub is_bad_byte : List ℕ → Bool
is_bad_byte text = starts (λ byte. not (is_blank byte || is_word byte)) text && not (has_longer_sign 0 text)

-- The text begins with a digit, and the run of letters, digits and `_` that begins there is no number.
pub record IsBadNumber (text : List ℕ) : Type 0 where
  pub run : List ℕ
  pub rest : List ℕ
  pub parts : text ≡ run ++ rest
  pub digit : IsTrue (starts is_digit run)
  pub word : IsTrue (list_all is_word run)
  pub whole : IsFalse (starts is_word rest)
  pub wrong : (n : ℕ) → IsNumeral run n → ⊥

-- the text begins with a comment that is not closed
abbrev pub IsOpenComment : List ℕ → Type 0
IsOpenComment text = (body : List ℕ) × (text ≡ codes "/*" ++ body) × IsFalse (has_close body)

-- With this text, at this offset, no token begins. A comment that is not closed is refused at the end of the text.
abbrev pub IsEnding : ℕ → List ℕ → Ending → Type 0
IsEnding offset text Reached = text ≡ []
IsEnding offset text (Stopped BadByte place) = IsTrue (is_bad_byte text) × (place ≡ offset)
IsEnding offset text (Stopped BadNumber place) = IsBadNumber text × (place ≡ offset)
IsEnding offset text (Stopped Unexpected place) = IsOpenComment text × (place ≡ offset + length text)
IsEnding offset text (Stopped TooDeep place) = ⊥
IsEnding offset text (Stopped TooMany place) = ⊥

-- the text is a gap, and then no token begins
pub record EndsWith (offset : ℕ) (text : List ℕ) (ending : Ending) : Type 0 where
  pub gap : List Piece
  pub rest : List ℕ
  pub parts : text ≡ gap_text gap ++ rest
  pub between : IsTrue (is_gap gap rest)
  pub ends : IsEnding (offset + length (gap_text gap)) rest ending

-- The text, of which the first byte has this offset, is these tokens as far as it can be divided, with gaps before,
-- between and after them.
abbrev pub Divides : ℕ → List ℕ → List Placed → Ending → Type 0
Divides offset text [] ending = EndsWith offset text ending
Divides offset text (placed ∷ more) ending =
    (rest : List ℕ) × (start : StartsWith text placed.token rest) × (placed.offset ≡ offset + length (gap_text start.gap))
    × Divides (placed.offset + length start.lexeme) rest more ending

-- the tokens without their offsets
abbrev pub tokens_of : List Placed → List Token
tokens_of places = map (λ placed. placed.token) places
