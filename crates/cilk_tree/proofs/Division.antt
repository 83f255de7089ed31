-- How a text is divided into tokens, piece after piece: each piece may stand before any text that passes its test.
use Rattle.std.specs.Prelude.{◌≡◌, ℕ, ◌+◌, ◌^◌, pos, negsuc, Bool, true, not, ◌&&◌, IsTrue, List, [], ◌∷◌, ◌++◌, length}
use Rattle.std.specs.Fmt.{signed_decimal}
use Rattle.std.specs.List.{list_all}
use Rattle.std.proofs.Common.{refl, sym, ap, subst, ◌∙◌, append_assoc, append-nil}
use Rattle.std.proofs.lemmas.Bool.{false≢true, and_parts, ltb-true}
use Rattle.std.proofs.lemmas.List.Folds.{list_all-append}
use Rattle.cilk_tree.specs.declared.ending.Ending.TheVariants.{Reached}
use Rattle.cilk_tree.specs.declared.token.Placed.{Placed}
use Rattle.cilk_tree.specs.declared.token.Token.{Token}
use Rattle.cilk_tree.specs.declared.token.Token.TheVariants.{Name, Number, Word, Mark}
use Rattle.cilk_tree.specs.Lexeme.{is_blank, is_word, starts, Piece, Blank, gap_text, is_gap, IsLexeme, ends_before, StartsWith, Divides, tokens_of}
use Rattle.cilk_tree.specs.Token.{keyword_text, sign_text}
use Rattle.cilk_tree.specs.Writable.{is_token}

-- ---- whole texts

-- Blanks, and behind them this text, are these tokens and nothing else.
abbrev pub Divided : List ℕ → List Token → Type 0
Divided text tokens =
    (offset : ℕ) (blanks : List ℕ) → IsTrue (list_all is_blank blanks)
    → (places : List Placed) × (tokens_of places ≡ tokens) × Divides offset (blanks ++ text) places Reached

gap_of : List ℕ → List Piece
gap_of [] = []
gap_of (byte ∷ blanks) = Blank byte ∷ gap_of blanks

gap_of_text : (blanks : List ℕ) → gap_text (gap_of blanks) ≡ blanks
unfolding gap_of
gap_of_text [] = refl
gap_of_text (byte ∷ blanks) = ap (λ bytes. byte ∷ bytes) (gap_of_text blanks)

gap_of_is : (blanks rest : List ℕ) → is_gap (gap_of blanks) rest ≡ list_all is_blank blanks
unfolding gap_of
gap_of_is [] rest = refl
gap_of_is (byte ∷ blanks) rest = ap (λ is. is_blank byte && is) (gap_of_is blanks rest)

pub divided_end : Divided [] []
divided_end = λ offset blanks all. (
  [],
  refl,
  record {
    gap = gap_of blanks;
    rest = [];
    parts = ap (λ bytes. bytes ++ []) (sym (gap_of_text blanks));
    between = gap_of_is blanks [] ∙ all;
    ends = refl;
  },
)

divided_blank : (byte : ℕ) (rest : List ℕ) (later : List Token) → IsTrue (is_blank byte) → Divided rest later → Divided (byte ∷ rest) later
divided_blank byte rest later blank divided = λ offset blanks all.
    let more : IsTrue (list_all is_blank (blanks ++ byte ∷ [])) = list_all-append is_blank blanks (byte ∷ []) ∙ ap (λ is. is && list_all is_blank (byte ∷ [])) all ∙ ap (λ is. is && true) blank in
    let found = divided offset (blanks ++ byte ∷ []) more in
    (found.0, found.1, subst (λ bytes. Divides offset bytes found.0 Reached) (append_assoc blanks (byte ∷ []) rest) found.2)

pub divided_blanks : (bytes rest : List ℕ) (later : List Token) → IsTrue (list_all is_blank bytes) → Divided rest later → Divided (bytes ++ rest) later
divided_blanks [] rest later all divided = divided
divided_blanks (byte ∷ bytes) rest later all divided =
    let parts = and_parts (is_blank byte) (list_all is_blank bytes) all in
    divided_blank byte (bytes ++ rest) later parts.0 (divided_blanks bytes rest later parts.1 divided)

pub divided_token : (token : Token) (lexeme rest : List ℕ) (later : List Token) → IsLexeme lexeme token → IsTrue (ends_before token rest) → Divided rest later → Divided (lexeme ++ rest) (token ∷ later)
divided_token token lexeme rest later spelled ends divided = λ offset blanks all.
    let start : StartsWith (blanks ++ (lexeme ++ rest)) token rest = record {
      gap = gap_of blanks;
      lexeme = lexeme;
      parts = sym (append_assoc blanks lexeme rest) ∙ ap (λ bytes. bytes ++ lexeme ++ rest) (sym (gap_of_text blanks));
      between = gap_of_is blanks (lexeme ++ rest) ∙ all;
      spelled = spelled;
      ends = ends;
    } in
    let place = offset + length (gap_text (gap_of blanks)) in
    let found = divided (place + length lexeme) [] refl in
    (record { offset = place; token = token } ∷ found.0, ap (λ tokens. token ∷ tokens) found.1, (rest, start, refl, found.2))

-- ---- pieces of texts

-- Where the tokens are those of the language, the bytes before a text that passes the test are these tokens, and behind
-- them the text's.
pub record Reads (before : List ℕ → Bool) (text : List ℕ) (tokens : List Token) : Type 0 where
  pub reads : IsTrue (list_all is_token tokens) → (rest : List ℕ) (later : List Token) → IsTrue (before rest) → Divided rest later → Divided (text ++ rest) (tokens ++ later)

-- what a piece that ends with a sign, or with a blank, may stand before
abbrev pub anything : List ℕ → Bool
anything rest = true

-- what a piece that ends with a word or a number may stand before
abbrev pub no_word : List ℕ → Bool
no_word rest = not (starts is_word rest)

-- one piece and then another
pub Reads-then : {before between : List ℕ → Bool} {text more : List ℕ} {tokens others : List Token}
    → Reads before text tokens → Reads between more others
    → (IsTrue (list_all is_token others) → (rest : List ℕ) → IsTrue (between rest) → IsTrue (before (more ++ rest)))
    → Reads between (text ++ more) (tokens ++ others)
Reads-then {before} {between} {text} {more} {tokens} {others} first second seam = record {
  reads = λ valid rest later h divided.
      let valids = and_parts (list_all is_token tokens) (list_all is_token others) (sym (list_all-append is_token tokens others) ∙ valid) in
      let inner = second.reads valids.1 rest later h divided in
      let outer = first.reads valids.0 (more ++ rest) (others ++ later) (seam valids.1 rest h) inner in
      subst (λ bytes. Divided bytes (tokens ++ others ++ later)) (sym (append_assoc text more rest)) (subst (λ list. Divided (text ++ (more ++ rest)) list) (sym (append_assoc tokens others later)) outer);
}

-- where the first piece may stand before anything
pub Reads-on : {between : List ℕ → Bool} {text more : List ℕ} {tokens others : List Token} → Reads anything text tokens → Reads between more others → Reads between (text ++ more) (tokens ++ others)
Reads-on first second = Reads-then first second (λ valid rest h. refl)

pub Reads-same : {before : List ℕ → Bool} {text other : List ℕ} {tokens others : List Token} → text ≡ other → tokens ≡ others → Reads before text tokens → Reads before other others
Reads-same {before} {text} {other} {tokens} {others} same alike first = subst (λ bytes. Reads before bytes others) same (subst (Reads before text) alike first)

pub Reads-nothing : Reads anything [] []
Reads-nothing = record { reads = λ valid rest later h divided. divided }

pub Reads-blanks : (bytes : List ℕ) → IsTrue (list_all is_blank bytes) → Reads anything bytes []
Reads-blanks bytes all = record { reads = λ valid rest later h divided. divided_blanks bytes rest later all divided }

-- how a token is printed
abbrev pub token_text : Token → List ℕ
token_text (Name name) = name
token_text (Number value) = signed_decimal value
token_text (Word word) = keyword_text word
token_text (Mark sign) = sign_text sign

pub token_text-IsLexeme : (token : Token) → IsTrue (is_token token) → IsLexeme (token_text token) token
token_text-IsLexeme (Name name) is = (refl, is)
token_text-IsLexeme (Number (pos n)) is = (n, refl, (refl, ltb-true n (2 ^ 63) is))
token_text-IsLexeme (Number (negsuc n)) is = absurd (false≢true is)
token_text-IsLexeme (Word word) is = refl
token_text-IsLexeme (Mark sign) is = refl

pub Reads-token : (token : Token) → Reads (ends_before token) (token_text token) (token ∷ [])
Reads-token token = record { reads = λ valid rest later h divided. divided_token token (token_text token) rest later (token_text-IsLexeme token (and_parts (is_token token) true valid).0) h divided }

-- a whole text that may stand at its end
pub Reads-whole : (text : List ℕ) (tokens : List Token) → Reads anything text tokens → IsTrue (list_all is_token tokens) → (places : List Placed) × (tokens_of places ≡ tokens) × Divides 0 text places Reached
Reads-whole text tokens whole valid =
    subst (λ list. (places : List Placed) × (tokens_of places ≡ list) × Divides 0 text places Reached) (append-nil tokens)
    (subst (λ bytes. (places : List Placed) × (tokens_of places ≡ tokens ++ []) × Divides 0 bytes places Reached) (append-nil text)
    (whole.reads valid [] [] refl divided_end 0 [] refl))

pub Reads-before : {before other : List ℕ → Bool} {text : List ℕ} {tokens : List Token} → Reads before text tokens → ((rest : List ℕ) → IsTrue (other rest) → IsTrue (before rest)) → Reads other text tokens
Reads-before first weaker = record { reads = λ valid rest later h divided. first.reads valid rest later (weaker rest h) divided }

-- ---- pieces that are written out

pub data Atom : Type 0 where
  Space : Atom
  Lexed : (token : Token) → Atom

abbrev pub atom_text : Atom → List ℕ
atom_text Space = 32 ∷ []
atom_text (Lexed token) = token_text token

abbrev pub atoms_text : List Atom → List ℕ
atoms_text [] = []
atoms_text (atom ∷ atoms) = atom_text atom ++ atoms_text atoms

abbrev pub atoms_tokens : List Atom → List Token
atoms_tokens [] = []
atoms_tokens (Space ∷ atoms) = atoms_tokens atoms
atoms_tokens (Lexed token ∷ atoms) = token ∷ atoms_tokens atoms

-- each token ends before the atoms behind it, and before this text behind those
abbrev pub is_chain : List Atom → List ℕ → Bool
is_chain [] rest = true
is_chain (Space ∷ atoms) rest = is_chain atoms rest
is_chain (Lexed token ∷ atoms) rest = ends_before token (atoms_text atoms ++ rest) && is_chain atoms rest

Reads-chain : (atoms : List Atom) → Reads (is_chain atoms) (atoms_text atoms) (atoms_tokens atoms)
Reads-chain [] = Reads-nothing
Reads-chain (Space ∷ atoms) = Reads-then (Reads-blanks (32 ∷ []) refl) (Reads-chain atoms) (λ valid rest h. refl)
Reads-chain (Lexed token ∷ atoms) =
    Reads-then (Reads-token token) (Reads-before (Reads-chain atoms) (λ rest h. (and_parts (ends_before token (atoms_text atoms ++ rest)) (is_chain atoms rest) h).1))
    (λ valid rest h. (and_parts (ends_before token (atoms_text atoms ++ rest)) (is_chain atoms rest) h).0)

-- atoms that may stand before anything
pub Reads-fixed : (atoms : List Atom) → ((rest : List ℕ) → IsTrue (is_chain atoms rest)) → Reads anything (atoms_text atoms) (atoms_tokens atoms)
Reads-fixed atoms free = Reads-before (Reads-chain atoms) (λ rest h. free rest)
