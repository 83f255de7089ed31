-- What bytes a token may have, that no other token has them, and where a text begins with no token.
use Rattle.std.proofs.Common.{◌≡◌, ◌≢◌, ◌⊎◌, inl, inr, ℕ, ℤ, pos, ◌+◌, ◌≤◌, ◌==◌, Bool, true, false, not, ◌&&◌, ◌||◌, IsTrue, IsFalse, List, [], ◌∷◌, ◌++◌, cond, length, take, drop, sym, refl, ap, ◌∙◌, subst, ⊎_elim, arith, length-append}
use Rattle.std.specs.Prelude.{codes}
use Rattle.std.specs.Fmt.{decimal}
use Rattle.std.specs.List.{list_all}
use Rattle.std.proofs.lemmas.Bool.{and_parts, or_parts, or_from, or_left, or_right, both_ways, not-true, false_from_ne_true, eqb-true}
use Rattle.std.proofs.lemmas.Bool.Decides.{nat_tests}
use Rattle.std.proofs.lemmas.Fmt.{decimal_injective}
use Rattle.std.proofs.lemmas.List.{take_at, drop_at}
use Rattle.std.proofs.lemmas.Slice.Eq.{bytes_eq-Decides}
use Rattle.cilk_tree.specs.declared.ending.Ending.{Ending}
use Rattle.cilk_tree.specs.declared.ending.Ending.TheVariants.{Reached, Stopped}
use Rattle.cilk_tree.specs.declared.kind.Kind.TheVariants.{BadByte, BadNumber, Unexpected, TooDeep, TooMany}
use Rattle.cilk_tree.specs.declared.token.Keyword.{Keyword}
use Rattle.cilk_tree.specs.declared.token.Sign.{Sign}
use Rattle.cilk_tree.specs.declared.token.Sign.TheVariants.{Slash}
use Rattle.cilk_tree.specs.declared.token.Token.{Token}
use Rattle.cilk_tree.specs.declared.token.Token.TheVariants.{Name, Number, Word, Mark}
use Rattle.cilk_tree.specs.Lexeme.{is_blank, is_digit, is_letter, is_word, starts, is_name, IsNumeral, IsLexeme, ends_before, opens_comment, has_longer_sign, is_bad_byte, IsBadNumber, IsEnding}
use Rattle.cilk_tree.specs.Token.{keyword_text, sign_text}
use Rattle.cilk_reader.specs.Heads.{begins_piece, StartsAt}
use Rattle.cilk_tree.proofs.LexemeSizes.{lexeme_some}
use Rattle.cilk_reader.proofs.Gaps.{prefix_from, prefix_split, plain_from}
use Rattle.cilk_reader.proofs.Numbers.{decimal_digits}
use Rattle.cilk_reader.proofs.Runs.{run_unique, starts_weaker, starts_apart, starts_no, starts_from_all, starts_append, all_weaker}
use Rattle.cilk_tree.proofs.LexemeSizes.{starts_some}
use Rattle.cilk_reader.proofs.Tables.{not_reserved, longest}
use Rattle.cilk_tree.proofs.Tables.{of_keywords, of_signs, keyword_injective, sign_injective}

-- ---- kinds of bytes

-- a byte of a sign: no blank, and none of a word
abbrev is_mark : ℕ → Bool
is_mark byte = not (is_word byte) && not (is_blank byte)

digit_word : (byte : ℕ) → is_digit byte ≡ true → is_word byte ≡ true
digit_word byte h = or_right (is_letter byte) (is_digit byte) h

letter_word : (byte : ℕ) → is_letter byte ≡ true → is_word byte ≡ true
letter_word byte h = or_left (is_letter byte) (is_digit byte) h

letter_digit : (byte : ℕ) → is_letter byte ≡ true → is_digit byte ≡ true → ⊥
letter_digit byte letter digit = grind (arith, nat_tests)

word_not_blank : (byte : ℕ) → is_word byte ≡ true → is_blank byte ≡ false
word_not_blank byte word = grind (arith, nat_tests)

word_not_slash : (byte : ℕ) → is_word byte ≡ true → (byte == 47) ≡ false
word_not_slash byte word = grind (arith, nat_tests)

mark_word : (byte : ℕ) → is_mark byte ≡ true → is_word byte ≡ true → ⊥
mark_word byte mark word = grind (arith, nat_tests)

mark_not_blank : (byte : ℕ) → is_mark byte ≡ true → is_blank byte ≡ false
mark_not_blank byte mark = not-true _ (and_parts _ _ mark).1

-- ---- the bytes of each token

keyword_bytes : (word : Keyword) → IsTrue (list_all is_word (keyword_text word)) × IsTrue (starts is_letter (keyword_text word))
keyword_bytes word = (of_keywords (λ w. list_all is_word (keyword_text w)) refl word, of_keywords (λ w. starts is_letter (keyword_text w)) refl word)

sign_bytes : (sign : Sign) → IsTrue (starts is_mark (sign_text sign))
sign_bytes sign = of_signs (λ s. starts is_mark (sign_text s)) refl sign

name_bytes : (name : List ℕ) → IsTrue (is_name name) → IsTrue (list_all is_word name) × IsTrue (starts is_letter name)
name_bytes name h = let parts = and_parts _ _ (and_parts _ _ h).0 in (parts.1, parts.0)

name_not_reserved : (name : List ℕ) → IsTrue (is_name name) → (word : Keyword) → name ≢ keyword_text word
name_not_reserved name h word same =
    both_ways _ (not_reserved name (not-true _ (and_parts _ _ h).1) word) ((bytes_eq-Decides name (keyword_text word)).1 same)

numeral_bytes : (bytes : List ℕ) (n : ℕ) → IsNumeral bytes n → IsTrue (list_all is_word bytes) × IsTrue (starts is_digit bytes)
numeral_bytes bytes n (spelled, small) =
    let digits = decimal_digits n small in
    (subst (λ bs. IsTrue (list_all is_word bs)) (sym spelled) (all_weaker is_digit is_word (decimal n) digit_word digits.0), subst (λ bs. IsTrue (starts is_digit bs)) (sym spelled) (starts_from_all is_digit (decimal n) digits.0 digits.1))

-- the token is no sign
abbrev IsWordToken : Token → Type 0
IsWordToken (Name name) = Unit {0}
IsWordToken (Number value) = Unit {0}
IsWordToken (Word word) = Unit {0}
IsWordToken (Mark sign) = ⊥

token_kind : (token : Token) → IsWordToken token ⊎ ((sign : Sign) × (token ≡ Mark sign))
token_kind (Name name) = inl tt
token_kind (Number value) = inl tt
token_kind (Word word) = inl tt
token_kind (Mark sign) = inr (sign, refl)

word_token_bytes : (token : Token) (bytes : List ℕ) → IsWordToken token → IsLexeme bytes token → IsTrue (list_all is_word bytes) × IsTrue (starts is_word bytes)
word_token_bytes (Name name) bytes w h =
    let parts = name_bytes name h.1 in
    subst (λ bs. IsTrue (list_all is_word bs) × IsTrue (starts is_word bs)) (sym h.0) (parts.0, starts_weaker is_letter is_word name letter_word parts.1)
word_token_bytes (Number value) bytes w (n, is, numeral) =
    let parts = numeral_bytes bytes n numeral in
    (parts.0, starts_weaker is_digit is_word bytes digit_word parts.1)
word_token_bytes (Word word) bytes w h =
    let parts = keyword_bytes word in
    subst (λ bs. IsTrue (list_all is_word bs) × IsTrue (starts is_word bs)) (sym h) (parts.0, starts_weaker is_letter is_word (keyword_text word) letter_word parts.1)
word_token_bytes (Mark sign) bytes w h = absurd w

word_token_ends : (token : Token) (rest : List ℕ) → IsWordToken token → IsTrue (ends_before token rest) → IsFalse (starts is_word rest)
word_token_ends (Name name) rest w h = not-true _ h
word_token_ends (Number value) rest w h = not-true _ h
word_token_ends (Word word) rest w h = not-true _ h
word_token_ends (Mark sign) rest w h = absurd w

mark_bytes : (sign : Sign) (bytes : List ℕ) → bytes ≡ sign_text sign → IsTrue (starts is_mark bytes)
mark_bytes sign bytes h = subst (λ bs. IsTrue (starts is_mark bs)) (sym h) (sign_bytes sign)

-- ---- no two tokens have the same bytes

number_injective : (bytes : List ℕ) (value other : ℤ) → IsLexeme bytes (Number value) → IsLexeme bytes (Number other) → value ≡ other
number_injective bytes value other (n, is, (spelled, small)) (m, is_too, (spelled_too, small_too)) =
    is ∙ ap pos (decimal_injective n m (omega arith) (omega arith) (sym spelled ∙ spelled_too)) ∙ sym is_too

-- a number begins with a digit, and a name and a reserved word with none
digit_first : (bytes : List ℕ) (value : ℤ) → IsLexeme bytes (Number value) → IsTrue (starts is_digit bytes)
digit_first bytes value (n, is, numeral) = (numeral_bytes bytes n numeral).1

name_no_digit : (bytes name : List ℕ) → IsLexeme bytes (Name name) → IsTrue (starts is_digit bytes) → ⊥
name_no_digit bytes name h digit =
    starts_apart is_letter is_digit bytes letter_digit (subst (λ bs. IsTrue (starts is_letter bs)) (sym h.0) (name_bytes name h.1).1) digit

keyword_no_digit : (bytes : List ℕ) (word : Keyword) → IsLexeme bytes (Word word) → IsTrue (starts is_digit bytes) → ⊥
keyword_no_digit bytes word h digit =
    starts_apart is_letter is_digit bytes letter_digit (subst (λ bs. IsTrue (starts is_letter bs)) (sym h) (keyword_bytes word).1) digit

-- no two tokens that are no signs have the same bytes
same_word_token : (token other : Token) (bytes : List ℕ) → IsWordToken token → IsWordToken other → IsLexeme bytes token → IsLexeme bytes other → token ≡ other
same_word_token (Name a) (Name b) bytes w v h k = ap Name (sym h.0 ∙ k.0)
same_word_token (Name a) (Number b) bytes w v h k = absurd (name_no_digit bytes a h (digit_first bytes b k))
same_word_token (Name a) (Word b) bytes w v h k = absurd (name_not_reserved a h.1 b (sym h.0 ∙ k))
same_word_token (Name a) (Mark b) bytes w v h k = absurd v
same_word_token (Number a) (Name b) bytes w v h k = absurd (name_no_digit bytes b k (digit_first bytes a h))
same_word_token (Number a) (Number b) bytes w v h k = ap Number (number_injective bytes a b h k)
same_word_token (Number a) (Word b) bytes w v h k = absurd (keyword_no_digit bytes b k (digit_first bytes a h))
same_word_token (Number a) (Mark b) bytes w v h k = absurd v
same_word_token (Word a) (Name b) bytes w v h k = absurd (name_not_reserved b k.1 a (sym k.0 ∙ h))
same_word_token (Word a) (Number b) bytes w v h k = absurd (keyword_no_digit bytes a h (digit_first bytes b k))
same_word_token (Word a) (Word b) bytes w v h k = ap Word (keyword_injective a b (sym h ∙ k))
same_word_token (Word a) (Mark b) bytes w v h k = absurd v
same_word_token (Mark a) other bytes w v h k = absurd w

-- ---- a text begins with one token at most

-- bytes that begin with a word and bytes that begin with a sign
word_mark_apart : (token : Token) (sign : Sign) (bytes others rest after : List ℕ) → bytes ++ rest ≡ others ++ after → IsWordToken token → IsLexeme bytes token → others ≡ sign_text sign → ⊥
word_mark_apart token sign bytes others rest after same w h k =
    starts_apart is_mark is_word (others ++ after) mark_word (starts_append is_mark others after (mark_bytes sign others k)) (subst (λ bs. IsTrue (starts is_word bs)) same (starts_append is_word bytes rest (word_token_bytes token bytes w h).1))

same_cut : (front other rest after : List ℕ) → front ++ rest ≡ other ++ after → length front ≡ length other → (front ≡ other) × (rest ≡ after)
same_cut front other rest after same len = (
  sym (take_at front rest (length front) refl) ∙ ap (take (length front)) same ∙ take_at other after (length front) (sym len),
  sym (drop_at front rest (length front) refl) ∙ ap (drop (length front)) same ∙ drop_at other after (length front) (sym len),
)

sign_ends : (sign : Sign) (rest : List ℕ) → IsTrue (ends_before (Mark sign) rest) → IsFalse (has_longer_sign (length (sign_text sign)) (sign_text sign ++ rest)) × IsFalse (opens_comment (sign_text sign ++ rest))
sign_ends sign rest ends = let parts = and_parts _ _ ends in (not-true _ parts.0, not-true _ parts.1)

sign_no_longer : (sign other : Sign) (rest after : List ℕ) → sign_text sign ++ rest ≡ sign_text other ++ after → IsTrue (ends_before (Mark sign) rest) → length (sign_text other) ≤ length (sign_text sign)
sign_no_longer sign other rest after same ends =
    longest (length (sign_text sign)) (sign_text sign ++ rest) (sign_ends sign rest ends).0 other (prefix_from (sign_text sign ++ rest) (sign_text other) after same)

same_mark : (sign other : Sign) (rest after : List ℕ) → sign_text sign ++ rest ≡ sign_text other ++ after → IsTrue (ends_before (Mark sign) rest) → IsTrue (ends_before (Mark other) after) → (sign ≡ other) × (rest ≡ after)
same_mark sign other rest after same ends ends_too =
    let parts = same_cut (sign_text sign) (sign_text other) rest after same (omega (arith, sign_no_longer sign other rest after same ends, sign_no_longer other sign after rest (sym same) ends_too)) in
    (sign_injective sign other parts.0, parts.1)

pub record IsSameStart {text : List ℕ} {token other : Token} {rest after : List ℕ} (s : StartsAt text token rest) (t : StartsAt text other after) : Type 0 where
  pub tokens : token ≡ other
  pub lexemes : s.lexeme ≡ t.lexeme
  pub rests : rest ≡ after

pub same_start : (text : List ℕ) (token other : Token) (rest after : List ℕ) (s : StartsAt text token rest) (t : StartsAt text other after) → IsSameStart s t
same_start text token other rest after s t =
    let same : s.lexeme ++ rest ≡ t.lexeme ++ after = sym s.parts ∙ t.parts in
    ⊎_elim
    (λ w. ⊎_elim
    (λ v.
    let run = run_unique is_word s.lexeme t.lexeme rest after same (word_token_bytes token s.lexeme w s.spelled).0 (word_token_bytes other t.lexeme v t.spelled).0 (word_token_ends token rest w s.ends) (word_token_ends other after v t.ends) in
    record { tokens = same_word_token token other t.lexeme w v (subst (λ bs. IsLexeme bs token) run.0 s.spelled) t.spelled; lexemes = run.0; rests = run.1 })
    (λ n. absurd (word_mark_apart token n.0 s.lexeme t.lexeme rest after same w s.spelled (subst (IsLexeme t.lexeme) n.1 t.spelled)))
    (token_kind other))
    (λ m. ⊎_elim
    (λ v. absurd (word_mark_apart other m.0 t.lexeme s.lexeme after rest (sym same) v t.spelled (subst (IsLexeme s.lexeme) m.1 s.spelled)))
    (λ n.
    let spelled : s.lexeme ≡ sign_text m.0 = subst (IsLexeme s.lexeme) m.1 s.spelled in
    let spelled_too : t.lexeme ≡ sign_text n.0 = subst (IsLexeme t.lexeme) n.1 t.spelled in
    let both = same_mark m.0 n.0 rest after (sym (ap (λ bs. bs ++ rest) spelled) ∙ same ∙ ap (λ bs. bs ++ after) spelled_too) (subst (λ k. IsTrue (ends_before k rest)) m.1 s.ends) (subst (λ k. IsTrue (ends_before k after)) n.1 t.ends) in
    record { tokens = m.1 ∙ ap Mark both.0 ∙ sym n.1; lexemes = spelled ∙ ap sign_text both.0 ∙ sym spelled_too; rests = both.1 })
    (token_kind other))
    (token_kind token)

-- ---- what begins with no gap

-- a text that does not begin with `/` opens no comment
no_comment : (text : List ℕ) → IsFalse (starts (λ byte. byte == 47) text) → IsFalse (opens_comment text)
no_comment text none =
    or_from _ _
    (false_from_ne_true _ (λ h. both_ways _ none (subst (λ t. IsTrue (starts (λ byte. byte == 47) t)) (sym (prefix_split text (codes "//") h)) refl)))
    (false_from_ne_true _ (λ h. both_ways _ none (subst (λ t. IsTrue (starts (λ byte. byte == 47) t)) (sym (prefix_split text (codes "/*") h)) refl)))

word_plain : (text : List ℕ) → IsTrue (starts is_word text) → IsFalse (begins_piece text)
word_plain text word =
    plain_from text (starts_no is_word is_blank text word_not_blank word) (no_comment text (starts_no is_word (λ byte. byte == 47) text word_not_slash word))

-- a token begins with no blank and no comment
pub token_plain : (text : List ℕ) (token : Token) (rest : List ℕ) → StartsAt text token rest → IsFalse (begins_piece text)
token_plain text token rest s =
    ⊎_elim
    (λ w. subst (λ t. IsFalse (begins_piece t)) (sym s.parts) (word_plain (s.lexeme ++ rest) (starts_append is_word s.lexeme rest (word_token_bytes token s.lexeme w s.spelled).1)))
    (λ m.
    let spelled : s.lexeme ≡ sign_text m.0 = subst (IsLexeme s.lexeme) m.1 s.spelled in
    let whole : text ≡ sign_text m.0 ++ rest = s.parts ∙ ap (λ bs. bs ++ rest) spelled in
    subst (λ t. IsFalse (begins_piece t)) (sym whole)
    (plain_from (sign_text m.0 ++ rest) (starts_no is_mark is_blank (sign_text m.0 ++ rest) mark_not_blank (starts_append is_mark (sign_text m.0) rest (sign_bytes m.0))) (sign_ends m.0 rest (subst (λ k. IsTrue (ends_before k rest)) m.1 s.ends)).1))
    (token_kind token)

-- no sign begins with a bad byte
bad_no_sign : (text : List ℕ) → IsTrue (is_bad_byte text) → (sign : Sign) (rest : List ℕ) → text ≡ sign_text sign ++ rest → ⊥
bad_no_sign text bad sign rest e =
    let some = starts_some is_mark (sign_text sign) (sign_bytes sign) in
    omega (arith, some, longest 0 text (not-true _ (and_parts _ _ bad).1) sign (prefix_from text (sign_text sign) rest e))

bad_plain : (text : List ℕ) → IsTrue (is_bad_byte text) → IsFalse (begins_piece text)
bad_plain text bad =
    plain_from text
    (starts_no (λ byte. not (is_blank byte || is_word byte)) is_blank text (λ byte h. (or_parts _ _ (not-true _ h)).0) (and_parts _ _ bad).0)
    (or_from _ _
    (false_from_ne_true _ (λ h. bad_no_sign text bad Slash (codes "/" ++ drop 2 text) (prefix_split text (codes "//") h)))
    (false_from_ne_true _ (λ h. bad_no_sign text bad Slash (codes "*" ++ drop 2 text) (prefix_split text (codes "/*") h))))

bad_number_digit : (text : List ℕ) → IsBadNumber text → IsTrue (starts is_digit text)
bad_number_digit text bad = subst (λ t. IsTrue (starts is_digit t)) (sym bad.parts) (starts_append is_digit bad.run bad.rest bad.digit)

-- what ends the tokens begins with no blank and no whole comment
pub ending_plain : (offset : ℕ) (text : List ℕ) (ending : Ending) → IsEnding offset text ending → IsFalse (begins_piece text)
ending_plain offset text Reached e = subst (λ t. IsFalse (begins_piece t)) (sym e) refl
ending_plain offset text (Stopped BadByte place) h = bad_plain text h.0
ending_plain offset text (Stopped BadNumber place) h = word_plain text (starts_weaker is_digit is_word text digit_word (bad_number_digit text h.0))
ending_plain offset text (Stopped Unexpected place) ((body, e, unclosed), at) = subst (λ t. IsFalse (begins_piece t)) (sym e) unclosed
ending_plain offset text (Stopped TooDeep place) h = absurd h
ending_plain offset text (Stopped TooMany place) h = absurd h

-- ---- a text that begins with no token

number_only : (token : Token) (bytes : List ℕ) → IsTrue (starts is_digit bytes) → ((n : ℕ) → IsNumeral bytes n → ⊥) → IsLexeme bytes token → ⊥
number_only (Name a) bytes digit wrong h = name_no_digit bytes a h digit
number_only (Number value) bytes digit wrong h = wrong h.0 h.2
number_only (Word word) bytes digit wrong h = keyword_no_digit bytes word h digit
number_only (Mark sign) bytes digit wrong h = starts_apart is_mark is_word bytes mark_word (mark_bytes sign bytes h) (starts_weaker is_digit is_word bytes digit_word digit)

bad_number_no_token : (text : List ℕ) (token : Token) (rest : List ℕ) → IsBadNumber text → StartsAt text token rest → ⊥
bad_number_no_token text token rest bad s =
    ⊎_elim
    (λ w.
    let run = run_unique is_word s.lexeme bad.run rest bad.rest (sym s.parts ∙ bad.parts) (word_token_bytes token s.lexeme w s.spelled).0 bad.word (word_token_ends token rest w s.ends) bad.whole in
    number_only token bad.run bad.digit bad.wrong (subst (λ bs. IsLexeme bs token) run.0 s.spelled))
    (λ m.
    starts_apart is_mark is_word text mark_word
    (subst (λ t. IsTrue (starts is_mark t)) (sym s.parts) (starts_append is_mark s.lexeme rest (mark_bytes m.0 s.lexeme (subst (IsLexeme s.lexeme) m.1 s.spelled))))
    (starts_weaker is_digit is_word text digit_word (bad_number_digit text bad)))
    (token_kind token)

bad_byte_no_token : (text : List ℕ) (token : Token) (rest : List ℕ) → IsTrue (is_bad_byte text) → StartsAt text token rest → ⊥
bad_byte_no_token text token rest bad s =
    ⊎_elim
    (λ w.
    starts_apart (λ byte. not (is_blank byte || is_word byte)) is_word text
    (λ byte h word. both_ways _ (or_parts _ _ (not-true _ h)).1 word)
    (and_parts _ _ bad).0
    (subst (λ t. IsTrue (starts is_word t)) (sym s.parts) (starts_append is_word s.lexeme rest (word_token_bytes token s.lexeme w s.spelled).1)))
    (λ m. bad_no_sign text bad m.0 rest (s.parts ∙ ap (λ bs. bs ++ rest) (subst (IsLexeme s.lexeme) m.1 s.spelled)))
    (token_kind token)

open_comment_no_token : (text : List ℕ) (token : Token) (rest : List ℕ) → IsTrue (opens_comment text) → StartsAt text token rest → ⊥
open_comment_no_token text token rest opened s =
    ⊎_elim
    (λ w.
    both_ways _ (no_comment text (starts_no is_word (λ byte. byte == 47) text word_not_slash (subst (λ t. IsTrue (starts is_word t)) (sym s.parts) (starts_append is_word s.lexeme rest (word_token_bytes token s.lexeme w s.spelled).1)))) opened)
    (λ m.
    let spelled : s.lexeme ≡ sign_text m.0 = subst (IsLexeme s.lexeme) m.1 s.spelled in
    both_ways _ (sign_ends m.0 rest (subst (λ k. IsTrue (ends_before k rest)) m.1 s.ends)).1 (subst (λ t. IsTrue (opens_comment t)) (s.parts ∙ ap (λ bs. bs ++ rest) spelled) opened))
    (token_kind token)

-- a text begins with a token, or the tokens end there
pub token_or_ending : (offset : ℕ) (text : List ℕ) (token : Token) (rest : List ℕ) (ending : Ending) → StartsAt text token rest → IsEnding offset text ending → ⊥
token_or_ending offset text token rest Reached s e =
    omega (arith, lexeme_some s.lexeme token s.spelled, ap length (sym s.parts ∙ e), length-append s.lexeme rest)
token_or_ending offset text token rest (Stopped BadByte place) s h = bad_byte_no_token text token rest h.0 s
token_or_ending offset text token rest (Stopped BadNumber place) s h = bad_number_no_token text token rest h.0 s
token_or_ending offset text token rest (Stopped Unexpected place) s ((body, e, unclosed), at) =
    open_comment_no_token text token rest (subst (λ t. IsTrue (opens_comment t)) (sym e) refl) s
token_or_ending offset text token rest (Stopped TooDeep place) s h = h
token_or_ending offset text token rest (Stopped TooMany place) s h = h

-- where the tokens end with this text, if it begins with none
abbrev ending_of : ℕ → List ℕ → Ending
ending_of offset [] = Reached
ending_of offset (byte ∷ rest) =
    cond (is_digit byte) (Stopped BadNumber offset) (cond (byte == 47) (Stopped Unexpected (offset + length (byte ∷ rest))) (Stopped BadByte offset))

bad_no_word : (byte : ℕ) (rest : List ℕ) → IsTrue (is_bad_byte (byte ∷ rest)) → IsFalse (is_word byte)
bad_no_word byte rest bad = (or_parts _ _ (not-true _ (and_parts _ _ bad).0)).1

bad_no_slash : (byte : ℕ) (rest : List ℕ) → IsTrue (is_bad_byte (byte ∷ rest)) → (byte == 47) ≡ false
bad_no_slash byte rest bad = false_from_ne_true _ (λ h. bad_no_sign (byte ∷ rest) bad Slash rest (ap (λ b. b ∷ rest) (eqb-true byte 47 h)))

other_ending : (offset byte : ℕ) (rest : List ℕ) → is_word byte ≡ false → (byte == 47) ≡ false → Stopped BadByte offset ≡ ending_of offset (byte ∷ rest)
other_ending offset byte rest no_word no_slash =
    let no_digit : is_digit byte ≡ false = (or_parts _ _ no_word).1 in
    rw (no_digit, no_slash)

bad_byte_ending : (offset : ℕ) (text : List ℕ) → IsTrue (is_bad_byte text) → Stopped BadByte offset ≡ ending_of offset text
bad_byte_ending offset [] bad = cc
bad_byte_ending offset (byte ∷ rest) bad = other_ending offset byte rest (bad_no_word byte rest bad) (bad_no_slash byte rest bad)

bad_number_ending : (offset : ℕ) (text : List ℕ) → IsTrue (starts is_digit text) → Stopped BadNumber offset ≡ ending_of offset text
bad_number_ending offset [] bad = cc
bad_number_ending offset (byte ∷ rest) digit = rw digit

ending_is : (offset : ℕ) (text : List ℕ) (ending : Ending) → IsEnding offset text ending → ending ≡ ending_of offset text
ending_is offset text Reached e = ap (ending_of offset) (sym e)
ending_is offset text (Stopped BadByte place) h = ap (Stopped BadByte) h.1 ∙ bad_byte_ending offset text h.0
ending_is offset text (Stopped BadNumber place) h = ap (Stopped BadNumber) h.1 ∙ bad_number_ending offset text (bad_number_digit text h.0)
ending_is offset text (Stopped Unexpected place) ((body, e, unclosed), at) = ap (Stopped Unexpected) (at ∙ ap (λ t. offset + length t) e) ∙ ap (ending_of offset) (sym e)
ending_is offset text (Stopped TooDeep place) h = absurd h
ending_is offset text (Stopped TooMany place) h = absurd h

-- the tokens end in one way
pub same_ending : (offset : ℕ) (text : List ℕ) (ending other : Ending) → IsEnding offset text ending → IsEnding offset text other → ending ≡ other
same_ending offset text ending other h k = ending_is offset text ending h ∙ sym (ending_is offset text other k)
