-- The text of an expression is divided into the expression's tokens.
use Rattle.std.specs.Prelude.{◌≡◌, ℕ, ◌+◌, ◌%◌, ◌^◌, ◌<◌, pos, negsuc, Bool, true, false, ◌&&◌, nat_eq, nat_lt, nat_le, IsTrue, List, [], ◌∷◌, ◌++◌, map, codes, decimal}
use Rattle.std.specs.List.{list_all}
use Rattle.std.proofs.Common.{refl, sym, ap, subst, ◌∙◌, append_assoc, append-nil, arith}
use Rattle.std.proofs.lemmas.Bool.{false≢true, and_parts, or_left, or_right, ltb-true, eqb-true, false_from_ne_true}
use Rattle.std.proofs.lemmas.Bool.Decides.{nat_tests}
use Rattle.std.proofs.lemmas.Fmt.{decimal_by_steps}
use Rattle.std.proofs.lemmas.List.{map-append}
use Rattle.cilk_tree.specs.declared.token.Sign.{Sign}
use Rattle.cilk_tree.specs.declared.token.Sign.TheVariants as sign
use Rattle.cilk_tree.specs.declared.token.Token.{Token}
use Rattle.cilk_tree.specs.declared.token.Token.TheVariants.{Name, Number, Mark}
use Rattle.cilk_tree.specs.declared.tree.BinaryOp.{BinaryOp}
use Rattle.cilk_tree.specs.declared.tree.BinaryOp.TheVariants as op
use Rattle.cilk_tree.specs.declared.tree.UnaryOp.{UnaryOp}
use Rattle.cilk_tree.specs.declared.tree.UnaryOp.TheVariants as unary
use Rattle.cilk_tree.specs.Canonical.{gap_between, expression_text}
use Rattle.cilk_tree.specs.declared.count.Counted.TheVariants.{Operators}
use Rattle.cilk_tree.specs.declared.count.Count.{Count}
use Rattle.cilk_tree.specs.declared.count.Count.TheVariants.{OneMore}
use Rattle.cilk_tree.specs.Levels.{Spelled, counting, mark, operator_sign, unary_sign, spell_expression}
use Rattle.cilk_tree.specs.Lexeme.{is_blank, is_digit, is_letter, is_word, is_name, starts, ends_before}
use Rattle.cilk_tree.specs.Syntax.{Expression, Numeral, Variable, Element, Group, Prefix, Infix, operator_strength, strength, is_grouped}
use Rattle.cilk_tree.specs.Token.{sign_text}
use Rattle.cilk_tree.specs.Writable.{is_token}
use Rattle.cilk_tree.proofs.Division.{Divided, divided_blanks, divided_token, Reads, anything, no_word, Reads-then, Reads-on, Reads-same, Reads-blanks, Reads-before, Reads-token}

abbrev pub bare : List Spelled → List Token
bare spelled = map (λ one. one.token) spelled

-- ---- first bytes

starts-append : (test : ℕ → Bool) (bytes rest : List ℕ) → IsTrue (starts test bytes) → IsTrue (starts test (bytes ++ rest))
starts-append test [] rest h = absurd (false≢true h)
starts-append test (byte ∷ bytes) rest h = h

digit_byte : (digit : ℕ) → digit < 10 → IsTrue (is_digit (48 + digit))
digit_byte digit small = grind (arith, nat_tests)

starts-decimal : (n : ℕ) → n < 2 ^ 63 → IsTrue (starts is_digit (decimal n))
starts-decimal n small = decimal_by_steps (λ _ bytes. IsTrue (starts is_digit bytes)) (λ digit few. digit_byte digit few) (λ m bytes _ h. starts-append is_digit bytes ((48 + m % 10) ∷ []) h) n (omega arith)

-- a byte that passes a test is none that fails it
differs : (test : ℕ → Bool) (one byte : ℕ) → test byte ≡ true → test one ≡ false → nat_eq one byte ≡ false
differs test one byte passes fails = false_from_ne_true (nat_eq one byte) (λ same. false≢true (sym fails ∙ ap test (eqb-true one byte same) ∙ passes))

-- a unary operator ends before a byte that is neither `-` nor `=`
unary_ends : (operator : UnaryOp) (byte : ℕ) (rest : List ℕ) → nat_eq 45 byte ≡ false → nat_eq 61 byte ≡ false → IsTrue (ends_before (Mark (unary_sign operator)) (byte ∷ rest))
unary_ends unary.Neg byte rest no_minus no_equal = rw no_minus (rw no_equal refl)
unary_ends unary.Not byte rest no_minus no_equal = rw no_equal refl

unary_ends_before : (operator : UnaryOp) (text rest : List ℕ) → IsTrue (starts is_word text) → IsTrue (ends_before (Mark (unary_sign operator)) (text ++ rest))
unary_ends_before operator [] rest h = absurd (false≢true h)
unary_ends_before operator (byte ∷ text) rest h = unary_ends operator byte (text ++ rest) (differs is_word 45 byte h refl) (differs is_word 61 byte h refl)

starts_weaker : (test other : ℕ → Bool) → ((byte : ℕ) → test byte ≡ true → other byte ≡ true) → (bytes : List ℕ) → IsTrue (starts test bytes) → IsTrue (starts other bytes)
starts_weaker test other weaker [] h = h
starts_weaker test other weaker (byte ∷ bytes) h = weaker byte h

name_first : (name : List ℕ) → IsTrue (is_name name) → IsTrue (starts is_word name)
name_first name is = starts_weaker is_letter is_word (λ byte h. or_left (is_letter byte) (is_digit byte) h) name (and_parts (starts is_letter name) (list_all is_word name) (and_parts (starts is_letter name && list_all is_word name) _ is).0).0

number_first : (n : ℕ) → IsTrue (is_token (Number (pos n))) → IsTrue (starts is_word (decimal n))
number_first n is = starts_weaker is_digit is_word (λ byte h. or_right (is_letter byte) (is_digit byte) h) (decimal n) (starts-decimal n (ltb-true n (2 ^ 63) is))

element_first : (name : List ℕ) (index : Expression) → IsTrue (is_name name) → IsTrue (starts is_word (expression_text (Element name index)))
element_first name index is =
    starts-append is_word (name ++ codes "[" ++ expression_text index) (codes "]")
    (starts-append is_word (name ++ codes "[") (expression_text index) (starts-append is_word name (codes "[") (name_first name is)))

-- ---- operators

pub weak_operator : (operator : BinaryOp) → nat_le 7 (operator_strength operator) ≡ false
weak_operator op.Or = refl
weak_operator op.And = refl
weak_operator op.Eq = refl
weak_operator op.Ne = refl
weak_operator op.Lt = refl
weak_operator op.Le = refl
weak_operator op.Gt = refl
weak_operator op.Ge = refl
weak_operator op.Add = refl
weak_operator op.Sub = refl
weak_operator op.Mul = refl
weak_operator op.Div = refl
weak_operator op.Rem = refl

operator_spaced : (operator : BinaryOp) (rest : List ℕ) → IsTrue (ends_before (Mark (operator_sign operator)) (32 ∷ rest))
operator_spaced op.Or rest = refl
operator_spaced op.And rest = refl
operator_spaced op.Eq rest = refl
operator_spaced op.Ne rest = refl
operator_spaced op.Lt rest = refl
operator_spaced op.Le rest = refl
operator_spaced op.Gt rest = refl
operator_spaced op.Ge rest = refl
operator_spaced op.Add rest = refl
operator_spaced op.Sub rest = refl
operator_spaced op.Mul rest = refl
operator_spaced op.Div rest = refl
operator_spaced op.Rem rest = refl

abbrev gap_is_blank : UnaryOp → Expression → Type 0
gap_is_blank operator operand = IsTrue (list_all is_blank (gap_between operator operand))

gap_blank : (operator : UnaryOp) (operand : Expression) → gap_is_blank operator operand
gap_blank unary.Neg (Numeral value) = refl
gap_blank unary.Neg (Variable name) = refl
gap_blank unary.Neg (Element name index) = refl
gap_blank unary.Neg (Group inner) = refl
gap_blank unary.Neg (Prefix unary.Neg operand) = refl
gap_blank unary.Neg (Prefix unary.Not operand) = refl
gap_blank unary.Neg (Infix left operator right) = refl
gap_blank unary.Not operand = refl

-- a unary operator, with the gap behind it
Reads-unary : (operator : UnaryOp) (operand : Expression) → Reads (λ rest. ends_before (Mark (unary_sign operator)) (gap_between operator operand ++ rest)) (sign_text (unary_sign operator) ++ gap_between operator operand) (Mark (unary_sign operator) ∷ [])
Reads-unary operator operand = record {
  reads = λ valid rest later h divided.
      let gap = gap_between operator operand in
      let behind = divided_blanks gap rest later (gap_blank operator operand) divided in
      subst (λ bytes. Divided bytes (Mark (unary_sign operator) ∷ later)) (sym (append_assoc (sign_text (unary_sign operator)) gap rest))
      (divided_token (Mark (unary_sign operator)) (sign_text (unary_sign operator)) (gap ++ rest) later refl h behind);
}

abbrev Follows : UnaryOp → Expression → Type 0
Follows operator operand =
    (level : ℕ) (first : List Count) → IsTrue (nat_le 7 (strength operand)) → IsTrue (list_all is_token (bare (spell_expression level first operand)))
    → (rest : List ℕ) → IsTrue (ends_before (Mark (unary_sign operator)) (gap_between operator operand ++ (expression_text operand ++ rest)))

-- a unary operator ends before its operand
follows : (operator : UnaryOp) (operand : Expression) → Follows operator operand
follows unary.Neg (Numeral (pos n)) level first h valid rest = unary_ends_before unary.Neg (decimal n) rest (number_first n (and_parts _ true valid).0)
follows unary.Not (Numeral (pos n)) level first h valid rest = unary_ends_before unary.Not (decimal n) rest (number_first n (and_parts _ true valid).0)
follows operator (Numeral (negsuc n)) level first h valid rest = absurd (false≢true valid)
follows unary.Neg (Variable name) level first h valid rest = unary_ends_before unary.Neg name rest (name_first name (and_parts _ true valid).0)
follows unary.Not (Variable name) level first h valid rest = unary_ends_before unary.Not name rest (name_first name (and_parts _ true valid).0)
follows unary.Neg (Element name index) level first h valid rest =
    unary_ends_before unary.Neg (expression_text (Element name index)) rest (element_first name index (and_parts (is_name name) _ valid).0)
follows unary.Not (Element name index) level first h valid rest =
    unary_ends_before unary.Not (expression_text (Element name index)) rest (element_first name index (and_parts (is_name name) _ valid).0)
follows unary.Neg (Group inner) level first h valid rest = refl
follows unary.Not (Group inner) level first h valid rest = refl
follows unary.Neg (Prefix unary.Neg operand) level first h valid rest = refl
follows unary.Neg (Prefix unary.Not operand) level first h valid rest = refl
follows unary.Not (Prefix unary.Neg operand) level first h valid rest = refl
follows unary.Not (Prefix unary.Not operand) level first h valid rest = refl
follows unary.Neg (Infix left operator right) level first h valid rest = absurd (false≢true (sym (weak_operator operator) ∙ h))
follows unary.Not (Infix left operator right) level first h valid rest = absurd (false≢true (sym (weak_operator operator) ∙ h))

-- ---- expressions

pub bare-append : (spelled others : List Spelled) → bare (spelled ++ others) ≡ bare spelled ++ bare others
bare-append spelled others = map-append (λ one. one.token) spelled others

-- one sign that may stand before anything
Reads-sign : (sign : Sign) → ((rest : List ℕ) → IsTrue (ends_before (Mark sign) rest)) → Reads anything (sign_text sign) (Mark sign ∷ [])
Reads-sign sign free = Reads-before (Reads-token (Mark sign)) (λ rest h. free rest)

Reads-space : Reads anything (codes " ") []
Reads-space = Reads-blanks (codes " ") refl

pub Reads-expression : (e : Expression) (level : ℕ) (first : List Count) → IsTrue (is_grouped e) → Reads no_word (expression_text e) (bare (spell_expression level first e))
Reads-expression (Numeral value) level first grouped = Reads-token (Number value)
Reads-expression (Variable name) level first grouped = Reads-token (Name name)
Reads-expression (Element name index) level first grouped =
    let inside = spell_expression (level + 1) [] index in
    let begins = Reads-then (Reads-token (Name name)) (Reads-sign sign.OpenBracket (λ rest. refl)) (λ valid rest h. refl) in
    let whole = Reads-then (Reads-on begins (Reads-expression index (level + 1) [] grouped)) (Reads-sign sign.CloseBracket (λ rest. refl)) (λ valid rest h. refl) in
    Reads-same refl (ap (λ tokens. Name name ∷ Mark sign.OpenBracket ∷ tokens) (sym (bare-append inside (mark level sign.CloseBracket ∷ [])))) (Reads-before whole (λ rest h. refl))
Reads-expression (Group inner) level first grouped =
    let inside = spell_expression (level + 1) [] inner in
    let begins = Reads-on (Reads-sign sign.OpenParen (λ rest. refl)) (Reads-expression inner (level + 1) [] grouped) in
    let whole = Reads-then begins (Reads-sign sign.CloseParen (λ rest. refl)) (λ valid rest h. refl) in
    Reads-same refl (ap (λ tokens. Mark sign.OpenParen ∷ tokens) (sym (bare-append inside (mark level sign.CloseParen ∷ [])))) (Reads-before whole (λ rest h. refl))
Reads-expression (Prefix operator operand) level first grouped =
    let parts = and_parts (nat_le 7 (strength operand)) (is_grouped operand) grouped in
    Reads-then (Reads-unary operator operand) (Reads-expression operand (level + 1) [] parts.1) (λ valid rest h. follows operator operand (level + 1) [] parts.0 valid rest)
Reads-expression (Infix left operator right) level first grouped =
    let rights = and_parts (nat_le (operator_strength operator) (strength left) && nat_lt (operator_strength operator) (strength right) && is_grouped left) (is_grouped right) grouped in
    let lefts = and_parts (nat_le (operator_strength operator) (strength left) && nat_lt (operator_strength operator) (strength right)) (is_grouped left) rights.0 in
    let spaced = Reads-then (Reads-expression left level first lefts.1) Reads-space (λ valid rest h. refl) in
    let signed = Reads-then (Reads-on spaced (Reads-token (Mark (operator_sign operator)))) Reads-space (λ valid rest h. operator_spaced operator rest) in
    let whole = Reads-on signed (Reads-expression right level [] rights.1) in
    Reads-same refl (infix_tokens operator (spell_expression level first left) (spell_expression level [] right)) whole
  where
    infix_tokens : (operator : BinaryOp) (lefts rights : List Spelled) → bare lefts ++ [] ++ Mark (operator_sign operator) ∷ [] ++ [] ++ bare rights ≡ bare (lefts ++ counting level (OneMore Operators ∷ []) (Mark (operator_sign operator)) ∷ rights)
    infix_tokens operator lefts rights = simp (append-nil, append_assoc, bare-append) refl
