-- What numbers are written as, and what is read from them.
use Rattle.std.proofs.Common.{◌≡◌, ◌≢◌, ℕ, ℤ, pos, ◌<◌, ◌^◌, zero, suc, true, false, IsTrue, List, [], ◌∷◌, length, get_or, Option, Some, None, Result, Ok, Err, sym, refl, ap, ◌∙◌, subst, ⊎_elim, arith, rules, w64}
use Rattle.std.proofs.str.Laws.{order}
use Rattle.std.proofs.lemmas.Int.{ints}
use Rattle.std.specs.List.{list_all}
use Rattle.std.specs.Fmt.{decimal}
use Rattle.std.specs.Str.Parse.{AllDigits, digits_value, ParsesSigned}
use Rattle.std.proofs.lemmas.Bool.{and_parts, and_from, both_ways}
use Rattle.std.proofs.lemmas.Bool.Decides.{nat_tests}
use Rattle.std.proofs.lemmas.Fmt.{decimal_is_IsNumeral, decimal_digit, decimal_nonempty, first_decimal, decimal-digits_value, parse-signed_decimal, IsAscii-decimal}
use Rattle.std.specs.Option.{MatchOption}
use Rattle.std.specs.Result.{MatchResult, result_ok}
use Rattle.std.specs.Str.{IsUtf8}
use Rattle.std.proofs.lemmas.Option.{none-some, same_Some}
use Rattle.std.proofs.lemmas.Result.{OkIff-at_ok}
use Rattle.std.proofs.lemmas.Str.{IsUtf8-from_ascii}
use Rattle.std.proofs.lemmas.Str.Parse.{IsNumeralModel, numerals_by_value, tells_digits, parse_signed_plain}
use Rattle.cilk_tree.specs.declared.token.Token.TheVariants.{Number}
use Rattle.cilk_tree.specs.Lexeme.{is_digit, is_word, IsLexeme, IsNumeral}

own : IsNumeralModel (AllDigits 10) (digits_value 10)
own = numerals_by_value (AllDigits 10) tells_digits

all_digits : (bytes : List ℕ) → AllDigits 10 bytes → IsTrue (list_all is_digit bytes)
all_digits [] h = refl
all_digits (byte ∷ bytes) h =
    let parts = tells_digits.parts byte bytes h in
    and_from (is_digit byte) (list_all is_digit bytes) (grind (arith, nat_tests)) (all_digits bytes parts.1)

-- a number is written in one digit or more
pub decimal_digits : (n : ℕ) → n < 2 ^ 63 → IsTrue (list_all is_digit (decimal n)) × (0 < length (decimal n))
decimal_digits n small = (all_digits (decimal n) (decimal_is_IsNumeral n (omega arith)).0.1, decimal_nonempty n (omega arith))

-- no number of two digits or more begins with a zero
pub no_leading_zero : (n : ℕ) (bytes : List ℕ) → IsNumeral bytes n → 1 < length bytes → get_or bytes 0 0 ≡ 48 → ⊥
no_leading_zero zero bytes (spelled, small) long zero_first =
    omega (arith, ap length (spelled ∙ decimal_digit 0 (omega arith)))
no_leading_zero (suc n) bytes (spelled, small) long zero_first =
    omega (arith, first_decimal (suc n) (omega arith) (omega arith), ap (λ bs. get_or bs 0 0) spelled)

not_word_first : (bytes : List ℕ) (byte : ℕ) → IsTrue (list_all is_word bytes) → 0 < byte → is_word byte ≡ false → get_or bytes 0 0 ≢ byte
not_word_first [] byte words positive no_word same = omega arith
not_word_first (first ∷ bytes) byte words positive no_word same =
    both_ways (is_word byte) no_word (subst (λ b. is_word b ≡ true) same (and_parts (is_word first) (list_all is_word bytes) words).0)

number_from_parse : {E : Type 0} (bytes : List ℕ) (r : Result ℤ E) (value : ℤ) → IsTrue (list_all is_word bytes) → (1 < length bytes → get_or bytes 0 0 ≢ 48) → ParsesSigned w64 10 bytes r → r ≡ Ok value → IsLexeme bytes (Number value)
number_from_parse bytes r value words no_zero parsed ok =
    let read = OkIff-at_ok r _ _ value (parse_signed_plain own w64 bytes r parsed (not_word_first bytes 43 words (omega arith) refl) (not_word_first bytes 45 words (omega arith) refl)) ok in
    (digits_value 10 bytes, read.1, (sym (decimal-digits_value own bytes read.0.0 read.0.1 (λ zero_first. ⊎_elim (λ long. absurd (no_zero long zero_first)) (λ short. omega (arith, read.0.1)) (order 1 (length bytes))) (omega (arith, read.0.2))), read.0.2))

parse_from_number : {E : Type 0} (bytes : List ℕ) (r : Result ℤ E) (n : ℕ) → ParsesSigned w64 10 bytes r → IsNumeral bytes n → r ≡ Ok (pos n)
parse_from_number bytes r n parsed (spelled, small) =
    parse-signed_decimal w64 (pos n) bytes r (first_of (search rules, omega arith, grind (arith, ints))) (omega arith) spelled parsed

pub utf8_from_number : (bytes : List ℕ) (n : ℕ) → IsNumeral bytes n → IsUtf8 bytes
utf8_from_number bytes n (spelled, small) =
    subst IsUtf8 (sym spelled) (IsUtf8-from_ascii (decimal n) (IsAscii-decimal n (omega arith)))

-- what a clause by cases says of the value that `ok` kept, or of there being none
pub kept_by_ok : {T E : Type 0} (P : T → Type 0) (Q : E → Type 0) (r : Result T E) (kept : T) → MatchResult r P Q → Some kept ≡ result_ok r → P kept
kept_by_ok P Q (Ok x) kept h same = subst P (sym (same_Some kept x same)) h
kept_by_ok P Q (Err e) kept h same = absurd (none-some kept (sym same))

pub lost_by_ok : {T E : Type 0} (P : T → Type 0) (Q : E → Type 0) (r : Result T E) → MatchResult r P Q → None ≡ result_ok r → (e : E) × Q e
lost_by_ok P Q (Ok x) h same = absurd (none-some x same)
lost_by_ok P Q (Err e) h same = (e, h)

-- what is kept of a text that was parsed is its number, and nothing is kept where it is none
pub numeral_from_parse : {E : Type 0} (bytes : List ℕ) (r : Result ℤ E) (kept : Option ℤ) → IsTrue (list_all is_word bytes) → (1 < length bytes → get_or bytes 0 0 ≢ 48) → ParsesSigned w64 10 bytes r → kept ≡ result_ok r → MatchOption kept ((n : ℕ) → IsNumeral bytes n → ⊥) (λ value. IsLexeme bytes (Number value))
numeral_from_parse bytes (Ok read) None words no_zero parsed same = absurd (none-some read same)
numeral_from_parse {E} bytes (Ok read) (Some value) words no_zero parsed same =
    let is : value ≡ read = same_Some value read same in
    let ok : Result ℤ E = Ok read in
    let read_ok : ok ≡ Ok value = cc in
    number_from_parse {E = E} bytes ok value words no_zero parsed read_ok
numeral_from_parse bytes (Err e) None words no_zero parsed same = λ n numeral. let other = parse_from_number bytes (Err e) n parsed numeral in cc
numeral_from_parse bytes (Err e) (Some value) words no_zero parsed same = absurd (none-some value (sym same))
