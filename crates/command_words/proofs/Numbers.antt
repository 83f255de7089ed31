-- Words that are numbers in decimal.
use Rattle.std.proofs.Common.{◌≡◌, ℕ, zero, suc, ◌<◌, ◌≤◌, ◌^◌, Result, Ok, Err, MatchResult, Option, Some, None, Bor, List, [], ◌∷◌, length, get_or, sym, ap, ◌∙◌, subst, arith, lit<}
use Rattle.std.specs.Fmt.{decimal}
use Rattle.std.specs.Option.{IfSome, option_map, option_to_list}
use Rattle.std.specs.Result.{result_ok}
use Rattle.std.specs.Str.Parse.{AllDigits, digits_value, ParsesUnsigned}
use Rattle.std.proofs.lemmas.Fmt.{decimal_digit, decimal_nonempty, decimal_injective, first_decimal, digits_decimal, parse-decimal, decimal-digits_value}
use Rattle.std.proofs.lemmas.Str.Parse.{IsNumeralModel, numerals_by_value, tells_digits, parse_plain, not_in_digits}
use Rattle.command_words.specs.Numerals.{IsPlain}
use Rattle.command_words.specs.Words.{IsNumber}

own : IsNumeralModel (AllDigits 10) (digits_value 10)
own = numerals_by_value (AllDigits 10) tells_digits

decimal_unpadded : (n : ℕ) → n < 2 ^ 64 → get_or (decimal n) 0 0 ≡ 48 → length (decimal n) ≡ 1
decimal_unpadded zero small first = ap length (decimal_digit 0 (lit< tt))
decimal_unpadded (suc n) small first = absurd (omega (arith, first, first_decimal (suc n) (omega arith) small))

pub decimal_is_plain : (n : ℕ) (word : List ℕ) → n < 2 ^ 64 → word ≡ decimal n → IsPlain word
decimal_is_plain n word small e =
    let unsigned = not_in_digits own (decimal n) 43 (digits_decimal own n small) (λ within. omega (arith, within.0)) 0 (decimal_nonempty n small) in
    subst IsPlain (sym e) (unsigned, decimal_unpadded n small)

-- what `parse` gives of such a word
pub parsed_is : {E : Type 0} (word : List ℕ) (r : Result ℕ E) → ParsesUnsigned 64 10 word r → IsPlain word →
    MatchResult r (λ n. word ≡ decimal n) (λ e. (n : ℕ) → n < 2 ^ 64 → ¬ (word ≡ decimal n))
parsed_is {E} word (Ok n) parses plain =
    let read = parse_plain own {E = E} 64 word (Ok n) parses plain.0 in
    let written : decimal (digits_value 10 word) ≡ word = decimal-digits_value own word read.0.0 read.0.1 plain.1 read.0.2 in
    sym (ap decimal read.1 ∙ written)
parsed_is {E} word (Err e) parses plain = λ n small written.
    let read : Err e ≡ Ok n = parse-decimal {E = E} 64 n word (Err e) small small written parses in
    absurd cc

-- the same of the number that may be there
pub parsed_some : {E : Type 0} (word : List ℕ) (r : Result ℕ E) → ParsesUnsigned 64 10 word r → IsPlain word → IfSome (result_ok r) (λ n. word ≡ decimal n)
parsed_some {E} word (Ok n) parses plain = parsed_is {E = E} word (Ok n) parses plain
parsed_some {E} word (Err e) parses plain = tt

pub parsed_none : {E : Type 0} (word : List ℕ) (r : Result ℕ E) → ParsesUnsigned 64 10 word r → IsPlain word → result_ok r ≡ None → (n : ℕ) → n < 2 ^ 64 → ¬ (word ≡ decimal n)
parsed_none {E} word (Ok n) parses plain none = absurd cc
parsed_none {E} word (Err e) parses plain none = parsed_is {E = E} word (Err e) parses plain

-- an option's number, where its value is this number in decimal
pub number_is : (least most default : ℕ) (value : Option (Bor (List ℕ))) (word : Bor (List ℕ)) (m n : ℕ) → value ≡ Some word → m < 2 ^ 64 → most < 2 ^ 64 → word.now ≡ decimal m →
    IsNumber least most default (option_to_list (option_map (λ text. text.now) value)) n → (m ≡ n) × (least ≤ n) × (n ≤ most)
number_is least most default value word m n given small limit written is =
    let given_is : option_to_list (option_map (λ text. text.now) value) ≡ word.now ∷ [] = ap (λ v. option_to_list (option_map (λ text. text.now) v)) given in
    let one : IsNumber least most default (word.now ∷ []) n = subst (λ words. IsNumber least most default words n) given_is is in
    (decimal_injective m n small (omega (arith, one.2, limit)) (sym written ∙ one.0), one.1, one.2)
