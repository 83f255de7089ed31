-- The tables of the reserved words and of the signs: each stands in the table of all, and no two are written alike.
use Rattle.std.proofs.Common.{◌≡◌, suc, Bool, true, false, IsTrue, if◌then◌else◌, List, [], ◌∷◌, Some, sym, refl, ap, ◌∙◌, subst, arith}
use Rattle.std.specs.List.{Contains, find, list_all}
use Rattle.std.specs.Str.{bytes_eq}
use Rattle.std.proofs.lemmas.Bool.{both_ways, true_from_ne_false}
use Rattle.std.proofs.lemmas.List.Folds.{list_all_at}
use Rattle.std.proofs.lemmas.Option.{same_Some}
use Rattle.cilk_tree.specs.declared.token.Keyword.{Keyword}
use Rattle.cilk_tree.specs.declared.token.Keyword.TheVariants.{Cilk, CilkFor, Else, FetchAdd, For, If, Int, Print, Return, Spawn, Sync, Void, While}
use Rattle.cilk_tree.specs.declared.token.Sign.{Sign}
use Rattle.cilk_tree.specs.declared.token.Sign.TheVariants.{Plus, Minus, Star, Slash, Percent, Assign, Equal, NotEqual, Less, LessEqual, Greater, GreaterEqual, AndAnd, OrOr, Bang, PlusPlus, MinusMinus, PlusAssign, MinusAssign, OpenParen, CloseParen, OpenBracket, CloseBracket, OpenBrace, CloseBrace, Comma, Semicolon}
use Rattle.cilk_tree.specs.Token.{keyword_text, all_keywords, sign_text, all_signs}

-- ---- found by the text

keyword_of_text : (word : Keyword) → find (λ w. bytes_eq (keyword_text w) (keyword_text word)) all_keywords ≡ Some word
keyword_of_text Cilk = refl
keyword_of_text CilkFor = refl
keyword_of_text Else = refl
keyword_of_text FetchAdd = refl
keyword_of_text For = refl
keyword_of_text If = refl
keyword_of_text Int = refl
keyword_of_text Print = refl
keyword_of_text Return = refl
keyword_of_text Spawn = refl
keyword_of_text Sync = refl
keyword_of_text Void = refl
keyword_of_text While = refl

sign_of_text : (sign : Sign) → find (λ s. bytes_eq (sign_text s) (sign_text sign)) all_signs ≡ Some sign
sign_of_text Plus = refl
sign_of_text Minus = refl
sign_of_text Star = refl
sign_of_text Slash = refl
sign_of_text Percent = refl
sign_of_text Assign = refl
sign_of_text Equal = refl
sign_of_text NotEqual = refl
sign_of_text Less = refl
sign_of_text LessEqual = refl
sign_of_text Greater = refl
sign_of_text GreaterEqual = refl
sign_of_text AndAnd = refl
sign_of_text OrOr = refl
sign_of_text Bang = refl
sign_of_text PlusPlus = refl
sign_of_text MinusMinus = refl
sign_of_text PlusAssign = refl
sign_of_text MinusAssign = refl
sign_of_text OpenParen = refl
sign_of_text CloseParen = refl
sign_of_text OpenBracket = refl
sign_of_text CloseBracket = refl
sign_of_text OpenBrace = refl
sign_of_text CloseBrace = refl
sign_of_text Comma = refl
sign_of_text Semicolon = refl

-- ---- no two are written alike

pub keyword_injective : (word other : Keyword) → keyword_text word ≡ keyword_text other → word ≡ other
keyword_injective word other same =
    same_Some word other (sym (keyword_of_text word) ∙ ap (λ bs. find (λ w. bytes_eq (keyword_text w) bs) all_keywords) same ∙ keyword_of_text other)

pub sign_injective : (sign other : Sign) → sign_text sign ≡ sign_text other → sign ≡ other
sign_injective sign other same =
    same_Some sign other (sym (sign_of_text sign) ∙ ap (λ bs. find (λ s. bytes_eq (sign_text s) bs) all_signs) same ∙ sign_of_text other)

-- ---- what holds of all holds of each

pub found_listed : {X : Type 0} (p : X → Bool) (xs : List X) (x : X) → find p xs ≡ Some x → Contains xs x
found_listed p [] x found = absurd (cc)
found_listed p (y ∷ ys) x found =
    elim (p y) as (λ b. (if b then Some y else find p ys) ≡ Some x → Contains (y ∷ ys) x) [
      | true ↦ λ here. (0, omega arith, same_Some y x here)
      | false ↦ λ later. let h = found_listed p ys x later in (suc h.0, omega (arith, h.1), h.2)
    ] found

pub keyword_listed : (word : Keyword) → Contains all_keywords word
keyword_listed word = found_listed (λ w. bytes_eq (keyword_text w) (keyword_text word)) all_keywords word (keyword_of_text word)

pub sign_listed : (sign : Sign) → Contains all_signs sign
sign_listed sign = found_listed (λ s. bytes_eq (sign_text s) (sign_text sign)) all_signs sign (sign_of_text sign)

all_listed : {X : Type 0} (p : X → Bool) (xs : List X) (x : X) → IsTrue (list_all p xs) → Contains xs x → IsTrue (p x)
all_listed p xs x all (k, within, is) =
    subst (λ y. IsTrue (p y)) is (true_from_ne_false _ (λ fails. both_ways _ (list_all_at p xs k x within fails) all))

pub of_keywords : (p : Keyword → Bool) → IsTrue (list_all p all_keywords) → (word : Keyword) → IsTrue (p word)
of_keywords p all word = all_listed p all_keywords word all (keyword_listed word)

pub of_signs : (p : Sign → Bool) → IsTrue (list_all p all_signs) → (sign : Sign) → IsTrue (p sign)
of_signs p all sign = all_listed p all_signs sign all (sign_listed sign)
