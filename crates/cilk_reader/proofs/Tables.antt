-- What is found in the tables of the reserved words and of the signs.
use Rattle.std.proofs.Common.{◌≡◌, ℕ, ◌<◌, ◌≤◌, suc, zero, nat_eq, nat_le, Bool, true, not, leb, ◌&&◌, IsTrue, IsFalse, List, [], ◌∷◌, ◌++◌, length, drop, get_or, Option, Some, None, MatchOption, refl, subst, ⊎_elim, arith}
use Rattle.std.specs.List.{Contains, AllWithin, HoldsAt, list_all, list_any, starts_with}
use Rattle.std.specs.Str.{bytes_eq}
use Rattle.std.proofs.str.Laws.{order}
use Rattle.std.proofs.lemmas.Bool.{and_parts, and_from, or_from, not_from_false, lt-leb, both_ways, not-true, leb-true, leb-false, false_from_ne_true}
use Rattle.std.proofs.lemmas.List.Folds.{list_any_at}
use Rattle.std.proofs.lemmas.List.Sums.{AllPass-from_list_all}
use Rattle.cilk_tree.specs.declared.token.Keyword.{Keyword}
use Rattle.cilk_tree.specs.declared.token.Sign.{Sign}
use Rattle.cilk_tree.specs.declared.token.Sign.TheVariants.{Plus, Minus, Star, Slash, Percent, Assign, Equal, NotEqual, Less, LessEqual, Greater, GreaterEqual, AndAnd, OrOr, Bang, PlusPlus, MinusMinus, PlusAssign, MinusAssign, OpenParen, CloseParen, OpenBracket, CloseBracket, OpenBrace, CloseBrace, Comma, Semicolon}
use Rattle.cilk_tree.specs.Lexeme.{is_reserved, has_longer_sign}
use Rattle.cilk_tree.specs.Token.{keyword_text, all_keywords, sign_text, all_signs}
use Rattle.cilk_tree.proofs.Tables.{keyword_listed, sign_listed}

-- the signs in the order in which they are tried: a longer one before a shorter one
abbrev pub signs : List Sign
signs =
    Equal ∷ NotEqual ∷ LessEqual ∷ GreaterEqual ∷ AndAnd ∷ OrOr ∷ PlusPlus ∷ MinusMinus ∷ PlusAssign ∷ MinusAssign
    ∷ Plus ∷ Minus ∷ Star ∷ Slash ∷ Percent ∷ Assign ∷ Less ∷ Greater ∷ Bang
    ∷ OpenParen ∷ CloseParen ∷ OpenBracket ∷ CloseBracket ∷ OpenBrace ∷ CloseBrace ∷ Comma ∷ Semicolon ∷ []

-- each sign stands there
sign_tried : (sign : Sign) → Contains signs sign
sign_tried Plus = (10, omega arith, refl)
sign_tried Minus = (11, omega arith, refl)
sign_tried Star = (12, omega arith, refl)
sign_tried Slash = (13, omega arith, refl)
sign_tried Percent = (14, omega arith, refl)
sign_tried Assign = (15, omega arith, refl)
sign_tried Equal = (0, omega arith, refl)
sign_tried NotEqual = (1, omega arith, refl)
sign_tried Less = (16, omega arith, refl)
sign_tried LessEqual = (2, omega arith, refl)
sign_tried Greater = (17, omega arith, refl)
sign_tried GreaterEqual = (3, omega arith, refl)
sign_tried AndAnd = (4, omega arith, refl)
sign_tried OrOr = (5, omega arith, refl)
sign_tried Bang = (18, omega arith, refl)
sign_tried PlusPlus = (6, omega arith, refl)
sign_tried MinusMinus = (7, omega arith, refl)
sign_tried PlusAssign = (8, omega arith, refl)
sign_tried MinusAssign = (9, omega arith, refl)
sign_tried OpenParen = (19, omega arith, refl)
sign_tried CloseParen = (20, omega arith, refl)
sign_tried OpenBracket = (21, omega arith, refl)
sign_tried CloseBracket = (22, omega arith, refl)
sign_tried OpenBrace = (23, omega arith, refl)
sign_tried CloseBrace = (24, omega arith, refl)
sign_tried Comma = (25, omega arith, refl)
sign_tried Semicolon = (26, omega arith, refl)

-- ---- what holds of each item of a table

-- what holds of each item of a table holds of one that is listed there
of_listed : {X : Type 0} (P : X → Type 0) (xs : List X) (x : X) → AllWithin P xs 0 (length xs) → Contains xs x → P x
of_listed P xs x all (k, within, is) = subst P is (all k x (omega arith) within)

any_listed : {X : Type 0} (p : X → Bool) (xs : List X) (x : X) → IsFalse (list_any p xs) → Contains xs x → IsFalse (p x)
any_listed p xs x none (k, within, is) =
    subst (λ y. IsFalse (p y)) is (false_from_ne_true _ (λ passes. both_ways _ none (list_any_at p xs k x within passes)))

any_of_none : {X : Type 0} (p : X → Bool) (xs : List X) → ((x : X) → Contains xs x → IsFalse (p x)) → IsFalse (list_any p xs)
any_of_none p [] none = refl
any_of_none p (x ∷ xs) none =
    or_from _ _ (none x (0, omega arith, refl)) (any_of_none p xs (λ y listed. none y (suc listed.0, omega (arith, listed.1), listed.2)))

-- ---- what a look-up finds

-- the first item of the table that Yes holds of, or that No holds of each
abbrev pub FirstOf : {X : Type 0} → (X → Type 0) → (X → Type 0) → List X → Option X → Type 0
FirstOf Yes No xs r = MatchOption r (AllWithin No xs 0 (length xs)) (λ x. Yes x × (k : ℕ) × (k < length xs) × HoldsAt (λ y. y ≡ x) xs k × AllWithin No xs 0 k)

abbrev is_keyword : List ℕ → Keyword → Bool
is_keyword bytes word = bytes_eq bytes (keyword_text word)

pub keyword_from_first : (bytes : List ℕ) (r : Option Keyword) → FirstOf (λ word. bytes ≡ keyword_text word) (λ word. IsFalse (is_keyword bytes word)) all_keywords r → MatchOption r (IsFalse (is_reserved bytes)) (λ word. bytes ≡ keyword_text word)
keyword_from_first bytes None first =
    any_of_none (is_keyword bytes) all_keywords (λ word listed. of_listed (λ w. IsFalse (is_keyword bytes w)) all_keywords word first listed)
keyword_from_first bytes (Some word) first = first.0

pub not_reserved : (bytes : List ℕ) → IsFalse (is_reserved bytes) → (word : Keyword) → IsFalse (is_keyword bytes word)
not_reserved bytes none word = any_listed (is_keyword bytes) all_keywords word none (keyword_listed word)

-- the sizes of the items never grow along the table
abbrev falls : {X : Type 0} → (X → ℕ) → List X → Bool
falls size [] = true
falls size (x ∷ xs) = list_all (λ y. leb (size y) (size x)) xs && falls size xs

falls_at : {X : Type 0} (size : X → ℕ) (xs : List X) (i j : ℕ) (d : X) → falls size xs ≡ true → i ≤ j → j < length xs → size (get_or xs j d) ≤ size (get_or xs i d)
falls_at size [] i j d f below within = absurd (omega arith)
falls_at size (x ∷ xs) zero zero d f below within = omega arith
falls_at size (x ∷ xs) zero (suc j) d f below within = leb-true (size (get_or xs j d)) (size x) (AllPass-from_list_all (λ y. leb (size y) (size x)) xs (and_parts (list_all (λ y. leb (size y) (size x)) xs) (falls size xs) f).0 j d (omega arith))
falls_at size (x ∷ xs) (suc i) zero d f below within = absurd (omega arith)
falls_at size (x ∷ xs) (suc i) (suc j) d f below within = falls_at size xs i j d (and_parts (list_all (λ y. leb (size y) (size x)) xs) (falls size xs) f).1 (omega arith) (omega arith)

abbrev sign_len : Sign → ℕ
sign_len sign = length (sign_text sign)

abbrev begins_sign : List ℕ → Sign → Bool
begins_sign text sign = starts_with nat_eq text (sign_text sign)

-- no sign that the text begins with is longer than the first of the table
longest_from_first : (text : List ℕ) (sign : Sign) → FirstOf (λ sign. text ≡ sign_text sign ++ drop (length (sign_text sign)) text) (λ sign. IsFalse (begins_sign text sign)) signs (Some sign) → (other : Sign) → IsTrue (begins_sign text other) → sign_len other ≤ sign_len sign
longest_from_first text sign (begins, k, within, here, before) other h =
    let listed = sign_tried other in
    ⊎_elim
    (λ earlier. absurd (both_ways _ (subst (λ s. IsFalse (begins_sign text s)) listed.2 (before listed.0 other (omega arith) earlier)) h))
    (λ later. subst (λ s. sign_len other ≤ sign_len s) (here other) (subst (λ s. sign_len s ≤ sign_len (get_or signs k other)) listed.2 (falls_at sign_len signs k listed.0 other refl later listed.1)))
    (order listed.0 k)

-- what `has_longer_sign` tests of a sign
abbrev is_longer : ℕ → List ℕ → Sign → Bool
is_longer size text sign = not (nat_le (sign_len sign) size) && begins_sign text sign

no_longer : (size : ℕ) (text : List ℕ) → ((sign : Sign) → IsTrue (begins_sign text sign) → sign_len sign ≤ size) → IsFalse (has_longer_sign size text)
no_longer size text short =
    any_of_none (is_longer size text) all_signs
    (λ sign listed. false_from_ne_true _
    (λ longer. omega (arith, short sign (and_parts _ _ longer).1, leb-false (sign_len sign) size (not-true _ (and_parts _ _ longer).0))))

is_longer_from : (size : ℕ) (text : List ℕ) (sign : Sign) → size < sign_len sign → IsTrue (begins_sign text sign) → IsTrue (is_longer size text sign)
is_longer_from size text sign longer h = and_from _ _ (not_from_false _ (lt-leb (sign_len sign) size longer)) h

-- no sign that the text begins with is longer than so many bytes
pub longest : (size : ℕ) (text : List ℕ) → IsFalse (has_longer_sign size text) → (sign : Sign) → IsTrue (begins_sign text sign) → sign_len sign ≤ size
longest size text none sign h =
    ⊎_elim
    (λ longer. absurd (both_ways _ (any_listed (is_longer size text) all_signs sign none (sign_listed sign)) (is_longer_from size text sign longer h)))
    (λ short. short)
    (order size (sign_len sign))

pub sign_from_first : (text : List ℕ) (r : Option Sign) → FirstOf (λ sign. text ≡ sign_text sign ++ drop (length (sign_text sign)) text) (λ sign. IsFalse (begins_sign text sign)) signs r → MatchOption r (IsFalse (has_longer_sign 0 text)) (λ sign. (text ≡ sign_text sign ++ drop (length (sign_text sign)) text) × IsFalse (has_longer_sign (length (sign_text sign)) text))
sign_from_first text None first =
    no_longer 0 text (λ sign h. absurd (both_ways _ (of_listed (λ s. IsFalse (begins_sign text s)) signs sign first (sign_tried sign)) h))
sign_from_first text (Some sign) first = (first.0, no_longer (sign_len sign) text (longest_from_first text sign first))
