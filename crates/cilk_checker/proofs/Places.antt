-- The order of places.
use Rattle.std.specs.Prelude.{◌≡◌, ◌⊎◌, ℕ, zero, suc, ◌+◌, ◌<◌, Bool, true, false, ◌&&◌, ◌||◌, ◌==◌, nat_lt, IsTrue}
use Rattle.std.proofs.Common.{refl, sym, ap, ◌∙◌, inl, inr, arith, rules, tests}
use Rattle.std.proofs.lemmas.Bool.{false≢true}
use Rattle.std.proofs.lemmas.Bool.Decides.{Decides-eqb}
use Rattle.cilk_tree.specs.declared.place.CheckPlace.{CheckPlace}
use Rattle.cilk_tree.specs.declared.place.CheckPlace.TheVariants.{Shared, Function, Statement, Whole}
use Rattle.cilk_tree.specs.Lawful.Place.{place_lt}

-- two places are in order, or they are one
pub data Order (one other : CheckPlace) : Type 0 where
  Before : IsTrue (place_lt one other) → Order one other
  After : IsTrue (place_lt other one) → Order one other
  Same : one ≡ other → Order one other

data Three (a b : ℕ) : Type 0 where
  Less : a < b → Three a b
  More : b < a → Three a b
  Equal : a ≡ b → Three a b

three : (a b : ℕ) → Three a b
three zero zero = Equal refl
three zero (suc b) = Less (omega arith)
three (suc a) zero = More (omega arith)
three (suc a) (suc b) = next (three a b)
  where
    next : Three a b → Three (suc a) (suc b)
    next (Less h) = Less (omega arith)
    next (More h) = More (omega arith)
    next (Equal e) = Equal (ap suc e)

is_less : (a b : ℕ) → a < b → nat_lt a b ≡ true
is_less a b h = search (rules, tests)

-- the first part of an order decides, or else the second
by_first : (a b : ℕ) (rest : Bool) → a < b → IsTrue (nat_lt a b || a == b && rest)
by_first a b rest h = ap (λ c. c || a == b && rest) (is_less a b h)

by_second : (a b : ℕ) (rest : Bool) → a ≡ b → IsTrue rest → IsTrue (nat_lt a b || a == b && rest)
by_second a b rest e h = ap (λ c. nat_lt a b || c && rest) ((Decides-eqb a b).1 e) ∙ ap (λ c. nat_lt a b || c) h ∙ or_true (nat_lt a b)
  where
    or_true : (c : Bool) → (c || true) ≡ true
    or_true true = refl
    or_true false = refl

pub parts_of_order : (a b : ℕ) (rest : Bool) → IsTrue (nat_lt a b || a == b && rest) → (a < b) ⊎ ((a ≡ b) × IsTrue rest)
parts_of_order a b rest h = by_test (nat_lt a b) (a == b) refl refl h
  where
    by_test : (c d : Bool) → nat_lt a b ≡ c → (a == b) ≡ d → IsTrue (c || d && rest) → (a < b) ⊎ ((a ≡ b) × IsTrue rest)
    by_test true d e f h = inl (search (rules, tests))
    by_test false true e f h = inr ((Decides-eqb a b).0 f, h)
    by_test false false e f h = absurd (false≢true h)

pub less_of : (a b : ℕ) → IsTrue (nat_lt a b) → a < b
less_of a b h = search (rules, tests)

pub order_of : (one other : CheckPlace) → Order one other
order_of (Shared a) (Shared b) = shared (three a b)
  where
    shared : Three a b → Order (Shared a) (Shared b)
    shared (Less h) = Before (by_first a b false h)
    shared (More h) = After (by_first b a false h)
    shared (Equal e) = Same (ap Shared e)
order_of (Shared a) (Function b) = Before refl
order_of (Shared a) (Statement b t) = Before refl
order_of (Shared a) Whole = Before refl
order_of (Function a) (Shared b) = After refl
order_of (Function a) (Function b) = functions (three a b)
  where
    functions : Three a b → Order (Function a) (Function b)
    functions (Less h) = Before (by_first a b false h)
    functions (More h) = After (by_first b a false h)
    functions (Equal e) = Same (ap Function e)
order_of (Function a) (Statement b t) = mixed (three a b)
  where
    mixed : Three a b → Order (Function a) (Statement b t)
    mixed (Less h) = Before (by_first a b (nat_lt 0 (t + 1)) h)
    mixed (More h) = After (by_first b a (nat_lt (t + 1) 0) h)
    mixed (Equal e) = Before (by_second a b (nat_lt 0 (t + 1)) e (is_less 0 (t + 1) (omega arith)))
order_of (Function a) Whole = Before refl
order_of (Statement a s) (Shared b) = After refl
order_of (Statement a s) (Function b) = mixed (three a b)
  where
    mixed : Three a b → Order (Statement a s) (Function b)
    mixed (Less h) = Before (by_first a b (nat_lt (s + 1) 0) h)
    mixed (More h) = After (by_first b a (nat_lt 0 (s + 1)) h)
    mixed (Equal e) = After (by_second b a (nat_lt 0 (s + 1)) (sym e) (is_less 0 (s + 1) (omega arith)))
order_of (Statement a s) (Statement b t) = statements (three a b) (three s t)
  where
    statements : Three a b → Three s t → Order (Statement a s) (Statement b t)
    statements (Less h) k = Before (by_first a b (nat_lt (s + 1) (t + 1)) h)
    statements (More h) k = After (by_first b a (nat_lt (t + 1) (s + 1)) h)
    statements (Equal e) (Less h) = Before (by_second a b (nat_lt (s + 1) (t + 1)) e (is_less (s + 1) (t + 1) (omega arith)))
    statements (Equal e) (More h) = After (by_second b a (nat_lt (t + 1) (s + 1)) (sym e) (is_less (t + 1) (s + 1) (omega arith)))
    statements (Equal e) (Equal f) = Same (λ i. Statement (e i) (f i))
order_of (Statement a s) Whole = Before refl
order_of Whole (Shared b) = After refl
order_of Whole (Function b) = After refl
order_of Whole (Statement b t) = After refl
order_of Whole Whole = Same refl
