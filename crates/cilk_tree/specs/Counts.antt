-- What is counted along a source, up to which limits.
use Rattle.std.specs.Prelude.{ℕ, ◌+◌, Bool, ◌&&◌, false, nat_le, nat_lt, ◌==◌, if◌then◌else◌, List, [], ◌∷◌, ◌++◌, length}
use Rattle.std.specs.List.{list_any}
use Rattle.cilk_tree.specs.declared.count.Count.{Count}
use Rattle.cilk_tree.specs.declared.count.Count.TheVariants.{Anew, OneMore}
use Rattle.cilk_tree.specs.declared.count.Counted.{Counted}
use Rattle.cilk_tree.specs.declared.count.Counted.TheVariants.{Operators, Parameters, Arguments, Variables, Arrays, Functions}
use Rattle.cilk_tree.specs.declared.token.Token.{Token}
use Rattle.cilk_tree.specs.declared.token.Token.TheVariants.{Name, Number, Word, Mark}

abbrev pub all_counted : List Counted
all_counted = Operators ∷ Parameters ∷ Arguments ∷ Variables ∷ Arrays ∷ Functions ∷ []

-- the most that may be of each
abbrev pub limit : Counted → ℕ
limit Operators = 256
limit Parameters = 16
limit Arguments = 16
limit Variables = 256
limit Arrays = 1024
limit Functions = 1024

abbrev pub counted_number : Counted → ℕ
counted_number Operators = 0
counted_number Parameters = 1
counted_number Arguments = 2
counted_number Variables = 3
counted_number Arrays = 4
counted_number Functions = 5

abbrev pub is_same : Counted → Counted → Bool
is_same one other = counted_number one == counted_number other

-- how many there are, where there were so many before
abbrev pub tally : Counted → ℕ → List Count → ℕ
tally counted before [] = before
tally counted before (Anew other ∷ counts) = tally counted (if is_same counted other then 0 else before) counts
tally counted before (OneMore other ∷ counts) = tally counted (if is_same counted other then before + 1 else before) counts

-- A count that is within its limit after the first counts is above it after these too: a limit is passed with one token
-- alone, so that what follows `int NAME` past two limits at once is still judged by the token behind it.
abbrev pub passes_limit : List Count → List Count → Bool
passes_limit before counts = list_any (λ counted. nat_le (tally counted 0 before) (limit counted) && nat_lt (limit counted) (tally counted 0 (before ++ counts))) all_counted

-- a name of more than 63 bytes
abbrev pub is_long : Token → Bool
is_long (Name name) = nat_lt 63 (length name)
is_long (Number value) = false
is_long (Word word) = false
is_long (Mark sign) = false
