-- The tallies that the machine keeps are those of the counts so far, and a limit is passed where they come above one.
use Rattle.std.proofs.Common.{◌≡◌, ℕ, ◌≤◌, Bool, true, false, ◌&&◌, ◌||◌, Some, List, [], ◌∷◌, ◌++◌, length, slice_get, refl, ap, sym, ◌∙◌, arith, append_assoc, append-nil}
use Rattle.std.specs.Prelude.{nat_le, nat_lt}
use Rattle.std.proofs.lemmas.Bool.{or_parts, le-leb, ltb-false}
use Rattle.std.proofs.lemmas.Bool.Decides.{nat_tests}
use Rattle.cilk_tree.specs.declared.count.Count.{Count}
use Rattle.cilk_tree.specs.declared.count.Count.TheVariants.{Anew, OneMore}
use Rattle.cilk_tree.specs.declared.count.Counted.TheVariants.{Operators, Parameters, Arguments, Variables, Arrays, Functions}
use Rattle.cilk_tree.specs.Counts.{tally, passes_limit, is_long}
use Rattle.cilk_tree.specs.Levels.{Spelled}
use Rattle.cilk_tree.specs.Spelling.{passes}
use Rattle.cilk_parser.specs.declared.tallies.Tallies.{Tallies}
use Rattle.cilk_parser.specs.Tally.{all_counted_on, counted_on, is_over, none_counted}

-- what the tokens count as, one after another
abbrev pub counts_of : List Spelled → List Count
counts_of [] = []
counts_of (spelled ∷ more) = spelled.counts ++ counts_of more

pub counted_append : (t : Tallies) (counts more : List Count) → all_counted_on t (counts ++ more) ≡ all_counted_on (all_counted_on t counts) more
counted_append t [] more = refl
counted_append t (count ∷ counts) more = counted_append (counted_on t count) counts more

-- each tally by itself
abbrev tallied : Tallies → List Count → Tallies
tallied t counts = record {
  operators = tally Operators t.operators counts;
  parameters = tally Parameters t.parameters counts;
  arguments = tally Arguments t.arguments counts;
  variables = tally Variables t.variables counts;
  arrays = tally Arrays t.arrays counts;
  functions = tally Functions t.functions counts;
}

counted_tallied : (t : Tallies) (counts : List Count) → all_counted_on t counts ≡ tallied t counts
counted_tallied t [] = refl
counted_tallied t (Anew Operators ∷ counts) = counted_tallied (counted_on t (Anew Operators)) counts
counted_tallied t (Anew Parameters ∷ counts) = counted_tallied (counted_on t (Anew Parameters)) counts
counted_tallied t (Anew Arguments ∷ counts) = counted_tallied (counted_on t (Anew Arguments)) counts
counted_tallied t (Anew Variables ∷ counts) = counted_tallied (counted_on t (Anew Variables)) counts
counted_tallied t (Anew Arrays ∷ counts) = counted_tallied (counted_on t (Anew Arrays)) counts
counted_tallied t (Anew Functions ∷ counts) = counted_tallied (counted_on t (Anew Functions)) counts
counted_tallied t (OneMore Operators ∷ counts) = counted_tallied (counted_on t (OneMore Operators)) counts
counted_tallied t (OneMore Parameters ∷ counts) = counted_tallied (counted_on t (OneMore Parameters)) counts
counted_tallied t (OneMore Arguments ∷ counts) = counted_tallied (counted_on t (OneMore Arguments)) counts
counted_tallied t (OneMore Variables ∷ counts) = counted_tallied (counted_on t (OneMore Variables)) counts
counted_tallied t (OneMore Arrays ∷ counts) = counted_tallied (counted_on t (OneMore Arrays)) counts
counted_tallied t (OneMore Functions ∷ counts) = counted_tallied (counted_on t (OneMore Functions)) counts

-- ---- where a limit is passed

-- a tally was within the limit, and is above it
abbrev comes_above : ℕ → ℕ → ℕ → Bool
comes_above most before now = nat_le before most && nat_lt most now

abbrev comes_over : Tallies → Tallies → Bool
comes_over old new =
    comes_above 256 old.operators new.operators
    || (comes_above 16 old.parameters new.parameters
    || (comes_above 16 old.arguments new.arguments
    || (comes_above 256 old.variables new.variables
    || (comes_above 1024 old.arrays new.arrays
    || (comes_above 1024 old.functions new.functions || false)))))

comes_from_within : (most before now : ℕ) → nat_lt most before ≡ false → comes_above most before now ≡ nat_lt most now
comes_from_within most before now h = ap (λ b. b && nat_lt most now) (le-leb before most (ltb-false most before h))

falls_not_above : (most before now : ℕ) → now ≤ before → comes_above most before now ≡ false
falls_not_above most before now h = grind (arith, nat_tests)

six_or : (a b c d e f : Bool) → (a || (b || (c || (d || (e || (f || false)))))) ≡ (a || b || c || d || e || f)
six_or true b c d e f = refl
six_or false true c d e f = refl
six_or false false true d e f = refl
six_or false false false true e f = refl
six_or false false false false true f = refl
six_or false false false false false true = refl
six_or false false false false false false = refl

over_from_within : (old new : Tallies) → is_over old ≡ false → comes_over old new ≡ is_over new
over_from_within old new h =
    let o = nat_lt 256 old.operators in
    let p = nat_lt 16 old.parameters in
    let a = nat_lt 16 old.arguments in
    let v = nat_lt 256 old.variables in
    let r = nat_lt 1024 old.arrays in
    let five = or_parts (o || p || a || v || r) (nat_lt 1024 old.functions) h in
    let four = or_parts (o || p || a || v) r five.0 in
    let three = or_parts (o || p || a) v four.0 in
    let two = or_parts (o || p) a three.0 in
    let one = or_parts o p two.0 in
    rw (
      comes_from_within 256 old.operators new.operators one.0,
      comes_from_within 16 old.parameters new.parameters one.1,
      comes_from_within 16 old.arguments new.arguments two.1,
      comes_from_within 256 old.variables new.variables three.1,
      comes_from_within 1024 old.arrays new.arrays four.1,
      comes_from_within 1024 old.functions new.functions five.1,
    )
    (six_or (nat_lt 256 new.operators) (nat_lt 16 new.parameters) (nat_lt 16 new.arguments) (nat_lt 256 new.variables) (nat_lt 1024 new.arrays) (nat_lt 1024 new.functions))

-- The counts in order are judged by their tallies.
passes_tallied : (before counts : List Count) → passes_limit before counts ≡ comes_over (all_counted_on none_counted before) (all_counted_on none_counted (before ++ counts))
passes_tallied before counts = ap (λ t. comes_over t (tallied none_counted (before ++ counts))) (sym (counted_tallied none_counted before)) ∙ ap (λ t. comes_over (all_counted_on none_counted before) t) (sym (counted_tallied none_counted (before ++ counts)))

-- Where no limit was passed before, one is passed exactly where the tallies come above it.
pub passes_limit_over : (before counts : List Count) → is_over (all_counted_on none_counted before) ≡ false → passes_limit before counts ≡ is_over (all_counted_on none_counted (before ++ counts))
passes_limit_over before counts h = passes_tallied before counts ∙ over_from_within (all_counted_on none_counted before) (all_counted_on none_counted (before ++ counts)) h

stays_not_above : (most now : ℕ) → comes_above most now now ≡ false
stays_not_above most now = falls_not_above most now now (omega arith)

operators_not_over : (t : Tallies) (operators : ℕ) → operators ≤ t.operators → comes_over t (record t { operators = operators }) ≡ false
operators_not_over t operators h =
    rw (falls_not_above 256 t.operators operators h, stays_not_above 16 t.parameters, stays_not_above 16 t.arguments, stays_not_above 256 t.variables, stays_not_above 1024 t.arrays, stays_not_above 1024 t.functions)

-- A token that counts as nothing, or begins an expression, passes no limit.
pub nothing_passes : (before : List Count) → passes_limit before [] ≡ false
nothing_passes before =
    let t = all_counted_on none_counted before in
    passes_tallied before [] ∙ ap (λ c. comes_over t (all_counted_on none_counted c)) (append-nil before) ∙ operators_not_over t t.operators (omega arith)

pub anew_passes : (before : List Count) → passes_limit before (Anew Operators ∷ []) ≡ false
anew_passes before =
    let t = all_counted_on none_counted before in
    passes_tallied before (Anew Operators ∷ []) ∙ ap (comes_over t) (counted_append none_counted before (Anew Operators ∷ [])) ∙ operators_not_over t 0 (omega arith)

-- ---- along a source

pub passes_there : (before : List Count) (first : List Spelled) (there : Spelled) (last : List Spelled) →
    slice_get (passes before (first ++ there ∷ last)) (length first) ≡ Some (passes_limit (before ++ counts_of first) there.counts || is_long there.token)
passes_there before [] there last = ap (λ b. Some (passes_limit b there.counts || is_long there.token)) (sym (append-nil before))
passes_there before (spelled ∷ first) there last =
    passes_there (before ++ spelled.counts) first there last ∙ ap (λ b. Some (passes_limit b there.counts || is_long there.token)) (append_assoc before spelled.counts (counts_of first))
