-- No limit is passed exactly where each count stays within its own.
use Rattle.std.proofs.Common.{◌≡◌, ℕ, ◌≤◌, Bool, true, false, not, ◌&&◌, ◌||◌, IsTrue, List, [], ◌∷◌, ◌++◌, map, refl, sym, subst, arith}
use Rattle.std.specs.Prelude.{nat_le, nat_lt}
use Rattle.std.specs.List.{list_all, list_any}
use Rattle.std.proofs.lemmas.Bool.{and_parts, and_from, and_right, not-true, false≢true, ltb-false, le-ltb, le-leb}
use Rattle.cilk_tree.specs.declared.count.Counted.{Counted}
use Rattle.cilk_tree.specs.declared.count.Counted.TheVariants.{Operators, Parameters, Arguments, Variables, Arrays, Functions}
use Rattle.cilk_tree.specs.declared.count.Count.{Count}
use Rattle.cilk_tree.specs.Counts.{all_counted, limit, tally, passes_limit, is_long}
use Rattle.cilk_tree.specs.Levels.{Spelled, spell_source, source_tokens}
use Rattle.cilk_tree.specs.Spelling.{is_shallow, passes, is_within_limits}
use Rattle.cilk_tree.specs.Syntax.{Source}
use Rattle.cilk_tree.specs.Writable.{is_token}
use Rattle.cilk_reader.proofs.Bounds.Covering.{Fine, fine_first, fine_rest, fine_cons}
use Rattle.cilk_reader.proofs.Bounds.Tallies.{Stays, stays_begin, tally-append}

neither : (a b : Bool) → (a || b) ≡ false → (a ≡ false) × (b ≡ false)
neither true b h = absurd (false≢true (sym h))
neither false b h = (refl, h)

none_of : (a b : Bool) → a ≡ false → b ≡ false → (a || b) ≡ false
none_of true b h k = h
none_of false b h k = k

-- what holds of no count in the list holds of none
no_count : (test : Counted → Bool) → list_any test all_counted ≡ false → (c : Counted) → test c ≡ false
no_count test h c =
    let a = neither (test Operators) _ h in
    let b = neither (test Parameters) _ a.1 in
    let d = neither (test Arguments) _ b.1 in
    let e = neither (test Variables) _ d.1 in
    let f = neither (test Arrays) _ e.1 in
    let g = neither (test Functions) _ f.1 in
    pick a.0 b.0 d.0 e.0 f.0 g.0 c
  where
    pick : test Operators ≡ false → test Parameters ≡ false → test Arguments ≡ false → test Variables ≡ false → test Arrays ≡ false → test Functions ≡ false → (c : Counted) → test c ≡ false
    pick o p a v r f Operators = o
    pick o p a v r f Parameters = p
    pick o p a v r f Arguments = a
    pick o p a v r f Variables = v
    pick o p a v r f Arrays = r
    pick o p a v r f Functions = f

count_none : (test : Counted → Bool) → ((c : Counted) → test c ≡ false) → list_any test all_counted ≡ false
count_none test h =
    none_of (test Operators) _ (h Operators) (none_of (test Parameters) _ (h Parameters) (none_of (test Arguments) _ (h Arguments)
    (none_of (test Variables) _ (h Variables) (none_of (test Arrays) _ (h Arrays) (none_of (test Functions) _ (h Functions) refl)))))

within : (n m most : ℕ) → n ≤ most → (nat_le n most && nat_lt most m) ≡ false → m ≤ most
within n m most less h = ltb-false most m (next (nat_le n most) (le-leb n most less) h)
  where
    next : (b : Bool) → b ≡ true → (b && nat_lt most m) ≡ false → nat_lt most m ≡ false
    next true e k = k
    next false e k = absurd (false≢true e)

abbrev is_short : Spelled → Bool
is_short spelled = not (is_long spelled.token)

-- Where no limit is passed, each count stays within its own, and no name is too long.
pub bounds_from_passes : (before : List Count) (xs : List Spelled) → ((c : Counted) → tally c 0 before ≤ limit c) → IsTrue (list_all not (passes before xs)) → ((c : Counted) → Stays c (tally c 0 before) xs) × IsTrue (list_all is_short xs)
bounds_from_passes before [] less h = (less, refl)
bounds_from_passes before (x ∷ xs) less h =
    let parts = and_parts (not (passes_limit before x.counts || is_long x.token)) (list_all not (passes (before ++ x.counts) xs)) h in
    let no = neither (passes_limit before x.counts) (is_long x.token) (not-true _ parts.0) in
    let test = λ (c : Counted). nat_le (tally c 0 before) (limit c) && nat_lt (limit c) (tally c 0 (before ++ x.counts)) in
    let more = λ (c : Counted). within (tally c 0 before) (tally c 0 (before ++ x.counts)) (limit c) (less c) (no_count test no.0 c) in
    let rest = bounds_from_passes (before ++ x.counts) xs more parts.1 in
    (λ c. (less c, subst (λ n. Stays c n xs) (tally-append c 0 before x.counts) (rest.0 c)), and_from (is_short x) (list_all is_short xs) (not_long (is_long x.token) no.1) rest.1)
  where
    not_long : (b : Bool) → b ≡ false → IsTrue (not b)
    not_long true e = absurd (false≢true (sym e))
    not_long false e = refl

-- And the other way round.
pub passes_from_bounds : (before : List Count) (xs : List Spelled) → ((c : Counted) → Stays c (tally c 0 before) xs) → IsTrue (list_all is_short xs) → IsTrue (list_all not (passes before xs))
passes_from_bounds before [] stays short = refl
passes_from_bounds before (x ∷ xs) stays short =
    let parts = and_parts (is_short x) (list_all is_short xs) short in
    let test = λ (c : Counted). nat_le (tally c 0 before) (limit c) && nat_lt (limit c) (tally c 0 (before ++ x.counts)) in
    let more = λ (c : Counted). subst (λ n. Stays c n xs) (sym (tally-append c 0 before x.counts)) (stays c).1 in
    let none = count_none test (λ c. and_right (nat_le (tally c 0 before) (limit c)) (nat_lt (limit c) (tally c 0 (before ++ x.counts))) (le-ltb (limit c) (tally c 0 (before ++ x.counts)) (stays_begin c (tally c 0 (before ++ x.counts)) xs (more c)))) in
    and_from _ _ (neither_of (passes_limit before x.counts) (is_long x.token) none (not-true (is_long x.token) parts.0)) (passes_from_bounds (before ++ x.counts) xs more parts.1)
  where
    neither_of : (a b : Bool) → a ≡ false → b ≡ false → IsTrue (not (a || b))
    neither_of true b h k = absurd (false≢true (sym h))
    neither_of false true h k = absurd (false≢true (sym k))
    neither_of false false h k = refl

-- ---- sources

fine_from : (xs : List Spelled) → IsTrue (list_all is_token (map (λ spelled. spelled.token) xs)) → IsTrue (list_all is_short xs) → IsTrue (list_all is_shallow xs) → Fine xs
fine_from [] tokens short shallow = refl
fine_from (x ∷ xs) tokens short shallow =
    let a = and_parts (is_token x.token) (list_all is_token (map (λ spelled. spelled.token) xs)) tokens in
    let b = and_parts (is_short x) (list_all is_short xs) short in
    let d = and_parts (is_shallow x) (list_all is_shallow xs) shallow in
    fine_cons x xs (and_from (is_token x.token && is_short x) (is_shallow x) (and_from (is_token x.token) (is_short x) a.0 b.0) d.0) (fine_from xs a.1 b.1 d.1)

fine_gives : (xs : List Spelled) → Fine xs → IsTrue (list_all is_token (map (λ spelled. spelled.token) xs)) × IsTrue (list_all is_short xs) × IsTrue (list_all is_shallow xs)
fine_gives [] h = (refl, refl, refl)
fine_gives (x ∷ xs) h =
    let two = and_parts (is_token x.token && is_short x) (is_shallow x) (fine_first x xs h) in
    let one = and_parts (is_token x.token) (is_short x) two.0 in
    let rest = fine_gives xs (fine_rest x xs h) in
    (and_from _ _ one.0 rest.0, and_from _ _ one.1 rest.1, and_from _ _ two.1 rest.2)

-- The source's tokens are good ones at levels that are not too deep, and each count stays within its limit along them.
pub record KeepsLimits (source : Source) : Type 0 where
  pub fine : Fine (spell_source source)
  pub stays : (counted : Counted) → Stays counted 0 (spell_source source)

pub limits_kept : (source : Source) → IsTrue (is_within_limits source) → IsTrue (list_all is_token (source_tokens source)) → KeepsLimits source
limits_kept source limits tokens =
    let parts = and_parts (list_all is_shallow (spell_source source)) (list_all not (passes [] (spell_source source))) limits in
    let bounds = bounds_from_passes [] (spell_source source) (λ c. omega arith) parts.1 in
    record { fine = fine_from (spell_source source) tokens bounds.1 parts.0; stays = bounds.0 }

pub kept_limits : (source : Source) → KeepsLimits source → IsTrue (list_all is_token (source_tokens source) && is_within_limits source)
kept_limits source keeps =
    let good = fine_gives (spell_source source) keeps.fine in
    and_from (list_all is_token (source_tokens source)) (is_within_limits source) good.0
    (and_from (list_all is_shallow (spell_source source)) (list_all not (passes [] (spell_source source))) good.2 (passes_from_bounds [] (spell_source source) keeps.stays good.1))
