-- What judging tokens one after another says of each.
use Rattle.std.proofs.Common.{◌≡◌, ◌⊎◌, inl, inr, ℕ, ◌≤◌, Bool, true, false, ◌||◌, if◌then◌else◌, Some, List, [], ◌∷◌, ◌++◌, length, drop, slice_get, refl, ap, sym, ◌∙◌, subst, arith}
use Rattle.std.specs.Prelude.{nat_lt}
use Rattle.std.proofs.lemmas.Bool.{or_parts}
use Rattle.cilk_tree.specs.declared.kind.Kind.{Kind}
use Rattle.cilk_tree.specs.declared.kind.Kind.TheVariants.{BadByte, BadNumber, Unexpected, TooDeep, TooMany}
use Rattle.cilk_tree.specs.declared.token.Placed.{Placed}
use Rattle.cilk_tree.specs.Counts.{is_long}
use Rattle.cilk_tree.specs.Levels.{Spelled}
use Rattle.cilk_parser.specs.declared.tallies.Tallies.{Tallies}
use Rattle.cilk_parser.specs.Run.{Tallied, Within, Over, judge, judge_on, judge_token}
use Rattle.cilk_parser.specs.Tally.{all_counted_on, is_over}
use Rattle.cilk_parser.proofs.JudgedLate.Limits.{counted_append, counts_of}

-- a limit is passed with the token
abbrev pub is_too_many : Tallies → Spelled → Bool
is_too_many t spelled = is_over (all_counted_on t spelled.counts) || is_long spelled.token

-- The token keeps the limits.
pub record Keeps (t : Tallies) (spelled : Spelled) : Type 0 where
  pub level : nat_lt 64 spelled.level ≡ false
  pub counts : is_too_many t spelled ≡ false

-- Each does.
abbrev pub AreKept : Tallies → List Spelled → Type 0
AreKept t [] = Unit {0}
AreKept t (spelled ∷ more) = Keeps t spelled × AreKept (all_counted_on t spelled.counts) more

-- the tallies behind the tokens
abbrev pub tallies_behind : Tallies → List Spelled → Tallies
tallies_behind t spelled = all_counted_on t (counts_of spelled)

kept_front : (t : Tallies) (first last : List Spelled) → AreKept t (first ++ last) → AreKept t first × AreKept (tallies_behind t first) last
kept_front t [] last h = (tt, h)
kept_front t (spelled ∷ first) last h =
    let rest = kept_front (all_counted_on t spelled.counts) first last h.1 in
    ((h.0, rest.0), subst (λ t. AreKept t last) (sym (counted_append t spelled.counts (counts_of first))) rest.1)

pub kept_there : (t : Tallies) (first : List Spelled) (there : Spelled) (last : List Spelled) → AreKept t (first ++ there ∷ last) → AreKept t first × Keeps (tallies_behind t first) there
kept_there t first there last h = let parts = kept_front t first (there ∷ last) h in (parts.0, parts.1.0)

-- then no limit was passed before
pub kept_not_over : (t : Tallies) (spelled : List Spelled) → is_over t ≡ false → AreKept t spelled → is_over (tallies_behind t spelled) ≡ false
kept_not_over t [] h kept = h
kept_not_over t (spelled ∷ more) h kept =
    ap is_over (counted_append t spelled.counts (counts_of more)) ∙ kept_not_over (all_counted_on t spelled.counts) more (or_parts (is_over (all_counted_on t spelled.counts)) (is_long spelled.token) kept.0.counts).0 kept.1

-- ---- a token that does not keep them

abbrev pub IsPassed : Tallies → Spelled → Kind → Type 0
IsPassed t spelled BadByte = ⊥
IsPassed t spelled BadNumber = ⊥
IsPassed t spelled Unexpected = ⊥
IsPassed t spelled TooDeep = nat_lt 64 spelled.level ≡ true
IsPassed t spelled TooMany = (nat_lt 64 spelled.level ≡ false) × (is_too_many t spelled ≡ true)

-- The first that does not keep the limits, and why.
pub record IsFirstOver (t : Tallies) (spelled : List Spelled) (places : List Placed) (kind : Kind) (offset : ℕ) : Type 0 where
  pub first : List Spelled
  pub there : Spelled
  pub last : List Spelled
  pub same : spelled ≡ first ++ there ∷ last
  pub placed : Placed
  pub at : slice_get places (length first) ≡ Some placed
  pub offset_is : offset ≡ placed.offset
  pub kept : AreKept t first
  pub passed : IsPassed (tallies_behind t first) there kind

passed_as : (t : Tallies) (spelled : Spelled) (reason kind : Kind) (here offset : ℕ) → Over reason here ≡ Over kind offset → IsPassed t spelled reason → IsPassed t spelled kind × (offset ≡ here)
passed_as t spelled reason kind here offset e h = let same : reason ≡ kind = cc in (subst (IsPassed t spelled) same h, cc)

module _ (t : Tallies) (spelled : Spelled) (more : List Spelled) (placed : Placed) (places : List Placed) where
  first_within : (deep many : Bool) → nat_lt 64 spelled.level ≡ deep → is_too_many t spelled ≡ many → (last : Tallies) →
      judge_on (if deep then Over TooDeep placed.offset else if many then Over TooMany placed.offset else Within (all_counted_on t spelled.counts)) (λ next. judge next more places) ≡ Within last →
      Keeps t spelled × (judge (all_counted_on t spelled.counts) more places ≡ Within last)
  first_within true many d m last e = absurd (cc)
  first_within false true d m last e = absurd (cc)
  first_within false false d m last e = (record { level = d; counts = m }, e)

  first_over : (deep many : Bool) → nat_lt 64 spelled.level ≡ deep → is_too_many t spelled ≡ many → (kind : Kind) (offset : ℕ) →
      judge_on (if deep then Over TooDeep placed.offset else if many then Over TooMany placed.offset else Within (all_counted_on t spelled.counts)) (λ next. judge next more places) ≡ Over kind offset →
      (IsPassed t spelled kind × (offset ≡ placed.offset)) ⊎ (Keeps t spelled × (judge (all_counted_on t spelled.counts) more places ≡ Over kind offset))
  first_over true many d m kind offset e = inl (passed_as t spelled TooDeep kind placed.offset offset e d)
  first_over false true d m kind offset e = inl (passed_as t spelled TooMany kind placed.offset offset e (d, m))
  first_over false false d m kind offset e = inr (record { level = d; counts = m }, e)

pub judged_within : (t : Tallies) (spelled : List Spelled) (places : List Placed) (last : Tallies) → length spelled ≤ length places → judge t spelled places ≡ Within last → AreKept t spelled
judged_within t [] places last fits e = tt
judged_within t (spelled ∷ more) [] last fits e = absurd (omega arith)
judged_within t (spelled ∷ more) (placed ∷ places) last fits e =
    let h = first_within t spelled more placed places (nat_lt 64 spelled.level) (is_too_many t spelled) refl refl last e in
    (h.0, judged_within (all_counted_on t spelled.counts) more places last (omega arith) h.1)

over_further : (t : Tallies) (spelled : Spelled) (more : List Spelled) (placed : Placed) (places : List Placed) (kind : Kind) (offset : ℕ) →
    (judge (all_counted_on t spelled.counts) more places ≡ Over kind offset → IsFirstOver (all_counted_on t spelled.counts) more places kind offset) →
    (IsPassed t spelled kind × (offset ≡ placed.offset)) ⊎ (Keeps t spelled × (judge (all_counted_on t spelled.counts) more places ≡ Over kind offset)) → IsFirstOver t (spelled ∷ more) (placed ∷ places) kind offset
over_further t spelled more placed places kind offset on (inl here) =
    record { first = []; there = spelled; last = more; same = refl; placed = placed; at = refl; offset_is = here.1; kept = tt; passed = here.0 }
over_further t spelled more placed places kind offset on (inr rest) =
    let h = on rest.1 in
    record {
      first = spelled ∷ h.first;
      there = h.there;
      last = h.last;
      same = ap (λ s. spelled ∷ s) h.same;
      placed = h.placed;
      at = h.at;
      offset_is = h.offset_is;
      kept = (rest.0, h.kept);
      passed = subst (λ t. IsPassed t h.there kind) (sym (counted_append t spelled.counts (counts_of h.first))) h.passed;
    }

pub judged_over : (t : Tallies) (spelled : List Spelled) (places : List Placed) (kind : Kind) (offset : ℕ) → judge t spelled places ≡ Over kind offset → IsFirstOver t spelled places kind offset
judged_over t [] places kind offset e = absurd (cc)
judged_over t (spelled ∷ more) [] kind offset e = absurd (cc)
judged_over t (spelled ∷ more) (placed ∷ places) kind offset e =
    over_further t spelled more placed places kind offset (λ rest. judged_over (all_counted_on t spelled.counts) more places kind offset rest)
    (first_over t spelled more placed places (nat_lt 64 spelled.level) (is_too_many t spelled) refl refl kind offset e)

-- ---- in two parts

pub judge_append : (t : Tallies) (first last : List Spelled) (places more : List Placed) → length first ≤ length places →
    judge t (first ++ last) (places ++ more) ≡ judge_on (judge t first places) (λ next. judge next last (drop (length first) places ++ more))
judge_append t [] last places more fits = refl
judge_append t (spelled ∷ first) last [] more fits = absurd (omega arith)
judge_append t (spelled ∷ first) last (placed ∷ places) more fits =
    behind (judge_token t spelled placed.offset) (λ next. judge_append next first last places more (omega arith))
  where
    behind : (judged : Tallied) → ((next : Tallies) → judge next (first ++ last) (places ++ more) ≡ judge_on (judge next first places) (λ end. judge end last (drop (length first) places ++ more))) →
        judge_on judged (λ next. judge next (first ++ last) (places ++ more)) ≡ judge_on (judge_on judged (λ next. judge next first places)) (λ end. judge end last (drop (length first) places ++ more))
    behind (Within next) on = on next
    behind (Over kind offset) on = refl
