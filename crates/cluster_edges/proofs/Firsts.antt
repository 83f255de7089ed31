-- What has happened before a position, as a course of its own.
use Rattle.std.proofs.Common.{◌≡◌, ℕ, suc, ◌<◌, ◌≤◌, [], ◌∷◌, ◌++◌, Some, None, Bool, true, false, cond, eqb, leb, length, refl, sym, ◌∙◌, ap, subst, length-append, arith}
use Rattle.std.proofs.lemmas.Bool.Decides.{nat_tests}
use Rattle.cluster_rules.specs.Positions.{Moved, Course, at, before}
use Rattle.cluster_rules.specs.Runs.{Cluster}
use Rattle.cluster_rules.proofs.Stepping.{Step, Stepped}
use Rattle.cluster_rules.proofs.Coursing.{Splits, at_splits}
use Rattle.cluster_order.specs.Standing.{first}
use Rattle.cluster_order.proofs.Growing.{Grown, within, at_grown}

-- all of a course that is no longer
pub first_whole : (position : ℕ) (course : Course) → length course ≤ position → first position course ≡ course
first_whole position [] less = refl
first_whole position (moved ∷ course) less = let not : leb position (length course) ≡ false = grind (arith, nat_tests) in rw not refl

first_behind : (position : ℕ) (later course : Course) → position ≤ length course → first position (later ++ course) ≡ first position course
first_behind position [] course less = refl
first_behind position (moved ∷ later) course less =
    let is : leb position (length (later ++ course)) ≡ true = let count = length-append later course in grind (arith, nat_tests) in
    rw is (first_behind position later course less)

-- where something stands
module _ (course : Course) (position : ℕ) (moved : Moved) (found : at course position ≡ Some moved) where
  split : Splits course position moved
  split = at_splits course position moved found

  pub first_before : first position course ≡ before course position
  first_before =
      let here : leb position (length (before course position)) ≡ true = let count = split.count in grind (arith, nat_tests) in
      let count = split.count in
      ap (first position) split.parts ∙ first_behind position split.later (moved ∷ before course position) (omega (arith, count))
      ∙ rw here (first_whole position (before course position) (omega (arith, count)))

  pub first_count : length (first position course) ≡ position
  first_count = ap length first_before ∙ split.count

  pub first_next : first (suc position) course ≡ moved ∷ first position course
  first_next =
      let count = split.count in
      ap (first (suc position)) split.parts ∙ first_behind (suc position) split.later (moved ∷ before course position) (omega (arith, count))
      ∙ first_whole (suc position) (moved ∷ before course position) (omega (arith, count)) ∙ ap (λ it. moved ∷ it) (sym first_before)

absent_on : (moved : Moved) (course : Course) (position : ℕ) (b : Bool) → eqb position (length course) ≡ b → cond b (Some moved) (at course position) ≡ None
    → (at course position ≡ None → length course ≤ position) → length (moved ∷ course) ≤ position
absent_on moved course position true is none rest = absurd (cc)
absent_on moved course position false is none rest =
    let less = rest none in grind (arith, nat_tests)

-- nothing stands past the end
pub absent : (course : Course) (position : ℕ) → at course position ≡ None → length course ≤ position
absent [] position none = omega arith
absent (moved ∷ course) position none = absent_on moved course position (eqb position (length course)) refl none (absent course position)

pub first_stays : (course : Course) (position : ℕ) → at course position ≡ None → first (suc position) course ≡ first position course
first_stays course position none =
    let less = absent course position none in
    first_whole (suc position) course (omega (arith, less)) ∙ sym (first_whole position course less)

grown_on : (position : ℕ) (moved : Moved) (course : Course) (b : Bool) → Grown (first position course) course
    → Grown (cond b (first position course) (moved ∷ course)) (moved ∷ course)
grown_on position moved course true grown = (moved ∷ grown.0, ap (λ it. moved ∷ it) grown.1)
grown_on position moved course false grown = ([], refl)

pub first_grown : (position : ℕ) (course : Course) → Grown (first position course) course
first_grown position [] = ([], refl)
first_grown position (moved ∷ course) = grown_on position moved course (leb position (length course)) (first_grown position course)

least_on : (position : ℕ) (moved : Moved) (course : Course) (b : Bool) → leb position (length course) ≡ b → length (first position course) ≤ position
    → length (cond b (first position course) (moved ∷ course)) ≤ position
least_on position moved course true is less = less
least_on position moved course false is less = grind (arith, nat_tests)

pub first_least : (position : ℕ) (course : Course) → length (first position course) ≤ position
first_least position [] = omega arith
first_least position (moved ∷ course) = least_on position moved course (leb position (length course)) refl (first_least position course)

longer_on : (position earlier : ℕ) (moved : Moved) (course : Course) (b : Bool) → leb position (length course) ≡ b → earlier < position
    → earlier < length (moved ∷ course)
    → (earlier < length course → earlier < length (first position course)) → earlier < length (cond b (first position course) (moved ∷ course))
longer_on position earlier moved course true is less inside rest =
    rest (let at_least : position ≤ length course = grind (arith, nat_tests) in omega (arith, less, at_least))
longer_on position earlier moved course false is less inside rest = inside

longer : (position earlier : ℕ) (course : Course) → earlier < position → earlier < length course → earlier < length (first position course)
longer position earlier [] less inside = inside
longer position earlier (moved ∷ course) less inside =
    longer_on position earlier moved course (leb position (length course)) refl less inside (longer position earlier course less)

-- what stood earlier stands there
pub at_first : (course : Course) (position earlier : ℕ) (moved : Moved) → earlier < position → at course earlier ≡ Some moved
    → at (first position course) earlier ≡ Some moved
at_first course position earlier moved less found =
    let inside = longer position earlier course less (within course earlier moved found) in
    sym (at_grown (first position course) course (first_grown position course) earlier inside) ∙ found

pub at_whole : (course : Course) (position earlier : ℕ) (moved : Moved) → at (first position course) earlier ≡ Some moved → at course earlier ≡ Some moved
at_whole course position earlier moved found =
    at_grown (first position course) course (first_grown position course) earlier (within (first position course) earlier moved found) ∙ found

pub before_position : (course : Course) (position earlier : ℕ) (moved : Moved) → at (first position course) earlier ≡ Some moved → earlier < position
before_position course position earlier moved found =
    let inside = within (first position course) earlier moved found in let least = first_least position course in omega (arith, inside, least)

-- ---- one event at a time

stepped_on : (cluster : Cluster) (position : ℕ) (moved : Moved) (course : Course) (b : Bool) → Stepped cluster (first position course)
    → Stepped cluster (moved ∷ course)
    → Stepped cluster (cond b (first position course) (moved ∷ course))
stepped_on cluster position moved course true earlier all = earlier
stepped_on cluster position moved course false earlier all = all

pub stepped_first : (cluster : Cluster) (course : Course) (position : ℕ) → Stepped cluster course → Stepped cluster (first position course)
stepped_first cluster [] position stepped = tt
stepped_first cluster (moved ∷ course) position stepped =
    stepped_on cluster position moved course (leb position (length course)) (stepped_first cluster course position stepped.0) stepped

pub step_at : (cluster : Cluster) (course : Course) (position : ℕ) (moved : Moved) → Stepped cluster course → at course position ≡ Some moved
    → Step cluster (first position course) moved
step_at cluster course position moved stepped found =
    (subst (Stepped cluster) (first_next course position moved found) (stepped_first cluster course (suc position) stepped)).1
