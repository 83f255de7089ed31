-- Lists of numbers that begin with their least.
use Rattle.std.specs.Prelude.{◌≡◌, ℕ, ◌+◌, ◌<◌, ◌≤◌, Bool, true, false, ◌||◌, ◌==◌, IsTrue, List, [], ◌∷◌, ◌++◌, length, Some, slice_get, if◌then◌else◌}
use Rattle.std.proofs.Common.{refl, sym, ap, subst, ◌∙◌, inl, inr, arith}
use Rattle.std.specs.List.{list_any}
use Rattle.std.proofs.lemmas.Bool.{false≢true}
use Rattle.std.proofs.lemmas.Bool.Decides.{Decides-eqb}
use Rattle.std.proofs.lemmas.List.{length-append}
use Rattle.cilk_checker.proofs.LoopSets.{in_either, is_in}
use Rattle.cilk_tree.specs.declared.rule.Rule.{Rule}
use Rattle.cilk_tree.specs.declared.rule.Rule.TheVariants.{DuplicateName, UnknownName, WrongKind, WrongArity, NoValue, SpawnInPlain, CallOfCilk, SpawnOfPlain, NoMain, TooManyWords}
use Rattle.cilk_tree.specs.declared.tree.Function.{Function}
use Rattle.cilk_tree.specs.declared.tree.Program.{Program}
use Rattle.cilk_tree.specs.declared.tree.Shared.{Shared}
use Rattle.cilk_tree.specs.Rule.{rule_number}
use Rattle.cilk_tree.specs.Lawful.Flow.{Flow, Site, Nothing, At, Then, Either, Loop, sites}
use Rattle.cilk_tree.specs.Lawful.Pending.{Pending, both, touched}
use Rattle.cilk_checker.specs.Computed.{ends, uses_pending}
use Rattle.cilk_tree.specs.Lawful.Rules.{kind_if, array_kinds, function_kinds, statement_kinds, array_again, has_too_many_words, function_again, declares_again, uses_unknown, uses_wrong, has_wrong_arity, lacks_value, spawns_in_plain, calls_cilk, spawns_plain}
use Rattle.cilk_checker.proofs.Numbering.{IsNumbered, numbered_parts}

-- the numbers are at least the one and below the other, and none is below the first
pub record Rises (low high : ℕ) (xs : List ℕ) : Type 0 where
  pub above : (n : ℕ) → IsTrue (is_in xs n) → low ≤ n
  pub below : (n : ℕ) → IsTrue (is_in xs n) → n < high
  pub least : (first n : ℕ) → slice_get xs 0 ≡ Some first → IsTrue (is_in xs n) → first ≤ n

-- the first number is one of them
pub first_in : (xs : List ℕ) (n : ℕ) → slice_get xs 0 ≡ Some n → IsTrue (is_in xs n)
first_in [] n e = cc
first_in (x ∷ xs) n e = ap (λ b. b || is_in xs n) same
  where
    same : (x == n) ≡ true
    same = (Decides-eqb x n).1 cc

Rises-none : (low high : ℕ) → Rises low high []
Rises-none low high = record { above = λ n h. absurd (false≢true h); below = λ n h. absurd (false≢true h); least = λ first n e h. absurd (false≢true h) }

only_one : (m n : ℕ) → IsTrue (is_in (m ∷ []) n) → m ≡ n
only_one m n h = elim (in_either (m ∷ []) [] n h) [ inl h ↦ (Decides-eqb m n).0 (sym (or_none (m == n)) ∙ h) | inr h ↦ absurd (false≢true h) ]
  where
    or_none : (b : Bool) → (b || false) ≡ b
    or_none true = refl
    or_none false = refl

the_first : (m n : ℕ) (xs : List ℕ) → slice_get (m ∷ xs) 0 ≡ Some n → m ≡ n
the_first m n xs e = cc

Rises-one : (low : ℕ) → Rises low (low + 1) (low ∷ [])
Rises-one low = record {
  above = λ n h. let e = only_one low n h in omega (arith, e);
  below = λ n h. let e = only_one low n h in omega (arith, e);
  least = λ first n e h. let f = only_one low n h in let g = the_first low first [] e in omega (arith, f, g);
}

pub Rises-joined : (low middle high : ℕ) (xs ys : List ℕ) → low ≤ middle → middle ≤ high → Rises low middle xs → Rises middle high ys → Rises low high (xs ++ ys)
Rises-joined low middle high xs ys p q r s = record {
  above = λ n h. elim (in_either xs ys n h) [ inl h ↦ r.above n h | inr h ↦ (let k = s.above n h in omega (arith, k)) ];
  below = λ n h. elim (in_either xs ys n h) [ inl h ↦ (let k = r.below n h in omega (arith, k)) | inr h ↦ s.below n h ];
  least = least xs r;
}
  where
    least : (xs : List ℕ) → Rises low middle xs → (first n : ℕ) → slice_get (xs ++ ys) 0 ≡ Some first → IsTrue (is_in (xs ++ ys) n) → first ≤ n
    least [] r first n e h = s.least first n e h
    least (x ∷ xs) r first n e h =
        elim (in_either (x ∷ xs) ys n h) [
          | inl h ↦ r.least first n e h
          | inr h ↦ (let k = s.above n h in let l = r.below first (first_in (x ∷ xs) first e) in omega (arith, k, l))
        ]

Rises-kind : (b : Bool) (broken : Rule) → Rises (rule_number broken) (rule_number broken + 1) (kind_if b broken)
Rises-kind true broken = Rises-one (rule_number broken)
Rises-kind false broken = Rises-none (rule_number broken) (rule_number broken + 1)

-- ---- kinds

pub array_kinds_rise : (program : Program) (number : ℕ) (array : Shared) → Rises 201 212 (array_kinds program number array)
array_kinds_rise program number array = Rises-joined 201 211 212 _ _ (omega arith) (omega arith) (wider (Rises-kind (array_again program number array) DuplicateName)) (Rises-kind (has_too_many_words program number) TooManyWords)
  where
    wider : {xs : List ℕ} → Rises 201 202 xs → Rises 201 211 xs
    wider r = record { above = r.above; below = λ n h. (let k = r.below n h in omega (arith, k)); least = r.least }

pub function_kinds_rise : (program : Program) (number : ℕ) (function : Function) → Rises 201 202 (function_kinds program number function)
function_kinds_rise program number function = Rises-kind (function_again program number function) DuplicateName

pub statement_kinds_rise : (program : Program) (function : Function) (site : Site) → Rises 201 209 (statement_kinds program function site)
statement_kinds_rise program function site =
    let at = site.point in
    let statement = site.head in
    Rises-joined 201 208 209 _ _ (omega arith) (omega arith)
    (Rises-joined 201 207 208 _ _ (omega arith) (omega arith)
    (Rises-joined 201 206 207 _ _ (omega arith) (omega arith)
    (Rises-joined 201 205 206 _ _ (omega arith) (omega arith)
    (Rises-joined 201 204 205 _ _ (omega arith) (omega arith)
    (Rises-joined 201 203 204 _ _ (omega arith) (omega arith)
    (Rises-joined 201 202 203 _ _ (omega arith) (omega arith)
    (Rises-kind (declares_again program at statement) DuplicateName)
    (Rises-kind (uses_unknown program at statement) UnknownName))
    (Rises-kind (uses_wrong program at statement) WrongKind))
    (Rises-kind (has_wrong_arity program at statement) WrongArity))
    (Rises-kind (lacks_value program function at statement) NoValue))
    (Rises-kind (spawns_in_plain function statement) SpawnInPlain))
    (Rises-kind (calls_cilk program at statement) CallOfCilk))
    (Rises-kind (spawns_plain program at statement) SpawnOfPlain)

pub whole_kinds_rise : (b : Bool) → Rises 210 211 (kind_if b NoMain)
whole_kinds_rise b = Rises-kind b NoMain

-- ---- uses

uses_here : (b : Bool) (statement number : ℕ) → statement ≡ number → Rises number (number + 1) (if b then statement ∷ [] else [])
uses_here true statement number e = subst (λ n. Rises n (n + 1) (statement ∷ [])) e (Rises-one statement)
uses_here false statement number e = Rises-none number (number + 1)

uses_joined : (first second : Flow) (xs ys : List ℕ) (number : ℕ) → Rises number (number + length (sites first)) xs → Rises (number + length (sites first)) ((number + length (sites first)) + length (sites second)) ys → Rises number (number + length (sites first ++ sites second)) (xs ++ ys)
uses_joined first second xs ys number r s =
    let same : (number + length (sites first)) + length (sites second) ≡ number + length (sites first ++ sites second) = omega (arith, length-append (sites first) (sites second)) in
    subst (λ high. Rises number high (xs ++ ys)) same (Rises-joined number (number + length (sites first)) ((number + length (sites first)) + length (sites second)) xs ys (omega arith) (omega arith) r s)

-- the statements that use a pending local come in order
pub uses_rise : (flow : Flow) (before : Pending) (number : ℕ) → IsNumbered number (sites flow) → Rises number (number + length (sites flow)) (uses_pending flow before)
uses_rise Nothing before number p = Rises-none number (number + length (sites Nothing))
uses_rise (At site) before number p = uses_here (list_any before (touched site.point site.head)) site.point.statement number p.0
uses_rise (Then first second) before number p =
    let parts = numbered_parts number (sites first) (sites second) p in
    uses_joined first second (uses_pending first before) (uses_pending second (ends first before)) number (uses_rise first before number parts.0) (uses_rise second (ends first before) (number + length (sites first)) parts.1)
uses_rise (Either met unmet) before number p =
    let parts = numbered_parts number (sites met) (sites unmet) p in
    uses_joined met unmet (uses_pending met before) (uses_pending unmet before) number (uses_rise met before number parts.0) (uses_rise unmet before (number + length (sites met)) parts.1)
uses_rise (Loop turn) before number p = uses_rise turn (both before (ends turn before)) number p
