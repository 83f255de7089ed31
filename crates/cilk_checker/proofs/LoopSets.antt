-- A loop's set exists and is reached after one turn, and the computing form of the rule 209 agrees with its definition.
use Rattle.std.specs.Prelude.{◌≡◌, ℕ, Bool, true, false, ◌&&◌, ◌||◌, ◌==◌, IsTrue, ◌⊎◌, [], ◌∷◌, ◌++◌, if◌then◌else◌, Option, Some, None, option_and_then}
use Rattle.std.proofs.Common.{List, refl, sym, ap, subst, ◌∙◌, inl, inr, ⊎_elim, rules, tests}
use Rattle.std.specs.List.{list_any}
use Rattle.std.proofs.lemmas.Bool.{false≢true}
use Rattle.std.proofs.lemmas.List.Folds.{list_any-append}
use Rattle.cilk_tree.specs.declared.tree.Stmt.TheOpen as head
use Rattle.cilk_tree.specs.Lawful.Flow.{Head, Flow, Nothing, At, Then, Either, Loop}
use Rattle.cilk_tree.specs.Lawful.Pending.{Pending, none, both, IsWithin, IsLeast, with_local, after_head, Ends, UsesPending}
use Rattle.cilk_checker.specs.Computed.{ends, uses_pending}
use Rattle.cilk_tree.specs.Lawful.Scope.{Local, local_named}

-- what a flow does to each set: it keeps it or not, and adds what does not depend on it
record Shape (change : Pending → Pending) : Type 0 where
  kept : Bool
  added : Pending
  is : (set : Pending) (local : ℕ) → change set local ≡ (kept && set local || added local)

keeps : (s : Bool) → s ≡ (true && s || false)
keeps true = refl
keeps false = refl

keeps_more : (s a : Bool) → (s || a) ≡ (true && s || a)
keeps_more true a = refl
keeps_more false a = refl

Shape-with_local : (found : Option ℕ) → Shape (with_local found)
Shape-with_local None = record { kept = true; added = none; is = λ set local. keeps (set local) }
Shape-with_local (Some number) = record { kept = true; added = λ local. local == number; is = λ set local. keeps_more (set local) (local == number) }

-- a statement that changes nothing
Shape-same : Shape (λ set. set)
Shape-same = record { kept = true; added = none; is = λ set local. keeps (set local) }

Shape-emptied : Shape (λ set. none)
Shape-emptied = record { kept = false; added = none; is = λ set local. refl }

Shape-after_head : (scope : List Local) (statement : Head) → Shape (after_head scope statement)
Shape-after_head scope (head.Declare name) = Shape-same
Shape-after_head scope (head.Assign name value) = Shape-same
Shape-after_head scope (head.Put name index value) = Shape-same
Shape-after_head scope (head.Print value) = Shape-same
Shape-after_head scope (head.If condition met unmet) = Shape-same
Shape-after_head scope (head.While condition body) = Shape-same
Shape-after_head scope (head.Block body) = Shape-same
Shape-after_head scope (head.Call target name arguments) = Shape-same
Shape-after_head scope (head.Spawn target name arguments) = Shape-with_local (option_and_then (local_named scope) target)
Shape-after_head scope (head.Add target name index addend) = Shape-same
Shape-after_head scope head.Sync = Shape-emptied
Shape-after_head scope (head.Return value) = Shape-emptied

in_turn : (k l s a b : Bool) → (l && (k && s || a) || b) ≡ (l && k && s || (l && a || b))
in_turn true true true a b = refl
in_turn true true false a b = refl
in_turn true false s a b = refl
in_turn false true s a b = refl
in_turn false false s a b = refl

joined : (k l s a b : Bool) → ((k && s || a) || (l && s || b)) ≡ ((k || l) && s || (a || b))
joined true true true a b = refl
joined true true false a b = refl
joined true false true a b = refl
joined true false false a b = refl
joined false true true true b = refl
joined false true true false b = refl
joined false true false a b = refl
joined false false s a b = refl

looped : (k s a : Bool) → (s || (k && s || a)) ≡ (true && s || a)
looped true true a = refl
looped true false a = refl
looped false true a = refl
looped false false a = refl

Shape-ends : (flow : Flow) → Shape (ends flow)
Shape-ends Nothing = Shape-same
Shape-ends (At site) = Shape-after_head site.point.scope site.head
Shape-ends (Then first second) =
    let one = Shape-ends first in
    let two = Shape-ends second in
    record { kept = two.kept && one.kept; added = λ local. two.kept && one.added local || two.added local; is = λ set local. two.is (ends first set) local ∙ ap (λ b. two.kept && b || two.added local) (one.is set local) ∙ in_turn one.kept two.kept (set local) (one.added local) (two.added local) }
Shape-ends (Either met unmet) =
    let one = Shape-ends met in
    let two = Shape-ends unmet in
    record { kept = one.kept || two.kept; added = both one.added two.added; is = λ set local. ap (λ b. b || ends unmet set local) (one.is set local) ∙ ap (λ b. (one.kept && set local || one.added local) || b) (two.is set local) ∙ joined one.kept two.kept (set local) (one.added local) (two.added local) }
Shape-ends (Loop turn) =
    let one = Shape-ends turn in
    record { kept = true; added = one.added; is = λ set local. ap (λ b. set local || b) (one.is set local) ∙ looped one.kept (set local) (one.added local) }

added_alone : (k s a : Bool) → (s || (k && false || a)) ≡ (s || (k && s || a))
added_alone true true a = refl
added_alone true false a = refl
added_alone false s a = refl

-- what a flow adds to a set is what it makes of the empty one
pub added_by : (flow : Flow) (before : Pending) → both before (ends flow none) ≡ both before (ends flow before)
added_by flow before = λ i local. by_local local i
  where
    by_local : (local : ℕ) → both before (ends flow none) local ≡ both before (ends flow before) local
    by_local local =
        let one = Shape-ends flow in
        ap (λ b. before local || b) (one.is none local) ∙ added_alone one.kept (before local) (one.added local) ∙ sym (ap (λ b. before local || b) (one.is before local))

same_again : (k s a : Bool) → (s || (k && s || a)) ≡ (s || (k && (s || (k && s || a)) || a))
same_again true true a = refl
same_again true false true = refl
same_again true false false = refl
same_again false true a = refl
same_again false false a = refl

below : (k s a o : Bool) → o ≡ (s || (k && o || a)) → IsTrue (s || (k && s || a)) → IsTrue o
below k s a true e h = refl
below k true a false e h = subst IsTrue (sym e) refl
below k false true false e h = subst IsTrue (sym e) (last k)
  where
    last : (k : Bool) → IsTrue (k && false || true)
    last true = refl
    last false = refl
below true false false false e h = h
below false false false false e h = h

-- one turn reaches a set that a turn does not change
again : (turn : Flow) (before : Pending) → ends (Loop turn) before ≡ both before (ends turn (ends (Loop turn) before))
again turn before = λ i local. by_local local i
  where
    by_local : (local : ℕ) → ends (Loop turn) before local ≡ both before (ends turn (ends (Loop turn) before)) local
    by_local local =
        let one = Shape-ends turn in
        let at_first = ap (λ b. before local || b) (one.is before local) in
        let at_next = ap (λ b. before local || b) (one.is (ends (Loop turn) before) local) in
        let next_of_first = ap (λ b. before local || (one.kept && b || one.added local)) at_first in
        at_first ∙ same_again one.kept (before local) (one.added local) ∙ sym next_of_first ∙ sym at_next

-- and it is within each other one
within_each : (turn : Flow) (before other : Pending) → other ≡ both before (ends turn other) → IsWithin (ends (Loop turn) before) other
within_each turn before other solves local h =
    let one = Shape-ends turn in
    let e = ap (λ set. set local) solves ∙ ap (λ b. before local || b) (one.is other local) in
    below one.kept (before local) (one.added local) (other local) e (subst IsTrue (ap (λ b. before local || b) (one.is before local)) h)

same_truth : (a b : Bool) → (IsTrue a → IsTrue b) → (IsTrue b → IsTrue a) → a ≡ b
same_truth true true f g = refl
same_truth true false f g = absurd (false≢true (f refl))
same_truth false true f g = absurd (false≢true (g refl))
same_truth false false f g = refl

-- there is one least set at most
one_least : (Solves : Pending → Type 0) (one other : Pending) → IsLeast Solves one → IsLeast Solves other → one ≡ other
one_least Solves one other p q = λ i local. same_truth (one local) (other local) (p.least other q.solves local) (q.least one p.solves local) i

-- a loop's set, where a turn's are known
loop_is : (turn : Flow) (before : Pending) → Ends turn (ends (Loop turn) before) (ends turn (ends (Loop turn) before)) → ((other end : Pending) → Ends turn other end → end ≡ ends turn other) → Ends (Loop turn) before (ends (Loop turn) before)
loop_is turn before turned only = record { solves = (ends turn (ends (Loop turn) before), turned, again turn before); least = λ other s. within_each turn before other (s.2 ∙ ap (both before) (only other s.0 s.1)) }

mutual
  -- the computed set is the one of the definition
  pub Ends-ends : (flow : Flow) (before : Pending) → Ends flow before (ends flow before)
  Ends-ends Nothing before = refl
  Ends-ends (At site) before = refl
  Ends-ends (Then first second) before = (ends first before, Ends-ends first before, Ends-ends second (ends first before))
  Ends-ends (Either met unmet) before = (ends met before, ends unmet before, Ends-ends met before, Ends-ends unmet before, refl)
  Ends-ends (Loop turn) before = loop_is turn before (Ends-ends turn (ends (Loop turn) before)) (λ other end e. ends-Ends turn other end e)

  -- and no other is
  pub ends-Ends : (flow : Flow) (before after : Pending) → Ends flow before after → after ≡ ends flow before
  ends-Ends Nothing before after e = e
  ends-Ends (At site) before after e = e
  ends-Ends (Then first second) before after e = ends-Ends second e.0 after e.2 ∙ ap (ends second) (ends-Ends first before e.0 e.1)
  ends-Ends (Either met unmet) before after e = e.4 ∙ ap (λ set. both set e.1) (ends-Ends met before e.0 e.2) ∙ ap (both (ends met before)) (ends-Ends unmet before e.1 e.3)
  ends-Ends (Loop turn) before after e = one_least _ after (ends (Loop turn) before) e (loop_is turn before (Ends-ends turn (ends (Loop turn) before)) (λ other end h. ends-Ends turn other end h))

to_either : (a b : Bool) → IsTrue (a || b) → IsTrue a ⊎ IsTrue b
to_either true b h = inl refl
to_either false b h = inr h

from_either : (a b : Bool) → IsTrue a ⊎ IsTrue b → IsTrue (a || b)
from_either true b h = refl
from_either false b (inl h) = absurd (false≢true h)
from_either false b (inr h) = h

-- the number is one of these
abbrev pub is_in : List ℕ → ℕ → Bool
is_in xs n = list_any (λ m. m == n) xs

pub in_either : (xs ys : List ℕ) (n : ℕ) → IsTrue (is_in (xs ++ ys) n) → IsTrue (is_in xs n) ⊎ IsTrue (is_in ys n)
in_either xs ys n h = to_either _ _ (subst IsTrue (list_any-append (λ m. m == n) xs ys) h)

in_joined : (xs ys : List ℕ) (n : ℕ) → IsTrue (is_in xs n) ⊎ IsTrue (is_in ys n) → IsTrue (is_in (xs ++ ys) n)
in_joined xs ys n h = subst IsTrue (sym (list_any-append (λ m. m == n) xs ys)) (from_either _ _ h)

same_number : (m n : ℕ) → IsTrue (m == n || false) → n ≡ m
same_number m n h = search (rules, tests)

here : (b : Bool) (m n : ℕ) → IsTrue (is_in (if b then m ∷ [] else []) n) → (n ≡ m) × IsTrue b
here true m n h = (same_number m n h, refl)
here false m n h = absurd (false≢true h)

there : (b : Bool) (m n : ℕ) → n ≡ m → IsTrue b → IsTrue (is_in (if b then m ∷ [] else []) n)
there true m n e h = search (rules, tests)
there false m n e h = absurd (false≢true h)

-- the computed numbers are those where the rule is broken
pub UsesPending-uses_pending : (flow : Flow) (before : Pending) (n : ℕ) → IsTrue (is_in (uses_pending flow before) n) → UsesPending flow before n
UsesPending-uses_pending Nothing before n h = absurd (false≢true h)
UsesPending-uses_pending (At site) before n h = here _ _ n h
UsesPending-uses_pending (Then first second) before n h = ⊎_elim (λ l. inl (UsesPending-uses_pending first before n l)) (λ r. inr (ends first before, Ends-ends first before, UsesPending-uses_pending second (ends first before) n r)) (in_either (uses_pending first before) (uses_pending second (ends first before)) n h)
UsesPending-uses_pending (Either met unmet) before n h = ⊎_elim (λ l. inl (UsesPending-uses_pending met before n l)) (λ r. inr (UsesPending-uses_pending unmet before n r)) (in_either (uses_pending met before) (uses_pending unmet before) n h)
UsesPending-uses_pending (Loop turn) before n h = (ends (Loop turn) before, Ends-ends (Loop turn) before, UsesPending-uses_pending turn (ends (Loop turn) before) n h)

pub uses_pending-UsesPending : (flow : Flow) (before : Pending) (n : ℕ) → UsesPending flow before n → IsTrue (is_in (uses_pending flow before) n)
uses_pending-UsesPending Nothing before n h = absurd h
uses_pending-UsesPending (At site) before n h = there _ _ n h.0 h.1
uses_pending-UsesPending (Then first second) before n h = in_joined (uses_pending first before) (uses_pending second (ends first before)) n (⊎_elim (λ l. inl (uses_pending-UsesPending first before n l)) (λ r. inr (subst (λ set. IsTrue (is_in (uses_pending second set) n)) (ends-Ends first before r.0 r.1) (uses_pending-UsesPending second r.0 n r.2))) h)
uses_pending-UsesPending (Either met unmet) before n h = in_joined (uses_pending met before) (uses_pending unmet before) n (⊎_elim (λ l. inl (uses_pending-UsesPending met before n l)) (λ r. inr (uses_pending-UsesPending unmet before n r)) h)
uses_pending-UsesPending (Loop turn) before n h = subst (λ set. IsTrue (is_in (uses_pending turn set) n)) (ends-Ends (Loop turn) before h.0 h.1) (uses_pending-UsesPending turn h.0 n h.2)
