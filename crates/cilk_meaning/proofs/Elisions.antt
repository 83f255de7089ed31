-- The laws of the serial elision.
use Rattle.std.proofs.Common.{◌≡◌, ℕ, suc, ◌≤◌, ◌<◌, ◌⊎◌, inl, inr, zero, List, sym, ap, ◌∙◌, subst, arith}
use Rattle.std.specs.Prelude.{ℤ}
use Rattle.cilk_meaning.specs.declared.ends.NodeEnd.TheVariants.{Budget}
use Rattle.cilk_meaning.specs.Elision.{elision_within}
use Rattle.cilk_meaning.specs.Instance.{Limits, Meaning, instance, wants_within}
use Rattle.cilk_meaning.specs.Laws.{BudgetWantsMore, ElisionIsService, MoreTicks, TicksAreCounted}
use Rattle.cilk_meaning.specs.Resolved.{Program}
use Rattle.cilk_meaning.specs.Serve.{first_state}
use Rattle.cilk_meaning.specs.World.{End, ticks_of}
use Rattle.cilk_meaning.proofs.Alike.{Below, served_same}
use Rattle.cilk_meaning.proofs.Living.{Counted, service_counts}
use Rattle.cilk_meaning.proofs.Serial.{bounded_service}
use Rattle.cilk_meaning.proofs.Ticks.{more_ticks_served, ticks_suffice_served}
use Rattle.cilk_meaning.proofs.Wanting.{bound_is_hidden}

module _ (most : Limits) (program : Program) where
  -- instances with this bound
  abbrev bounded : ℕ → ℕ → ℕ → List ℤ → Meaning
  bounded bound depth f vs = instance most program depth bound f vs

  wants_alike : (bound depth f : ℕ) (vs : List ℤ) → Below bound (wants_within most program depth f vs) (bounded bound depth f vs)
  wants_alike bound depth f vs answers lt = sym (bound_is_hidden most program depth bound f vs answers lt)

pub elision_is_service : ElisionIsService
elision_is_service most program memory budget =
    sym (served_same (wants_within most program) (bounded most program (suc budget)) budget (wants_alike most program (suc budget)) program.main memory
    ∙ bounded_service most program memory budget (suc budget) (omega arith))

pub more_ticks : MoreTicks
more_ticks most program memory few many le more =
    let few_is = bounded_service most program memory few (suc many) (omega arith) in
    let many_is = bounded_service most program memory many (suc many) (omega arith) in
    sym many_is
    ∙ more_ticks_served (bounded most program (suc many)) few many le (first_state (bounded most program (suc many)) program.main memory) (λ spent. more (ap (λ (e : End). e.end) (sym few_is) ∙ spent))
    ∙ few_is

pub ticks_are_counted : TicksAreCounted
ticks_are_counted most program memory budget =
    let is = bounded_service most program memory budget (suc budget) (omega arith) in
    let counted = subst (Counted budget) is (service_counts most program budget memory) in
    (counted.within, counted.spent)

at_most_or_above : (m n : ℕ) → (m ≤ n) ⊎ (n < m)
at_most_or_above zero n = inl (omega arith)
at_most_or_above (suc m) zero = inr (omega arith)
at_most_or_above (suc m) (suc n) = one_up (at_most_or_above m n)
  where
    one_up : (m ≤ n) ⊎ (n < m) → (suc m ≤ suc n) ⊎ (suc n < suc m)
    one_up (inl le) = inl (omega (arith, le))
    one_up (inr lt) = inr (omega (arith, lt))

module _ (most : Limits) (program : Program) (memory : ℕ → ℤ) (budget : ℕ) where
  abbrev with_ticks : ℕ → End
  with_ticks ticks = elision_within most program memory ticks

  -- As many ticks as it makes with one more are enough.
  ticks_suffice : ticks_of (with_ticks (suc budget)) ≤ budget → with_ticks (suc budget) ≡ with_ticks budget
  ticks_suffice le =
      let many_is = bounded_service most program memory (suc budget) (suc (suc budget)) (omega arith) in
      let few_is = bounded_service most program memory budget (suc (suc budget)) (omega arith) in
      sym many_is
      ∙ ticks_suffice_served (bounded most program (suc (suc budget))) budget (suc budget) (omega arith) (first_state (bounded most program (suc (suc budget))) program.main memory)
      (omega (arith, le, ap ticks_of many_is))
      ∙ few_is

  makes_one_more : (with_ticks budget).end ≡ Budget → (ticks_of (with_ticks (suc budget)) ≤ budget) ⊎ (budget < ticks_of (with_ticks (suc budget))) → ticks_of (with_ticks (suc budget)) ≡ suc budget
  makes_one_more spent (inl le) = (ticks_are_counted most program memory (suc budget)).1 (ap (λ (e : End). e.end) (ticks_suffice le) ∙ spent)
  makes_one_more spent (inr lt) = omega (arith, lt, (ticks_are_counted most program memory (suc budget)).0)

pub budget_wants_more : BudgetWantsMore
budget_wants_more most program memory budget spent = makes_one_more most program memory budget spent (at_most_or_above (ticks_of (elision_within most program memory (suc budget))) budget)
