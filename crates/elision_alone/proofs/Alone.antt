-- The elision is an execution depth first on one node, of at most as many ticks as it may.
use Rattle.std.proofs.Common.{◌≡◌, ℕ, zero, suc, ◌≤◌, inl, inr, ℤ, Bool, true, sym, subst, arith}
use Rattle.backer_order.proofs.Search.{Less3, Same3, More3, compare}
use Rattle.cilk_meaning.proofs.Elisions.{elision_is_service, ticks_are_counted, budget_wants_more}
use Rattle.cilk_meaning.specs.Instance.{Limits, wants_within}
use Rattle.cilk_meaning.specs.Resolved.{Program}
use Rattle.cilk_meaning.specs.World.{End}
use Rattle.determinacy.proofs.Counting.{count_yes, count_no, count_zero}
use Rattle.determinacy.proofs.Rows.{either_bool}
use Rattle.determinacy.specs.Ending.{count, is_item}
use Rattle.determinacy.specs.Replies.{by}
use Rattle.elision_alone.proofs.Lines.{no_item}
use Rattle.elision_alone.proofs.Serving.{EndsDeep, service_ends_deep}
use Rattle.elision_alone.specs.Laws.{ElisionIsAlone}
use Rattle.elision_trace.proofs.Elisions.{ended, elision_obeys, elision_reads, elision_ticks}
use Rattle.elision_trace.specs.Laws.{end_of, elision_trace, finish_of}
use Rattle.one_node.specs.Alone.{Within}

count_within : (holds : ℕ → Bool) (number : ℕ) → count holds number ≤ number
count_within holds zero = let none = count_zero holds in omega (arith, none)
count_within holds (suc number) =
    let before = count_within holds number in
    elim (either_bool (holds number)) [
      | inl is ↦ let more = count_yes holds number is in omega (arith, before, more)
      | inr none ↦ let same = count_no holds number none in omega (arith, before, same)
    ]

module _ (most : Limits) (program : Program) (start : ℕ → ℤ) (budget : ℕ) where
  ends_deep : EndsDeep (wants_within most program) program.main budget (end_of most program start budget)
  ends_deep = subst (λ (e : End). EndsDeep (wants_within most program) program.main budget e) (sym (elision_is_service most program start budget))
      (service_ends_deep (wants_within most program) program.main budget (end_of most program start budget) (end_of most program start (suc budget))
      (ticks_are_counted most program start budget).1 (budget_wants_more most program start budget) start
      (sym (elision_is_service most program start budget)) (sym (elision_is_service most program start (suc budget))))

  within : Within (elision_trace most program start budget) budget
  within at frame is = elim (compare at (finish_of most program start budget)) [
    | Less3 l ↦
        let ticks = (ticks_are_counted most program start budget).0 in
        let before = count_within (λ i. is_item ((elision_trace most program start budget).events i)) at in
        omega (arith, l, ticks, before)
    | Same3 same ↦ absurd (behind (omega (arith, same)))
    | More3 l ↦ absurd (behind (omega (arith, l)))
  ]
    where
      behind : finish_of most program start budget ≤ at → ⊥
      behind after = no_item frame (subst (λ i. by frame i ≡ true) ((ended most program start budget).sound.past at after) is)

pub elision_is_alone : ElisionIsAlone
elision_is_alone most program start budget memory parted begins =
    let deeply = ends_deep most program start budget in
    record {
      obeys = elision_obeys most program start budget parted;
      deep = deeply.deep;
      reads = elision_reads most program start budget memory begins;
      items = (elision_ticks most program start budget).0;
      within = within most program start budget;
      ends = deeply.ends_as;
    }
