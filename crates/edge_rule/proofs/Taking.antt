-- The first frames of a deque.
use Rattle.std.proofs.Common.{◌≡◌, List, [], ◌∷◌, ◌++◌, Some, None, Option, refl, ap, ◌∙◌}
use Rattle.std.specs.Prelude.{IsSome, slice_get, slice_set}
use Rattle.std.specs.Borrow.{MutBor}
use Rattle.std.specs.Option.{option_copied_mut}
use Rattle.page_messages.specs.declared.closure.Child.{Child}
use Rattle.page_messages.specs.declared.closure.Closure.{Closure}
use Rattle.page_messages.specs.declared.closure.JoinId.{JoinId}
use Rattle.edge_rule.specs.Joins.{Joins}
use Rattle.edge_rule.specs.Stealing.{StartsJoinFor, TakesParted, join_for, separated, stack_of, stolen, with_first}

pub some_first : (deque : List Closure) → (deque ≡ [] → ⊥) → IsSome (slice_get deque 0)
some_first [] some = absurd (some refl)
some_first (first ∷ rest) some = refl

pub lent_some : {X : Type 0} (lent : Option (MutBor X)) → IsSome (option_copied_mut lent) → IsSome lent
lent_some None some = some
lent_some (Some item) some = refl

-- the first two frames, as they were
pub same_first : (deque : List Closure) (first : Closure) → slice_get deque 0 ≡ Some first → slice_set deque 0 first ≡ deque
same_first [] first is = refl
same_first (other ∷ rest) first is = cc

pub same_second : (deque : List Closure) (second : Closure) → slice_get deque 1 ≡ Some second → slice_set deque 1 second ≡ deque
same_second [] second is = refl
same_second (first ∷ []) second is = refl
same_second (first ∷ (other ∷ rest)) second is = cc

module _ (join : JoinId) where
  pub led_in_deque : (deque : List Closure) (running first : Closure) → slice_get deque 0 ≡ Some first → stack_of (slice_set deque 0 (separated join first)) running ≡ with_first (separated join) (stack_of deque running)
  led_in_deque [] running first is = cc
  led_in_deque (other ∷ rest) running first is = let same : first ≡ other = cc in ap (λ child. separated join child ∷ (rest ++ running ∷ [])) same

  pub led_running : (deque : List Closure) (running : Closure) → slice_get deque 0 ≡ None → stack_of deque (separated join running) ≡ with_first (separated join) (stack_of deque running)
  led_running [] running none = refl
  led_running (first ∷ rest) running none = cc

-- the first was changed, and then taken
pub taken_parted : (child : Child) (before after : Joins) (deque new : List Closure) (parent parted taken : Closure) (join : JoinId) → slice_get deque 0 ≡ Some parent →
    slice_set deque 0 parted ≡ taken ∷ new → parted ≡ stolen join child parent → join ≡ join_for before parent.join → StartsJoinFor parent.join before after →
    TakesParted child before after deque new taken join
taken_parted child before after [] new parent parted taken join is left changed named starts = cc
taken_parted child before after (first ∷ rest) new parent parted taken join is left changed named starts =
    let same : first ≡ parent = cc in
    let behind : rest ≡ new = cc in
    let given : taken ≡ parted = cc in
    record {
      parent = parent;
      deque = λ i. same i ∷ behind i;
      closure = given ∙ changed ∙ ap (λ there. stolen there child parent) named;
      join_is = named;
      joins = starts;
    }
