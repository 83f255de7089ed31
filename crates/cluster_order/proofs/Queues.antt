-- A list that grows at its end and loses its first, matched with the queue of the positions where it grew.
use Rattle.std.proofs.Common.{◌≡◌, ℕ, zero, suc, List, [], ◌∷◌, ◌++◌, Bool, true, false, refl, sym, subst}
use Rattle.cluster_rules.specs.Walking as walking
use Rattle.backer_order.specs.Moments.{queue, Head}
use Rattle.backer_order.specs.Moments as moments

module _ {A : Type 0} (Rel : A → ℕ → Type 0) where
  abbrev pub Matched : List A → List ℕ → Type 0
  Matched [] [] = Unit {0}
  Matched [] (position ∷ positions) = ⊥
  Matched (item ∷ items) [] = ⊥
  Matched (item ∷ items) (position ∷ positions) = Rel item position × Matched items positions

  pushed_on : (items : List A) (positions : List ℕ) (item : A) (position : ℕ) → Matched items positions → Rel item position
      → Matched (items ++ item ∷ []) (positions ++ position ∷ [])
  pushed_on [] [] item position matched is = (is, tt)
  pushed_on [] (one ∷ positions) item position matched is = absurd matched
  pushed_on (one ∷ items) [] item position matched is = absurd matched
  pushed_on (one ∷ items) (other ∷ positions) item position matched is = (matched.0, pushed_on items positions item position (matched.1) is)

  popped_on : (items : List A) (positions : List ℕ) → Matched items positions → Matched (walking.rest_of items) (moments.rest_of positions)
  popped_on [] [] matched = tt
  popped_on [] (one ∷ positions) matched = absurd matched
  popped_on (one ∷ items) [] matched = absurd matched
  popped_on (one ∷ items) (other ∷ positions) matched = matched.1

  module _ (push pop : ℕ → Bool) (state : ℕ → List A) where
    -- what may happen to the list at a position
    pub data Step (position : ℕ) : Type 0 where
      Popped : pop position ≡ true → state (suc position) ≡ walking.rest_of (state position) → Step position
      Pushed : (item : A) → pop position ≡ false → push position ≡ true → state (suc position) ≡ state position ++ item ∷ [] → Rel item position → Step position
      Kept : pop position ≡ false → push position ≡ false → state (suc position) ≡ state position → Step position

    -- what may happen has kept the match
    pub matched : state 0 ≡ [] → ((position : ℕ) → Matched (state position) (queue push pop position) → Step position) → (position : ℕ)
        → Matched (state position) (queue push pop position)
    unfolding queue
    matched empty steps zero = subst (λ items. Matched items []) (sym empty) tt
    matched empty steps (suc position) = let before = matched empty steps position in on (steps position before) before
      where
        on : Step position → Matched (state position) (queue push pop position) → Matched (state (suc position)) (queue push pop (suc position))
        on (Popped is same) before = rw (same, is) (popped_on (state position) (queue push pop position) before)
        on (Pushed item no_pop is same rel) before = rw (same, no_pop, is) (pushed_on (state position) (queue push pop position) item position before rel)
        on (Kept no_pop no_push same) before = rw (same, no_pop, no_push) before

    -- the first of the list is that of the queue
    pub head_of : (position : ℕ) (items : List A) (item : A) (rest : List A) → Matched items (queue push pop position) → items ≡ item ∷ rest
        → (oldest : ℕ) × Head push pop position oldest × Rel item oldest
    head_of position [] item rest matched is = absurd (cc)
    head_of position (first ∷ items) item rest matched is = on (queue push pop position) refl matched
      where
        on : (positions : List ℕ) → queue push pop position ≡ positions → Matched (first ∷ items) positions
            → (oldest : ℕ) × Head push pop position oldest × Rel item oldest
        on [] same both = absurd both
        on (oldest ∷ positions) same both =
            let one : first ≡ item = cc in (oldest, record { rest = positions; is = same }, subst (λ it. Rel it oldest) one (both.0))
