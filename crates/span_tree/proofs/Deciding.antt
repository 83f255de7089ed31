-- Of two places one precedes the other, or they are parallel; and precedence goes on.
use Rattle.std.proofs.Common.{◌≡◌, ◌≢◌, ◌⊎◌, ℕ, zero, suc, ◌<◌, ◌≤◌, List, [], ◌∷◌, Option, Some, None, refl, sym, ap, ◌∙◌, subst, inl, inr, arith}
use Rattle.std.proofs.lemmas.Bool.{cases_lt}
use Rattle.std.specs.Prelude.{slice_get}
use Rattle.span_tree.specs.declared.act.Act.{Act}
use Rattle.span_tree.specs.declared.act.Act.TheVariants.{Read, Write, Add, Print, Spawn, Sync}
use Rattle.span_tree.specs.declared.act.Place.{Place}
use Rattle.span_tree.specs.Dag.{IsBefore, IsParallel, NoSync, PartUnsynced, Precedes, RunsBeside, way}
use Rattle.span_tree.specs.History.{History, act_at, row_at}
use Rattle.span_tree.specs.Laws.{OneOfThree, PrecedesOn}
use Rattle.span_tree.proofs.Growing.{same_or}
use Rattle.span_tree.proofs.Orders.{Earlier, earlier_of, before_on, one_is_first}
use Rattle.span_tree.proofs.ThreePlaces.{beside_of_parallel}
use Rattle.span_tree.proofs.Ways.{child_same, none_is}

-- ---- two ways part unsynced, or not

is_sync : (o : Option Act) → (o ≡ Some Sync) ⊎ (o ≢ Some Sync)
is_sync None = inr (λ e. none_is None Sync refl e)
is_sync (Some Sync) = inl refl
is_sync (Some (Read word value)) = inr (λ e. cc)
is_sync (Some (Write word value)) = inr (λ e. cc)
is_sync (Some (Add word old addend)) = inr (λ e. cc)
is_sync (Some (Print value)) = inr (λ e. cc)
is_sync (Some (Spawn child)) = inr (λ e. cc)

syncs : (acts : List Act) (i j : ℕ) → NoSync acts i j ⊎ ¬ NoSync acts i j
syncs acts i zero = inl (λ k lt le. absurd (omega (arith, lt, le)))
syncs acts i (suc j) = go (syncs acts i j) (is_sync (slice_get acts (suc j))) (cases_lt i (suc j))
  where
    last : (k : ℕ) → i < k → k ≤ suc j → NoSync acts i j → slice_get acts (suc j) ≢ Some Sync → (k ≡ suc j) ⊎ (k ≢ suc j) → slice_get acts k ≢ Some Sync
    last k lt le quiet no_last (inl same) = λ e. no_last (ap (λ n. slice_get acts n) (sym same) ∙ e)
    last k lt le quiet no_last (inr ne) = quiet k lt (omega (arith, le, ne))

    go : NoSync acts i j ⊎ ¬ NoSync acts i j → (slice_get acts (suc j) ≡ Some Sync) ⊎ (slice_get acts (suc j) ≢ Some Sync) → (i < suc j) ⊎ (suc j ≤ i) → NoSync acts i (suc j) ⊎ ¬ NoSync acts i (suc j)
    go (inr some) is at = inr (λ quiet. some (λ k lt le. quiet k lt (omega (arith, le))))
    go (inl quiet) (inr no_last) at = inl (λ k lt le. last k lt le quiet no_last (same_or k (suc j)))
    go (inl quiet) (inl is) (inl lt) = inr (λ all. all (suc j) lt (omega arith) is)
    go (inl quiet) (inl is) (inr ge) = inl (λ k lt le. absurd (omega (arith, lt, le, ge)))

is_empty : (xs : List ℕ) → (xs ≡ []) ⊎ (xs ≢ [])
is_empty [] = inl refl
is_empty (x ∷ xs) = inr (λ e. cc)

spawned_child : (o : Option Act) → ((child : ℕ) × (o ≡ Some (Spawn child))) ⊎ ((child : ℕ) → o ≢ Some (Spawn child))
spawned_child None = inr (λ child e. none_is None (Spawn child) refl e)
spawned_child (Some (Spawn child)) = inl (child, refl)
spawned_child (Some Sync) = inr (λ child e. cc)
spawned_child (Some (Read word value)) = inr (λ child e. cc)
spawned_child (Some (Write word value)) = inr (λ child e. cc)
spawned_child (Some (Add word old addend)) = inr (λ child e. cc)
spawned_child (Some (Print value)) = inr (λ child e. cc)

parts : (h : History) (row : ℕ) (xs ys : List ℕ) → PartUnsynced h row xs ys ⊎ ¬ PartUnsynced h row xs ys
parts h row [] ys = inr (λ p. p)
parts h row (i ∷ xs) [] = inr (λ p. p)
parts h row (i ∷ xs) (j ∷ ys) = go (cases_lt i j) (is_empty xs) (syncs (row_at h row).acts i j) (same_or i j) (spawned_child (act_at h (record { row = row; act = i }))) (λ c. parts h c xs ys)
  where
    below : (i ≡ j) → (child : ℕ) → act_at h (record { row = row; act = i }) ≡ Some (Spawn child) → PartUnsynced h child xs ys ⊎ ¬ PartUnsynced h child xs ys → PartUnsynced h row (i ∷ xs) (j ∷ ys) ⊎ ¬ PartUnsynced h row (i ∷ xs) (j ∷ ys)
    below same child is (inl p) = inl (inr (same, child, is, p))
    below same child is (inr no_part) = inr (λ p. refuse p)
      where
        refuse : PartUnsynced h row (i ∷ xs) (j ∷ ys) → ⊥
        refuse (inl p) = omega (arith, p.0, same)
        refuse (inr p) = no_part (subst (λ c. PartUnsynced h c xs ys) (child_same p.1 child (sym p.2 ∙ is)) p.3)

    go : (i < j) ⊎ (j ≤ i) → (xs ≡ []) ⊎ (xs ≢ []) → NoSync (row_at h row).acts i j ⊎ ¬ NoSync (row_at h row).acts i j → (i ≡ j) ⊎ (i ≢ j) →
        ((child : ℕ) × (act_at h (record { row = row; act = i }) ≡ Some (Spawn child))) ⊎ ((child : ℕ) → act_at h (record { row = row; act = i }) ≢ Some (Spawn child)) →
        ((c : ℕ) → PartUnsynced h c xs ys ⊎ ¬ PartUnsynced h c xs ys) → PartUnsynced h row (i ∷ xs) (j ∷ ys) ⊎ ¬ PartUnsynced h row (i ∷ xs) (j ∷ ys)
    go (inl lt) (inr some) (inl quiet) same child rest = inl (inl (lt, some, quiet))
    go (inl lt) (inl none) quiet same child rest = inr (λ p. refuse p)
      where
        refuse : PartUnsynced h row (i ∷ xs) (j ∷ ys) → ⊥
        refuse (inl p) = p.1 none
        refuse (inr p) = omega (arith, p.0, lt)
    go (inl lt) (inr some) (inr synced) same child rest = inr (λ p. refuse p)
      where
        refuse : PartUnsynced h row (i ∷ xs) (j ∷ ys) → ⊥
        refuse (inl p) = synced p.2
        refuse (inr p) = omega (arith, p.0, lt)
    go (inr ge) none quiet (inl same) (inl child) rest = below same child.0 child.1 (rest child.0)
    go (inr ge) none quiet (inl same) (inr no_child) rest = inr (λ p. refuse p)
      where
        refuse : PartUnsynced h row (i ∷ xs) (j ∷ ys) → ⊥
        refuse (inl p) = omega (arith, p.0, ge)
        refuse (inr p) = no_child p.1 p.2
    go (inr ge) none quiet (inr ne) child rest = inr (λ p. refuse p)
      where
        refuse : PartUnsynced h row (i ∷ xs) (j ∷ ys) → ⊥
        refuse (inl p) = omega (arith, p.0, ge)
        refuse (inr p) = ne p.0

is_parallel : (h : History) (x y : Place) → IsParallel h x y ⊎ ¬ IsParallel h x y
is_parallel h x y = go (parts h 0 (way h x) (way h y)) (parts h 0 (way h y) (way h x))
  where
    go : RunsBeside h x y ⊎ ¬ RunsBeside h x y → RunsBeside h y x ⊎ ¬ RunsBeside h y x → IsParallel h x y ⊎ ¬ IsParallel h x y
    go (inl p) q = inl (inl p)
    go (inr n) (inl q) = inl (inr q)
    go (inr n) (inr m) = inr neither
      where
        neither : IsParallel h x y → ⊥
        neither (inl p) = n p
        neither (inr p) = m p

pub one_of_three : OneOfThree
one_of_three h numbered x y is_x is_y ne = go (is_parallel h x y) (one_is_first h numbered x y is_x is_y)
  where
    other : ¬ IsParallel h x y → ¬ IsParallel h y x
    other not_beside (inl p) = not_beside (inr p)
    other not_beside (inr p) = not_beside (inl p)

    go : IsParallel h x y ⊎ ¬ IsParallel h x y → (x ≡ y) ⊎ (IsBefore h x y ⊎ IsBefore h y x) → IsParallel h x y ⊎ (Precedes h x y ⊎ Precedes h y x)
    go (inl p) first = inl p
    go (inr not_beside) (inl same) = absurd (ne same)
    go (inr not_beside) (inr (inl before)) = inr (inl (before, not_beside))
    go (inr not_beside) (inr (inr after)) = inr (inr (after, λ p. other not_beside p))

-- ---- precedence goes on

some_behind : (xs ys : List ℕ) → Earlier xs ys → ys ≢ []
some_behind [] [] e none = absurd e
some_behind [] (y ∷ ys) e none = absurd cc
some_behind (x ∷ xs) [] e none = absurd e
some_behind (x ∷ xs) (y ∷ ys) e none = absurd cc

-- what is between two places that are parallel is parallel to one of them
between : (h : History) (row : ℕ) (xs ys zs : List ℕ) → Earlier xs ys → Earlier ys zs → PartUnsynced h row xs zs → PartUnsynced h row xs ys ⊎ PartUnsynced h row ys zs
between h row [] ys zs a b p = absurd p
between h row (i ∷ xs) ys [] a b p = absurd p
between h row (i ∷ xs) [] (k ∷ zs) a b p = absurd a
between h row (i ∷ xs) (j ∷ ys) (k ∷ zs) (inl a) (inl b) (inl p) = inl (inl (a, p.1, λ n lt le. p.2 n lt (omega (arith, le, b))))
between h row (i ∷ xs) (j ∷ ys) (k ∷ zs) (inl a) (inr b) (inl p) = inl (inl (a, p.1, λ n lt le. p.2 n lt (omega (arith, le, b.0))))
between h row (i ∷ xs) (j ∷ ys) (k ∷ zs) (inr a) b (inl p) =
    inr (inl (omega (arith, a.0, p.0), some_behind xs ys a.1, λ n lt le. p.2 n (omega (arith, lt, a.0)) le))
between h row (i ∷ xs) (j ∷ ys) (k ∷ zs) (inl a) (inl b) (inr p) = absurd (omega (arith, a, b, p.0))
between h row (i ∷ xs) (j ∷ ys) (k ∷ zs) (inl a) (inr b) (inr p) = absurd (omega (arith, a, b.0, p.0))
between h row (i ∷ xs) (j ∷ ys) (k ∷ zs) (inr a) (inl b) (inr p) = absurd (omega (arith, a.0, b, p.0))
between h row (i ∷ xs) (j ∷ ys) (k ∷ zs) (inr a) (inr b) (inr p) = up (between h p.1 xs ys zs a.1 b.1 p.3)
  where
    up : PartUnsynced h p.1 xs ys ⊎ PartUnsynced h p.1 ys zs → PartUnsynced h row (i ∷ xs) (j ∷ ys) ⊎ PartUnsynced h row (j ∷ ys) (k ∷ zs)
    up (inl q) = inl (inr (a.0, p.1, p.2, q))
    up (inr q) = inr (inr (b.0, p.1, ap (λ n. act_at h (record { row = row; act = n })) (sym a.0) ∙ p.2, q))

pub precedes_on : PrecedesOn
precedes_on h numbered x y z a b = (before, λ p. neither (between h 0 (way h x) (way h y) (way h z) (earlier_of h numbered x y a.0) (earlier_of h numbered y z b.0) (beside_of_parallel h numbered x z before p)))
  where
    before : IsBefore h x z
    before = before_on h numbered x y z a.0 b.0

    neither : RunsBeside h x y ⊎ RunsBeside h y z → ⊥
    neither (inl p) = a.1 (inl p)
    neither (inr p) = b.1 (inl p)
