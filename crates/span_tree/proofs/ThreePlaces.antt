-- The law on three places, and what parallel places are.
use Rattle.std.proofs.Common.{◌≡◌, ◌≢◌, ◌⊎◌, ℕ, ◌<◌, ◌≤◌, List, [], ◌∷◌, ◌++◌, length, Some, refl, sym, ap, ◌∙◌, subst, inl, inr, arith, append_assoc}
use Rattle.std.proofs.lemmas.Bool.{cases_lt}
use Rattle.std.specs.Prelude.{slice_get}
use Rattle.std.proofs.lemmas.Option.{slice_get_within}
use Rattle.span_tree.specs.declared.act.Act.{Act}
use Rattle.span_tree.specs.declared.act.Act.TheVariants.{Spawn, Sync}
use Rattle.span_tree.specs.declared.act.Place.{Place}
use Rattle.span_tree.specs.Dag.{IsBefore, IsParallel, NoSync, PartUnsynced, RunsBeside, way}
use Rattle.span_tree.specs.History.{History, IsNumbered, IsPlace, act_at, row_at}
use Rattle.span_tree.specs.Laws.{OrderIsOfPlaces, ThreePlaces, OneIsFirst, ParallelIsSymmetric, NotParallelInRow, NotParallelBelow, IsWithin, Itself, Below}
use Rattle.span_tree.proofs.Orders.{Earlier, all_in, row_within, earlier_of, earlier_on, not_itself, not_both_before, not_before_itself, one_is_first, only_places}
use Rattle.span_tree.proofs.Ways.{child_same, parent_of, row_way, row_way_is, way_is, part_up}

no_sync_on : (acts : List Act) (i j k : ℕ) → NoSync acts i j → NoSync acts j k → NoSync acts i k
no_sync_on acts i j k a b n lt le = go (cases_lt j n)
  where
    go : (j < n) ⊎ (n ≤ j) → slice_get acts n ≢ Some Sync
    go (inl more) = b n more le
    go (inr less) = a n lt less

goes_on : (h : History) (row : ℕ) (xs ys : List ℕ) → PartUnsynced h row xs ys → xs ≢ []
goes_on h row [] ys p e = p
goes_on h row (x ∷ xs) ys p e = absurd cc

three_ways : (h : History) (row : ℕ) (xs ys zs : List ℕ) → PartUnsynced h row xs ys → PartUnsynced h row ys zs → PartUnsynced h row xs zs
three_ways h row [] ys zs p q = p
three_ways h row (i ∷ xs) [] zs p q = absurd p
three_ways h row (i ∷ xs) (j ∷ ys) [] p q = q
three_ways h row (i ∷ xs) (j ∷ ys) (k ∷ zs) (inl p) (inl q) = inl (omega (arith, p.0, q.0), p.1, no_sync_on (row_at h row).acts i j k p.2 q.2)
three_ways h row (i ∷ xs) (j ∷ ys) (k ∷ zs) (inl p) (inr q) = inl (omega (arith, p.0, q.0), p.1, subst (λ n. NoSync (row_at h row).acts i n) q.0 p.2)
three_ways h row (i ∷ xs) (j ∷ ys) (k ∷ zs) (inr p) (inl q) =
    inl (omega (arith, p.0, q.0), goes_on h p.1 xs ys p.3, subst (λ n. NoSync (row_at h row).acts n k) (sym p.0) q.2)
three_ways h row (i ∷ xs) (j ∷ ys) (k ∷ zs) (inr p) (inr q) =
    let one : q.1 ≡ p.1 = child_same q.1 p.1 (sym q.2 ∙ ap (λ n. act_at h (record { row = row; act = n })) (sym p.0) ∙ p.2) in
    inr (p.0 ∙ q.0, p.1, p.2, three_ways h p.1 xs ys zs p.3 (subst (λ c. PartUnsynced h c ys zs) one q.3))

-- the first way is serially first
pub beside_earlier : (h : History) (row : ℕ) (xs ys : List ℕ) → PartUnsynced h row xs ys → Earlier xs ys
beside_earlier h row [] ys p = absurd p
beside_earlier h row (i ∷ xs) [] p = absurd p
beside_earlier h row (i ∷ xs) (j ∷ ys) (inl p) = inl p.0
beside_earlier h row (i ∷ xs) (j ∷ ys) (inr p) = inr (p.0, beside_earlier h p.1 xs ys p.3)

-- of two places that are parallel, the one that is serially first runs beside the other
pub beside_of_parallel : (h : History) → IsNumbered h → (x y : Place) → IsBefore h x y → IsParallel h x y → RunsBeside h x y
beside_of_parallel h numbered x y before (inl p) = p
beside_of_parallel h numbered x y before (inr p) =
    absurd (not_itself (way h x) (earlier_on (way h x) (way h y) (way h x) (earlier_of h numbered x y before) (beside_earlier h 0 (way h y) (way h x) p)))

pub three_places : ThreePlaces
three_places h numbered x y z before after p q =
    inl (three_ways h 0 (way h x) (way h y) (way h z) (beside_of_parallel h numbered x y before p) (beside_of_parallel h numbered y z after q))

pub one_of_two : OneIsFirst
one_of_two h numbered x y is_x is_y ne = go (one_is_first h numbered x y is_x is_y)
  where
    go : (x ≡ y) ⊎ (IsBefore h x y ⊎ IsBefore h y x) → (IsBefore h x y × ¬ IsBefore h y x) ⊎ (IsBefore h y x × ¬ IsBefore h x y)
    go (inl same) = absurd (ne same)
    go (inr (inl before)) = inl (before, λ after. not_both_before h numbered x y before after)
    go (inr (inr after)) = inr (after, λ before. not_both_before h numbered x y before after)

pub parallel_is_symmetric : ParallelIsSymmetric
parallel_is_symmetric h x y (inl p) = inr p
parallel_is_symmetric h x y (inr p) = inl p

pub order_is_of_places : OrderIsOfPlaces
order_is_of_places h numbered x = ((λ is. all_in h numbered x is, λ is. only_places h numbered x is), λ before. not_before_itself h numbered x before)

-- ---- what is never parallel

-- a way is not beside one that goes on from it, nor the other way round
no_front : (h : History) (row i : ℕ) (rest : List ℕ) → PartUnsynced h row (i ∷ []) (i ∷ rest) → ⊥
no_front h row i rest (inl p) = omega (arith, p.0)
no_front h row i rest (inr p) = p.3

no_end : (h : History) (row : ℕ) (xs : List ℕ) → PartUnsynced h row xs [] → ⊥
no_end h row [] p = p
no_end h row (x ∷ xs) p = p

no_back : (h : History) (row i : ℕ) (rest : List ℕ) → PartUnsynced h row (i ∷ rest) (i ∷ []) → ⊥
no_back h row i rest (inl p) = omega (arith, p.0)
no_back h row i rest (inr p) = no_end h p.1 rest p.3

one_row_ways : (h : History) (row i j : ℕ) → PartUnsynced h row (i ∷ []) (j ∷ []) → ⊥
one_row_ways h row i j (inl p) = p.1 refl
one_row_ways h row i j (inr p) = p.3

module _ (h : History) (numbered : IsNumbered h) where
  not_beside_in_row : (x y : Place) → IsPlace h x → IsPlace h y → x.row ≡ y.row → RunsBeside h x y → ⊥
  not_beside_in_row x y is_x is_y same p =
      let inside = row_within h numbered x.row x refl is_x in
      let front = row_way h numbered x.row in
      let way_x : way h x ≡ front ++ x.act ∷ [] = way_is h numbered x inside in
      let way_y : way h y ≡ front ++ y.act ∷ [] = way_is h numbered y (row_within h numbered y.row y refl is_y) ∙ ap (λ r. row_way h numbered r ++ y.act ∷ []) (sym same) in
      one_row_ways h x.row x.act y.act
      (part_up h numbered x.row (x.act ∷ []) (y.act ∷ []) inside (subst (λ l. PartUnsynced h 0 l (front ++ y.act ∷ [])) way_x (subst (λ l. PartUnsynced h 0 (way h x) l) way_y p)))

  -- the way to what lies in a row or below goes on from the row's way
  goes_through : (row : ℕ) (y : Place) → IsPlace h y → IsWithin h row y → (rest : List ℕ) × (way h y ≡ row_way h numbered row ++ rest)
  goes_through row y is (Itself _ same) = (y.act ∷ [], way_is h numbered y (row_within h numbered y.row y refl is) ∙ ap (λ r. row_way h numbered r ++ y.act ∷ []) same)
  goes_through row y is (Below _ up e w) =
      let above = goes_through row up (slice_get_within (row_at h up.row).acts up.act _ (parent_of h numbered y.row up e).spawns) w in (
        above.0 ++ y.act ∷ [],
        way_is h numbered y (row_within h numbered y.row y refl is) ∙ ap (λ l. l ++ y.act ∷ []) (row_way_is h numbered y.row up e ∙ above.1) ∙ append_assoc (row_way h numbered row) above.0 (y.act ∷ []),
      )

  module _ (x y : Place) (child : ℕ) (spawns : act_at h x ≡ Some (Spawn child)) (is_y : IsPlace h y) (within : IsWithin h child y) where
    abbrev inside : x.row < length h
    inside = row_within h numbered x.row x refl (slice_get_within (row_at h x.row).acts x.act _ spawns)

    abbrev front : List ℕ
    front = row_way h numbered x.row

    abbrev through : (rest : List ℕ) × (way h y ≡ row_way h numbered child ++ rest)
    through = goes_through child y is_y within

    way_x : way h x ≡ front ++ x.act ∷ []
    way_x = way_is h numbered x inside

    way_y : way h y ≡ front ++ x.act ∷ through.0
    way_y = through.1 ∙ ap (λ l. l ++ through.0) (row_way_is h numbered child x (numbered.child x child spawns).1.named ∙ way_x) ∙ append_assoc front (x.act ∷ []) through.0

    not_below : IsParallel h x y → ⊥
    not_below (inl p) =
        no_front h x.row x.act through.0 (part_up h numbered x.row (x.act ∷ []) (x.act ∷ through.0) inside
        (subst (λ l. PartUnsynced h 0 l (front ++ x.act ∷ through.0)) way_x (subst (λ l. PartUnsynced h 0 (way h x) l) way_y p)))
    not_below (inr p) =
        no_back h x.row x.act through.0 (part_up h numbered x.row (x.act ∷ through.0) (x.act ∷ []) inside
        (subst (λ l. PartUnsynced h 0 l (front ++ x.act ∷ [])) way_y (subst (λ l. PartUnsynced h 0 (way h y) l) way_x p)))

pub not_parallel_in_row : NotParallelInRow
not_parallel_in_row h numbered x y is_x is_y same (inl p) = not_beside_in_row h numbered x y is_x is_y same p
not_parallel_in_row h numbered x y is_x is_y same (inr p) = not_beside_in_row h numbered y x is_y is_x (sym same) p

pub not_parallel_below : NotParallelBelow
not_parallel_below h numbered x y child spawns is_y within p = not_below h numbered x y child spawns is_y within p
