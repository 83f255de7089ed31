-- What the branches by which two ways part say of the places.
use Rattle.std.proofs.Common.{◌≡◌, ◌≢◌, ℕ, ◌<◌, List, [], ◌∷◌, ◌++◌, length, Option, Some, None, refl, sym, ap, ◌∙◌, subst, inl, inr, arith, append_assoc}
use Rattle.std.specs.Prelude.{Bool, true, false, not, IsTrue}
use Rattle.std.proofs.lemmas.Option.{slice_get_within}
use Rattle.span_tree.specs.declared.act.Place.{Place}
use Rattle.span_tree.specs.declared.history.Branch.{Branch}
use Rattle.span_tree.specs.Dag.{IsBefore, IsParallel, PartUnsynced, Precedes, RunsBeside, way}
use Rattle.span_tree.specs.History.{History, IsNumbered, IsParent, IsPlace, act_at, row_at}
use Rattle.span_tree.specs.Parting.{ComesFirst, GoesBy, IsParting, IsUnsynced}
use Rattle.span_tree.proofs.Orders.{Earlier, under, over, earlier_of, before_of, row_within}
use Rattle.span_tree.proofs.Ways.{none_is, some_same, child_same, row_way, way_is, part_up, part_down}

swapped : (h : History) (x y : Place) (a b : Branch) → IsParting h x y a b → IsParting h y x b a
swapped h x y a b p = record { one_row = sym p.one_row; first_goes = p.second_goes; second_goes = p.first_goes; apart = λ child e f. p.apart child f e }

-- at first each way goes by its own place, where it ends
pub goes_by_itself : (h : History) (x : Place) → IsPlace h x → GoesBy h x (record { place = x; child = None })
goes_by_itself h x is = record { rest = []; is_place = is; is_way = sym (nil (way h x)); ends = λ e. refl; goes_on = λ child e. absurd (none_is None child refl e) }
  where
    nil : (xs : List ℕ) → xs ++ [] ≡ xs
    nil [] = refl
    nil (x ∷ xs) = ap (λ l. x ∷ l) (nil xs)

-- and then by the Spawn act that leads to the row
pub goes_up : (h : History) → IsNumbered h → (x : Place) (branch up : Branch) → GoesBy h x branch → IsParent h branch.place.row up.place → up.child ≡ Some branch.place.row → GoesBy h x up
goes_up h numbered x branch up goes parent child = record {
  rest = branch.place.act ∷ goes.rest;
  is_place = slice_get_within (row_at h up.place.row).acts up.place.act _ parent.spawns;
  is_way = goes.is_way ∙ ap (λ l. l ++ goes.rest) (way_is h numbered branch.place (row_within h numbered branch.place.row branch.place refl goes.is_place)
      ∙ ap (λ l. l ++ branch.place.act ∷ []) (ap (λ o. way_of o) parent.named)) ∙ append_assoc (way h up.place) (branch.place.act ∷ []) goes.rest;
  ends = λ e. absurd (none_is up.child branch.place.row e child);
  goes_on = λ c e. (λ clash. absurd cc, subst (λ r. IsParent h r up.place) (some_same branch.place.row c (sym child ∙ e)) parent);
}
  where
    way_of : Option Place → List ℕ
    way_of None = []
    way_of (Some place) = way h place

module _ (h : History) (numbered : IsNumbered h) where
  module _ (x y : Place) (a b : Branch) (p : IsParting h x y a b) where
    abbrev row : ℕ
    row = a.place.row

    abbrev front : List ℕ
    front = row_way h numbered row

    abbrev xs : List ℕ
    xs = p.first_goes.rest

    abbrev ys : List ℕ
    ys = p.second_goes.rest

    inside : row < length h
    inside = row_within h numbered row a.place refl p.first_goes.is_place

    first_way : way h x ≡ front ++ a.place.act ∷ xs
    first_way = p.first_goes.is_way ∙ ap (λ l. l ++ xs) (way_is h numbered a.place inside) ∙ append_assoc front (a.place.act ∷ []) xs

    second_way : way h y ≡ front ++ b.place.act ∷ ys
    second_way =
        p.second_goes.is_way ∙ ap (λ l. l ++ ys) (way_is h numbered b.place (row_within h numbered b.place.row b.place refl p.second_goes.is_place) ∙ ap (λ r. row_way h numbered r ++ b.place.act ∷ []) (sym p.one_row))
        ∙ append_assoc front (b.place.act ∷ []) ys

    child_of : (o : Option ℕ) (rest : List ℕ) → (o ≡ None → rest ≡ []) → rest ≢ [] → (child : ℕ) × (o ≡ Some child)
    child_of None rest ends ne = absurd (ne (ends refl))
    child_of (Some child) rest ends ne = (child, refl)

    -- they do not go on into one child
    not_one : xs ≢ [] → ys ≢ [] → a.place.act ≡ b.place.act → ⊥
    not_one some some' e =
        let c = child_of a.child xs p.first_goes.ends some in
        let d = child_of b.child ys p.second_goes.ends some' in
        let at : act_at h a.place ≡ act_at h b.place = ap (λ r. act_at h (record { row = r; act = a.place.act })) p.one_row ∙ ap (λ k. act_at h (record { row = b.place.row; act = k })) e in
        let same : c.0 ≡ d.0 = child_same c.0 d.0 (sym (p.first_goes.goes_on c.0 c.1).1.spawns ∙ at ∙ (p.second_goes.goes_on d.0 d.1).1.spawns) in
        p.apart c.0 c.1 (d.1 ∙ ap (λ n. Some n) (sym same))

    both_go_on : (child : ℕ) (us vs : List ℕ) → PartUnsynced h child us vs → (us ≢ []) × (vs ≢ [])
    both_go_on child [] vs q = absurd q
    both_go_on child (u ∷ us) [] q = absurd q
    both_go_on child (u ∷ us) (v ∷ vs) q = (λ e. absurd cc, λ e. absurd cc)

    pub unsynced_of : RunsBeside h x y → IsUnsynced h a b
    unsynced_of q = go (part_up h numbered row (a.place.act ∷ xs) (b.place.act ∷ ys) inside (subst (λ l. PartUnsynced h 0 l (front ++ b.place.act ∷ ys)) first_way (subst (λ l. PartUnsynced h 0 (way h x) l) second_way q)))
      where
        go : PartUnsynced h row (a.place.act ∷ xs) (b.place.act ∷ ys) → IsUnsynced h a b
        go (inl u) = (u.0, λ e. u.1 (p.first_goes.ends e), u.2)
        go (inr u) = let both = both_go_on u.1 xs ys u.3 in absurd (not_one both.0 both.1 u.0)

    pub beside_of : IsUnsynced h a b → RunsBeside h x y
    beside_of u =
        let at : PartUnsynced h row (a.place.act ∷ xs) (b.place.act ∷ ys) = inl (u.0, goes_on a.child refl, u.2) in
        subst (λ l. PartUnsynced h 0 l (way h y)) (sym first_way) (subst (λ l. PartUnsynced h 0 (front ++ a.place.act ∷ xs) l) (sym second_way)
        (part_down h numbered row (a.place.act ∷ xs) (b.place.act ∷ ys) inside at))
      where
        goes_on : (o : Option ℕ) → a.child ≡ o → xs ≢ []
        goes_on None e = absurd (u.1 e)
        goes_on (Some child) e = (p.first_goes.goes_on child e).0

    module _ (is_x : IsPlace h x) (is_y : IsPlace h y) where
      before_of_first : ComesFirst a b → IsBefore h x y
      before_of_first first =
          before_of h numbered x y is_x is_y (subst (λ l. Earlier l (way h y)) (sym first_way) (subst (λ l. Earlier (front ++ a.place.act ∷ xs) l) (sym second_way)
          (under front (a.place.act ∷ xs) (b.place.act ∷ ys) (go first))))
        where
          end : (us vs : List ℕ) → us ≡ [] → vs ≢ [] → Earlier us vs
          end [] [] e ne = absurd (ne refl)
          end [] (v ∷ vs) e ne = tt
          end (u ∷ us) vs e ne = absurd cc

          goes_on : (o : Option ℕ) → b.child ≡ o → b.child ≢ None → ys ≢ []
          goes_on None e some = absurd (some e)
          goes_on (Some child) e some = (p.second_goes.goes_on child e).0

          go : ComesFirst a b → Earlier (a.place.act ∷ xs) (b.place.act ∷ ys)
          go (inl lt) = inl lt
          go (inr u) = inr (u.0, end xs ys (p.first_goes.ends u.1) (goes_on b.child refl u.2))

      first_of_before : IsBefore h x y → ComesFirst a b
      first_of_before before =
          go (over front (a.place.act ∷ xs) (b.place.act ∷ ys) (subst (λ l. Earlier l (front ++ b.place.act ∷ ys)) first_way (subst (λ l. Earlier (way h x) l) second_way (earlier_of h numbered x y before))))
        where
          some_behind : (us vs : List ℕ) → Earlier us vs → vs ≢ []
          some_behind [] [] e ne = absurd e
          some_behind [] (v ∷ vs) e ne = absurd cc
          some_behind (u ∷ us) [] e ne = absurd e
          some_behind (u ∷ us) (v ∷ vs) e ne = absurd cc

          ended : (o : Option ℕ) → a.child ≡ o → a.place.act ≡ b.place.act → ys ≢ [] → a.child ≡ None
          ended None e same some = e
          ended (Some child) e same some = absurd (not_one (p.first_goes.goes_on child e).0 some same)

          go : Earlier (a.place.act ∷ xs) (b.place.act ∷ ys) → ComesFirst a b
          go (inl lt) = inl lt
          go (inr u) = let some = some_behind xs ys u.1 in inr (u.0, ended a.child refl u.0 some, λ e. some (p.second_goes.ends e))

      not_after : ComesFirst a b → b.place.act < a.place.act → ⊥
      not_after (inl lt) gt = omega (arith, lt, gt)
      not_after (inr u) gt = omega (arith, u.0, gt)

      beside_is_unsynced : (RunsBeside h y x → b.place.act < a.place.act) → ComesFirst a b → IsParallel h x y → IsUnsynced h a b
      beside_is_unsynced after first (inl q) = unsynced_of q
      beside_is_unsynced after first (inr q) = absurd (not_after first (after q))

      precedes_first : (RunsBeside h y x → b.place.act < a.place.act) → ComesFirst a b → (beside : Bool) → (IsTrue beside → IsUnsynced h a b) → (IsUnsynced h a b → IsTrue beside) → (IsTrue (not beside) → Precedes h x y) × (Precedes h x y → IsTrue (not beside))
      precedes_first after first true is of = (λ e. absurd cc, λ q. absurd (q.1 (inl (beside_of (is refl)))))
      precedes_first after first false is of =
          (λ e. (before_of_first first, λ parallel. let clash : false ≡ true = of (beside_is_unsynced after first parallel) in cc), λ q. refl)

      pub precedes_else : (ComesFirst a b → ⊥) → Precedes h x y → ⊥
      precedes_else not_first q = not_first (first_of_before q.0)

  module _ (x y : Place) (a b : Branch) (p : IsParting h x y a b) where
    pub precedes_then : IsPlace h x → IsPlace h y → ComesFirst a b → (beside : Bool) → (IsTrue beside → IsUnsynced h a b) → (IsUnsynced h a b → IsTrue beside) →
        (IsTrue (not beside) → Precedes h x y) × (Precedes h x y → IsTrue (not beside))
    precedes_then is_x is_y first beside is of = precedes_first x y a b p is_x is_y (λ q. (unsynced_of y x b a (swapped h x y a b p) q).0) first beside is of

    pub beside_after : IsUnsynced h b a → RunsBeside h y x
    beside_after u = beside_of y x b a (swapped h x y a b p) u

    pub unsynced_after : RunsBeside h y x → IsUnsynced h b a
    unsynced_after q = unsynced_of y x b a (swapped h x y a b p) q

    pub parallel_else : (first second : Bool) → first ≡ false → (IsUnsynced h a b → IsTrue first) → (IsTrue second → IsUnsynced h b a) → (IsUnsynced h b a → IsTrue second) →
        (IsTrue second → IsParallel h x y) × (IsParallel h x y → IsTrue second)
    parallel_else first second no_first of is' of' = (λ e. inr (beside_after (is' e)), go)
      where
        go : IsParallel h x y → IsTrue second
        go (inl q) = let clash : false ≡ true = sym no_first ∙ of (unsynced_of x y a b p q) in absurd cc
        go (inr q) = of' (unsynced_after q)
