-- The serial order has each place once, and what stands first in it is what its way puts first.
use Rattle.std.proofs.Common.{◌≡◌, ◌⊎◌, ℕ, zero, suc, ◌+◌, ◌<◌, ◌≤◌, List, [], ◌∷◌, ◌++◌, length, Some, refl, sym, ap, ◌∙◌, subst, inl, inr, arith, append_assoc}
use Rattle.std.proofs.lemmas.Bool.{cases_lt}
use Rattle.std.proofs.lemmas.Option.{slice_get_within}
use Rattle.std.proofs.lemmas.List.Elements.{Contains-append_left, Contains-append_right, Contains-append_cases}
use Rattle.std.specs.List.{Contains}
use Rattle.std.specs.Prelude.{slice_get}
use Rattle.span_tree.specs.declared.act.Act.{Act}
use Rattle.span_tree.specs.declared.act.Act.TheVariants.{Read, Write, Add, Print, Spawn, Sync}
use Rattle.span_tree.specs.declared.act.Place.{Place}
use Rattle.span_tree.specs.Dag.{StandsBefore, IsBefore, way}
use Rattle.span_tree.specs.History.{Row, History, row_at, act_at, IsPlace, with_child_places, places_from, serial_order, IsNumbered}
use Rattle.span_tree.proofs.Ways.{no_row_past, some_same, row_way, way_is, row_way_is, child_after, below, below_is, same_below}

zero_plus : (k : ℕ) → 0 + k ≡ k
zero_plus k = omega arith

plus_zero : (k : ℕ) → k ≡ k + 0
plus_zero k = omega arith

plus_suc : (n k : ℕ) → suc n + k ≡ n + suc k
plus_suc n k = omega arith

-- ---- which of two ways is first

-- A way is before those that go on from it, and else the one whose act is first where they part.
abbrev pub Earlier : List ℕ → List ℕ → Type 0
Earlier [] [] = ⊥
Earlier [] (y ∷ ys) = Unit {0}
Earlier (x ∷ xs) [] = ⊥
Earlier (x ∷ xs) (y ∷ ys) = (x < y) ⊎ ((x ≡ y) × Earlier xs ys)

pub earlier_on : (xs ys zs : List ℕ) → Earlier xs ys → Earlier ys zs → Earlier xs zs
earlier_on [] [] zs a b = absurd a
earlier_on [] (y ∷ ys) [] a b = absurd b
earlier_on [] (y ∷ ys) (z ∷ zs) a b = tt
earlier_on (x ∷ xs) [] zs a b = absurd a
earlier_on (x ∷ xs) (y ∷ ys) [] a b = absurd b
earlier_on (x ∷ xs) (y ∷ ys) (z ∷ zs) (inl a) (inl b) = inl (omega (arith, a, b))
earlier_on (x ∷ xs) (y ∷ ys) (z ∷ zs) (inl a) (inr b) = inl (omega (arith, a, b.0))
earlier_on (x ∷ xs) (y ∷ ys) (z ∷ zs) (inr a) (inl b) = inl (omega (arith, a.0, b))
earlier_on (x ∷ xs) (y ∷ ys) (z ∷ zs) (inr a) (inr b) = inr (a.0 ∙ b.0, earlier_on xs ys zs a.1 b.1)

pub not_itself : (xs : List ℕ) → Earlier xs xs → ⊥
not_itself [] h = h
not_itself (x ∷ xs) (inl lt) = absurd (omega (arith, lt))
not_itself (x ∷ xs) (inr h) = not_itself xs h.1

-- with the same front
pub under : (front xs ys : List ℕ) → Earlier xs ys → Earlier (front ++ xs) (front ++ ys)
under [] xs ys h = h
under (f ∷ front) xs ys h = inr (refl, under front xs ys h)

pub over : (front xs ys : List ℕ) → Earlier (front ++ xs) (front ++ ys) → Earlier xs ys
over [] xs ys h = h
over (f ∷ front) xs ys (inl lt) = absurd (omega (arith, lt))
over (f ∷ front) xs ys (inr h) = over front xs ys h.1

-- ---- lists of places

pub first_or_later : (x : Place) (xs : List Place) (y : Place) → Contains (x ∷ xs) y → (x ≡ y) ⊎ Contains xs y
first_or_later x xs y (zero, lt, e) = inl e
first_or_later x xs y (suc k, lt, e) = inr (k, omega (arith, lt), e)

pub is_first : (x : Place) (xs : List Place) → Contains (x ∷ xs) x
is_first x xs = (0, omega arith, refl)

pub is_later : (x : Place) (xs : List Place) (y : Place) → Contains xs y → Contains (x ∷ xs) y
is_later x xs y h = (suc h.0, omega (arith, h.1), h.2)

pub nothing_in_none : (y : Place) → Contains [] y → ⊥
nothing_in_none y (k, lt, e) = absurd (omega (arith, lt))

pub first_is_in : (places : List Place) (x y : Place) → StandsBefore places x y → Contains places x
first_is_in [] x y h = absurd h
first_is_in (p ∷ places) x y (inl h) = subst (λ q. Contains (p ∷ places) q) h.0 (is_first p places)
first_is_in (p ∷ places) x y (inr h) = is_later p places x (first_is_in places x y h)

pub second_is_in : (places : List Place) (x y : Place) → StandsBefore places x y → Contains places y
second_is_in [] x y h = absurd h
second_is_in (p ∷ places) x y (inl h) = is_later p places y h.1
second_is_in (p ∷ places) x y (inr h) = is_later p places y (second_is_in places x y h)

-- Of two places of a list one stands first, or they are one.
pub one_stands_first : (places : List Place) (x y : Place) → Contains places x → Contains places y → (x ≡ y) ⊎ (StandsBefore places x y ⊎ StandsBefore places y x)
one_stands_first [] x y a b = absurd (nothing_in_none x a)
one_stands_first (p ∷ places) x y a b = go (first_or_later p places x a) (first_or_later p places y b) (λ c d. one_stands_first places x y c d)
  where
    later : (x ≡ y) ⊎ (StandsBefore places x y ⊎ StandsBefore places y x) → (x ≡ y) ⊎ (StandsBefore (p ∷ places) x y ⊎ StandsBefore (p ∷ places) y x)
    later (inl e) = inl e
    later (inr (inl h)) = inr (inl (inr h))
    later (inr (inr h)) = inr (inr (inr h))

    go : (p ≡ x) ⊎ Contains places x → (p ≡ y) ⊎ Contains places y → (Contains places x → Contains places y → (x ≡ y) ⊎ (StandsBefore places x y ⊎ StandsBefore places y x)) →
        (x ≡ y) ⊎ (StandsBefore (p ∷ places) x y ⊎ StandsBefore (p ∷ places) y x)
    go (inl e) (inl f) rest = inl (sym e ∙ f)
    go (inl e) (inr d) rest = inr (inl (inl (e, d)))
    go (inr c) (inl f) rest = inr (inr (inl (f, c)))
    go (inr c) (inr d) rest = later (rest c d)

-- The list is ascending, by what is first.
module _ (First : Place → Place → Type 0) where
  abbrev pub Ascends : List Place → Type 0
  Ascends [] = Unit {0}
  Ascends (x ∷ xs) = ((y : Place) → Contains xs y → First x y) × Ascends xs

  pub ascends_append : (xs ys : List Place) → Ascends xs → Ascends ys → ((x y : Place) → Contains xs x → Contains ys y → First x y) → Ascends (xs ++ ys)
  ascends_append [] ys a b all = b
  ascends_append (x ∷ xs) ys a b all =
      (λ y h. go y (Contains-append_cases xs ys y h), ascends_append xs ys a.1 b (λ z y c d. all z y (is_later x xs z c) d))
    where
      go : (y : Place) → Contains xs y ⊎ Contains ys y → First x y
      go y (inl h) = a.0 y h
      go y (inr h) = all x y (is_first x xs) h

  pub first_in_order : (places : List Place) (x y : Place) → Ascends places → StandsBefore places x y → First x y
  first_in_order [] x y a h = absurd h
  first_in_order (p ∷ places) x y a (inl h) = subst (λ q. First q y) h.0 (a.0 y h.1)
  first_in_order (p ∷ places) x y a (inr h) = first_in_order places x y a.1 h

module _ (h : History) (numbered : IsNumbered h) where
  abbrev pub First : Place → Place → Type 0
  First x y = Earlier (way h x) (way h y)

  abbrev front : ℕ → List ℕ
  front = row_way h numbered

  abbrev under_row : ℕ → List Place
  under_row = below h numbered

  -- the way to a place goes through this row, and on by an act from this index on
  record Goes (row index : ℕ) (x : Place) : Type 0 where
    is_place : IsPlace h x
    act : ℕ
    rest : List ℕ
    from : index ≤ act
    is_way : way h x ≡ front row ++ act ∷ rest

  record Fine (row index : ℕ) (places : List Place) : Type 0 where
    goes : (x : Place) → Contains places x → Goes row index x
    ascends : Ascends First places

  -- an act and what lies below it
  record AtAct (row index : ℕ) (places : List Place) : Type 0 where
    is_place : (x : Place) → Contains places x → IsPlace h x
    is_way : (x : Place) → Contains places x → (rest : List ℕ) × (way h x ≡ front row ++ index ∷ rest)
    ascends : Ascends First places

  abbrev at : ℕ → ℕ → Place
  at row index = record { row = row; act = index }

  within : (row index : ℕ) (act : Act) → act_at h (at row index) ≡ Some act → IsPlace h (at row index)
  within row index act e = slice_get_within (row_at h row).acts index act e

  pub row_within : (row : ℕ) (x : Place) → x.row ≡ row → IsPlace h x → row < length h
  row_within row x e is = go (cases_lt row (length h))
    where
      go : (row < length h) ⊎ (length h ≤ row) → row < length h
      go (inl lt) = lt
      go (inr le) = let none : length (row_at h x.row).acts ≡ 0 = ap (λ r. length (row_at h r).acts) e ∙ ap (λ (r : Row). length r.acts) (no_row_past h row le) in absurd (omega (arith, none, is))

  own_way : (row index : ℕ) → IsPlace h (at row index) → way h (at row index) ≡ front row ++ index ∷ []
  own_way row index is = way_is h numbered (at row index) (row_within row (at row index) refl is)

  own_goes : (row index : ℕ) (act : Act) → act_at h (at row index) ≡ Some act → (x : Place) → Contains (at row index ∷ []) x → (IsPlace h x) × (rest : List ℕ) × (way h x ≡ front row ++ index ∷ rest)
  own_goes row index act e x c = go (first_or_later (at row index) [] x c)
    where
      go : (at row index ≡ x) ⊎ Contains [] x → (IsPlace h x) × (rest : List ℕ) × (way h x ≡ front row ++ index ∷ rest)
      go (inl same) = subst (λ y. (IsPlace h y) × (rest : List ℕ) × (way h y ≡ front row ++ index ∷ rest)) same (within row index act e, [], own_way row index (within row index act e))
      go (inr later) = absurd (nothing_in_none x later)

  alone : (row index : ℕ) (act : Act) → act_at h (at row index) ≡ Some act → AtAct row index (at row index ∷ [])
  alone row index act e = record {
    is_place = λ x c. (own_goes row index act e x c).0;
    is_way = λ x c. let w = own_goes row index act e x c in (w.1, w.2);
    ascends = (λ y c. absurd (nothing_in_none y c), tt);
  }

  -- a Spawn act, and the places below its child
  module _ (row index child : ℕ) (e : act_at h (at row index) ≡ Some (Spawn child)) (fine : Fine child 0 (under_row child)) where
    child_way : (x : Place) → Contains (under_row child) x → (rest : List ℕ) × (way h x ≡ front row ++ index ∷ rest) × (act : ℕ) × (more : List ℕ) × (rest ≡ act ∷ more)
    child_way x c =
        let g = fine.goes x c in
        let is = (numbered.child (at row index) child e).1 in (
          g.act ∷ g.rest,
          g.is_way ∙ ap (λ l. l ++ g.act ∷ g.rest) (row_way_is h numbered child (at row index) is.named ∙ own_way row index (within row index (Spawn child) e)) ∙ append_assoc (front row) (index ∷ []) (g.act ∷ g.rest),
          g.act,
          g.rest,
          refl,
        )

    with_child : AtAct row index (at row index ∷ under_row child)
    with_child = record {
      is_place = λ x c. (go x (first_or_later (at row index) (under_row child) x c)).0;
      is_way = λ x c. (let w = go x (first_or_later (at row index) (under_row child) x c) in (w.1, w.2));
      ascends = (λ y c. after y (child_way y c), fine.ascends);
    }
      where
        go : (x : Place) → (at row index ≡ x) ⊎ Contains (under_row child) x → (IsPlace h x) × (rest : List ℕ) × (way h x ≡ front row ++ index ∷ rest)
        go x (inl same) = own_goes row index (Spawn child) e x (subst (λ y. Contains (at row index ∷ []) y) same (is_first (at row index) []))
        go x (inr c) = let w = child_way x c in ((fine.goes x c).is_place, w.0, w.1)

        after : (y : Place) → (rest : List ℕ) × (way h y ≡ front row ++ index ∷ rest) × (act : ℕ) × (more : List ℕ) × (rest ≡ act ∷ more) → First (at row index) y
        after y w =
            let mine = own_way row index (within row index (Spawn child) e) in
            subst (λ l. Earlier l (way h y)) (sym mine) (subst (λ l. Earlier (front row ++ index ∷ []) l) (sym (w.1 ∙ ap (λ l. front row ++ index ∷ l) w.4))
            (under (front row) (index ∷ []) (index ∷ w.2 ∷ w.3) (inr (refl, tt))))

  abbrev ChildrenFine : ℕ → Type 0
  ChildrenFine row = (child : ℕ) → row < child → Fine child 0 (under_row child)

  at_act : (row index : ℕ) (act : Act) → act_at h (at row index) ≡ Some act → ChildrenFine row → AtAct row index (with_child_places under_row (at row index) act)
  at_act row index (Spawn child) e fine = with_child row index child e (fine child (child_after h numbered row index child e))
  at_act row index (Read word value) e fine = alone row index _ e
  at_act row index (Write word value) e fine = alone row index _ e
  at_act row index (Add word old addend) e fine = alone row index _ e
  at_act row index (Print value) e fine = alone row index _ e
  at_act row index Sync e fine = alone row index _ e

  from_fine : (row index : ℕ) (acts : List Act) → ((k : ℕ) → slice_get (row_at h row).acts (index + k) ≡ slice_get acts k) → ChildrenFine row → Fine row index (places_from under_row row index acts)
  from_fine row index [] same fine = record { goes = λ x c. absurd (nothing_in_none x c); ascends = tt }
  from_fine row index (act ∷ acts) same fine =
      let here : act_at h (at row index) ≡ Some act = ap (λ n. slice_get (row_at h row).acts n) (plus_zero index) ∙ same 0 in
      let head = at_act row index act here fine in
      let tail = from_fine row (suc index) acts (λ k. ap (λ n. slice_get (row_at h row).acts n) (plus_suc index k) ∙ same (suc k)) fine in
      record {
        goes = λ x c. goes head tail x (Contains-append_cases (with_child_places under_row (at row index) act) (places_from under_row row (suc index) acts) x c);
        ascends = ascends_append First _ _ head.ascends tail.ascends (λ x y c d. before x y (head.is_way x c) (tail.goes y d));
      }
    where
      goes : AtAct row index (with_child_places under_row (at row index) act) → Fine row (suc index) (places_from under_row row (suc index) acts) → (x : Place) →
          Contains (with_child_places under_row (at row index) act) x ⊎ Contains (places_from under_row row (suc index) acts) x → Goes row index x
      goes head tail x (inl c) = let w = head.is_way x c in record { is_place = head.is_place x c; act = index; rest = w.0; from = omega arith; is_way = w.1 }
      goes head tail x (inr c) = let g = tail.goes x c in record { is_place = g.is_place; act = g.act; rest = g.rest; from = omega (arith, g.from); is_way = g.is_way }

      before : (x y : Place) → (rest : List ℕ) × (way h x ≡ front row ++ index ∷ rest) → Goes row (suc index) y → First x y
      before x y w g =
          subst (λ l. Earlier l (way h y)) (sym w.1) (subst (λ l. Earlier (front row ++ index ∷ w.0) l) (sym g.is_way) (under (front row) (index ∷ w.0) (g.act ∷ g.rest) (inl (omega (arith, g.from)))))

  fine_within : (n row : ℕ) → length h ≤ n + row → Fine row 0 (under_row row)
  fine_within zero row le = subst (λ l. Fine row 0 l) (sym (same_below h numbered (length h) 0 row (omega arith) (omega (arith, le)))) (record { goes = λ x c. absurd (nothing_in_none x c); ascends = tt })
  fine_within (suc n) row le =
      subst (λ l. Fine row 0 l) (sym (below_is h numbered row))
      (from_fine row 0 (row_at h row).acts (λ k. ap (λ m. slice_get (row_at h row).acts m) (zero_plus k)) (λ child lt. fine_within n child (omega (arith, le, lt))))

  fine : Fine 0 0 (serial_order h)
  fine = fine_within (length h) 0 (omega arith)

  -- ---- each place is there

  in_child : (f : ℕ → List Place) (place : Place) (act : Act) (c : ℕ) (x : Place) → act ≡ Spawn c → Contains (f c) x → Contains (with_child_places f place act) x
  in_child f place act c x e is = subst (λ a. Contains (with_child_places f place a) x) (sym e) (is_later place (f c) x is)

  act_first : (f : ℕ → List Place) (place : Place) (act : Act) → Contains (with_child_places f place act) place
  act_first f place (Spawn child) = is_first place (f child)
  act_first f place (Read word value) = is_first place []
  act_first f place (Write word value) = is_first place []
  act_first f place (Add word old addend) = is_first place []
  act_first f place (Print value) = is_first place []
  act_first f place Sync = is_first place []

  in_from : (f : ℕ → List Place) (row index : ℕ) (acts : List Act) (k c : ℕ) (x : Place) → slice_get acts k ≡ Some (Spawn c) → Contains (f c) x → Contains (places_from f row index acts) x
  in_from f row index [] k c x e is = absurd cc
  in_from f row index (act ∷ acts) zero c x e is = Contains-append_left (with_child_places f (at row index) act) (places_from f row (suc index) acts) x (in_child f (at row index) act c x (some_same act (Spawn c) e) is)
  in_from f row index (act ∷ acts) (suc k) c x e is = Contains-append_right (with_child_places f (at row index) act) (places_from f row (suc index) acts) x (in_from f row (suc index) acts k c x e is)

  own_in : (f : ℕ → List Place) (row index : ℕ) (acts : List Act) (k j : ℕ) → k < length acts → index + k ≡ j → Contains (places_from f row index acts) (at row j)
  own_in f row index [] k j lt e = absurd (omega (arith, lt))
  own_in f row index (act ∷ acts) zero j lt e =
      Contains-append_left (with_child_places f (at row index) act) (places_from f row (suc index) acts) (at row j)
      (subst (λ i. Contains (with_child_places f (at row index) act) (at row i)) (plus_zero index ∙ e) (act_first f (at row index) act))
  own_in f row index (act ∷ acts) (suc k) j lt e =
      Contains-append_right (with_child_places f (at row index) act) (places_from f row (suc index) acts) (at row j) (own_in f row (suc index) acts k j (omega (arith, lt)) (omega (arith, e)))

  up_to_main : (n row : ℕ) (x : Place) → row < n → row < length h → Contains (under_row row) x → Contains (serial_order h) x
  up_to_main zero row x lt inside is = absurd (omega arith)
  up_to_main (suc n) zero x lt inside is = is
  up_to_main (suc n) (suc row) x lt inside is =
      let up = numbered.parent (suc row) (omega arith) inside in
      up_to_main n up.0.row x (omega (arith, up.1.before, lt)) (omega (arith, up.1.before, inside))
      (subst (λ l. Contains l x) (sym (below_is h numbered up.0.row)) (in_from under_row up.0.row 0 (row_at h up.0.row).acts up.0.act (suc row) x up.1.spawns is))

  -- ---- what holds of the serial order

  pub all_in : (x : Place) → IsPlace h x → Contains (serial_order h) x
  all_in x is =
      let inside = row_within x.row x refl is in
      up_to_main (suc x.row) x.row x (omega arith) inside (subst (λ l. Contains l x) (sym (below_is h numbered x.row)) (own_in under_row x.row 0 (row_at h x.row).acts x.act x.act is (omega arith)))

  pub only_places : (x : Place) → Contains (serial_order h) x → IsPlace h x
  only_places x is = (fine.goes x is).is_place

  pub ascending : Ascends First (serial_order h)
  ascending = fine.ascends

  pub earlier_of : (x y : Place) → IsBefore h x y → First x y
  earlier_of x y is = first_in_order First (serial_order h) x y ascending is

  pub not_before_itself : (x : Place) → IsBefore h x x → ⊥
  not_before_itself x is = not_itself (way h x) (earlier_of x x is)

  pub not_both_before : (x y : Place) → IsBefore h x y → IsBefore h y x → ⊥
  not_both_before x y a b = not_itself (way h x) (earlier_on (way h x) (way h y) (way h x) (earlier_of x y a) (earlier_of y x b))

  pub one_is_first : (x y : Place) → IsPlace h x → IsPlace h y → (x ≡ y) ⊎ (IsBefore h x y ⊎ IsBefore h y x)
  one_is_first x y a b = one_stands_first (serial_order h) x y (all_in x a) (all_in y b)

  pub before_of : (x y : Place) → IsPlace h x → IsPlace h y → First x y → IsBefore h x y
  before_of x y a b is = go (one_is_first x y a b)
    where
      go : (x ≡ y) ⊎ (IsBefore h x y ⊎ IsBefore h y x) → IsBefore h x y
      go (inl same) = absurd (not_itself (way h x) (subst (λ z. First x z) (sym same) is))
      go (inr (inl before)) = before
      go (inr (inr after)) = absurd (not_itself (way h x) (earlier_on (way h x) (way h y) (way h x) is (earlier_of y x after)))

  pub before_on : (x y z : Place) → IsBefore h x y → IsBefore h y z → IsBefore h x z
  before_on x y z a b =
      before_of x z (only_places x (first_is_in (serial_order h) x y a)) (only_places z (second_is_in (serial_order h) y z b))
      (earlier_on (way h x) (way h y) (way h z) (earlier_of x y a) (earlier_of y z b))
