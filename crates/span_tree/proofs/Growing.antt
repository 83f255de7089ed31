-- One act more at the end of an open row: the history stays one, and the act stands last in its serial order.
use Rattle.std.proofs.Common.{◌≡◌, ◌≢◌, ◌⊎◌, ℕ, zero, suc, ◌+◌, ◌<◌, ◌≤◌, List, [], ◌∷◌, ◌++◌, length, Option, Some, None, refl, sym, ap, ◌∙◌, subst, inl, inr, arith, append_assoc, length-append}
use Rattle.std.proofs.lemmas.Bool.{cases_lt}
use Rattle.std.proofs.lemmas.List.{append-nil, get_or-set_same, get_or-set_other, length-set, get_or_append_left, get_or_push}
use Rattle.std.proofs.lemmas.List.Elements.{filter_map-append}
use Rattle.std.proofs.lemmas.Option.{slice_get_within}
use Rattle.std.specs.List.{Contains, filter_map, cons_option, range_with_len}
use Rattle.std.specs.Prelude.{ℤ, true, false, slice_get}
use Rattle.span_tree.specs.declared.act.Act.{Act}
use Rattle.span_tree.specs.declared.act.Act.TheVariants.{Read, Write, Add, Print, Spawn, Sync}
use Rattle.span_tree.specs.declared.act.Place.{Place}
use Rattle.span_tree.specs.History.{Row, History, no_row, row_at, act_at, IsPlace, with_child_places, places_from, places_below, serial_order, serial_acts, spawned_by, IsParent, IsNumbered}
use Rattle.span_tree.specs.Recording.{with_act, next_place, child_row, with_child, IsLast, IsOpen, Main, Child, spawns_none}
use Rattle.span_tree.proofs.Ways.{some_same, none_is, child_same, no_row_past, parent_of, same_from, same_below, child_after}
use Rattle.span_tree.proofs.Orders.{only_places, is_later, is_first}

pub same_or : (q r : ℕ) → (q ≡ r) ⊎ (q ≢ r)
same_or zero zero = inl refl
same_or zero (suc r) = inr (λ e. omega (arith, e))
same_or (suc q) zero = inr (λ e. omega (arith, e))
same_or (suc q) (suc r) = up (same_or q r)
  where
    up : (q ≡ r) ⊎ (q ≢ r) → (suc q ≡ suc r) ⊎ (suc q ≢ suc r)
    up (inl e) = inl (ap suc e)
    up (inr n) = inr (λ e. n (omega (arith, e)))

-- ---- lists

pub get_front : {A : Type 0} (xs : List A) (x y : A) (k : ℕ) → slice_get xs k ≡ Some y → slice_get (xs ++ x ∷ []) k ≡ Some y
get_front [] x y k e = absurd (none_is _ y refl e)
get_front (z ∷ xs) x y zero e = e
get_front (z ∷ xs) x y (suc k) e = get_front xs x y k e

pub get_last : {A : Type 0} (xs : List A) (x : A) → slice_get (xs ++ x ∷ []) (length xs) ≡ Some x
get_last [] x = refl
get_last (z ∷ xs) x = get_last xs x

pub get_more : {A : Type 0} (xs : List A) (x y : A) (k : ℕ) → slice_get (xs ++ x ∷ []) k ≡ Some y → (slice_get xs k ≡ Some y) ⊎ ((k ≡ length xs) × (x ≡ y))
get_more [] x y zero e = inr (refl, some_same x y e)
get_more [] x y (suc k) e = absurd (none_is _ y refl e)
get_more (z ∷ xs) x y zero e = inl e
get_more (z ∷ xs) x y (suc k) e = up (get_more xs x y k e)
  where
    up : (slice_get xs k ≡ Some y) ⊎ ((k ≡ length xs) × (x ≡ y)) → (slice_get xs k ≡ Some y) ⊎ ((suc k ≡ length (z ∷ xs)) × (x ≡ y))
    up (inl h) = inl h
    up (inr h) = inr (ap suc h.0, h.1)

pub get_some : {A : Type 0} (xs : List A) (k : ℕ) → k < length xs → slice_get xs k ≡ None → ⊥
get_some [] k lt e = absurd (omega (arith, lt))
get_some (a ∷ xs) zero lt e = none_is _ a e refl
get_some (a ∷ xs) (suc k) lt e = get_some xs k (omega (arith, lt)) e

-- the list before its last item
pub last_split : {A : Type 0} (xs : List A) (x : A) (k : ℕ) → slice_get xs k ≡ Some x → length xs ≡ suc k → (front : List A) × (xs ≡ front ++ x ∷ []) × (length front ≡ k)
last_split [] x k e n = absurd (none_is _ x refl e)
last_split (y ∷ []) x zero e n = ([], ap (λ z. z ∷ []) (some_same y x e), refl)
last_split (y ∷ []) x (suc k) e n = absurd (omega (arith, n))
last_split (y ∷ z ∷ xs) x zero e n = absurd (omega (arith, n))
last_split (y ∷ z ∷ xs) x (suc k) e n = let h = last_split (z ∷ xs) x k e (omega (arith, n)) in (y ∷ h.0, ap (λ l. y ∷ l) h.1, ap suc h.2)

pub range_more : (a n : ℕ) → range_with_len a (suc n) ≡ range_with_len a n ++ (a + n) ∷ []
range_more a zero = ap (λ k. k ∷ []) (omega arith)
range_more a (suc n) = ap (λ l. a ∷ l) (range_more (a + 1) n ∙ ap (λ k. range_with_len (a + 1) n ++ k ∷ []) (omega arith))

abbrev at : ℕ → ℕ → Place
at row index = record { row = row; act = index }

pub places_more : (f : ℕ → List Place) (row index : ℕ) (acts : List Act) (act : Act) →
    places_from f row index (acts ++ act ∷ []) ≡ places_from f row index acts ++ with_child_places f (at row (index + length acts)) act
places_more f row index [] act = append-nil (with_child_places f (at row index) act) ∙ ap (λ k. with_child_places f (at row k) act) (omega arith)
places_more f row index (first ∷ acts) act =
    ap (λ l. with_child_places f (at row index) first ++ l) (places_more f row (suc index) acts act ∙ ap (λ k. places_from f row (suc index) acts ++ with_child_places f (at row k) act) (omega arith))
    ∙ sym (append_assoc (with_child_places f (at row index) first) (places_from f row (suc index) acts) (with_child_places f (at row (index + suc (length acts))) act))

-- ---- rows above a row

-- the row, or one in which an act stands that leads to it
data IsAbove (h : History) (top : ℕ) : ℕ → Type 0 where
  Itself : IsAbove h top top
  Under : (row : ℕ) (place : Place) → (row_at h row).parent ≡ Some place → IsAbove h top place.row → IsAbove h top row

abbrev IsOver : History → ℕ → ℕ → Type 0
IsOver h top row = (place : Place) × ((row_at h row).parent ≡ Some place) × IsAbove h top place.row

-- one step more, at the upper end
above_up : (h : History) (row r : ℕ) (place : Place) → (row_at h row).parent ≡ Some place → IsAbove h row r → IsAbove h place.row r
above_up h row _ place e Itself = Under row place e Itself
above_up h row r place e (Under _ up f a) = Under r up f (above_up h row up.row place e a)

split_above : (h : History) (top row : ℕ) → IsAbove h top row → (top ≡ row) ⊎ IsOver h top row
split_above h top _ Itself = inl refl
split_above h top row (Under _ place e a) = inr (place, e, a)

linear : (h : History) (c d r : ℕ) → IsAbove h c r → IsAbove h d r → IsAbove h c d ⊎ IsAbove h d c
linear h c d _ Itself b = inr b
linear h c d r (Under _ place e a) b = go (split_above h d r b) (λ other. linear h c d place.row a other)
  where
    go : (d ≡ r) ⊎ IsOver h d r → (IsAbove h d place.row → IsAbove h c d ⊎ IsAbove h d c) → IsAbove h c d ⊎ IsAbove h d c
    go (inl same) rest = inl (subst (λ q. IsAbove h c q) (sym same) (Under r place e a))
    go (inr over) rest = rest (subst (λ (p : Place). IsAbove h d p.row) (some_same over.0 place (sym over.1 ∙ e)) over.2)

module _ (h : History) (numbered : IsNumbered h) where
  above_le : (top row : ℕ) → IsAbove h top row → top ≤ row
  above_le top _ Itself = omega arith
  above_le top row (Under _ place e a) = omega (arith, above_le top place.row a, (parent_of h numbered row place e).before)

  not_over_sibling : (c d s : ℕ) (place other : Place) → (row_at h c).parent ≡ Some place → (row_at h d).parent ≡ Some other → place.row ≡ s → other.row ≡ s → IsAbove h c d → c ≡ d
  not_over_sibling c d s place other e f is is' above = go (split_above h c d above)
    where
      go : (c ≡ d) ⊎ IsOver h c d → c ≡ d
      go (inl same) = same
      go (inr over) =
          let up : other.row ≡ (over.0).row = ap (λ (p : Place). p.row) (some_same other over.0 (sym f ∙ over.1)) in
          absurd (omega (arith, is, is', up, above_le c (over.0).row over.2, (parent_of h numbered c place e).before))

  -- two children of one row that are both above a row are one
  siblings : (c d r : ℕ) (place other : Place) → (row_at h c).parent ≡ Some place → (row_at h d).parent ≡ Some other → place.row ≡ other.row → IsAbove h c r → IsAbove h d r → c ≡ d
  siblings c d r place other e f is a b = go (linear h c d r a b)
    where
      go : IsAbove h c d ⊎ IsAbove h d c → c ≡ d
      go (inl up) = not_over_sibling c d other.row place other e f is refl up
      go (inr up) = sym (not_over_sibling d c other.row other place f e refl is up)

-- ---- one act more

-- the acts of one row are one more, those of all others the same
pub record OneMore (h more : History) (row : ℕ) (act : Act) : Type 0 where
  pub inside : row < length h
  pub longer : length h ≤ length more
  pub here : (row_at more row).acts ≡ (row_at h row).acts ++ act ∷ []
  pub others : (q : ℕ) → q ≢ row → (row_at more q).acts ≡ (row_at h q).acts
  -- if it spawns, then a row without acts
  pub empty : (child : ℕ) → act ≡ Spawn child → (row_at more child).acts ≡ []

module _ (h : History) (numbered : IsNumbered h) (more : History) (row : ℕ) (act : Act) (one : OneMore h more row act) where
  abbrev new : Place
  new = next_place row h

  -- what is not above the row is as it was
  unchanged : (n q : ℕ) → (IsAbove h q row → ⊥) → places_below n more q ≡ places_below n h q
  unchanged zero q far = refl
  unchanged (suc n) q far =
      ap (λ l. places_from (places_below n more) q 0 l) (one.others q (λ same. far (subst (λ r. IsAbove h q r) same Itself)))
      ∙ same_from h numbered (places_below n more) (places_below n h) q 0 (row_at h q).acts
      (λ k c e. unchanged n c (λ above. far (above_up h c row (at q k) (numbered.child (at q k) c e).1.named above)))

  Grows : ℕ → Type 0
  Grows q = (n : ℕ) → length h ≤ n + q → places_below n more q ≡ places_below n h q ++ new ∷ []

  nothing_below : (n : ℕ) → with_child_places (places_below n more) new act ≡ new ∷ []
  nothing_below n = by act refl
    where
      none : (m child : ℕ) → (row_at more child).acts ≡ [] → places_below m more child ≡ []
      none zero child e = refl
      none (suc m) child e = ap (λ l. places_from (places_below m more) child 0 l) e

      by : (a : Act) → act ≡ a → with_child_places (places_below n more) new a ≡ new ∷ []
      by (Spawn child) e = ap (λ l. new ∷ l) (none n child (one.empty child e))
      by (Read word value) e = refl
      by (Write word value) e = refl
      by (Add word old addend) e = refl
      by (Print value) e = refl
      by Sync e = refl

  grows_here : Grows row
  unfolding Grows
  grows_here zero le = absurd (omega (arith, le, one.inside))
  grows_here (suc n) le =
      let acts = (row_at h row).acts in
      ap (λ l. places_from (places_below n more) row 0 l) one.here
      ∙ places_more (places_below n more) row 0 acts act
      ∙ ap (λ l. places_from (places_below n more) row 0 acts ++ l) (ap (λ k. with_child_places (places_below n more) (at row k) act) (zero_plus (length acts)) ∙ nothing_below n)
      ∙ ap (λ l. l ++ new ∷ []) (same_from h numbered (places_below n more) (places_below n h) row 0 acts
      (λ k c e. unchanged n c (λ above. absurd (omega (arith, child_after h numbered row k c e, above_le h numbered c row above)))))
    where
      zero_plus : (k : ℕ) → 0 + k ≡ k
      zero_plus k = omega arith

  -- the row of the last act, whose child has grown
  module _ (q : ℕ) (place : Place) (e : (row_at h q).parent ≡ Some place) (last : IsLast h place) (above : IsAbove h q row) (grows : Grows q) where
    abbrev parent : IsParent h q place
    parent = parent_of h numbered q place e

    abbrev cut : (front : List Act) × ((row_at h place.row).acts ≡ front ++ Spawn q ∷ []) × (length front ≡ place.act)
    cut = last_split (row_at h place.row).acts (Spawn q) place.act parent.spawns last

    far : (k c : ℕ) → slice_get cut.0 k ≡ Some (Spawn c) → IsAbove h c row → ⊥
    far k c is up =
        let stands : act_at h (at place.row k) ≡ Some (Spawn c) = ap (λ l. slice_get l k) cut.1 ∙ get_front cut.0 (Spawn q) (Spawn c) k is in
        let named = (numbered.child (at place.row k) c stands).1.named in
        let same : q ≡ c = siblings h numbered q c row place (at place.row k) e named refl above up in
        let places : place ≡ at place.row k = some_same place (at place.row k) (sym e ∙ ap (λ r. (row_at h r).parent) same ∙ named) in
        let index : place.act ≡ k = ap (λ (p : Place). p.act) places in
        omega (arith, index, cut.2, slice_get_within cut.0 k (Spawn c) is)

    not_row : place.row ≢ row
    not_row same = let le = above_le h numbered q row above in omega (arith, same, le, parent.before)

    grows_up : Grows place.row
    unfolding Grows
    grows_up zero le = absurd (omega (arith, le, one.inside, above_le h numbered q row above, parent.before))
    grows_up (suc n) le =
        let front = cut.0 in
        let f = places_below n more in
        let g = places_below n h in
        let before : places_from f place.row 0 front ≡ places_from g place.row 0 front =
        same_from h numbered f g place.row 0 front (λ k c is. unchanged n c (far k c is)) in
        let below : with_child_places f (at place.row (0 + length front)) (Spawn q) ≡ with_child_places g (at place.row (0 + length front)) (Spawn q) ++ new ∷ [] =
        ap (λ l. at place.row (0 + length front) ∷ l) (grows n (omega (arith, le, parent.before))) in
        ap (λ l. places_from f place.row 0 l) (one.others place.row not_row ∙ cut.1)
        ∙ places_more f place.row 0 front (Spawn q)
        ∙ ap (λ l. l ++ with_child_places f (at place.row (0 + length front)) (Spawn q)) before
        ∙ ap (λ l. places_from g place.row 0 front ++ l) below
        ∙ sym (append_assoc (places_from g place.row 0 front) (with_child_places g (at place.row (0 + length front)) (Spawn q)) (new ∷ []))
        ∙ ap (λ l. l ++ new ∷ []) (sym (places_more g place.row 0 front (Spawn q)) ∙ ap (λ l. places_from g place.row 0 l) (sym cut.1))

  grows_to_main : (q : ℕ) → IsOpen h q → IsAbove h q row → Grows q → Grows 0
  grows_to_main _ Main above grows = grows
  grows_to_main q (Child _ place e last runs) above grows =
      grows_to_main place.row runs (above_up h q row place e above) (grows_up q place e last above grows)

  -- the act stands last
  pub order_more : IsOpen h row → serial_order more ≡ serial_order h ++ new ∷ []
  unfolding Grows
  order_more runs =
      grows_to_main row runs Itself grows_here (length more) (omega (arith, one.longer))
      ∙ ap (λ l. l ++ new ∷ []) (same_below h numbered (length more) (length h) 0 (omega (arith, one.longer)) (omega arith))

  -- ---- acts

  pub old_act : (place : Place) (a : Act) → act_at h place ≡ Some a → act_at more place ≡ Some a
  old_act place a e = go (same_or place.row row)
    where
      go : (place.row ≡ row) ⊎ (place.row ≢ row) → act_at more place ≡ Some a
      go (inl same) =
          ap (λ r. slice_get (row_at more r).acts place.act) same ∙ ap (λ l. slice_get l place.act) one.here
          ∙ get_front (row_at h row).acts act a place.act (ap (λ r. slice_get (row_at h r).acts place.act) (sym same) ∙ e)
      go (inr ne) = ap (λ l. slice_get l place.act) (one.others place.row ne) ∙ e

  pub new_act : act_at more new ≡ Some act
  new_act = ap (λ l. slice_get l (length (row_at h row).acts)) one.here ∙ get_last (row_at h row).acts act

  act_cases : (place : Place) (a : Act) → act_at more place ≡ Some a → (act_at h place ≡ Some a) ⊎ ((place ≡ new) × (act ≡ a))
  act_cases place a e = go (same_or place.row row)
    where
      here : place.row ≡ row → (slice_get (row_at h row).acts place.act ≡ Some a) ⊎ ((place.act ≡ length (row_at h row).acts) × (act ≡ a)) → (act_at h place ≡ Some a) ⊎ ((place ≡ new) × (act ≡ a))
      here same (inl f) = inl (ap (λ r. slice_get (row_at h r).acts place.act) same ∙ f)
      here same (inr f) = inr (ap (λ r. at r place.act) same ∙ ap (λ k. at row k) f.0, f.1)

      go : (place.row ≡ row) ⊎ (place.row ≢ row) → (act_at h place ≡ Some a) ⊎ ((place ≡ new) × (act ≡ a))
      go (inl same) = here same (get_more (row_at h row).acts act a place.act (ap (λ l. slice_get l place.act) (sym one.here) ∙ ap (λ r. slice_get (row_at more r).acts place.act) (sym same) ∙ e))
      go (inr ne) = inl (ap (λ l. slice_get l place.act) (sym (one.others place.row ne)) ∙ e)

  same_acts : (places : List Place) → ((x : Place) → Contains places x → IsPlace h x) → filter_map (act_at more) places ≡ filter_map (act_at h) places
  same_acts [] is = refl
  same_acts (x ∷ places) is =
      ap (λ o. cons_option o (filter_map (act_at more) places)) (stays (act_at h x) refl)
      ∙ ap (λ l. cons_option (act_at h x) l) (same_acts places (λ y c. is y (is_later x places y c)))
    where
      stays : (o : Option Act) → act_at h x ≡ o → act_at more x ≡ act_at h x
      stays None e = absurd (get_some (row_at h x.row).acts x.act (is x (is_first x places)) e)
      stays (Some a) e = old_act x a e ∙ sym e

  pub acts_more : IsOpen h row → serial_acts more ≡ serial_acts h ++ act ∷ []
  acts_more runs =
      ap (λ l. filter_map (act_at more) l) (order_more runs)
      ∙ filter_map-append (act_at more) (serial_order h) (new ∷ [])
      ∙ ap (λ l. l ++ filter_map (act_at more) (new ∷ [])) (same_acts (serial_order h) (λ x c. only_places h numbered x c))
      ∙ ap (λ o. serial_acts h ++ cons_option o []) new_act

-- ---- what recording makes

module _ (h : History) (row : ℕ) (act : Act) (inside : row < length h) where
  abbrev with' : History
  with' = with_act row act h

  pub with_length : length with' ≡ length h
  with_length = length-set h row (record (row_at h row) { acts = (row_at h row).acts ++ act ∷ [] })

  pub with_here : row_at with' row ≡ record (row_at h row) { acts = (row_at h row).acts ++ act ∷ [] }
  with_here = get_or-set_same h row (record (row_at h row) { acts = (row_at h row).acts ++ act ∷ [] }) no_row inside

  pub with_other : (q : ℕ) → q ≢ row → row_at with' q ≡ row_at h q
  with_other q ne = get_or-set_other h row q (record (row_at h row) { acts = (row_at h row).acts ++ act ∷ [] }) no_row ne

  -- what an act leaves of a row
  pub same_row : {A : Type 0} (f : Row → A) → f (record (row_at h row) { acts = (row_at h row).acts ++ act ∷ [] }) ≡ f (row_at h row) → (q : ℕ) → f (row_at with' q) ≡ f (row_at h q)
  same_row f e q = go (same_or q row)
    where
      go : (q ≡ row) ⊎ (q ≢ row) → f (row_at with' q) ≡ f (row_at h q)
      go (inl same) = ap (λ r. f (row_at with' r)) same ∙ ap f with_here ∙ e ∙ ap (λ r. f (row_at h r)) (sym same)
      go (inr ne) = ap f (with_other q ne)

  pub with_parent : (q : ℕ) → (row_at with' q).parent ≡ (row_at h q).parent
  with_parent = same_row (λ (r : Row). r.parent) refl

  pub with_args : (q : ℕ) → (row_at with' q).args ≡ (row_at h q).args
  with_args = same_row (λ (r : Row). r.args) refl

  pub with_one : ((child : ℕ) → act ≡ Spawn child → length h ≤ child) → OneMore h with' row act
  with_one fresh = record {
    inside = inside;
    longer = omega (arith, with_length);
    here = ap (λ (r : Row). r.acts) with_here;
    others = λ q ne. ap (λ (r : Row). r.acts) (with_other q ne);
    empty = λ child e. ap (λ (r : Row). r.acts) (no_row_past with' child (omega (arith, with_length, fresh child e)));
  }

pub spawns_nothing : (act : Act) (child : ℕ) → spawns_none act ≡ true → act ≡ Spawn child → ⊥
spawns_nothing act child e is = let clash : false ≡ true = ap spawns_none (sym is) ∙ e in cc

spawned_none : (act : Act) → spawns_none act ≡ true → spawned_by act ≡ None
spawned_none (Spawn child) e = absurd cc
spawned_none (Read word value) e = refl
spawned_none (Write word value) e = refl
spawned_none (Add word old addend) e = refl
spawned_none (Print value) e = refl
spawned_none Sync e = refl

spawned_more : (acts : List Act) (act : Act) (o : Option ℕ) → spawned_by act ≡ o → filter_map spawned_by (acts ++ act ∷ []) ≡ filter_map spawned_by acts ++ cons_option o []
spawned_more acts act o e = filter_map-append spawned_by acts (act ∷ []) ∙ ap (λ p. filter_map spawned_by acts ++ cons_option p []) e

pub open_inside : (h : History) → IsNumbered h → (row : ℕ) → IsOpen h row → row < length h
open_inside h numbered _ Main = numbered.some
open_inside h numbered row (Child _ place e last up) = go (cases_lt row (length h))
  where
    go : (row < length h) ⊎ (length h ≤ row) → row < length h
    go (inl lt) = lt
    go (inr le) = absurd (none_is None place refl (sym (ap (λ (r : Row). r.parent) (no_row_past h row le)) ∙ e))

-- an act that spawns nothing
module _ (h : History) (numbered : IsNumbered h) (row : ℕ) (act : Act) (runs : IsOpen h row) (plain : spawns_none act ≡ true) where
  abbrev inside : row < length h
  inside = open_inside h numbered row runs

  abbrev one : OneMore h (with_act row act h) row act
  one = with_one h row act inside (λ child e. absurd (spawns_nothing act child plain e))

  pub act_order : serial_order (with_act row act h) ≡ serial_order h ++ next_place row h ∷ []
  act_order = order_more h numbered (with_act row act h) row act one runs

  pub act_acts : serial_acts (with_act row act h) ≡ serial_acts h ++ act ∷ []
  act_acts = acts_more h numbered (with_act row act h) row act one runs

  keeps_parent : (q : ℕ) (place : Place) → IsParent h q place → IsParent (with_act row act h) q place
  keeps_parent q place is = record {
    named = with_parent h row act inside q ∙ is.named;
    spawns = old_act h numbered (with_act row act h) row act one place (Spawn q) is.spawns;
    before = is.before;
  }

  pub act_numbered : IsNumbered (with_act row act h)
  act_numbered = record {
    some = omega (arith, size, numbered.some);
    main = with_parent h row act inside 0 ∙ numbered.main;
    main_args = with_args h row act inside 0 ∙ numbered.main_args;
    parent = λ q some lt. (let up = numbered.parent q some (omega (arith, lt, size)) in (up.0, keeps_parent q up.0 up.1));
    child = λ place q e. child place q (act_cases h numbered (with_act row act h) row act one place (Spawn q) e);
    preorder = ap (λ l. 0 ∷ filter_map spawned_by l) act_acts ∙ ap (λ l. 0 ∷ l) (spawned_more (serial_acts h) act None (spawned_none act plain) ∙ append-nil (filter_map spawned_by (serial_acts h)))
        ∙ numbered.preorder ∙ ap (range_with_len 0) (sym size);
  }
    where
      size : length (with_act row act h) ≡ length h
      size = with_length h row act inside

      child : (place : Place) (q : ℕ) → (act_at h place ≡ Some (Spawn q)) ⊎ ((place ≡ next_place row h) × (act ≡ Spawn q)) → (q < length (with_act row act h)) × IsParent (with_act row act h) q place
      child place q (inl e) = let c = numbered.child place q e in (omega (arith, c.0, size), keeps_parent q place c.1)
      child place q (inr e) = absurd (spawns_nothing act q plain e.1)

-- the child's row
module _ (h : History) (row proc : ℕ) (args : List ℤ) (inside' : row < length h) where
  abbrev act' : Act
  act' = Spawn (length h)

  abbrev mid : History
  mid = with_act row act' h

  abbrev next : History
  next = with_child row proc args h

  mid_size : length mid ≡ length h
  mid_size = with_length h row act' inside'

  pub child_length : length next ≡ suc (length h)
  child_length = let n = mid_size in omega (arith, n, length-append mid (child_row row proc args h ∷ []))

  pub old_row : (q : ℕ) → q < length h → row_at next q ≡ row_at mid q
  old_row q lt = let n = mid_size in get_or_append_left mid (child_row row proc args h ∷ []) no_row q (omega (arith, lt, n))

  pub new_row : row_at next (length h) ≡ child_row row proc args h
  new_row = get_or_push mid (child_row row proc args h) no_row (length h) mid_size

  -- the child's row has no acts, as no row
  same_acts' : (q : ℕ) → (row_at next q).acts ≡ (row_at mid q).acts
  same_acts' q = go (cases_lt q (length h))
    where
      last : (q ≡ length h) ⊎ (q ≢ length h) → length h ≤ q → (row_at next q).acts ≡ (row_at mid q).acts
      last (inl same) le =
          ap (λ r. (row_at next r).acts) same ∙ ap (λ (r : Row). r.acts) new_row
          ∙ sym (ap (λ (r : Row). r.acts) (no_row_past mid q (let n = mid_size in omega (arith, le, n))))
      last (inr ne) le =
          ap (λ (r : Row). r.acts) (no_row_past next q (let n = child_length in omega (arith, le, n, ne)))
          ∙ sym (ap (λ (r : Row). r.acts) (no_row_past mid q (let n = mid_size in omega (arith, le, n))))

      go : (q < length h) ⊎ (length h ≤ q) → (row_at next q).acts ≡ (row_at mid q).acts
      go (inl lt) = ap (λ (r : Row). r.acts) (old_row q lt)
      go (inr le) = last (same_or q (length h)) le

  pub one' : OneMore h next row act'
  one' =
      let m = with_one h row act' inside' (λ child e. let same = some_spawn child e in omega (arith, same)) in
      record {
        inside = inside';
        longer = omega (arith, child_length);
        here = same_acts' row ∙ m.here;
        others = λ q ne. same_acts' q ∙ m.others q ne;
        empty = λ child e. same_acts' child ∙ m.empty child e;
      }
    where
      some_spawn : (child : ℕ) → act' ≡ Spawn child → length h ≡ child
      some_spawn child e = child_same (length h) child (ap (λ a. Some a) e)

  pub child_parent : (q : ℕ) → q < length h → (row_at next q).parent ≡ (row_at h q).parent
  child_parent q lt = ap (λ (r : Row). r.parent) (old_row q lt) ∙ with_parent h row act' inside' q

-- a spawn
module _ (h : History) (numbered : IsNumbered h) (row proc : ℕ) (args : List ℤ) (runs : IsOpen h row) where
  abbrev inside' : row < length h
  inside' = open_inside h numbered row runs

  abbrev grown : History
  grown = with_child row proc args h

  abbrev born : Act
  born = Spawn (length h)

  pub child_order : serial_order grown ≡ serial_order h ++ next_place row h ∷ []
  child_order = order_more h numbered grown row born (one' h row proc args inside') runs

  pub child_acts : serial_acts grown ≡ serial_acts h ++ born ∷ []
  child_acts = acts_more h numbered grown row born (one' h row proc args inside') runs

  pub new_spawn : act_at grown (next_place row h) ≡ Some born
  new_spawn = new_act h numbered grown row born (one' h row proc args inside')

  pub new_parent : IsParent grown (length h) (next_place row h)
  new_parent = record { named = ap (λ (r : Row). r.parent) (new_row h row proc args inside'); spawns = new_spawn; before = inside' }

  keeps_parent' : (q : ℕ) (place : Place) → q < length h → IsParent h q place → IsParent grown q place
  keeps_parent' q place lt is = record {
    named = child_parent h row proc args inside' q lt ∙ is.named;
    spawns = old_act h numbered grown row born (one' h row proc args inside') place (Spawn q) is.spawns;
    before = is.before;
  }

  pub child_numbered : IsNumbered grown
  child_numbered = record {
    some = omega (arith, child_length h row proc args inside');
    main = child_parent h row proc args inside' 0 numbered.some ∙ numbered.main;
    main_args = ap (λ (r : Row). r.args) (old_row h row proc args inside' 0 numbered.some) ∙ with_args h row born inside' 0 ∙ numbered.main_args;
    parent = λ q some lt. parent q some (cases_lt q (length h)) (omega (arith, lt, child_length h row proc args inside'));
    child = λ place q e. child place q (act_cases h numbered grown row born (one' h row proc args inside') place (Spawn q) e);
    preorder = ap (λ l. 0 ∷ filter_map spawned_by l) child_acts ∙ ap (λ l. 0 ∷ l) (spawned_more (serial_acts h) born (Some (length h)) refl)
        ∙ ap (λ l. l ++ length h ∷ []) numbered.preorder ∙ sym (range_more 0 (length h) ∙ ap (λ n. range_with_len 0 (length h) ++ n ∷ []) (zero_plus (length h))) ∙ ap (range_with_len 0) (sym (child_length h row proc args inside'));
  }
    where
      zero_plus : (k : ℕ) → 0 + k ≡ k
      zero_plus k = omega arith

      parent : (q : ℕ) → 0 < q → (q < length h) ⊎ (length h ≤ q) → q < suc (length h) → (place : Place) × IsParent grown q place
      parent q some (inl lt) le = let up = numbered.parent q some lt in (up.0, keeps_parent' q up.0 lt up.1)
      parent q some (inr ge) le = (next_place row h, subst (λ r. IsParent grown r (next_place row h)) (let same : length h ≡ q = omega (arith, ge, le) in same) new_parent)

      child : (place : Place) (q : ℕ) → (act_at h place ≡ Some (Spawn q)) ⊎ ((place ≡ next_place row h) × (born ≡ Spawn q)) → (q < length grown) × IsParent grown q place
      child place q (inl e) = let c = numbered.child place q e in (omega (arith, c.0, child_length h row proc args inside'), keeps_parent' q place c.0 c.1)
      child place q (inr e) =
          let same : length h ≡ q = child_same (length h) q (ap (λ a. Some a) e.1) in
          (omega (arith, same, child_length h row proc args inside'), subst (λ r. IsParent grown r place) same (subst (λ p. IsParent grown (length h) p) (sym e.0) new_parent))
