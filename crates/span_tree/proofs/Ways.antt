-- Rows nest no deeper than there are rows: so the ways of places, and the places below rows, are as their parents say.
use Rattle.std.proofs.Common.{◌≡◌, ◌⊎◌, ℕ, zero, suc, ◌+◌, ◌<◌, ◌≤◌, List, [], ◌∷◌, ◌++◌, length, Option, Some, None, refl, sym, ap, ◌∙◌, subst, inl, inr, arith, append_assoc}
use Rattle.std.proofs.lemmas.Bool.{cases_lt}
use Rattle.std.proofs.lemmas.List.{get_or_past}
use Rattle.std.specs.Prelude.{slice_get}
use Rattle.span_tree.specs.declared.act.Act.{Act}
use Rattle.span_tree.specs.declared.act.Act.TheVariants.{Read, Write, Add, Print, Spawn, Sync}
use Rattle.span_tree.specs.declared.act.Place.{Place}
use Rattle.span_tree.specs.Dag.{way_on, way_within, way, PartUnsynced}
use Rattle.span_tree.specs.History.{Row, History, no_row, row_at, with_child_places, places_from, places_below, IsParent, IsNumbered}

pub some_same : {A : Type 0} (a b : A) → Some a ≡ Some b → a ≡ b
some_same a b e = cc

pub none_is : {A : Type 0} (o : Option A) (a : A) → o ≡ None → o ≡ Some a → ⊥
none_is o a e f = cc

pub child_same : (c d : ℕ) → Some (Spawn c) ≡ Some (Spawn d) → c ≡ d
child_same c d e = cc

pub no_row_past : (h : History) (row : ℕ) → length h ≤ row → row_at h row ≡ no_row
no_row_past h row le = get_or_past h row no_row le

module _ (h : History) (numbered : IsNumbered h) where
  -- a parent is the Spawn act of a row before
  pub parent_of : (row : ℕ) (place : Place) → (row_at h row).parent ≡ Some place → IsParent h row place
  parent_of zero place e = absurd (none_is _ place numbered.main e)
  parent_of (suc row) place e = go (cases_lt (suc row) (length h))
    where
      go : (suc row < length h) ⊎ (length h ≤ suc row) → IsParent h (suc row) place
      go (inl lt) =
          let found = numbered.parent (suc row) (omega arith) lt in
          subst (λ p. IsParent h (suc row) p) (some_same found.0 place (sym found.1.named ∙ e)) found.1
      go (inr le) = absurd (none_is None place refl (sym (ap (λ (r : Row). r.parent) (no_row_past h (suc row) le)) ∙ e))

  -- a row's way: what leads from `main` to it
  abbrev pub row_way : ℕ → List ℕ
  row_way row = way_on (way h) (row_at h row).parent

  same_on : (f g : Place → List ℕ) (row : ℕ) (o : Option Place) → (row_at h row).parent ≡ o → ((place : Place) → place.row < row → f place ≡ g place) → way_on f o ≡ way_on g o
  same_on f g row None is same = refl
  same_on f g row (Some place) is same = same place (parent_of row place is).before

  same_way : (n m : ℕ) (place : Place) → place.row < n → place.row < m → way_within n h place ≡ way_within m h place
  same_way zero m place lt lt' = absurd (omega arith)
  same_way (suc n) zero place lt lt' = absurd (omega arith)
  same_way (suc n) (suc m) place lt lt' =
      ap (λ l. l ++ place.act ∷ []) (same_on (way_within n h) (way_within m h) place.row (row_at h place.row).parent refl
      (λ up before. same_way n m up (omega (arith, before, lt)) (omega (arith, before, lt'))))

  -- a place is reached by its row's way and its own index
  pub way_is : (place : Place) → place.row < length h → way h place ≡ row_way place.row ++ place.act ∷ []
  way_is place lt = same_way (length h) (suc (length h)) place lt (omega (arith, lt))

  -- a child's row is reached by its parent's way
  pub row_way_is : (row : ℕ) (place : Place) → (row_at h row).parent ≡ Some place → row_way row ≡ way h place
  row_way_is row place e = ap (way_on (way h)) e

  pub main_way : row_way 0 ≡ []
  main_way = ap (way_on (way h)) numbered.main

  -- ---- the places below a row

  same_child : (f g : ℕ → List Place) (place : Place) (act : Act) → ((c : ℕ) → act ≡ Spawn c → f c ≡ g c) → with_child_places f place act ≡ with_child_places g place act
  same_child f g place (Spawn c) same = ap (λ l. place ∷ l) (same c refl)
  same_child f g place (Read word value) same = refl
  same_child f g place (Write word value) same = refl
  same_child f g place (Add word old addend) same = refl
  same_child f g place (Print value) same = refl
  same_child f g place Sync same = refl

  pub same_from : (f g : ℕ → List Place) (row index : ℕ) (acts : List Act) → ((k c : ℕ) → slice_get acts k ≡ Some (Spawn c) → f c ≡ g c) → places_from f row index acts ≡ places_from g row index acts
  same_from f g row index [] same = refl
  same_from f g row index (act ∷ acts) same =
      ap (λ l. l ++ places_from f row (suc index) acts) (same_child f g (record { row = row; act = index }) act (λ c e. same 0 c (ap (λ a. Some a) e)))
      ∙ ap (λ l. with_child_places g (record { row = row; act = index }) act ++ l) (same_from f g row (suc index) acts (λ k c e. same (suc k) c e))

  nothing_past : (f : ℕ → List Place) (row : ℕ) → length h ≤ row → places_from f row 0 (row_at h row).acts ≡ []
  nothing_past f row le = ap (λ (r : Row). places_from f row 0 r.acts) (no_row_past h row le)

  pub child_after : (row k c : ℕ) → slice_get (row_at h row).acts k ≡ Some (Spawn c) → row < c
  child_after row k c e = (numbered.child (record { row = row; act = k }) c e).1.before

  pub same_below : (n m row : ℕ) → length h ≤ n + row → length h ≤ m + row → places_below n h row ≡ places_below m h row
  same_below zero zero row le le' = refl
  same_below zero (suc m) row le le' = sym (nothing_past (places_below m h) row (omega (arith, le)))
  same_below (suc n) zero row le le' = nothing_past (places_below n h) row (omega (arith, le'))
  same_below (suc n) (suc m) row le le' =
      same_from (places_below n h) (places_below m h) row 0 (row_at h row).acts (λ k c e. same_below n m c (omega (arith, le, child_after row k c e)) (omega (arith, le', child_after row k c e)))

  -- the places below a row, by those below its children
  abbrev pub below : ℕ → List Place
  below row = places_below (length h) h row

  pub below_is : (row : ℕ) → below row ≡ places_from below row 0 (row_at h row).acts
  below_is row = same_below (length h) (suc (length h)) row (omega arith) (omega arith)

  -- ---- ways that begin alike

  row_is_main : (row : ℕ) → row < length h → (row_at h row).parent ≡ None → row ≡ 0
  row_is_main zero within e = refl
  row_is_main (suc row) within e = let found = numbered.parent (suc row) (omega arith) within in absurd (none_is _ found.0 e found.1.named)

  -- what two ways have in common, and what follows
  abbrev Parts : ℕ → List ℕ → List ℕ → List ℕ → Type 0
  Parts row front xs ys = PartUnsynced h row (front ++ xs) (front ++ ys)

  same_fronts : (row act : ℕ) (front up xs ys : List ℕ) → front ≡ up ++ act ∷ [] → Parts row up (act ∷ xs) (act ∷ ys) ≡ Parts row front xs ys
  same_fronts row act front up xs ys e =
      ap (λ l. PartUnsynced h row l (up ++ act ∷ ys)) (sym (append_assoc up (act ∷ []) xs)) ∙ ap (λ l. PartUnsynced h row ((up ++ act ∷ []) ++ xs) l) (sym (append_assoc up (act ∷ []) ys))
      ∙ ap (λ l. Parts row l xs ys) (sym e)

  parent_way : (row : ℕ) (place : Place) → row < length h → (row_at h row).parent ≡ Some place → row_way row ≡ row_way place.row ++ place.act ∷ []
  parent_way row place within e = row_way_is row place e ∙ way_is place (omega (arith, within, (parent_of row place e).before))

  abbrev Down : ℕ → List ℕ → List ℕ → Type 0
  Down row xs ys = PartUnsynced h row xs ys → Parts 0 (row_way row) xs ys

  abbrev Up : ℕ → List ℕ → List ℕ → Type 0
  Up row xs ys = Parts 0 (row_way row) xs ys → PartUnsynced h row xs ys

  down_from : (row : ℕ) (xs ys : List ℕ) (o : Option Place) → (row_at h row).parent ≡ o → row < length h → ((place : Place) → place.row < row → Down place.row (place.act ∷ xs) (place.act ∷ ys)) → Down row xs ys
  down_from row xs ys None e within down p =
      subst (λ l. PartUnsynced h 0 (l ++ xs) (l ++ ys)) (sym (ap (way_on (way h)) e)) (subst (λ r. PartUnsynced h r xs ys) (row_is_main row within e) p)
  down_from row xs ys (Some place) e within down p =
      let is = parent_of row place e in
      let at : PartUnsynced h place.row (place.act ∷ xs) (place.act ∷ ys) = inr (refl, row, is.spawns, p) in
      subst (λ t. t) (same_fronts 0 place.act (row_way row) (row_way place.row) xs ys (parent_way row place within e)) (down place is.before at)

  parted : (row : ℕ) (place : Place) (xs ys : List ℕ) → IsParent h row place → PartUnsynced h place.row (place.act ∷ xs) (place.act ∷ ys) → PartUnsynced h row xs ys
  parted row place xs ys is (inl q) = absurd (omega (arith, q.0))
  parted row place xs ys is (inr q) = subst (λ r. PartUnsynced h r xs ys) (child_same q.1 row (sym q.2 ∙ is.spawns)) q.3

  up_from : (row : ℕ) (xs ys : List ℕ) (o : Option Place) → (row_at h row).parent ≡ o → row < length h → ((place : Place) → place.row < row → Up place.row (place.act ∷ xs) (place.act ∷ ys)) → Up row xs ys
  up_from row xs ys None e within up p =
      subst (λ r. PartUnsynced h r xs ys) (sym (row_is_main row within e)) (subst (λ l. PartUnsynced h 0 (l ++ xs) (l ++ ys)) (ap (way_on (way h)) e) p)
  up_from row xs ys (Some place) e within up p =
      let is = parent_of row place e in
      parted row place xs ys is (up place is.before (subst (λ t. t) (sym (same_fronts 0 place.act (row_way row) (row_way place.row) xs ys (parent_way row place within e))) p))

  down_within : (n row : ℕ) (xs ys : List ℕ) → row < n → row < length h → Down row xs ys
  down_within zero row xs ys lt within = absurd (omega arith)
  down_within (suc n) row xs ys lt within =
      down_from row xs ys (row_at h row).parent refl within (λ place before. down_within n place.row (place.act ∷ xs) (place.act ∷ ys) (omega (arith, before, lt)) (omega (arith, before, within)))

  up_within : (n row : ℕ) (xs ys : List ℕ) → row < n → row < length h → Up row xs ys
  up_within zero row xs ys lt within = absurd (omega arith)
  up_within (suc n) row xs ys lt within =
      up_from row xs ys (row_at h row).parent refl within (λ place before. up_within n place.row (place.act ∷ xs) (place.act ∷ ys) (omega (arith, before, lt)) (omega (arith, before, within)))

  -- Ways that have a row's way in common part as they go on from that row.
  pub part_down : (row : ℕ) (xs ys : List ℕ) → row < length h → PartUnsynced h row xs ys → PartUnsynced h 0 (row_way row ++ xs) (row_way row ++ ys)
  part_down row xs ys within = down_within (suc row) row xs ys (omega arith) within

  pub part_up : (row : ℕ) (xs ys : List ℕ) → row < length h → PartUnsynced h 0 (row_way row ++ xs) (row_way row ++ ys) → PartUnsynced h row xs ys
  part_up row xs ys within = up_within (suc row) row xs ys (omega arith) within
