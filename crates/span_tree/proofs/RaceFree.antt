-- A location consistent history without races reads serially: the changes of a word before one of its accesses are the same in the word's
-- list as in serial order, and stand in the same order.
use Rattle.std.proofs.Common.{◌≡◌, ◌≢◌, ◌⊎◌, ℕ, List, [], ◌∷◌, ◌++◌, Option, Some, None, cond, refl, sym, ap, ◌∙◌, subst, inl, inr}
use Rattle.std.proofs.lemmas.Bool.{eq-eqb}
use Rattle.std.proofs.lemmas.Option.{slice_get_within}
use Rattle.std.proofs.lemmas.List.Elements.{Contains-append_left, Contains-append_right, filter_map-append}
use Rattle.std.specs.List.{Contains, filter, filter_map, cons_option}
use Rattle.std.specs.Prelude.{ℤ, Bool, true, false, ◌+ℤ◌, if◌then◌else◌, slice_get, unwrap_or}
use Rattle.cilk_meaning.specs.Values.{fits}
use Rattle.span_tree.specs.declared.act.Act.{Act}
use Rattle.span_tree.specs.declared.act.Act.TheVariants.{Read, Write, Add, Print, Spawn, Sync}
use Rattle.span_tree.specs.declared.act.Place.{Place}
use Rattle.span_tree.specs.Dag.{IsBefore, IsParallel, Precedes, StandsBefore}
use Rattle.span_tree.specs.History.{History, IsNumbered, IsPlace, act_at, row_at, serial_order}
use Rattle.span_tree.specs.Laws.{RaceFreeIsSerial}
use Rattle.span_tree.specs.Memory.{HasNoRace, IsAnsweredFrom, IsWordOrder, accesses, changes, holds_at, is_access, is_change, last_write, left_in}
use Rattle.span_tree.proofs.Growing.{get_some}
use Rattle.span_tree.proofs.Deciding.{one_of_three}
use Rattle.span_tree.proofs.Orders.{Ascends, first_or_later, is_first, is_later, nothing_in_none, first_is_in, second_is_in, not_before_itself, not_both_before}

-- ---- lists

-- an item that is given comes from a place, and what is before it from what is before that place
pub record Cut (f : Place → Option Act) (places : List Place) (front : List Act) (act : Act) : Type 0 where
  pub before : List Place
  pub place : Place
  pub behind : List Place
  pub is_split : places ≡ before ++ place ∷ behind
  pub is_front : filter_map f before ≡ front
  pub is_act : f place ≡ Some act

cut : (f : Place → Option Act) (places : List Place) (front back : List Act) (act : Act) → filter_map f places ≡ front ++ act ∷ back → Cut f places front act
cut f [] [] back act e = absurd cc
cut f [] (a ∷ front) back act e = absurd cc
cut f (p ∷ places) front back act e = by (f p) refl front e (λ front' e'. cut f places front' back act e')
  where
    more : (o : Option Act) → f p ≡ o → (front : List Act) (front' : List Act) → cons_option o front' ≡ front → Cut f places front' act → Cut f (p ∷ places) front act
    more o is front front' same c = record {
      before = p ∷ c.before;
      place = c.place;
      behind = c.behind;
      is_split = ap (λ l. p ∷ l) c.is_split;
      is_front = ap (λ x. cons_option x (filter_map f c.before)) is ∙ ap (λ l. cons_option o l) c.is_front ∙ same;
      is_act = c.is_act;
    }

    by : (o : Option Act) → f p ≡ o → (front : List Act) → cons_option (f p) (filter_map f places) ≡ front ++ act ∷ back → ((front' : List Act) → filter_map f places ≡ front' ++ act ∷ back → Cut f places front' act) → Cut f (p ∷ places) front act
    by None is front e rest = more None is front front refl (rest front (sym (ap (λ x. cons_option x (filter_map f places)) is) ∙ e))
    by (Some a) is [] e rest =
        let whole : a ∷ filter_map f places ≡ act ∷ back = sym (ap (λ x. cons_option x (filter_map f places)) is) ∙ e in
        let heads : a ≡ act = cc in
        record { before = []; place = p; behind = places; is_split = refl; is_front = refl; is_act = is ∙ ap (λ x. Some x) heads }
    by (Some a) is (b ∷ front) e rest =
        let whole : a ∷ filter_map f places ≡ b ∷ (front ++ act ∷ back) = sym (ap (λ x. cons_option x (filter_map f places)) is) ∙ e in
        let heads : a ≡ b = cc in
        let tails : filter_map f places ≡ front ++ act ∷ back = cc in
        more (Some a) is (b ∷ front) front (ap (λ x. x ∷ front) heads) (rest front tails)

cut_list : (places : List Place) (p : Place) → Contains places p → (before behind : List Place) × (places ≡ before ++ p ∷ behind)
cut_list [] p c = absurd (nothing_in_none p c)
cut_list (x ∷ places) p c = go (first_or_later x places p c) (λ d. cut_list places p d)
  where
    go : (x ≡ p) ⊎ Contains places p → (Contains places p → (before behind : List Place) × (places ≡ before ++ p ∷ behind)) → (before behind : List Place) × (x ∷ places ≡ before ++ p ∷ behind)
    go (inl same) rest = ([], places, ap (λ y. y ∷ places) same)
    go (inr d) rest = let r = rest d in (x ∷ r.0, r.1, ap (λ l. x ∷ l) r.2)

stands_in_front : (before behind : List Place) (p c : Place) → Contains before c → StandsBefore (before ++ p ∷ behind) c p
stands_in_front [] behind p c is = absurd (nothing_in_none c is)
stands_in_front (x ∷ before) behind p c is = go (first_or_later x before c is) (λ d. stands_in_front before behind p c d)
  where
    go : (x ≡ c) ⊎ Contains before c → (Contains before c → StandsBefore (before ++ p ∷ behind) c p) → StandsBefore (x ∷ before ++ p ∷ behind) c p
    go (inl same) rest = inl (same, Contains-append_right before (p ∷ behind) p (is_first p behind))
    go (inr d) rest = inr (rest d)

-- what stands before a place that stands once is in front of it
in_front : (before behind : List Place) (p c : Place) → ¬ StandsBefore (before ++ p ∷ behind) p p → StandsBefore (before ++ p ∷ behind) c p → Contains before c
in_front [] behind p c once (inl h) = absurd (once (inl (refl, h.1)))
in_front [] behind p c once (inr h) = absurd (once (inl (refl, second_is_in behind c p h)))
in_front (x ∷ before) behind p c once (inl h) = subst (λ y. Contains (x ∷ before) y) h.0 (is_first x before)
in_front (x ∷ before) behind p c once (inr h) = is_later x before c (in_front before behind p c (λ again. once (inr again)) h)

-- of two places that each stand once not both stand before the other
not_both : (places : List Place) (x y : Place) → ¬ StandsBefore places x x → ¬ StandsBefore places y y → StandsBefore places x y → StandsBefore places y x → ⊥
not_both [] x y once_x once_y a b = a
not_both (p ∷ places) x y once_x once_y (inl a) (inl b) = once_x (inl (a.0, b.1))
not_both (p ∷ places) x y once_x once_y (inl a) (inr b) = once_x (inl (a.0, second_is_in places y x b))
not_both (p ∷ places) x y once_x once_y (inr a) (inl b) = once_y (inl (b.0, second_is_in places x y a))
not_both (p ∷ places) x y once_x once_y (inr a) (inr b) = not_both places x y (λ again. once_x (inr again)) (λ again. once_y (inr again)) a b

stands_left : (xs ys : List Place) (a b : Place) → StandsBefore xs a b → StandsBefore (xs ++ ys) a b
stands_left [] ys a b h = absurd h
stands_left (x ∷ xs) ys a b (inl h) = inl (h.0, Contains-append_left xs ys b h.1)
stands_left (x ∷ xs) ys a b (inr h) = inr (stands_left xs ys a b h)

-- ---- some places of a list

module _ (test : Place → Bool) where
  in_filtered : (xs : List Place) (c : Place) → Contains xs c → test c ≡ true → Contains (filter test xs) c
  in_filtered [] c is t = absurd (nothing_in_none c is)
  in_filtered (x ∷ xs) c is t = go (first_or_later x xs c is) (test x) refl (λ d. in_filtered xs c d t)
    where
      go : (x ≡ c) ⊎ Contains xs c → (b : Bool) → test x ≡ b → (Contains xs c → Contains (filter test xs) c) → Contains (cond b (x ∷ filter test xs) (filter test xs)) c
      go (inl same) true e rest = subst (λ y. Contains (x ∷ filter test xs) y) same (is_first x (filter test xs))
      go (inl same) false e rest = absurd (let clash : false ≡ true = sym e ∙ ap test same ∙ t in cc)
      go (inr d) true e rest = is_later x (filter test xs) c (rest d)
      go (inr d) false e rest = rest d

  from_filtered : (xs : List Place) (c : Place) → Contains (filter test xs) c → Contains xs c × (test c ≡ true)
  from_filtered [] c is = absurd (nothing_in_none c is)
  from_filtered (x ∷ xs) c is = go (test x) refl is (λ d. from_filtered xs c d)
    where
      later : Contains xs c × (test c ≡ true) → Contains (x ∷ xs) c × (test c ≡ true)
      later h = (is_later x xs c h.0, h.1)

      go : (b : Bool) → test x ≡ b → Contains (cond b (x ∷ filter test xs) (filter test xs)) c → (Contains (filter test xs) c → Contains xs c × (test c ≡ true)) → Contains (x ∷ xs) c × (test c ≡ true)
      go false e is rest = later (rest is)
      go true e is rest = first (first_or_later x (filter test xs) c is)
        where
          first : (x ≡ c) ⊎ Contains (filter test xs) c → Contains (x ∷ xs) c × (test c ≡ true)
          first (inl same) = (subst (λ y. Contains (x ∷ xs) y) same (is_first x xs), ap test (sym same) ∙ e)
          first (inr d) = later (rest d)

  stands_filtered : (xs : List Place) (a b : Place) → StandsBefore (filter test xs) a b → StandsBefore xs a b
  stands_filtered [] a b h = h
  stands_filtered (x ∷ xs) a b h = go (test x) h (λ g. stands_filtered xs a b g)
    where
      go : (t : Bool) → StandsBefore (cond t (x ∷ filter test xs) (filter test xs)) a b → (StandsBefore (filter test xs) a b → StandsBefore xs a b) → StandsBefore (x ∷ xs) a b
      go false g rest = inr (rest g)
      go true (inl g) rest = inl (g.0, (from_filtered xs b g.1).0)
      go true (inr g) rest = inr (rest g)

ascends_of : (R : Place → Place → Type 0) (xs : List Place) → ((a b : Place) → StandsBefore xs a b → R a b) → Ascends R xs
ascends_of R [] all = tt
ascends_of R (x ∷ xs) all = (λ y c. all x y (inl (refl, c)), ascends_of R xs (λ a b h. all a b (inr h)))

-- two ascending lists of the same places are one
module _ (R : Place → Place → Type 0) (never_both : (a b : Place) → R a b → R b a → ⊥) where
  same_first : (x y : Place) (xs ys : List Place) → Ascends R (x ∷ xs) → Ascends R (y ∷ ys) → Contains (y ∷ ys) x → Contains (x ∷ xs) y → x ≡ y
  same_first x y xs ys a b c d = go (first_or_later y ys x c) (first_or_later x xs y d)
    where
      go : (y ≡ x) ⊎ Contains ys x → (x ≡ y) ⊎ Contains xs y → x ≡ y
      go (inl same) other = sym same
      go (inr later) (inl same) = same
      go (inr later) (inr later') = absurd (never_both x y (a.0 y later') (b.0 x later))

  -- what stands behind the first is not the first
  tail : (x y : Place) (xs ys : List Place) → x ≡ y → Ascends R (x ∷ xs) → (c : Place) → Contains xs c → Contains (y ∷ ys) c → Contains ys c
  tail x y xs ys same a c is there = go (first_or_later y ys c there)
    where
      go : (y ≡ c) ⊎ Contains ys c → Contains ys c
      go (inl first) = let itself : R c c = subst (λ z. R z c) (same ∙ first) (a.0 c is) in absurd (never_both c c itself itself)
      go (inr later) = later

  one_list : (xs ys : List Place) → Ascends R xs → Ascends R ys → ((c : Place) → Contains xs c → Contains ys c) → ((c : Place) → Contains ys c → Contains xs c) → xs ≡ ys
  one_list [] [] a b to from = refl
  one_list [] (y ∷ ys) a b to from = absurd (nothing_in_none y (from y (is_first y ys)))
  one_list (x ∷ xs) [] a b to from = absurd (nothing_in_none x (to x (is_first x xs)))
  one_list (x ∷ xs) (y ∷ ys) a b to from =
      let same : x ≡ y = same_first x y xs ys a b (to x (is_first x xs)) (from y (is_first y ys)) in
      ap (λ z. z ∷ xs) same
      ∙ ap (λ l. y ∷ l) (one_list xs ys a.1 b.1 (λ c is. tail x y xs ys same a c is (to c (is_later x xs c is))) (λ c is. tail y x ys xs (sym same) b c is (from c (is_later y ys c is))))

-- ---- last writes by changes alone

leaves_none : (word : ℕ) (act : Act) → changes word act ≡ false → left_in word act ≡ None
leaves_none word (Write at v) e = ap (λ b. if b then Some v else None) e
leaves_none word (Add at old addend) e = ap (λ b. if b then (if fits (old +ℤ addend) then Some (old +ℤ addend) else None) else None) e
leaves_none word (Read at v) e = refl
leaves_none word (Print v) e = refl
leaves_none word (Spawn child) e = refl
leaves_none word Sync e = refl

by_changes : (h : History) (word : ℕ) (value : ℤ) (places : List Place) → last_write word value (filter_map (act_at h) places) ≡ last_write word value (filter_map (act_at h) (filter (is_change h word) places))
by_changes h word value [] = refl
by_changes h word value (p ∷ places) = go (act_at h p) refl (λ v. by_changes h word v places)
  where
    on : (act : Act) → act_at h p ≡ Some act → (b : Bool) → changes word act ≡ b → ((v : ℤ) → last_write word v (filter_map (act_at h) places) ≡ last_write word v (filter_map (act_at h) (filter (is_change h word) places))) →
        last_write word (unwrap_or (left_in word act) value) (filter_map (act_at h) places)
        ≡ last_write word value (filter_map (act_at h) (cond b (p ∷ filter (is_change h word) places) (filter (is_change h word) places)))
    on act e true is same =
        same (unwrap_or (left_in word act) value)
        ∙ sym (ap (λ o. last_write word value (cons_option o (filter_map (act_at h) (filter (is_change h word) places)))) e)
    on act e false is same = ap (λ o. last_write word (unwrap_or o value) (filter_map (act_at h) places)) (leaves_none word act is) ∙ same value

    go : (o : Option Act) → act_at h p ≡ o → ((v : ℤ) → last_write word v (filter_map (act_at h) places) ≡ last_write word v (filter_map (act_at h) (filter (is_change h word) places))) →
        last_write word value (cons_option o (filter_map (act_at h) places)) ≡ last_write word value (filter_map (act_at h) (cond (holds_at (changes word) o) (p ∷ filter (is_change h word) places) (filter (is_change h word) places)))
    go None e same = same value
    go (Some act) e same = on act e (changes word act) refl same

-- ---- one access

change_is_access : (word : ℕ) (act : Act) → changes word act ≡ true → accesses word act ≡ true
change_is_access word (Write at v) e = e
change_is_access word (Add at old addend) e = e
change_is_access word (Read at v) e = absurd cc
change_is_access word (Print v) e = absurd cc
change_is_access word (Spawn child) e = absurd cc
change_is_access word Sync e = absurd cc

is_accessed : (h : History) (word : ℕ) (c : Place) → is_change h word c ≡ true → is_access h word c ≡ true
is_accessed h word c = go (act_at h c)
  where
    go : (o : Option Act) → holds_at (changes word) o ≡ true → holds_at (accesses word) o ≡ true
    go None e = absurd cc
    go (Some act) e = change_is_access word act e

is_there : (h : History) (word : ℕ) (c : Place) → is_access h word c ≡ true → IsPlace h c
is_there h word c e = go (act_at h c) refl e
  where
    go : (o : Option Act) → act_at h c ≡ o → holds_at (accesses word) o ≡ true → IsPlace h c
    go None is e = absurd cc
    go (Some act) is e = slice_get_within (row_at h c.row).acts c.act act is

module _ (start : ℕ → ℤ) (h : History) (numbered : IsNumbered h) (free : HasNoRace h) (word : ℕ) (list : List Place) (order : IsWordOrder start h word list) where
  -- a change of the word and another access of it are ordered by the dag
  ordered : (c p : Place) → is_change h word c ≡ true → is_access h word p ≡ true → c ≢ p → Precedes h c p ⊎ Precedes h p c
  ordered c p is_c is_p ne = go (one_of_three h numbered c p (is_there h word c (is_accessed h word c is_c)) (is_there h word p is_p) ne)
    where
      go : IsParallel h c p ⊎ (Precedes h c p ⊎ Precedes h p c) → Precedes h c p ⊎ Precedes h p c
      go (inl parallel) = absurd (free word c p (record { first = is_accessed h word c is_c; second = is_p; change = inl is_c; parallel = parallel }))
      go (inr before) = before

  listed : (c : Place) → is_access h word c ≡ true → Contains list c
  listed c e = order.accesses c e

  not_itself_before : (c p : Place) → StandsBefore list c p → c ≢ p
  not_itself_before c p before same = order.once p (subst (λ x. StandsBefore list x p) same before)

  -- what is serially before stands before in the list, and the other way round
  listed_before : (c p : Place) → is_change h word c ≡ true → is_access h word p ≡ true → IsBefore h c p → StandsBefore list c p
  listed_before c p is_c is_p before = go (ordered c p is_c is_p (λ same. not_before_itself h numbered p (subst (λ x. IsBefore h x p) same before)))
    where
      go : Precedes h c p ⊎ Precedes h p c → StandsBefore list c p
      go (inl precedes) = order.dag c p (listed c (is_accessed h word c is_c)) (listed p is_p) precedes
      go (inr after) = absurd (not_both_before h numbered c p before after.0)

  serially_before : (c p : Place) → is_change h word c ≡ true → is_access h word p ≡ true → StandsBefore list c p → IsBefore h c p
  serially_before c p is_c is_p before = go (ordered c p is_c is_p (not_itself_before c p before))
    where
      go : Precedes h c p ⊎ Precedes h p c → IsBefore h c p
      go (inl precedes) = precedes.0
      go (inr after) = absurd (not_both list c p (order.once c) (order.once p) before (order.dag p c (listed p is_p) (listed c (is_accessed h word c is_c)) after))

  module _ (p : Place) (is_p : is_access h word p ≡ true) (before behind front back : List Place) (serial : serial_order h ≡ before ++ p ∷ behind) (split : list ≡ front ++ p ∷ back) where
    abbrev changing : Place → Bool
    changing = is_change h word

    to_list : (c : Place) → Contains (filter changing before) c → Contains (filter changing front) c
    to_list c is =
        let there = from_filtered changing before c is in
        let first : IsBefore h c p = subst (λ l. StandsBefore l c p) (sym serial) (stands_in_front before behind p c there.0) in
        let stands : StandsBefore list c p = listed_before c p there.1 is_p first in
        in_filtered changing front c (in_front front back p c (λ again. order.once p (subst (λ l. StandsBefore l p p) (sym split) again)) (subst (λ l. StandsBefore l c p) split stands)) there.1

    to_serial : (c : Place) → Contains (filter changing front) c → Contains (filter changing before) c
    to_serial c is =
        let there = from_filtered changing front c is in
        let stands : StandsBefore list c p = subst (λ l. StandsBefore l c p) (sym split) (stands_in_front front back p c there.0) in
        let first : IsBefore h c p = serially_before c p there.1 is_p stands in
        in_filtered changing before c (in_front before behind p c (λ again. not_before_itself h numbered p (subst (λ l. StandsBefore l p p) (sym serial) again)) (subst (λ l. StandsBefore l c p) serial first)) there.1

    serially : (a b : Place) → StandsBefore (filter changing before) a b → IsBefore h a b
    serially a b is = subst (λ l. StandsBefore l a b) (sym serial) (stands_left before (p ∷ behind) a b (stands_filtered changing before a b is))

    by_list : (a b : Place) → StandsBefore (filter changing front) a b → IsBefore h a b
    by_list a b is =
        let is_a = (from_filtered changing front a (first_is_in (filter changing front) a b is)).1 in
        let is_b = (from_filtered changing front b (second_is_in (filter changing front) a b is)).1 in
        serially_before a b is_a (is_accessed h word b is_b) (subst (λ l. StandsBefore l a b) (sym split) (stands_left front (p ∷ back) a b (stands_filtered changing front a b is)))

    same_changes : filter changing before ≡ filter changing front
    same_changes =
        one_list (IsBefore h) (λ a b x y. not_both_before h numbered a b x y) (filter changing before) (filter changing front)
        (ascends_of (IsBefore h) (filter changing before) serially) (ascends_of (IsBefore h) (filter changing front) by_list) to_list to_serial

    same_last : (value : ℤ) → last_write word value (filter_map (act_at h) before) ≡ last_write word value (filter_map (act_at h) front)
    same_last value =
        by_changes h word value before ∙ ap (λ l. last_write word value (filter_map (act_at h) l)) same_changes ∙ sym (by_changes h word value front)

pub race_free_is_serial : RaceFreeIsSerial
race_free_is_serial start h orders numbered consistent free front back act whole = by act (cut (act_at h) (serial_order h) front back act whole)
  where
    -- an access of a word, by what its list says
    listed_last : (word : ℕ) (act : Act) (c : Cut (act_at h) (serial_order h) front act) → is_access h word c.place ≡ true → (value : ℤ) →
        ((list : List Place) (before behind : List Place) → IsWordOrder start h word list → list ≡ before ++ c.place ∷ behind → value ≡ last_write word (start word) (filter_map (act_at h) before)) →
        value ≡ last_write word (start word) front
    listed_last word act c is value answered = go (slice_get orders word) refl
      where
        go : (o : Option (List Place)) → slice_get orders word ≡ o → value ≡ last_write word (start word) front
        go None e = absurd (get_some orders word (consistent.shared word c.place is) e)
        go (Some list) e =
            let order = consistent.lists word list e in
            let split = cut_list list c.place (order.accesses c.place is) in
            answered list split.0 split.1 order split.2
            ∙ sym (same_last start h numbered free word list order c.place is c.before c.behind split.0 split.1 c.is_split split.2 (start word))
            ∙ ap (last_write word (start word)) c.is_front

    at_list : (list before behind : List Place) (p : Place) (act : Act) → list ≡ before ++ p ∷ behind → act_at h p ≡ Some act → filter_map (act_at h) list ≡ filter_map (act_at h) before ++ act ∷ filter_map (act_at h) behind
    at_list list before behind p act split e =
        ap (filter_map (act_at h)) split ∙ filter_map-append (act_at h) before (p ∷ behind) ∙ ap (λ o. filter_map (act_at h) before ++ cons_option o (filter_map (act_at h) behind)) e

    by : (act : Act) → Cut (act_at h) (serial_order h) front act → IsAnsweredFrom (λ word. last_write word (start word) front) act
    by (Read word v) c =
        listed_last word (Read word v) c (ap (holds_at (accesses word)) c.is_act ∙ eq-eqb word word refl) v
        (λ list before behind order split. order.reads (filter_map (act_at h) before) (filter_map (act_at h) behind) (Read word v) (at_list list before behind c.place (Read word v) split c.is_act))
    by (Add word old addend) c =
        listed_last word (Add word old addend) c (ap (holds_at (accesses word)) c.is_act ∙ eq-eqb word word refl) old
        (λ list before behind order split. order.reads (filter_map (act_at h) before) (filter_map (act_at h) behind) (Add word old addend) (at_list list before behind c.place (Add word old addend) split c.is_act))
    by (Write word v) c = tt
    by (Print v) c = tt
    by (Spawn child) c = tt
    by Sync c = tt
