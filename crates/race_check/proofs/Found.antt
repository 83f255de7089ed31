-- The race that is found is the first one, and where none is found there is none.
use Rattle.std.proofs.Common.{◌≡◌, ◌⊎◌, ℕ, ◌+◌, ◌<◌, ◌≤◌, List, Option, Some, None, length, take, get_or, sym, ap, ◌∙◌, subst, inl, inr}
use Rattle.std.proofs.lemmas.List.Elements.{Contains-get_or}
use Rattle.std.specs.List.{Contains}
use Rattle.std.specs.Prelude.{◌↔◌, true, IfSome}
use Rattle.span_tree.specs.declared.act.Place.{Place}
use Rattle.span_tree.specs.Dag.{IsBefore, StandsBefore}
use Rattle.span_tree.specs.History.{History, IsNumbered, IsPlace, serial_order}
use Rattle.span_tree.specs.Memory.{HasNoRace, IsFirstRace, IsRace, is_access}
use Rattle.span_tree.proofs.Orders.{all_in, before_on, nothing_in_none, not_before_itself, one_is_first, only_places}
use Rattle.race_check.specs.declared.Race.{Race}
use Rattle.race_check.specs.declared.access.Access.{Access}
use Rattle.race_check.specs.declared.shadow.Shadow.{Shadow}
use Rattle.race_check.specs.Access.{IsAccessOf, IsLeastRacing}
use Rattle.race_check.specs.Shadow.{Before, IsShadowOf, IsShadowed, RacesBefore, Upto, no_shadow}
use Rattle.race_check.proofs.Accesses.{is_there, one_word}
use Rattle.race_check.proofs.Passing.{all_passed, now_passed, passed_more, passed_or_behind, passed_stands, stands_passed, still_passed}
use Rattle.race_check.proofs.Shadowing.{same_shadowed}

-- before the first place nothing is kept
pub nothing_passed : (h : History) (xs : List Place) (kept : ℕ → Shadow) → ((word : ℕ) → kept word ≡ no_shadow) → IsShadowed h (Contains (take 0 xs)) kept
nothing_passed h xs kept none = record { shadows = of_word; free = λ word x y c. absurd (nothing_in_none x c) }
  where
    no_place : (o : Option Place) (x : Place) → o ≡ None → o ≡ Some x → ⊥
    no_place o x p q = cc

    of_word : (word : ℕ) → IsShadowOf h (Contains (take 0 xs)) word (kept word)
    of_word word = record {
      writer = λ x e. absurd (no_place (kept word).writer x (ap (λ (k : Shadow). k.writer) (none word)) e);
      reader = λ x e. absurd (no_place (kept word).reader x (ap (λ (k : Shadow). k.reader) (none word)) e);
      changes = λ x c. absurd (nothing_in_none x c);
      reads = λ x c. absurd (nothing_in_none x c);
    }

module _ (h : History) (numbered : IsNumbered h) where
  -- ---- one access with all others of its word

  module _ (word : ℕ) (second : Place) (xs : List Place) (order : xs ≡ serial_order h) where
    racing_in : (x : Place) → IsRace h word x second → Contains xs x
    racing_in x race = subst (λ l. Contains l x) (sym order) (all_in h numbered x (is_there h word x race.first))

    pub none_more : (i : ℕ) (d : Place) → i < length xs → ((x : Place) → Contains (take i xs) x → ¬ IsRace h word x second) → ¬ IsRace h word (get_or xs i d) second →
        (x : Place) → Contains (take (i + 1) xs) x → ¬ IsRace h word x second
    none_more i d lt none not_next x is = go (passed_more xs i d x lt is)
      where
        go : Contains (take i xs) x ⊎ (get_or xs i d ≡ x) → ¬ IsRace h word x second
        go (inl passed) = none x passed
        go (inr same) = subst (λ y. ¬ IsRace h word y second) same not_next

    pub none_at_all : (i : ℕ) → length xs ≤ i → ((x : Place) → Contains (take i xs) x → ¬ IsRace h word x second) → (x : Place) → ¬ IsRace h word x second
    none_at_all i le none x race = none x (all_passed xs i x le (racing_in x race)) race

    pub least_racing : (i : ℕ) (d : Place) → i < length xs → ((x : Place) → Contains (take i xs) x → ¬ IsRace h word x second) → IsRace h word (get_or xs i d) second →
        IsLeastRacing h word (get_or xs i d) second
    least_racing i d lt none race = record { race = race; least = λ x other. go x other (passed_or_behind xs i d x lt (racing_in x other)) }
      where
        go : (x : Place) → IsRace h word x second → Contains (take i xs) x ⊎ ((get_or xs i d ≡ x) ⊎ StandsBefore xs (get_or xs i d) x) → (get_or xs i d ≡ x) ⊎ IsBefore h (get_or xs i d) x
        go x other (inl passed) = absurd (none x passed other)
        go x other (inr (inl same)) = inl same
        go x other (inr (inr behind)) = inr (subst (λ l. StandsBefore l (get_or xs i d) x) order behind)

  -- ---- the walk

  module _ (xs : List Place) (order : xs ≡ serial_order h) (shadow : ℕ → Shadow) where
    module _ (i : ℕ) (d : Place) (lt : i < length xs) where
      abbrev next : Place
      next = get_or xs i d

      pub next_is_place : IsPlace h next
      next_is_place = only_places h numbered next (subst (λ l. Contains l next) order (Contains-get_or xs i d lt))

      passed_before : (x : Place) → Contains (take i xs) x → IsBefore h x next
      passed_before x c = subst (λ l. StandsBefore l x next) order (passed_stands xs i d x lt c)

      before_passed : (x : Place) → IsBefore h x next → Contains (take i xs) x
      before_passed x is =
          stands_passed xs i d x lt (λ again. not_before_itself h numbered next (subst (λ l. StandsBefore l next next) order again)) (subst (λ l. StandsBefore l x next) (sym order) is)

      pub shadowed_before : IsShadowed h (Contains (take i xs)) shadow → IsShadowed h (Before h next) shadow
      shadowed_before shadows = same_shadowed h (Contains (take i xs)) (Before h next) shadow passed_before before_passed shadows

      pub shadowed_upto : IsShadowed h (Upto h next) shadow → IsShadowed h (Contains (take (i + 1) xs)) shadow
      shadowed_upto shadows = same_shadowed h (Upto h next) (Contains (take (i + 1) xs)) shadow to from shadows
        where
          to : (x : Place) → IsBefore h x next ⊎ (next ≡ x) → Contains (take (i + 1) xs) x
          to x (inl is) = still_passed xs i d x lt (before_passed x is)
          to x (inr same) = subst (λ y. Contains (take (i + 1) xs) y) same (now_passed xs i d lt)

          from : (x : Place) → Contains (take (i + 1) xs) x → IsBefore h x next ⊎ (next ≡ x)
          from x c = go (passed_more xs i d x lt c)
            where
              go : Contains (take i xs) x ⊎ (next ≡ x) → IsBefore h x next ⊎ (next ≡ x)
              go (inl passed) = inl (passed_before x passed)
              go (inr same) = inr same

    pub no_race : (i : ℕ) → length xs ≤ i → IsShadowed h (Contains (take i xs)) shadow → HasNoRace h
    no_race i le shadows word x y race = shadows.free word x y (passed x (is_there h word x race.first)) (passed y (is_there h word y race.second)) race
      where
        passed : (z : Place) → IsPlace h z → Contains (take i xs) z
        passed z is = all_passed xs i z le (subst (λ l. Contains l z) (sym order) (all_in h numbered z is))

  -- ---- the first race

  module _ (shadow : ℕ → Shadow) (second : Place) (is_second : IsPlace h second) (shadows : IsShadowed h (Before h second) shadow)
      (word : ℕ) (accesses : is_access h word second ≡ true) (witness : RacesBefore h word second) (first : Place) (least : IsLeastRacing h word first second) where
    first_before : IsBefore h first second
    first_before = go (least.least witness.0 witness.2)
      where
        go : (first ≡ witness.0) ⊎ IsBefore h first witness.0 → IsBefore h first second
        go (inl same) = subst (λ x. IsBefore h x second) (sym same) witness.1
        go (inr before) = before_on h numbered first witness.0 second before witness.1

    pub first_race : IsFirstRace h word first second
    first_race = record { race = least.race; before = first_before; least = λ other x y race before. go other x y race before (one_is_first h numbered second y is_second (is_there h other y race.second)) }
      where
        go : (other : ℕ) (x y : Place) → IsRace h other x y → IsBefore h x y → (second ≡ y) ⊎ (IsBefore h second y ⊎ IsBefore h y second) → IsBefore h second y ⊎ ((second ≡ y) × ((first ≡ x) ⊎ IsBefore h first x))
        go other x y race before (inr (inl later)) = inl later
        go other x y race before (inr (inr earlier)) = absurd (shadows.free other x y (before_on h numbered x y second before earlier) earlier race)
        go other x y race before (inl same) =
            let here : IsRace h other x second = subst (λ z. IsRace h other x z) (sym same) race in
            inr (same, least.least x (subst (λ w. IsRace h w x second) (one_word h second other word here.second accesses) here))

  -- ---- what is told of the race

  -- the access and the race as the code has them
  module _ (xs : List Place) (order : xs ≡ serial_order h) (shadow : ℕ → Shadow) (i : ℕ) (d : Place) (lt : i < length xs) (shadows : IsShadowed h (Contains (take i xs)) shadow)
      (met : Option Access) (second : Access) (is_met : met ≡ Some second) (accesses : IfSome met (IsAccessOf h (get_or xs i d))) (races : IfSome met (λ access. RacesBefore h access.word (get_or xs i d)))
      (found : Option Race) (some : IfSome found (λ race. (race.second ≡ second.place) × (race.word ≡ second.word) × IsLeastRacing h second.word race.first second.place))
      (none : found ≡ None → (x : Place) → IsRace h second.word x second.place → ⊥) where
    abbrev p : Place
    p = get_or xs i d

    is_second : IsAccessOf h p second
    is_second = subst (λ o. IfSome o (IsAccessOf h p)) is_met accesses

    before : RacesBefore h second.word p
    before = subst (λ o. IfSome o (λ (access : Access). RacesBefore h access.word p)) is_met races

    pub first_found : (race : Race) → found ≡ Some race → IsFirstRace h race.word race.first race.second
    first_found race e =
        let told : (race.second ≡ second.place) × (race.word ≡ second.word) × IsLeastRacing h second.word race.first second.place =
        subst (λ o. IfSome o (λ race. (race.second ≡ second.place) × (race.word ≡ second.word) × IsLeastRacing h second.word race.first second.place)) e some in
        let at_p : IsFirstRace h second.word race.first p =
        first_race shadow p (next_is_place xs order shadow i d lt) (shadowed_before xs order shadow i d lt shadows) second.word is_second.accesses before race.first
        (subst (λ q. IsLeastRacing h second.word race.first q) is_second.stands told.2) in
        subst (λ w. IsFirstRace h w race.first race.second) (sym told.1) (subst (λ q. IsFirstRace h second.word race.first q) (sym (told.0 ∙ is_second.stands)) at_p)

    pub some_found : (found ≡ None) ↔ HasNoRace h
    some_found = (λ e. absurd (none e before.0 (subst (λ q. IsRace h second.word before.0 q) (sym is_second.stands) before.2)), λ free. absurd (free second.word before.0 p before.2))
