-- Walking back, as where the latest stands.
use Rattle.std.proofs.Common.{◌≡◌, List, [], ◌∷◌, ◌++◌, Option, Some, None, Bool, true, false, cond, ◌||◌, is_some, refl, ap, arith, rules}
use Rattle.std.specs.List.{list_any}
use Rattle.cluster_rules.specs.Walking.{latest, given, or_else, since}

-- the latest that is such: nothing newer is
pub record Latest {A : Type 0} (is : A → Bool) (events : List A) (event : A) : Type 0 where
  pub newer : List A
  pub older : List A
  pub parts : events ≡ newer ++ event ∷ older
  pub such : is event ≡ true
  pub none : list_any is newer ≡ false

module _ {A : Type 0} (is : A → Bool) where
  later_on : (first event : A) (events : List A) → is first ≡ false → Latest is events event → Latest is (first ∷ events) event
  later_on first event events not latest =
      record {
        newer = first ∷ latest.newer;
        older = latest.older;
        parts = ap (λ xs. first ∷ xs) latest.parts;
        such = latest.such;
        none = rw (not, latest.none) refl;
      }

  -- neither the first nor one behind it
  neither : (first : A) (events : List A) → list_any is (first ∷ events) ≡ false → (is first ≡ false) × (list_any is events ≡ false)
  neither first events none = grind (arith, rules)

  pub since_at : (newer : List A) (event : A) (older : List A) → list_any is newer ≡ false → is event ≡ true → since is (newer ++ event ∷ older) ≡ newer
  since_at [] event older none such = rw such refl
  since_at (first ∷ newer) event older none such =
      let both = neither first newer none in rw (both.0) (ap (λ xs. first ∷ xs) (since_at newer event older both.1 such))

  any_on : (first : A) (events : List A) (b : Bool) → is first ≡ b → b || list_any is events ≡ true
      → (list_any is events ≡ true → (event : A) × Latest is events event)
      → (event : A) × Latest is (first ∷ events) event
  any_on first events true such any before = (first, record { newer = []; older = events; parts = refl; such = such; none = refl })
  any_on first events false not any before = let found = before any in (found.0, later_on first found.0 events not found.1)

  -- where one is such, there is a latest one
  pub any_latest : (events : List A) → list_any is events ≡ true → (event : A) × Latest is events event
  any_latest [] any = absurd (cc)
  any_latest (first ∷ events) any = any_on first events (is first) refl any (any_latest events)

  since_front_on : (first : A) (events : List A) (b : Bool) → (rest : List A) × (events ≡ since is events ++ rest)
      → (rest : List A) × (first ∷ events ≡ cond b [] (first ∷ since is events) ++ rest)
  since_front_on first events true before = (first ∷ events, refl)
  since_front_on first events false before = (before.0, ap (λ xs. first ∷ xs) before.1)

  -- what came since then stands in front
  pub since_front : (events : List A) → (rest : List A) × (events ≡ since is events ++ rest)
  since_front [] = ([], refl)
  since_front (first ∷ events) = since_front_on first events (is first) (since_front events)

  since_none_on : (first : A) (events : List A) (b : Bool) → is first ≡ b → list_any is (since is events) ≡ false
      → list_any is (cond b [] (first ∷ since is events)) ≡ false
  since_none_on first events true such none = refl
  since_none_on first events false not none = rw (not, none) refl

  -- nothing is such that came since
  pub since_none : (events : List A) → list_any is (since is events) ≡ false
  since_none [] = refl
  since_none (first ∷ events) = since_none_on first events (is first) refl (since_none events)

  pub none_front : (front back : List A) → list_any is (front ++ back) ≡ false → list_any is front ≡ false
  none_front [] back none = refl
  none_front (first ∷ front) back none = let both = neither first (front ++ back) none in rw (both.0, none_front front back both.1) refl

  -- an event in them is not such
  pub not_at : (front : List A) (event : A) (back : List A) → list_any is (front ++ event ∷ back) ≡ false → is event ≡ false
  not_at [] event back none = (neither event back none).0
  not_at (first ∷ front) event back none = not_at front event back (neither first (front ++ event ∷ back) none).1

module _ {A B : Type 0} (by : A → Option B) where
  both_none : (first second : Option B) → or_else first second ≡ None → (first ≡ None) × (second ≡ None)
  both_none None second none = (refl, none)
  both_none (Some value) second none = absurd (cc)

  pub given_at : (newer : List A) (event : A) (older : List A) (value : B) → given by newer ≡ None → by event ≡ Some value
      → given by (newer ++ event ∷ older) ≡ Some value
  given_at [] event older value none gives = rw gives refl
  given_at (first ∷ newer) event older value none gives =
      let both = both_none (by first) (given by newer) none in rw (both.0) (given_at newer event older value both.1 gives)

  none_on : (first second : Option B) → is_some first ≡ false → second ≡ None → or_else first second ≡ None
  none_on None second some none = none
  none_on (Some value) second some none = absurd (cc)

  -- where none gives anything, nothing is given
  pub given_none : (events : List A) → list_any (λ event. is_some (by event)) events ≡ false → given by events ≡ None
  given_none [] none = refl
  given_none (first ∷ events) none =
      let both = neither (λ event. is_some (by event)) first events none in none_on (by first) (given by events) both.0 (given_none events both.1)

pub gives_some : {B : Type 0} (option : Option B) → is_some option ≡ true → (value : B) × (option ≡ Some value)
gives_some None some = absurd (cc)
gives_some (Some value) some = (value, refl)
