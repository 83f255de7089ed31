-- The past of a node and positions: what stands where, and what stands between.
use Rattle.std.proofs.Common.{◌≡◌, ℕ, suc, ◌<◌, ◌≤◌, [], ◌∷◌, ◌++◌, Some, Bool, true, false, cond, ◌||◌, eqb, length, refl, sym, ◌∙◌, ap, subst, length-append, arith, rules}
use Rattle.std.proofs.lemmas.Bool.Decides.{nat_tests}
use Rattle.std.specs.List.{list_any}
use Rattle.cluster_rules.specs.Turns.{Event, Past}
use Rattle.cluster_rules.specs.Positions.{Moved, Course, own, at, before, Happens}
use Rattle.cluster_rules.proofs.Coursing.{at_splits}
use Rattle.cluster_order.proofs.Growing.{within, at_behind, before_behind, at_last, before_last}

-- ---- the front of a course

own_more_on : (number : ℕ) (first : Moved) (front back : Course) (b : Bool) → own number (front ++ back) ≡ own number front ++ own number back
    → cond b (first.event ∷ own number (front ++ back)) (own number (front ++ back))
    ≡ cond b (first.event ∷ own number front) (own number front) ++ own number back
own_more_on number first front back true same = ap (λ it. first.event ∷ it) same
own_more_on number first front back false same = same

pub own_more : (number : ℕ) (front back : Course) → own number (front ++ back) ≡ own number front ++ own number back
own_more number [] back = refl
own_more number (first ∷ front) back = own_more_on number first front back (eqb first.node number) (own_more number front back)

pub own_first : (number : ℕ) (moved : Moved) (course : Course) → moved.node ≡ number → own number (moved ∷ course) ≡ moved.event ∷ own number course
own_first number moved course by = let same : eqb moved.node number ≡ true = grind (arith, nat_tests) in rw same refl

pub own_other : (number : ℕ) (moved : Moved) (course : Course) → eqb moved.node number ≡ false → own number (moved ∷ course) ≡ own number course
own_other number moved course other = rw other refl

-- nothing that happens to the node from a position on is such
abbrev pub NoneFrom : Course → ℕ → (Event → Bool) → ℕ → Type 0
NoneFrom course number such start =
    (position : ℕ) (moved : Moved) → start ≤ position → at course position ≡ Some moved → moved.node ≡ number → such moved.event ≡ false

pub none_later : (number : ℕ) (such : Event → Bool) (later course : Course) → list_any such (own number later) ≡ false
    → NoneFrom (later ++ course) number such (length course)
none_later number such [] course none = λ position moved start found by. let less = within course position moved found in absurd (omega (arith, start, less))
none_later number such (first ∷ later) course none = λ position moved start found by.
    on position moved start found by (eqb position (length (later ++ course))) refl found (none_later number such later course)
  where
    on : (position : ℕ) (moved : Moved) → length course ≤ position → at (first ∷ (later ++ course)) position ≡ Some moved → moved.node ≡ number
        → (b : Bool) → eqb position (length (later ++ course)) ≡ b → cond b (Some first) (at (later ++ course) position) ≡ Some moved
        → (list_any such (own number later) ≡ false → NoneFrom (later ++ course) number such (length course)) → such moved.event ≡ false
    on position moved start found by true is here rest =
        let same : first ≡ moved = cc in
        let mine : eqb first.node number ≡ true = let first_by : first.node ≡ number = ap (λ it. it.node) same ∙ by in grind (arith, nat_tests) in
        let any : such first.event || list_any such (own number later) ≡ false =
        subst (λ it. list_any such (cond it (first.event ∷ own number later) (own number later)) ≡ false) mine none in
        let not : such first.event ≡ false = grind (rules) in
        subst (λ it. such it.event ≡ false) same not
    on position moved start found by false is here rest = rest (skip (eqb first.node number) none) position moved start here by
      where
        skip : (b : Bool) → list_any such (cond b (first.event ∷ own number later) (own number later)) ≡ false → list_any such (own number later) ≡ false
        skip true any = grind (rules)
        skip false any = any

pub later_none : (number : ℕ) (such : Event → Bool) (later course : Course) → NoneFrom (later ++ course) number such (length course)
    → list_any such (own number later) ≡ false
later_none number such [] course none = refl
later_none number such (first ∷ later) course none = on (eqb first.node number) refl (later_none number such later course)
  where
    rest_none : NoneFrom (later ++ course) number such (length course)
    rest_none =
        λ position moved start found by. none position moved start
        (at_behind (first ∷ []) (later ++ course) position (within (later ++ course) position moved found) ∙ found) by

    on : (b : Bool) → eqb first.node number ≡ b → (NoneFrom (later ++ course) number such (length course) → list_any such (own number later) ≡ false)
        → list_any such (cond b (first.event ∷ own number later) (own number later)) ≡ false
    on true is rest =
        let count = length-append later course in
        let here : such first.event ≡ false =
        none (length (later ++ course)) first (omega (arith, count)) (at_last first (later ++ course)) (grind (arith, nat_tests)) in
        let others : list_any such (own number later) ≡ false = rest rest_none in
        rw (here, others) refl
    on false is rest = rest rest_none

-- ---- an event in the past of a node, and its position

pub record Stands (number : ℕ) (course : Course) (newer : Past) (event : Event) (older : Past) (position : ℕ) : Type 0 where
  pub moved : Moved
  pub later : Course
  pub parts : course ≡ later ++ moved ∷ before course position
  pub count : length (before course position) ≡ position
  pub by : moved.node ≡ number
  pub event_is : moved.event ≡ event
  pub newer_is : own number later ≡ newer
  pub older_is : own number (before course position) ≡ older

-- from the past to the position
pub stands : (number : ℕ) (course : Course) (newer : Past) (event : Event) (older : Past) → own number course ≡ newer ++ event ∷ older
    → (position : ℕ) × Stands number course newer event older position
stands number [] [] event older is = absurd (cc)
stands number [] (first ∷ newer) event older is = absurd (cc)
stands number (moved ∷ course) newer event older is = on (eqb moved.node number) refl newer is (stands number course)
  where
    more : (newer first_newer : Past) → own number (moved ∷ []) ++ newer ≡ first_newer → (position : ℕ) × Stands number course newer event older position
        → (position : ℕ) × Stands number (moved ∷ course) first_newer event older position
    more newer first_newer joined found =
        let less : found.0 < length course = let all = ap length (found.1.parts) in let sum =
        length-append (found.1.later) (found.1.moved ∷ before course (found.0)) in let count = found.1.count in omega (arith, all, sum, count) in
        let same : before (moved ∷ course) (found.0) ≡ before course (found.0) = before_behind (moved ∷ []) course (found.0) less in (
          found.0,
          record {
            moved = found.1.moved;
            later = moved ∷ found.1.later;
            parts = subst (λ it. moved ∷ course ≡ (moved ∷ found.1.later) ++ found.1.moved ∷ it) (sym same) (ap (λ it. moved ∷ it) (found.1.parts));
            count = ap length same ∙ found.1.count;
            by = found.1.by;
            event_is = found.1.event_is;
            newer_is = own_more number (moved ∷ []) (found.1.later) ∙ ap (λ it. own number (moved ∷ []) ++ it) (found.1.newer_is) ∙ joined;
            older_is = ap (own number) same ∙ found.1.older_is;
          },
        )

    on : (b : Bool) → eqb moved.node number ≡ b → (newer : Past) → cond b (moved.event ∷ own number course) (own number course) ≡ newer ++ event ∷ older
        → ((newer : Past) (event : Event) (older : Past) → own number course ≡ newer ++ event ∷ older
        → (position : ℕ) × Stands number course newer event older position)
        → (position : ℕ) × Stands number (moved ∷ course) newer event older position
    on true is [] parts rest =
        let event_same : moved.event ≡ event = cc in
        let older_same : own number course ≡ older = cc in (
          length course,
          record {
            moved = moved;
            later = [];
            parts = ap (λ it. moved ∷ it) (sym (before_last moved course));
            count = ap length (before_last moved course);
            by = grind (arith, nat_tests);
            event_is = event_same;
            newer_is = refl;
            older_is = ap (own number) (before_last moved course) ∙ older_same;
          },
        )
    on true is (first ∷ newer) parts rest =
        let first_same : moved.event ≡ first = cc in
        let rest_same : own number course ≡ newer ++ event ∷ older = cc in
        more newer (first ∷ newer) (ap (λ it. cond it (moved.event ∷ []) [] ++ newer) is ∙ ap (λ it. it ∷ newer) first_same) (rest newer event older rest_same)
    on false is newer parts rest = more newer newer (ap (λ it. cond it (moved.event ∷ []) [] ++ newer) is) (rest newer event older parts)

-- from the position to the past
pub stands_at : (number : ℕ) (course : Course) (position : ℕ) (event : Event) → Happens course number position event
    → (newer : Past) × Stands number course newer event (own number (before course position)) position
stands_at number course position event happens =
    let split = at_splits course position (happens.moved) (happens.is) in (
      own number (split.later),
      record {
        moved = happens.moved;
        later = split.later;
        parts = split.parts;
        count = split.count;
        by = happens.by;
        event_is = happens.event_is;
        newer_is = refl;
        older_is = refl;
      },
    )

module _ (number : ℕ) (course : Course) (newer : Past) (event : Event) (older : Past) (position : ℕ)
    (it : Stands number course newer event older position) where
  -- the parts of the past
  pub past_parts : own number course ≡ newer ++ event ∷ older
  past_parts =
      ap (own number) (it.parts) ∙ own_more number (it.later) (it.moved ∷ before course position)
      ∙ ap (λ back. own number (it.later) ++ back) (own_first number (it.moved) (before course position) (it.by))
      ∙ ap (λ front. front ++ it.moved.event ∷ own number (before course position)) (it.newer_is)
      ∙ ap (λ one. newer ++ one ∷ own number (before course position)) (it.event_is)
      ∙ ap (λ back. newer ++ event ∷ back) (it.older_is)

  pub is_before : position < length course
  is_before =
      let all = ap length (it.parts) in
      let sum = length-append (it.later) (it.moved ∷ before course position) in let count = it.count in omega (arith, all, sum, count)

  pub is_there : at course position ≡ Some (it.moved)
  is_there =
      let count = it.count in
      let less : position < length (it.moved ∷ before course position) = omega (arith, count) in
      let here : at (it.moved ∷ before course position) position ≡ Some (it.moved) =
      subst (λ place. at (it.moved ∷ before course position) place ≡ Some (it.moved)) count (at_last (it.moved) (before course position)) in
      ap (λ all. at all position) (it.parts) ∙ at_behind (it.later) (it.moved ∷ before course position) position less ∙ here

  pub happens_there : Happens course number position event
  happens_there = record { moved = it.moved; is = is_there; by = it.by; event_is = it.event_is }

  -- nothing such is newer in the past, so nothing such stands behind the position
  pub none_behind : (such : Event → Bool) → list_any such newer ≡ false → NoneFrom course number such (suc position)
  none_behind such none =
      let rest = it.moved ∷ before course position in
      let count : length rest ≡ suc position = ap suc (it.count) in
      let all = none_later number such (it.later) rest (subst (λ past. list_any such past ≡ false) (sym (it.newer_is)) none) in
      subst (λ whole. NoneFrom whole number such (suc position)) (sym (it.parts)) (subst (NoneFrom (it.later ++ rest) number such) count all)

  pub none_newer : (such : Event → Bool) → NoneFrom course number such (suc position) → list_any such newer ≡ false
  none_newer such none =
      let rest = it.moved ∷ before course position in
      let count : length rest ≡ suc position = ap suc (it.count) in
      subst (λ past. list_any such past ≡ false) (it.newer_is)
      (later_none number such (it.later) rest
      (subst (NoneFrom (it.later ++ rest) number such) (sym count) (subst (λ whole. NoneFrom whole number such (suc position)) (it.parts) none)))
