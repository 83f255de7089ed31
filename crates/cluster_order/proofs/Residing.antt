-- Residence, arrivals and cached words, as what stands at positions.
use Rattle.std.proofs.Common.{◌≡◌, ℕ, ℤ, suc, ◌<◌, ◌≤◌, List, [], ◌∷◌, ◌++◌, Option, Some, None, Bool, true, false, cond, ◌||◌, eqb, length, is_some, refl, sym, ◌∙◌, ap, subst, arith}
use Rattle.std.proofs.lemmas.Bool.Decides.{nat_tests}
use Rattle.std.specs.List.{list_any}
use Rattle.page_messages.specs.declared.log.Item.TheVariants as item
use Rattle.cluster_rules.specs.Walking.{given, since}
use Rattle.cluster_rules.specs.Turns.{WholeTurn, Event, Did, Past}
use Rattle.cluster_rules.specs.Node.{page_of}
use Rattle.cluster_rules.specs.Cache.{brings, arrives, drops, written, writes, is_resident, stay, cached}
use Rattle.cluster_rules.specs.Written.{Arrival}
use Rattle.cluster_rules.specs.Positions.{Moved, Course, course_of, own, at, before}
use Rattle.cluster_rules.specs.Runs.{Cluster, IsLawful, node_at}
use Rattle.cluster_rules.proofs.Backward.{given_none}
use Rattle.cluster_rules.proofs.AsWritten.{resident_since, stay_is, brought_is}
use Rattle.backer_order.specs.Log as log
use Rattle.backer_order.specs.Moments.{IsWrite, IsArrival, Resident, LastWrite, NoWrite}
use Rattle.cluster_order.specs.Reading.{words_of}
use Rattle.cluster_order.proofs.Growing.{within, at_behind, at_last}
use Rattle.cluster_order.proofs.Between.{NoneFrom, later_none, Stands, stands, stands_at, past_parts, is_before, happens_there, none_behind, none_newer}
use Rattle.cluster_order.proofs.Messages.{length_before, happens_before, happened_before, none_between, none_from}
use Rattle.cluster_order.proofs.Accesses.{ev, drop_in, drop_at, drop_there, write_at, wrote_there, written_own, arrived_at, arrival_at, arrived_there, arrival_there}

-- ---- what the latest gives, by positions

module _ {B : Type 0} (number : ℕ) (by : Event → Option B) where
  abbrev gives : Event → Bool
  gives event = is_some (by event)

  none_given : (event : Event) → is_some (by event) ≡ false → by event ≡ None
  none_given event none = on (by event) refl none
    where
      on : (option : Option B) → by event ≡ option → is_some option ≡ false → by event ≡ None
      on None is none = is
      on (Some value) is none = absurd (cc)

  -- the latest behind a place of a course that gives something stands at this position
  pub given_from : (later rest : Course) (position : ℕ) (moved : Moved) (value : B) → at (later ++ rest) position ≡ Some moved → length rest ≤ position
      → moved.node ≡ number → by moved.event ≡ Some value
      → NoneFrom (later ++ rest) number gives (suc position) → given by (own number later) ≡ Some value
  given_from [] rest position moved value found start mine gave none = let inside = within rest position moved found in absurd (omega (arith, start, inside))
  given_from (first ∷ later) rest position moved value found start mine gave none =
      on (eqb position (length (later ++ rest))) refl found (λ here. given_from later rest position moved value here start mine gave (none_rest none))
    where
      none_rest : NoneFrom ((first ∷ later) ++ rest) number gives (suc position) → NoneFrom (later ++ rest) number gives (suc position)
      none_rest none =
          λ i other behind here its. none i other behind (at_behind (first ∷ []) (later ++ rest) i (within (later ++ rest) i other here) ∙ here) its

      skip : (b : Bool) → eqb first.node number ≡ b → position < length (later ++ rest) → given by (own number later) ≡ Some value
          → given by (cond b (first.event ∷ own number later) (own number later)) ≡ Some value
      skip true is less before =
          let its : first.node ≡ number = grind (arith, nat_tests) in
          let not : gives first.event ≡ false = none (length (later ++ rest)) first (omega (arith, less)) (at_last first (later ++ rest)) its in
          let gone : by first.event ≡ None = none_given first.event not in
          rw gone before
      skip false is less before = before

      on : (b : Bool) → eqb position (length (later ++ rest)) ≡ b → cond b (Some first) (at (later ++ rest) position) ≡ Some moved
          → (at (later ++ rest) position ≡ Some moved → given by (own number later) ≡ Some value) → given by (own number (first ∷ later)) ≡ Some value
      on true is here before =
          let same : first ≡ moved = cc in
          let its : eqb first.node number ≡ true = let node_is : first.node ≡ number = ap (λ it. it.node) same ∙ mine in grind (arith, nat_tests) in
          let gave_first : by first.event ≡ Some value = ap (λ it. by it.event) same ∙ gave in
          rw (its, gave_first) refl
      on false is here before = skip (eqb first.node number) refl (within (later ++ rest) position moved here) (before here)

  pub given_nowhere : (later rest : Course) → NoneFrom (later ++ rest) number gives (length rest) → given by (own number later) ≡ None
  given_nowhere later rest none = given_none by (own number later) (later_none number gives later rest none)

-- ---- residence

since_front_none : {A : Type 0} (is : A → Bool) (newer : List A) (event : A) (older : List A) → list_any is newer ≡ false → is event ≡ false
    → since is (newer ++ event ∷ older) ≡ newer ++ event ∷ since is older
since_front_none is [] event older none not = rw not refl
since_front_none is (first ∷ newer) event older none not = on (is first) refl none (λ rest. since_front_none is newer event older rest not)
  where
    on : (b : Bool) → is first ≡ b → b || list_any is newer ≡ false
        → (list_any is newer ≡ false → since is (newer ++ event ∷ older) ≡ newer ++ event ∷ since is older)
        → cond b [] (first ∷ since is (newer ++ event ∷ older)) ≡ first ∷ (newer ++ event ∷ since is older)
    on true such none rest = absurd (cc)
    on false such none rest = ap (λ it. first ∷ it) (rest none)

any_in : {A : Type 0} (is : A → Bool) (newer : List A) (event : A) (older : List A) → is event ≡ true → list_any is (newer ++ event ∷ older) ≡ true
any_in is [] event older such = rw such refl
any_in is (first ∷ newer) event older such = on (is first) (any_in is newer event older such)
  where
    on : (b : Bool) → list_any is (newer ++ event ∷ older) ≡ true → b || list_any is (newer ++ event ∷ older) ≡ true
    on true any = refl
    on false any = any

arrival_is_no_drop : (g : ℕ) (words : List ℤ) (event : Event) → brings g event ≡ Some words → drops g event ≡ false
arrival_is_no_drop g words event brought = on (drops g event) refl
  where
    on : (b : Bool) → drops g event ≡ b → drops g event ≡ false
    on true is = let none : brings g (Did (item.Drop g)) ≡ Some words = subst (λ it. brings g it ≡ Some words) (drop_in g event is) brought in absurd (cc)
    on false is = is

pub arrival_resident : (g : ℕ) (past : Past) (words : List ℤ) → Arrival g past words → is_resident g past ≡ true
arrival_resident g past words arrival =
    let split : since (drops g) past ≡ arrival.newer ++ arrival.event ∷ since (drops g) (arrival.older) =
    ap (since (drops g)) (arrival.parts) ∙ since_front_none (drops g) (arrival.newer) (arrival.event) (arrival.older) (arrival.kept)
    (arrival_is_no_drop g words (arrival.event) (arrival.brought)) in
    ap (list_any (arrives g)) split ∙ any_in (arrives g) (arrival.newer) (arrival.event) (since (drops g) (arrival.older)) (ap is_some (arrival.brought))

module _ (cluster : Cluster) (turns : List WholeTurn) (lawful : IsLawful cluster turns) (position : ℕ) (moved : Moved)
    (found : at (course_of turns) position ≡ Some moved) where
  abbrev front : Course
  front = before (course_of turns) position

  -- The page is resident since the arrival at this position.
  pub record Since (p g arrival : ℕ) (list : List ℤ) : Type 0 where
    pub past : Arrival g (own p front) list
    pub there : Stands p front (past.newer) (past.event) (past.older) arrival
    pub less : arrival < position

  pub residing : (p g arrival : ℕ) (list : List ℤ) → Since p g arrival list → Resident (ev cluster turns lawful) p g position arrival (words_of cluster list)
  residing p g arrival list it =
      let here = happens_there p front (it.past.newer) (it.past.event) (it.past.older) arrival (it.there) in
      let there = happened_before (course_of turns) position moved found p arrival (it.past.event) here in
      record {
        before = it.less;
        arrives = arrived_at cluster turns lawful p g arrival list (it.past.event) there (it.past.brought);
        kept =
            none_between (course_of turns) position moved found p (drops g) (λ j. ev cluster turns lawful j ≡ log.Drop p g) arrival
            (λ i. drop_there cluster turns lawful p g i)
            (none_behind p front (it.past.newer) (it.past.event) (it.past.older) arrival (it.there) (drops g) (it.past.kept));
        last =
            none_between (course_of turns) position moved found p (arrives g) (IsArrival (ev cluster turns lawful) p g) arrival
            (λ i. arrival_there cluster turns lawful p g i)
            (none_behind p front (it.past.newer) (it.past.event) (it.past.older) arrival (it.there) (arrives g) (it.past.last));
      }

  pub resident_at : (p g : ℕ) → is_resident g (own p front) ≡ true → (list : List ℤ) × (arrival : ℕ) × Since p g arrival list
  resident_at p g resident =
      let since = resident_since g (own p front) resident in
      let arrival = since.1 in
      let there = stands p front (arrival.newer) (arrival.event) (arrival.older) (arrival.parts) in
      let less : there.0 < position =
      let inside = is_before p front (arrival.newer) (arrival.event) (arrival.older) (there.0) (there.1) in
      let count = length_before (course_of turns) position moved found in omega (arith, inside, count) in
      (since.0, there.0, record { past = arrival; there = there.1; less = less })

  pub resided : (p g arrival : ℕ) (words : ℕ → ℤ) → Resident (ev cluster turns lawful) p g position arrival words
      → (list : List ℤ) × Since p g arrival list × (words ≡ words_of cluster list)
  resided p g arrival words resident =
      let came = arrived_there cluster turns lawful p g arrival words (resident.arrives) in
      let list = came.0 in
      let event = came.1 in
      let here = happens_before (course_of turns) position moved found p arrival event (resident.before) (came.2) in
      let there = stands_at p front arrival event here in (
        list,
        record {
          past = record {
            newer = there.0;
            older = own p (before front arrival);
            event = event;
            parts = past_parts p front (there.0) event (own p (before front arrival)) arrival (there.1);
            brought = came.3;
            kept = none_newer p front (there.0) event (own p (before front arrival)) arrival (there.1) (drops g)
                (none_from (course_of turns) position moved found p (drops g) (λ j. ev cluster turns lawful j ≡ log.Drop p g) arrival
                (λ i other happens is. drop_at cluster turns lawful p g i other happens is) (resident.kept));
            last = none_newer p front (there.0) event (own p (before front arrival)) arrival (there.1) (arrives g)
                (none_from (course_of turns) position moved found p (arrives g) (IsArrival (ev cluster turns lawful) p g) arrival
                (λ i other happens is. arrival_at cluster turns lawful p g i other happens is) (resident.last));
          };
          there = there.1;
          less = resident.before;
        },
        came.4,
      )

  -- ---- cached words

  pub staying : (p g arrival : ℕ) (list : List ℤ) (it : Since p g arrival list) → stay g (own p front) ≡ own p (it.there.later)
  staying p g arrival list it = stay_is g (own p front) list (it.past) ∙ sym (it.there.newer_is)

  pub cached_last : (p w arrival write : ℕ) (value : ℤ) (list : List ℤ) → Since p (page_of (node_at cluster p) w) arrival list
      → LastWrite (ev cluster turns lawful) p w arrival position write value
      → cached (node_at cluster p) w (own p front) ≡ value
  cached_last p w arrival write value list it last =
      let wrote = wrote_there cluster turns lawful p w write value (last.writes) in
      let here = happens_before (course_of turns) position moved found p write _ (last.before) (wrote.2) in
      let rest = it.there.moved ∷ before front arrival in
      let count : length rest ≡ suc arrival = ap suc (it.there.count) in
      let none = none_from (course_of turns) position moved found p (writes w) (IsWrite (ev cluster turns lawful) p w) write
      (λ i other happens is. write_at cluster turns lawful p w i other happens is) (last.none) in
      let is : given (written w) (own p (it.there.later)) ≡ Some value =
      given_from p (written w) (it.there.later) rest write (here.moved) value
      (subst (λ whole. at whole write ≡ Some (here.moved)) (it.there.parts) (here.is))
      (let after = last.after in omega (arith, count, after))
      (here.by)
      (ap (written w) (here.event_is) ∙ written_own cluster turns lawful w value (wrote.0) (wrote.1))
      (subst (λ whole. NoneFrom whole p (writes w) (suc write)) (it.there.parts) none) in
      rw (staying p (page_of (node_at cluster p) w) arrival list it, is) refl

  pub cached_first : (p w arrival : ℕ) (list : List ℤ) → Since p (page_of (node_at cluster p) w) arrival list
      → NoWrite (ev cluster turns lawful) p w arrival position
      → cached (node_at cluster p) w (own p front) ≡ words_of cluster list w
  cached_first p w arrival list it none_written =
      let rest = it.there.moved ∷ before front arrival in
      let count : length rest ≡ suc arrival = ap suc (it.there.count) in
      let none = none_from (course_of turns) position moved found p (writes w) (IsWrite (ev cluster turns lawful) p w) arrival
      (λ i other happens is. write_at cluster turns lawful p w i other happens is) none_written in
      let is : given (written w) (own p (it.there.later)) ≡ None =
      given_nowhere p (written w) (it.there.later) rest
      (subst (NoneFrom (it.there.later ++ rest) p (writes w)) (sym count) (subst (λ whole. NoneFrom whole p (writes w) (suc arrival)) (it.there.parts) none)) in
      rw (staying p (page_of (node_at cluster p) w) arrival list it, is, brought_is (page_of (node_at cluster p) w) (own p front) list (it.past)) refl
