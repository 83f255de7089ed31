-- The accesses of a word in a course are those among its events. An add happens at the home, and is the access of the node that it serves.
use Rattle.std.proofs.Common.{◌≡◌, inl, inr, ℕ, ℤ, List, Some, Bool, true, false, ◌||◌, eqb, refl, sym, ◌∙◌, ap, subst, arith}
use Rattle.std.proofs.lemmas.Bool.Decides.{nat_tests}
use Rattle.page_messages.specs.declared.closure.FrameId.{FrameId}
use Rattle.page_messages.specs.declared.log.LoggedAct.TheVariants as act
use Rattle.page_messages.specs.declared.log.Item.TheVariants as item
use Rattle.cluster_rules.specs.Turns.{WholeTurn, Event, Did, Sent, Took, Ended}
use Rattle.cluster_rules.specs.Home.{owed_adds}
use Rattle.cluster_rules.specs.Positions.{course_of, Course, own, before, Happens}
use Rattle.cluster_rules.specs.Moments.{touches, adds}
use Rattle.cluster_rules.specs.Runs.{Cluster, IsLawful}
use Rattle.backer_order.specs.Log as log
use Rattle.backer_order.specs.Moments.{IsTouch, IsAdd, IsAccess}
use Rattle.cluster_order.specs.Reading.{served_for}
use Rattle.cluster_order.proofs.Accesses.{ev, event_there, wrote_there, read_there}
use Rattle.cluster_order.proofs.Caching.{added_there}

-- ---- which events are such

equal : (number other : ℕ) → eqb number other ≡ true → number ≡ other
equal number other is = grind (arith, nat_tests)

itself : (number : ℕ) → eqb number number ≡ true
itself number = grind (arith, nat_tests)

pub write_touches : (word : ℕ) (frame : FrameId) (index : ℕ) (value : ℤ) → touches word (Did (item.Act frame index (act.Write word value))) ≡ true
write_touches word frame index value = itself word

pub read_touches : (word : ℕ) (frame : FrameId) (index : ℕ) (value : ℤ) → touches word (Did (item.Act frame index (act.Read word value))) ≡ true
read_touches word frame index value = itself word

-- a Write or a Read of the word
pub data Touch (word : ℕ) (event : Event) : Type 0 where
  Writes : (frame : FrameId) (index : ℕ) (value : ℤ) → event ≡ Did (item.Act frame index (act.Write word value)) → Touch word event
  Reads : (frame : FrameId) (index : ℕ) (value : ℤ) → event ≡ Did (item.Act frame index (act.Read word value)) → Touch word event

pub touch_in : (word : ℕ) (event : Event) → touches word event ≡ true → Touch word event
touch_in word (Did (item.Act frame index (act.Read other value))) is =
    Reads frame index value (ap (λ it. Did (item.Act frame index (act.Read it value))) (equal other word is))
touch_in word (Did (item.Act frame index (act.Write other value))) is =
    Writes frame index value (ap (λ it. Did (item.Act frame index (act.Write it value))) (equal other word is))
touch_in word (Did (item.Act frame index (act.Print value))) is = absurd (cc)
touch_in word (Did (item.Act frame index (act.Spawn child procedure arguments))) is = absurd (cc)
touch_in word (Did (item.Act frame index act.Sync)) is = absurd (cc)
touch_in word (Did (item.Tick frame)) is = absurd (cc)
touch_in word (Did (item.Drop page)) is = absurd (cc)
touch_in word (Did (item.TakeUp frame)) is = absurd (cc)
touch_in word (Did (item.OwnFetch page words)) is = absurd (cc)
touch_in word (Did (item.OwnReconcile part)) is = absurd (cc)
touch_in word (Did (item.Served frame index other old addend)) is = absurd (cc)
touch_in word (Sent message) is = absurd (cc)
touch_in word (Took message) is = absurd (cc)
touch_in word (Ended end) is = absurd (cc)

pub record AddIn (word : ℕ) (event : Event) : Type 0 where
  pub frame : FrameId
  pub index : ℕ
  pub old : ℤ
  pub addend : ℤ
  pub is : event ≡ Did (item.Served frame index word old addend)

pub add_in : (word : ℕ) (event : Event) → adds word event ≡ true → AddIn word event
add_in word (Did (item.Act frame index act)) is = absurd (cc)
add_in word (Did (item.Tick frame)) is = absurd (cc)
add_in word (Did (item.Drop page)) is = absurd (cc)
add_in word (Did (item.TakeUp frame)) is = absurd (cc)
add_in word (Did (item.OwnFetch page words)) is = absurd (cc)
add_in word (Did (item.OwnReconcile part)) is = absurd (cc)
add_in word (Did (item.Served frame index other old addend)) is =
    record { frame = frame; index = index; old = old; addend = addend; is = ap (λ it. Did (item.Served frame index it old addend)) (equal other word is) }
add_in word (Sent message) is = absurd (cc)
add_in word (Took message) is = absurd (cc)
add_in word (Ended end) is = absurd (cc)

first_so : (one other : Bool) → one ≡ true → one || other ≡ true
first_so true other is = refl
first_so false other is = absurd (cc)

second_so : (one other : Bool) → other ≡ true → one || other ≡ true
second_so true other is = refl
second_so false other is = is

-- one thing stands at a position
pub same_happening : (course : Course) (node other position : ℕ) (event again : Event) → Happens course node position event
    → Happens course other position again → (node ≡ other) × (event ≡ again)
same_happening course node other position event again one two =
    let some : Some (one.moved) ≡ Some (two.moved) = sym (one.is) ∙ two.is in
    let same : one.moved ≡ two.moved = cc in
    (sym (one.by) ∙ ap (λ it. it.node) same ∙ two.by, sym (one.event_is) ∙ ap (λ it. it.event) same ∙ two.event_is)

module _ (cluster : Cluster) (turns : List WholeTurn) (lawful : IsLawful cluster turns) where
  abbrev course : Course
  course = course_of turns

  abbrev events : ℕ → log.Event
  events = ev cluster turns lawful

  -- ---- reads and writes

  pub touch_at : (node word position : ℕ) (event : Event) → Happens course node position event → touches word event ≡ true → IsTouch events node word position
  touch_at node word position event happens is = on (touch_in word event is)
    where
      on : Touch word event → IsTouch events node word position
      on (Writes frame index value same) =
          inl (
            value,
            record {
              frame = frame;
              is = event_there cluster turns lawful node position (Did (item.Act frame index (act.Write word value)))
                  (subst (λ it. Happens course node position it) same happens);
            },
          )
      on (Reads frame index value same) =
          inr (
            value,
            record {
              frame = frame;
              is = event_there cluster turns lawful node position (Did (item.Act frame index (act.Read word value)))
                  (subst (λ it. Happens course node position it) same happens);
            },
          )

  pub touch_there : (node word position : ℕ) → IsTouch events node word position
      → (event : Event) × Happens course node position event × (touches word event ≡ true)
  touch_there node word position (inl (value, wrote)) =
      let it = wrote_there cluster turns lawful node word position value wrote in
      (Did (item.Act (it.0) (it.1) (act.Write word value)), it.2, write_touches word (it.0) (it.1) value)
  touch_there node word position (inr (value, read)) =
      let it = read_there cluster turns lawful node word position value read in
      (Did (item.Act (it.0) (it.1) (act.Read word value)), it.2, read_touches word (it.0) (it.1) value)

  -- ---- adds

  -- for whom the home serves an add at this position
  abbrev pub served_at : ℕ → ℕ → ℕ
  served_at home position = served_for home (owed_adds (own home (before course position)))

  pub add_at : (home word position : ℕ) (event : Event) → Happens course home position event → adds word event ≡ true
      → IsAdd events (served_at home position) word position
  add_at home word position event happens is =
      let it = add_in word event is in (
        it.old,
        record {
          frame = it.frame;
          addend = it.addend;
          is =
              event_there cluster turns lawful home position (Did (item.Served (it.frame) (it.index) word (it.old) (it.addend)))
              (subst (λ one. Happens course home position one) (it.is) happens);
        },
      )

  pub add_there : (owner word position : ℕ) → IsAdd events owner word position
      → (home : ℕ) × (event : Event) × Happens course home position event × (adds word event ≡ true) ×
      (served_at home position ≡ owner)
  add_there owner word position add =
      let it = added_there cluster turns lawful owner (add.1.frame) word (add.0) (add.1.addend) position (add.1.is) in
      (it.0, Did (item.Served (add.1.frame) (it.1) word (add.0) (add.1.addend)), it.2, itself word, it.3)

  -- ---- accesses agree

  -- an access of the word in the course, of which the owner is the node in whose frame it is
  pub record AccessThere (owner word position : ℕ) : Type 0 where
    pub node : ℕ
    pub event : Event
    pub is : Happens course node position event
    pub accesses : (touches word event || adds word event) ≡ true

  pub access_there : (owner word position : ℕ) → IsAccess events owner word position → AccessThere owner word position
  access_there owner word position (inl touch) =
      let it = touch_there owner word position touch in
      record { node = owner; event = it.0; is = it.1; accesses = first_so (touches word (it.0)) (adds word (it.0)) (it.2) }
  access_there owner word position (inr add) =
      let it = add_there owner word position add in
      record { node = it.0; event = it.1; is = it.2; accesses = second_so (touches word (it.1)) (adds word (it.1)) (it.3) }

  pub record AccessAt (node word position : ℕ) (event : Event) : Type 0 where
    pub owner : ℕ
    pub is : IsAccess events owner word position
    pub of_touch : touches word event ≡ true → owner ≡ node
    pub of_add : touches word event ≡ false → owner ≡ served_at node position

  pub access_at : (node word position : ℕ) (event : Event) → Happens course node position event → (touches word event || adds word event) ≡ true
      → AccessAt node word position event
  access_at node word position event happens accesses = on (touches word event) refl accesses
    where
      on : (b : Bool) → touches word event ≡ b → b || adds word event ≡ true → AccessAt node word position event
      on true is any = record { owner = node; is = inl (touch_at node word position event happens is); of_touch = λ so. refl; of_add = λ not. absurd (cc) }
      on false not is =
          record { owner = served_at node position; is = inr (add_at node word position event happens is); of_touch = λ so. absurd (cc); of_add = λ so. refl }
