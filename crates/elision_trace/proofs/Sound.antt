-- A sound trace stays so with one item more that answers what its frame wants.
use Rattle.std.proofs.Common.{◌≡◌, ◌≢◌, ℕ, suc, ◌<◌, ◌≤◌, ◌⊎◌, inl, inr, ℤ, true, Option, Some, [], refl, sym, ◌∙◌, ap, subst, arith}
use Rattle.backer_order.proofs.Search.{Less3, Same3, More3, compare}
use Rattle.backer_order.specs.Edges.{IsOn}
use Rattle.backer_order.specs.Log.{main_id, Act, Read, Write, Add, Print, Spawn, Sync, Event, Nothing, Acts, Tick}
use Rattle.cilk_meaning.specs.Wants as wanted
use Rattle.cilk_meaning.specs.Wants.{Want, Asks, Returns}
use Rattle.determinacy.proofs.Rows.{by_acts, by_one, born_more}
use Rattle.determinacy.specs.Replies.{Instance, Trace, by, children, want_at, Answers, SpawnedBefore, Born, Obeys}
use Rattle.elision_trace.proofs.Extending.{child_spawned, Extends, up_to, block_same, want_same}
use Rattle.page_messages.specs.declared.closure.FrameId.{FrameId}
use Rattle.span_tree.specs.Program.{Starts}

-- what a trace obeys besides that what returns has no children, with nothing from `now` on
pub record Sound (starts : Starts) (main : ℕ) (trace : Trace) (now : ℕ) : Type 0 where
  pub past : (at : ℕ) → now ≤ at → trace.events at ≡ Nothing
  pub main_is : trace.instance main_id ≡ record { depth = 0; procedure = main; arguments = [] }
  pub wants : (at : ℕ) (frame : FrameId) → by frame (trace.events at) ≡ true → Answers trace (trace.events at) (want_at starts trace at frame)
  pub deeper : (at node : ℕ) (frame child : FrameId) → trace.events at ≡ Acts node frame (Spawn child) →
      (trace.instance child).depth ≡ suc (trace.instance frame).depth
  pub fresh : (at again node other : ℕ) (frame second child : FrameId) → trace.events at ≡ Acts node frame (Spawn child) →
      trace.events again ≡ Acts other second (Spawn child) → at ≡ again
  pub not_main : (at node : ℕ) (frame child : FrameId) → trace.events at ≡ Acts node frame (Spawn child) → child ≢ main_id
  pub born : (at : ℕ) (frame : FrameId) → by frame (trace.events at) ≡ true → Born trace.events at frame
  pub joined : (at node : ℕ) (frame child : FrameId) → trace.events at ≡ Acts node frame Sync → IsOn child (children trace.events at frame) →
      (value : ℤ) × (want_at starts trace at child ≡ Some (Returns value))

-- it goes on to `now` as before, and has this event there and nothing behind it
pub record OneMore (trace more : Trace) (now : ℕ) (event : Event) : Type 0 where
  pub extends : Extends trace more now
  pub here : more.events now ≡ event
  pub past : (at : ℕ) → suc now ≤ at → more.events at ≡ Nothing
  pub main_is : more.instance main_id ≡ trace.instance main_id

-- the event is an item of this frame, as the rules ask
pub record Allowed (starts : Starts) (trace more : Trace) (now : ℕ) (event : Event) (frame : FrameId) : Type 0 where
  pub is : by frame event ≡ true
  pub born : Born trace.events now frame
  pub answers : Answers more event (want_at starts trace now frame)
  pub joined : (node : ℕ) (parent child : FrameId) → event ≡ Acts node parent Sync → IsOn child (children trace.events now parent) →
      (value : ℤ) × (want_at starts trace now child ≡ Some (Returns value))
  pub deeper : (node : ℕ) (parent child : FrameId) → event ≡ Acts node parent (Spawn child) →
      (more.instance child).depth ≡ suc (trace.instance parent).depth
  pub fresh : (node : ℕ) (parent child : FrameId) → event ≡ Acts node parent (Spawn child) → SpawnedBefore trace.events now child → ⊥
  pub not_main : (node : ℕ) (parent child : FrameId) → event ≡ Acts node parent (Spawn child) → child ≢ main_id

-- what a spawn asks for, as the trace knows the child
abbrev spawns : Option ℕ → Instance → Option Want
spawns target instance = Some (Asks (wanted.Spawn target instance.procedure instance.arguments))

-- an item answers the same want where its child is the same
answers_on : (trace more : Trace) (event : Event) (want : Option Want) →
    ((node : ℕ) (parent child : FrameId) → event ≡ Acts node parent (Spawn child)
    → (more.instance child ≡ trace.instance child) × (more.target child ≡ trace.target child)) →
    Answers trace event want → Answers more event want
answers_on trace more (Acts node frame (Spawn child)) want same answers =
    let both = same node frame child refl in
    answers ∙ ap (λ i. spawns i (trace.instance child)) (sym both.1) ∙ ap (λ i. spawns (more.target child) i) (sym both.0)
answers_on trace more (Acts node frame Sync) want same answers = answers
answers_on trace more (Acts node frame (Read word value)) want same answers = answers
answers_on trace more (Acts node frame (Write word value)) want same answers = answers
answers_on trace more (Acts node frame (Add word old addend)) want same answers = answers
answers_on trace more (Acts node frame (Print value)) want same answers = answers
answers_on trace more (Tick node frame) want same answers = answers
answers_on trace more event want same answers = absurd answers

not_nothing_by : (frame : FrameId) → by frame Nothing ≡ true → ⊥
unfolding by
not_nothing_by frame is = cc

not_nothing_acts : (node : ℕ) (frame : FrameId) (act : Act) → Nothing ≡ Acts node frame act → ⊥
not_nothing_acts node frame act is = cc

module _ (starts : Starts) (main : ℕ) (trace more : Trace) (now : ℕ) (event : Event) (sound : Sound starts main trace now)
    (one : OneMore trace more now event) where
  pub instance_born : (frame : FrameId) → Born trace.events now frame → more.instance frame ≡ trace.instance frame
  instance_born frame (inl of_main) = ap (λ i. more.instance i) of_main ∙ one.main_is ∙ ap (λ i. trace.instance i) (sym of_main)
  instance_born frame (inr spawned) = one.extends.instance frame spawned

  -- what stands at a position stood there, or is the new event
  abbrev pub Stood : ℕ → Event → Type 0
  Stood at is = ((at < now) × (trace.events at ≡ is)) ⊎ ((at ≡ now) × (event ≡ is))

  stood : (at : ℕ) → (more.events at ≡ Nothing) ⊎ Stood at (more.events at)
  stood at = elim (compare at now) [
    | Less3 l ↦ inr (inl (l, sym (one.extends.events at l)))
    | Same3 same ↦ inr (inr (same, sym (ap (λ i. more.events i) same ∙ one.here)))
    | More3 l ↦ inl (one.past at (omega arith))
  ]

  pub acts_stood : (at node : ℕ) (frame : FrameId) (act : Act) → more.events at ≡ Acts node frame act → Stood at (Acts node frame act)
  acts_stood at node frame act is = elim (stood at) [
    | inl none ↦ absurd (not_nothing_acts node frame act (sym none ∙ is))
    | inr there ↦ subst (λ i. Stood at i) is there
  ]

  born_on : (at : ℕ) (frame : FrameId) → at ≤ now → Born trace.events at frame → Born more.events at frame
  born_on at frame inside (inl of_main) = inl of_main
  born_on at frame inside (inr born) =
      let before = born.before in
      inr (record { at = born.at; node = born.node; parent = born.parent; before = before; is = one.extends.events born.at (omega arith) ∙ born.is })

  wants_before : (at : ℕ) (frame : FrameId) → at < now → Born trace.events at frame → want_at starts more at frame ≡ want_at starts trace at frame
  wants_before at frame before born =
      want_same starts trace more at (up_to trace more now at (omega arith) one.extends) frame
      (instance_born frame (born_more trace at now frame (omega arith) born))

  -- a child of the block wants the same
  pub child_wants : (at : ℕ) (frame child : FrameId) → at ≤ now → IsOn child (children trace.events at frame) →
      want_at starts more at child ≡ want_at starts trace at child
  child_wants at frame child inside on =
      let born : Born trace.events at child = inr (child_spawned trace at frame child on) in
      want_same starts trace more at (up_to trace more now at inside one.extends) child (instance_born child (born_more trace at now child inside born))

  wants_old : (at : ℕ) (frame : FrameId) → at < now → by frame (trace.events at) ≡ true → Answers more (trace.events at) (want_at starts more at frame)
  wants_old at frame before is =
      subst (λ i. Answers more (trace.events at) i) (sym (wants_before at frame before (sound.born at frame is)))
      (answers_on trace more (trace.events at) (want_at starts trace at frame)
      (λ node parent child spawns. (let spawned : SpawnedBefore trace.events now child =
      record { at = at; node = node; parent = parent; before = before; is = spawns } in
      (one.extends.instance child spawned, one.extends.target child spawned)))
      (sound.wants at frame is))

  module _ (frame : FrameId) (allowed : Allowed starts trace more now event frame) where
    -- an item is an old one, or the new one of this frame
    item_or : (at : ℕ) (actor : FrameId) → by actor (more.events at) ≡ true →
        ((at < now) × (by actor (trace.events at) ≡ true)) ⊎ ((at ≡ now) × (actor ≡ frame))
    item_or at actor is = elim (stood at) [
      | inl none ↦ absurd (not_nothing_by actor (ap (by actor) (sym none) ∙ is))
      | inr there ↦ elim there [
        | inl old ↦ inl (old.0, ap (by actor) old.1 ∙ is)
        | inr new ↦ inr (new.0, by_one actor frame event (ap (by actor) new.1 ∙ is) allowed.is)
      ]
    ]

    wants : (at : ℕ) (actor : FrameId) → by actor (more.events at) ≡ true → Answers more (more.events at) (want_at starts more at actor)
    wants at actor is = elim (item_or at actor is) [
      | inl old ↦ subst (λ i. Answers more i (want_at starts more at actor)) (sym (one.extends.events at old.0)) (wants_old at actor old.0 old.1)
      | inr new ↦
          let want : want_at starts more now frame ≡ want_at starts trace now frame =
          want_same starts trace more now one.extends frame (instance_born frame allowed.born) in
          let answers : Answers more event (want_at starts more now frame) = subst (λ i. Answers more event i) (sym want) allowed.answers in
          let there : Answers more (more.events now) (want_at starts more now frame) =
          subst (λ i. Answers more i (want_at starts more now frame)) (sym one.here) answers in
          let actor_there : Answers more (more.events now) (want_at starts more now actor) =
          subst (λ i. Answers more (more.events now) (want_at starts more now i)) (sym new.1) there in
          subst (λ i. Answers more (more.events i) (want_at starts more i actor)) (sym new.0) actor_there
    ]

    pub acts_by : (node : ℕ) (actor : FrameId) (act : Act) → event ≡ Acts node actor act → actor ≡ frame
    acts_by node actor act is = by_one actor frame event (by_acts node actor act event is) allowed.is

    deeper : (at node : ℕ) (actor child : FrameId) → more.events at ≡ Acts node actor (Spawn child) →
        (more.instance child).depth ≡ suc (more.instance actor).depth
    deeper at node actor child is = elim (acts_stood at node actor (Spawn child) is) [
      | inl old ↦
          let spawned : SpawnedBefore trace.events now child = record { at = at; node = node; parent = actor; before = old.0; is = old.1 } in
          let born = born_more trace at now actor (let before = old.0 in omega arith)
          (sound.born at actor (by_acts node actor (Spawn child) (trace.events at) old.1)) in
          ap (λ i. i.depth) (one.extends.instance child spawned) ∙ sound.deeper at node actor child old.1
          ∙ ap (λ i. suc (i.depth)) (sym (instance_born actor born))
      | inr new ↦
          let born : Born trace.events now actor = subst (λ i. Born trace.events now i) (sym (acts_by node actor (Spawn child) new.1)) allowed.born in
          allowed.deeper node actor child new.1 ∙ ap (λ i. suc (i.depth)) (sym (instance_born actor born))
    ]

    fresh : (at again node other : ℕ) (actor second child : FrameId) → more.events at ≡ Acts node actor (Spawn child) →
        more.events again ≡ Acts other second (Spawn child) → at ≡ again
    fresh at again node other actor second child is is_again = elim (acts_stood at node actor (Spawn child) is) [
      | inl old ↦ elim (acts_stood again other second (Spawn child) is_again) [
        | inl older ↦ sound.fresh at again node other actor second child old.1 older.1
        | inr newer ↦ absurd (allowed.fresh other second child newer.1 (record { at = at; node = node; parent = actor; before = old.0; is = old.1 }))
      ]
      | inr new ↦ elim (acts_stood again other second (Spawn child) is_again) [
        | inl older ↦ absurd (allowed.fresh node actor child new.1 (record { at = again; node = other; parent = second; before = older.0; is = older.1 }))
        | inr newer ↦ new.0 ∙ sym newer.0
      ]
    ]

    not_main : (at node : ℕ) (actor child : FrameId) → more.events at ≡ Acts node actor (Spawn child) → child ≢ main_id
    not_main at node actor child is = elim (acts_stood at node actor (Spawn child) is) [
      | inl old ↦ sound.not_main at node actor child old.1
      | inr new ↦ allowed.not_main node actor child new.1
    ]

    born : (at : ℕ) (actor : FrameId) → by actor (more.events at) ≡ true → Born more.events at actor
    born at actor is = elim (item_or at actor is) [
      | inl old ↦ born_on at actor (let before = old.0 in omega arith) (sound.born at actor old.1)
      | inr new ↦
          let here : Born more.events now frame = born_on now frame (omega arith) allowed.born in
          let actor_here : Born more.events now actor = subst (λ i. Born more.events now i) (sym new.1) here in
          subst (λ i. Born more.events i actor) (sym new.0) actor_here
    ]

    joined_there : (at : ℕ) (actor child : FrameId) → at ≤ now → IsOn child (children more.events at actor) →
        (IsOn child (children trace.events at actor) → (value : ℤ) × (want_at starts trace at child ≡ Some (Returns value))) →
        (value : ℤ) × (want_at starts more at child ≡ Some (Returns value))
    joined_there at actor child inside on returned =
        let there : IsOn child (children trace.events at actor) =
        subst (λ i. IsOn child i) (block_same starts trace more at (up_to trace more now at inside one.extends) actor) on in
        let value = returned there in (value.0, child_wants at actor child inside there ∙ value.1)

    joined : (at node : ℕ) (actor child : FrameId) → more.events at ≡ Acts node actor Sync → IsOn child (children more.events at actor) →
        (value : ℤ) × (want_at starts more at child ≡ Some (Returns value))
    joined at node actor child is on = elim (acts_stood at node actor Sync is) [
      | inl old ↦ joined_there at actor child (let before = old.0 in omega arith) on (sound.joined at node actor child old.1)
      | inr new ↦
          let same = new.0 in
          joined_there at actor child (omega arith) on
          (subst (λ i. IsOn child (children trace.events i actor) → (value : ℤ) × (want_at starts trace i child ≡ Some (Returns value))) (sym same)
          (allowed.joined node actor child new.1))
    ]

    -- so the longer trace is sound
    pub sound_more : Sound starts main more (suc now)
    sound_more = record {
      past = one.past;
      main_is = one.main_is ∙ sound.main_is;
      wants = wants;
      deeper = deeper;
      fresh = fresh;
      not_main = not_main;
      born = born;
      joined = joined;
    }

-- a sound trace is obeyed, where what has returned has no children
pub obeys : (starts : Starts) (main : ℕ) (trace : Trace) (now : ℕ) → Sound starts main trace now →
    ((now : ℕ) (frame child : FrameId) (value : ℤ) → want_at starts trace now frame ≡ Some (Returns value) → IsOn child (children trace.events now frame) → ⊥) →
    Obeys starts main trace
obeys starts main trace now sound none = record {
  main_is = sound.main_is;
  wants = sound.wants;
  deeper = sound.deeper;
  fresh = sound.fresh;
  not_main = sound.not_main;
  born = sound.born;
  joined = sound.joined;
  no_children = none;
}
