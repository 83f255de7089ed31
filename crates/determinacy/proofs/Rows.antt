-- What an execution tells its frames, one item more.
use Rattle.std.proofs.Common.{◌≡◌, ℕ, zero, suc, ◌<◌, ◌≤◌, ◌⊎◌, inl, inr, ℤ, Bool, true, false, cond, Some, List, [], ◌∷◌, length, refl, sym, ◌∙◌, ap, subst, arith, rules}
use Rattle.std.specs.Prelude.{◌==◌}
use Rattle.backer_order.proofs.Search.{Less3, Same3, More3, compare}
use Rattle.backer_order.specs.Log.{Act, Read, Write, Add, Print, Spawn, Sync, Event, Nothing, Acts, Tick, Drop, TakeUp, OwnFetch, OwnReconcile, Post, Took, End}
use Rattle.cilk_meaning.specs.Wants.{Deposit, Returns}
use Rattle.cluster_rules.specs.Lives.{same_frame}
use Rattle.determinacy.specs.Replies.{Trace, Reply, by, children_after, children, value_in, deposits, reply_to, want_of, replies, want_at, Answers, Born, Obeys}
use Rattle.page_messages.specs.declared.closure.FrameId.{FrameId}
use Rattle.span_tree.specs.Program.{Starts}
use Rattle.cluster_rules.proofs.Testing.{both_true}

pub when_true : {A : Type 0} (holds : Bool) (yes' other : A) → holds ≡ true → cond holds yes' other ≡ yes'
when_true true yes' other is = refl
when_true false yes' other is = absurd cc

pub when_false : {A : Type 0} (holds : Bool) (yes' other : A) → holds ≡ false → cond holds yes' other ≡ other
when_false true yes' other is = absurd cc
when_false false yes' other is = refl

pub either_bool : (holds : Bool) → (holds ≡ true) ⊎ (holds ≡ false)
either_bool true = inl refl
either_bool false = inr refl

eqb_is : (first second : ℕ) → (first == second) ≡ true → first ≡ second
eqb_is first second is = search (rules, is)

eqb_self : (number : ℕ) → (number == number) ≡ true
eqb_self number = search rules

pub same_is : (first second : FrameId) → same_frame first second ≡ true → first ≡ second
same_is first second is =
    let both = both_true (first.node == second.node) (first.number == second.number) is in
    let node = eqb_is first.node second.node both.0 in
    let number = eqb_is first.number second.number both.1 in
    ap (λ i. record { node = i; number = first.number }) node ∙ ap (λ i. record { node = second.node; number = i }) number

pub same_self : (frame : FrameId) → same_frame frame frame ≡ true
same_self frame = rw (eqb_self frame.node, eqb_self frame.number) refl

-- ---- whose an item is

pub by_acts : (node : ℕ) (frame : FrameId) (act : Act) (event : Event) → event ≡ Acts node frame act → by frame event ≡ true
unfolding by
by_acts node frame act event is = ap (by frame) is ∙ same_self frame

pub by_one : (frame other : FrameId) (event : Event) → by frame event ≡ true → by other event ≡ true → frame ≡ other
unfolding by
by_one frame other (Acts node actor act) first second = sym (same_is actor frame first) ∙ same_is actor other second
by_one frame other (Tick node actor) first second = sym (same_is actor frame first) ∙ same_is actor other second
by_one frame other Nothing first second = absurd cc
by_one frame other (Drop node page) first second = absurd cc
by_one frame other (OwnFetch node page words) first second = absurd cc
by_one frame other (OwnReconcile node part) first second = absurd cc
by_one frame other (TakeUp node actor) first second = absurd cc
by_one frame other (Post node receiver note) first second = absurd cc
by_one frame other (Took node post) first second = absurd cc
by_one frame other (End node) first second = absurd cc

-- ---- one item more

module _ (starts : Starts) (trace : Trace) where
  -- what the children of the frame's block give back
  abbrev pub given : ℕ → FrameId → List Deposit
  given now frame = deposits (λ child. (trace.target child, value_in (want_at starts trace now child))) (children trace.events now frame)

  pub grew : (at : ℕ) (frame : FrameId) → by frame (trace.events at) ≡ true →
      replies starts trace (suc at) frame ≡ reply_to (trace.events at) (given at frame) ∷ replies starts trace at frame
  unfolding replies
  grew at frame is =
      when_true (by frame (trace.events at)) (reply_to (trace.events at) (given at frame) ∷ replies starts trace at frame) (replies starts trace at frame) is

  pub still : (at : ℕ) (frame : FrameId) → by frame (trace.events at) ≡ false → replies starts trace (suc at) frame ≡ replies starts trace at frame
  unfolding replies
  still at frame is =
      when_false (by frame (trace.events at)) (reply_to (trace.events at) (given at frame) ∷ replies starts trace at frame) (replies starts trace at frame) is

pub block_grew : (trace : Trace) (at : ℕ) (frame : FrameId) → by frame (trace.events at) ≡ true →
    children trace.events (suc at) frame ≡ children_after (trace.events at) (children trace.events at frame)
unfolding children
block_grew trace at frame is =
    when_true (by frame (trace.events at)) (children_after (trace.events at) (children trace.events at frame)) (children trace.events at frame) is

pub block_still : (trace : Trace) (at : ℕ) (frame : FrameId) → by frame (trace.events at) ≡ false →
    children trace.events (suc at) frame ≡ children trace.events at frame
unfolding children
block_still trace at frame is =
    when_false (by frame (trace.events at)) (children_after (trace.events at) (children trace.events at frame)) (children trace.events at frame) is

pub not_by : (trace : Trace) (frame : FrameId) (at : ℕ) → (by frame (trace.events at) ≡ true → ⊥) → by frame (trace.events at) ≡ false
not_by trace frame at none = elim (either_bool (by frame (trace.events at))) [ inl is ↦ absurd (none is) | inr is ↦ is ]

-- the frame has no item from the first position up to the second
abbrev pub Quiet : Trace → FrameId → ℕ → ℕ → Type 0
Quiet trace frame from to = (at : ℕ) → from ≤ at → at < to → by frame (trace.events at) ≡ true → ⊥

pub record Item (trace : Trace) (frame : FrameId) (from to : ℕ) : Type 0 where
  pub at : ℕ
  pub after : from ≤ at
  pub before : at < to
  pub is : by frame (trace.events at) ≡ true
  pub quiet : Quiet trace frame from at

longer : (trace : Trace) (frame : FrameId) (from to : ℕ) → Quiet trace frame from to → by frame (trace.events to) ≡ false →
    Quiet trace frame from (suc to)
longer trace frame from to quiet none at after before is = elim (compare at to) [
  | Less3 l ↦ quiet at after l is
  | Same3 same ↦ let here : by frame (trace.events to) ≡ true = subst (λ i. by frame (trace.events i) ≡ true) same is in absurd cc
  | More3 l ↦ absurd (omega arith)
]

item_later : (trace : Trace) (frame : FrameId) (from to : ℕ) → Item trace frame from to → Item trace frame from (suc to)
item_later trace frame from to item =
    record { at = item.at; after = item.after; before = omega (arith, item.before); is = item.is; quiet = item.quiet }

pub first_item : (trace : Trace) (frame : FrameId) (from to : ℕ) → from ≤ to → Item trace frame from to ⊎ Quiet trace frame from to
first_item trace frame from zero inside = inr (λ at after before is. absurd (omega arith))
first_item trace frame from (suc to) inside = elim (compare from (suc to)) [
  | Same3 same ↦ inr (λ at after before is. absurd (omega arith))
  | More3 l ↦ absurd (omega arith)
  | Less3 l ↦ elim (first_item trace frame from to (omega arith)) [
    | inl item ↦ inl (item_later trace frame from to item)
    | inr quiet ↦ elim (either_bool (by frame (trace.events to))) [
      | inl is ↦ inl (record { at = to; after = omega arith; before = omega arith; is = is; quiet = quiet })
      | inr none ↦ inr (longer trace frame from to quiet none)
    ]
  ]
]

module _ (starts : Starts) (trace : Trace) where
  -- the frame was told nothing from the first position to the second, and has the same block
  pub record Unchanged (frame : FrameId) (from to : ℕ) : Type 0 where
    pub told : replies starts trace to frame ≡ replies starts trace from frame
    pub block : children trace.events to frame ≡ children trace.events from frame

  same_place_unchanged : (frame : FrameId) (from to : ℕ) → from ≡ to → Unchanged frame from to
  same_place_unchanged frame from to same = subst (λ i. Unchanged frame from i) same (record { told = refl; block = refl })

  pub unchanged : (frame : FrameId) (from to : ℕ) → from ≤ to → Quiet trace frame from to → Unchanged frame from to
  unchanged frame from zero inside quiet = same_place_unchanged frame from 0 (omega arith)
  unchanged frame from (suc to) inside quiet = elim (compare from (suc to)) [
    | Same3 same ↦ same_place_unchanged frame from (suc to) same
    | More3 l ↦ absurd (omega arith)
    | Less3 l ↦
        let none = not_by trace frame to (quiet to (omega arith) (omega arith)) in
        let before = unchanged frame from to (omega arith) (λ at after up_to is. quiet at after (omega arith) is) in
        record { told = still starts trace to frame none ∙ before.told; block = block_still trace to frame none ∙ before.block }
  ]

  grows_one : (at : ℕ) (frame : FrameId) → length (replies starts trace at frame) ≤ length (replies starts trace (suc at) frame)
  grows_one at frame = elim (either_bool (by frame (trace.events at))) [
    | inl is ↦ let longer' = ap length (grew starts trace at frame is) in omega arith
    | inr none ↦ let same = ap length (still starts trace at frame none) in omega arith
  ]

  pub grows : (frame : FrameId) (from to : ℕ) → from ≤ to → length (replies starts trace from frame) ≤ length (replies starts trace to frame)
  grows frame from zero inside =
      let same : from ≡ 0 = omega arith in
      let lengths = ap (λ i. length (replies starts trace i frame)) same in omega arith
  grows frame from (suc to) inside = elim (compare from (suc to)) [
    | Same3 same ↦ let lengths = ap (λ i. length (replies starts trace i frame)) same in omega arith
    | More3 l ↦ absurd (omega arith)
    | Less3 l ↦ let before = grows frame from to (omega arith) in let one = grows_one to frame in omega arith
  ]

  pub grows_more : (frame : FrameId) (from to : ℕ) → by frame (trace.events from) ≡ true → from < to →
      length (replies starts trace from frame) < length (replies starts trace to frame)
  grows_more frame from to is before =
      let more = grows frame (suc from) to before in
      let one : length (replies starts trace (suc from) frame) ≡ suc (length (replies starts trace from frame)) = ap length (grew starts trace from frame is) in
      omega arith

  -- the replies before an item tell which item of the frame it is
  pub same_place : (frame : FrameId) (at other : ℕ) → by frame (trace.events at) ≡ true → by frame (trace.events other) ≡ true →
      replies starts trace at frame ≡ replies starts trace other frame → at ≡ other
  same_place frame at other first second alike = elim (compare at other) [
    | Same3 same ↦ same
    | Less3 l ↦ let more = grows_more frame at other first l in let lengths = ap length alike in absurd (omega arith)
    | More3 l ↦ let more = grows_more frame other at second l in let lengths = ap length alike in absurd (omega arith)
  ]

  -- the item at which the latest reply was given
  pub record Latest (frame : FrameId) (now : ℕ) (earlier : List Reply) : Type 0 where
    pub at : ℕ
    pub before : at < now
    pub is : by frame (trace.events at) ≡ true
    pub rest : replies starts trace at frame ≡ earlier
    pub whole : replies starts trace (suc at) frame ≡ replies starts trace now frame

  rest_same : (first second : Reply) (firsts seconds : List Reply) → first ∷ firsts ≡ second ∷ seconds → firsts ≡ seconds
  rest_same first second firsts seconds is = cc

  none_told : (frame : FrameId) → replies starts trace 0 frame ≡ []
  unfolding replies
  none_told frame = refl

  pub latest : (frame : FrameId) (now : ℕ) (reply : Reply) (earlier : List Reply) → replies starts trace now frame ≡ reply ∷ earlier → Latest frame now earlier
  latest frame zero reply earlier is = let none = none_told frame in absurd cc
  latest frame (suc now) reply earlier is = elim (either_bool (by frame (trace.events now))) [
    | inl acts ↦ record {
      at = now;
      before = omega arith;
      is = acts;
      whole = refl;
      rest = rest_same (reply_to (trace.events now) (given starts trace now frame)) reply (replies starts trace now frame) earlier
          (sym (grew starts trace now frame acts) ∙ is);
    }
    | inr none ↦
        let before = latest frame now reply earlier (sym (still starts trace now frame none) ∙ is) in
        record {
          at = before.at;
          before = omega (arith, before.before);
          is = before.is;
          rest = before.rest;
          whole = before.whole ∙
              sym (still starts trace now frame none);
        }
  ]

-- ---- what has returned, and what is not yet born

pub answers_no_return : (trace : Trace) (event : Event) (value : ℤ) → Answers trace event (Some (Returns value)) → ⊥
answers_no_return trace (Acts node frame (Read word old)) value is = cc
answers_no_return trace (Acts node frame (Write word new)) value is = cc
answers_no_return trace (Acts node frame (Add word old addend)) value is = cc
answers_no_return trace (Acts node frame (Print new)) value is = cc
answers_no_return trace (Acts node frame (Spawn child)) value is = cc
answers_no_return trace (Acts node frame Sync) value is = cc
answers_no_return trace (Tick node frame) value is = elim is [ inl call ↦ cc | inr turn ↦ cc ]
answers_no_return trace Nothing value is = is
answers_no_return trace (Drop node page) value is = is
answers_no_return trace (OwnFetch node page words) value is = is
answers_no_return trace (OwnReconcile node part) value is = is
answers_no_return trace (TakeUp node frame) value is = is
answers_no_return trace (Post node receiver note) value is = is
answers_no_return trace (Took node post) value is = is
answers_no_return trace (End node) value is = is

module _ (starts : Starts) (main : ℕ) (trace : Trace) (obeys : Obeys starts main trace) where
  pub no_more : (frame : FrameId) (now : ℕ) (value : ℤ) → want_at starts trace now frame ≡ Some (Returns value) → (at : ℕ) → now ≤ at →
      by frame (trace.events at) ≡ true → ⊥
  no_more frame now value returns at after is = elim (first_item trace frame now (suc at) (omega arith)) [
    | inr quiet ↦ quiet at after (omega arith) is
    | inl item ↦
        let told = (unchanged starts trace frame now item.at item.after item.quiet).told in
        let returned : want_at starts trace item.at frame ≡ Some (Returns value) = ap (λ i. want_of starts (trace.instance frame) i) told ∙ returns in
        answers_no_return trace (trace.events item.at) value (subst (λ i. Answers trace (trace.events item.at) i) returned (obeys.wants item.at frame item.is))
  ]

  -- what has returned stays so
  pub settled : (frame : FrameId) (now : ℕ) (value : ℤ) → want_at starts trace now frame ≡ Some (Returns value) → (at : ℕ) → now ≤ at →
      Unchanged starts trace frame now at
  settled frame now value returns at after =
      unchanged starts trace frame now at after (λ i from to is. no_more frame now value returns i from is)

  pub still_returned : (frame : FrameId) (now : ℕ) (value : ℤ) → want_at starts trace now frame ≡ Some (Returns value) → (at : ℕ) → now ≤ at →
      want_at starts trace at frame ≡ Some (Returns value)
  still_returned frame now value returns at after =
      ap (λ i. want_of starts (trace.instance frame) i) (settled frame now value returns at after).told ∙ returns

  pub born_before : (at node : ℕ) (frame child : FrameId) (later : ℕ) → trace.events at ≡ Acts node frame (Spawn child) →
      by child (trace.events later) ≡ true → at < later
  born_before at node frame child later is acts = elim (obeys.born later child acts) [
    | inl of_main ↦ absurd (obeys.not_main at node frame child is of_main)
    | inr born ↦ let same = obeys.fresh at born.at node born.node frame born.parent child is born.is in omega (arith, born.before)
  ]

  pub unborn : (at node : ℕ) (frame child : FrameId) → trace.events at ≡ Acts node frame (Spawn child) → Unchanged starts trace child 0 (suc at)
  unborn at node frame child is =
      unchanged starts trace child 0 (suc at) (omega arith) (λ i from to acts. let after = born_before at node frame child i is acts in absurd (omega arith))

pub born_more : (trace : Trace) (from to : ℕ) (frame : FrameId) → from ≤ to → Born trace.events from frame → Born trace.events to frame
born_more trace from to frame inside (inl of_main) = inl of_main
born_more trace from to frame inside (inr born) =
    inr (record { at = born.at; node = born.node; parent = born.parent; before = omega (arith, born.before); is = born.is })

-- the frame was born before, or is spawned at this position
pub record SpawnedAt (trace : Trace) (at : ℕ) (frame : FrameId) : Type 0 where
  pub node : ℕ
  pub parent : FrameId
  pub is : trace.events at ≡ Acts node parent (Spawn frame)

pub born_split : (trace : Trace) (now : ℕ) (frame : FrameId) → Born trace.events (suc now) frame → Born trace.events now frame ⊎ SpawnedAt trace now frame
born_split trace now frame (inl of_main) = inl (inl of_main)
born_split trace now frame (inr born) = elim (compare born.at now) [
  | Less3 l ↦ inl (inr (record { at = born.at; node = born.node; parent = born.parent; before = l; is = born.is }))
  | Same3 same ↦ inr (record {
    node = born.node;
    parent = born.parent;
    is = subst (λ i. trace.events i ≡ Acts born.node born.parent (Spawn frame)) same born.is;
  })
  | More3 l ↦ absurd (omega (arith, born.before))
]
