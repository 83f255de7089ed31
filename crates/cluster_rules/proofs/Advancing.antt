-- The acts that a held frame counts: each of its Acts, each of its own adds, and each old value that it was told.
use Rattle.std.proofs.Common.{◌≡◌, ◌≤◌, ◌<◌, ◌+◌, ◌⊎◌, inl, inr, ℕ, zero, suc, List, [], ◌∷◌, Bool, true, false, cond, eqb, ◌&&◌, not, refl, sym, ◌∙◌, ap, subst, arith}
use Rattle.std.proofs.lemmas.Bool.Decides.{nat_tests}
use Rattle.page_messages.specs.declared.closure.FrameId.{FrameId}
use Rattle.page_messages.specs.declared.message.Msg.{Msg}
use Rattle.page_messages.specs.declared.message.Body.{Body}
use Rattle.page_messages.specs.declared.message.Body.TheVariants as body
use Rattle.page_messages.specs.declared.log.Item.{Item}
use Rattle.page_messages.specs.declared.log.Item.TheVariants as item
use Rattle.cluster_rules.specs.Walking.{is_empty}
use Rattle.cluster_rules.specs.Turns.{Event, Did, Sent, Took, Ended, Past}
use Rattle.cluster_rules.specs.Node.{Node}
use Rattle.cluster_rules.specs.Home.{owed_adds}
use Rattle.cluster_rules.specs.Lives.{Life, same_frame, main_id}
use Rattle.cluster_rules.specs.Frames.{frames_of, stack_of}
use Rattle.cluster_rules.specs.Runs.{Cluster, node_at}
use Rattle.cluster_rules.specs.Positions.{Moved, Course, own}
use Rattle.cluster_rules.proofs.Stepping.{Step, Stepped}
use Rattle.cluster_rules.proofs.Letters.{Letter, letters_of, amount_of}
use Rattle.cluster_rules.proofs.Summing.{sum_below, sum_one}
use Rattle.cluster_rules.proofs.Marks.{Mark, one, many, named, mark_of, marks_of, same_self, same_name}
use Rattle.cluster_rules.proofs.Passing.{closure_marks, advanced_item, advanced_body, advanced_by, first_marks, risen, born_by, advanced_within}
use Rattle.cluster_rules.proofs.Holding.{at_node, in_message, held_by, advanced, held_changes, Unknown, unknown_before, IsBorn, births, main_mark, held_start, held_once, held_known, same_risen}

-- How many acts the frame counts.
abbrev pub counted : Cluster → FrameId → Course → ℕ
counted cluster frame [] = 0
counted cluster frame (moved ∷ course) = many (named frame) (advanced cluster course moved) + counted cluster frame course

-- it is this frame, and has another number of acts
abbrev pub otherwise : FrameId → ℕ → Mark → Bool
otherwise frame acts mark = named frame mark && not (eqb mark.acts acts)

-- ---- one frame at most is one act further

abbrev AtMostOne : List Mark → Type 0
AtMostOne marks = (marks ≡ []) ⊎ ((mark : Mark) × (marks ≡ mark ∷ []))

one_served : (frame : FrameId) (index : ℕ) (b : Bool) → AtMostOne (cond b (record { id = frame; acts = index } ∷ []) [])
one_served frame index true = inr (record { id = frame; acts = index }, refl)
one_served frame index false = inl refl

one_item : (done : Item) (past : Past) → AtMostOne (advanced_item done past)
one_item (item.Act frame index act) past = inr (record { id = frame; acts = index }, refl)
one_item (item.Tick frame) past = inl refl
one_item (item.Drop page) past = inl refl
one_item (item.TakeUp frame) past = inl refl
one_item (item.OwnFetch page words) past = inl refl
one_item (item.OwnReconcile part) past = inl refl
one_item (item.Served frame index word old addend) past = one_served frame index (is_empty (owed_adds past))

one_first : (stack : List Life) → AtMostOne (first_marks stack)
one_first [] = inl refl
one_first (life ∷ below) = inr (mark_of life, refl)

one_taken : (said : Body) (stack : List Life) → AtMostOne (advanced_body said stack)
one_taken (body.Fetch page) stack = inl refl
one_taken (body.Page page words) stack = inl refl
one_taken (body.Reconcile parts) stack = inl refl
one_taken body.Ack stack = inl refl
one_taken body.Ask stack = inl refl
one_taken (body.Grant closure) stack = inl refl
one_taken body.Refuse stack = inl refl
one_taken (body.Done join index value) stack = inl refl
one_taken (body.Park join closure) stack = inl refl
one_taken (body.Add frame index word addend) stack = inl refl
one_taken (body.Added old) stack = one_first stack

one_advanced : (node : Node) (past : Past) (event : Event) → AtMostOne (advanced_by node past event)
one_advanced node past (Did done) = one_item done past
one_advanced node past (Sent message) = inl refl
one_advanced node past (Took message) = one_taken message.body (stack_of node past)
one_advanced node past (Ended end) = inl refl

-- ---- tests

-- what is such one by one is so together
pub many_less : (such other : Mark → Bool) → ((mark : Mark) → one (such mark) ≤ one (other mark)) → (marks : List Mark) → many such marks ≤ many other marks
many_less such other less [] = omega arith
many_less such other less (mark ∷ marks) = let here = less mark in let rest = many_less such other less marks in omega (arith, here, rest)

sum_less : (count : ℕ) (amount other : ℕ → ℕ) → ((number : ℕ) → amount number ≤ other number) → sum_below count amount ≤ sum_below count other
sum_less zero amount other less = omega arith
sum_less (suc count) amount other less = let here = less count in let rest = sum_less count amount other less in omega (arith, here, rest)

letters_less : (amount other : Msg → ℕ) (letters : List Letter) → ((message : Msg) → amount message ≤ other message)
    → amount_of amount letters ≤ amount_of other letters
letters_less amount other [] less = omega arith
letters_less amount other (letter ∷ letters) less =
    let here = less letter.message in let rest = letters_less amount other letters less in omega (arith, here, rest)

held_by_less : (cluster : Cluster) (course : Course) (such other : Mark → Bool) → ((mark : Mark) → one (such mark) ≤ one (other mark))
    → held_by cluster course such ≤ held_by cluster course other
held_by_less cluster course such other less =
    let nodes = sum_less cluster.config.nodes (at_node cluster course such) (at_node cluster course other)
    (λ number. many_less such other less (marks_of (frames_of (node_at cluster number) (own number course)))) in
    let letters = letters_less (in_message such) (in_message other) (letters_of course) (λ message. many_less such other less (closure_marks message.body)) in
    omega (arith, nodes, letters)

otherwise_named : (frame : FrameId) (acts : ℕ) (mark : Mark) → one (otherwise frame acts mark) ≤ one (named frame mark)
otherwise_named frame acts mark = on (named frame mark) (not (eqb mark.acts acts))
  where
    on : (a b : Bool) → one (a && b) ≤ one a
    on true true = omega arith
    on true false = omega arith
    on false b = omega arith

-- a mark of the frame has this number
pub otherwise_none : (frame : FrameId) (acts number : ℕ) → one (otherwise frame acts (record { id = frame; acts = number })) ≡ 0 → number ≡ acts
otherwise_none frame acts number none = on (eqb number acts) refl
  where
    on : (b : Bool) → eqb number acts ≡ b → number ≡ acts
    on true is = grind (arith, nat_tests)
    on false is =
        let some : one (otherwise frame acts (record { id = frame; acts = number })) ≡ 1 = rw (same_self frame, is) refl in absurd (omega (arith, none, some))

otherwise_same : (frame : FrameId) (acts : ℕ) → one (otherwise frame acts (record { id = frame; acts = acts })) ≡ 0
otherwise_same frame acts = let same : eqb acts acts ≡ true = grind (arith, nat_tests) in rw (same_self frame, same) refl

otherwise_other : (frame : FrameId) (acts number : ℕ) → eqb number acts ≡ false → one (otherwise frame acts (record { id = frame; acts = number })) ≡ 1
otherwise_other frame acts number other = rw (same_self frame, other) refl

-- ---- what is advanced is held

advanced_held : (cluster : Cluster) (course : Course) (moved : Moved) → Step cluster course moved → (such : Mark → Bool)
    → many such (advanced cluster course moved) ≤ held_by cluster course such
advanced_held cluster course moved step such =
    let here = advanced_within (node_at cluster moved.node) (own moved.node course) moved.event step.allowed such in
    let whole = sum_one cluster.config.nodes (at_node cluster course such) moved.node step.within in omega (arith, here, whole)

-- ---- each held frame has the acts that are counted

pub record Counts (cluster : Cluster) (course : Course) : Type 0 where
  pub unknown : (frame : FrameId) → Unknown cluster course frame → counted cluster frame course ≡ 0
  pub acts : (frame : FrameId) → held_by cluster course (otherwise frame (counted cluster frame course)) ≡ 0

module _ (cluster : Cluster) (course : Course) (moved : Moved) (stepped : Stepped cluster course) (step : Step cluster course moved)
    (counts : Counts cluster course) where
  unknown_next : (frame : FrameId) → Unknown cluster (moved ∷ course) frame → counted cluster frame (moved ∷ course) ≡ 0
  unknown_next frame unknown =
      let before = unknown_before cluster course moved frame unknown in
      let none = counts.unknown frame before in
      let nowhere = held_known cluster course stepped frame before in
      let here = advanced_held cluster course moved step (named frame) in omega (arith, none, nowhere, here)

  -- a newborn has made none
  born_none : (frame : FrameId) → IsBorn cluster course moved frame → counted cluster frame (moved ∷ course) ≡ 0
  born_none frame born =
      let was = born.was in
      let before : Unknown cluster course frame = omega (arith, was) in
      let none = counts.unknown frame before in
      let nowhere = held_known cluster course stepped frame before in
      let here = advanced_held cluster course moved step (named frame) in omega (arith, none, nowhere, here)

  born_right : (frame : FrameId) → (many (named frame) (born_by moved.event) ≡ 0) ⊎ IsBorn cluster course moved frame
      → many (otherwise frame (counted cluster frame (moved ∷ course))) (born_by moved.event) ≡ 0
  born_right frame (inl none) =
      let less = many_less (otherwise frame (counted cluster frame (moved ∷ course))) (named frame)
      (otherwise_named frame (counted cluster frame (moved ∷ course))) (born_by moved.event) in
      omega (arith, none, less)
  born_right frame (inr born) =
      let no_acts = born_none frame born in
      let zero_acts : one (otherwise frame (counted cluster frame (moved ∷ course)) (record { id = frame; acts = 0 })) ≡ 0 =
      ap (λ it. one (otherwise frame it (record { id = frame; acts = 0 }))) no_acts ∙ otherwise_same frame 0 in
      ap (many (otherwise frame (counted cluster frame (moved ∷ course)))) born.marks_are ∙ omega (arith, zero_acts)

  -- another frame is one act further, or none
  others_next : (frame : FrameId) → many (named frame) (advanced cluster course moved) ≡ 0
      → held_by cluster (moved ∷ course) (otherwise frame (counted cluster frame (moved ∷ course))) ≡ 0
  others_next frame none =
      let same : counted cluster frame (moved ∷ course) ≡ counted cluster frame course = omega (arith, none) in
      let such = otherwise frame (counted cluster frame (moved ∷ course)) in
      let changes = held_changes cluster course moved stepped step such in
      let before : held_by cluster course such ≡ 0 = subst (λ it. held_by cluster course (otherwise frame it) ≡ 0) (sym same) (counts.acts frame) in
      let rises = many_less such (named frame) (otherwise_named frame (counted cluster frame (moved ∷ course))) (risen (advanced cluster course moved)) in
      let count = same_risen frame (advanced cluster course moved) in
      let born = born_right frame (births cluster course moved frame step) in
      omega (arith, changes, before, rises, count, born, none)

  -- this frame is
  this_next : (frame : FrameId) (acts : ℕ) → advanced cluster course moved ≡ record { id = frame; acts = acts } ∷ []
      → held_by cluster (moved ∷ course) (otherwise frame (counted cluster frame (moved ∷ course))) ≡ 0
  this_next frame acts is =
      let old = counted cluster frame course in
      let count : many (named frame) (advanced cluster course moved) ≡ 1 = ap (many (named frame)) is ∙ born_like in
      let next : counted cluster frame (moved ∷ course) ≡ suc old = omega (arith, count) in
      let such = otherwise frame (counted cluster frame (moved ∷ course)) in
      let changes = held_changes cluster course moved stepped step such in
      let here : many (otherwise frame old) (advanced cluster course moved) ≡ one (otherwise frame old (record { id = frame; acts = acts })) + 0 =
      ap (many (otherwise frame old)) is in
      let within = advanced_held cluster course moved step (otherwise frame old) in
      let none = counts.acts frame in
      let acts_is : acts ≡ old = otherwise_none frame old acts (omega (arith, here, within, none)) in
      let differs : eqb acts (suc old) ≡ false = grind (arith, nat_tests) in
      let was : many such (advanced cluster course moved) ≡ 1 =
      ap (many such) is ∙ ap (λ it. one (otherwise frame it (record { id = frame; acts = acts })) + 0) next
      ∙ ap (λ it. it + 0) (otherwise_other frame (suc old) acts differs) ∙ refl in
      let rises : many such (risen (advanced cluster course moved)) ≡ 0 =
      ap (λ it. many such (risen it)) is ∙ ap (λ it. one (otherwise frame it (record { id = frame; acts = suc acts })) + 0) next
      ∙ ap (λ it. one (otherwise frame (suc old) (record { id = frame; acts = suc it })) + 0) acts_is ∙ ap (λ it. it + 0) (otherwise_same frame (suc old)) in
      let less = held_by_less cluster course such (named frame) (otherwise_named frame (counted cluster frame (moved ∷ course))) in
      let once = held_once cluster course stepped frame in
      let born = born_right frame (births cluster course moved frame step) in
      omega (arith, changes, was, rises, less, once, born)
    where
      born_like : one (named frame (record { id = frame; acts = acts })) + 0 ≡ 1
      born_like = rw (same_self frame) refl

  acts_next : (frame : FrameId) → AtMostOne (advanced cluster course moved)
      → held_by cluster (moved ∷ course) (otherwise frame (counted cluster frame (moved ∷ course))) ≡ 0
  acts_next frame (inl none) = others_next frame (ap (many (named frame)) none)
  acts_next frame (inr some) = on (named frame some.0) refl
    where
      on : (b : Bool) → named frame some.0 ≡ b → held_by cluster (moved ∷ course) (otherwise frame (counted cluster frame (moved ∷ course))) ≡ 0
      on true is =
          let same : some.0 ≡ record { id = frame; acts = some.0.acts } = λ i. record { id = same_name some.0.id frame is i; acts = some.0.acts } in
          this_next frame some.0.acts (some.1 ∙ ap (λ it. it ∷ []) same)
      on false is = others_next frame (ap (many (named frame)) some.1 ∙ rw is refl)

  counts_next : Counts cluster (moved ∷ course)
  counts_next =
      record { unknown = unknown_next; acts = λ frame. acts_next frame (one_advanced (node_at cluster moved.node) (own moved.node course) moved.event) }

main_right : (frame : FrameId) → one (otherwise frame 0 main_mark) ≡ 0
main_right frame = on (same_frame main_id frame)
  where
    on : (b : Bool) → one (b && false) ≡ 0
    on true = refl
    on false = refl

pub counts_acts : (cluster : Cluster) (course : Course) → Stepped cluster course → Counts cluster course
counts_acts cluster [] stepped = record {
  unknown = λ frame unknown. refl;
  acts = λ frame. let start = held_start cluster (otherwise frame 0) in let none = main_right frame in omega (arith, start, none);
}
counts_acts cluster (moved ∷ course) stepped = counts_next cluster course moved stepped.0 stepped.1 (counts_acts cluster course stepped.0)

-- A mark that a node has holds as many acts as are counted.
pub acts_counted : (cluster : Cluster) (course : Course) → Stepped cluster course → (number : ℕ) → number < cluster.config.nodes → (frame : FrameId) (acts : ℕ)
    → ((such : Mark → Bool) → one (such (record { id = frame; acts = acts })) ≤ at_node cluster course such number) → acts ≡ counted cluster frame course
acts_counted cluster course stepped number less frame acts has =
    let such = otherwise frame (counted cluster frame course) in
    let here = has such in
    let whole = sum_one cluster.config.nodes (at_node cluster course such) number less in
    let none = (counts_acts cluster course stepped).acts frame in
    otherwise_none frame (counted cluster frame course) acts (omega (arith, here, whole, none))
