-- What one event makes of the marks of its node: which go, which come, which are one act further, and which are new.
use Rattle.std.proofs.Common.{◌≡◌, ◌≤◌, ◌+◌, ◌⊎◌, inl, inr, ℕ, suc, ℤ, List, [], ◌∷◌, ◌++◌, Bool, true, cond, refl, sym, ◌∙◌, ap, subst, arith}
use Rattle.cilk_meaning.specs.Wants.{Done as DoneAnswer}
use Rattle.page_messages.specs.declared.closure.FrameId.{FrameId}
use Rattle.page_messages.specs.declared.closure.JoinId.{JoinId}
use Rattle.page_messages.specs.declared.closure.Closure.{Closure}
use Rattle.page_messages.specs.declared.message.Msg.{Msg}
use Rattle.page_messages.specs.declared.message.Body.{Body}
use Rattle.page_messages.specs.declared.message.Body.TheVariants as body
use Rattle.page_messages.specs.declared.log.LoggedAct.{LoggedAct}
use Rattle.page_messages.specs.declared.log.LoggedAct.TheVariants as act
use Rattle.page_messages.specs.declared.log.Item.{Item}
use Rattle.page_messages.specs.declared.log.Item.TheVariants as item
use Rattle.cluster_rules.specs.Walking.{is_empty, with_first}
use Rattle.cluster_rules.specs.Turns.{Event, Did, Sent, Took, Ended, Past}
use Rattle.cluster_rules.specs.Node.{Node}
use Rattle.cluster_rules.specs.Home.{replies_in, owed_adds}
use Rattle.cluster_rules.specs.Lives.{Life, live, answered, added, after_act, without_bottom, link_to, carried}
use Rattle.cluster_rules.specs.Frames.{Frames, Parked, with_stack, taken_up, with_joined, stack_sent, frames_item, frames_took, frames_of, stack_of}
use Rattle.cluster_rules.specs.Acting.{Acts}
use Rattle.cluster_rules.specs.Edges.{MayGrant, MayPark}
use Rattle.cluster_rules.specs.Runs.{IsFree, MayPost, IsOwed, MayDo, MaySend}
use Rattle.cluster_rules.specs.Allowed.{IsAllowed}
use Rattle.cluster_rules.proofs.Senders.{owed_replies, AreReplies}
use Rattle.cluster_rules.proofs.Marks.{Mark, one, many, many_append, Within, mark_of, marks, marks_append, parked_marks, parked_append}
use Rattle.cluster_rules.proofs.Marks.{other_marks, marks_of, live_within, with_joined_within, bottom_gone, bottom_marks, first_is}

-- ---- the marks of an event

abbrev pub closure_mark : Closure → Mark
closure_mark closure = record { id = closure.id; acts = closure.acts }

-- the frame that travels in a message
abbrev pub closure_marks : Body → List Mark
closure_marks (body.Fetch page) = []
closure_marks (body.Page page words) = []
closure_marks (body.Reconcile parts) = []
closure_marks body.Ack = []
closure_marks body.Ask = []
closure_marks (body.Grant closure) = closure_mark closure ∷ []
closure_marks body.Refuse = []
closure_marks (body.Done join index value) = []
closure_marks (body.Park join closure) = closure_mark closure ∷ []
closure_marks (body.Add frame index word addend) = []
closure_marks (body.Added old) = []

abbrev pub gone_by : Event → List Mark
gone_by (Did item) = []
gone_by (Sent message) = closure_marks message.body
gone_by (Took message) = []
gone_by (Ended end) = []

abbrev pub come_by : Event → List Mark
come_by (Did item) = []
come_by (Sent message) = []
come_by (Took message) = closure_marks message.body
come_by (Ended end) = []

abbrev pub first_marks : List Life → List Mark
first_marks [] = []
first_marks (life ∷ below) = mark_of life ∷ []

abbrev pub advanced_item : Item → Past → List Mark
advanced_item (item.Act frame index act) past = record { id = frame; acts = index } ∷ []
advanced_item (item.Tick frame) past = []
advanced_item (item.Drop page) past = []
advanced_item (item.TakeUp frame) past = []
advanced_item (item.OwnFetch page words) past = []
advanced_item (item.OwnReconcile part) past = []
advanced_item (item.Served frame index word old addend) past = cond (is_empty (owed_adds past)) (record { id = frame; acts = index } ∷ []) []

abbrev pub advanced_body : Body → List Life → List Mark
advanced_body (body.Fetch page) stack = []
advanced_body (body.Page page words) stack = []
advanced_body (body.Reconcile parts) stack = []
advanced_body body.Ack stack = []
advanced_body body.Ask stack = []
advanced_body (body.Grant closure) stack = []
advanced_body body.Refuse stack = []
advanced_body (body.Done join index value) stack = []
advanced_body (body.Park join closure) stack = []
advanced_body (body.Add frame index word addend) stack = []
advanced_body (body.Added old) stack = first_marks stack

-- A frame has one act more behind its Act, behind its own add, and as it gets the old value of an Add.
abbrev pub advanced_by : Node → Past → Event → List Mark
advanced_by node past (Did item) = advanced_item item past
advanced_by node past (Sent message) = []
advanced_by node past (Took message) = advanced_body message.body (stack_of node past)
advanced_by node past (Ended end) = []

abbrev pub risen : List Mark → List Mark
risen [] = []
risen (mark ∷ marks) = record { id = mark.id; acts = suc mark.acts } ∷ risen marks

abbrev pub born_act : LoggedAct → List Mark
born_act (act.Read word value) = []
born_act (act.Write word value) = []
born_act (act.Print value) = []
born_act (act.Spawn child procedure arguments) = record { id = child; acts = 0 } ∷ []
born_act act.Sync = []

abbrev pub born_item : Item → List Mark
born_item (item.Act frame index act) = born_act act
born_item (item.Tick frame) = []
born_item (item.Drop page) = []
born_item (item.TakeUp frame) = []
born_item (item.OwnFetch page words) = []
born_item (item.OwnReconcile part) = []
born_item (item.Served frame index word old addend) = []

abbrev pub born_by : Event → List Mark
born_by (Did item) = born_item item
born_by (Sent message) = []
born_by (Took message) = []
born_by (Ended end) = []

-- ---- changes

abbrev pub Changes : List Mark → List Mark → List Mark → List Mark → List Mark → List Mark → Type 0
Changes before after gone come advanced born = (such : Mark → Bool) →
    many such after + many such gone + many such advanced ≤ many such before + many such come + many such (risen advanced) + many such born

abbrev Same : Frames → Frames → Type 0
Same before after = Changes (marks_of before) (marks_of after) [] [] [] []

within_changes : (before after : List Mark) → Within after before → Changes before after [] [] [] []
within_changes before after within = λ such. let a = within such in omega (arith, a)

-- the stack alone changes
stack_changes : (frames : Frames) (stack : List Life) (gone come advanced born : List Mark) → Changes (marks frames.stack) (marks stack) gone come advanced born
    → Changes (marks_of frames) (marks_of (with_stack stack frames)) gone come advanced born
stack_changes frames stack gone come advanced born changes = λ such.
    let a = many_append such (marks stack) (other_marks frames) in
    let b = many_append such (marks frames.stack) (other_marks frames) in
    let c = changes such in omega (arith, a, b, c)

live_changes : (stack : List Life) → Changes (marks stack) (marks (live stack)) [] [] [] []
live_changes stack = within_changes (marks stack) (marks (live stack)) (live_within stack)

-- ---- items

first_answered : (stack : List Life) → marks (with_first (answered DoneAnswer) stack) ≡ marks stack
first_answered [] = refl
first_answered (life ∷ below) = refl

ticked : (stack : List Life) → Changes (marks stack) (marks (with_first (answered DoneAnswer) (live stack))) [] [] [] []
ticked stack = within_changes (marks stack) (marks (with_first (answered DoneAnswer) (live stack)))
    (subst (λ it. Within it (marks stack)) (sym (first_answered (live stack))) (live_within stack))

acted_marks : (such : Mark → Bool) (node : Node) (done : LoggedAct) (life : Life) (below : List Life)
    → many such (marks (after_act node done (life ∷ below)))
    ≡ many such (born_act done) + (one (such (record { id = life.id; acts = suc life.acts })) + many such (marks below))
acted_marks such node (act.Read word value) life below = omega arith
acted_marks such node (act.Write word value) life below = omega arith
acted_marks such node (act.Print value) life below = omega arith
acted_marks such node (act.Spawn child procedure arguments) life below = omega arith
acted_marks such node act.Sync life below = omega arith

module _ (node : Node) (past : Past) (frame : FrameId) (life : Life) (acts : Acts node past frame life) (index : ℕ) (index_is : index ≡ life.acts) where
  -- the frame that acts is the first that has not returned
  first_live : (below : List Life) × (live (stack_of node past) ≡ life ∷ below)
  first_live = first_is (live (stack_of node past)) life acts.is

  its_mark : record { id = frame; acts = index } ≡ mark_of life
  its_mark = λ i. record { id = acts.named i; acts = index_is i }

  -- its mark is among those of the stack
  pub is_among : (such : Mark → Bool) → one (such (record { id = frame; acts = index })) ≤ many such (marks (stack_of node past))
  is_among such =
      let among = live_within (stack_of node past) such in
      let first : many such (marks (live (stack_of node past))) ≡ one (such (mark_of life)) + many such (marks first_live.0) =
      ap (λ it. many such (marks it)) first_live.1 in
      let same : one (such (record { id = frame; acts = index })) ≡ one (such (mark_of life)) = ap (λ it. one (such it)) its_mark in
      omega (arith, among, first, same)

  act_changes : (done : LoggedAct) → Changes (marks (stack_of node past)) (marks (after_act node done (live (stack_of node past)))) [] []
      (record { id = frame; acts = index } ∷ []) (born_act done)
  act_changes done = λ such.
      let among = live_within (stack_of node past) such in
      let first : many such (marks (live (stack_of node past))) ≡ one (such (mark_of life)) + many such (marks first_live.0) =
      ap (λ it. many such (marks it)) first_live.1 in
      let after : many such (marks (after_act node done (live (stack_of node past))))
      ≡ many such (born_act done) + (one (such (record { id = life.id; acts = suc life.acts })) + many such (marks first_live.0)) =
      ap (λ it. many such (marks (after_act node done it))) first_live.1 ∙ acted_marks such node done life first_live.0 in
      let same : one (such (record { id = frame; acts = index })) ≡ one (such (mark_of life)) = ap (λ it. one (such it)) its_mark in
      let rises : one (such (record { id = frame; acts = suc index })) ≡ one (such (record { id = life.id; acts = suc life.acts })) =
      ap (λ (it : Mark). one (such (record { id = it.id; acts = suc it.acts }))) its_mark in
      omega (arith, among, first, after, same, rises)

  add_changes : (old : ℤ) → Changes (marks (stack_of node past)) (marks (added old (live (stack_of node past)))) [] []
      (record { id = frame; acts = index } ∷ []) []
  add_changes old = λ such.
      let among = live_within (stack_of node past) such in
      let first : many such (marks (live (stack_of node past))) ≡ one (such (mark_of life)) + many such (marks first_live.0) =
      ap (λ it. many such (marks it)) first_live.1 in
      let after : many such (marks (added old (live (stack_of node past)))) ≡ one (such (record { id = life.id; acts = suc life.acts })) + many such
      (marks first_live.0) =
      ap (λ it. many such (marks (added old it))) first_live.1 in
      let same : one (such (record { id = frame; acts = index })) ≡ one (such (mark_of life)) = ap (λ it. one (such it)) its_mark in
      let rises : one (such (record { id = frame; acts = suc index })) ≡ one (such (record { id = life.id; acts = suc life.acts })) =
      ap (λ (it : Mark). one (such (record { id = it.id; acts = suc it.acts }))) its_mark in
      omega (arith, among, first, after, same, rises)

taken_up_changes : (stack ready : List Life) (parked : List Parked) → stack ≡ []
    → Same (record { stack = stack; ready = ready; parked = parked }) (taken_up stack ready parked)
taken_up_changes [] [] parked idle = λ such. omega arith
taken_up_changes [] (life ∷ ready) parked idle = λ such. omega arith
taken_up_changes (top ∷ below) ready parked idle = absurd (cc)

-- ---- posts

-- what is no reply may be posted
pub may_post : (node : Node) (past : Past) (message : Msg) → MaySend node past message
    → (replies_in message.body ≡ true) ⊎ MayPost node past message.receiver message.body
may_post node past message (inl due) = inl ((subst (AreReplies node.me) due.1 (owed_replies node past)).1)
may_post node past message (inr sends) = inr sends.may

grant_changes : (node : Node) (past : Past) (receiver : ℕ) (closure : Closure) → MayGrant node past receiver closure
    → Changes (marks (stack_of node past)) (marks (without_bottom closure.join (stack_of node past))) (closure_mark closure ∷ []) [] [] []
grant_changes node past receiver closure may = λ such.
    let left = may.above ++ (record may.child { link = link_to closure.join } ∷ []) in
    let after : many such (marks (without_bottom closure.join (stack_of node past))) ≡ many such (marks left) =
    ap (λ it. many such (marks (without_bottom closure.join it))) may.stack
    ∙ ap (λ it. many such (marks it)) (bottom_gone closure.join may.above may.child may.parent) in
    let before : many such (marks (stack_of node past)) ≡ many such (marks left ++ mark_of may.parent ∷ []) =
    ap (λ it. many such (marks it)) may.stack ∙ ap (many such) (bottom_marks closure.join may.above may.child may.parent) in
    let parts = many_append such (marks left) (mark_of may.parent ∷ []) in
    let mark : one (such (closure_mark closure)) ≡ one (such (mark_of may.parent)) =
    ap (λ it. one (such it)) (λ i. record { id = may.state.id i; acts = may.state.acts i }) in
    omega (arith, after, before, parts, mark)

park_changes : (node : Node) (past : Past) (receiver : ℕ) (join : JoinId) (closure : Closure) → MayPark node past receiver join closure
    → Changes (marks (stack_of node past)) [] (closure_mark closure ∷ []) [] [] []
park_changes node past receiver join closure may = λ such.
    let among = live_within (stack_of node past) such in
    let first : many such (marks (live (stack_of node past))) ≡ one (such (mark_of may.life)) + 0 = ap (λ it. many such (marks it)) may.at_join.alone in
    let mark : one (such (closure_mark closure)) ≡ one (such (mark_of may.life)) =
    ap (λ it. one (such it)) (λ i. record { id = may.state.id i; acts = may.state.acts i }) in
    omega (arith, among, first, mark)

sent_changes : (node : Node) (past : Past) (receiver : ℕ) (said : Body) → (replies_in said ≡ true) ⊎ MayPost node past receiver said
    → Changes (marks (stack_of node past)) (marks (stack_sent said (stack_of node past))) (closure_marks said) [] [] []
sent_changes node past receiver (body.Fetch page) may = live_changes (stack_of node past)
sent_changes node past receiver (body.Page page words) may = λ such. omega arith
sent_changes node past receiver (body.Reconcile parts) may = λ such. omega arith
sent_changes node past receiver body.Ack may = λ such. omega arith
sent_changes node past receiver body.Ask may = λ such. omega arith
sent_changes node past receiver (body.Grant closure) (inl reply) = absurd (cc)
sent_changes node past receiver (body.Grant closure) (inr may) = grant_changes node past receiver closure may
sent_changes node past receiver body.Refuse may = λ such. omega arith
sent_changes node past receiver (body.Done join index value) may = λ such. omega arith
sent_changes node past receiver (body.Park join closure) (inl reply) = absurd (cc)
sent_changes node past receiver (body.Park join closure) (inr may) = park_changes node past receiver join closure may
sent_changes node past receiver (body.Add frame index word addend) may = live_changes (stack_of node past)
sent_changes node past receiver (body.Added old) may = λ such. omega arith

-- ---- takings

added_changes : (old : ℤ) (stack : List Life) → Changes (marks stack) (marks (added old stack)) [] [] (first_marks stack) []
added_changes old [] = λ such. omega arith
added_changes old (life ∷ below) = λ such. omega arith

granted_changes : (node : Node) (closure : Closure) (frames : Frames)
    → Changes (marks_of frames) (marks_of (record frames { ready = frames.ready ++ carried node closure ∷ [] })) [] (closure_mark closure ∷ []) [] []
granted_changes node closure frames = λ such.
    let ready : many such (marks (frames.ready ++ carried node closure ∷ [])) ≡ many such (marks frames.ready ++ closure_mark closure ∷ []) =
    ap (many such) (marks_append frames.ready (carried node closure ∷ [])) in
    let a = many_append such (marks frames.ready) (closure_mark closure ∷ []) in
    let b = many_append such (marks (frames.ready ++ carried node closure ∷ [])) (parked_marks frames.parked) in
    let c = many_append such (marks frames.ready) (parked_marks frames.parked) in
    let d = many_append such (marks frames.stack) (marks (frames.ready ++ carried node closure ∷ []) ++ parked_marks frames.parked) in
    let e = many_append such (marks frames.stack) (other_marks frames) in
    omega (arith, ready, a, b, c, d, e)

parked_changes : (node : Node) (past : Past) (join : JoinId) (closure : Closure) (frames : Frames)
    → Changes (marks_of frames) (marks_of (with_joined node past (record frames { parked = frames.parked ++ record { join = join; closure = closure } ∷ [] })))
    [] (closure_mark closure ∷ []) [] []
parked_changes node past join closure frames = λ such.
    let one_more : Frames = record frames { parked = frames.parked ++ record { join = join; closure = closure } ∷ [] } in
    let joined = with_joined_within node past one_more such in
    let parked : many such (parked_marks one_more.parked) ≡ many such (parked_marks frames.parked ++ closure_mark closure ∷ []) =
    ap (many such) (parked_append frames.parked (record { join = join; closure = closure } ∷ [])) in
    let a = many_append such (parked_marks frames.parked) (closure_mark closure ∷ []) in
    let b = many_append such (marks frames.ready) (parked_marks one_more.parked) in
    let c = many_append such (marks frames.ready) (parked_marks frames.parked) in
    let d = many_append such (marks frames.stack) (other_marks one_more) in
    let e = many_append such (marks frames.stack) (other_marks frames) in
    omega (arith, joined, parked, a, b, c, d, e)

took_changes : (node : Node) (said : Body) (past : Past) (frames : Frames)
    → Changes (marks_of frames) (marks_of (frames_took node said past frames)) [] (closure_marks said) (advanced_body said frames.stack) []
took_changes node (body.Fetch page) past frames = λ such. omega arith
took_changes node (body.Page page words) past frames = λ such. omega arith
took_changes node (body.Reconcile parts) past frames = λ such. omega arith
took_changes node body.Ack past frames = λ such. omega arith
took_changes node body.Ask past frames = λ such. omega arith
took_changes node (body.Grant closure) past frames = granted_changes node closure frames
took_changes node body.Refuse past frames = λ such. omega arith
took_changes node (body.Done join index value) past frames =
    within_changes (marks_of frames) (marks_of (with_joined node past frames)) (with_joined_within node past frames)
took_changes node (body.Park join closure) past frames = parked_changes node past join closure frames
took_changes node (body.Add frame index word addend) past frames = λ such. omega arith
took_changes node (body.Added old) past frames =
    stack_changes frames (added old frames.stack) [] [] (first_marks frames.stack) [] (added_changes old frames.stack)

-- ---- each event

module _ (node : Node) (past : Past) where
  abbrev frames : Frames
  frames = frames_of node past

  abbrev ItemChanges : Item → Type 0
  ItemChanges done = Changes (marks_of frames) (marks_of (frames_item node done past frames)) [] [] (advanced_item done past) (born_item done)

  item_changes : (done : Item) (rest : List Item) (posts : List Msg) → IsOwed node past done ⊎ (IsFree past × MayDo node past done rest posts)
      → ItemChanges done
  item_changes (item.Act frame index act) rest posts (inl owed) = absurd owed
  item_changes (item.Act frame index act) rest posts (inr both) =
      let may = both.1 in
      stack_changes frames (after_act node act (live frames.stack)) [] [] (record { id = frame; acts = index } ∷ []) (born_act act)
      (act_changes node past frame may.life may.acts index may.index_is act)
  item_changes (item.Tick frame) rest posts may = stack_changes frames (with_first (answered DoneAnswer) (live frames.stack)) [] [] [] [] (ticked frames.stack)
  item_changes (item.Drop page) rest posts may = λ such. omega arith
  item_changes (item.TakeUp frame) rest posts (inl owed) = absurd owed
  item_changes (item.TakeUp frame) rest posts (inr both) = taken_up_changes frames.stack frames.ready frames.parked both.1.idle
  item_changes (item.OwnFetch page words) rest posts may = stack_changes frames (live frames.stack) [] [] [] [] (live_changes frames.stack)
  item_changes (item.OwnReconcile part) rest posts may = λ such. omega arith
  item_changes (item.Served frame index word old addend) rest posts (inl serves) = rw serves.oldest (λ such. omega arith)
  item_changes (item.Served frame index word old addend) rest posts (inr both) =
      let may = both.1.add in
      rw both.0.none_owed
      (stack_changes frames (added old (live frames.stack)) [] [] (record { id = frame; acts = index } ∷ []) []
      (add_changes node past frame may.life may.acts index may.index_is old))

  -- What an event makes of the marks of its node.
  pub passes : (event : Event) → IsAllowed node past event
      → Changes (marks_of (frames_of node past)) (marks_of (frames_of node (event ∷ past))) (gone_by event) (come_by event) (advanced_by node past event)
      (born_by event)
  unfolding frames_of
  passes (Did done) does = item_changes done does.rest does.posts does.may
  passes (Sent message) may =
      stack_changes frames (stack_sent message.body frames.stack) (closure_marks message.body) [] [] []
      (sent_changes node past message.receiver message.body (may_post node past message may))
  passes (Took message) may = took_changes node message.body (Took message ∷ past) frames
  passes (Ended end) may = λ such. omega arith

  -- ---- frames that are one act further are among those of the node

  in_stack : (such : Mark → Bool) → many such (marks frames.stack) ≤ many such (marks_of frames)
  in_stack such = let a = many_append such (marks frames.stack) (other_marks frames) in omega (arith, a)

  advanced_here : (done : Item) (rest : List Item) (posts : List Msg) → IsOwed node past done ⊎ (IsFree past × MayDo node past done rest posts)
      → Within (advanced_item done past) (marks_of frames)
  advanced_here (item.Act frame index act) rest posts (inl owed) = absurd owed
  advanced_here (item.Act frame index act) rest posts (inr both) = λ such.
      let among = is_among node past frame both.1.life both.1.acts index both.1.index_is such in let whole = in_stack such in omega (arith, among, whole)
  advanced_here (item.Tick frame) rest posts may = λ such. omega arith
  advanced_here (item.Drop page) rest posts may = λ such. omega arith
  advanced_here (item.TakeUp frame) rest posts may = λ such. omega arith
  advanced_here (item.OwnFetch page words) rest posts may = λ such. omega arith
  advanced_here (item.OwnReconcile part) rest posts may = λ such. omega arith
  advanced_here (item.Served frame index word old addend) rest posts (inl serves) = rw serves.oldest (λ such. omega arith)
  advanced_here (item.Served frame index word old addend) rest posts (inr both) =
      rw both.0.none_owed
      (λ such.
      let among = is_among node past frame both.1.add.life both.1.add.acts index both.1.add.index_is such in
      let whole = in_stack such in omega (arith, among, whole))

  first_within : (stack : List Life) → Within (first_marks stack) (marks stack)
  first_within [] = λ such. omega arith
  first_within (life ∷ below) = λ such. omega arith

  advanced_taken : (said : Body) → Within (advanced_body said frames.stack) (marks_of frames)
  advanced_taken (body.Fetch page) = λ such. omega arith
  advanced_taken (body.Page page words) = λ such. omega arith
  advanced_taken (body.Reconcile parts) = λ such. omega arith
  advanced_taken body.Ack = λ such. omega arith
  advanced_taken body.Ask = λ such. omega arith
  advanced_taken (body.Grant closure) = λ such. omega arith
  advanced_taken body.Refuse = λ such. omega arith
  advanced_taken (body.Done join index value) = λ such. omega arith
  advanced_taken (body.Park join closure) = λ such. omega arith
  advanced_taken (body.Add frame index word addend) = λ such. omega arith
  advanced_taken (body.Added old) = λ such. let first = first_within frames.stack such in let whole = in_stack such in omega (arith, first, whole)

  pub advanced_within : (event : Event) → IsAllowed node past event → Within (advanced_by node past event) (marks_of (frames_of node past))
  advanced_within (Did done) does = advanced_here done does.rest does.posts does.may
  advanced_within (Sent message) may = λ such. omega arith
  advanced_within (Took message) may = advanced_taken message.body
  advanced_within (Ended end) may = λ such. omega arith
