-- What holds of every frame anywhere holds so behind one event more, where it is kept of those that the event touches.
use Rattle.std.proofs.Common.{◌≡◌, ◌≢◌, ◌⊎◌, inl, inr, ℕ, suc, ◌<◌, ℤ, List, [], ◌∷◌, ◌++◌, Option, Some, None, true, refl, sym, ◌∙◌, ap, subst}
use Rattle.cilk_meaning.specs.Instance.{Meaning}
use Rattle.cilk_meaning.specs.Serve.{after}
use Rattle.cilk_meaning.specs.Wants as want
use Rattle.cilk_meaning.specs.Wants.{Deposit, Answer, Value, Children, Done}
use Rattle.machine_code.specs.Early.{at_sync}
use Rattle.machine_code.specs.Machine.{starts, wants}
use Rattle.page_messages.specs.declared.closure.FrameId.{FrameId}
use Rattle.page_messages.specs.declared.closure.Closure.{Closure}
use Rattle.page_messages.specs.declared.message.Msg.{Msg}
use Rattle.page_messages.specs.declared.message.Body.{Body}
use Rattle.page_messages.specs.declared.message.Body.TheVariants as body
use Rattle.page_messages.specs.declared.log.LoggedAct.{LoggedAct}
use Rattle.page_messages.specs.declared.log.LoggedAct.TheVariants as act
use Rattle.page_messages.specs.declared.log.PostAt.{PostAt}
use Rattle.page_messages.specs.declared.log.Item.{Item}
use Rattle.page_messages.specs.declared.log.Item.TheVariants as item
use Rattle.cluster_rules.specs.Walking.{with_first}
use Rattle.cluster_rules.specs.Turns.{Event, Did, Sent, Took, Ended, Past}
use Rattle.cluster_rules.specs.Node.{Node}
use Rattle.cluster_rules.specs.Home.{replies_in}
use Rattle.cluster_rules.specs.Lives.{Life, live, answered, added, after_act, without_bottom, link_to, carried}
use Rattle.cluster_rules.specs.Frames.{Frames, Parked, with_joined, taken_up, stack_sent, frames_item, frames_took, frames_of, stack_of}
use Rattle.cluster_rules.specs.Acting.{Wants, Acts, MaySpawn, MayMake, MayAct}
use Rattle.cluster_rules.specs.Edges.{MayGrant}
use Rattle.cluster_rules.specs.Runs.{Cluster, node_at, IsOwed, IsFree, MayDo, MayPost}
use Rattle.cluster_rules.specs.Allowed.{IsAllowed}
use Rattle.cluster_rules.specs.Positions.{Moved, Course, own}
use Rattle.cluster_rules.proofs.Stepping.{Carries, Step, Stepped}
use Rattle.cluster_rules.proofs.Letters.{Letter, without_letter, letters_on, letters_of, letters_hold}
use Rattle.cluster_rules.proofs.Summing.{one_or_two}
use Rattle.cluster_rules.proofs.Marks.{bottom_gone, first_is}
use Rattle.cluster_rules.proofs.Passing.{may_post}
use Rattle.cluster_rules.proofs.Holding.{own_first, own_other}
use Rattle.cluster_edges.proofs.Anywhere.{Saying, Each, OfBody, EachLetter, InFrames, Everywhere, Both}
use Rattle.cluster_edges.proofs.Anywhere.{each_both, letters_both, frames_both, each_append, each_parts, parked_append, live_each, with_joined_each, without_each, letter_of}

-- ---- what an event answers

abbrev pub answer_of : LoggedAct → Life → Answer
answer_of (act.Read word value) life = Value value
answer_of (act.Write word value) life = Done
answer_of (act.Print value) life = Done
answer_of (act.Spawn child procedure arguments) life = Done
answer_of act.Sync life = Children life.kept

abbrev pub ByItem : Node → Past → Item → Life → Answer → Type 0
ByItem node past (item.Act frame index act) life answer = Acts node past frame life × MayMake node past act life × (answer ≡ answer_of act life)
ByItem node past (item.Tick frame) life answer = Acts node past frame life × (Wants life want.Call ⊎ Wants life want.LoopTurn) × (answer ≡ Done)
ByItem node past (item.Drop page) life answer = ⊥
ByItem node past (item.TakeUp frame) life answer = ⊥
ByItem node past (item.OwnFetch page words) life answer = ⊥
ByItem node past (item.OwnReconcile part) life answer = ⊥
ByItem node past (item.Served frame index word old addend) life answer = Acts node past frame life × Wants life (want.Add word addend) × (answer ≡ Value old)

abbrev pub ByBody : Node → Past → Body → Life → Answer → Type 0
ByBody node past (body.Fetch page) life answer = ⊥
ByBody node past (body.Page page words) life answer = ⊥
ByBody node past (body.Reconcile parts) life answer = ⊥
ByBody node past body.Ack life answer = ⊥
ByBody node past body.Ask life answer = ⊥
ByBody node past (body.Grant closure) life answer = ⊥
ByBody node past body.Refuse life answer = ⊥
ByBody node past (body.Done join index value) life answer = ⊥
ByBody node past (body.Park join closure) life answer = ⊥
ByBody node past (body.Add frame index word addend) life answer = ⊥
ByBody node past (body.Added old) life answer = (below : List Life) × (stack_of node past ≡ life ∷ below) × (answer ≡ Value old)

-- the event answers the frame, which wanted something before
abbrev pub Answers : Node → Past → Event → Life → Answer → Type 0
Answers node past (Did done) life answer = ByItem node past done life answer
Answers node past (Sent message) life answer = ⊥
Answers node past (Took message) life answer = ByBody node past message.body life answer
Answers node past (Ended end) life answer = ⊥

-- What was said of each frame before an event lets the other be said of each behind it: of those that it leaves alone, of those that go into
-- a closure, of the one that it answers, and of a child.
pub record Keeps (node : Node) (past : Past) (event : Event) (P Q : Saying) : Type 0 where
  pub same : (id : FrameId) (goes : Meaning) → P id goes → Q id goes
  pub closes : (id : FrameId) (goes other : Meaning) (kept : List Deposit) → ((answers : List Answer) → other answers ≡ goes (at_sync kept answers)) → P id goes
      → Q id other
  pub acts : (life : Life) (answer : Answer) → Answers node past event life answer → P life.id life.goes → Q life.id (after life.goes answer)
  pub born : (frame : FrameId) (index : ℕ) (child : FrameId) (procedure : ℕ) (arguments : List ℤ) (life : Life)
      → event ≡ Did (item.Act frame index (act.Spawn child procedure arguments))
      → Acts node past frame life → MaySpawn node past child procedure arguments life → Q child (starts node.code (suc life.depth) procedure arguments)

module _ (node : Node) (past : Past) (P Q : Saying) where
  abbrev frames : Frames
  frames = frames_of node past

  same_both : (event : Event) → Keeps node past event P Q → Both P P Q
  same_both event keeps = λ id goes first second. keeps.same id goes first

  each_same : (event : Event) → Keeps node past event P Q → (lives : List Life) → Each P lives → Each Q lives
  each_same event keeps lives all = each_both P P Q (same_both event keeps) lives all all

  all_same : (event : Event) → Keeps node past event P Q → (here : Frames) → InFrames node.code P here → InFrames node.code Q here
  all_same event keeps here all = frames_both P P Q (same_both event keeps) node.code here all all

  -- ---- items

  with_stack_each : (event : Event) → Keeps node past event P Q → (stack : List Life) → Each Q stack → InFrames node.code P frames
      → InFrames node.code Q (record frames { stack = stack })
  with_stack_each event keeps stack all before =
      let rest = all_same event keeps frames before in record { stack = all; ready = rest.ready; parked = rest.parked }

  -- the first that has not returned, and those below it
  first_live : (frame : FrameId) (life : Life) → Acts node past frame life → Each P (stack_of node past)
      → (below : List Life) × (live (stack_of node past) ≡ life ∷ below) × Each P (life ∷ below)
  first_live frame life acts all =
      let first = first_is (live (stack_of node past)) life acts.is in
      (first.0, first.1, subst (Each P) first.1 (live_each P (stack_of node past) all))

  act_each : (frame : FrameId) (index : ℕ) (done : LoggedAct) → Keeps node past (Did (item.Act frame index done)) P Q → MayAct node past frame index done
      → Each P (stack_of node past)
      → Each Q (after_act node done (live (stack_of node past)))
  act_each frame index done keeps may all =
      let first = first_live frame may.life may.acts all in
      subst (λ stack. Each Q (after_act node done stack)) (sym first.1)
      (by_act done keeps may.life may.acts may.makes first.0 first.2)
    where
      by_act : (done : LoggedAct) → Keeps node past (Did (item.Act frame index done)) P Q → (life : Life) → Acts node past frame life
          → MayMake node past done life → (below : List Life)
          → Each P (life ∷ below) → Each Q (after_act node done (life ∷ below))
      by_act (act.Read word value) keeps life acts makes below all =
          (keeps.acts life (Value value) (acts, makes, refl) all.0, each_same (Did (item.Act frame index (act.Read word value))) keeps below all.1)
      by_act (act.Write word value) keeps life acts makes below all =
          (keeps.acts life Done (acts, makes, refl) all.0, each_same (Did (item.Act frame index (act.Write word value))) keeps below all.1)
      by_act (act.Print value) keeps life acts makes below all =
          (keeps.acts life Done (acts, makes, refl) all.0, each_same (Did (item.Act frame index (act.Print value))) keeps below all.1)
      by_act (act.Spawn child procedure arguments) keeps life acts makes below all = (
        keeps.born frame index child procedure arguments life refl acts makes,
        (keeps.acts life Done (acts, makes, refl) all.0, each_same (Did (item.Act frame index (act.Spawn child procedure arguments))) keeps below all.1),
      )
      by_act act.Sync keeps life acts makes below all =
          (keeps.acts life (Children life.kept) (acts, makes, refl) all.0, each_same (Did (item.Act frame index act.Sync)) keeps below all.1)

  taken_up_each : (event : Event) → Keeps node past event P Q → (stack ready : List Life) (parked : List Parked)
      → InFrames node.code P (record { stack = stack; ready = ready; parked = parked })
      → InFrames node.code Q (taken_up stack ready parked)
  taken_up_each event keeps stack [] parked all = all_same event keeps (record { stack = stack; ready = []; parked = parked }) all
  taken_up_each event keeps stack (life ∷ ready) parked all =
      let rest = all_same event keeps (record { stack = stack; ready = life ∷ ready; parked = parked }) all in
      record { stack = (rest.ready.0, tt); ready = rest.ready.1; parked = rest.parked }

  item_each : (done : Item) → Keeps node past (Did done) P Q → (rest : List Item) (posts : List Msg)
      → IsOwed node past done ⊎ (IsFree past × MayDo node past done rest posts)
      → InFrames node.code P frames → InFrames node.code Q (frames_item node done past frames)
  item_each (item.Act frame index done) keeps rest posts (inl owed) all = absurd owed
  item_each (item.Act frame index done) keeps rest posts (inr both) all =
      with_stack_each (Did (item.Act frame index done)) keeps (after_act node done (live frames.stack)) (act_each frame index done keeps both.1 all.stack) all
  item_each (item.Tick frame) keeps rest posts (inl owed) all = absurd owed
  item_each (item.Tick frame) keeps rest posts (inr both) all =
      let may = both.1 in
      let first = first_live frame may.life may.acts all.stack in
      with_stack_each (Did (item.Tick frame)) keeps (with_first (answered Done) (live frames.stack))
      (subst (λ stack. Each Q (with_first (answered Done) stack)) (sym first.1)
      (keeps.acts may.life Done (may.acts, may.wanted, refl) first.2.0, each_same (Did (item.Tick frame)) keeps first.0 first.2.1)) all
  item_each (item.Drop page) keeps rest posts may all = all_same (Did (item.Drop page)) keeps frames all
  item_each (item.TakeUp frame) keeps rest posts may all = taken_up_each (Did (item.TakeUp frame)) keeps frames.stack frames.ready frames.parked all
  item_each (item.OwnFetch page words) keeps rest posts may all =
      with_stack_each (Did (item.OwnFetch page words)) keeps (live frames.stack)
      (each_same (Did (item.OwnFetch page words)) keeps (live frames.stack) (live_each P frames.stack all.stack)) all
  item_each (item.OwnReconcile part) keeps rest posts may all = all_same (Did (item.OwnReconcile part)) keeps frames all
  item_each (item.Served frame index word old addend) keeps rest posts (inl serves) all =
      rw serves.oldest (all_same (Did (item.Served frame index word old addend)) keeps frames all)
  item_each (item.Served frame index word old addend) keeps rest posts (inr both) all =
      let may = both.1.add in
      let first = first_live frame may.life may.acts all.stack in
      rw both.0.none_owed
      (with_stack_each (Did (item.Served frame index word old addend)) keeps (added old (live frames.stack))
      (subst (λ stack. Each Q (added old stack)) (sym first.1) (
        keeps.acts may.life (Value old) (may.acts, may.wanted, refl) first.2.0,
        each_same (Did (item.Served frame index word old addend)) keeps first.0 first.2.1,
      )) all)

  -- ---- posts

  granted_each : (receiver : ℕ) (closure : Closure) → MayGrant node past receiver closure → Each P (stack_of node past)
      → Each P (without_bottom closure.join (stack_of node past))
  granted_each receiver closure may all =
      let parts = each_parts P may.above (may.child ∷ (may.parent ∷ [])) (subst (Each P) may.stack all) in
      subst (Each P) (sym (ap (without_bottom closure.join) may.stack ∙ bottom_gone closure.join may.above may.child may.parent))
      (each_append P may.above (record may.child { link = link_to closure.join } ∷ []) parts.0 (parts.1.0, tt))

  sent_each : (said : Body) (receiver : ℕ) → (replies_in said ≡ true) ⊎ MayPost node past receiver said → Each P (stack_of node past)
      → Each P (stack_sent said (stack_of node past))
  sent_each (body.Fetch page) receiver may all = live_each P (stack_of node past) all
  sent_each (body.Page page words) receiver may all = all
  sent_each (body.Reconcile parts) receiver may all = all
  sent_each body.Ack receiver may all = all
  sent_each body.Ask receiver may all = all
  sent_each (body.Grant closure) receiver (inl reply) all = absurd (cc)
  sent_each (body.Grant closure) receiver (inr may) all = granted_each receiver closure may all
  sent_each body.Refuse receiver may all = all
  sent_each (body.Done join index value) receiver may all = tt
  sent_each (body.Park join closure) receiver may all = tt
  sent_each (body.Add frame index word addend) receiver may all = live_each P (stack_of node past) all
  sent_each (body.Added old) receiver may all = all

  -- the frame that leaves
  leaves : (event : Event) → Keeps node past event P Q → (said : Body) (receiver : ℕ) → (replies_in said ≡ true) ⊎ MayPost node past receiver said
      → Each P (stack_of node past)
      → OfBody node.code Q said
  leaves event keeps (body.Fetch page) receiver may all = tt
  leaves event keeps (body.Page page words) receiver may all = tt
  leaves event keeps (body.Reconcile parts) receiver may all = tt
  leaves event keeps body.Ack receiver may all = tt
  leaves event keeps body.Ask receiver may all = tt
  leaves event keeps (body.Grant closure) receiver (inl reply) all = absurd (cc)
  leaves event keeps (body.Grant closure) receiver (inr may) all =
      let parts = each_parts P may.above (may.child ∷ (may.parent ∷ [])) (subst (Each P) may.stack all) in
      subst (λ id. Q id (wants node.code closure.frame.frame)) (sym may.state.id)
      (keeps.closes may.parent.id may.parent.goes (wants node.code closure.frame.frame) may.parent.kept may.state.goes parts.1.1.0)
  leaves event keeps body.Refuse receiver may all = tt
  leaves event keeps (body.Done join index value) receiver may all = tt
  leaves event keeps (body.Park join closure) receiver (inl reply) all = absurd (cc)
  leaves event keeps (body.Park join closure) receiver (inr may) all =
      let first = subst (Each P) may.at_join.alone (live_each P (stack_of node past) all) in
      subst (λ id. Q id (wants node.code closure.frame.frame)) (sym may.state.id)
      (keeps.closes may.life.id may.life.goes (wants node.code closure.frame.frame) may.life.kept may.state.goes first.0)
  leaves event keeps (body.Add frame index word addend) receiver may all = tt
  leaves event keeps (body.Added old) receiver may all = tt

  -- ---- takings

  added_each : (message : Msg) → Keeps node past (Took message) P Q → (old : ℤ) → message.body ≡ body.Added old → (stack : List Life)
      → stack_of node past ≡ stack → Each P stack
      → Each Q (added old stack)
  added_each message keeps old says [] is all = tt
  added_each message keeps old says (life ∷ below) is all = (
    keeps.acts life (Value old) (subst (λ said. ByBody node past said life (Value old)) (sym says) (below, is, refl)) all.0,
    each_same (Took message) keeps below all.1,
  )

  took_each : (message : Msg) → Keeps node past (Took message) P Q → (said : Body) → message.body ≡ said → (now : Past) → OfBody node.code P said
      → InFrames node.code P frames
      → InFrames node.code Q (frames_took node said now frames)
  took_each message keeps (body.Fetch page) says now brought all = all_same (Took message) keeps frames all
  took_each message keeps (body.Page page words) says now brought all = all_same (Took message) keeps frames all
  took_each message keeps (body.Reconcile parts) says now brought all = all_same (Took message) keeps frames all
  took_each message keeps body.Ack says now brought all = all_same (Took message) keeps frames all
  took_each message keeps body.Ask says now brought all = all_same (Took message) keeps frames all
  took_each message keeps (body.Grant closure) says now brought all =
      let more : Frames = record frames { ready = frames.ready ++ carried node closure ∷ [] } in
      all_same (Took message) keeps more
      (record { stack = all.stack; ready = each_append P frames.ready (carried node closure ∷ []) all.ready (brought, tt); parked = all.parked })
  took_each message keeps body.Refuse says now brought all = all_same (Took message) keeps frames all
  took_each message keeps (body.Done join index value) says now brought all =
      all_same (Took message) keeps (with_joined node now frames) (with_joined_each P node now frames all)
  took_each message keeps (body.Park join closure) says now brought all =
      let more : Frames = record frames { parked = frames.parked ++ record { join = join; closure = closure } ∷ [] } in
      all_same (Took message) keeps (with_joined node now more)
      (with_joined_each P node now more
      (record {
        stack = all.stack;
        ready = all.ready;
        parked = parked_append P node.code frames.parked (record { join = join; closure = closure } ∷ []) all.parked (brought, tt);
      }))
  took_each message keeps (body.Add frame index word addend) says now brought all = all_same (Took message) keeps frames all
  took_each message keeps (body.Added old) says now brought all =
      with_stack_each (Took message) keeps (added old frames.stack) (added_each message keeps old says frames.stack refl all.stack) all

  -- ---- each event

  -- the frame that the event brings
  abbrev pub Brings : Event → Type 0
  Brings (Did done) = Unit {0}
  Brings (Sent message) = Unit {0}
  Brings (Took message) = OfBody node.code P message.body
  Brings (Ended end) = Unit {0}

  pub event_each : (event : Event) → IsAllowed node past event → Keeps node past event P Q → Brings event → InFrames node.code P (frames_of node past)
      → InFrames node.code Q (frames_of node (event ∷ past))
  unfolding frames_of
  event_each (Did done) does keeps brings all = item_each done keeps does.rest does.posts does.may all
  event_each (Sent message) may keeps brings all =
      with_stack_each (Sent message) keeps (stack_sent message.body frames.stack)
      (each_same (Sent message) keeps (stack_sent message.body frames.stack)
      (sent_each message.body message.receiver (may_post node past message may) all.stack)) all
  event_each (Took message) may keeps brings all = took_each message keeps message.body refl (Took message ∷ past) brings all
  event_each (Ended end) may keeps brings all = all_same (Ended end) keeps frames all

-- ---- a course and one event more

module _ (cluster : Cluster) (course : Course) (moved : Moved) (stepped : Stepped cluster course) (step : Step cluster course moved) (P Q : Saying) where
  abbrev mover : Node
  mover = node_at cluster moved.node

  abbrev before_it : Past
  before_it = own moved.node course

  brought : (here : Option PostAt) (event : Event) → Carries course moved.node here event → EachLetter cluster.code P (letters_of course)
      → Brings mover before_it P Q event
  brought here (Did done) carries letters = tt
  brought here (Sent message) carries letters = tt
  brought here (Took message) carries letters =
      letter_of P cluster.code carries.place message (letters_of course)
      (letters_hold cluster course stepped carries.place message carries.was_posted carries.not_taken) letters
  brought here (Ended end) carries letters = tt

  letters_same : (event : Event) → Keeps mover before_it event P Q → (letters : List Letter) → EachLetter cluster.code P letters
      → EachLetter cluster.code Q letters
  letters_same event keeps letters all = letters_both P P Q (λ id goes first second. keeps.same id goes first) cluster.code letters all all

  letters_each : (here : Option PostAt) (event : Event) → IsAllowed mover before_it event → Keeps mover before_it event P Q → Each P (stack_of mover before_it)
      → EachLetter cluster.code P (letters_of course)
      → EachLetter cluster.code Q (letters_on event here (letters_of course))
  letters_each here (Did done) may keeps stack letters = letters_same (Did done) keeps (letters_of course) letters
  letters_each None (Sent message) may keeps stack letters = letters_same (Sent message) keeps (letters_of course) letters
  letters_each (Some place) (Sent message) may keeps stack letters = (
    leaves mover before_it P Q (Sent message) keeps message.body message.receiver (may_post mover before_it message may) stack,
    letters_same (Sent message) keeps (letters_of course) letters,
  )
  letters_each None (Took message) may keeps stack letters = letters_same (Took message) keeps (letters_of course) letters
  letters_each (Some place) (Took message) may keeps stack letters =
      letters_same (Took message) keeps (without_letter place (letters_of course)) (without_each P cluster.code place (letters_of course) letters)
  letters_each here (Ended end) may keeps stack letters = letters_same (Ended end) keeps (letters_of course) letters

  -- What holds of every frame anywhere, behind one event more.
  pub everywhere_next : Keeps mover before_it moved.event P Q → Everywhere cluster course P → Everywhere cluster (moved ∷ course) Q
  everywhere_next keeps all = record {
    at = λ number less. on number less (one_or_two number moved.node);
    letters = letters_each moved.message moved.event step.allowed keeps (all.at moved.node step.within).stack all.letters;
  }
    where
      here : InFrames cluster.code Q (frames_of mover (own moved.node (moved ∷ course)))
      here = subst (λ past. InFrames cluster.code Q (frames_of mover past)) (sym (own_first moved course))
          (event_each mover before_it P Q moved.event step.allowed keeps (brought moved.message moved.event step.carries all.letters)
          (all.at moved.node step.within))

      on : (number : ℕ) → number < cluster.config.nodes → (number ≡ moved.node) ⊎ (number ≢ moved.node)
          → InFrames cluster.code Q (frames_of (node_at cluster number) (own number (moved ∷ course)))
      on number less (inl same) = subst (λ it. InFrames cluster.code Q (frames_of (node_at cluster it) (own it (moved ∷ course)))) (sym same) here
      on number less (inr other) =
          subst (λ past. InFrames cluster.code Q (frames_of (node_at cluster number) past)) (sym (own_other number moved course other))
          (frames_both P P Q (λ id goes first second. keeps.same id goes first) cluster.code (frames_of (node_at cluster number) (own number course))
          (all.at number less) (all.at number less))
