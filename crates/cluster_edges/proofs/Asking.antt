-- While an add that a node asked for is not answered, the frame that wants it is the first on the node's stack.
use Rattle.std.proofs.Common.{◌≡◌, ◌⊎◌, inl, inr, ℕ, ℤ, List, [], ◌∷◌, ◌++◌, Option, Some, None, Bool, true, false, cond, eqb, refl, sym, ◌∙◌, ap, subst, length}
use Rattle.std.specs.List.{list_any}
use Rattle.cilk_meaning.specs.Wants as want
use Rattle.cilk_meaning.specs.Wants.{Asks}
use Rattle.page_messages.specs.declared.closure.FrameId.{FrameId}
use Rattle.page_messages.specs.declared.closure.JoinId.{JoinId}
use Rattle.page_messages.specs.declared.message.Msg.{Msg}
use Rattle.page_messages.specs.declared.message.Body.{Body}
use Rattle.page_messages.specs.declared.message.Body.TheVariants as body
use Rattle.page_messages.specs.declared.log.Item.{Item}
use Rattle.page_messages.specs.declared.log.Item.TheVariants as item
use Rattle.cluster_rules.specs.Walking.{is_empty}
use Rattle.cluster_rules.specs.Turns.{Event, Did, Sent, Took, Ended, Past}
use Rattle.cluster_rules.specs.Node.{Node}
use Rattle.cluster_rules.specs.Sendings.{ForAdded, awaits, ends, adds_in, tells_in}
use Rattle.cluster_rules.specs.Home.{replies_in}
use Rattle.cluster_rules.specs.Lives.{Life, want_of, returned, with_kept, live_from, live, added, without_bottom, link_to}
use Rattle.cluster_rules.specs.Frames.{Frames, frames_took, frames_on, frames_of, stack_of, stack_sent}
use Rattle.cluster_rules.specs.Runs.{Cluster, node_at, IsOwed, IsFree, MayDo, MayPost, MaySend}
use Rattle.cluster_rules.specs.Allowed.{IsAllowed, AllAllowed}
use Rattle.cluster_rules.specs.Positions.{Moved, Course, own, at, before}
use Rattle.cluster_rules.proofs.Stepping.{Step, Stepped}
use Rattle.cluster_rules.proofs.Summing.{one_or_two}
use Rattle.cluster_rules.proofs.Marks.{first_is, bottom_gone}
use Rattle.cluster_rules.proofs.Passing.{may_post}
use Rattle.cluster_rules.proofs.Holding.{own_first, own_other}
use Rattle.cluster_order.proofs.Answering.{any_waits}
use Rattle.cluster_rules.proofs.Testing.{neither}

-- the first of the stack is this frame, and wants this add
abbrev pub AsksFirst : FrameId → ℕ → ℤ → List Life → Type 0
AsksFirst frame word addend [] = ⊥
AsksFirst frame word addend (life ∷ below) = (life.id ≡ frame) × (want_of life ≡ Some (Asks (want.Add word addend)))

-- the first of the stack wants an add
abbrev pub AsksSome : List Life → Type 0
AsksSome stack = (frame : FrameId) × (word : ℕ) × (addend : ℤ) × AsksFirst frame word addend stack

-- it is the first, as this life
pub asks_life : (frame : FrameId) (word : ℕ) (addend : ℤ) (stack : List Life) → AsksFirst frame word addend stack
    → (life : Life) × (below : List Life) × (stack ≡ life ∷ below) × (life.id ≡ frame) × (want_of life ≡ Some (Asks (want.Add word addend)))
asks_life frame word addend [] first = absurd first
asks_life frame word addend (life ∷ below) first = (life, below, refl, first.0, first.1)

first_live_on : (life : Life) (below : List Life) (value : Option ℤ) → value ≡ None
    → elim value [ None ↦ with_kept [] life ∷ below | Some it ↦ live_from ((life.spawned.target, it) ∷ []) below ] ≡ with_kept [] life ∷ below
first_live_on life below value is =
    ap (λ value. elim value [ None ↦ with_kept [] life ∷ below | Some it ↦ live_from ((life.spawned.target, it) ∷ []) below ]) is

-- it has not returned
pub asks_live : (frame : FrameId) (word : ℕ) (addend : ℤ) (stack : List Life) → AsksFirst frame word addend stack
    → (life : Life) × (below : List Life) × (live stack ≡ life ∷ below) × (want_of life ≡ Some (Asks (want.Add word addend)))
asks_live frame word addend [] first = absurd first
asks_live frame word addend (life ∷ below) first = (with_kept [] life, below, first_live_on life below (returned life) (rw first.1 refl), first.1)

not_returned : (frame : FrameId) (word : ℕ) (addend : ℤ) (stack : List Life) → AsksFirst frame word addend stack → live stack ≡ [] → ⊥
not_returned frame word addend stack first none =
    let it = asks_live frame word addend stack first in let same : it.0 ∷ it.1 ≡ [] = sym it.2 ∙ none in absurd (cc)

-- and is not at its Sync
not_syncing : (frame : FrameId) (word : ℕ) (addend : ℤ) (stack : List Life) (life : Life) → AsksFirst frame word addend stack → live stack ≡ life ∷ []
    → want_of life ≡ Some (Asks want.Sync) → ⊥
not_syncing frame word addend stack life first alone syncs =
    let it = asks_live frame word addend stack first in
    let same_list : it.0 ∷ it.1 ≡ life ∷ [] = sym it.2 ∙ alone in
    let same : it.0 ≡ life = cc in
    let wants : want_of life ≡ Some (Asks (want.Add word addend)) = ap want_of (sym same) ∙ it.3 in
    let both = sym syncs ∙ wants in
    absurd (cc)

above_first : (frame : FrameId) (word : ℕ) (addend : ℤ) (join : Option JoinId) (above : List Life) (child parent : Life)
    → AsksFirst frame word addend (above ++ (child ∷ (parent ∷ []))) → AsksFirst frame word addend (above ++ (record child { link = link_to join } ∷ []))
above_first frame word addend join [] child parent first = first
above_first frame word addend join (life ∷ above) child parent first = first

took_first : (node : Node) (frame : FrameId) (word : ℕ) (addend : ℤ) (said : Body) (past : Past) (frames : Frames) → tells_in said ≡ false
    → AsksFirst frame word addend frames.stack → AsksFirst frame word addend ((frames_took node said past frames).stack)
took_first node frame word addend (body.Fetch page) past frames other first = first
took_first node frame word addend (body.Page page words) past frames other first = first
took_first node frame word addend (body.Reconcile parts) past frames other first = first
took_first node frame word addend body.Ack past frames other first = first
took_first node frame word addend body.Ask past frames other first = first
took_first node frame word addend (body.Grant closure) past frames other first = first
took_first node frame word addend body.Refuse past frames other first = first
took_first node frame word addend (body.Done join index value) past frames other first = first
took_first node frame word addend (body.Park join closure) past frames other first = first
took_first node frame word addend (body.Add asking index place more) past frames other first = first
took_first node frame word addend (body.Added old) past frames other first = absurd (cc)

-- ---- what a node does while it waits for the old value

module _ (node : Node) (past : Past) (waits : awaits ForAdded past ≡ true) (frame : FrameId) (word : ℕ) (addend : ℤ)
    (first : AsksFirst frame word addend (stack_of node past)) where
  -- that frame is the first, and wants that add
  abbrev StillFirst : List Life → Type 0
  StillFirst stack = AsksFirst frame word addend stack

  sent_first : (said : Body) (receiver : ℕ) → (replies_in said ≡ true) ⊎ MayPost node past receiver said → StillFirst (stack_sent said (stack_of node past))
  sent_first (body.Fetch page) receiver (inl reply) = absurd (cc)
  sent_first (body.Fetch page) receiver (inr may) = let quiet = may.quiet ForAdded in absurd (cc)
  sent_first (body.Page page words) receiver may = first
  sent_first (body.Reconcile parts) receiver may = first
  sent_first body.Ack receiver may = first
  sent_first body.Ask receiver may = first
  sent_first (body.Grant closure) receiver (inl reply) = absurd (cc)
  sent_first (body.Grant closure) receiver (inr may) =
      subst StillFirst (sym (ap (without_bottom closure.join) may.stack ∙ bottom_gone closure.join may.above may.child may.parent))
      (above_first frame word addend closure.join may.above may.child may.parent (subst StillFirst may.stack first))
  sent_first body.Refuse receiver may = first
  sent_first (body.Done join index value) receiver (inl reply) = absurd (cc)
  sent_first (body.Done join index value) receiver (inr may) = absurd (not_returned frame word addend (stack_of node past) first may.returned.none_left)
  sent_first (body.Park join closure) receiver (inl reply) = absurd (cc)
  sent_first (body.Park join closure) receiver (inr may) =
      absurd (not_syncing frame word addend (stack_of node past) may.life first may.at_join.alone may.at_join.wanted)
  sent_first (body.Add asking index place more) receiver (inl reply) = absurd (cc)
  sent_first (body.Add asking index place more) receiver (inr may) = let quiet = may.quiet ForAdded in absurd (cc)
  sent_first (body.Added old) receiver may = first

  -- the stack behind an event
  abbrev behind : Event → List Life
  behind event = (frames_on node event past (frames_of node past)).stack

  item_first : (done : Item) (rest : List Item) (posts : List Msg) → IsOwed node past done ⊎ (IsFree past × MayDo node past done rest posts)
      → StillFirst (behind (Did done))
  item_first done rest posts (inr both) = let quiet = both.0.quiet ForAdded in absurd (cc)
  item_first (item.Act acting index act) rest posts (inl owed) = absurd owed
  item_first (item.Tick acting) rest posts (inl owed) = absurd owed
  item_first (item.Drop page) rest posts (inl owed) = absurd owed
  item_first (item.TakeUp taken) rest posts (inl owed) = absurd owed
  item_first (item.OwnFetch page words) rest posts (inl owed) = absurd owed
  item_first (item.OwnReconcile part) rest posts (inl owed) = absurd owed
  item_first (item.Served asking index place old more) rest posts (inl serves) =
      subst (λ owed. StillFirst (cond (is_empty owed) (added old (live (stack_of node past))) (stack_of node past))) (sym serves.oldest) first

  event_first : (event : Event) → IsAllowed node past event → ends ForAdded event ≡ false → StillFirst (stack_of node (event ∷ past))
  unfolding frames_of
  event_first (Did done) does other = item_first done does.rest does.posts does.may
  event_first (Sent message) may other = sent_first message.body message.receiver (may_post node past message may)
  event_first (Took message) may other = took_first node frame word addend message.body (Took message ∷ past) (frames_of node past) other first
  event_first (Ended end) may other = first

asked_here : (node : Node) (past : Past) (frame : FrameId) (index word : ℕ) (addend : ℤ) (receiver : ℕ) (said : Body) → said ≡ body.Add frame index word addend
    → (replies_in said ≡ true) ⊎ MayPost node past receiver said → AsksFirst frame word addend (stack_sent said (stack_of node past))
asked_here node past frame index word addend receiver said is (inl reply) = let none : replies_in said ≡ false = ap replies_in is in absurd (cc)
asked_here node past frame index word addend receiver said is (inr may) =
    let add : MayPost node past receiver (body.Add frame index word addend) = subst (MayPost node past receiver) is may in
    let first = first_is (live (stack_of node past)) add.add.life add.add.acts.is in
    subst (λ it. AsksFirst frame word addend (stack_sent it (stack_of node past))) (sym is)
    (subst (AsksFirst frame word addend) (sym first.1) (sym add.add.acts.named, add.add.wanted))

asked_now : (node : Node) (past : Past) (message : Msg) (frame : FrameId) (index word : ℕ) (addend : ℤ) → MaySend node past message
    → message.body ≡ body.Add frame index word addend
    → AsksFirst frame word addend (stack_of node (Sent message ∷ past))
unfolding frames_of
asked_now node past message frame index word addend may is =
    asked_here node past frame index word addend message.receiver message.body is (may_post node past message may)

-- The frame whose add was asked for stays the first, and wants it still, until the old value comes.
pub asks_since : (node : Node) (newer older : Past) (message : Msg) (frame : FrameId) (index word : ℕ) (addend : ℤ)
    → AllAllowed node (newer ++ Sent message ∷ older)
    → message.body ≡ body.Add frame index word addend → list_any (ends ForAdded) newer ≡ false
    → AsksFirst frame word addend (stack_of node (newer ++ Sent message ∷ older))
asks_since node [] older message frame index word addend all is none = asked_now node older message frame index word addend all.0 is
asks_since node (event ∷ newer) older message frame index word addend all is none =
    let both = neither (ends ForAdded event) (list_any (ends ForAdded) newer) none in
    event_first node (newer ++ Sent message ∷ older) (any_waits ForAdded newer (Sent message) older both.1 refl (ap adds_in is)) frame word addend
    (asks_since node newer older message frame index word addend all.1 is both.1) event all.0 both.0

-- Each event of a node is allowed behind those before it.
pub stepped_allowed : (cluster : Cluster) (course : Course) → Stepped cluster course → (number : ℕ) → AllAllowed (node_at cluster number) (own number course)
stepped_allowed cluster [] stepped number = tt
stepped_allowed cluster (moved ∷ course) stepped number = on (one_or_two number moved.node) (stepped_allowed cluster course stepped.0)
  where
    on : (number ≡ moved.node) ⊎ ((number ≡ moved.node) → ⊥) → ((number : ℕ) → AllAllowed (node_at cluster number) (own number course))
        → AllAllowed (node_at cluster number) (own number (moved ∷ course))
    on (inl same) rest =
        subst (λ it. AllAllowed (node_at cluster it) (own it (moved ∷ course))) (sym same)
        (subst (AllAllowed (node_at cluster moved.node)) (sym (own_first moved course)) (stepped.1.allowed, rest moved.node))
    on (inr other) rest = subst (AllAllowed (node_at cluster number)) (sym (own_other number moved course other)) (rest number)

-- The event at a position is a step behind what was before it.
pub step_at : (cluster : Cluster) (course : Course) → Stepped cluster course → (position : ℕ) (moved : Moved) → at course position ≡ Some moved
    → Step cluster (before course position) moved
step_at cluster [] stepped position moved found = absurd (cc)
step_at cluster (latest ∷ course) stepped position moved found = on (eqb position (length course)) refl found (step_at cluster course stepped.0 position moved)
  where
    on : (b : Bool) → eqb position (length course) ≡ b → cond b (Some latest) (at course position) ≡ Some moved
        → (at course position ≡ Some moved → Step cluster (before course position) moved)
        → Step cluster (cond b course (before course position)) moved
    on true is here rest = let same : latest ≡ moved = cc in subst (Step cluster course) same stepped.1
    on false is here rest = rest here
