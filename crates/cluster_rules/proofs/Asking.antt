-- One Add of a node is under way at most, and while one is, the frame that wants it stays the first of the stack.
use Rattle.std.proofs.Common.{◌≡◌, ◌≢◌, ◌≤◌, ◌<◌, ◌+◌, ◌⊎◌, inl, inr, ℕ, ℤ, List, [], ◌∷◌}
use Rattle.std.proofs.Common.{Option, Bool, true, false, cond, eqb, ◌&&◌, ◌||◌, refl, sym, ◌∙◌, ap, subst, arith}
use Rattle.std.specs.Ordering.{int_eq}
use Rattle.cilk_meaning.specs.declared.ends.NodeEnd.{NodeEnd}
use Rattle.page_messages.specs.declared.closure.FrameId.{FrameId}
use Rattle.page_messages.specs.declared.message.Msg.{Msg}
use Rattle.page_messages.specs.declared.message.Body.{Body}
use Rattle.page_messages.specs.declared.message.Body.TheVariants as body
use Rattle.page_messages.specs.declared.log.Item.{Item}
use Rattle.page_messages.specs.declared.log.Item.TheVariants as item
use Rattle.page_messages.specs.declared.log.PostAt.{PostAt}
use Rattle.cluster_rules.specs.Turns.{Event, Did, Sent, Took, Ended, Past}
use Rattle.cluster_rules.specs.Sendings.{ForAdded, adds_in, tells_in, awaits}
use Rattle.cluster_rules.specs.Home.{replies_in, owed_adds, owed_olds, told_by}
use Rattle.cluster_rules.specs.Lives.{same_frame, live}
use Rattle.cluster_rules.specs.Frames.{stack_sent, frames_took, frames_of, stack_of}
use Rattle.cluster_rules.specs.Acting.{MayPostAdd, Serves}
use Rattle.cluster_rules.specs.Runs.{Cluster, node_at, IsFree, IsOwed, MayDo, MayPost}
use Rattle.cluster_rules.specs.Positions.{Course, own}
use Rattle.cluster_rules.proofs.Stepping.{Posts, Takes, Step, Stepped}
use Rattle.cluster_rules.proofs.Summing.{sum_none, one_or_two}
use Rattle.cluster_rules.proofs.Marks.{one, same_self, first_is}
use Rattle.cluster_rules.proofs.Passing.{may_post}
use Rattle.cluster_rules.proofs.Holding.{own_first, own_other}
use Rattle.cluster_rules.proofs.Phases.{Phase, Idle, Asked, Told, after_post, after_taking, after_adding, after_item, phase_of, waits_in}
use Rattle.cluster_rules.proofs.Phases.{is_asked, is_told, IsFirst, first_idle, awaits_told, awaits_took}
use Rattle.cluster_rules.proofs.UnderWay.{adds_body, add_from, only_adds, under_way, first_amount, serves_amount, tells_body, old_to, to_tell, amount_in, moved_by}
use Rattle.cluster_rules.proofs.UnderWay.{none_waits, adds_sent, adds_took, adds_ended, adds_did, owed_counts, olds_ended, olds_took, olds_did, olds_posted, olds_told}
use Rattle.cluster_rules.proofs.Phasing.{Phased, equal_number, cond_same, is_one, asked_same, told_same, own_value, first_granted, first_done}
use Rattle.cluster_rules.proofs.Testing.{own_number, other_number}
use Rattle.cluster_rules.proofs.Phasing.{first_parked, awaits_more, stack_more, first_more, kept, quiet_idle}

-- it tells no old value
abbrev TellsNone : Body → Type 0
TellsNone said = (such : ℤ → Bool) (number receiver : ℕ) → tells_body such number receiver said ≡ false

-- ---- one event more

module _ (cluster : Cluster) (course : Course) (node : ℕ) (here : Option PostAt) (less : node < cluster.config.nodes) (phased : Phased cluster course) where
  abbrev past : Past
  past = own node course

  abbrev more : Event → Course
  more event = moved_by node event here ∷ course

  -- ---- items

  did_kept : (done : Item) → ((number : ℕ) (phase : Phase) → after_item number done (owed_adds past) phase ≡ phase)
      → ((amount : Msg → ℕ) → serves_amount amount done (owed_adds past) ≡ 0)
      → told_by (node_at cluster node) done (owed_adds past) ≡ [] → IsFree past → Phased cluster (more (Did done))
  did_kept done same served told free =
      kept cluster course node here less phased (Did done) (λ number. same number (phase_of number course))
      (λ number frame index. let adds = adds_did cluster course node here less (add_from number frame index) done in
      let none = served (add_from number frame index) in omega (arith, adds, none))
      (λ such number. let olds = olds_did cluster course node here less such number done in
      let none : amount_in (old_to such number) (told_by (node_at cluster node) done (owed_adds past)) ≡ 0 = ap (amount_in (old_to such number)) told in
      omega (arith, olds, none))
      refl (first_idle (phase_of node course) (stack_of (node_at cluster node) (Did done ∷ past)) (quiet_idle cluster course node here less phased free.quiet))

  module _ (frame : FrameId) (index word : ℕ) (old addend : ℤ) (serves : Serves (node_at cluster node) past frame index word old addend) where
    abbrev served : Event
    served = Did (item.Served frame index word old addend)

    abbrev asker : ℕ
    asker = serves.add.sender

    add_is : (number : ℕ) (other : FrameId) (acts : ℕ)
        → first_amount (add_from number other acts) (owed_adds past) ≡ one (eqb asker number && (same_frame frame other && eqb index acts))
    add_is number other acts = ap (first_amount (add_from number other acts)) serves.oldest ∙ ap (λ it. one (adds_body number other acts asker it)) serves.asked

    pub was_asked : phase_of asker course ≡ Asked frame index
    was_asked =
        let counts = owed_counts cluster course node here less (add_from asker frame index) in
        let here_one : first_amount (add_from asker frame index) (owed_adds past) ≡ 1 = add_is asker frame index ∙ rw (own_number asker, same_self frame, own_number index) refl in
        let before = phased.adds asker frame index in
        asked_same frame index (phase_of asker course) (is_one (is_asked frame index (phase_of asker course)) (omega (arith, counts, here_one, before)))

    pub phase_served : (number : ℕ) → phase_of number (more served) ≡ cond (eqb asker number) (Told frame index old) (phase_of number course)
    phase_served number = ap (λ adds. after_adding number frame index old adds (phase_of number course)) serves.oldest

    pub phase_asker : phase_of asker (more served) ≡ Told frame index old
    phase_asker = phase_served asker ∙ ap (λ b. cond b (Told frame index old) (phase_of asker course)) (own_number asker)

    pub phase_others : (number : ℕ) → eqb asker number ≡ false → phase_of number (more served) ≡ phase_of number course
    phase_others number other = phase_served number ∙ ap (λ b. cond b (Told frame index old) (phase_of number course)) other

    stack_stays : stack_of (node_at cluster node) (served ∷ past) ≡ stack_of (node_at cluster node) past
    unfolding frames_of
    stack_stays = rw serves.oldest refl

    -- for the asker, and for the others
    by_number : (P : ℕ → Type 0) → P asker → ((number : ℕ) → eqb asker number ≡ false → P number) → (number : ℕ) → P number
    by_number P asks others number = on (eqb asker number) refl
      where
        on : (b : Bool) → eqb asker number ≡ b → P number
        on true is = subst P (equal_number asker number is) asks
        on false is = others number is

    abbrev tells : List Msg → List Msg
    tells = told_by (node_at cluster node) (item.Served frame index word old addend)

    told_amount : (such : ℤ → Bool) (number : ℕ) → amount_in (old_to such number) (tells (owed_adds past)) ≡ one (eqb asker number && such old) + 0
    told_amount such number = ap (λ it. amount_in (old_to such number) (tells it)) serves.oldest

    adds_asker : (other : FrameId) (acts : ℕ) → under_way cluster (more served) asker other acts ≡ one (is_asked other acts (phase_of asker (more served)))
    adds_asker other acts =
        let change = adds_did cluster course node here less (add_from asker other acts) (item.Served frame index word old addend) in
        let amount : first_amount (add_from asker other acts) (owed_adds past) ≡ one (same_frame frame other && eqb index acts) =
        add_is asker other acts ∙ rw (own_number asker) refl in
        let before : under_way cluster course asker other acts ≡ one (same_frame frame other && eqb index acts) =
        phased.adds asker other acts ∙ ap (λ it. one (is_asked other acts it)) was_asked in
        let after : one (is_asked other acts (phase_of asker (more served))) ≡ 0 = ap (λ it. one (is_asked other acts it)) phase_asker in
        omega (arith, change, amount, before, after)

    adds_others : (other : FrameId) (acts number : ℕ) → eqb asker number ≡ false
        → under_way cluster (more served) number other acts ≡ one (is_asked other acts (phase_of number (more served)))
    adds_others other acts number apart =
        let change = adds_did cluster course node here less (add_from number other acts) (item.Served frame index word old addend) in
        let amount : first_amount (add_from number other acts) (owed_adds past) ≡ 0 = add_is number other acts ∙ rw apart refl in
        let before = phased.adds number other acts in
        let after : one (is_asked other acts (phase_of number (more served))) ≡ one (is_asked other acts (phase_of number course)) =
        ap (λ it. one (is_asked other acts it)) (phase_others number apart) in
        omega (arith, change, amount, before, after)

    olds_asker : (such : ℤ → Bool) → to_tell cluster (more served) such asker ≡ one (is_told such (phase_of asker (more served)))
    olds_asker such =
        let change = olds_did cluster course node here less such asker (item.Served frame index word old addend) in
        let amount : amount_in (old_to such asker) (tells (owed_adds past)) ≡ one (such old) + 0 =
        told_amount such asker ∙ ap (λ b. one (b && such old) + 0) (own_number asker) in
        let before : to_tell cluster course such asker ≡ 0 = phased.olds such asker ∙ ap (λ it. one (is_told such it)) was_asked in
        let after : one (is_told such (phase_of asker (more served))) ≡ one (such old) = ap (λ it. one (is_told such it)) phase_asker in
        omega (arith, change, amount, before, after)

    olds_others : (such : ℤ → Bool) (number : ℕ) → eqb asker number ≡ false
        → to_tell cluster (more served) such number ≡ one (is_told such (phase_of number (more served)))
    olds_others such number apart =
        let change = olds_did cluster course node here less such number (item.Served frame index word old addend) in
        let amount : amount_in (old_to such number) (tells (owed_adds past)) ≡ 0 = told_amount such number ∙ ap (λ b. one (b && such old) + 0) apart in
        let before = phased.olds such number in
        let after : one (is_told such (phase_of number (more served))) ≡ one (is_told such (phase_of number course)) =
        ap (λ it. one (is_told such it)) (phase_others number apart) in
        omega (arith, change, amount, before, after)

    served_phased : Phased cluster (more served)
    served_phased = record {
      within = by_number (λ number. waits_in (phase_of number (more served)) ≡ true → number < cluster.config.nodes)
          (λ waits. phased.within asker (ap waits_in was_asked))
          (λ number apart waits. phased.within number (ap waits_in (sym (phase_others number apart)) ∙ waits));
      waiting = by_number (λ number. awaits ForAdded (own number (more served)) ≡ waits_in (phase_of number (more served)))
          (awaits_more cluster course node here less phased served refl asker ∙ phased.waiting asker ∙ ap waits_in was_asked ∙ ap waits_in (sym phase_asker))
          (λ number apart. awaits_more cluster course node here less phased served refl number ∙ phased.waiting number
          ∙ ap waits_in (sym (phase_others number apart)));
      first = by_number (λ number. IsFirst (phase_of number (more served)) (stack_of (node_at cluster number) (own number (more served))))
          (subst (IsFirst (phase_of asker (more served))) (sym (stack_more cluster course node here less phased served stack_stays asker))
          (subst (λ it. IsFirst it (stack_of (node_at cluster asker) (own asker course))) (sym phase_asker)
          (subst (λ it. IsFirst it (stack_of (node_at cluster asker) (own asker course))) was_asked (phased.first asker))))
          (λ number apart. subst (IsFirst (phase_of number (more served))) (sym (stack_more cluster course node here less phased served stack_stays number))
          (subst (λ it. IsFirst it (stack_of (node_at cluster number) (own number course))) (sym (phase_others number apart)) (phased.first number)));
      adds =
          λ number other acts.
          by_number (λ number. under_way cluster (more served) number other acts ≡ one (is_asked other acts (phase_of number (more served))))
          (adds_asker other acts) (λ number apart. adds_others other acts number apart) number;
      olds = λ such. by_number (λ number. to_tell cluster (more served) such number ≡ one (is_told such (phase_of number (more served))))
          (olds_asker such) (olds_others such);
    }

  free_of : (done : Item) (rest : List Item) (posts : List Msg) → (IsOwed (node_at cluster node) past done → ⊥)
      → IsOwed (node_at cluster node) past done ⊎ (IsFree past × MayDo (node_at cluster node) past done rest posts) → IsFree past
  free_of done rest posts never (inl owed) = absurd (never owed)
  free_of done rest posts never (inr both) = both.0

  did_phased : (done : Item) (rest : List Item) (posts : List Msg)
      → IsOwed (node_at cluster node) past done ⊎ (IsFree past × MayDo (node_at cluster node) past done rest posts)
      → Phased cluster (more (Did done))
  did_phased (item.Act frame index act) rest posts may =
      did_kept (item.Act frame index act) (λ number phase. refl) (λ amount. refl) refl (free_of (item.Act frame index act) rest posts (λ owed. owed) may)
  did_phased (item.Tick frame) rest posts may =
      did_kept (item.Tick frame) (λ number phase. refl) (λ amount. refl) refl (free_of (item.Tick frame) rest posts (λ owed. owed) may)
  did_phased (item.Drop page) rest posts may =
      did_kept (item.Drop page) (λ number phase. refl) (λ amount. refl) refl (free_of (item.Drop page) rest posts (λ owed. owed) may)
  did_phased (item.TakeUp frame) rest posts may =
      did_kept (item.TakeUp frame) (λ number phase. refl) (λ amount. refl) refl (free_of (item.TakeUp frame) rest posts (λ owed. owed) may)
  did_phased (item.OwnFetch page words) rest posts may =
      did_kept (item.OwnFetch page words) (λ number phase. refl) (λ amount. refl) refl (free_of (item.OwnFetch page words) rest posts (λ owed. owed) may)
  did_phased (item.OwnReconcile part) rest posts may =
      did_kept (item.OwnReconcile part) (λ number phase. refl) (λ amount. refl) refl (free_of (item.OwnReconcile part) rest posts (λ owed. owed) may)
  did_phased (item.Served frame index word old addend) rest posts (inl serves) = served_phased frame index word old addend serves
  did_phased (item.Served frame index word old addend) rest posts (inr both) =
      let none = both.0.none_owed in
      did_kept (item.Served frame index word old addend) (λ number phase. ap (λ adds. after_adding number frame index old adds phase) none)
      (λ amount. ap (first_amount amount) none)
      (ap (told_by (node_at cluster node) (item.Served frame index word old addend)) none) both.0

  -- ---- posts

  module _ (message : Msg) (posts : Posts course node here message) where
    abbrev post : Event
    post = Sent message

    pub phase_posted : (number : ℕ) (said : Body) → message.body ≡ said
        → phase_of number (more post) ≡ cond (eqb node number) (after_post said (phase_of number course)) (phase_of number course)
    phase_posted number said is = ap (λ it. cond (eqb node number) (after_post it (phase_of number course)) (phase_of number course)) is

    -- it is neither an Add nor an Added
    other_post : (said : Body) → message.body ≡ said → ((phase : Phase) → after_post said phase ≡ phase)
        → ((such : ℤ → Bool) (number : ℕ) → to_tell cluster (more post) such number ≡ to_tell cluster course such number) → adds_in said ≡ false
        → IsFirst (phase_of node course) (stack_sent said (stack_of (node_at cluster node) past)) → Phased cluster (more post)
    unfolding frames_of
    other_post said is same olds waits first =
        kept cluster course node here less phased post
        (λ number. phase_posted number said is ∙ cond_same (eqb node number) (after_post said (phase_of number course)) (phase_of number course)
        (same (phase_of number course)))
        (λ number frame index. let sent = adds_sent cluster course node here less (add_from number frame index) message posts in
        let none = only_adds number frame index message (ap adds_in is ∙ waits) in omega (arith, sent, none))
        olds (ap (λ it. adds_in it || awaits ForAdded past) is ∙ ap (λ b. b || awaits ForAdded past) waits)
        (subst (λ it. IsFirst (phase_of node course) (stack_sent it (stack_of (node_at cluster node) past))) (sym is) first)

    olds_stay : (said : Body) → message.body ≡ said → tells_in said ≡ false → TellsNone said
        → (such : ℤ → Bool) (number : ℕ) → to_tell cluster (more post) such number ≡ to_tell cluster course such number
    olds_stay said is other none such number =
        olds_posted cluster course node here less such number message posts (ap tells_in is ∙ other)
        (ap (λ it. one (tells_body such number message.receiver it)) is ∙ ap one (none such number message.receiver))

    module _ (frame : FrameId) (index word : ℕ) (addend : ℤ) (is : message.body ≡ body.Add frame index word addend)
        (may : MayPostAdd (node_at cluster node) past message.receiver frame index word addend) where
      pub phase_node : phase_of node (more post) ≡ Asked frame index
      phase_node = phase_posted node (body.Add frame index word addend) is ∙ ap (λ b. cond b (Asked frame index) (phase_of node course)) (own_number node)

      pub phase_apart : (number : ℕ) → number ≢ node → phase_of number (more post) ≡ phase_of number course
      phase_apart number not = phase_posted number (body.Add frame index word addend) is
          ∙ ap (λ b. cond b (Asked frame index) (phase_of number course)) (other_number node number (λ same. not (sym same)))

      pub was_idle : phase_of node course ≡ Idle
      was_idle = quiet_idle cluster course node here less phased may.quiet

      add_amount : (number : ℕ) (other : FrameId) (acts : ℕ)
          → add_from number other acts message ≡ one (eqb node number && (same_frame frame other && eqb index acts))
      add_amount number other acts =
          ap (λ it. one (adds_body number other acts message.sender it)) is
          ∙ ap (λ it. one (eqb it number && (same_frame frame other && eqb index acts))) posts.sender

      first_asks : IsFirst (Asked frame index) (live (stack_of (node_at cluster node) past))
      first_asks =
          let top = first_is (live (stack_of (node_at cluster node) past)) may.add.life may.add.acts.is in
          subst (IsFirst (Asked frame index)) (sym top.1) (sym may.add.acts.named, sym may.add.index_is, (word, addend, may.add.wanted))

      first_post : IsFirst (phase_of node (more post)) (stack_of (node_at cluster node) (post ∷ past))
      unfolding frames_of
      first_post =
          subst (λ it. IsFirst it (stack_of (node_at cluster node) (post ∷ past))) (sym phase_node)
          (subst (λ it. IsFirst (Asked frame index) (stack_sent it (stack_of (node_at cluster node) past))) (sym is) first_asks)

      by_node : (P : ℕ → Type 0) → P node → ((number : ℕ) → number ≢ node → P number) → (number : ℕ) → P number
      by_node P this others number = on (one_or_two number node)
        where
          on : (number ≡ node) ⊎ (number ≢ node) → P number
          on (inl same) = subst P (sym same) this
          on (inr not) = others number not

      adds_node : (other : FrameId) (acts : ℕ) → under_way cluster (more post) node other acts ≡ one (is_asked other acts (phase_of node (more post)))
      adds_node other acts =
          let sent = adds_sent cluster course node here less (add_from node other acts) message posts in
          let amount : add_from node other acts message ≡ one (same_frame frame other && eqb index acts) =
          add_amount node other acts ∙ rw (own_number node) refl in
          let before : under_way cluster course node other acts ≡ 0 = phased.adds node other acts ∙ ap (λ it. one (is_asked other acts it)) was_idle in
          let after : one (is_asked other acts (phase_of node (more post))) ≡ one (same_frame frame other && eqb index acts) =
          ap (λ it. one (is_asked other acts it)) phase_node in
          omega (arith, sent, amount, before, after)

      adds_apart : (other : FrameId) (acts number : ℕ) → number ≢ node
          → under_way cluster (more post) number other acts ≡ one (is_asked other acts (phase_of number (more post)))
      adds_apart other acts number not =
          let sent = adds_sent cluster course node here less (add_from number other acts) message posts in
          let amount : add_from number other acts message ≡ 0 = add_amount number other acts
          ∙ ap (λ b. one (b && (same_frame frame other && eqb index acts))) (other_number node number (λ same. not (sym same))) in
          let before = phased.adds number other acts in
          let after : one (is_asked other acts (phase_of number (more post))) ≡ one (is_asked other acts (phase_of number course)) =
          ap (λ it. one (is_asked other acts it)) (phase_apart number not) in
          omega (arith, sent, amount, before, after)

      olds_same : (such : ℤ → Bool) (number : ℕ) → to_tell cluster (more post) such number ≡ to_tell cluster course such number
      olds_same = olds_stay (body.Add frame index word addend) is refl (λ such number receiver. refl)

      add_phased : Phased cluster (more post)
      add_phased = record {
        within = by_node (λ number. waits_in (phase_of number (more post)) ≡ true → number < cluster.config.nodes) (λ waits. less)
            (λ number not waits. phased.within number (ap waits_in (sym (phase_apart number not)) ∙ waits));
        waiting = by_node (λ number. awaits ForAdded (own number (more post)) ≡ waits_in (phase_of number (more post)))
            (ap (awaits ForAdded) (own_first (moved_by node post here) course) ∙ ap (λ it. adds_in it || awaits ForAdded past) is
            ∙ ap waits_in (sym phase_node))
            (λ number not. ap (awaits ForAdded) (own_other number (moved_by node post here) course not) ∙ phased.waiting number
            ∙ ap waits_in (sym (phase_apart number not)));
        first = first_more cluster course node here less phased post phase_apart first_post;
        adds =
            λ number other acts. by_node (λ number. under_way cluster (more post) number other acts ≡ one (is_asked other acts (phase_of number (more post))))
            (adds_node other acts) (adds_apart other acts) number;
        olds = λ such. by_node (λ number. to_tell cluster (more post) such number ≡ one (is_told such (phase_of number (more post))))
            (olds_same such node ∙ phased.olds such node ∙ ap (λ it. one (is_told such it)) was_idle ∙ ap (λ it. one (is_told such it)) (sym phase_node))
            (λ number not. olds_same such number ∙ phased.olds such number ∙ ap (λ it. one (is_told such it)) (sym (phase_apart number not)));
      }

    abbrev first_here : IsFirst (phase_of node course) (stack_of (node_at cluster node) past)
    first_here = phased.first node

    sent_phased : (said : Body) → message.body ≡ said → (replies_in said ≡ true) ⊎ MayPost (node_at cluster node) past message.receiver said
        → Phased cluster (more post)
    sent_phased (body.Fetch page) is (inl reply) = absurd (cc)
    sent_phased (body.Fetch page) is (inr may) =
        other_post (body.Fetch page) is (λ phase. refl)
        (olds_stay (body.Fetch page) is refl (λ such number receiver. refl)) refl
        (first_idle (phase_of node course) (live (stack_of (node_at cluster node) past)) (quiet_idle cluster course node here less phased may.quiet))
    sent_phased (body.Page page words) is may =
        other_post (body.Page page words) is (λ phase. refl)
        (olds_stay (body.Page page words) is refl (λ such number receiver. refl)) refl first_here
    sent_phased (body.Reconcile parts) is may =
        other_post (body.Reconcile parts) is (λ phase. refl)
        (olds_stay (body.Reconcile parts) is refl (λ such number receiver. refl)) refl first_here
    sent_phased body.Ack is may =
        other_post body.Ack is (λ phase. refl) (olds_stay body.Ack is refl (λ such number receiver. refl)) refl first_here
    sent_phased body.Ask is may =
        other_post body.Ask is (λ phase. refl) (olds_stay body.Ask is refl (λ such number receiver. refl)) refl first_here
    sent_phased (body.Grant closure) is (inl reply) = absurd (cc)
    sent_phased (body.Grant closure) is (inr may) =
        other_post (body.Grant closure) is (λ phase. refl)
        (olds_stay (body.Grant closure) is refl (λ such number receiver. refl)) refl
        (first_granted (node_at cluster node) past message.receiver closure (phase_of node course) may first_here)
    sent_phased body.Refuse is may =
        other_post body.Refuse is (λ phase. refl)
        (olds_stay body.Refuse is refl (λ such number receiver. refl)) refl first_here
    sent_phased (body.Done join index value) is (inl reply) = absurd (cc)
    sent_phased (body.Done join index value) is (inr may) =
        other_post (body.Done join index value) is (λ phase. refl)
        (olds_stay (body.Done join index value) is refl (λ such number receiver. refl)) refl
        (first_done (phase_of node course) (stack_of (node_at cluster node) past) may.returned.none_left first_here)
    sent_phased (body.Park join closure) is (inl reply) = absurd (cc)
    sent_phased (body.Park join closure) is (inr may) =
        other_post (body.Park join closure) is (λ phase. refl)
        (olds_stay (body.Park join closure) is refl (λ such number receiver. refl)) refl
        (first_parked (phase_of node course) (stack_of (node_at cluster node) past) may.life may.at_join.alone may.at_join.wanted first_here)
    sent_phased (body.Add frame index word addend) is (inl reply) = absurd (cc)
    sent_phased (body.Add frame index word addend) is (inr may) = add_phased frame index word addend is may
    sent_phased (body.Added old) is (inl reply) = absurd (cc)
    sent_phased (body.Added old) is (inr may) =
        other_post (body.Added old) is (λ phase. refl)
        (λ such number. olds_told cluster course node here less such number message old posts is may) refl first_here

  -- ---- takings

  module _ (message : Msg) (stepped : Stepped cluster course) (takes : Takes course node here message) where
    abbrev taking : Event
    taking = Took message

    pub phase_taken : (number : ℕ) (said : Body) → message.body ≡ said
        → phase_of number (more taking) ≡ cond (eqb node number) (after_taking said (phase_of number course)) (phase_of number course)
    phase_taken number said is = ap (λ it. cond (eqb node number) (after_taking it (phase_of number course)) (phase_of number course)) is

    -- it is no Added
    other_taking : (said : Body) → message.body ≡ said → ((phase : Phase) → after_taking said phase ≡ phase) → TellsNone said
        → tells_in said ≡ false
        → stack_of (node_at cluster node) (taking ∷ past) ≡ stack_of (node_at cluster node) past → Phased cluster (more taking)
    other_taking said is same none other stack =
        kept cluster course node here less phased taking
        (λ number. phase_taken number said is ∙ cond_same (eqb node number) (after_taking said (phase_of number course)) (phase_of number course)
        (same (phase_of number course)))
        (λ number frame index. adds_took cluster course node here less (add_from number frame index) (only_adds number frame index) message stepped takes)
        (λ such number. let took = olds_took cluster course node here less such number message stepped takes in
        let zero : old_to such number message ≡ 0 =
        ap (λ it. one (tells_body such number message.receiver it)) is ∙ ap one (none such number message.receiver) in
        omega (arith, took, zero))
        (awaits_took message past (ap tells_in is ∙ other))
        (subst (IsFirst (phase_of node course)) (sym stack) (phased.first node))

    module _ (old : ℤ) (is : message.body ≡ body.Added old) where
      pub phase_done : phase_of node (more taking) ≡ Idle
      phase_done = phase_taken node (body.Added old) is ∙ ap (λ b. cond b Idle (phase_of node course)) (own_number node)

      pub phase_far : (number : ℕ) → number ≢ node → phase_of number (more taking) ≡ phase_of number course
      phase_far number not =
          phase_taken number (body.Added old) is ∙ ap (λ b. cond b Idle (phase_of number course)) (other_number node number (λ same. not (sym same)))

      old_amount : (such : ℤ → Bool) (number : ℕ) (b : Bool) → eqb node number ≡ b → old_to such number message ≡ one (b && such old)
      old_amount such number b same =
          ap (λ it. one (tells_body such number message.receiver it)) is ∙ ap (λ it. one (eqb it number && such old)) takes.receiver
          ∙ ap (λ b. one (b && such old)) same

      -- It is the old value that its home told for it.
      pub was_told : (frame : FrameId) × (acts : ℕ) × (phase_of node course ≡ Told frame acts old)
      was_told =
          let took = olds_took cluster course node here less (int_eq old) node message stepped takes in
          let amount : old_to (int_eq old) node message ≡ 1 = old_amount (int_eq old) node true (own_number node) ∙ ap one (own_value old) in
          let before = phased.olds (int_eq old) node in
          told_same old (phase_of node course) (is_one (is_told (int_eq old) (phase_of node course)) (omega (arith, took, amount, before)))

      olds_done : (such : ℤ → Bool) → to_tell cluster (more taking) such node ≡ one (is_told such (phase_of node (more taking)))
      olds_done such =
          let took = olds_took cluster course node here less such node message stepped takes in
          let amount : old_to such node message ≡ one (such old) = old_amount such node true (own_number node) in
          let before : to_tell cluster course such node ≡ one (such old) = phased.olds such node ∙ ap (λ it. one (is_told such it)) was_told.2 in
          let after : one (is_told such (phase_of node (more taking))) ≡ 0 = ap (λ it. one (is_told such it)) phase_done in
          omega (arith, took, amount, before, after)

      olds_far : (such : ℤ → Bool) (number : ℕ) → number ≢ node → to_tell cluster (more taking) such number ≡ one (is_told such (phase_of number (more taking)))
      olds_far such number not =
          let took = olds_took cluster course node here less such number message stepped takes in
          let amount : old_to such number message ≡ 0 = old_amount such number false (other_number node number (λ same. not (sym same))) in
          let before = phased.olds such number in
          let after : one (is_told such (phase_of number (more taking))) ≡ one (is_told such (phase_of number course)) =
          ap (λ it. one (is_told such it)) (phase_far number not) in
          omega (arith, took, amount, before, after)

      by_place : (P : ℕ → Type 0) → P node → ((number : ℕ) → number ≢ node → P number) → (number : ℕ) → P number
      by_place P this others number = on (one_or_two number node)
        where
          on : (number ≡ node) ⊎ (number ≢ node) → P number
          on (inl same) = subst P (sym same) this
          on (inr not) = others number not

      added_phased : Phased cluster (more taking)
      added_phased = record {
        within = by_place (λ number. waits_in (phase_of number (more taking)) ≡ true → number < cluster.config.nodes) (λ waits. less)
            (λ number not waits. phased.within number (ap waits_in (sym (phase_far number not)) ∙ waits));
        waiting = by_place (λ number. awaits ForAdded (own number (more taking)) ≡ waits_in (phase_of number (more taking)))
            (ap (awaits ForAdded) (own_first (moved_by node taking here) course) ∙ awaits_told message past (ap tells_in is) ∙ ap waits_in (sym phase_done))
            (λ number not. ap (awaits ForAdded) (own_other number (moved_by node taking here) course not) ∙ phased.waiting number
            ∙ ap waits_in (sym (phase_far number not)));
        first =
            first_more cluster course node here less phased taking phase_far
            (first_idle (phase_of node (more taking)) (stack_of (node_at cluster node) (taking ∷ past)) phase_done);
        adds = λ number frame index. adds_took cluster course node here less (add_from number frame index) (only_adds number frame index) message stepped takes
            ∙ by_place (λ number. under_way cluster course number frame index ≡ one (is_asked frame index (phase_of number (more taking))))
            (phased.adds node frame index ∙ ap (λ it. one (is_asked frame index it)) was_told.2 ∙ ap (λ it. one (is_asked frame index it)) (sym phase_done))
            (λ number not. phased.adds number frame index ∙ ap (λ it. one (is_asked frame index it)) (sym (phase_far number not))) number;
        olds = λ such. by_place (λ number. to_tell cluster (more taking) such number ≡ one (is_told such (phase_of number (more taking))))
            (olds_done such) (olds_far such);
      }

    stack_taken : (said : Body) → message.body ≡ said
        → stack_of (node_at cluster node) (taking ∷ past)
        ≡ (frames_took (node_at cluster node) said (taking ∷ past) (frames_of (node_at cluster node) past)).stack
    unfolding frames_of
    stack_taken said is = ap (λ it. (frames_took (node_at cluster node) it (taking ∷ past) (frames_of (node_at cluster node) past)).stack) is

    took_phased : (said : Body) → message.body ≡ said → Phased cluster (more taking)
    took_phased (body.Fetch page) is = other_taking (body.Fetch page) is (λ phase. refl) (λ such number receiver. refl) refl (stack_taken (body.Fetch page) is)
    took_phased (body.Page page words) is =
        other_taking (body.Page page words) is (λ phase. refl) (λ such number receiver. refl) refl (stack_taken (body.Page page words) is)
    took_phased (body.Reconcile parts) is =
        other_taking (body.Reconcile parts) is (λ phase. refl) (λ such number receiver. refl) refl (stack_taken (body.Reconcile parts) is)
    took_phased body.Ack is = other_taking body.Ack is (λ phase. refl) (λ such number receiver. refl) refl (stack_taken body.Ack is)
    took_phased body.Ask is = other_taking body.Ask is (λ phase. refl) (λ such number receiver. refl) refl (stack_taken body.Ask is)
    took_phased (body.Grant closure) is =
        other_taking (body.Grant closure) is (λ phase. refl) (λ such number receiver. refl) refl (stack_taken (body.Grant closure) is)
    took_phased body.Refuse is = other_taking body.Refuse is (λ phase. refl) (λ such number receiver. refl) refl (stack_taken body.Refuse is)
    took_phased (body.Done join index value) is =
        other_taking (body.Done join index value) is (λ phase. refl) (λ such number receiver. refl) refl (stack_taken (body.Done join index value) is)
    took_phased (body.Park join closure) is =
        other_taking (body.Park join closure) is (λ phase. refl) (λ such number receiver. refl) refl (stack_taken (body.Park join closure) is)
    took_phased (body.Add frame index word addend) is =
        other_taking (body.Add frame index word addend) is (λ phase. refl) (λ such number receiver. refl) refl
        (stack_taken (body.Add frame index word addend) is)
    took_phased (body.Added old) is = added_phased old is

  -- ---- ends

  ended_phased : (end : NodeEnd) → Phased cluster (more (Ended end))
  unfolding frames_of
  ended_phased end =
      kept cluster course node here less phased (Ended end) (λ number. refl)
      (λ number frame index. adds_ended cluster course node here less (add_from number frame index) end)
      (λ such number. olds_ended cluster course node here less such number end) refl (phased.first node)

-- ---- all events

event_phased : (cluster : Cluster) (course : Course) (node : ℕ) (here : Option PostAt) (event : Event) → Stepped cluster course
    → Step cluster course (moved_by node event here)
    → Phased cluster course
    → Phased cluster (moved_by node event here ∷ course)
event_phased cluster course node here (Did done) stepped step phased =
    did_phased cluster course node here step.within phased done step.allowed.rest step.allowed.posts step.allowed.may
event_phased cluster course node here (Sent message) stepped step phased =
    sent_phased cluster course node here step.within phased message step.carries message.body refl
    (may_post (node_at cluster node) (own node course) message step.allowed)
event_phased cluster course node here (Took message) stepped step phased =
    took_phased cluster course node here step.within phased message stepped step.carries message.body refl
event_phased cluster course node here (Ended end) stepped step phased = ended_phased cluster course node here step.within phased end

start_olds : (cluster : Cluster) (such : ℤ → Bool) (number : ℕ) → to_tell cluster [] such number ≡ 0
unfolding owed_olds
start_olds cluster such number = let sum = sum_none cluster.config.nodes (λ home. 0) (λ home below. refl) in omega (arith, sum)

pub phased : (cluster : Cluster) (course : Course) → Stepped cluster course → Phased cluster course
phased cluster [] stepped = record {
  within = λ number waits. absurd (cc);
  waiting = λ number. refl;
  first = λ number. tt;
  adds = λ number frame index. none_waits (add_from number frame index) cluster;
  olds = λ such number. start_olds cluster such number;
}
phased cluster (moved ∷ course) stepped = event_phased cluster course moved.node moved.message moved.event stepped.0 stepped.1 (phased cluster course stepped.0)

-- an Add of this frame and index is under way
pub asked_by : (cluster : Cluster) (course : Course) → Phased cluster course → (number : ℕ) (frame : FrameId) (index : ℕ)
    → 1 ≤ under_way cluster course number frame index
    → phase_of number course ≡ Asked frame index
asked_by cluster course phased number frame index some =
    let is = phased.adds number frame index in
    asked_same frame index (phase_of number course) (is_one (is_asked frame index (phase_of number course)) (omega (arith, some, is)))
