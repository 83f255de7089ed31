-- In an execution the children of a block have the targets of the block by what was wanted. So a frame that has returned has none left, and
-- no target of a block stands twice.
use Rattle.std.proofs.Common.{◌≡◌, inl, inr, ℕ, zero, suc, ◌<◌, ℤ, List, [], ◌∷◌, ◌++◌, length, take, Option, Some, Bool, true, false, is_some, refl, sym, ◌∙◌, ap, subst, arith}
use Rattle.std.proofs.lemmas.List.{map-append}
use Rattle.backer_order.specs.Edges.{IsOn}
use Rattle.backer_order.specs.Log as log
use Rattle.cilk_meaning.specs.Alone.{Block, block_after}
use Rattle.cilk_meaning.specs.Instance.{Meaning}
use Rattle.cilk_meaning.specs.Parted.{IsParted}
use Rattle.cilk_meaning.specs.Resolved.{Program}
use Rattle.cilk_meaning.specs.Serve.{now, after}
use Rattle.cilk_meaning.specs.Wants as want
use Rattle.cilk_meaning.specs.Wants.{Want, Request, Asks, Returns, Deposit, Answer}
use Rattle.machine_code.specs.Machine.{starts}
use Rattle.machine_code.specs.StandsFor.{StandsFor}
use Rattle.page_messages.specs.declared.closure.FrameId.{FrameId}
use Rattle.sync_order.specs.Orders.{AreApart, targets_of}
use Rattle.sync_order.proofs.Blocks.{block_apart}
use Rattle.cluster_rules.specs.Lives.{value_in}
use Rattle.cluster_rules.specs.Runs.{Cluster}
use Rattle.cluster_edges.proofs.Counting.{returned_none}
use Rattle.cluster_edges.proofs.Meant.{Meant, block_so, meant_first, meant_answered, steady_wants}
use Rattle.determinacy.specs.Replies as replies
use Rattle.determinacy.specs.Replies.{Trace, by, children, children_after, reply_to, answer_of, behind, deposits, state_at, want_of, want_at, Answers}

one_at_least : (block : Block) (target : Option ℕ) → block ++ target ∷ [] ≡ [] → ⊥
one_at_least [] target is = absurd (cc)
one_at_least (first ∷ block) target is = absurd (cc)

-- ---- the targets of children

-- the latest child comes first, and its target last
abbrev pub targets_for : (FrameId → Option ℕ) → List FrameId → Block
targets_for target [] = []
targets_for target (latest ∷ earlier) = targets_for target earlier ++ target latest ∷ []

no_targets : (target : FrameId → Option ℕ) (kids : List FrameId) → targets_for target kids ≡ [] → kids ≡ []
no_targets target [] none = refl
no_targets target (latest ∷ earlier) none = absurd (one_at_least (targets_for target earlier) (target latest) none)

given_targets : (target : FrameId → Option ℕ) (value : FrameId → ℤ) (kids : List FrameId)
    → targets_of (deposits (λ child. (target child, value child)) kids) ≡ targets_for target kids
unfolding deposits
given_targets target value [] = refl
given_targets target value (latest ∷ earlier) =
    map-append (λ (deposit : Deposit). deposit.0) (deposits (λ child. (target child, value child)) earlier) ((target latest, value latest) ∷ [])
    ∙ ap (λ front. front ++ target latest ∷ []) (given_targets target value earlier)

module _ (cluster : Cluster) (program : Program) (stands : StandsFor cluster.code program) where
  abbrev begins : ℕ → ℕ → List ℤ → Meaning
  begins = starts cluster.code

  steady : (depth procedure : ℕ) (arguments : List ℤ) (answers more : List Answer)
      → take (suc (length answers)) (begins depth procedure arguments (answers ++ more)) ≡ begins depth procedure arguments answers
  steady depth procedure arguments answers more =
      subst (λ (it : ℕ → ℕ → List ℤ → Meaning). take (suc (length answers))
      (it depth procedure arguments (answers ++ more)) ≡ it depth procedure arguments answers)
      (sym stands.wants) (steady_wants program depth procedure arguments answers more)

  -- what is wanted has the block of the frame's children
  abbrev Blocked : (FrameId → Option ℕ) → Meaning → List FrameId → Type 0
  Blocked target goes kids = (meant : Meant begins goes) × (block_so begins goes meant ≡ targets_for target kids)

  plain : (target : FrameId → Option ℕ) (goes : Meaning) (kids : List FrameId) (request : Request) (answer : Answer) → now goes ≡ Some (Asks request)
      → ((block : Block) → block_after request block ≡ block) → Blocked target goes kids
      → Blocked target (after goes answer) kids
  plain target goes kids request answer wanted same blocked =
      let it = meant_answered begins steady goes blocked.0 request answer wanted in
      (it.0, it.1 ∙ same (block_so begins goes blocked.0) ∙ blocked.1)

  module _ (trace : Trace) where
    item_blocked : (frame : FrameId) (event : log.Event) (given : List Deposit) (goes : Meaning) (kids : List FrameId) → by frame event ≡ true
        → Answers trace event (now goes) → Blocked trace.target goes kids
        → Blocked trace.target (after goes (answer_of (reply_to event given))) (children_after event kids)
    unfolding by reply_to children_after
    item_blocked frame log.Nothing given goes kids acts answers blocked = absurd (cc)
    item_blocked frame (log.Acts node actor (log.Read word value)) given goes kids acts answers blocked =
        plain trace.target goes kids (want.Read word) _ answers (λ block. refl) blocked
    item_blocked frame (log.Acts node actor (log.Write word value)) given goes kids acts answers blocked =
        plain trace.target goes kids (want.Write word value) _ answers (λ block. refl) blocked
    item_blocked frame (log.Acts node actor (log.Add word old addend)) given goes kids acts answers blocked =
        plain trace.target goes kids (want.Add word addend) _ answers (λ block. refl) blocked
    item_blocked frame (log.Acts node actor (log.Print value)) given goes kids acts answers blocked =
        plain trace.target goes kids (want.Print value) _ answers (λ block. refl) blocked
    item_blocked frame (log.Acts node actor (log.Spawn child)) given goes kids acts answers blocked =
        let request : Request = want.Spawn (trace.target child) (trace.instance child).procedure (trace.instance child).arguments in
        let it = meant_answered begins steady goes blocked.0 request want.Done answers in
        (it.0, it.1 ∙ ap (λ block. block ++ trace.target child ∷ []) blocked.1)
    item_blocked frame (log.Acts node actor log.Sync) given goes kids acts answers blocked =
        let it = meant_answered begins steady goes blocked.0 want.Sync (want.Children given) answers in (it.0, it.1)
    item_blocked frame (log.Tick node actor) given goes kids acts (inl calls) blocked =
        plain trace.target goes kids want.Call want.Done calls (λ block. refl) blocked
    item_blocked frame (log.Tick node actor) given goes kids acts (inr turns) blocked =
        plain trace.target goes kids want.LoopTurn want.Done turns (λ block. refl) blocked
    item_blocked frame (log.Drop node page) given goes kids acts answers blocked = absurd (cc)
    item_blocked frame (log.TakeUp node taken) given goes kids acts answers blocked = absurd (cc)
    item_blocked frame (log.OwnFetch node page words) given goes kids acts answers blocked = absurd (cc)
    item_blocked frame (log.OwnReconcile node part) given goes kids acts answers blocked = absurd (cc)
    item_blocked frame (log.Post node receiver note) given goes kids acts answers blocked = absurd (cc)
    item_blocked frame (log.Took node post) given goes kids acts answers blocked = absurd (cc)
    item_blocked frame (log.End node) given goes kids acts answers blocked = absurd (cc)

    -- what a Sync gives back
    abbrev pub given_at : ℕ → FrameId → List Deposit
    given_at now frame =
        deposits (λ child. (trace.target child, replies.value_in (want_of begins (trace.instance child) (replies.replies begins trace now child))))
        (children trace.events now frame)

    pub state_same : (now : ℕ) (frame : FrameId) → by frame (trace.events now) ≡ false → state_at begins trace (suc now) frame ≡ state_at begins trace now frame
    unfolding replies.replies
    state_same now frame other = rw other refl

    pub state_next : (now : ℕ) (frame : FrameId) → by frame (trace.events now) ≡ true
        → state_at begins trace (suc now) frame ≡ after (state_at begins trace now frame) (answer_of (reply_to (trace.events now) (given_at now frame)))
    unfolding replies.replies behind
    state_next now frame acts = rw acts refl

    pub children_same : (now : ℕ) (frame : FrameId) → by frame (trace.events now) ≡ false
        → children trace.events (suc now) frame ≡ children trace.events now frame
    unfolding children
    children_same now frame other = rw other refl

    pub children_next : (now : ℕ) (frame : FrameId) → by frame (trace.events now) ≡ true
        → children trace.events (suc now) frame ≡ children_after (trace.events now) (children trace.events now frame)
    unfolding children
    children_next now frame acts = rw acts refl

    first_blocked : (frame : FrameId) → Blocked trace.target (state_at begins trace zero frame) (children trace.events zero frame)
    unfolding replies.replies behind children
    first_blocked frame =
        let it = meant_first begins (trace.instance frame).depth (trace.instance frame).procedure (trace.instance frame).arguments in (it.0, it.1)

    asks_not : (event : log.Event) (wanted : Option Want) (value : ℤ) → Answers trace event wanted → wanted ≡ Some (Returns value) → ⊥
    asks_not log.Nothing wanted value answers returns = absurd answers
    asks_not (log.Acts node actor (log.Read word told)) wanted value answers returns = let both = sym answers ∙ returns in absurd (cc)
    asks_not (log.Acts node actor (log.Write word told)) wanted value answers returns = let both = sym answers ∙ returns in absurd (cc)
    asks_not (log.Acts node actor (log.Add word old addend)) wanted value answers returns = let both = sym answers ∙ returns in absurd (cc)
    asks_not (log.Acts node actor (log.Print told)) wanted value answers returns = let both = sym answers ∙ returns in absurd (cc)
    asks_not (log.Acts node actor (log.Spawn child)) wanted value answers returns = let both = sym answers ∙ returns in absurd (cc)
    asks_not (log.Acts node actor log.Sync) wanted value answers returns = let both = sym answers ∙ returns in absurd (cc)
    asks_not (log.Tick node actor) wanted value (inl calls) returns = let both = sym calls ∙ returns in absurd (cc)
    asks_not (log.Tick node actor) wanted value (inr turns) returns = let both = sym turns ∙ returns in absurd (cc)
    asks_not (log.Drop node page) wanted value answers returns = absurd answers
    asks_not (log.TakeUp node taken) wanted value answers returns = absurd answers
    asks_not (log.OwnFetch node page words) wanted value answers returns = absurd answers
    asks_not (log.OwnReconcile node part) wanted value answers returns = absurd answers
    asks_not (log.Post node receiver note) wanted value answers returns = absurd answers
    asks_not (log.Took node post) wanted value answers returns = absurd answers
    asks_not (log.End node) wanted value answers returns = absurd answers

    -- What a frame returned stays: it has no item behind that.
    pub returned_stays : (at : ℕ) → ((frame : FrameId) → by frame (trace.events at) ≡ true → Answers trace (trace.events at) (want_at begins trace at frame))
        → (frame : FrameId) (value : ℤ) → want_at begins trace at frame ≡ Some (Returns value) → want_at begins trace (suc at) frame ≡ Some (Returns value)
    returned_stays at wants frame value returns = on (by frame (trace.events at)) refl
      where
        on : (b : Bool) → by frame (trace.events at) ≡ b → want_at begins trace (suc at) frame ≡ Some (Returns value)
        on false other = ap now (state_same at frame other) ∙ returns
        on true acts = absurd (asks_not (trace.events at) (want_at begins trace at frame) value (wants frame acts) returns)

    -- each item before this position answers what its frame wants
    abbrev pub AnsweredBefore : ℕ → Type 0
    AnsweredBefore now =
        (at : ℕ) → at < now → (frame : FrameId) → by frame (trace.events at) ≡ true → Answers trace (trace.events at) (want_at begins trace at frame)

    blocked : (now : ℕ) → AnsweredBefore now → (frame : FrameId) → Blocked trace.target (state_at begins trace now frame) (children trace.events now frame)
    blocked zero wants frame = first_blocked frame
    blocked (suc now) wants frame = on (by frame (trace.events now)) refl (blocked now (λ at less. wants at (omega (arith, less))) frame)
      where
        on : (b : Bool) → by frame (trace.events now) ≡ b → Blocked trace.target (state_at begins trace now frame) (children trace.events now frame)
            → Blocked trace.target (state_at begins trace (suc now) frame) (children trace.events (suc now) frame)
        on false other rest =
            subst (Blocked trace.target (state_at begins trace (suc now) frame)) (sym (children_same now frame other))
            (subst (λ it. Blocked trace.target it (children trace.events now frame)) (sym (state_same now frame other)) rest)
        on true acts rest =
            subst (Blocked trace.target (state_at begins trace (suc now) frame)) (sym (children_next now frame acts))
            (subst (λ it. Blocked trace.target it (children_after (trace.events now) (children trace.events now frame))) (sym (state_next now frame acts))
            (item_blocked frame (trace.events now) (given_at now frame) (state_at begins trace now frame) (children trace.events now frame) acts
            (wants now (omega arith) frame acts) rest))

    -- What a Sync gives back goes to targets of which none stands twice.
    pub given_apart : (now : ℕ) → AnsweredBefore now → (frame : FrameId) → AreApart (targets_of (given_at now frame))
    given_apart now wants frame =
        let it = blocked now wants frame in
        let apart : AreApart (block_so begins (state_at begins trace now frame) it.0) =
        block_apart cluster.code stands.early it.0.depth it.0.procedure it.0.arguments it.0.answers (length it.0.answers) in
        subst AreApart (it.1 ∙ sym (given_targets trace.target
        (λ child. replies.value_in (want_of begins (trace.instance child) (replies.replies begins trace now child))) (children trace.events now frame))) apart

    none_on : (child : FrameId) (kids : List FrameId) → kids ≡ [] → IsOn child kids → ⊥
    none_on child kids none on_it = subst (IsOn child) none on_it

    -- A frame that has returned has no child of its block.
    pub no_child_left : ((at : ℕ) (frame : FrameId) → by frame (trace.events at) ≡ true → Answers trace (trace.events at) (want_at begins trace at frame))
        → IsParted program → (now : ℕ) (frame child : FrameId) (value : ℤ) → want_at begins trace now frame ≡ Some (Returns value)
        → IsOn child (children trace.events now frame) → ⊥
    no_child_left wants parted at frame child value returns on_it =
        let it = blocked at (λ now less. wants now) frame in
        let none : block_so begins (state_at begins trace at frame) it.0 ≡ [] =
        returned_none cluster program stands parted (state_at begins trace at frame) it.0 (ap (λ want. is_some (value_in want)) returns) in
        none_on child (children trace.events at frame) (no_targets trace.target (children trace.events at frame) (sym it.1 ∙ none)) on_it
