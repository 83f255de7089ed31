-- The account of a frame behind its Sync, whose values may come in any order, and at its start.
use Rattle.std.proofs.Common.{◌≡◌, ℕ, zero, suc, ℤ, List, [], ◌∷◌, ◌++◌, append_assoc, length, map, drop, true, false, refl, sym, ◌∙◌, ap, subst}
use Rattle.std.proofs.lemmas.List.{append-nil, map-append}
use Rattle.std.specs.List.Sorted.{IsPermutation}
use Rattle.std.proofs.lemmas.List.Sorted.{IsPermutation-refl, IsPermutation-sym, IsPermutation-to_front, IsPermutation-cons, IsPermutation-trans, IsPermutation-map}
use Rattle.cilk_meaning.specs.Instance.{Meaning}
use Rattle.cilk_meaning.specs.Resolved.{Program}
use Rattle.cilk_meaning.specs.Serve.{after, rest_of}
use Rattle.cilk_meaning.specs.Wants.{Deposit, Answer, Children}
use Rattle.machine_code.specs.Machine.{starts}
use Rattle.machine_code.specs.StandsFor.{StandsFor}
use Rattle.page_messages.specs.declared.closure.FrameId.{FrameId}
use Rattle.sync_order.specs.Orders.{AreApart, targets_of}
use Rattle.sync_order.proofs.Moving.{order_is_free}
use Rattle.cluster_rules.specs.Runs.{Cluster}
use Rattle.cluster_edges.proofs.Meant.{none_at_sync, rest_drop}
use Rattle.determinacy.specs.Replies as replies
use Rattle.determinacy.specs.Replies.{Trace, Reply, by, children, children_after, reply_to, answer_of, behind, deposits, state_at}
use Rattle.cluster_trace.proofs.Blocks.{given_at, state_same, state_next, children_same, children_next}
use Rattle.cluster_trace.proofs.Accounts.{gift, gifts, Account}

-- ---- an instance behind replies, by a list of answers

-- the answers in replies, of which the latest comes first
abbrev pub said : List Reply → List Answer
said [] = []
said (latest ∷ earlier) = said earlier ++ answer_of latest ∷ []

pub behind_said : (first : Meaning) (told : List Reply) (rest : List Answer) → behind first told rest ≡ drop (length told) (first (said told ++ rest))
unfolding behind
behind_said first [] rest = refl
behind_said first (latest ∷ earlier) rest =
    ap rest_of (behind_said first earlier (answer_of latest ∷ rest))
    ∙ rest_drop (length earlier) (first (said earlier ++ answer_of latest ∷ rest))
    ∙ ap (λ answers. drop (suc (length earlier)) (first answers)) (sym (append_assoc (said earlier) (answer_of latest ∷ []) rest))

-- what children give, in the order of their spawns
deposits_order : (gives : FrameId → Deposit) (kids : List FrameId) → IsPermutation (deposits gives kids) (map gives kids)
unfolding deposits
deposits_order gives [] = IsPermutation-refl []
deposits_order gives (latest ∷ earlier) =
    IsPermutation-trans (deposits gives earlier ++ gives latest ∷ []) (gives latest ∷ deposits gives earlier) (gives latest ∷ map gives earlier)
    (IsPermutation-to_front (deposits gives earlier) (gives latest))
    (IsPermutation-cons (gives latest) (deposits gives earlier) (map gives earlier) (deposits_order gives earlier))

module _ (cluster : Cluster) (program : Program) (stands : StandsFor cluster.code program) (trace : Trace) where
  abbrev begins : ℕ → ℕ → List ℤ → Meaning
  begins = starts cluster.code

  abbrev given : ℕ → FrameId → List Deposit
  given at id = given_at cluster program stands trace at id

  abbrev gifts_at : ℕ → List FrameId → List Deposit
  gifts_at at kids = gifts cluster program stands trace at kids

  -- ---- at its start

  -- a frame without children, that wants what its instance does
  pub account_first : (at : ℕ) (id : FrameId) (goes : Meaning) → goes ≡ state_at begins trace at id → children trace.events at id ≡ []
      → Account cluster program stands trace at id goes [] [] []
  account_first at id goes is none = record {
    inside = [];
    giving = [];
    goes_is = λ rest. ap (λ (state : Meaning). state rest) is ∙ ap (state_at begins trace at id) (sym (none_at_sync rest));
    kept_is = refl;
    inside_so = tt;
    giving_so = tt;
    all = subst (IsPermutation []) (sym none) (IsPermutation-refl []);
  }

  -- It has made no item before this position.
  abbrev pub Untouched : ℕ → FrameId → Type 0
  Untouched zero id = Unit {0}
  Untouched (suc at) id = Untouched at id × (by id (trace.events at) ≡ false)

  pub untouched_state : (at : ℕ) (id : FrameId) → Untouched at id
      → state_at begins trace at id ≡ begins (trace.instance id).depth (trace.instance id).procedure (trace.instance id).arguments
  unfolding replies.replies behind
  untouched_state zero id none = refl
  untouched_state (suc at) id none = state_same cluster program stands trace at id none.1 ∙ untouched_state at id none.0

  pub untouched_children : (at : ℕ) (id : FrameId) → Untouched at id → children trace.events at id ≡ []
  unfolding children
  untouched_children zero id none = refl
  untouched_children (suc at) id none = children_same cluster program stands trace at id none.1 ∙ untouched_children at id none.0

  -- ---- at its Sync

  state_free : (at : ℕ) (id : FrameId) (one other : List Deposit) → IsPermutation one other → AreApart (targets_of one) → (rest : List Answer)
      → state_at begins trace at id (Children one ∷ rest) ≡ state_at begins trace at id (Children other ∷ rest)
  state_free at id one other same apart rest =
      let first : Meaning = begins (trace.instance id).depth (trace.instance id).procedure (trace.instance id).arguments in
      let told : List Reply = replies.replies begins trace at id in
      behind_said first told (Children one ∷ rest)
      ∙ ap (drop (length told)) (order_is_free cluster.code one other apart same rest (trace.instance id).depth (trace.instance id).procedure
      (trace.instance id).arguments (said told))
      ∙ sym (behind_said first told (Children other ∷ rest))

  -- Behind a Sync, where no child of the block is out.
  pub account_sync : (at : ℕ) (id : FrameId) (goes : Meaning) (kept : List Deposit) → by id (trace.events at) ≡ true
      → answer_of (reply_to (trace.events at) (given at id)) ≡ Children (given at id) → children_after (trace.events at) (children trace.events at id) ≡ []
      → AreApart (targets_of (given at id))
      → Account cluster program stands trace at id goes kept [] [] → Account cluster program stands trace (suc at) id (after goes (Children kept)) [] [] []
  account_sync at id goes kept acts tells none apart it =
      account_first (suc at) id (after goes (Children kept)) (λ i rest. goes_next rest i) (children_next cluster program stands trace at id acts ∙ none)
    where
      gave : gifts_at at it.inside ++ kept ≡ gifts_at at (it.inside ++ it.giving)
      gave = ap (λ more. gifts_at at it.inside ++ more) it.kept_is ∙ sym (map-append (gift cluster program stands trace at) it.inside it.giving)

      same_kids : IsPermutation (it.inside ++ it.giving) (children trace.events at id)
      same_kids = subst (λ list. IsPermutation list (children trace.events at id)) (append-nil (it.inside ++ it.giving)) it.all

      -- what the children gave is what the execution says, in some order
      same : IsPermutation (given at id) (gifts_at at it.inside ++ kept)
      same =
          subst (IsPermutation (given at id)) (sym gave)
          (IsPermutation-trans (given at id) (gifts_at at (children trace.events at id)) (gifts_at at (it.inside ++ it.giving))
          (deposits_order (gift cluster program stands trace at) (children trace.events at id))
          (IsPermutation-sym (gifts_at at (it.inside ++ it.giving)) (gifts_at at (children trace.events at id))
          (IsPermutation-map (gift cluster program stands trace at) (it.inside ++ it.giving) (children trace.events at id) same_kids)))

      goes_next : (rest : List Answer) → after goes (Children kept) rest ≡ state_at begins trace (suc at) id rest
      goes_next rest =
          ap rest_of (it.goes_is (Children kept ∷ rest) ∙ sym (state_free at id (given at id) (gifts_at at it.inside ++ kept) same apart rest))
          ∙ ap (λ told. after (state_at begins trace at id) told rest) (sym tells)
          ∙ ap (λ (state : Meaning). state rest) (sym (state_next cluster program stands trace at id acts))
