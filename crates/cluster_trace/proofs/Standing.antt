-- The accounts of the frames of a stack: the child directly above a frame is out, and gives its value to it where it has returned.
use Rattle.std.proofs.Common.{◌≡◌, ℕ, ℤ, List, [], ◌∷◌, Option, Some, None, refl, sym, ◌∙◌, ap, subst}
use Rattle.std.proofs.lemmas.List.{append-nil}
use Rattle.cilk_meaning.specs.Resolved.{Program}
use Rattle.cilk_meaning.specs.Serve.{first_of, now}
use Rattle.cilk_meaning.specs.Wants.{Want, Asks, Returns, Traps, Deposit}
use Rattle.machine_code.specs.StandsFor.{StandsFor}
use Rattle.machine_code.specs.Machine.{starts}
use Rattle.page_messages.specs.declared.closure.FrameId.{FrameId}
use Rattle.page_messages.specs.declared.closure.Child.{Child}
use Rattle.cluster_rules.specs.Lives.{Life, value_in, returned, with_kept, live_from, live}
use Rattle.cluster_rules.specs.Positions.{Course}
use Rattle.cluster_rules.specs.Runs.{Cluster}
use Rattle.cluster_edges.proofs.Ties.{Born}
use Rattle.determinacy.specs.Replies as replies
use Rattle.determinacy.specs.Replies.{Trace, want_at}
use Rattle.cluster_trace.proofs.Accounts.{gift, Returned, Account, account_given}

module _ (cluster : Cluster) (program : Program) (stands : StandsFor cluster.code program) (trace : Trace) where
  -- each entry stands for the child that is gone
  abbrev pub Aligned : Course → FrameId → List Child → List FrameId → Type 0
  Aligned course id [] [] = Unit {0}
  Aligned course id [] (child ∷ gone) = ⊥
  Aligned course id (entry ∷ away) [] = ⊥
  Aligned course id (entry ∷ away) (child ∷ gone) = Born id entry.index child course × (entry.target ≡ trace.target child) × Aligned course id away gone

  pub record LifeAccount (at : ℕ) (course : Course) (life : Life) (above : List FrameId) : Type 0 where
    pub gone : List FrameId
    pub aligned : Aligned course life.id life.away gone
    pub none_away : life.join ≡ None → life.away ≡ []
    pub depth : life.depth ≡ (trace.instance life.id).depth
    pub account : Account cluster program stands trace at life.id life.goes life.kept above gone

  -- its value is for the local of the frame below it that the execution says
  abbrev pub Aims : Life → List Life → Type 0
  Aims life [] = Unit {0}
  Aims life (lower ∷ below) = life.spawned.target ≡ trace.target life.id

  abbrev pub Stacked : ℕ → Course → List FrameId → List Life → Type 0
  Stacked at course above [] = Unit {0}
  Stacked at course above (life ∷ below) = LifeAccount at course life above × Aims life below × Stacked at course (life.id ∷ []) below

  -- what it wants is what its instance does
  pub account_wants : (at : ℕ) (course : Course) (life : Life) (above : List FrameId) → LifeAccount at course life above
      → want_at (starts cluster.code) trace at life.id ≡ now life.goes
  account_wants at course life above it = ap first_of (sym (it.account.goes_is []))

  pub value_returns : (wanted : Option Want) (value : ℤ) → value_in wanted ≡ Some value → wanted ≡ Some (Returns value)
  value_returns None value is = absurd (cc)
  value_returns (Some (Asks request)) value is = absurd (cc)
  value_returns (Some (Returns other)) value is = let same : other ≡ value = cc in ap (λ it. Some (Returns it)) same
  value_returns (Some (Traps kind)) value is = absurd (cc)

  -- what comes from above: nothing, or the value of the child that stood there
  data FromAbove (at : ℕ) : List FrameId → List Deposit → Type 0 where
    Nothing : FromAbove at [] []
    Gives : (child : FrameId) → Returned cluster program stands trace at child → FromAbove at (child ∷ []) (gift cluster program stands trace at child ∷ [])

  kept_account : (at : ℕ) (course : Course) (life : Life) (above : List FrameId) (deposits : List Deposit) → FromAbove at above deposits
      → LifeAccount at course life above
      → LifeAccount at course (with_kept deposits life) []
  kept_account at course life _ _ Nothing it = record {
    gone = it.gone;
    aligned = it.aligned;
    none_away = it.none_away;
    depth = it.depth;
    account = subst (λ kept. Account cluster program stands trace at life.id life.goes kept [] it.gone) (sym (append-nil life.kept)) it.account;
  }
  kept_account at course life _ _ (Gives child has) it = record {
    gone = it.gone;
    aligned = it.aligned;
    none_away = it.none_away;
    depth = it.depth;
    account = account_given cluster program stands trace at life.id life.goes life.kept it.gone child has it.account;
  }

  aims_kept : (deposits : List Deposit) (life : Life) (below : List Life) → Aims life below → Aims (with_kept deposits life) below
  aims_kept deposits life [] aims = tt
  aims_kept deposits life (lower ∷ below) aims = aims

  pub gives : (value : ℤ) → replies.value_in (Some (Returns value)) ≡ value
  unfolding replies.value_in
  gives value = refl

  same_deposit : (target : FrameId → Option ℕ) (id : FrameId) (other : Option ℕ) (value found : ℤ) → found ≡ value → other ≡ target id
      → ◌≡◌ {A = Deposit} (target id, found) (other, value)
  same_deposit target id other value found told aims = cc

  live_next : (at : ℕ) (course : Course) (above : List FrameId) (deposits : List Deposit) (life : Life) (below : List Life) (value : Option ℤ)
      → returned life ≡ value → FromAbove at above deposits
      → Stacked at course above (life ∷ below)
      → ((given : List Deposit) → FromAbove at (life.id ∷ []) given → Stacked at course [] (live_from given below))
      → Stacked at course [] (elim value [ None ↦ with_kept deposits life ∷ below | Some it ↦ live_from ((life.spawned.target, it) ∷ []) below ])
  live_next at course above deposits life below None is from stacked rest =
      (kept_account at course life above deposits from stacked.0, aims_kept deposits life below stacked.1, stacked.2)
  live_next at course above deposits life [] (Some value) is from stacked rest = tt
  live_next at course above deposits life (lower ∷ below) (Some value) is from stacked rest =
      let wanted : want_at (starts cluster.code) trace at life.id ≡ Some (Returns value) = account_wants at course life above stacked.0
      ∙ value_returns (now life.goes) value is in
      let told : replies.value_in (want_at (starts cluster.code) trace at life.id) ≡ value = ap replies.value_in wanted ∙ gives value in
      let same : ◌≡◌ {A = Deposit} (gift cluster program stands trace at life.id) (life.spawned.target, value) =
      same_deposit trace.target life.id life.spawned.target value _ told stacked.1 in
      subst (λ it. Stacked at course [] (live_from (it ∷ []) (lower ∷ below))) same
      (rest (gift cluster program stands trace at life.id ∷ []) (Gives life.id (value, wanted)))

  live_from_stacked : (at : ℕ) (course : Course) (above : List FrameId) (deposits : List Deposit) (stack : List Life) → FromAbove at above deposits
      → Stacked at course above stack
      → Stacked at course [] (live_from deposits stack)
  live_from_stacked at course above deposits [] from stacked = tt
  live_from_stacked at course above deposits (life ∷ below) from stacked =
      live_next at course above deposits life below (returned life) refl from stacked
      (λ given next. live_from_stacked at course (life.id ∷ []) given below next stacked.2)

  -- The frames that have not returned keep their accounts, where those that have are taken off.
  pub live_stacked : (at : ℕ) (course : Course) (stack : List Life) → Stacked at course [] stack → Stacked at course [] (live stack)
  live_stacked at course stack stacked = live_from_stacked at course [] [] stack Nothing stacked
