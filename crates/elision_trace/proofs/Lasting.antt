-- The last value of a word in the order of positions, with one event more.
use Rattle.std.proofs.Common.{◌≡◌, ℕ, suc, ◌<◌, ◌⊎◌, inl, inr, ℤ, Some, refl, sym, ◌∙◌, ap, subst, arith}
use Rattle.backer_order.proofs.Search.{Less3, Same3, More3, compare}
use Rattle.backer_order.specs.Log.{Read, Write, Add, Event, Acts, Events, SharedMemory}
use Rattle.backer_order.specs.Moments.{Obtains, Leaves, OfWrite, OfAdd}
use Rattle.determinacy.specs.Serial.{Leaving, LastOf}
use Rattle.page_messages.specs.declared.closure.FrameId.{FrameId}

-- what an event gives of a word, and what it leaves there
abbrev pub ObtainsBy : Event → ℕ → ℕ → ℤ → Type 0
ObtainsBy event node word value =
    ((frame : FrameId) × (event ≡ Acts node frame (Read word value))) ⊎ ((frame : FrameId) × (addend : ℤ) × (event ≡ Acts node frame (Add word value addend)))

abbrev pub LeavesBy : SharedMemory → Event → ℕ → ℕ → ℤ → Type 0
LeavesBy memory event node word value =
    ((frame : FrameId) × (event ≡ Acts node frame (Write word value)))
    ⊎ ((frame : FrameId) × (old addend : ℤ) × (event ≡ Acts node frame (Add word old addend)) × (memory.sum old addend ≡ Some value))

pub obtains_by : (events : Events) (at : ℕ) (event : Event) (node word : ℕ) (value : ℤ) → events at ≡ event → Obtains events node word at value
    → ObtainsBy event node word value
obtains_by events at event node word value is (inl read) = inl (read.frame, sym is ∙ read.is)
obtains_by events at event node word value is (inr add) = inr (add.frame, add.addend, sym is ∙ add.is)

pub obtains_from : (events : Events) (at : ℕ) (event : Event) (node word : ℕ) (value : ℤ) → events at ≡ event → ObtainsBy event node word value
    → Obtains events node word at value
obtains_from events at event node word value is (inl read) = inl (record { frame = read.0; is = is ∙ read.1 })
obtains_from events at event node word value is (inr add) = inr (record { frame = add.0; addend = add.1; is = is ∙ add.2 })

module _ (memory : SharedMemory) where
  pub leaves_by : (events : Events) (at : ℕ) (event : Event) (node word : ℕ) (value : ℤ) → events at ≡ event → Leaves events memory node word at value →
      LeavesBy memory event node word value
  leaves_by events at event node word value is (OfWrite wrote) = inl (wrote.frame, sym is ∙ wrote.is)
  leaves_by events at event node word value is (OfAdd frame old addend stands sum) = inr (frame, old, addend, sym is ∙ stands, sum)

  pub leaves_from : (events : Events) (at : ℕ) (event : Event) (node word : ℕ) (value : ℤ) → events at ≡ event → LeavesBy memory event node word value →
      Leaves events memory node word at value
  leaves_from events at event node word value is (inl write) = OfWrite (record { frame = write.0; is = is ∙ write.1 })
  leaves_from events at event node word value is (inr add) = OfAdd add.0 add.1 add.2 (is ∙ add.3) add.4

  -- where the same stands at a position, the same is left there
  leaves_same : (events other : Events) (at node word : ℕ) (value : ℤ) → other at ≡ events at → Leaves events memory node word at value →
      Leaves other memory node word at value
  leaves_same events other at node word value same leaves =
      leaves_from other at (events at) node word value same (leaves_by events at (events at) node word value refl leaves)

  -- two lines of events that agree up to a position have the same word there
  pub last_same : (events other : Events) (word now : ℕ) (value : ℤ) → ((at : ℕ) → at < now → other at ≡ events at) →
      LastOf events memory word now value → LastOf other memory word now value
  last_same events other word now value same (inl last) = inl (record {
    node = last.node;
    at = last.at;
    before = last.before;
    leaves = leaves_same events other last.at last.node word value (same last.at last.before) last.leaves;
    none = λ at from to leaving. last.none at from to
        (leaving.0, (leaving.1.0, leaves_same other events at leaving.0 word leaving.1.0 (sym (same at to)) leaving.1.1));
  })
  last_same events other word now value same (inr none) = inr (record {
    start = none.start;
    none = λ at to leaving. none.none at to (leaving.0, (leaving.1.0, leaves_same other events at leaving.0 word leaving.1.0 (sym (same at to)) leaving.1.1));
  })

  -- nothing is left at this position
  pub last_quiet : (events : Events) (word now : ℕ) (value : ℤ) → (Leaving events memory word now → ⊥) → LastOf events memory word now value →
      LastOf events memory word (suc now) value
  last_quiet events word now value quiet (inl last) = inl (record {
    node = last.node;
    at = last.at;
    before = omega (arith, last.before);
    leaves = last.leaves;
    none = λ at from to leaving. elim (compare at now) [
      | Less3 l ↦ last.none at from l leaving
      | Same3 same ↦ quiet (subst (λ i. Leaving events memory word i) same leaving)
      | More3 l ↦ absurd (omega arith)
    ];
  })
  last_quiet events word now value quiet (inr none) = inr (record {
    start = none.start;
    none = λ at to leaving. elim (compare at now) [
      | Less3 l ↦ none.none at l leaving
      | Same3 same ↦ quiet (subst (λ i. Leaving events memory word i) same leaving)
      | More3 l ↦ absurd (omega arith)
    ];
  })

  pub last_here : (events : Events) (node word now : ℕ) (value : ℤ) → Leaves events memory node word now value → LastOf events memory word (suc now) value
  last_here events node word now value leaves =
      inl (record { node = node; at = now; before = omega arith; leaves = leaves; none = λ at from to leaving. absurd (omega arith) })

  -- ---- one last value

  same_write : (event : Event) (node other word : ℕ) (value value' : ℤ) (frame frame' : FrameId) → event ≡ Acts node frame (Write word value) →
      event ≡ Acts other frame' (Write word value') → value ≡ value'
  same_write event node other word value value' frame frame' is is' = cc

  same_add : (event : Event) (node other word : ℕ) (old old' addend addend' : ℤ) (frame frame' : FrameId) → event ≡ Acts node frame (Add word old addend) →
      event ≡ Acts other frame' (Add word old' addend') → (old ≡ old') × (addend ≡ addend')
  same_add event node other word old old' addend addend' frame frame' is is' = (cc, cc)

  no_both : (event : Event) (node other word : ℕ) (value old addend : ℤ) (frame frame' : FrameId) → event ≡ Acts node frame (Write word value) →
      event ≡ Acts other frame' (Add word old addend) → ⊥
  no_both event node other word value old addend frame frame' is is' = cc

  some_value : (value value' : ℤ) → Some value ≡ Some value' → value ≡ value'
  some_value value value' is = cc

  leaves_one : (event : Event) (node other word : ℕ) (value value' : ℤ) → LeavesBy memory event node word value → LeavesBy memory event other word value'
      → value ≡ value'
  leaves_one event node other word value value' (inl write) (inl write') = same_write event node other word value value' write.0 write'.0 write.1 write'.1
  leaves_one event node other word value value' (inl write) (inr add) = absurd (no_both event node other word value add.1 add.2 write.0 add.0 write.1 add.3)
  leaves_one event node other word value value' (inr add) (inl write) = absurd (no_both event other node word value' add.1 add.2 write.0 add.0 write.1 add.3)
  leaves_one event node other word value value' (inr add) (inr add') =
      let both = same_add event node other word add.1 add'.1 add.2 add'.2 add.0 add'.0 add.3 add'.3 in
      some_value value value' (sym add.4 ∙ ap (λ i. memory.sum i add.2) both.0 ∙ ap (λ i. memory.sum add'.1 i) both.1 ∙ add'.4)

  pub last_one : (events : Events) (word now : ℕ) (value value' : ℤ) → LastOf events memory word now value → LastOf events memory word now value'
      → value ≡ value'
  last_one events word now value value' (inl last) (inl last') = elim (compare last.at last'.at) [
    | Less3 l ↦ absurd (last.none last'.at l last'.before (last'.node, (value', last'.leaves)))
    | More3 l ↦ absurd (last'.none last.at l last.before (last.node, (value, last.leaves)))
    | Same3 same ↦
        leaves_one (events last'.at) last.node last'.node word value value'
        (leaves_by events last.at (events last'.at) last.node word value (ap events same) last.leaves)
        (leaves_by events last'.at (events last'.at) last'.node word value' refl last'.leaves)
  ]
  last_one events word now value value' (inl last) (inr none) = absurd (none.none last.at last.before (last.node, (value, last.leaves)))
  last_one events word now value value' (inr none) (inl last) = absurd (none.none last.at last.before (last.node, (value', last.leaves)))
  last_one events word now value value' (inr none) (inr none') = none.start ∙ sym none'.start
