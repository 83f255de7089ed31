-- Of the accesses of a word one is the last that leaves a value, or none leaves one.
use Rattle.std.proofs.Common.{◌≡◌, ◌⊎◌, inl, inr, ℕ, ◌<◌, ℤ, List, [], ◌∷◌, Option, Some, None, refl, sym, ◌∙◌, ap, subst}
use Rattle.backer_order.specs.HomeList.{Entry, Has, Sorted, HomeList}
use Rattle.backer_order.specs.Log.{Events, SharedMemory}
use Rattle.backer_order.specs.Moments.{IsAccess, HasRead, HasAdd, Leaves, OfWrite, OfAdd, IsLeaving}
use Rattle.backer_order.specs.Rules.{Caching}
use Rattle.determinacy.proofs.Leaving.{left_access}
use Rattle.determinacy.specs.Ending.{MemoryOf}
use Rattle.word_order.proofs.Entries.{one_node, Earlier, earlier_as}

module _ (events : Events) (memory : SharedMemory) (caching : Caching events memory) (now word : ℕ) where
  abbrev Access : Type 0
  Access = Entry events now word

  abbrev IsEarlier : Access → Access → Type 0
  IsEarlier first second = Earlier events now [] word memory caching first second

  abbrev LeavesOne : Access → Type 0
  LeavesOne entry = IsLeaving events memory entry.node word entry.at

  read_leaves_none : (node at : ℕ) (value other : ℤ) → HasRead events node word at value → Leaves events memory node word at other → ⊥
  read_leaves_none node at value other read (OfWrite wrote) = let one = read.is in let two = wrote.is in cc
  read_leaves_none node at value other read (OfAdd frame old addend is sum) = let one = read.is in cc

  add_leaves_none : (node at : ℕ) (old other : ℤ) → (add : HasAdd events node word at old) → memory.sum old (add.addend) ≡ None →
      Leaves events memory node word at other → ⊥
  add_leaves_none node at old other add none (OfWrite wrote) = let one = add.is in let two = wrote.is in cc
  add_leaves_none node at old other add none (OfAdd frame old' addend is sum) =
      let one = add.is in
      let olds : old ≡ old' = cc in
      let addends : add.addend ≡ addend = cc in
      let same : memory.sum old add.addend ≡ memory.sum old' addend = ap (λ it. memory.sum it add.addend) olds ∙ ap (λ it. memory.sum old' it) addends in
      let both = sym none ∙ same ∙ sum in
      cc

  leaves_or_not : (entry : Access) → LeavesOne entry ⊎ (LeavesOne entry → ⊥)
  leaves_or_not entry = by entry.is
    where
      by : IsAccess events entry.node word entry.at → LeavesOne entry ⊎ (LeavesOne entry → ⊥)
      by (inl (inl write)) = inl (write.0, OfWrite write.1)
      by (inl (inr read)) = inr (λ leaves. read_leaves_none entry.node entry.at read.0 leaves.0 read.1 leaves.1)
      by (inr add) = on (memory.sum add.0 add.1.addend) refl
        where
          on : (sum : Option ℤ) → memory.sum add.0 add.1.addend ≡ sum → LeavesOne entry ⊎ (LeavesOne entry → ⊥)
          on None none = inr (λ leaves. add_leaves_none entry.node entry.at add.0 leaves.0 add.1 none leaves.1)
          on (Some value) sum = inl (value, OfAdd add.1.frame add.0 add.1.addend add.1.is sum)

  -- at one position stands one access
  same_leaves : (first second : Access) → first.at ≡ second.at → LeavesOne second → LeavesOne first
  same_leaves first second same leaves =
      subst (λ node. IsLeaving events memory node word first.at) (sym (one_node events now [] word first second same))
      (subst (λ at. IsLeaving events memory second.node word at) (sym same) leaves)

  -- the last of these that leaves a value
  record LastOne (list : List Access) : Type 0 where
    entry : Access
    has : Has entry.at list
    value : ℤ
    leaves : Leaves events memory entry.node word entry.at value
    last : (other : Access) → Has other.at list → LeavesOne other → (other.at ≡ entry.at) ⊎ IsEarlier other entry

  abbrev NoneLeaves : List Access → Type 0
  NoneLeaves list = (other : Access) → Has other.at list → LeavesOne other → ⊥

  last_behind : (first : Access) (list : List Access) → Sorted events memory now word (first ∷ list) → LastOne list → LastOne (first ∷ list)
  last_behind first list sorted it = record {
    entry = it.entry;
    has = inr it.has;
    value = it.value;
    leaves = it.leaves;
    last = λ other has leaves. elim has [
      | inl same ↦ inr (earlier_as events now [] word memory caching first it.entry other it.entry same refl (sorted.0 it.entry it.has))
      | inr later ↦ it.last other later leaves
    ];
  }

  last_here : (first : Access) (list : List Access) → NoneLeaves list → LeavesOne first → LastOne (first ∷ list)
  last_here first list none here = record {
    entry = first;
    has = inl refl;
    value = here.0;
    leaves = here.1;
    last = λ other has leaves. elim has [ inl same ↦ inl (sym same) | inr later ↦ absurd (none other later leaves) ];
  }

  last_one : (list : List Access) → Sorted events memory now word list → LastOne list ⊎ NoneLeaves list
  last_one [] sorted = inr (λ other has leaves. has)
  last_one (first ∷ list) sorted = elim (last_one list sorted.1) [
    | inl it ↦ inl (last_behind first list sorted it)
    | inr none ↦ elim (leaves_or_not first) [
      | inl here ↦ inl (last_here first list none here)
      | inr not ↦ inr (λ other has leaves. elim has [ inl same ↦ not (same_leaves first other same leaves) | inr later ↦ none other later leaves ])
    ]
  ]

  abbrev entry_of : (node at : ℕ) → at < now → IsLeaving events memory node word at → Access
  entry_of node at inside leaves = record { node = node; at = at; inside = inside; is = left_access events memory node word at leaves.0 leaves.1 }

  -- The accesses of a word leave something in it.
  pub memory_there : HomeList events memory now word → (value : ℤ) × MemoryOf events memory now word value
  memory_there home = elim (last_one home.list home.sorted) [
    | inl it ↦ (
      it.value,
      inl (record {
        node = it.entry.node;
        at = it.entry.at;
        inside = it.entry.inside;
        leaves = it.leaves;
        last = λ node at inside leaves.
            let other = entry_of node at inside leaves in it.last other (home.all node at inside other.is) leaves;
      }),
    )
    | inr none ↦ (
      memory.start word,
      inr (record {
        start = refl;
        none = λ node at inside leaves. let other = entry_of node at inside leaves in none other (home.all node at inside other.is) leaves;
      }),
    )
  ]
