-- The home order of a word: all accesses of it by the moments at which they meet its home. It is the serial order of that word which
-- location consistency asks for.
use Rattle.std.specs.Prelude.{◌⊎◌, ◌≡◌, ℕ, ℤ, ◌<◌}
use Rattle.backer_order.specs.Log.{Events, SharedMemory}
use Rattle.backer_order.specs.Moments.{Obtains, Leaves, IsLeaving, Moment}
use Rattle.backer_order.specs.Rules.{Caching}

-- the access has no moment before `now`: what comes later is not yet known
abbrev pub HasNone : Events → SharedMemory → ℕ → ℕ → ℕ → ℕ → Type 0
HasNone events memory now node word access = (moment : ℕ) → moment < now → Moment events memory node word access moment → ⊥

-- Both have their moments: the earlier one is first, and at one moment the access that was made first.
pub record BothHave (events : Events) (memory : SharedMemory) (now word node access other next : ℕ) : Type 0 where
  pub first : ℕ
  pub second : ℕ
  pub first_is : Moment events memory node word access first
  pub second_is : Moment events memory other word next second
  pub first_in : first < now
  pub second_in : second < now
  pub order : (first < second) ⊎ ((first ≡ second) × (access < next))

-- An access with a moment is before one without.
pub record OneHas (events : Events) (memory : SharedMemory) (now word node access other next : ℕ) : Type 0 where
  pub first : ℕ
  pub first_is : Moment events memory node word access first
  pub first_in : first < now
  pub second_is : HasNone events memory now other word next

-- Neither has one: by node, and of one node by position.
pub record NoneHas (events : Events) (memory : SharedMemory) (now word node access other next : ℕ) : Type 0 where
  pub first_is : HasNone events memory now node word access
  pub second_is : HasNone events memory now other word next
  pub order : (node < other) ⊎ ((node ≡ other) × (access < next))

-- the node's access stands before the other node's next one in the home order of the word
abbrev pub Before : Events → SharedMemory → ℕ → ℕ → ℕ → ℕ → ℕ → ℕ → Type 0
Before events memory now word node access other next =
    (BothHave events memory now word node access other next ⊎ OneHas events memory now word node access other next) ⊎
    NoneHas events memory now word node access other next

-- This value was left by an access made earlier than the reader's, which is the last one before it in the home order that leaves a value.
pub record LastIn (events : Events) (memory : SharedMemory) (now word reader access : ℕ) (value : ℤ) : Type 0 where
  pub node : ℕ
  pub at : ℕ
  pub leaves : Leaves events memory node word at value
  pub earlier : at < access
  pub before : Before events memory now word node at reader access
  pub last : (other next : ℕ) → next < now → IsLeaving events memory other word next →
      Before events memory now word other next reader access →
      (next ≡ at) ⊎ Before events memory now word other next node at

-- This is the start word, and none before the reader's access in the home order leaves a value.
pub record NoneIn (events : Events) (memory : SharedMemory) (now word reader access : ℕ) (value : ℤ) : Type 0 where
  pub start : value ≡ memory.start word
  pub none : (other next : ℕ) → next < now → IsLeaving events memory other word next →
      Before events memory now word other next reader access → ⊥

-- each read gives, and each add has as its old value, what the last access before it in the home order leaves
abbrev pub ReadsLast : Events → SharedMemory → ℕ → Type 0
ReadsLast events memory now = (word node access : ℕ) (value : ℤ) → access < now → Obtains events node word access value →
    LastIn events memory now word node access value ⊎ NoneIn events memory now word node access value

-- BACKER's rules for pages and adds give this, at each position.
abbrev pub EachReadsLast : Type 0
EachReadsLast = (events : Events) (memory : SharedMemory) (now : ℕ) → Caching events memory → ReadsLast events memory now
