-- What stands where in a run: residency, last writes, answers, sendings; and the moment at which an access meets the home of its word.
use Rattle.std.specs.Prelude.{◌⊎◌, ◌≡◌, ℕ, ℤ, zero, suc, ◌<◌, List, [], ◌∷◌, ◌++◌, Bool, true, false, cond, ◌&&◌, ◌==◌, Some}
use Rattle.page_messages.specs.declared.closure.FrameId.{FrameId}
use Rattle.backer_order.specs.Log.{Read, Write, Add, Part, Note, Fetch, Page, Reconcile, Ack, AddTo, Added, Event, Acts, Drop, OwnFetch, OwnReconcile, Post, Took, Events, SharedMemory}

-- it holds nowhere strictly between two positions
abbrev pub NoneBetween : (ℕ → Type 0) → ℕ → ℕ → Type 0
NoneBetween Holds from to = (at : ℕ) → from < at → at < to → Holds at → ⊥

-- ---- what a home owes

abbrev pub rest_of : List ℕ → List ℕ
rest_of [] = []
rest_of (first ∷ rest) = rest

-- The positions before `now` that were pushed and not yet popped, the oldest first.
unfoldable pub queue : (ℕ → Bool) → (ℕ → Bool) → ℕ → List ℕ
queue push pop zero = []
queue push pop (suc now) =
    cond (pop now) (rest_of (queue push pop now)) (cond (push now) (queue push pop now ++ now ∷ []) (queue push pop now))

-- `oldest` is what is popped at `now`
pub record Head (push : ℕ → Bool) (pop : ℕ → Bool) (now oldest : ℕ) : Type 0 where
  pub rest : List ℕ
  pub is : queue push pop now ≡ oldest ∷ rest

-- a message that is answered by a Page or an Ack
abbrev pub is_request : Event → Bool
is_request (Post sender receiver (Fetch page)) = true
is_request (Post sender receiver (Reconcile parts)) = true
is_request _ = false

abbrev pub is_add : Event → Bool
is_add (Post sender receiver (AddTo frame word addend)) = true
is_add _ = false

abbrev pub is_reply : Note → Bool
is_reply (Page page words) = true
is_reply Ack = true
is_reply _ = false

abbrev pub takes_request : Events → ℕ → Event → Bool
takes_request events home (Took taker post) = (taker == home) && is_request (events post)
takes_request events home _ = false

abbrev pub gives_reply : ℕ → Event → Bool
gives_reply home (Post sender receiver note) = (sender == home) && is_reply note
gives_reply home _ = false

abbrev pub takes_add : Events → ℕ → Event → Bool
takes_add events home (Took taker post) = (taker == home) && is_add (events post)
takes_add events home _ = false

-- the home serves an Add of another node
abbrev pub serves : SharedMemory → ℕ → Event → Bool
serves memory home (Acts node frame (Add word old addend)) = (memory.home (memory.page word) == home) && cond (node == home) false true
serves memory home _ = false

abbrev pub gives_added : ℕ → Event → Bool
gives_added home (Post sender receiver (Added old)) = sender == home
gives_added home _ = false

-- the Page or Ack that the home posts at `reply` is the one for what it took at `taking`: replies go in the order of taking
abbrev pub Answers : Events → ℕ → ℕ → ℕ → Type 0
Answers events home reply taking = Head (λ at. takes_request events home (events at)) (λ at. gives_reply home (events at)) reply taking

-- the item at `item` serves the Add that the home took at `taking`
abbrev pub Serves : Events → SharedMemory → ℕ → ℕ → ℕ → Type 0
Serves events memory home item taking = Head (λ at. takes_add events home (events at)) (λ at. serves memory home (events at)) item taking

-- the Added that the home posts at `reply` tells the old value of the item at `item`
abbrev pub Tells : Events → SharedMemory → ℕ → ℕ → ℕ → Type 0
Tells events memory home reply item = Head (λ at. serves memory home (events at)) (λ at. gives_added home (events at)) reply item

-- The Page or Ack that answers what was posted at `post` was taken by the node before `now`.
pub record Replied (events : Events) (node post now : ℕ) : Type 0 where
  pub at : ℕ
  pub reply : ℕ
  pub home : ℕ
  pub taking : ℕ
  pub note : Note
  pub before : at < now
  pub takes : events at ≡ Took node reply
  pub posted : events reply ≡ Post home node note
  pub replies : is_reply note ≡ true
  pub answers : Answers events home reply taking
  pub took : events taking ≡ Took home post

-- The Added that answers the Add posted at `post` was taken by the node before `now`.
pub record AddDone (events : Events) (memory : SharedMemory) (node post now : ℕ) : Type 0 where
  pub at : ℕ
  pub reply : ℕ
  pub home : ℕ
  pub served : ℕ
  pub taking : ℕ
  pub old : ℤ
  pub before : at < now
  pub takes : events at ≡ Took node reply
  pub posted : events reply ≡ Post home node (Added old)
  pub tells : Tells events memory home reply served
  pub serves : Serves events memory home served taking
  pub took : events taking ≡ Took home post

-- the answer to this message, if it waits for one, was taken by the node before `now`
abbrev pub Answered : Events → SharedMemory → ℕ → ℕ → ℕ → Note → Type 0
Answered events memory node post now (Fetch page) = Replied events node post now
Answered events memory node post now (Reconcile parts) = Replied events node post now
Answered events memory node post now (AddTo frame word addend) = AddDone events memory node post now
Answered events memory node post now _ = Unit {0}

-- ---- accesses

-- The node writes this value to the word, at this position.
pub record Wrote (events : Events) (node word at : ℕ) (value : ℤ) : Type 0 where
  pub frame : FrameId
  pub is : events at ≡ Acts node frame (Write word value)

abbrev pub IsWrite : Events → ℕ → ℕ → ℕ → Type 0
IsWrite events node word at = (value : ℤ) × Wrote events node word at value

pub record HasRead (events : Events) (node word at : ℕ) (value : ℤ) : Type 0 where
  pub frame : FrameId
  pub is : events at ≡ Acts node frame (Read word value)

pub record HasAdd (events : Events) (node word at : ℕ) (old : ℤ) : Type 0 where
  pub frame : FrameId
  pub addend : ℤ
  pub is : events at ≡ Acts node frame (Add word old addend)

-- a read or a write, which touches the page in the cache
abbrev pub IsTouch : Events → ℕ → ℕ → ℕ → Type 0
IsTouch events node word at = IsWrite events node word at ⊎ ((value : ℤ) × HasRead events node word at value)

abbrev pub IsAdd : Events → ℕ → ℕ → ℕ → Type 0
IsAdd events node word at = (old : ℤ) × HasAdd events node word at old

abbrev pub IsAccess : Events → ℕ → ℕ → ℕ → Type 0
IsAccess events node word at = IsTouch events node word at ⊎ IsAdd events node word at

-- what a read gives, or the old value of an add
abbrev pub Obtains : Events → ℕ → ℕ → ℕ → ℤ → Type 0
Obtains events node word at value = HasRead events node word at value ⊎ HasAdd events node word at value

-- An access that leaves this value in the word: a write, or an add whose sum is in range.
pub data Leaves (events : Events) (memory : SharedMemory) (node word at : ℕ) (value : ℤ) : Type 0 where
  OfWrite : Wrote events node word at value → Leaves events memory node word at value
  OfAdd : (frame : FrameId) (old addend : ℤ) → events at ≡ Acts node frame (Add word old addend) → memory.sum old addend ≡ Some value →
      Leaves events memory node word at value

abbrev pub IsLeaving : Events → SharedMemory → ℕ → ℕ → ℕ → Type 0
IsLeaving events memory node word at = (value : ℤ) × Leaves events memory node word at value

-- ---- arrivals

-- The page comes into the node's cache, with these words: by the taking of a Page, or by the node's own fetch.
pub data Arrives (events : Events) (node page at : ℕ) (words : ℕ → ℤ) : Type 0 where
  ByPage : (home post : ℕ) → events at ≡ Took node post → events post ≡ Post home node (Page page words) → Arrives events node page at words
  ByOwn : events at ≡ OwnFetch node page words → Arrives events node page at words

abbrev pub IsArrival : Events → ℕ → ℕ → ℕ → Type 0
IsArrival events node page at = (words : ℕ → ℤ) × Arrives events node page at words

-- What arrived at `arrival` was given by the home at `given`: where it took the Fetch, or at the own fetch itself.
pub data Source (events : Events) (node page arrival given : ℕ) : Type 0 where
  FromPage : (home post : ℕ) (words : ℕ → ℤ) → events arrival ≡ Took node post → events post ≡ Post home node (Page page words) →
      Answers events home post given → Source events node page arrival given
  FromOwn : (words : ℕ → ℤ) → events arrival ≡ OwnFetch node page words → given ≡ arrival → Source events node page arrival given

-- The page is in the node's cache at `now`, since this arrival, with which it had these words.
pub record Resident (events : Events) (node page now arrival : ℕ) (words : ℕ → ℤ) : Type 0 where
  pub before : arrival < now
  pub arrives : Arrives events node page arrival words
  pub kept : NoneBetween (λ at. events at ≡ Drop node page) arrival now
  pub last : NoneBetween (IsArrival events node page) arrival now

-- The node's last write of the word between these two positions is at `write`, of this value.
pub record LastWrite (events : Events) (node word from to write : ℕ) (value : ℤ) : Type 0 where
  pub after : from < write
  pub before : write < to
  pub writes : Wrote events node word write value
  pub none : NoneBetween (IsWrite events node word) write to

abbrev pub NoWrite : Events → ℕ → ℕ → ℕ → ℕ → Type 0
NoWrite events node word from to = NoneBetween (IsWrite events node word) from to

-- ---- sendings

abbrev pub HasPart : Part → List Part → Type 0
HasPart part [] = ⊥
HasPart part (first ∷ rest) = (first ≡ part) ⊎ HasPart part rest

-- The node sends the part to its home: in a Reconcile that it posts, or by its own reconcile.
pub data Sending (events : Events) (node post : ℕ) (part : Part) : Type 0 where
  ByPart : (home : ℕ) (parts : List Part) → events post ≡ Post node home (Reconcile parts) → HasPart part parts →
      Sending events node post part
  ByItem : events post ≡ OwnReconcile node part → Sending events node post part

abbrev pub Sends : Events → ℕ → ℕ → ℕ → Type 0
Sends events node page post = (part : Part) × Sending events node post part × (part.page ≡ page)

-- The node's first sending of the page after the write is at `post`.
pub record FirstSending (events : Events) (node page write post : ℕ) : Type 0 where
  pub after : write < post
  pub sends : Sends events node page post
  pub none : NoneBetween (Sends events node page) write post

pub record TakenAt (events : Events) (post at : ℕ) : Type 0 where
  pub taker : ℕ
  pub is : events at ≡ Took taker post

-- The home merges what was sent at `post`: where it takes the Reconcile, or at the own reconcile itself.
pub data Received (events : Events) (post at : ℕ) : Type 0 where
  ByTaking : TakenAt events post at → Received events post at
  AtItem : (node : ℕ) (part : Part) → events post ≡ OwnReconcile node part → at ≡ post → Received events post at

-- What was sent at `post` is known to be merged at `now`: its Ack was taken before, or it was the node's own.
pub data Settled (events : Events) (node post now : ℕ) : Type 0 where
  Acked : Replied events node post now → Settled events node post now
  AtOnce : (part : Part) → events post ≡ OwnReconcile node part → post < now → Settled events node post now

-- ---- moments

-- The node wrote the word in this stay of the page, up to this access: the moment is where the home merges the first sending after that
-- write.
pub record ByWrite (events : Events) (page node word access moment : ℕ) : Type 0 where
  pub arrival : ℕ
  pub words : ℕ → ℤ
  pub resident : Resident events node page access arrival words
  pub write : ℕ
  pub value : ℤ
  pub last : LastWrite events node word arrival (suc access) write value
  pub post : ℕ
  pub first : FirstSending events node page write post
  pub received : Received events post moment

-- The node has not written the word in this stay of the page: the moment is where the home gave the page.
pub record ByArrival (events : Events) (page node word access moment : ℕ) : Type 0 where
  pub arrival : ℕ
  pub words : ℕ → ℤ
  pub resident : Resident events node page access arrival words
  pub none : NoWrite events node word arrival (suc access)
  pub source : Source events node page arrival moment

abbrev pub Stay : Events → SharedMemory → ℕ → ℕ → ℕ → ℕ → Type 0
Stay events memory node word access moment =
    ByWrite events (memory.page word) node word access moment ⊎ ByArrival events (memory.page word) node word access moment

-- The moment of a read or a write, by the stay of its page; that of an add is its own item, which the home does.
abbrev pub Moment : Events → SharedMemory → ℕ → ℕ → ℕ → ℕ → Type 0
Moment events memory node word access moment =
    (IsTouch events node word access × Stay events memory node word access moment) ⊎ (IsAdd events node word access × (moment ≡ access))
