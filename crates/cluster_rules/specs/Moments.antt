-- The moment of an access: where its value came to the home, or from there. The home order of a word lists its accesses by it.
use Rattle.std.specs.Prelude.{◌≡◌, ◌<◌, ◌≤◌, ◌==◌, ◌||◌, ◌⊎◌, ◌↔◌, ℕ, ℤ, Bool, true, false, Option, Some, None, List, [], ◌∷◌}
use Rattle.std.specs.List.{count_by, Contains}
use Rattle.page_messages.specs.declared.message.Msg.{Msg}
use Rattle.page_messages.specs.declared.message.Body.{Body}
use Rattle.page_messages.specs.declared.message.Body.TheVariants.{Fetch}
use Rattle.page_messages.specs.declared.log.LoggedAct.{LoggedAct}
use Rattle.page_messages.specs.declared.log.LoggedAct.TheVariants.{Read, Write}
use Rattle.page_messages.specs.declared.log.Item.{Item}
use Rattle.page_messages.specs.declared.log.Item.TheVariants.{Act, OwnFetch, Served}
use Rattle.page_messages.specs.declared.log.PostAt.{PostAt}
use Rattle.cluster_rules.specs.Turns.{Event, Did, Sent, Took}
use Rattle.cluster_rules.specs.Node.{Node, page_of}
use Rattle.cluster_rules.specs.Cache.{arrives, writes}
use Rattle.cluster_rules.specs.Sendings.{sends, reconciles_in}
use Rattle.cluster_rules.specs.Home.{replies_in}
use Rattle.cluster_rules.specs.Positions.{Moved, Course, own, at, before, Happens, NoneBetween}
use Rattle.cluster_rules.specs.Runs.{Cluster, node_at}

-- ---- accesses

abbrev pub reads_act : ℕ → LoggedAct → Bool
reads_act word (Read other value) = other == word
reads_act word _ = false

abbrev pub touches_item : ℕ → Item → Bool
touches_item word (Act frame index (Write other value)) = other == word
touches_item word (Act frame index act) = reads_act word act
touches_item word _ = false

-- a Read or Write act on the word
abbrev pub touches : ℕ → Event → Bool
touches word (Did item) = touches_item word item
touches word _ = false

abbrev pub adds_item : ℕ → Item → Bool
adds_item word (Served frame index other old addend) = other == word
adds_item word _ = false

-- an add to the word
abbrev pub adds : ℕ → Event → Bool
adds word (Did item) = adds_item word item
adds word _ = false

-- ---- from where a page came

abbrev pub is_fetch : Body → Bool
is_fetch (Fetch page) = true
is_fetch _ = false

-- what a home answers by Pages and Acks, and those
abbrev pub asks_home : Event → Bool
asks_home (Took message) = is_fetch message.body || reconciles_in message.body
asks_home _ = false

abbrev pub answers_home : Event → Bool
answers_home (Sent message) = replies_in message.body
answers_home _ = false

-- A home answers in the order of taking: its reply at one position answers the Fetch or Reconcile that it took at the other where as many
-- replies stand before the one as such takings before the other.
pub record IsAnswerTo (course : Course) (home reply taking : ℕ) : Type 0 where
  pub replied : Event
  pub taken : Event
  pub reply_is : Happens course home reply replied
  pub taking_is : Happens course home taking taken
  pub answers : answers_home replied ≡ true
  pub asked : asks_home taken ≡ true
  pub same_place : count_by answers_home (own home (before course reply)) ≡ count_by asks_home (own home (before course taking))

-- the message that is posted at one position is taken at the other
pub record IsTakenAt (course : Course) (post taking : ℕ) : Type 0 where
  pub sender : Moved
  pub receiver : Moved
  pub message : Msg
  pub place : PostAt
  pub posted : at course post ≡ Some sender
  pub taken : at course taking ≡ Some receiver
  pub sent : sender.event ≡ Sent message
  pub took : receiver.event ≡ Took message
  pub sent_place : sender.message ≡ Some place
  pub took_place : receiver.message ≡ Some place

-- Where an arrival had its words: at the home's taking of the Fetch that the Page answers, or at the OwnFetch itself.
pub data IsSource (course : Course) (arrival : ℕ) : ℕ → Type 0 where
  Answered : (home reply taking : ℕ) → IsTakenAt course reply arrival → IsAnswerTo course home reply taking → IsSource course arrival taking
  Loaded : (node page : ℕ) (words : List ℤ) → Happens course node arrival (Did (OwnFetch page words)) → IsSource course arrival arrival

-- Where the home received a sending: at the taking of the Reconcile, or at the OwnReconcile itself.
pub data IsReceipt (course : Course) (sending : ℕ) : ℕ → Type 0 where
  Taken : (taking : ℕ) → IsTakenAt course sending taking → IsReceipt course sending taking
  AtOnce : (node : ℕ) (item : Item) → Happens course node sending (Did item) → IsReceipt course sending sending

-- ---- moments

-- Nothing that happens to the node behind one position, up to another one or there, is such.
abbrev pub NoneUpTo : Course → ℕ → (Event → Bool) → ℕ → ℕ → Type 0
NoneUpTo course node such first last =
    (position : ℕ) (moved : Moved) → first < position → position ≤ last → at course position ≡ Some moved → moved.node ≡ node → such moved.event ≡ false

-- the last such event of the node up to a position
pub record IsLast (course : Course) (node : ℕ) (such : Event → Bool) (last position : ℕ) : Type 0 where
  pub event : Event
  pub is : Happens course node position event
  pub such_is : such event ≡ true
  pub within : position ≤ last
  pub none : NoneUpTo course node such position last

-- the first such event of the node behind a position
pub record IsFirst (course : Course) (node : ℕ) (such : Event → Bool) (first position : ℕ) : Type 0 where
  pub event : Event
  pub is : Happens course node position event
  pub such_is : such event ≡ true
  pub behind : first < position
  pub none : NoneBetween course node such first position

-- the node reads or writes the word at this position, and its page arrived last at the other
pub record IsTouch (node : Node) (course : Course) (word access arrival : ℕ) : Type 0 where
  pub event : Event
  pub is : Happens course node.me access event
  pub touches_word : touches word event ≡ true
  pub arrived : IsLast course node.me (arrives (page_of node word)) access arrival

-- Where the node wrote the word since its page arrived, up to the access and with it: where the home received the first sending of the page
-- behind the last such Write.
pub record IsSentMoment (node : Node) (course : Course) (word access moment : ℕ) : Type 0 where
  pub arrival : ℕ
  pub write : ℕ
  pub sending : ℕ
  pub touch : IsTouch node course word access arrival
  pub wrote : IsLast course node.me (writes word) access write
  pub since_arrival : arrival < write
  pub sent : IsFirst course node.me (sends (page_of node word)) write sending
  pub received : IsReceipt course sending moment

-- Where it did not: where the page had its words.
pub record IsArrivedMoment (node : Node) (course : Course) (word access moment : ℕ) : Type 0 where
  pub arrival : ℕ
  pub touch : IsTouch node course word access arrival
  pub unwritten : NoneUpTo course node.me (writes word) arrival access
  pub source : IsSource course arrival moment

-- An add is at its Served item.
pub record IsAddMoment (node : Node) (course : Course) (word access moment : ℕ) : Type 0 where
  pub event : Event
  pub is : Happens course node.me access event
  pub adds_word : adds word event ≡ true
  pub at_once : moment ≡ access

-- The moment of an access of a word by a node. An access whose word was written since the arrival and not sent afterwards has none.
abbrev pub IsMoment : Node → Course → ℕ → ℕ → ℕ → Type 0
IsMoment node course word access moment =
    IsSentMoment node course word access moment ⊎ (IsArrivedMoment node course word access moment ⊎ IsAddMoment node course word access moment)

-- ---- the home order

-- An access in the home order: its position, its node, and its moment, where it has one.
pub record Listed : Type 0 where
  pub position : ℕ
  pub node : ℕ
  pub moment : Option ℕ

abbrev pub EarlierBy : Option ℕ → Option ℕ → Listed → Listed → Type 0
EarlierBy (Some one) (Some other) first second = (one < other) ⊎ ((one ≡ other) × (first.position < second.position))
EarlierBy (Some one) None first second = Unit {0}
EarlierBy None (Some other) first second = ⊥
EarlierBy None None first second = (first.node < second.node) ⊎ ((first.node ≡ second.node) × (first.position < second.position))

-- By moment and then by position. Those without a moment stand last, by node and then by position.
abbrev pub IsEarlier : Listed → Listed → Type 0
IsEarlier first second = EarlierBy first.moment second.moment first second

-- an access of the word, with its moment or without one
pub record IsListed (cluster : Cluster) (course : Course) (word : ℕ) (listed : Listed) : Type 0 where
  pub event : Event
  pub is : Happens course listed.node listed.position event
  pub accesses : (touches word event || adds word event) ≡ true
  pub moments : (moment : ℕ) → (IsMoment (node_at cluster listed.node) course word listed.position moment ↔ (listed.moment ≡ Some moment))

abbrev pub InOrder : List Listed → Type 0
InOrder [] = Unit {0}
InOrder (first ∷ []) = Unit {0}
InOrder (first ∷ (second ∷ rest)) = IsEarlier first second × InOrder (second ∷ rest)

-- The home order of a word: all its accesses, in this order.
pub record IsHomeOrder (cluster : Cluster) (course : Course) (word : ℕ) (order : List Listed) : Type 0 where
  pub listed : (one : Listed) → Contains order one → IsListed cluster course word one
  pub all : (one : Listed) → IsListed cluster course word one → Contains order one
  pub in_order : InOrder order
