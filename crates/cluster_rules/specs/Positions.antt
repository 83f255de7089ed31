-- Positions: all events of a list of turns in one order. Inside a turn that is items, posts, the taken message, the end.
use Rattle.std.specs.Prelude.{◌≡◌, ◌<◌, ◌==◌, ◌+◌, if◌then◌else◌, ℕ, Bool, false, Option, Some, None, List, [], ◌∷◌, length}
use Rattle.cilk_meaning.specs.declared.ends.NodeEnd.{NodeEnd}
use Rattle.page_messages.specs.declared.message.Msg.{Msg}
use Rattle.page_messages.specs.declared.log.Item.{Item}
use Rattle.page_messages.specs.declared.log.PostAt.{PostAt}
use Rattle.cluster_rules.specs.Turns.{WholeTurn, Event, Did, Sent, Took, Ended, Past, posted_at}

-- An event of a node. Where it is a post or a taking, it has the place of the message.
pub record Moved : Type 0 where
  pub node : ℕ
  pub event : Event
  pub message : Option PostAt

-- what has happened in a cluster, the latest first
abbrev pub Course : Type 0
Course = List Moved

abbrev pub with_items : ℕ → List Item → Course → Course
with_items node [] course = course
with_items node (item ∷ items) course = with_items node items (record { node = node; event = Did item; message = None } ∷ course)

abbrev pub with_posts : ℕ → PostAt → List Msg → Course → Course
with_posts node place [] course = course
with_posts node place (message ∷ messages) course =
    with_posts node (record place { index = place.index + 1 }) messages (record { node = node; event = Sent message; message = Some place } ∷ course)

abbrev pub with_taking : ℕ → Option PostAt → Option Msg → Course → Course
with_taking node place None course = course
with_taking node place (Some message) course = record { node = node; event = Took message; message = place } ∷ course

abbrev pub with_end : ℕ → Option NodeEnd → Course → Course
with_end node None course = course
with_end node (Some end) course = record { node = node; event = Ended end; message = None } ∷ course

abbrev pub with_turn : ℕ → WholeTurn → Option Msg → Course → Course
with_turn number turn message course =
    with_end turn.node turn.end
    (with_taking turn.node turn.took message
    (with_posts turn.node (record { turn = number; index = 0 }) turn.posts
    (with_items turn.node turn.items course)))

-- The events of turns, of which the latest comes first.
unfoldable pub course_of : List WholeTurn → Course
course_of [] = []
course_of (turn ∷ older) = with_turn (length older) turn (posted_at older turn.took) (course_of older)

-- those of one node
abbrev pub own : ℕ → Course → Past
own node [] = []
own node (moved ∷ course) = if moved.node == node then moved.event ∷ own node course else own node course

-- what stands at a position, and what stood before it
abbrev pub at : Course → ℕ → Option Moved
at [] position = None
at (moved ∷ course) position = if position == length course then Some moved else at course position

abbrev pub before : Course → ℕ → Course
before [] position = []
before (moved ∷ course) position = if position == length course then course else before course position

-- The event happens to the node at this position.
pub record Happens (course : Course) (node position : ℕ) (event : Event) : Type 0 where
  pub moved : Moved
  pub is : at course position ≡ Some moved
  pub by : moved.node ≡ node
  pub event_is : moved.event ≡ event

-- Nothing that happens to the node strictly between two positions is such.
abbrev pub NoneBetween : Course → ℕ → (Event → Bool) → ℕ → ℕ → Type 0
NoneBetween course node such first last =
    (position : ℕ) (moved : Moved) → first < position → position < last → at course position ≡ Some moved → moved.node ≡ node → such moved.event ≡ false
