-- Turns with their messages in full, what one node has done and taken, and the delivery of messages.
use Rattle.std.specs.Prelude.{◌≡◌, ◌==◌, ◌&&◌, if◌then◌else◌, ℕ, Bool, false, Option, Some, None, List, [], ◌∷◌, length, slice_get}
use Rattle.std.specs.List.{list_any}
use Rattle.cilk_meaning.specs.declared.ends.NodeEnd.{NodeEnd}
use Rattle.page_messages.specs.declared.message.Msg.{Msg}
use Rattle.page_messages.specs.declared.log.Item.{Item}
use Rattle.page_messages.specs.declared.log.PostAt.{PostAt}

-- A whole turn has the messages that it posted in full. The message that it took is named by its place.
pub record WholeTurn : Type 0 where
  pub node : ℕ
  pub items : List Item
  pub posts : List Msg
  pub took : Option PostAt
  pub end : Option NodeEnd

-- What happens to one node: it does an item, posts a message, takes one, or ends.
pub data Event : Type 0 where
  Did : (item : Item) → Event
  Sent : (message : Msg) → Event
  Took : (message : Msg) → Event
  Ended : (end : NodeEnd) → Event

-- what has happened to a node, the latest first
abbrev pub Past : Type 0
Past = List Event

-- Inside a turn the order is items, posts, the taken message, the end.
abbrev pub did : List Item → Past → Past
did [] past = past
did (item ∷ items) past = did items (Did item ∷ past)

abbrev pub sent : List Msg → Past → Past
sent [] past = past
sent (message ∷ messages) past = sent messages (Sent message ∷ past)

abbrev pub took : Option Msg → Past → Past
took None past = past
took (Some message) past = Took message ∷ past

abbrev pub ended : Option NodeEnd → Past → Past
ended None past = past
ended (Some end) past = Ended end ∷ past

abbrev pub after_turn : WholeTurn → Option Msg → Past → Past
after_turn turn message past = ended turn.end (took message (sent turn.posts (did turn.items past)))

-- The message that was posted at a place. Of all turns the latest comes first.
unfoldable pub posted : List WholeTurn → PostAt → Option Msg
posted [] place = None
posted (turn ∷ older) place = if place.turn == length older then slice_get turn.posts place.index else posted older place

abbrev pub posted_at : List WholeTurn → Option PostAt → Option Msg
posted_at older None = None
posted_at older (Some place) = posted older place

-- What a node has done and taken in these turns.
unfoldable pub past_of : ℕ → List WholeTurn → Past
past_of number [] = []
past_of number (turn ∷ older) =
    if turn.node == number then after_turn turn (posted_at older turn.took) (past_of number older) else past_of number older

abbrev pub same_place : PostAt → PostAt → Bool
same_place first second = (first.turn == second.turn) && (first.index == second.index)

abbrev pub takes_at : PostAt → Option PostAt → Bool
takes_at place None = false
takes_at place (Some other) = same_place other place

-- The message was posted to the node in an earlier turn, and nobody has taken it.
pub record Waits (older : List WholeTurn) (receiver : ℕ) (place : PostAt) (message : Msg) : Type 0 where
  pub was_posted : posted older place ≡ Some message
  pub to : message.receiver ≡ receiver
  pub not_taken : list_any (λ turn. takes_at place turn.took) older ≡ false

-- Delivery: a node takes a message that waits for it, or none.
abbrev pub IsDelivered : List WholeTurn → ℕ → Option PostAt → Option Msg → Type 0
IsDelivered older receiver None message = message ≡ None
IsDelivered older receiver (Some place) message = (waiting : Msg) × (message ≡ Some waiting) × Waits older receiver place waiting
