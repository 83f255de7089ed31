-- The Asks that a node has to answer, and its own.
use Rattle.std.specs.Prelude.{◌==◌, ◌&&◌, not, ◌+◌, ◌%◌, if◌then◌else◌, ℕ, Bool, true, false, Option, Some, List, [], ◌∷◌, ◌++◌}
use Rattle.std.specs.List.{list_any}
use Rattle.page_messages.specs.declared.message.Body.{Body}
use Rattle.page_messages.specs.declared.message.Body.TheVariants.{Ask, Grant, Refuse}
use Rattle.cluster_rules.specs.Walking.{latest, since, is_empty, rest_of}
use Rattle.cluster_rules.specs.Turns.{Event, Sent, Took, Past}
use Rattle.cluster_rules.specs.Node.{Node}
use Rattle.cluster_rules.specs.Frames.{frames_of}

-- The stack or the ready list of the node is not empty: it is busy.
abbrev pub has_frames : Node → Past → Bool
has_frames node past = not (is_empty (frames_of node past).stack && is_empty (frames_of node past).ready)

-- an Ask that was taken: from whom, and whether the node was busy then, and so keeps it
pub record Asked : Type 0 where
  pub sender : ℕ
  pub kept : Bool

abbrev pub asks_taken : Bool → ℕ → Body → List Asked → List Asked
asks_taken busy sender Ask asks = asks ++ record { sender = sender; kept = busy } ∷ []
asks_taken busy sender _ asks = asks

abbrev pub asks_sent : Body → List Asked → List Asked
asks_sent (Grant closure) asks = rest_of asks
asks_sent Refuse asks = rest_of asks
asks_sent _ asks = asks

abbrev pub asks_on : Node → Event → Past → List Asked → List Asked
asks_on node (Took message) past asks = asks_taken (has_frames node past) message.sender message.body asks
asks_on node (Sent message) past asks = asks_sent message.body asks
asks_on node _ past asks = asks

-- The Asks that the node took and has not answered, the oldest first. A Grant or a Refuse answers the oldest.
unfoldable pub asks_of : Node → Past → List Asked
asks_of node [] = []
asks_of node (event ∷ past) = asks_on node event past (asks_of node past)

abbrev pub keeps_ask : Node → Past → Bool
keeps_ask node past = list_any (λ ask. ask.kept) (asks_of node past)

-- ---- its own Asks

abbrev pub asks_in : Body → Bool
asks_in Ask = true
asks_in _ = false

abbrev pub sends_ask : Event → Bool
sends_ask (Sent message) = asks_in message.body
sends_ask _ = false

abbrev pub answers_ask_in : Body → Bool
answers_ask_in (Grant closure) = true
answers_ask_in Refuse = true
answers_ask_in _ = false

abbrev pub takes_answer : Event → Bool
takes_answer (Took message) = answers_ask_in message.body
takes_answer _ = false

-- an Ask of this node is not answered
abbrev pub is_asking : Past → Bool
is_asking past = list_any sends_ask (since takes_answer past)

-- the node behind another one in cyclic order, this node left out
abbrev pub following : Node → ℕ → ℕ
following node other =
    if (other + 1) % node.config.nodes == node.me then (other + 2) % node.config.nodes else (other + 1) % node.config.nodes

abbrev pub receiver_of : Option Event → ℕ → ℕ
receiver_of (Some (Sent message)) other = message.receiver
receiver_of _ other = other

-- Whom it asks next: the node behind the one that it asked last, and at first the one behind itself.
abbrev pub next_victim : Node → Past → ℕ
next_victim node past = following node (receiver_of (latest sends_ask past) node.me)
