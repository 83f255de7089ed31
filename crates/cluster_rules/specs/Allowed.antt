-- What the rules of turns say of each single event in the past of a node. Every lawful list of turns keeps them; what a node may not leave
-- owed at the end of a turn they do not say.
use Rattle.std.specs.Prelude.{◌≡◌, ◌⊎◌, List, [], ◌∷◌}
use Rattle.page_messages.specs.declared.message.Msg.{Msg}
use Rattle.page_messages.specs.declared.log.Item.{Item}
use Rattle.cluster_rules.specs.Turns.{Event, Did, Sent, Took, Ended, Past}
use Rattle.cluster_rules.specs.Node.{Node}
use Rattle.cluster_rules.specs.Sendings.{IsQuiet}
use Rattle.cluster_rules.specs.Edges.{MayEnd}
use Rattle.cluster_rules.specs.Runs.{IsOwed, IsFree, MayDo, MaySend, IsBounded}

-- an item, with what stands behind it in its turn
pub record DoesItem (node : Node) (past : Past) (item : Item) : Type 0 where
  pub rest : List Item
  pub posts : List Msg
  pub may : IsOwed node past item ⊎ (IsFree past × MayDo node past item rest posts)

-- An event that may come behind this past.
abbrev pub IsAllowed : Node → Past → Event → Type 0
IsAllowed node past (Did item) = DoesItem node past item
IsAllowed node past (Sent message) = MaySend node past message
IsAllowed node past (Took message) = (message.receiver ≡ node.me) × IsBounded node (Took message ∷ past)
IsAllowed node past (Ended end) = IsQuiet past × MayEnd node past end

-- Each event of the past may come behind those before it.
abbrev pub AllAllowed : Node → Past → Type 0
AllAllowed node [] = Unit {0}
AllAllowed node (event ∷ past) = IsAllowed node past event × AllAllowed node past
