-- A message is posted by its sender.
use Rattle.std.proofs.Common.{◌≡◌, inl, inr, ℕ, List, [], ◌∷◌, ◌++◌, Bool, true, false, cond, refl, subst}
use Rattle.page_messages.specs.declared.message.Msg.{Msg}
use Rattle.page_messages.specs.declared.message.Body.{Body}
use Rattle.page_messages.specs.declared.message.Body.TheVariants as body
use Rattle.cluster_rules.specs.Turns.{Did, Sent, Took, Ended, Past}
use Rattle.cluster_rules.specs.Node.{Node}
use Rattle.cluster_rules.specs.Walking.{rest_of}
use Rattle.cluster_rules.specs.Home.{reply, replies_in, owed_home_replies}
use Rattle.cluster_rules.specs.Runs.{MaySend}

-- each is from this node, and a Page or an Ack
abbrev pub AreReplies : ℕ → List Msg → Type 0
AreReplies number [] = Unit {0}
AreReplies number (message ∷ messages) = (message.sender ≡ number) × (replies_in message.body ≡ true) × AreReplies number messages

append_replies : (number : ℕ) (front back : List Msg) → AreReplies number front → AreReplies number back → AreReplies number (front ++ back)
append_replies number [] back first second = second
append_replies number (message ∷ front) back first second = (first.0, first.1, append_replies number front back first.2 second)

rest_replies : (number : ℕ) (messages : List Msg) → AreReplies number messages → AreReplies number (rest_of messages)
rest_replies number [] all = tt
rest_replies number (message ∷ messages) all = all.2

reply_is : (node : Node) (sender : ℕ) (said : Body) (past : Past) → AreReplies node.me (reply node sender said past)
reply_is node sender (body.Fetch page) past = (refl, refl, tt)
reply_is node sender (body.Page page words) past = tt
reply_is node sender (body.Reconcile parts) past = (refl, refl, tt)
reply_is node sender body.Ack past = tt
reply_is node sender body.Ask past = tt
reply_is node sender (body.Grant closure) past = tt
reply_is node sender body.Refuse past = tt
reply_is node sender (body.Done join index value) past = tt
reply_is node sender (body.Park join closure) past = tt
reply_is node sender (body.Add frame index word addend) past = tt
reply_is node sender (body.Added old) past = tt

left_replies : (number : ℕ) (b : Bool) (messages : List Msg) → AreReplies number messages → AreReplies number (cond b (rest_of messages) messages)
left_replies number true messages all = rest_replies number messages all
left_replies number false messages all = all

-- what a home owes
pub owed_replies : (node : Node) (past : Past) → AreReplies node.me (owed_home_replies node past)
unfolding owed_home_replies
owed_replies node [] = tt
owed_replies node (Did item ∷ past) = owed_replies node past
owed_replies node (Ended end ∷ past) = owed_replies node past
owed_replies node (Sent message ∷ past) = left_replies node.me (replies_in message.body) (owed_home_replies node past) (owed_replies node past)
owed_replies node (Took message ∷ past) =
    append_replies node.me (owed_home_replies node past) (reply node message.sender message.body past) (owed_replies node past)
    (reply_is node message.sender message.body past)

pub sends_from : (node : Node) (past : Past) (message : Msg) → MaySend node past message → message.sender ≡ node.me
sends_from node past message (inl due) = (subst (AreReplies node.me) due.1 (owed_replies node past)).0
sends_from node past message (inr sends) = sends.sender
