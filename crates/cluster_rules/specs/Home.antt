-- The home of a node: the words of its pages, and what it owes to other nodes.
use Rattle.std.specs.Prelude.{◌==◌, ◌+◌, ◌+ℤ◌, if◌then◌else◌, ℕ, zero, suc, ℤ, pos, Bool, true, false, Option, Some, None, unwrap_or, List, [], ◌∷◌, ◌++◌, slice_index_or}
use Rattle.cilk_meaning.specs.Values.{fits}
use Rattle.page_messages.specs.declared.message.Msg.{Msg}
use Rattle.page_messages.specs.declared.message.Body.{Body}
use Rattle.page_messages.specs.declared.message.Body.TheVariants.{Fetch, Page, Reconcile, Ack, Add, Added}
use Rattle.page_messages.specs.declared.parts.Part.{Part}
use Rattle.page_messages.specs.declared.log.Item.{Item}
use Rattle.page_messages.specs.declared.log.Item.TheVariants.{OwnReconcile, Served}
use Rattle.cluster_rules.specs.Walking.{given, rest_of}
use Rattle.cluster_rules.specs.Turns.{Event, Did, Sent, Took, Ended, Past}
use Rattle.cluster_rules.specs.Node.{Node, place_of, word_of, start_word}
use Rattle.cluster_rules.specs.Sendings.{parts_in, marks_word, tells_in}

-- ---- stored words

abbrev pub word_in : Node → ℕ → Part → Option ℤ
word_in node word part = if marks_word node word part then Some (slice_index_or part.words (place_of node word) (pos 0)) else None

-- an add leaves the sum, where that is a value
abbrev pub sum_in : ℤ → ℤ → Option ℤ
sum_in old addend = if fits (old +ℤ addend) then Some (old +ℤ addend) else None

abbrev pub changes_item : Node → ℕ → Item → Option ℤ
changes_item node word (OwnReconcile part) = word_in node word part
changes_item node word (Served frame index other old addend) = if other == word then sum_in old addend else None
changes_item node word _ = None

-- What a stored word becomes: by a sending that is received with this word marked, or by an add whose sum is a value.
abbrev pub changes : Node → ℕ → Event → Option ℤ
changes node word (Took message) = given (word_in node word) (parts_in message.body)
changes node word (Did item) = changes_item node word item
changes node word _ = None

-- A stored word: what the last change of it left, else its start word.
abbrev pub stored : Node → ℕ → Past → ℤ
stored node word past = unwrap_or (given (changes node word) past) (start_word node word)

abbrev pub stored_from : Node → ℕ → ℕ → Past → List ℤ
stored_from node word zero past = []
stored_from node word (suc count) past = stored node word past ∷ stored_from node (word + 1) count past

abbrev pub stored_page : Node → ℕ → Past → List ℤ
stored_page node page past = stored_from node (word_of node page 0) node.config.page_words past

-- ---- owed Pages and Acks

abbrev pub from_me : Node → ℕ → Body → Msg
from_me node receiver body = record { sender = node.me; receiver = receiver; body = body }

-- the reply to a message, as it is taken: the Page has its words from before that
abbrev pub reply : Node → ℕ → Body → Past → List Msg
reply node sender (Fetch page) past = from_me node sender (Page page (stored_page node page past)) ∷ []
reply node sender (Reconcile parts) past = from_me node sender Ack ∷ []
reply node sender _ past = []

abbrev pub replies_in : Body → Bool
replies_in (Page page words) = true
replies_in Ack = true
replies_in _ = false

-- The Pages and Acks that a home owes, in the order of taking. Each Page or Ack that is posted is the first of them.
unfoldable pub owed_home_replies : Node → Past → List Msg
owed_home_replies node [] = []
owed_home_replies node (Took message ∷ past) = owed_home_replies node past ++ reply node message.sender message.body past
owed_home_replies node (Sent message ∷ past) = if replies_in message.body then rest_of (owed_home_replies node past) else owed_home_replies node past
owed_home_replies node (Did item ∷ past) = owed_home_replies node past
owed_home_replies node (Ended end ∷ past) = owed_home_replies node past

-- ---- owed adds

abbrev pub with_add : Body → Msg → List Msg → List Msg
with_add (Add frame index word addend) message adds = adds ++ message ∷ []
with_add _ message adds = adds

abbrev pub after_served : Item → List Msg → List Msg
after_served (Served frame index word old addend) adds = rest_of adds
after_served _ adds = adds

-- The Adds that were taken and are not yet done, the oldest first. While there is one, a Served item does the first.
unfoldable pub owed_adds : Past → List Msg
owed_adds [] = []
owed_adds (Took message ∷ past) = with_add message.body message (owed_adds past)
owed_adds (Did item ∷ past) = after_served item (owed_adds past)
owed_adds (Sent message ∷ past) = owed_adds past
owed_adds (Ended end ∷ past) = owed_adds past

abbrev pub told_by : Node → Item → List Msg → List Msg
told_by node (Served frame index word old addend) (add ∷ adds) = from_me node add.sender (Added old) ∷ []
told_by node _ adds = []

-- The Addeds for the adds of other nodes that were done and not yet told, the oldest first.
unfoldable pub owed_olds : Node → Past → List Msg
owed_olds node [] = []
owed_olds node (Did item ∷ past) = owed_olds node past ++ told_by node item (owed_adds past)
owed_olds node (Sent message ∷ past) = if tells_in message.body then rest_of (owed_olds node past) else owed_olds node past
owed_olds node (Took message ∷ past) = owed_olds node past
owed_olds node (Ended end ∷ past) = owed_olds node past
