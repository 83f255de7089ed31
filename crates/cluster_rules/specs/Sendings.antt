-- Sendings of written words to their homes, what a node waits for, and when a sending is settled.
use Rattle.std.specs.Prelude.{◌≡◌, ◌==◌, ◌&&◌, ◌||◌, ℕ, Bool, true, false, is_some, List, [], ◌∷◌, ◌++◌}
use Rattle.std.specs.Int.{bit_at}
use Rattle.std.specs.List.{list_any}
use Rattle.page_messages.specs.declared.message.Msg.{Msg}
use Rattle.page_messages.specs.declared.message.Body.{Body}
use Rattle.page_messages.specs.declared.message.Body.TheVariants.{Fetch, Reconcile, Ack, Add, Added}
use Rattle.page_messages.specs.declared.parts.Part.{Part}
use Rattle.page_messages.specs.declared.log.Item.{Item}
use Rattle.page_messages.specs.declared.log.Item.TheVariants.{OwnReconcile}
use Rattle.cluster_rules.specs.Walking.{since}
use Rattle.cluster_rules.specs.Turns.{Event, Did, Sent, Took, Past}
use Rattle.cluster_rules.specs.Node.{Node, page_of, place_of}
use Rattle.cluster_rules.specs.Cache.{page_in, arrives, writes}

-- ---- sendings

abbrev pub parts_in : Body → List Part
parts_in (Reconcile parts) = parts
parts_in _ = []

abbrev pub own_parts : Item → List Part
own_parts (OwnReconcile part) = part ∷ []
own_parts _ = []

-- The sendings of an event: the parts of a Reconcile that is posted, or an OwnReconcile.
abbrev pub sendings : Event → List Part
sendings (Sent message) = parts_in message.body
sendings (Did item) = own_parts item
sendings _ = []

-- the mask marks the word at this place
abbrev pub marks : ℕ → ℕ → Bool
marks mask place = bit_at mask place == 1

-- the part has this word, marked
abbrev pub marks_word : Node → ℕ → Part → Bool
marks_word node word part = (part.page == page_of node word) && marks part.mask (place_of node word)

abbrev pub sends : ℕ → Event → Bool
sends page event = list_any (λ part. part.page == page) (sendings event)

abbrev pub sends_word : Node → ℕ → Event → Bool
sends_word node word event = list_any (marks_word node word) (sendings event)

-- A word is dirty where it was written since the later of the arrival and the last sending of its page.
abbrev pub is_dirty : Node → ℕ → Past → Bool
is_dirty node word past = list_any (writes word) (since (λ event. arrives (page_of node word) event || sends (page_of node word) event) past)

-- ---- what a node waits for

-- after a Fetch for the Page, after a Reconcile for the Ack of its receiver, after an Add for the Added
pub data Wait : Type 0 where
  ForPage : (page : ℕ) → Wait
  ForAck : (home : ℕ) → Wait
  ForAdded : Wait

abbrev pub fetches_in : ℕ → Body → Bool
fetches_in page (Fetch other) = other == page
fetches_in page _ = false

abbrev pub reconciles_in : Body → Bool
reconciles_in (Reconcile parts) = true
reconciles_in _ = false

abbrev pub acks_in : Body → Bool
acks_in Ack = true
acks_in _ = false

abbrev pub adds_in : Body → Bool
adds_in (Add frame index word addend) = true
adds_in _ = false

abbrev pub tells_in : Body → Bool
tells_in (Added old) = true
tells_in _ = false

abbrev pub requests : Wait → Msg → Bool
requests (ForPage page) message = fetches_in page message.body
requests (ForAck home) message = reconciles_in message.body && (message.receiver == home)
requests ForAdded message = adds_in message.body

abbrev pub answers : Wait → Msg → Bool
answers (ForPage page) message = is_some (page_in page message.body)
answers (ForAck home) message = acks_in message.body && (message.sender == home)
answers ForAdded message = tells_in message.body

abbrev pub begins : Wait → Event → Bool
begins wait (Sent message) = requests wait message
begins wait _ = false

abbrev pub ends : Wait → Event → Bool
ends wait (Took message) = answers wait message
ends wait _ = false

-- the request was posted, and no answer was taken since
abbrev pub awaits : Wait → Past → Bool
awaits wait past = list_any (begins wait) (since (ends wait) past)

-- No Fetch, Reconcile or Add of the node waits for its answer.
abbrev pub IsQuiet : Past → Type 0
IsQuiet past = (wait : Wait) → awaits wait past ≡ false

-- ---- settled sendings

-- A sending is settled where the Ack of its home was taken: the next one, since no second Reconcile goes there before it. One to the
-- node's own home is settled at once.
abbrev pub settles : Event → Past → Bool
settles (Sent message) later = list_any (ends (ForAck message.receiver)) later
settles (Did item) later = true
settles _ later = false

-- Afterwards the word was in a settled sending, marked.
pub record IsSettled (node : Node) (word : ℕ) (later : Past) : Type 0 where
  pub newer : Past
  pub older : Past
  pub event : Event
  pub parts : later ≡ newer ++ event ∷ older
  pub sends : sends_word node word event ≡ true
  pub settled : settles event newer ≡ true

-- Each Write of the word was afterwards in a settled sending.
abbrev pub AllSettled : Node → ℕ → Past → Type 0
AllSettled node word past = (later older : Past) (event : Event) → past ≡ later ++ event ∷ older → writes word event ≡ true → IsSettled node word later
