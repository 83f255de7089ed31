-- What lawful turns hold fits the configuration.
use Rattle.std.proofs.Common.{◌≡◌, ℕ, zero, suc, ◌+◌, inl, inr, List, [], ◌∷◌, ◌++◌, map, length, Bool, true, false, cond, All, Contains, refl, sym, ap, subst}
use Rattle.std.specs.Prelude.{reverse}
use Rattle.std.proofs.lemmas.List.{reverse-append}
use Rattle.std.proofs.lemmas.List.Elements.{All-nil, All-cons, All-tail, All-head, All-append, All-map, All-contains, All-weaker, All-same, Contains-push, Contains-append_left}
use Rattle.page_words.specs.declared.config.Config.{Config}
use Rattle.page_messages.specs.Fitting.{EachFits, BodyFits, NoteFits, ItemFits}
use Rattle.page_messages.specs.Posts.{note_of, post_of}
use Rattle.page_messages.specs.declared.message.Msg.{Msg}
use Rattle.page_messages.specs.declared.message.Body.{Body}
use Rattle.page_messages.specs.declared.message.Body.TheVariants.{Fetch, Page, Reconcile}
use Rattle.page_messages.specs.declared.parts.Part.{Part}
use Rattle.page_messages.specs.declared.log.Item.{Item}
use Rattle.page_messages.specs.declared.log.Item.TheVariants.{OwnFetch, OwnReconcile, Served}
use Rattle.page_messages.specs.declared.log.Turn.{Turn}
use Rattle.cluster_rules.specs.Walking.{rest_of}
use Rattle.cluster_rules.specs.Turns.{WholeTurn, Did, Sent, Took, Ended, Past, did, past_of}
use Rattle.cluster_rules.specs.Node.{Node, word_of}
use Rattle.cluster_rules.specs.Home.{stored_from, reply, replies_in, owed_home_replies}
use Rattle.cluster_rules.specs.Paging.{EachIsSending}
use Rattle.cluster_rules.specs.Runs.{Cluster, node_at, MayDo, IsOwed, MayDoAll, MayPost, MaySend, MaySendAll, Deeds, deeds_of, Moves, IsStep, IsLawful, IsRun, logged}

-- ---- replies

stored_length : (node : Node) (word count : ℕ) (past : Past) → length (stored_from node word count past) ≡ count
stored_length node word zero past = refl
stored_length node word (suc count) past = ap suc (stored_length node (word + 1) count past)

abbrev Fits : Config → Msg → Type 0
Fits config message = BodyFits config message.body

reply_fits : (node : Node) (sender : ℕ) (body : Body) (past : Past) → All (Fits node.config) (reply node sender body past)
reply_fits node sender (Fetch page) past =
    All-cons (Fits node.config) _ [] (stored_length node (word_of node page 0) node.config.page_words past) (All-nil (Fits node.config))
reply_fits node sender (Reconcile parts) past = All-cons (Fits node.config) _ [] tt (All-nil (Fits node.config))
reply_fits node sender _ past = All-nil (Fits node.config)

rest_fits : (config : Config) (messages : List Msg) → All (Fits config) messages → All (Fits config) (rest_of messages)
rest_fits config [] all = all
rest_fits config (message ∷ messages) all = All-tail (Fits config) message messages all

after_sent : (config : Config) (replies : Bool) (messages : List Msg) → All (Fits config) messages
    → All (Fits config) (cond replies (rest_of messages) messages)
after_sent config true messages all = rest_fits config messages all
after_sent config false messages all = all

-- What a home owes fits.
owed_fits : (node : Node) (past : Past) → All (Fits node.config) (owed_home_replies node past)
unfolding owed_home_replies
owed_fits node [] = All-nil (Fits node.config)
owed_fits node (Took message ∷ past) =
    All-append (Fits node.config) (owed_home_replies node past) (reply node message.sender message.body past) (owed_fits node past)
    (reply_fits node message.sender message.body past)
owed_fits node (Sent message ∷ past) = after_sent node.config (replies_in message.body) (owed_home_replies node past) (owed_fits node past)
owed_fits node (Did item ∷ past) = owed_fits node past
owed_fits node (Ended end ∷ past) = owed_fits node past

-- ---- items and posts

parts_fit : (node : Node) (past : Past) (home : ℕ) (parts : List Part) → EachIsSending node past home parts → EachFits node.config parts
parts_fit node past home [] each = tt
parts_fit node past home (part ∷ parts) each = (each.0.fits, parts_fit node past home parts each.1)

post_fits : (node : Node) (past : Past) (receiver : ℕ) (body : Body) → MayPost node past receiver body → BodyFits node.config body
post_fits node past receiver (Page page words) may = absurd may
post_fits node past receiver (Reconcile parts) may = record { each = parts_fit node past receiver parts may.sendings; ascending = may.ascending }
post_fits node past receiver _ may = tt

message_fits : (node : Node) (past : Past) (message : Msg) → MaySend node past message → BodyFits node.config message.body
message_fits node past message (inl due) = All-head (Fits node.config) message due.0 (subst (All (Fits node.config)) due.1 (owed_fits node past))
message_fits node past message (inr sends) = post_fits node past message.receiver message.body sends.may

posts_fit : (node : Node) (past : Past) (messages : List Msg) → MaySendAll node past messages → All (Fits node.config) messages
posts_fit node past [] may = All-nil (Fits node.config)
posts_fit node past (message ∷ messages) may =
    All-cons (Fits node.config) message messages (message_fits node past message may.0) (posts_fit node (Sent message ∷ past) messages may.1)

own_item_fits : (node : Node) (past : Past) (item : Item) (rest : List Item) (posts : List Msg) → MayDo node past item rest posts → ItemFits node.config item
own_item_fits node past (OwnFetch page words) rest posts may =
    subst (λ it. length it ≡ node.config.page_words) (sym may.words_are) (stored_length node (word_of node page 0) node.config.page_words past)
own_item_fits node past (OwnReconcile part) rest posts may = may.fits
own_item_fits node past _ rest posts may = tt

owed_item_fits : (node : Node) (past : Past) (item : Item) → IsOwed node past item → ItemFits node.config item
owed_item_fits node past (Served frame index word old addend) owed = tt
owed_item_fits node past _ owed = absurd owed

items_fit : (node : Node) (posts : List Msg) (past : Past) (items : List Item) → MayDoAll node posts past items → All (ItemFits node.config) items
items_fit node posts past [] may = All-nil (ItemFits node.config)
items_fit node posts past (item ∷ items) may =
    All-cons (ItemFits node.config) item items
    (elim may.0 [ inl owed ↦ owed_item_fits node past item owed | inr own ↦ own_item_fits node past item items posts own.1 ])
    (items_fit node posts (Did item ∷ past) items may.1)

-- ---- turns

abbrev pub DeedsFit : Config → Deeds → Type 0
DeedsFit config deeds = All (ItemFits config) deeds.items × All (λ message. BodyFits config message.body) deeds.posts

moves_fit : (node : Node) (past : Past) (deeds : Deeds) → Moves node past deeds → DeedsFit node.config deeds
moves_fit node past deeds moves = (items_fit node deeds.posts past deeds.items moves.items, posts_fit node (did deeds.items past) deeds.posts moves.posts)

step_fits : (node : Node) (past : Past) (deeds : Deeds) → IsStep node past deeds → DeedsFit node.config deeds
step_fits node past deeds (inl none) = subst (DeedsFit node.config) (sym none) (All-nil (ItemFits node.config), All-nil (Fits node.config))
step_fits node past deeds (inr moves) = moves_fit node past deeds moves

abbrev TurnFits : Config → WholeTurn → Type 0
TurnFits config turn = DeedsFit config (deeds_of turn)

turns_fit : (cluster : Cluster) (turns : List WholeTurn) → IsLawful cluster turns → All (TurnFits cluster.config) turns
turns_fit cluster [] lawful = All-nil (TurnFits cluster.config)
turns_fit cluster (turn ∷ older) lawful =
    All-cons (TurnFits cluster.config) turn older (step_fits (node_at cluster turn.node) (past_of turn.node older) (deeds_of turn) lawful.1.allows.step)
    (turns_fit cluster older lawful.0)

-- What a turn of lawful turns holds fits.
pub turn_fits : (cluster : Cluster) (turns : List WholeTurn) (turn : WholeTurn) → IsLawful cluster turns → Contains turns turn
    → All (ItemFits cluster.config) turn.items × All (λ message. BodyFits cluster.config message.body) turn.posts
turn_fits cluster turns turn lawful among = All-contains (TurnFits cluster.config) turns turn (turns_fit cluster turns lawful) among

-- ---- logs

note_fits : (config : Config) (body : Body) → BodyFits config body → NoteFits config (note_of body)
note_fits config (Page page words) fits = fits
note_fits config (Reconcile parts) fits = fits
note_fits config _ fits = tt

abbrev LoggedFits : Config → Turn → Type 0
LoggedFits config turn = All (ItemFits config) turn.items × All (λ post. NoteFits config post.note) turn.posts

logged_fits : (config : Config) (turn : WholeTurn) → TurnFits config turn → LoggedFits config (logged turn)
logged_fits config turn fits = (
  fits.0,
  All-map (λ post. NoteFits config post.note) post_of turn.posts
      (All-weaker (Fits config) (λ message. NoteFits config (note_of message.body)) (λ message. note_fits config message.body) turn.posts fits.1),
)

latest_last : {A : Type 0} (first : A) (rest : List A) → reverse (first ∷ rest) ≡ reverse rest ++ first ∷ []
latest_last first rest = reverse-append (first ∷ []) rest

among_reversed : {A : Type 0} (xs : List A) → All (Contains (reverse xs)) xs
among_reversed [] = All-nil (Contains [])
among_reversed (x ∷ xs) =
    All-cons (Contains (reverse (x ∷ xs))) x xs (subst (λ it. Contains it x) (sym (latest_last x xs)) (Contains-push (reverse xs) x))
    (All-weaker (Contains (reverse xs)) (Contains (reverse (x ∷ xs)))
    (λ other among. subst (λ it. Contains it other) (sym (latest_last x xs)) (Contains-append_left (reverse xs) (x ∷ []) other among)) xs (among_reversed xs))

all_reversed : {A : Type 0} (P : A → Type 0) (xs : List A) → All P (reverse xs) → All P xs
all_reversed P xs all = All-weaker (Contains (reverse xs)) P (λ x among. All-contains P (reverse xs) x all among) xs (among_reversed xs)

-- What a turn of a run holds fits.
pub run_fits : (cluster : Cluster) (log : List Turn) (turn : Turn) → IsRun cluster log → Contains log turn
    → All (ItemFits cluster.config) turn.items × All (λ post. NoteFits cluster.config post.note) turn.posts
run_fits cluster log turn run among =
    let whole : All (TurnFits cluster.config) run.turns = all_reversed (TurnFits cluster.config) run.turns (turns_fit cluster (reverse run.turns) run.lawful) in
    let kept : All (LoggedFits cluster.config) (map logged run.turns) =
    All-map (LoggedFits cluster.config) logged run.turns
    (All-weaker (TurnFits cluster.config) (λ it. LoggedFits cluster.config (logged it)) (logged_fits cluster.config) run.turns whole) in
    All-contains (LoggedFits cluster.config) log turn (All-same (LoggedFits cluster.config) log (map logged run.turns) run.log_is kept) among
