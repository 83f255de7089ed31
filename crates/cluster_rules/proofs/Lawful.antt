-- Laws of lawful lists of turns: each event is allowed by the own past of its node, and that past decides what comes next.
use Rattle.std.proofs.Common.{◌≡◌, ℕ, inl, inr, ◌<◌, List, [], ◌∷◌, ◌++◌, Option, Some, None, Bool, true, false, cond, eqb, refl, sym, ◌∙◌, ap, subst, map, arith}
use Rattle.std.specs.Prelude.{reverse}
use Rattle.std.proofs.lemmas.Bool.Decides.{nat_tests}
use Rattle.std.proofs.lemmas.List.{reverse-append}
use Rattle.cilk_meaning.specs.declared.ends.NodeEnd.{NodeEnd}
use Rattle.page_messages.specs.declared.message.Msg.{Msg}
use Rattle.page_messages.specs.declared.log.Item.{Item}
use Rattle.page_messages.specs.declared.log.PostAt.{PostAt}
use Rattle.page_messages.specs.declared.log.Turn.{Turn}
use Rattle.cluster_rules.specs.Turns.{WholeTurn, Event, Did, Sent, Past, did, sent, took, ended, after_turn, posted_at, past_of, IsDelivered}
use Rattle.cluster_rules.specs.Node.{Node}
use Rattle.cluster_rules.specs.Runs.{Cluster, node_at, Deeds, deeds_of, behind, MayDoAll, MaySendAll, MayEndSo, Moves, IsStep, MayTake, Allows, IsOver, IsNext, IsLawful, IsRun, logged}
use Rattle.cluster_rules.specs.Allowed.{IsAllowed, AllAllowed}

-- ---- each event is allowed

items_allowed : (node : Node) (posts : List Msg) (past : Past) (items : List Item) → MayDoAll node posts past items → AllAllowed node past
    → AllAllowed node (did items past)
items_allowed node posts past [] may all = all
items_allowed node posts past (item ∷ items) may all =
    items_allowed node posts (Did item ∷ past) items may.1 (record { rest = items; posts = posts; may = may.0 }, all)

posts_allowed : (node : Node) (past : Past) (messages : List Msg) → MaySendAll node past messages → AllAllowed node past → AllAllowed node (sent messages past)
posts_allowed node past [] may all = all
posts_allowed node past (message ∷ messages) may all = posts_allowed node (Sent message ∷ past) messages may.1 (may.0, all)

moves_allowed : (node : Node) (past : Past) (deeds : Deeds) → Moves node past deeds → AllAllowed node past → AllAllowed node (behind deeds past)
moves_allowed node past deeds moves all =
    posts_allowed node (did deeds.items past) deeds.posts moves.posts (items_allowed node deeds.posts past deeds.items moves.items all)

step_allowed : (node : Node) (past : Past) (deeds : Deeds) → IsStep node past deeds → AllAllowed node past → AllAllowed node (behind deeds past)
step_allowed node past deeds step all = elim step [
  | inl none ↦ subst (λ it. AllAllowed node (behind it past)) (sym none) all
  | inr moves ↦ moves_allowed node past deeds moves all
]

-- the message that is taken is for this node
abbrev pub IsFor : ℕ → Option Msg → Type 0
IsFor receiver message = (taken : Msg) → message ≡ Some taken → taken.receiver ≡ receiver

take_allowed : (node : Node) (past : Past) (end : Option NodeEnd) (message : Option Msg) → IsFor node.me message → MayTake node past end message
    → AllAllowed node past
    → AllAllowed node (took message past)
take_allowed node past end None for may all = all
take_allowed node past end (Some taken) for may all = ((for taken refl, may.1), all)

end_allowed : (node : Node) (past : Past) (end : Option NodeEnd) → MayEndSo node past end → AllAllowed node past → AllAllowed node (ended end past)
end_allowed node past None may all = all
end_allowed node past (Some end) may all = (may, all)

step_ends : (node : Node) (past : Past) (deeds : Deeds) → IsStep node past deeds → MayEndSo node (behind deeds past) deeds.end
step_ends node past deeds step = elim step [
  | inl none ↦ subst (λ it. MayEndSo node (behind it past) it.end) (sym none) tt
  | inr moves ↦ moves.end
]

-- a turn with an end takes nothing
rest_allowed : (node : Node) (past : Past) (end : Option NodeEnd) (message : Option Msg) → IsFor node.me message → MayTake node past end message
    → MayEndSo node past end
    → AllAllowed node past → AllAllowed node (ended end (took message past))
rest_allowed node past end None for may ends all = end_allowed node past end ends all
rest_allowed node past None (Some taken) for may ends all = take_allowed node past None (Some taken) for may all
rest_allowed node past (Some end) (Some taken) for may ends all = let none : Some end ≡ None = may.0 in absurd (cc)

turn_allowed : (node : Node) (past : Past) (turn : WholeTurn) (message : Option Msg) → IsFor node.me message → Allows node past (deeds_of turn) message
    → AllAllowed node past
    → AllAllowed node (after_turn turn message past)
turn_allowed node past turn message for allows all =
    rest_allowed node (behind (deeds_of turn) past) turn.end message for allows.takes (step_ends node past (deeds_of turn) allows.step)
    (step_allowed node past (deeds_of turn) allows.step all)

delivered_for : (older : List WholeTurn) (receiver : ℕ) (place : Option PostAt) (message : Option Msg) → IsDelivered older receiver place message
    → IsFor receiver message
delivered_for older receiver None message delivered taken is = let none : Some taken ≡ None = sym is ∙ delivered in absurd (cc)
delivered_for older receiver (Some place) message delivered taken is =
    let same : Some delivered.0 ≡ Some taken = sym delivered.1 ∙ is in
    let one : delivered.0 ≡ taken = cc in
    subst (λ (it : Msg). it.receiver ≡ receiver) one delivered.2.to

past_on : (cluster : Cluster) (number other : ℕ) (b : Bool) (turn : WholeTurn) (older : List WholeTurn) → eqb other number ≡ b
    → Allows (node_at cluster other) (past_of other older) (deeds_of turn) (posted_at older turn.took) → IsFor other (posted_at older turn.took)
    → AllAllowed (node_at cluster number) (past_of number older)
    → AllAllowed (node_at cluster number) (cond b (after_turn turn (posted_at older turn.took) (past_of number older)) (past_of number older))
past_on cluster number other false turn older test allows for all = all
past_on cluster number other true turn older test allows for all =
    let same : other ≡ number = grind (arith, nat_tests) in
    turn_allowed (node_at cluster number) (past_of number older) turn (posted_at older turn.took)
    (subst (λ it. IsFor it (posted_at older turn.took)) same for)
    (subst (λ it. Allows (node_at cluster it) (past_of it older) (deeds_of turn) (posted_at older turn.took)) same allows)
    all

-- Each event of each node is allowed by what the node did and took before.
pub lawful_past : (cluster : Cluster) (turns : List WholeTurn) (number : ℕ) → IsLawful cluster turns
    → AllAllowed (node_at cluster number) (past_of number turns)
unfolding past_of
lawful_past cluster [] number lawful = tt
lawful_past cluster (turn ∷ older) number lawful =
    past_on cluster number turn.node (eqb turn.node number) turn older refl lawful.1.allows
    (delivered_for older turn.node turn.took (posted_at older turn.took) lawful.1.delivered)
    (lawful_past cluster older number lawful.0)

-- And so is each at its place.
pub allowed_at : (node : Node) (newer : Past) (event : Event) (older : Past) → AllAllowed node (newer ++ event ∷ older) → IsAllowed node older event
allowed_at node [] event older all = all.0
allowed_at node (first ∷ newer) event older all = allowed_at node newer event older all.1

-- ---- what a node may do next

-- Locality: of two lists of turns in which a node has the same past, the same deeds and the same taken message may come next, where
-- that message waits in both and neither list is over.
pub locality : (cluster : Cluster) (older other : List WholeTurn) (turn same : WholeTurn) → same.node ≡ turn.node → deeds_of same ≡ deeds_of turn
    → past_of turn.node other ≡ past_of turn.node older → posted_at other same.took ≡ posted_at older turn.took
    → ¬ IsOver other → IsDelivered other turn.node same.took (posted_at other same.took) → IsNext cluster older turn → IsNext cluster other same
locality cluster older other turn same node deeds past message goes_on delivered next = record {
  goes_on = goes_on;
  node = subst (λ it. it < cluster.config.nodes) (sym node) next.node;
  delivered = subst (λ it. IsDelivered other it same.took (posted_at other same.took)) (sym node) delivered;
  allows = subst (λ it. Allows (node_at cluster it) (past_of it other) (deeds_of same) (posted_at other same.took)) (sym node)
      (subst (λ it. Allows (node_at cluster turn.node) it (deeds_of same) (posted_at other same.took)) (sym past)
      (subst (λ it. Allows (node_at cluster turn.node) (past_of turn.node older) it (posted_at other same.took)) (sym deeds)
      (subst (λ it. Allows (node_at cluster turn.node) (past_of turn.node older) (deeds_of turn) it) (sym message) next.allows)));
}

-- ---- one more turn, and one turn less

latest_first : (turns : List WholeTurn) (turn : WholeTurn) → reverse (turns ++ turn ∷ []) ≡ turn ∷ reverse turns
latest_first turns turn = reverse-append turns (turn ∷ [])

-- Turns with one more are lawful where the turns are and the turn may come next.
pub lawful_with : (cluster : Cluster) (turns : List WholeTurn) (turn : WholeTurn) → IsLawful cluster (reverse turns) → IsNext cluster (reverse turns) turn
    → IsLawful cluster (reverse (turns ++ turn ∷ []))
lawful_with cluster turns turn lawful next = subst (IsLawful cluster) (sym (latest_first turns turn)) (lawful, next)

-- And only there.
pub lawful_without : (cluster : Cluster) (turns : List WholeTurn) (turn : WholeTurn) → IsLawful cluster (reverse (turns ++ turn ∷ []))
    → IsLawful cluster (reverse turns) × IsNext cluster (reverse turns) turn
lawful_without cluster turns turn lawful = subst (IsLawful cluster) (latest_first turns turn) lawful

-- Lawful turns that are cut after a turn are lawful.
pub lawful_front : (cluster : Cluster) (newer older : List WholeTurn) → IsLawful cluster (newer ++ older) → IsLawful cluster older
lawful_front cluster [] older lawful = lawful
lawful_front cluster (turn ∷ newer) older lawful = lawful_front cluster newer older lawful.0

-- ---- cut runs

-- Whole turns of a log that goes on, parted where the log is.
pub record Parted (log : List Turn) (turns : List WholeTurn) : Type 0 where
  pub front : List WholeTurn
  pub back : List WholeTurn
  pub parts : turns ≡ front ++ back
  pub log_is : log ≡ map logged front

first_is : (one other : Turn) (ones others : List Turn) → one ∷ ones ≡ other ∷ others → one ≡ other
first_is one other ones others same = cc

rest_is : (one other : Turn) (ones others : List Turn) → one ∷ ones ≡ other ∷ others → ones ≡ others
rest_is one other ones others same = cc

parted : (log more : List Turn) (turns : List WholeTurn) → log ++ more ≡ map logged turns → Parted log turns
parted [] more turns is = record { front = []; back = turns; parts = refl; log_is = refl }
parted (first ∷ log) more [] is = absurd (cc)
parted (first ∷ log) more (turn ∷ turns) is =
    let one = first_is first (logged turn) (log ++ more) (map logged turns) is in
    let rest = parted log more turns (rest_is first (logged turn) (log ++ more) (map logged turns) is) in
    record {
      front = turn ∷ rest.front;
      back = rest.back;
      parts = ap (λ xs. turn ∷ xs) rest.parts;
      log_is = ap (λ it. it ∷ log) one ∙ ap (λ xs. logged turn ∷ xs) rest.log_is;
    }

-- A run that is cut after a turn is a run.
pub cut_run : (cluster : Cluster) (log more : List Turn) → IsRun cluster (log ++ more) → IsRun cluster log
cut_run cluster log more run =
    let cut = parted log more run.turns run.log_is in
    let all : IsLawful cluster (reverse (cut.front ++ cut.back)) = subst (λ turns. IsLawful cluster (reverse turns)) cut.parts run.lawful in
    let split : IsLawful cluster (reverse cut.back ++ reverse cut.front) = subst (IsLawful cluster) (reverse-append cut.front cut.back) all in
    record { turns = cut.front; log_is = cut.log_is; lawful = lawful_front cluster (reverse cut.back) (reverse cut.front) split }
