-- What the log of a run on one node says.
use Rattle.std.proofs.Common.{◌≡◌, ℕ, ◌+◌, List, [], ◌∷◌, ◌++◌, All, map, reverse, Option, Some, None, false, length, refl, sym, ◌∙◌, ap, subst}
use Rattle.std.proofs.lemmas.List.{map-append, reverse-append}
use Rattle.std.proofs.lemmas.List.Elements.{All-nil, All-cons, All-append, All-contains}
use Rattle.std.specs.List.{list_any}
use Rattle.machine_code.specs.Machine.{starts}
use Rattle.page_messages.specs.Posts.{post_of}
use Rattle.page_messages.specs.declared.message.Msg.{Msg}
use Rattle.page_messages.specs.declared.log.Item.{Item}
use Rattle.page_messages.specs.declared.log.Item.TheVariants as item
use Rattle.page_messages.specs.declared.log.PostAt.{PostAt}
use Rattle.cluster_rules.specs.Turns.{WholeTurn, Did, Sent, posted_at, IsDelivered}
use Rattle.cluster_rules.specs.Positions.{Moved, Course, with_items, with_posts, with_taking, with_end, course_of, at}
use Rattle.cluster_rules.specs.Runs.{Cluster, IsLawful, logged}
use Rattle.cluster_rules.proofs.Stepping.{lawful_stepped}
use Rattle.cluster_order.proofs.Growing.{Grown, grown_items, grown_posts, grown_taking, grown_end, at_last}
use Rattle.one_node.specs.Alone.{EndsAs}
use Rattle.cluster_trace.proofs.Logs.{ended_at, ends_last, log_is}
use Rattle.cluster_trace.specs.Instances.{trace_of}
use Rattle.lone_cluster.specs.Laws.{course_in, takes_up, IsByItself, OneNodeActsByItself, OneNodeRunsDepthFirst, OneNodeEnds}
use Rattle.lone_cluster.proofs.Silent.{OwnItem, Silent, silent_front, number_here, lone}
use Rattle.lone_cluster.proofs.Runs.{lone_runs, lone_ends}

-- ---- a silent turn

silent_under : (course more : Course) → Grown course more → Silent more → Silent course
silent_under course more grown silent = silent_front grown.0 course (subst Silent grown.1 silent)

stays : (done : Item) (rest : List Item) → OwnItem done → list_any takes_up rest ≡ false → list_any takes_up (done ∷ rest) ≡ false
stays (item.Act frame index act) rest itself more = more
stays (item.Tick frame) rest itself more = more
stays (item.Drop page) rest itself more = more
stays (item.TakeUp frame) rest itself more = absurd itself
stays (item.OwnFetch page words) rest itself more = more
stays (item.OwnReconcile part) rest itself more = more
stays (item.Served frame index word old addend) rest itself more = more

all_stay : (node : ℕ) (items : List Item) (course : Course) → Silent (with_items node items course) → list_any takes_up items ≡ false
all_stay node [] course silent = refl
all_stay node (done ∷ items) course silent =
    let moved : Moved = record { node = node; event = Did done; message = None } in
    stays done items (silent_under (moved ∷ course) (with_items node items (moved ∷ course)) (grown_items node items (moved ∷ course)) silent).1
    (all_stay node items (moved ∷ course) silent)

none_posted : (node : ℕ) (place : PostAt) (messages : List Msg) (course : Course) → Silent (with_posts node place messages course) → messages ≡ []
none_posted node place [] course silent = refl
none_posted node place (message ∷ messages) course silent =
    let moved : Moved = record { node = node; event = Sent message; message = Some place } in
    let next : PostAt = record place { index = place.index + 1 } in
    absurd (silent_under (moved ∷ course) (with_posts node next messages (moved ∷ course)) (grown_posts node next messages (moved ∷ course)) silent).1

none_taken : (node : ℕ) (older : List WholeTurn) (place : Option PostAt) (course : Course) → IsDelivered older node place (posted_at older place)
    → Silent (with_taking node place (posted_at older place) course) → place ≡ None
none_taken node older None course delivered silent = refl
none_taken node older (Some place) course delivered silent =
    absurd (subst (λ message. Silent (with_taking node (Some place) message course)) delivered.1 silent).1

latest_last : (turn : WholeTurn) (older : List WholeTurn) → map logged (reverse (turn ∷ older)) ≡ map logged (reverse older) ++ logged turn ∷ []
latest_last turn older = ap (map logged) (reverse-append (turn ∷ []) older) ∙ map-append logged (reverse older) (turn ∷ [])

module _ (cluster : Cluster) (alone : cluster.config.nodes ≡ 1) where
  turn_silent : (turn : WholeTurn) (older : List WholeTurn) → IsLawful cluster (turn ∷ older) → IsByItself (logged turn)
  unfolding course_of
  turn_silent turn older lawful =
      let items = with_items turn.node turn.items (course_of older) in
      let start : PostAt = record { turn = length older; index = 0 } in
      let posts = with_posts turn.node start turn.posts items in
      let message = posted_at older turn.took in
      let taking = with_taking turn.node turn.took message posts in
      let whole : Silent (with_end turn.node turn.end taking) =
      (lone cluster alone (course_of (turn ∷ older)) (lawful_stepped cluster (turn ∷ older) lawful)).0 in
      let taken : Silent taking = silent_under taking (with_end turn.node turn.end taking) (grown_end turn.node turn.end taking) whole in
      let posted : Silent posts = silent_under posts taking (grown_taking turn.node turn.took message posts) taken in
      let done : Silent items = silent_under items posts (grown_posts turn.node start turn.posts items) posted in
      record {
        node = number_here cluster alone turn.node lawful.1.node;
        posts = ap (map post_of) (none_posted turn.node start turn.posts items posted);
        took = none_taken turn.node older turn.took posts lawful.1.delivered taken;
        stays = all_stay turn.node turn.items (course_of older) done;
      }

  all_silent : (turns : List WholeTurn) → IsLawful cluster turns → All IsByItself (map logged (reverse turns))
  all_silent [] lawful = All-nil IsByItself
  all_silent (turn ∷ older) lawful =
      subst (All IsByItself) (sym (latest_last turn older))
      (All-append IsByItself (map logged (reverse older)) (logged turn ∷ []) (all_silent older lawful.0)
      (All-cons IsByItself (logged turn) [] (turn_silent turn older lawful) (All-nil IsByItself)))

-- On one node nothing is sent.
pub one_node_acts_by_itself : OneNodeActsByItself
one_node_acts_by_itself cluster log turn alone run among =
    All-contains IsByItself log turn (subst (All IsByItself) (sym (log_is cluster log run)) (all_silent cluster alone (reverse run.turns) run.lawful)) among

-- A run on one node goes depth first.
pub one_node_runs_depth_first : OneNodeRunsDepthFirst
one_node_runs_depth_first cluster program log stands parted alone run = lone_runs cluster (reverse run.turns) run.lawful program stands parted alone

-- It ends as the execution does.
pub one_node_ends : OneNodeEnds
one_node_ends cluster program log end stands parted alone run has =
    let last = ends_last cluster log run end has in
    let moved = ended_at last.node end in
    let position = length last.earlier in
    let found : at (course_in cluster log run) position ≡ Some moved = ap (λ course. at course position) last.is ∙ at_last moved last.earlier in
    subst (λ now. EndsAs (starts cluster.code) (trace_of cluster (course_in cluster log run)) cluster.config.budget now end) (sym (ap length last.is))
    (lone_ends cluster (reverse run.turns) run.lawful program stands parted alone position moved found end refl).1
