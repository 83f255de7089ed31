-- The stage of a frame that was sent, by what the course says of it.
use Rattle.std.proofs.Common.{◌≡◌, ℕ, ◌<◌, List, [], ◌∷◌, Option, Some, None, Bool, true, false, cond, leb, ◌||◌, length, refl, ◌∙◌, ap, subst, arith}
use Rattle.std.proofs.lemmas.Bool.Decides.{nat_tests}
use Rattle.std.specs.List.{list_any}
use Rattle.page_messages.specs.declared.closure.FrameId.{FrameId}
use Rattle.page_messages.specs.declared.closure.JoinId.{JoinId}
use Rattle.page_messages.specs.declared.message.Msg.{Msg}
use Rattle.page_messages.specs.declared.log.Item.{Item}
use Rattle.page_messages.specs.declared.log.Item.TheVariants as item
use Rattle.page_messages.specs.declared.log.PostAt.{PostAt}
use Rattle.cluster_rules.specs.Turns.{Event, Did, Sent, Took, Ended}
use Rattle.cluster_rules.specs.Lives.{Life, same_frame}
use Rattle.cluster_rules.specs.Positions.{Moved, Course, at}
use Rattle.cluster_rules.specs.Runs.{Cluster}
use Rattle.cluster_rules.proofs.Marks.{same_name}
use Rattle.cluster_order.specs.Standing.{first}
use Rattle.cluster_order.proofs.Growing.{within, at_last, at_behind}
use Rattle.cluster_edges.specs.Stages.{frame_in, takes_up, takes_up_item, since_position, stage_of, stage_sent, stage_by, stages_of}
use Rattle.cluster_edges.proofs.News.{ByGrant, ByPark, IsUp, told_event, told_item, news_in, news_on}
use Rattle.cluster_edges.proofs.Through.{Property, EachLife}
use Rattle.cluster_edges.proofs.Saying.{Says, SaysGrant, SaysPark, SaysUp}

-- ---- tests

pub any_first : {A : Type 0} (test : A → Bool) (first : A) (rest : List A) → test first ≡ true → list_any test (first ∷ rest) ≡ true
any_first test first rest here = rw here refl

pub any_rest_on : (b rest : Bool) → rest ≡ true → b || rest ≡ true
any_rest_on true rest is = refl
any_rest_on false rest is = is

none_on : (b rest : Bool) → b ≡ false → rest ≡ false → b || rest ≡ false
none_on true rest here is = absurd (cc)
none_on false rest here is = is

pub any_life : (Holds : Property) (frame : FrameId) (lives : List Life) → EachLife Holds lives → list_any (λ life. same_frame life.id frame) lives ≡ true
    → (join : Option JoinId) × Holds frame join
any_life Holds frame [] all any = absurd (cc)
any_life Holds frame (life ∷ lives) all any = on (same_frame life.id frame) refl any (any_life Holds frame lives all.1)
  where
    on : (b : Bool) → same_frame life.id frame ≡ b → b || list_any (λ life. same_frame life.id frame) lives ≡ true
        → (list_any (λ life. same_frame life.id frame) lives ≡ true → (join : Option JoinId) × Holds frame join) → (join : Option JoinId) × Holds frame join
    on true is any rest = (life.join, subst (λ it. Holds it life.join) (same_name life.id frame is) all.0)
    on false is any rest = rest any

-- ---- since a position

pub since_next : (post : ℕ) (moved : Moved) (course : Course) → post < length course → since_position post (moved ∷ course) ≡ moved ∷ since_position post course
since_next post moved course less = let not : leb (length course) post ≡ false = grind (arith, nat_tests) in rw (not, since_position) refl

since_none_on : (frame : FrameId) (post : ℕ) (moved : Moved) (course : Course) (b : Bool) → leb (length course) post ≡ b
    → (post < length course → takes_up frame moved ≡ false)
    → list_any (takes_up frame) (since_position post course) ≡ false
    → list_any (takes_up frame) (elim b [ true ↦ [] | false ↦ moved ∷ since_position post course ]) ≡ false
since_none_on frame post moved course true is here rest = refl
since_none_on frame post moved course false is here rest =
    none_on (takes_up frame moved) (list_any (takes_up frame) (since_position post course)) (here (grind (arith, nat_tests))) rest

pub since_none : (frame : FrameId) (post : ℕ) (course : Course)
    → ((later : ℕ) (other : Moved) → post < later → at course later ≡ Some other → takes_up frame other ≡ false)
    → list_any (takes_up frame) (since_position post course) ≡ false
since_none frame post [] none = refl
since_none frame post (moved ∷ course) none =
    since_none_on frame post moved course (leb (length course) post) refl (λ less. none (length course) moved less (at_last moved course))
    (since_none frame post course
    (λ later other behind found. none later other behind (at_behind (moved ∷ []) course later (within course later other found) ∙ found)))

-- an event that says nothing of a frame does not take it up
untaken_item : (frame : FrameId) (node : ℕ) (done : Item) → news_in frame (told_item node done) ≡ None → takes_up_item frame done ≡ false
untaken_item frame node (item.Act other index act) none = refl
untaken_item frame node (item.Tick other) none = refl
untaken_item frame node (item.Drop page) none = refl
untaken_item frame node (item.TakeUp other) none = on (same_frame other frame) none
  where
    on : (b : Bool) → cond b (Some (IsUp node)) None ≡ None → b ≡ false
    on true none = absurd (cc)
    on false none = refl
untaken_item frame node (item.OwnFetch page words) none = refl
untaken_item frame node (item.OwnReconcile part) none = refl
untaken_item frame node (item.Served other index word old addend) none = refl

untaken_event : (frame : FrameId) (node : ℕ) (event : Event) (here : Option PostAt) → news_in frame (told_event node event) ≡ None
    → takes_up frame (record { node = node; event = event; message = here }) ≡ false
untaken_event frame node (Did done) here none = untaken_item frame node done none
untaken_event frame node (Sent message) here none = refl
untaken_event frame node (Took message) here none = refl
untaken_event frame node (Ended end) here none = refl

pub untaken : (frame : FrameId) (moved : Moved) → news_on frame moved ≡ None → takes_up frame moved ≡ false
untaken frame moved none = untaken_event frame moved.node moved.event moved.message none

-- ---- the stage of what was sent

stage_sends : (cluster : Cluster) (course : Course) (post : ℕ) (moved : Moved) (message : Msg) (frame : FrameId) → moved.event ≡ Sent message
    → frame_in message.body ≡ Some frame
    → stage_by cluster course post (Some moved) ≡ stage_of cluster course post message.receiver frame
stage_sends cluster course post moved message frame is brings = rw is (ap (stage_sent cluster course post message.receiver) brings)

-- what is sent by a Grant or a Park has the stage of its frame
pub grant_stage : (cluster : Cluster) (course : Course) (post : ℕ) (moved : Moved) (frame : FrameId) (node : ℕ) → Says frame moved (ByGrant node)
    → stage_by cluster course post (Some moved) ≡ stage_of cluster course post node frame
grant_stage cluster course post moved frame node (SaysGrant message closure is body_is id news) =
    let to : message.receiver ≡ node = cc in
    stage_sends cluster course post moved message frame is (ap frame_in body_is ∙ ap Some id) ∙ ap (λ it. stage_of cluster course post it frame) to
grant_stage cluster course post moved frame node (SaysPark message join closure is body_is id news) = absurd (cc)
grant_stage cluster course post moved frame node (SaysUp is news) = absurd (cc)

pub park_stage : (cluster : Cluster) (course : Course) (post : ℕ) (moved : Moved) (frame : FrameId) (node : ℕ) → Says frame moved (ByPark node)
    → stage_by cluster course post (Some moved) ≡ stage_of cluster course post node frame
park_stage cluster course post moved frame node (SaysGrant message closure is body_is id news) = absurd (cc)
park_stage cluster course post moved frame node (SaysPark message join closure is body_is id news) =
    let to : message.receiver ≡ node = cc in
    stage_sends cluster course post moved message frame is (ap frame_in body_is ∙ ap Some id) ∙ ap (λ it. stage_of cluster course post it frame) to
park_stage cluster course post moved frame node (SaysUp is news) = absurd (cc)

-- the stage at a later position
pub stage_later : (cluster : Cluster) (course : Course) (now post : ℕ) (moved : Moved) → post < now → at course post ≡ Some moved
    → stages_of cluster course now post ≡ stage_by cluster (first now course) post (Some moved)
stage_later cluster course now post moved less found =
    let not : leb now post ≡ false = grind (arith, nat_tests) in rw (not, found) refl
