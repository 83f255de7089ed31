-- The items of a log are what was done in its course, and the acts of a frame among them are those in the events.
use Rattle.std.proofs.Common.{◌≡◌, ℕ, zero, suc, ◌+◌, ◌<◌, List, [], ◌∷◌, ◌++◌, Option, Some, None, Bool, true, false, cond, eqb, length, map, reverse, refl, sym, ◌∙◌, ap, subst, append_assoc, arith, rules}
use Rattle.std.proofs.lemmas.List.{map-append, reverse-append}
use Rattle.std.proofs.lemmas.List.Elements.{filter_map-append, Contains-append_left, Contains-append_right}
use Rattle.std.specs.List.{Contains, filter_map, cons_option}
use Rattle.cilk_meaning.specs.declared.ends.NodeEnd.{NodeEnd}
use Rattle.page_messages.specs.declared.closure.FrameId.{FrameId}
use Rattle.page_messages.specs.declared.message.Msg.{Msg}
use Rattle.page_messages.specs.declared.log.LoggedAct.{LoggedAct}
use Rattle.page_messages.specs.declared.log.LoggedAct.TheVariants as act
use Rattle.page_messages.specs.declared.log.Item.{Item}
use Rattle.page_messages.specs.declared.log.Item.TheVariants as item
use Rattle.page_messages.specs.declared.log.PostAt.{PostAt}
use Rattle.page_messages.specs.declared.log.Turn.{Turn}
use Rattle.cluster_rules.specs.Lives.{same_frame}
use Rattle.cluster_rules.specs.Turns.{WholeTurn, Event, Did, Sent, Took, Ended, posted_at}
use Rattle.cluster_rules.specs.Positions.{Moved, Course, with_items, with_posts, with_taking, with_end, with_turn, course_of, at, before}
use Rattle.cluster_rules.specs.Runs.{Cluster, logged}
use Rattle.cluster_rules.specs.Histories as histories
use Rattle.cluster_rules.specs.Histories.{items_of, act_in}
use Rattle.backer_order.specs.Log as log
use Rattle.backer_order.specs.Log.{Events}
use Rattle.cluster_order.specs.Reading as reading
use Rattle.cluster_order.specs.Reading.{events_of, happens_to}
use Rattle.cluster_order.proofs.Events.{event_at}
use Rattle.cluster_order.proofs.Growing.{at_behind, before_behind, at_last, before_last}
use Rattle.word_order.proofs.Rows.{shown, act_by, acts_before}

nothing_more : {A : Type 0} (list : List A) → list ++ [] ≡ list
nothing_more list = search rules

-- ---- what was done in a course

abbrev pub done_by : Event → List Item
done_by (Did item) = item ∷ []
done_by (Sent message) = []
done_by (Took message) = []
done_by (Ended end) = []

-- the items of a course, the earliest first
abbrev pub done_in : Course → List Item
done_in [] = []
done_in (moved ∷ course) = done_in course ++ done_by moved.event

done_items : (node : ℕ) (items : List Item) (course : Course) → done_in (with_items node items course) ≡ done_in course ++ items
done_items node [] course = sym (nothing_more (done_in course))
done_items node (one ∷ items) course =
    done_items node items (record { node = node; event = Did one; message = None } ∷ course) ∙ append_assoc (done_in course) (one ∷ []) items

done_posts : (node : ℕ) (place : PostAt) (messages : List Msg) (course : Course) → done_in (with_posts node place messages course) ≡ done_in course
done_posts node place [] course = refl
done_posts node place (message ∷ messages) course =
    done_posts node (record place { index = place.index + 1 }) messages (record { node = node; event = Sent message; message = Some place } ∷ course)
    ∙ nothing_more (done_in course)

done_taking : (node : ℕ) (place : Option PostAt) (message : Option Msg) (course : Course) → done_in (with_taking node place message course) ≡ done_in course
done_taking node place None course = refl
done_taking node place (Some message) course = nothing_more (done_in course)

done_end : (node : ℕ) (end : Option NodeEnd) (course : Course) → done_in (with_end node end course) ≡ done_in course
done_end node None course = refl
done_end node (Some end) course = nothing_more (done_in course)

done_turn : (number : ℕ) (turn : WholeTurn) (message : Option Msg) (course : Course)
    → done_in (with_turn number turn message course) ≡ done_in course ++ turn.items
done_turn number turn message course =
    let items = with_items turn.node turn.items course in
    let posts = with_posts turn.node (record { turn = number; index = 0 }) turn.posts items in
    let taking = with_taking turn.node turn.took message posts in
    done_end turn.node turn.end taking ∙ done_taking turn.node turn.took message posts
    ∙ done_posts turn.node (record { turn = number; index = 0 }) turn.posts items ∙ done_items turn.node turn.items course

items_of_both : (front back : List Turn) → items_of (front ++ back) ≡ items_of front ++ items_of back
items_of_both [] back = refl
items_of_both (turn ∷ front) back = ap (λ list. turn.items ++ list) (items_of_both front back) ∙ sym (append_assoc turn.items (items_of front) (items_of back))

-- The items of the log are those of the course.
pub done_is : (turns : List WholeTurn) → done_in (course_of turns) ≡ items_of (map logged (reverse turns))
unfolding course_of
done_is [] = refl
done_is (turn ∷ older) =
    done_turn (length older) turn (posted_at older turn.took) (course_of older)
    ∙ ap (λ list. list ++ turn.items) (done_is older)
    ∙ ap (λ list. items_of (map logged (reverse older)) ++ list) (sym (nothing_more turn.items))
    ∙ sym (items_of_both (map logged (reverse older)) (logged turn ∷ []))
    ∙ ap items_of (sym (map-append logged (reverse older) (turn ∷ [])))
    ∙ ap (λ list. items_of (map logged list)) (sym (reverse-append (turn ∷ []) older))

-- what happened at a position was done in the course
pub done_at : (course : Course) (position : ℕ) (moved : Moved) (one : Item) → at course position ≡ Some moved → moved.event ≡ Did one
    → Contains (done_in course) one
done_at [] position moved one found is = absurd cc
done_at (first ∷ course) position moved one found is = on (eqb position (length course)) found (done_at course position moved one)
  where
    on : (b : Bool) → cond b (Some first) (at course position) ≡ Some moved
        → (at course position ≡ Some moved → moved.event ≡ Did one → Contains (done_in course) one)
        → Contains (done_in course ++ done_by first.event) one
    on true found rest =
        let same : first ≡ moved = cc in
        let event : first.event ≡ Did one = ap (λ it. it.event) same ∙ is in
        Contains-append_right (done_in course) (done_by first.event) one (subst (λ it. Contains (done_by it) one) (sym event) (0, omega arith, refl))
    on false found rest = Contains-append_left (done_in course) (done_by first.event) one (rest found is)

-- ---- the acts of a frame

same_act : (frames : List FrameId) (done : LoggedAct) → shown frames (reading.act_of done) ≡ histories.act_of frames done
same_act frames (act.Read word value) = refl
same_act frames (act.Write word value) = refl
same_act frames (act.Print value) = refl
same_act frames (act.Spawn child procedure arguments) = refl
same_act frames act.Sync = refl

module _ (cluster : Cluster) (frames : List FrameId) (frame : FrameId) where
  same_by : (course : Course) (node : ℕ) (place : Option PostAt) (event : Event)
      → act_by frames frame (happens_to cluster course node place event) ≡ filter_map (act_in frames frame) (done_by event)
  same_by course node place (Did (item.Act other index done)) = on (same_frame other frame)
    where
      on : (b : Bool) → cond b (shown frames (reading.act_of done) ∷ []) [] ≡ cons_option (cond b (Some (histories.act_of frames done)) None) []
      on true = ap (λ one. one ∷ []) (same_act frames done)
      on false = refl
  same_by course node place (Did (item.Served other index word old addend)) = on (same_frame other frame)
    where
      on : (b : Bool) → cond b (shown frames (log.Add word old addend) ∷ []) [] ≡ cons_option (cond b (Some (shown frames (log.Add word old addend))) None) []
      on true = refl
      on false = refl
  same_by course node place (Did (item.Tick other)) = refl
  same_by course node place (Did (item.Drop page)) = refl
  same_by course node place (Did (item.TakeUp other)) = refl
  same_by course node place (Did (item.OwnFetch page words)) = refl
  same_by course node place (Did (item.OwnReconcile part)) = refl
  same_by course node place (Sent message) = refl
  same_by course node place (Took message) = refl
  same_by course node place (Ended end) = refl

  pub same_before : (first second : Events) (now : ℕ) → ((position : ℕ) → position < now → first position ≡ second position)
      → acts_before frames first frame now ≡ acts_before frames second frame now
  unfolding acts_before
  same_before first second zero same = refl
  same_before first second (suc now) same =
      ap (λ list. list ++ act_by frames frame (first now)) (same_before first second now (λ position less. same position (omega (arith, less))))
      ∙ ap (λ event. acts_before frames second frame now ++ act_by frames frame event) (same now (omega arith))

  -- The acts of the frame in the events are those among the items.
  pub acts_are_done : (course : Course) → acts_before frames (events_of cluster course) frame (length course)
      ≡ filter_map (act_in frames frame) (done_in course)
  unfolding acts_before
  acts_are_done [] = refl
  acts_are_done (moved ∷ course) =
      ap (λ list. list ++ act_by frames frame (events_of cluster (moved ∷ course) (length course)))
      (same_before (events_of cluster (moved ∷ course)) (events_of cluster course) (length course) older ∙ acts_are_done course)
      ∙ ap (λ list. filter_map (act_in frames frame) (done_in course) ++ list)
      (ap (act_by frames frame) here ∙ same_by course moved.node moved.message moved.event)
      ∙ sym (filter_map-append (act_in frames frame) (done_in course) (done_by moved.event))
    where
      here : events_of cluster (moved ∷ course) (length course) ≡ happens_to cluster course moved.node moved.message moved.event
      here =
          event_at cluster (moved ∷ course) (length course) moved (at_last moved course)
          ∙ ap (λ it. happens_to cluster it moved.node moved.message moved.event) (before_last moved course)

      older : (position : ℕ) → position < length course → events_of cluster (moved ∷ course) position ≡ events_of cluster course position
      older position less =
          ap (λ it. reading.event_of cluster it (at (moved ∷ course) position)) (before_behind (moved ∷ []) course position less)
          ∙ ap (reading.event_of cluster (before course position)) (at_behind (moved ∷ []) course position less)
