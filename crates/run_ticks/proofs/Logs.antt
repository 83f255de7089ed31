-- What a log counts as the ticks of a node are the ticks of its past, and their sum is that of the trace.
use Rattle.std.proofs.Common.{◌≡◌, ◌+◌, ℕ, zero, suc, List, [], ◌∷◌, ◌++◌, Option, Some, None, Bool, true, false, cond, not, eqb, ◌||◌, length, map, reverse, refl, sym, ◌∙◌, ap, subst, append_assoc, arith}
use Rattle.std.proofs.lemmas.List.{map-append, reverse-append, append-nil}
use Rattle.std.proofs.lemmas.List.Folds.{list_any-append}
use Rattle.std.proofs.lemmas.List.FromFn.{sum_by-map-range_with_len_more}
use Rattle.std.proofs.lemmas.List.Sums.{sum_by-cons, sum_by_push}
use Rattle.std.specs.List.{count_by, list_any, range_with_len, sum, sum_by}
use Rattle.cilk_meaning.specs.declared.ends.NodeEnd.{NodeEnd}
use Rattle.page_messages.specs.Posts.{note_of, post_of}
use Rattle.page_messages.specs.declared.closure.FrameId.{FrameId}
use Rattle.page_messages.specs.declared.message.Msg.{Msg}
use Rattle.page_messages.specs.declared.message.Body.{Body}
use Rattle.page_messages.specs.declared.message.Body.TheVariants as body
use Rattle.page_messages.specs.declared.log.Item.{Item}
use Rattle.page_messages.specs.declared.log.Item.TheVariants as item
use Rattle.page_messages.specs.declared.log.PostAt.{PostAt}
use Rattle.page_messages.specs.declared.log.Turn.{Turn}
use Rattle.page_messages.specs.declared.post.Post.{Post}
use Rattle.cluster_rules.specs.Counting.{posts_of, asks_for, is_asked, item_ticks, is_add, turn_ticks, ticks_in, counts_of}
use Rattle.cluster_rules.specs.Frames.{ticks_on, ticks_of}
use Rattle.cluster_rules.specs.Positions.{Moved, Course, with_items, with_posts, with_taking, with_end, course_of, own}
use Rattle.cluster_rules.specs.Runs.{Cluster, IsLawful, logged}
use Rattle.cluster_rules.specs.Sendings.{adds_in}
use Rattle.cluster_rules.specs.Turns.{WholeTurn, Event, Did, Sent, Took, Ended, Past, did, sent, took, ended, after_turn, posted_at, past_of}
use Rattle.cluster_rules.proofs.Coursing.{own_course}
use Rattle.cluster_rules.proofs.Phasing.{equal_number}
use Rattle.cluster_rules.proofs.Stepping.{Stepped, lawful_stepped}
use Rattle.cluster_rules.proofs.Summing.{sum_below, sum_same}
use Rattle.run_ticks.specs.Laws.{items_in}
use Rattle.run_ticks.specs.Posted.{adds_under_way}
use Rattle.run_ticks.proofs.Asked.{asked_in, served_asked, stepped_front}
use Rattle.run_ticks.proofs.Ticking.{ticks_sum}

abbrev pub log_of : List WholeTurn → List Turn
log_of turns = map logged (reverse turns)

log_more : (turn : WholeTurn) (older : List WholeTurn) → log_of (turn ∷ older) ≡ log_of older ++ logged turn ∷ []
log_more turn older = ap (map logged) (reverse-append (turn ∷ []) older) ∙ map-append logged (reverse older) (turn ∷ [])

-- ---- what is asked for in a log is so in its course

or_none : (a : Bool) → a ≡ a || false
or_none true = refl
or_none false = refl

or_swap : (a b c : Bool) → (a || b) || c ≡ b || (a || c)
or_swap true true c = refl
or_swap true false c = refl
or_swap false true c = refl
or_swap false false c = refl

posts_both : (front back : List Turn) → posts_of (front ++ back) ≡ posts_of front ++ posts_of back
posts_both [] back = refl
posts_both (turn ∷ front) back = ap (λ list. turn.posts ++ list) (posts_both front back) ∙ sym (append_assoc turn.posts (posts_of front) (posts_of back))

module _ (frame : FrameId) (index : ℕ) where
  abbrev asks_post : Post → Bool
  asks_post post = asks_for frame index post.note

  asked_items : (node : ℕ) (items : List Item) (course : Course) → asked_in frame index (with_items node items course) ≡ asked_in frame index course
  asked_items node [] course = refl
  asked_items node (item ∷ items) course = asked_items node items (record { node = node; event = Did item; message = None } ∷ course)

  asked_posts : (node : ℕ) (place : PostAt) (messages : List Msg) (course : Course)
      → asked_in frame index (with_posts node place messages course) ≡ asked_in frame index course || list_any asks_post (map post_of messages)
  asked_posts node place [] course = or_none (asked_in frame index course)
  asked_posts node place (message ∷ messages) course =
      asked_posts node (record place { index = place.index + 1 }) messages (record { node = node; event = Sent message; message = Some place } ∷ course)
      ∙ or_swap (asks_for frame index (note_of message.body)) (asked_in frame index course) (list_any asks_post (map post_of messages))

  asked_taking : (node : ℕ) (place : Option PostAt) (message : Option Msg) (course : Course)
      → asked_in frame index (with_taking node place message course) ≡ asked_in frame index course
  asked_taking node place None course = refl
  asked_taking node place (Some message) course = refl

  asked_end : (node : ℕ) (end : Option NodeEnd) (course : Course) → asked_in frame index (with_end node end course) ≡ asked_in frame index course
  asked_end node None course = refl
  asked_end node (Some end) course = refl

  pub asked_log : (turns : List WholeTurn) → is_asked (log_of turns) frame index ≡ asked_in frame index (course_of turns)
  unfolding course_of
  asked_log [] = refl
  asked_log (turn ∷ older) =
      let items = with_items turn.node turn.items (course_of older) in
      let posts = with_posts turn.node (record { turn = length older; index = 0 }) turn.posts items in
      let taking = with_taking turn.node turn.took (posted_at older turn.took) posts in
      ap (λ log. is_asked log frame index) (log_more turn older)
      ∙ ap (list_any asks_post) (posts_both (log_of older) (logged turn ∷ []))
      ∙ list_any-append asks_post (posts_of (log_of older)) (map post_of turn.posts ++ [])
      ∙ ap (λ list. is_asked (log_of older) frame index || list_any asks_post list) (append-nil (map post_of turn.posts))
      ∙ ap (λ it. it || list_any asks_post (map post_of turn.posts)) (asked_log older ∙ sym (asked_items turn.node turn.items (course_of older)))
      ∙ sym (asked_posts turn.node (record { turn = length older; index = 0 }) turn.posts items)
      ∙ sym (asked_taking turn.node turn.took (posted_at older turn.took) posts)
      ∙ sym (asked_end turn.node turn.end taking)

-- ---- what a log counts, in the past of a node

module _ (log : List Turn) where
  -- an event is a tick, as a log tells it
  abbrev told_ticks : Event → ℕ
  told_ticks (Did item) = cond (item_ticks log item) 1 0
  told_ticks (Sent message) = cond (is_add (note_of message.body)) 1 0
  told_ticks (Took message) = 0
  told_ticks (Ended end) = 0

  abbrev past_ticks : Past → ℕ
  past_ticks [] = 0
  past_ticks (event ∷ past) = past_ticks past + told_ticks event

  did_ticks : (items : List Item) (past : Past) → past_ticks (did items past) ≡ past_ticks past + count_by (item_ticks log) items
  did_ticks [] past = omega arith
  did_ticks (item ∷ items) past =
      let rest = did_ticks items (Did item ∷ past) in
      let first = sum_by-cons (λ it. cond (item_ticks log it) 1 0) item items in omega (arith, rest, first)

  sent_ticks : (messages : List Msg) (past : Past)
      → past_ticks (sent messages past) ≡ past_ticks past + count_by (λ post. is_add post.note) (map post_of messages)
  sent_ticks [] past = omega arith
  sent_ticks (message ∷ messages) past =
      let rest = sent_ticks messages (Sent message ∷ past) in
      let first = sum_by-cons (λ post. cond (is_add post.note) 1 0) (post_of message) (map post_of messages) in omega (arith, rest, first)

  took_ticks : (message : Option Msg) (past : Past) → past_ticks (took message past) ≡ past_ticks past
  took_ticks None past = refl
  took_ticks (Some message) past = omega arith

  ended_ticks : (end : Option NodeEnd) (past : Past) → past_ticks (ended end past) ≡ past_ticks past
  ended_ticks None past = refl
  ended_ticks (Some end) past = omega arith

  turn_told : (node : ℕ) (turn : WholeTurn) (message : Option Msg) (past : Past)
      → past_ticks (cond (eqb turn.node node) (after_turn turn message past) past) ≡ past_ticks past + turn_ticks log node (logged turn)
  turn_told node turn message past = on (eqb turn.node node)
    where
      items : Past
      items = did turn.items past

      posts : Past
      posts = sent turn.posts items

      on : (b : Bool) → past_ticks (cond b (after_turn turn message past) past)
          ≡ past_ticks past + cond b (count_by (item_ticks log) turn.items + count_by (λ post. is_add post.note) (map post_of turn.posts)) zero
      on true =
          let did_all = did_ticks turn.items past in
          let sent_all = sent_ticks turn.posts items in
          let taken = took_ticks message posts in
          let end = ended_ticks turn.end (took message posts) in omega (arith, did_all, sent_all, taken, end)
      on false = omega arith

  turns_told : (node : ℕ) (turns : List WholeTurn) → sum_by (turn_ticks log node) (log_of turns) ≡ past_ticks (past_of node turns)
  unfolding past_of
  turns_told node [] = refl
  turns_told node (turn ∷ older) =
      let more = ap (sum_by (turn_ticks log node)) (log_more turn older) ∙ sum_by_push (turn_ticks log node) (log_of older) (logged turn) in
      let here = turn_told node turn (posted_at older turn.took) (past_of node older) in
      let before = turns_told node older in omega (arith, more, here, before)

  -- ---- each event is told as it is

  told_add : (said : Body) → is_add (note_of said) ≡ adds_in said
  told_add (body.Fetch page) = refl
  told_add (body.Page page words) = refl
  told_add (body.Reconcile parts) = refl
  told_add body.Ack = refl
  told_add body.Ask = refl
  told_add (body.Grant closure) = refl
  told_add body.Refuse = refl
  told_add (body.Done join index value) = refl
  told_add (body.Park join closure) = refl
  told_add (body.Add frame index word addend) = refl
  told_add (body.Added old) = refl

  module _ (cluster : Cluster) (all : Course) (stepped : Stepped cluster all)
      (asked : (frame : FrameId) (index : ℕ) → is_asked log frame index ≡ asked_in frame index all) where
    event_told : (newer : Course) (moved : Moved) (course : Course) → newer ++ moved ∷ course ≡ all → (event : Event) → moved.event ≡ event
        → told_ticks event ≡ ticks_on event (own moved.node course)
    event_told newer moved course parts (Did (item.Act frame index act)) is = refl
    event_told newer moved course parts (Did (item.Tick frame)) is = refl
    event_told newer moved course parts (Did (item.Drop page)) is = refl
    event_told newer moved course parts (Did (item.TakeUp frame)) is = refl
    event_told newer moved course parts (Did (item.OwnFetch page words)) is = refl
    event_told newer moved course parts (Did (item.OwnReconcile part)) is = refl
    event_told newer moved course parts (Did (item.Served frame index word old addend)) is =
        let whole : Stepped cluster (newer ++ moved ∷ course) = subst (Stepped cluster) (sym parts) stepped in
        let front = stepped_front frame index cluster newer (moved ∷ course) whole in
        ap (λ it. cond (not it) 1 0) (asked frame index ∙ ap (asked_in frame index) (sym parts))
        ∙ ap (λ b. cond b 1 0) (served_asked frame index cluster moved course word old addend is front newer whole)
    event_told newer moved course parts (Sent message) is = ap (λ b. cond b 1 0) (told_add message.body)
    event_told newer moved course parts (Took message) is = refl
    event_told newer moved course parts (Ended end) is = refl

    past_told : (node : ℕ) (newer course : Course) → newer ++ course ≡ all → past_ticks (own node course) ≡ ticks_of (own node course)
    unfolding ticks_of
    past_told node newer [] parts = refl
    past_told node newer (moved ∷ course) parts =
        on (eqb moved.node node) refl (past_told node (newer ++ moved ∷ []) course (append_assoc newer (moved ∷ []) course ∙ parts))
      where
        on : (b : Bool) → eqb moved.node node ≡ b → past_ticks (own node course) ≡ ticks_of (own node course)
            → past_ticks (cond b (moved.event ∷ own node course) (own node course)) ≡ ticks_of (cond b (moved.event ∷ own node course) (own node course))
        on true is before =
            let here : told_ticks moved.event ≡ ticks_on moved.event (own node course) =
            subst (λ it. told_ticks moved.event ≡ ticks_on moved.event (own it course)) (equal_number moved.node node is)
            (event_told newer moved course parts moved.event refl) in
            omega (arith, before, here)
        on false is before = before

-- ---- lawful turns

module _ (cluster : Cluster) (turns : List WholeTurn) (lawful : IsLawful cluster turns) where
  -- What the log counts for a node are its ticks.
  pub node_ticks : (node : ℕ) → ticks_in (log_of turns) node ≡ ticks_of (past_of node turns)
  node_ticks node =
      turns_told (log_of turns) node turns ∙ ap (past_ticks (log_of turns)) (sym (own_course node turns))
      ∙ past_told (log_of turns) cluster (course_of turns) (lawful_stepped cluster turns lawful)
      (λ frame index. asked_log frame index turns) node [] (course_of turns) refl
      ∙ ap ticks_of (own_course node turns)

  sum_counted : (amount : ℕ → ℕ) (count : ℕ) → sum (map amount (range_with_len 0 count)) ≡ sum_below count amount
  sum_counted amount zero = refl
  sum_counted amount (suc count) =
      let next : suc count ≡ count + 1 = omega arith in
      let more = sum_by-map-range_with_len_more (λ it. it) amount 0 count count (omega arith) in
      let last : sum (map amount (range_with_len 0 (suc count))) ≡ sum (map amount (range_with_len 0 (count + 1))) =
      ap (λ it. sum (map amount (range_with_len 0 it))) next in
      let before = sum_counted amount count in omega (arith, more, last, before)

  -- The ticks that the log counts for all nodes are the items of the trace and the Adds under way.
  pub counts_sum : sum (counts_of cluster.config.nodes (log_of turns)).ticks ≡ items_in cluster (course_of turns) + adds_under_way (course_of turns)
  counts_sum =
      sum_counted (ticks_in (log_of turns)) cluster.config.nodes
      ∙ sum_same cluster.config.nodes (λ node. ticks_of (own node (course_of turns))) (ticks_in (log_of turns))
      (λ node less. node_ticks node ∙ ap ticks_of (sym (own_course node turns)))
      ∙ ticks_sum cluster (course_of turns) (lawful_stepped cluster turns lawful)
