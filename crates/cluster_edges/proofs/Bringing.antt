-- In every run each frame is where the course says last.
use Rattle.std.proofs.Common.{◌≡◌, ◌≢◌, ◌⊎◌, inl, inr, ℕ, ◌≤◌, [], ◌∷◌, Option, Some, None, Bool, true, false, cond, eqb, refl, sym, ◌∙◌, ap, subst, arith}
use Rattle.std.specs.List.{list_any}
use Rattle.page_messages.specs.declared.closure.FrameId.{FrameId}
use Rattle.page_messages.specs.declared.message.Msg.{Msg}
use Rattle.page_messages.specs.declared.message.Body.{Body}
use Rattle.page_messages.specs.declared.message.Body.TheVariants as body
use Rattle.page_messages.specs.declared.log.PostAt.{PostAt}
use Rattle.cluster_rules.specs.Turns.{Took}
use Rattle.cluster_rules.specs.Lives.{main_life, same_frame}
use Rattle.cluster_rules.specs.Frames.{frames_of, next_frame}
use Rattle.cluster_rules.specs.Positions.{Moved, Course, own}
use Rattle.cluster_rules.specs.Runs.{Cluster, node_at}
use Rattle.cluster_rules.specs.Allowed.{IsAllowed}
use Rattle.cluster_rules.proofs.Stepping.{IsPost, WasPosted, takes_place, Takes, Carries, Step, Stepped}
use Rattle.cluster_rules.proofs.Summing.{one_or_two}
use Rattle.cluster_rules.proofs.Marks.{same_name}
use Rattle.cluster_rules.proofs.Holding.{own_first, own_other}
use Rattle.cluster_edges.specs.Stages.{frame_in}
use Rattle.cluster_edges.proofs.News.{Told, told, news_on, last_news, last_kept}
use Rattle.cluster_edges.proofs.Through.{count}
use Rattle.cluster_edges.proofs.Placed.{Named, Coming, Placed, Brought, Untold, named_more, placed_kept, ready_kept, join_kept}
use Rattle.cluster_edges.proofs.Counted.{Once, marks_at, untold_none, untold_count, no_news, counted_named}
use Rattle.cluster_edges.proofs.OnePlace.{one_place}
use Rattle.cluster_edges.proofs.Moving.{own_placed, tells_own, sends_coming}
use Rattle.cluster_rules.proofs.Testing.{neither}

-- ---- what is on its way

pub coming_kept : (cluster : Cluster) (moved : Moved) (course : Course) (receiver : ℕ) (said : Body)
    → ((id : FrameId) → frame_in said ≡ Some id → news_on id moved ≡ None)
    → Coming cluster course receiver said → Coming cluster (moved ∷ course) receiver said
coming_kept cluster moved course receiver (body.Fetch page) none coming = tt
coming_kept cluster moved course receiver (body.Page page words) none coming = tt
coming_kept cluster moved course receiver (body.Reconcile parts) none coming = tt
coming_kept cluster moved course receiver body.Ack none coming = tt
coming_kept cluster moved course receiver body.Ask none coming = tt
coming_kept cluster moved course receiver (body.Grant closure) none coming =
    (ready_kept cluster receiver moved course closure.id closure.join coming.0 (none closure.id refl), coming.1)
coming_kept cluster moved course receiver body.Refuse none coming = tt
coming_kept cluster moved course receiver (body.Done join index value) none coming = tt
coming_kept cluster moved course receiver (body.Park join closure) none coming =
    join_kept cluster receiver moved course closure.id coming (none closure.id refl)
coming_kept cluster moved course receiver (body.Add other index word addend) none coming = tt
coming_kept cluster moved course receiver (body.Added old) none coming = tt

-- ---- one event

module _ (cluster : Cluster) (course : Course) (brought : Brought cluster course) (once : Once cluster course) (moved : Moved)
    (step : Step cluster course moved) where
  abbrev grown : Course
  grown = moved ∷ course

  here_once : (frame : FrameId) → count frame (marks_at cluster course moved.node) ≤ 1
  here_once = once.within moved.node step.within

  one_of_node : (it : Told) → told moved ≡ Some it → 1 ≤ count it.frame (marks_at cluster course moved.node)
  one_of_node it is = tells_own cluster course moved.node moved.message (brought.frames moved.node) here_once brought.told it moved.event step.allowed is

  -- a frame that another node or a message has is none of which the event speaks
  none_elsewhere : (id : FrameId) (it : Option Told) → told moved ≡ it → ((said : Told) → told moved ≡ Some said → same_frame id said.frame ≡ true → ⊥)
      → news_on id moved ≡ None
  none_elsewhere id None is not = rw is refl
  none_elsewhere id (Some said) is not = on (same_frame id said.frame) refl
    where
      on : (b : Bool) → same_frame id said.frame ≡ b → news_on id moved ≡ None
      on true same = absurd (not said is same)
      on false other = no_news said moved id is other

  -- ---- nodes

  coming_taken : (message : Msg) → moved.event ≡ Took message → Coming cluster grown moved.node message.body
  coming_taken message is =
      let takes : Takes course moved.node moved.message message = subst (λ event. Carries course moved.node moved.message event) is step.carries in
      let silent : told moved ≡ None = ap (λ event. told (record { node = moved.node; event = event; message = moved.message })) is in
      coming_kept cluster moved course moved.node message.body (λ id any. rw silent refl)
      (subst (λ it. Coming cluster course it message.body) takes.receiver (brought.coming takes.place message takes.was_posted takes.not_taken))

  own_frames : Placed cluster moved.node grown (frames_of (node_at cluster moved.node) (own moved.node grown))
  unfolding frames_of
  own_frames =
      subst (λ past. Placed cluster moved.node grown (frames_of (node_at cluster moved.node) past)) (sym (own_first moved course))
      (own_placed cluster course moved.node moved.message (brought.frames moved.node) here_once brought.told moved.event step.allowed coming_taken)

  other_untold : (number : ℕ) → moved.node ≢ number → (it : Option Told) → told moved ≡ it
      → Untold cluster number moved course (frames_of (node_at cluster number) (own number course))
  other_untold number other None is = untold_none cluster number moved course is (frames_of (node_at cluster number) (own number course))
  other_untold number other (Some it) is =
      untold_count cluster number moved course it is (frames_of (node_at cluster number) (own number course))
      (once.apart moved.node number step.within other it.frame (one_of_node it is))

  other_frames : (number : ℕ) → moved.node ≢ number → Placed cluster number grown (frames_of (node_at cluster number) (own number grown))
  other_frames number other =
      subst (λ past. Placed cluster number grown (frames_of (node_at cluster number) past)) (sym (own_other number moved course (λ same. other (sym same))))
      (placed_kept cluster number moved course (frames_of (node_at cluster number) (own number course)) (brought.frames number)
      (other_untold number other (told moved) refl))

  all_frames : (number : ℕ) → (moved.node ≡ number) ⊎ (moved.node ≢ number)
      → Placed cluster number grown (frames_of (node_at cluster number) (own number grown))
  all_frames number (inl same) = subst (λ it. Placed cluster it grown (frames_of (node_at cluster it) (own it grown))) same own_frames
  all_frames number (inr other) = other_frames number other

  -- ---- messages

  old_coming : (place : PostAt) (message : Msg) → WasPosted course place message → list_any (takes_place place) course ≡ false
      → Coming cluster grown message.receiver message.body
  old_coming place message was not =
      coming_kept cluster moved course message.receiver message.body
      (λ id is. none_elsewhere id (told moved) refl
      (λ said tells same. once.flying moved.node step.within said.frame (one_of_node said tells) place message was not
      (is ∙ ap Some (same_name id said.frame same))))
      (brought.coming place message was not)

  new_coming : (place : PostAt) (message : Msg) → IsPost place message moved → Coming cluster grown message.receiver message.body
  new_coming place message post =
      subst (λ event. Coming cluster (record { node = moved.node; event = event; message = moved.message } ∷ course) message.receiver message.body) (sym post.0)
      (sends_coming cluster course moved.node moved.message (brought.frames moved.node) here_once brought.told message message.body refl
      (subst (λ event. IsAllowed (node_at cluster moved.node) (own moved.node course) event) post.0 step.allowed))

  all_coming : (place : PostAt) (message : Msg) → WasPosted grown place message → list_any (takes_place place) grown ≡ false
      → Coming cluster grown message.receiver message.body
  all_coming place message (inl post) not = new_coming place message post
  all_coming place message (inr was) not = old_coming place message was (neither (takes_place place moved) (list_any (takes_place place) course) not).1

  -- ---- names

  old_told : (frame : FrameId) → news_on frame moved ≡ None → (last_news frame course ≡ None) ⊎ Named cluster course frame
      → (last_news frame grown ≡ None) ⊎ Named cluster grown frame
  old_told frame none (inl nothing) = inl (last_kept frame moved course none ∙ nothing)
  old_told frame none (inr named) = inr (named_more cluster moved course frame named)

  all_told : (frame : FrameId) (it : Option Told) → told moved ≡ it → (last_news frame grown ≡ None) ⊎ Named cluster grown frame
  all_told frame None is = old_told frame (rw is refl) (brought.told frame)
  all_told frame (Some it) is = on (same_frame frame it.frame) refl
    where
      on : (b : Bool) → same_frame frame it.frame ≡ b → (last_news frame grown ≡ None) ⊎ Named cluster grown frame
      on true same =
          inr (named_more cluster moved course frame (subst (λ it. Named cluster course it) (sym (same_name frame it.frame same))
          (counted_named cluster moved.node course (frames_of (node_at cluster moved.node) (own moved.node course)) (brought.frames moved.node) it.frame
          (one_of_node it is))))
      on false other = old_told frame (no_news it moved frame is other) (brought.told frame)

  pub brought_next : Brought cluster grown
  brought_next = record {
    frames = λ number. all_frames number (one_or_two moved.node number);
    coming = all_coming;
    told = λ frame. all_told frame (told moved) refl;
  }

-- ---- all events

start_frames : (cluster : Cluster) (number : ℕ) → Placed cluster number [] (frames_of (node_at cluster number) [])
unfolding frames_of next_frame
start_frames cluster number = on (eqb number 0)
  where
    on : (b : Bool) → Placed cluster number [] (record { stack = cond b (main_life (node_at cluster number) ∷ []) []; ready = []; parked = [] })
    on true = record { stack = (record { news = inl refl; joined = λ any. inl refl; named = omega arith }, tt); ready = tt; parked = tt }
    on false = record { stack = tt; ready = tt; parked = tt }

pub brought : (cluster : Cluster) (course : Course) → Stepped cluster course → Brought cluster course
brought cluster [] stepped = record { frames = start_frames cluster; coming = λ place message was not. absurd was; told = λ frame. inl refl }
brought cluster (moved ∷ course) stepped = brought_next cluster course (brought cluster course stepped.0) (one_place cluster course stepped.0) moved stepped.1
