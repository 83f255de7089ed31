-- What a node has is on no other node and in no message under way: from the count of all places of a frame.
use Rattle.std.proofs.Common.{◌≡◌, ◌≢◌, ◌⊎◌, inl, inr, ℕ, ◌<◌, ◌≤◌, [], ◌∷◌, Some, Bool, true, false, eqb, leb, refl, ◌∙◌, ap, arith}
use Rattle.std.proofs.lemmas.Bool.Decides.{nat_tests}
use Rattle.std.specs.List.{list_any}
use Rattle.page_messages.specs.declared.closure.FrameId.{FrameId}
use Rattle.page_messages.specs.declared.message.Msg.{Msg}
use Rattle.page_messages.specs.declared.message.Body.{Body}
use Rattle.page_messages.specs.declared.message.Body.TheVariants as body
use Rattle.page_messages.specs.declared.log.PostAt.{PostAt}
use Rattle.cluster_rules.specs.Frames.{frames_of}
use Rattle.cluster_rules.specs.Positions.{Course, own}
use Rattle.cluster_rules.specs.Runs.{Cluster, node_at}
use Rattle.cluster_rules.proofs.Stepping.{WasPosted, takes_place, Takes, Stepped}
use Rattle.cluster_rules.proofs.Summing.{sum_one, sum_two}
use Rattle.cluster_rules.proofs.Letters.{letter_taken}
use Rattle.cluster_rules.proofs.Passing.{closure_marks}
use Rattle.cluster_rules.proofs.Marks.{many, named, marks_of}
use Rattle.cluster_rules.proofs.Holding.{at_node, in_message, held, holds_once, own_other}
use Rattle.cluster_edges.specs.Stages.{frame_in}
use Rattle.cluster_edges.proofs.Through.{count}
use Rattle.cluster_edges.proofs.Counted.{Once, marks_at, one_same}

pub less_or_not : (number other : ℕ) → (number < other) ⊎ (other ≤ number)
less_or_not number other = on (leb other number) refl
  where
    on : (b : Bool) → leb other number ≡ b → (number < other) ⊎ (other ≤ number)
    on true is = inr (grind (arith, nat_tests))
    on false is = inl (grind (arith, nat_tests))

-- a node that is none of the cluster does nothing
pub no_past : (cluster : Cluster) (course : Course) → Stepped cluster course → (number : ℕ) → cluster.config.nodes ≤ number → own number course ≡ []
no_past cluster [] stepped number less = refl
no_past cluster (moved ∷ course) stepped number less =
    let here = stepped.1.within in
    own_other number moved course (λ same. omega (arith, less, here, same)) ∙ no_past cluster course stepped.0 number less

none_there : (cluster : Cluster) (frame : FrameId) (number : ℕ) → 1 ≤ number → count frame (marks_of (frames_of (node_at cluster number) [])) ≡ 0
unfolding frames_of
none_there cluster frame number some = let other : eqb number 0 ≡ false = grind (arith, nat_tests) in rw other refl

pub brings_one : (frame : FrameId) (said : Body) → frame_in said ≡ Some frame → many (named frame) (closure_marks said) ≡ 1
brings_one frame (body.Fetch page) is = absurd (cc)
brings_one frame (body.Page page words) is = absurd (cc)
brings_one frame (body.Reconcile parts) is = absurd (cc)
brings_one frame body.Ack is = absurd (cc)
brings_one frame body.Ask is = absurd (cc)
brings_one frame (body.Grant closure) is = let same : closure.id ≡ frame = cc in let self = one_same closure.id frame same in omega (arith, self)
brings_one frame body.Refuse is = absurd (cc)
brings_one frame (body.Done join index value) is = absurd (cc)
brings_one frame (body.Park join closure) is = let same : closure.id ≡ frame = cc in let self = one_same closure.id frame same in omega (arith, self)
brings_one frame (body.Add other index word addend) is = absurd (cc)
brings_one frame (body.Added old) is = absurd (cc)

module _ (cluster : Cluster) (course : Course) (stepped : Stepped cluster course) where
  least : (frame : FrameId) → held cluster course frame ≤ 1
  least frame = (holds_once cluster course stepped).once frame

  within : (number : ℕ) → number < cluster.config.nodes → (frame : FrameId) → count frame (marks_at cluster course number) ≤ 1
  within number less frame =
      let all = least frame in
      let part = sum_one cluster.config.nodes (at_node cluster course (named frame)) number less in omega (arith, all, part)

  apart_on : (number other : ℕ) → number < cluster.config.nodes → number ≢ other → (frame : FrameId) → 1 ≤ count frame (marks_at cluster course number)
      → (other < cluster.config.nodes) ⊎ (cluster.config.nodes ≤ other) → count frame (marks_at cluster course other) ≡ 0
  apart_on number other less not frame some (inl too) =
      let all = least frame in
      let parts = sum_two cluster.config.nodes (at_node cluster course (named frame)) number other less too not in omega (arith, all, parts, some)
  apart_on number other less not frame some (inr beyond) =
      let past_is = no_past cluster course stepped other beyond in
      ap (λ past. count frame (marks_of (frames_of (node_at cluster other) past))) past_is ∙ none_there cluster frame other (omega (arith, less, beyond))

  flies : (number : ℕ) → number < cluster.config.nodes → (frame : FrameId) → 1 ≤ count frame (marks_at cluster course number)
      → (place : PostAt) (message : Msg) → WasPosted course place message → list_any (takes_place place) course ≡ false → frame_in message.body ≡ Some frame → ⊥
  flies number less frame some place message was not is =
      let all = least frame in
      let part = sum_one cluster.config.nodes (at_node cluster course (named frame)) number less in
      let takes : Takes course message.receiver (Some place) message =
      record { place = place; place_is = refl; receiver = refl; was_posted = was; not_taken = not } in
      let letters = letter_taken cluster (in_message (named frame)) course message.receiver (Some place) message stepped takes in
      let self = brings_one frame message.body is in
      omega (arith, all, part, letters, self, some)

  pub one_place : Once cluster course
  one_place = record {
    within = within;
    apart = λ number other less not frame some. apart_on number other less not frame some (less_or_not other cluster.config.nodes);
    flying = flies;
  }
