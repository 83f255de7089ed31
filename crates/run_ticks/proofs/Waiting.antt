-- Adds that wait at their homes or travel there, by any measure of messages: as many as were posted, less those that were served.
use Rattle.std.proofs.Common.{◌≡◌, ◌<◌, ◌+◌, ℕ, [], ◌∷◌, Option, false, arith}
use Rattle.page_messages.specs.declared.message.Msg.{Msg}
use Rattle.page_messages.specs.declared.log.PostAt.{PostAt}
use Rattle.cluster_rules.specs.Turns.{Event, Did, Sent, Took, Ended, Past}
use Rattle.cluster_rules.specs.Sendings.{adds_in}
use Rattle.cluster_rules.specs.Home.{owed_adds}
use Rattle.cluster_rules.specs.Positions.{Course, own}
use Rattle.cluster_rules.specs.Runs.{Cluster}
use Rattle.cluster_rules.proofs.Stepping.{Carries, Stepped}
use Rattle.cluster_rules.proofs.UnderWay.{serves_amount, waiting, moved_by, none_waits, adds_sent, adds_took, adds_ended, adds_did}

module _ (amount : Msg → ℕ) where
  -- what an event posts
  abbrev pub posts_amount : Event → ℕ
  posts_amount (Did item) = 0
  posts_amount (Sent message) = amount message
  posts_amount (Took message) = 0
  posts_amount (Ended end) = 0

  abbrev pub event_serves : Event → Past → ℕ
  event_serves (Did item) past = serves_amount amount item (owed_adds past)
  event_serves (Sent message) past = 0
  event_serves (Took message) past = 0
  event_serves (Ended end) past = 0

  abbrev pub posted_amount : Course → ℕ
  posted_amount [] = 0
  posted_amount (moved ∷ course) = posted_amount course + posts_amount moved.event

  abbrev pub served_amount : Course → ℕ
  served_amount [] = 0
  served_amount (moved ∷ course) = served_amount course + event_serves moved.event (own moved.node course)

  -- where Adds alone are measured
  module _ (only : (message : Msg) → adds_in message.body ≡ false → amount message ≡ 0) (cluster : Cluster) where
    event_waits : (course : Course) (node : ℕ) (here : Option PostAt) (event : Event) → Stepped cluster course → node < cluster.config.nodes
        → Carries course node here event
        → waiting amount cluster (moved_by node event here ∷ course) + event_serves event (own node course) ≡ waiting amount cluster course + posts_amount event
    event_waits course node here (Did done) stepped less carries = let did = adds_did cluster course node here less amount done in omega (arith, did)
    event_waits course node here (Sent message) stepped less carries =
        let sent = adds_sent cluster course node here less amount message carries in omega (arith, sent)
    event_waits course node here (Took message) stepped less carries =
        let took = adds_took cluster course node here less amount only message stepped carries in omega (arith, took)
    event_waits course node here (Ended end) stepped less carries = let ended = adds_ended cluster course node here less amount end in omega (arith, ended)

    -- What waits and what was served is what was posted.
    pub waiting_sum : (course : Course) → Stepped cluster course → waiting amount cluster course + served_amount course ≡ posted_amount course
    waiting_sum [] stepped = let none = none_waits amount cluster in omega (arith, none)
    waiting_sum (moved ∷ course) stepped =
        let here = event_waits course moved.node moved.message moved.event stepped.0 stepped.1.within stepped.1.carries in
        let before = waiting_sum course stepped.0 in omega (arith, here, before)
