-- Reconcile before an edge: all that a node wrote is cleaned where it posts a Grant, a Done or a Park.
use Rattle.std.proofs.Common.{◌≡◌, ℕ, List, [], Some, sym, arith}
use Rattle.std.proofs.lemmas.List.{append-nil}
use Rattle.cluster_rules.specs.Turns.{WholeTurn, Sent, Past}
use Rattle.cluster_rules.specs.Edges.{IsAllClean}
use Rattle.cluster_rules.specs.Positions.{Moved, Course, course_of, own, at, before}
use Rattle.cluster_rules.specs.Runs.{Cluster, IsLawful, node_at}
use Rattle.backer_order.specs.Log as log
use Rattle.backer_order.specs.Edges.{AllClean, IsEdge}
use Rattle.cluster_order.specs.Reading.{memory_of}
use Rattle.cluster_order.proofs.Events.{happens, posted_is, grant_is, done_is, park_is}
use Rattle.cluster_order.proofs.Accesses.{ev}
use Rattle.cluster_order.proofs.Lawful.{grant_allowed, done_allowed, park_allowed}
use Rattle.cluster_order.proofs.Cleaning.{cleaned}

module _ (cluster : Cluster) (turns : List WholeTurn) (lawful : IsLawful cluster turns) where
  abbrev events : ℕ → log.Event
  events = ev cluster turns lawful

  abbrev course : Course
  course = course_of turns

  abbrev past : ℕ → ℕ → Past
  past number position = own number (before course position)

  all_clean : (number position : ℕ) (moved : Moved) → at course position ≡ Some moved → IsAllClean (node_at cluster number) (past number position)
      → AllClean events (memory_of cluster) number position
  all_clean number position moved found clean word write wrote less =
      cleaned cluster turns lawful number word write position moved found (before course position) [] (sym (append-nil (before course position)))
      (clean word) wrote (omega (arith)) less

  pub clean : (position number receiver : ℕ) (note : log.Note) → events position ≡ log.Post number receiver note → IsEdge note
      → AllClean events (memory_of cluster) number position
  clean position number receiver (log.Grant granted) is edge =
      let it = posted_is cluster course position number receiver (log.Grant granted) is in
      let sent = happens cluster course position number (it.0) (Sent (it.1)) (it.2) in
      let says = grant_is cluster number (before course position) granted (it.1.body) (it.4) in
      all_clean number position (sent.moved) (sent.is) ((grant_allowed cluster turns lawful number position (it.1) (says.0) sent (says.1)).clean)
  clean position number receiver (log.Done parent child) is edge =
      let it = posted_is cluster course position number receiver (log.Done parent child) is in
      let sent = happens cluster course position number (it.0) (Sent (it.1)) (it.2) in
      let says = done_is cluster number (before course position) parent child (it.1.body) (it.4) in
      all_clean number position (sent.moved) (sent.is)
      ((done_allowed cluster turns lawful number position (it.1) (says.0) (says.1) (says.2) sent (says.3)).clean)
  clean position number receiver (log.Park parked) is edge =
      let it = posted_is cluster course position number receiver (log.Park parked) is in
      let sent = happens cluster course position number (it.0) (Sent (it.1)) (it.2) in
      let says = park_is cluster number (before course position) parked (it.1.body) (it.4) in
      all_clean number position (sent.moved) (sent.is) ((park_allowed cluster turns lawful number position (it.1) (says.0) (says.1) sent (says.2)).clean)
  clean position number receiver (log.Fetch page) is edge = absurd edge
  clean position number receiver (log.Page page words) is edge = absurd edge
  clean position number receiver (log.Reconcile parts) is edge = absurd edge
  clean position number receiver log.Ack is edge = absurd edge
  clean position number receiver log.Ask is edge = absurd edge
  clean position number receiver log.Refuse is edge = absurd edge
  clean position number receiver (log.AddTo frame word addend) is edge = absurd edge
  clean position number receiver (log.Added old) is edge = absurd edge
