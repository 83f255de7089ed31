-- Each word that is accessed in lawful turns is a shared word of the code.
use Rattle.std.proofs.Common.{◌≡◌, ◌⊎◌, inl, inr, ℕ, ℤ, ◌<◌, List, length, refl, sym, subst}
use Rattle.cilk_meaning.specs.Wants as want
use Rattle.cilk_meaning.specs.Wants.{Want, Asks}
use Rattle.machine_code.specs.Valid.{AreInOrder, words_in}
use Rattle.page_messages.specs.declared.closure.FrameId.{FrameId}
use Rattle.page_messages.specs.declared.log.Item.TheVariants as item
use Rattle.page_messages.specs.declared.log.LoggedAct.TheVariants as act
use Rattle.cluster_rules.specs.Turns.{WholeTurn, Did, Past}
use Rattle.cluster_rules.specs.Acting.{MayAdd, MayAddHere, Serves}
use Rattle.cluster_rules.specs.Positions.{course_of, Happens}
use Rattle.cluster_rules.specs.Runs.{Cluster, IsLawful, IsFree, node_at}
use Rattle.backer_order.specs.Log as log
use Rattle.backer_order.specs.Log.{Events}
use Rattle.cluster_order.specs.Reading.{events_of}
use Rattle.cluster_order.proofs.Accesses.{wrote_there, read_there}
use Rattle.cluster_order.proofs.Events.{acted_is, no_add}
use Rattle.cluster_order.proofs.Lawful.{Among, past_at, act_allowed, served_allowed, owed_taken, add_allowed}
use Rattle.word_order.proofs.Living.{highest_wants}
use Rattle.word_order.proofs.Ordered.{EachIsShared}

module _ (cluster : Cluster) (turns : List WholeTurn) (lawful : IsLawful cluster turns) (order : AreInOrder 0 cluster.code.shared) where
  abbrev events : Events
  events = events_of cluster (course_of turns)

  abbrev all_words : ℕ
  all_words = words_in cluster.code.shared

  add_shared : (number home : ℕ) (past : Past) (frame : FrameId) (index word : ℕ) (addend : ℤ)
      → MayAdd (node_at cluster number) past home frame index word addend → word < all_words
  add_shared number home past frame index word addend may =
      highest_wants (node_at cluster number) order past may.life (Asks (want.Add word addend)) may.acts.is may.wanted

  served_shared : (home position : ℕ) (frame : FrameId) (index word : ℕ) (old addend : ℤ)
      → Happens (course_of turns) home position (Did (item.Served frame index word old addend)) → word < all_words
  served_shared home position frame index word old addend happens = on (served_allowed cluster turns lawful home position frame index word old addend happens)
    where
      on : Serves (node_at cluster home) (past_at cluster turns lawful home position) frame index word old addend
          ⊎ (IsFree (past_at cluster turns lawful home position)
          × MayAddHere (node_at cluster home) (past_at cluster turns lawful home position) frame index word old addend)
          → word < all_words
      on (inr own_add) = add_shared home home (past_at cluster turns lawful home position) frame index word addend own_add.1.add
      on (inl serves) =
          let taken = owed_taken cluster turns lawful home position happens.moved happens.is serves.add
          (subst (λ list. Among serves.add list) (sym serves.oldest) (inl refl)) in
          let posted = taken.2.posted in
          let may = add_allowed cluster turns lawful (taken.2.sender) (taken.0) serves.add frame index word addend
          (record { moved = posted.moved; is = posted.is; by = posted.by; event_is = posted.event_is }) serves.asked in
          add_shared (taken.2.sender) serves.add.receiver (past_at cluster turns lawful (taken.2.sender) (taken.0)) frame index word addend may.add

  -- each accessed word is one of the code's
  pub each_is_shared : EachIsShared events (length (course_of turns)) all_words
  each_is_shared number word position inside (inl (inl (value, wrote))) =
      let it = wrote_there cluster turns lawful number word position value wrote in
      let may = act_allowed cluster turns lawful number position (it.0) (it.1) (act.Write word value) (it.2) in
      highest_wants (node_at cluster number) order (past_at cluster turns lawful number position) may.1.life
      (Asks (want.Write word value)) may.1.acts.is may.1.makes.wanted
  each_is_shared number word position inside (inl (inr (value, read))) =
      let it = read_there cluster turns lawful number word position value read in
      let may = act_allowed cluster turns lawful number position (it.0) (it.1) (act.Read word value) (it.2) in
      highest_wants (node_at cluster number) order (past_at cluster turns lawful number position) may.1.life
      (Asks (want.Read word)) may.1.acts.is may.1.makes.wanted
  each_is_shared number word position inside (inr (old, add)) =
      elim (acted_is cluster (course_of turns) position number add.frame (log.Add word old add.addend) add.is) [
        | inl acted ↦ absurd (no_add word old add.addend acted.act acted.act_is)
        | inr served ↦ (
            let less = served_shared served.home position add.frame served.index served.word served.old served.addend served.is in
            let same : served.word ≡ word = let is = served.act_is in cc in
            subst (λ one. one < all_words) same less)
      ]
