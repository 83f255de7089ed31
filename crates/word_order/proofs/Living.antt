-- Each frame of a node, in a code whose arrays lie one behind another, wants shared words alone that the code has.
use Rattle.std.proofs.Common.{◌≡◌, ℕ, suc, List, [], ◌∷◌, ◌++◌, Option, Some, None, Bool, true, false, cond, eqb, subst}
use Rattle.std.specs.Prelude.{ℤ}
use Rattle.cilk_meaning.specs.Wants.{Want, Deposit, Answer, Value, Done}
use Rattle.machine_code.specs.Valid.{AreInOrder, words_in}
use Rattle.page_messages.specs.declared.closure.JoinId.{JoinId}
use Rattle.page_messages.specs.declared.message.Body.{Body}
use Rattle.page_messages.specs.declared.message.Body.TheVariants as body
use Rattle.page_messages.specs.declared.log.LoggedAct.{LoggedAct}
use Rattle.page_messages.specs.declared.log.LoggedAct.TheVariants as act
use Rattle.page_messages.specs.declared.log.Item.{Item}
use Rattle.page_messages.specs.declared.log.Item.TheVariants as item
use Rattle.cluster_rules.specs.Walking.{is_empty, first_of, with_first}
use Rattle.cluster_rules.specs.Turns.{Event, Did, Sent, Took, Ended, Past}
use Rattle.cluster_rules.specs.Node.{Node}
use Rattle.cluster_rules.specs.Home.{owed_adds}
use Rattle.cluster_rules.specs.Lives.{Life, returned, want_of, live, live_from, answered, made, acted, added, after_act, children_of, main_life, without_bottom, carried}
use Rattle.cluster_rules.specs.Frames.{Parked, Frames, frames_of, frames_on, frames_item, frames_took, stack_of, stack_sent, highest, all_joined, is_complete, joined, taken_up, with_joined}
use Rattle.word_order.proofs.Wanting.{IsIn, Within, after_within, now_within, wants_within, starts_within}

module _ (node : Node) (order : AreInOrder 0 node.code.shared) where
  abbrev all_words : ℕ
  all_words = words_in node.code.shared

  abbrev Fine : Life → Type 0
  Fine life = Within all_words life.goes

  abbrev EachFine : List Life → Type 0
  EachFine [] = Unit {0}
  EachFine (life ∷ lives) = Fine life × EachFine lives

  fine_both : (front back : List Life) → EachFine front → EachFine back → EachFine (front ++ back)
  fine_both [] back one two = two
  fine_both (life ∷ front) back one two = (one.0, fine_both front back (one.1) two)

  live_fine : (deposits : List Deposit) (stack : List Life) → EachFine stack → EachFine (live_from deposits stack)
  live_fine deposits [] each = tt
  live_fine deposits (life ∷ below) each = on (returned life) (λ deposits. live_fine deposits below (each.1))
    where
      on : (value : Option ℤ) → ((deposits : List Deposit) → EachFine (live_from deposits below))
          → EachFine
          (elim value [ None ↦ record life { kept = life.kept ++ deposits } ∷ below | Some value ↦ live_from ((life.spawned.target, value) ∷ []) below ])
      on None rest = each
      on (Some value) rest = rest ((life.spawned.target, value) ∷ [])

  made_fine : (answer : Answer) (life : Life) → Fine life → Fine (made answer life)
  made_fine answer life fine = after_within all_words life.goes answer fine

  acted_fine : (done : LoggedAct) (life : Life) → Fine life → Fine (acted done life)
  acted_fine (act.Read word value) life fine = made_fine (Value value) life fine
  acted_fine (act.Write word value) life fine = made_fine Done life fine
  acted_fine (act.Print value) life fine = made_fine Done life fine
  acted_fine (act.Spawn child procedure arguments) life fine = made_fine Done life fine
  acted_fine act.Sync life fine = after_within all_words life.goes _ fine

  children_fine : (done : LoggedAct) (life : Life) → EachFine (children_of node done life)
  children_fine (act.Read word value) life = tt
  children_fine (act.Write word value) life = tt
  children_fine (act.Print value) life = tt
  children_fine (act.Spawn child procedure arguments) life = (starts_within node.code order (suc life.depth) procedure arguments, tt)
  children_fine act.Sync life = tt

  after_act_fine : (done : LoggedAct) (stack : List Life) → EachFine stack → EachFine (after_act node done stack)
  after_act_fine done [] each = tt
  after_act_fine done (life ∷ below) each =
      fine_both (children_of node done life) (acted done life ∷ below) (children_fine done life) (acted_fine done life (each.0), each.1)

  answered_fine : (answer : Answer) (stack : List Life) → EachFine stack → EachFine (with_first (answered answer) stack)
  answered_fine answer [] each = tt
  answered_fine answer (life ∷ below) each = (after_within all_words life.goes answer (each.0), each.1)

  added_fine : (old : ℤ) (stack : List Life) → EachFine stack → EachFine (added old stack)
  added_fine old [] each = tt
  added_fine old (life ∷ below) each = (made_fine (Value old) life (each.0), each.1)

  granted_fine : (join : Option JoinId) (stack : List Life) → EachFine stack → EachFine (without_bottom join stack)
  granted_fine join [] each = tt
  granted_fine join (life ∷ []) each = tt
  granted_fine join (child ∷ (parent ∷ [])) each = (each.0, tt)
  granted_fine join (life ∷ (second ∷ (third ∷ below))) each = (each.0, granted_fine join (second ∷ (third ∷ below)) (each.1))

  joined_fine : (past : Past) (parked : List Parked) → EachFine (all_joined node past parked)
  joined_fine past [] = tt
  joined_fine past (first ∷ parked) = on (is_complete past first) (joined_fine past parked)
    where
      on : (b : Bool) → EachFine (all_joined node past parked)
          → EachFine (cond b (joined node past first ∷ all_joined node past parked) (all_joined node past parked))
      on true rest = (wants_within node.code order first.closure.frame.frame, rest)
      on false rest = rest

  abbrev AreFine : Frames → Type 0
  AreFine frames = EachFine frames.stack × EachFine frames.ready

  with_joined_fine : (past : Past) (frames : Frames) → AreFine frames → AreFine (with_joined node past frames)
  with_joined_fine past frames each = (each.0, fine_both frames.ready (all_joined node past frames.parked) (each.1) (joined_fine past frames.parked))

  taken_up_fine : (stack ready : List Life) (parked : List Parked) → EachFine stack → EachFine ready → AreFine (taken_up stack ready parked)
  taken_up_fine stack [] parked one two = (one, tt)
  taken_up_fine stack (life ∷ ready) parked one two = ((two.0, tt), two.1)

  item_fine : (done : Item) (past : Past) (frames : Frames) → AreFine frames → AreFine (frames_item node done past frames)
  item_fine (item.Act frame index done) past frames each = (after_act_fine done (live frames.stack) (live_fine [] frames.stack (each.0)), each.1)
  item_fine (item.Tick frame) past frames each = (answered_fine Done (live frames.stack) (live_fine [] frames.stack (each.0)), each.1)
  item_fine (item.Drop page) past frames each = each
  item_fine (item.TakeUp frame) past frames each = taken_up_fine frames.stack frames.ready frames.parked (each.0) (each.1)
  item_fine (item.OwnFetch page words) past frames each = (live_fine [] frames.stack (each.0), each.1)
  item_fine (item.OwnReconcile part) past frames each = each
  item_fine (item.Served frame index word old addend) past frames each = (on (is_empty (owed_adds past)), each.1)
    where
      on : (b : Bool) → EachFine (cond b (added old (live frames.stack)) frames.stack)
      on true = added_fine old (live frames.stack) (live_fine [] frames.stack (each.0))
      on false = each.0

  sent_fine : (said : Body) (stack : List Life) → EachFine stack → EachFine (stack_sent said stack)
  sent_fine (body.Fetch page) stack each = live_fine [] stack each
  sent_fine (body.Page page words) stack each = each
  sent_fine (body.Reconcile parts) stack each = each
  sent_fine body.Ack stack each = each
  sent_fine body.Ask stack each = each
  sent_fine (body.Grant closure) stack each = granted_fine closure.join stack each
  sent_fine body.Refuse stack each = each
  sent_fine (body.Done join index value) stack each = tt
  sent_fine (body.Park join closure) stack each = tt
  sent_fine (body.Add frame index word addend) stack each = live_fine [] stack each
  sent_fine (body.Added old) stack each = each

  took_fine : (said : Body) (past : Past) (frames : Frames) → AreFine frames → AreFine (frames_took node said past frames)
  took_fine (body.Fetch page) past frames each = each
  took_fine (body.Page page words) past frames each = each
  took_fine (body.Reconcile parts) past frames each = each
  took_fine body.Ack past frames each = each
  took_fine body.Ask past frames each = each
  took_fine (body.Grant closure) past frames each =
      (each.0, fine_both frames.ready (carried node closure ∷ []) (each.1) (wants_within node.code order closure.frame.frame, tt))
  took_fine body.Refuse past frames each = each
  took_fine (body.Done join index value) past frames each = with_joined_fine past frames each
  took_fine (body.Park join closure) past frames each =
      with_joined_fine past (record frames { parked = frames.parked ++ record { join = join; closure = closure } ∷ [] }) each
  took_fine (body.Add frame index word addend) past frames each = each
  took_fine (body.Added old) past frames each = (added_fine old frames.stack (each.0), each.1)

  event_fine : (event : Event) (past : Past) (frames : Frames) → AreFine frames → AreFine (frames_on node event past frames)
  event_fine (Did done) past frames each = item_fine done past frames each
  event_fine (Sent message) past frames each = (sent_fine message.body frames.stack (each.0), each.1)
  event_fine (Took message) past frames each = took_fine message.body (Took message ∷ past) frames each
  event_fine (Ended end) past frames each = each

  first_fine : (b : Bool) → EachFine (cond b (main_life node ∷ []) [])
  first_fine true = (starts_within node.code order 0 node.code.main [], tt)
  first_fine false = tt

  frames_fine : (past : Past) → AreFine (frames_of node past)
  unfolding frames_of
  frames_fine [] = (first_fine (eqb node.me 0), tt)
  frames_fine (event ∷ past) = event_fine event past (frames_of node past) (frames_fine past)

  top_fine : (stack : List Life) (life : Life) → EachFine stack → first_of stack ≡ Some life → Fine life
  top_fine [] life each is = absurd cc
  top_fine (first ∷ rest) life each is = let same : first ≡ life = cc in subst Fine same (each.0)

  -- the highest frame wants a word that there is, where it wants one
  pub highest_wants : (past : Past) (life : Life) (first : Want) → highest node past ≡ Some life → want_of life ≡ Some first → IsIn all_words first
  highest_wants past life first is wanted =
      now_within all_words life.goes first (top_fine (live (stack_of node past)) life (live_fine [] (stack_of node past) ((frames_fine past).0)) is) wanted
