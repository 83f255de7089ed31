-- What an account says of the children at a Sync, and what each item tells and leaves.
use Rattle.std.proofs.Common.{◌≡◌, inl, inr, ℕ, ℤ, List, [], ◌∷◌, ◌++◌, All, true, refl, subst}
use Rattle.std.proofs.lemmas.List.{append-nil}
use Rattle.std.specs.List.Sorted.{IsPermutation}
use Rattle.std.proofs.lemmas.List.Elements.{All-nil, All-cons, All-head, All-tail}
use Rattle.std.proofs.lemmas.List.Sorted.{All-permutation}
use Rattle.backer_order.specs.Edges.{IsOn}
use Rattle.backer_order.specs.Log as log
use Rattle.cilk_meaning.specs.Instance.{Meaning}
use Rattle.cilk_meaning.specs.Resolved.{Program}
use Rattle.cilk_meaning.specs.Wants.{Deposit, Value, Done, Children}
use Rattle.machine_code.specs.StandsFor.{StandsFor}
use Rattle.page_messages.specs.declared.closure.FrameId.{FrameId}
use Rattle.page_messages.specs.declared.log.LoggedAct.{LoggedAct}
use Rattle.page_messages.specs.declared.log.LoggedAct.TheVariants as act
use Rattle.cluster_rules.specs.Runs.{Cluster}
use Rattle.cluster_rules.specs.Lives.{Life}
use Rattle.cluster_rules.proofs.Marks.{same_self}
use Rattle.cluster_order.specs.Reading.{act_of}
use Rattle.cluster_edges.proofs.Onward as onward
use Rattle.determinacy.specs.Replies.{Trace, by, children, children_after, reply_to, answer_of}
use Rattle.cluster_trace.proofs.Accounts.{Returned, AllReturned, returned_append, Account}

-- ---- items

-- the item is of the frame that acts
pub by_actor : (node : ℕ) (frame : FrameId) (done : log.Act) → by frame (log.Acts node frame done) ≡ true
unfolding by
by_actor node frame done = same_self frame

pub by_ticker : (node : ℕ) (frame : FrameId) → by frame (log.Tick node frame) ≡ true
unfolding by
by_ticker node frame = same_self frame

-- an act tells its frame what the node answers it, but for a Sync
pub act_tells : (node : ℕ) (frame : FrameId) (done : LoggedAct) (given : List Deposit) (life : Life) → (done ≡ act.Sync → ⊥)
    → answer_of (reply_to (log.Acts node frame (act_of done)) given) ≡ onward.answer_of done life
unfolding reply_to
act_tells node frame (act.Read word value) given life not = refl
act_tells node frame (act.Write word value) given life not = refl
act_tells node frame (act.Print value) given life not = refl
act_tells node frame (act.Spawn child procedure arguments) given life not = refl
act_tells node frame act.Sync given life not = absurd (not refl)

pub sync_tells : (node : ℕ) (frame : FrameId) (given : List Deposit) → answer_of (reply_to (log.Acts node frame log.Sync) given) ≡ Children given
unfolding reply_to
sync_tells node frame given = refl

pub add_tells : (node : ℕ) (frame : FrameId) (word : ℕ) (old addend : ℤ) (given : List Deposit)
    → answer_of (reply_to (log.Acts node frame (log.Add word old addend)) given) ≡ Value old
unfolding reply_to
add_tells node frame word old addend given = refl

pub tick_tells : (node : ℕ) (frame : FrameId) (given : List Deposit) → answer_of (reply_to (log.Tick node frame) given) ≡ Done
unfolding reply_to
tick_tells node frame given = refl

pub spawn_adds : (node : ℕ) (frame child : FrameId) (kids : List FrameId) → children_after (log.Acts node frame (log.Spawn child)) kids ≡ child ∷ kids
unfolding children_after
spawn_adds node frame child kids = refl

pub sync_ends : (node : ℕ) (frame : FrameId) (kids : List FrameId) → children_after (log.Acts node frame log.Sync) kids ≡ []
unfolding children_after
sync_ends node frame kids = refl

pub add_leaves : (node : ℕ) (frame : FrameId) (word : ℕ) (old addend : ℤ) (kids : List FrameId)
    → children_after (log.Acts node frame (log.Add word old addend)) kids ≡ kids
unfolding children_after
add_leaves node frame word old addend kids = refl

pub read_leaves : (node : ℕ) (frame : FrameId) (word : ℕ) (value : ℤ) (kids : List FrameId)
    → children_after (log.Acts node frame (log.Read word value)) kids ≡ kids
unfolding children_after
read_leaves node frame word value kids = refl

pub write_leaves : (node : ℕ) (frame : FrameId) (word : ℕ) (value : ℤ) (kids : List FrameId)
    → children_after (log.Acts node frame (log.Write word value)) kids ≡ kids
unfolding children_after
write_leaves node frame word value kids = refl

pub print_leaves : (node : ℕ) (frame : FrameId) (value : ℤ) (kids : List FrameId) → children_after (log.Acts node frame (log.Print value)) kids ≡ kids
unfolding children_after
print_leaves node frame value kids = refl

pub tick_leaves : (node : ℕ) (frame : FrameId) (kids : List FrameId) → children_after (log.Tick node frame) kids ≡ kids
unfolding children_after
tick_leaves node frame kids = refl

-- ---- at a Sync

module _ (cluster : Cluster) (program : Program) (stands : StandsFor cluster.code program) (trace : Trace) where
  abbrev Back : ℕ → FrameId → Type 0
  Back at child = Returned cluster program stands trace at child

  all_back : (at : ℕ) (kids : List FrameId) → AllReturned cluster program stands trace at kids → All (Back at) kids
  all_back at [] returned = All-nil (Back at)
  all_back at (child ∷ kids) returned = All-cons (Back at) child kids returned.0 (all_back at kids returned.1)

  one_back : (at : ℕ) (kids : List FrameId) → All (Back at) kids → (child : FrameId) → IsOn child kids → Back at child
  one_back at [] all child on_it = absurd on_it
  one_back at (first ∷ kids) all child (inl same) = subst (Back at) same (All-head (Back at) first kids all)
  one_back at (first ∷ kids) all child (inr on_it) = one_back at kids (All-tail (Back at) first kids all) child on_it

  -- Where no child of its block is out, each has returned.
  pub account_settled : (at : ℕ) (id : FrameId) (goes : Meaning) (kept : List Deposit) → Account cluster program stands trace at id goes kept [] []
      → (child : FrameId)
      → IsOn child (children trace.events at id) → Returned cluster program stands trace at child
  account_settled at id goes kept it child on_it =
      let same = subst (λ list. IsPermutation list (children trace.events at id)) (append-nil (it.inside ++ it.giving)) it.all in
      one_back at (children trace.events at id)
      (All-permutation (Back at) (it.inside ++ it.giving) (children trace.events at id) same
      (all_back at (it.inside ++ it.giving) (returned_append cluster program stands trace at it.inside it.giving it.inside_so it.giving_so)))
      child on_it
