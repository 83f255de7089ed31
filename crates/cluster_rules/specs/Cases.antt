-- Logs that were worked out by hand from the rules in words.
use Rattle.std.specs.Prelude.{ℕ, ℤ, pos, true, false, Option, Some, None, List, [], ◌∷◌}
use Rattle.cilk_meaning.specs.declared.ends.NodeEnd.{NodeEnd}
use Rattle.cilk_meaning.specs.declared.ends.NodeEnd.TheVariants.{Finished}
use Rattle.machine_code.specs.Machine.{Code}
use Rattle.machine_code.specs.declared.instr.Instr.TheVariants.{Const, WriteShared, SyncAll, Return}
use Rattle.page_words.specs.Limits.{IsWithinLimits}
use Rattle.page_messages.specs.declared.closure.FrameId.{FrameId}
use Rattle.page_messages.specs.declared.closure.JoinId.{JoinId}
use Rattle.page_messages.specs.declared.parts.Part.{Part}
use Rattle.page_messages.specs.declared.post.Note.{Note}
use Rattle.page_messages.specs.declared.post.Note.TheVariants as note
use Rattle.page_messages.specs.declared.post.Post.{Post}
use Rattle.page_messages.specs.declared.log.LoggedAct.TheVariants.{Write, Sync}
use Rattle.page_messages.specs.declared.log.Item.{Item}
use Rattle.page_messages.specs.declared.log.Item.TheVariants.{Act, OwnFetch, OwnReconcile}
use Rattle.page_messages.specs.declared.log.PostAt.{PostAt}
use Rattle.page_messages.specs.declared.log.Turn.{Turn}
use Rattle.cluster_rules.specs.Lives.{main_id}
use Rattle.cluster_rules.specs.Runs.{Cluster, IsRun}

-- ---- `cilk int main() { }` on one node

abbrev pub empty_main : Code
empty_main = record {
  procs = record { «cilk» = true; start = 0; params = 0; locals = 0; operands = 1 } ∷ [];
  instrs = SyncAll ∷ Const (pos 0) ∷ Return ∷ [];
  shared = [];
  main = 0;
  input_base = 0;
  input = [];
}

abbrev pub alone_with : Code → IsWithinLimits 1 16 64 2000000 → Cluster
alone_with code limits = record { config = record { nodes = 1; page_words = 16; cache_pages = 64; budget = 2000000; limits = limits }; code = code }

-- it syncs, and then the run is finished
abbrev pub empty_main_log : List Turn
empty_main_log =
    record { node = 0; items = Act main_id 0 Sync ∷ []; posts = []; took = None; end = None }
    ∷ record { node = 0; items = []; posts = []; took = None; end = Some Finished } ∷ []

abbrev pub EmptyMain : Type 0
EmptyMain = (limits : IsWithinLimits 1 16 64 2000000) → IsRun (alone_with empty_main limits) empty_main_log

-- ---- `int a[4]; int main() { a[0] = 1; a[1] = 2; a[3] = 4; }` on two nodes, with pages of one word

abbrev pub three_writes : Code
three_writes = record {
  procs = record { «cilk» = false; start = 0; params = 0; locals = 0; operands = 2 } ∷ [];
  instrs =
      Const (pos 0) ∷ Const (pos 1) ∷ WriteShared 0
      ∷ Const (pos 1) ∷ Const (pos 2) ∷ WriteShared 0
      ∷ Const (pos 3) ∷ Const (pos 4) ∷ WriteShared 0
      ∷ Const (pos 0) ∷ Return ∷ [];
  shared = record { base = 0; words = 4 } ∷ [];
  main = 0;
  input_base = 0;
  input = [];
}

abbrev pub two_with : Code → IsWithinLimits 2 1 64 1000000 → Cluster
two_with code limits = record { config = record { nodes = 2; page_words = 1; cache_pages = 64; budget = 1000000; limits = limits }; code = code }

abbrev pub turn_of : ℕ → List Item → List Post → Option PostAt → Turn
turn_of node items posts took = record { node = node; items = items; posts = posts; took = took; end = None }

abbrev pub ended_at : ℕ → NodeEnd → Turn
ended_at node end = record { node = node; items = []; posts = []; took = None; end = Some end }

abbrev pub to : ℕ → Note → Post
to receiver said = record { receiver = receiver; note = said }

abbrev pub place_of_first : ℕ → Option PostAt
place_of_first turn = Some (record { turn = turn; index = 0 })

abbrev pub frame : ℕ → ℕ → FrameId
frame node number = record { node = node; number = number }

abbrev pub join : ℕ → ℕ → JoinId
join node number = record { node = node; number = number }

-- one marked word on a page of one word
abbrev pub marked : ℕ → ℤ → Part
marked page value = record { page = page; mask = 1; words = value ∷ [] }

-- The pages 1 and 3 come from node 1, and their words go back there in one Reconcile.
abbrev pub three_writes_log : List Turn
three_writes_log =
    turn_of 0 (OwnFetch 0 (pos 0 ∷ []) ∷ []) [] None
    ∷ turn_of 1 [] (to 0 note.Ask ∷ []) None
    ∷ turn_of 0 (Act main_id 0 (Write 0 (pos 1)) ∷ []) [] (place_of_first 1)
    ∷ turn_of 0 [] (to 1 (note.Fetch 1) ∷ []) None
    ∷ turn_of 1 [] [] (place_of_first 3)
    ∷ turn_of 1 [] (to 0 (note.Page 1 (pos 0 ∷ [])) ∷ []) None
    ∷ turn_of 0 [] [] (place_of_first 5)
    ∷ turn_of 0 (Act main_id 1 (Write 1 (pos 2)) ∷ []) [] None
    ∷ turn_of 0 [] (to 1 (note.Fetch 3) ∷ []) None
    ∷ turn_of 1 [] [] (place_of_first 8)
    ∷ turn_of 1 [] (to 0 (note.Page 3 (pos 0 ∷ [])) ∷ []) None
    ∷ turn_of 0 [] [] (place_of_first 10)
    ∷ turn_of 0 (Act main_id 2 (Write 3 (pos 4)) ∷ []) [] None
    ∷ turn_of 0 (OwnReconcile (marked 0 (pos 1)) ∷ []) (to 1 (note.Reconcile (marked 1 (pos 2) ∷ marked 3 (pos 4) ∷ [])) ∷ []) None
    ∷ turn_of 1 [] [] (place_of_first 13)
    ∷ turn_of 1 [] (to 0 note.Ack ∷ []) None
    ∷ turn_of 0 [] [] (place_of_first 15)
    ∷ record { node = 0; items = []; posts = []; took = None; end = Some Finished } ∷ []

abbrev pub ThreeWrites : Type 0
ThreeWrites = (limits : IsWithinLimits 2 1 64 1000000) → IsRun (two_with three_writes limits) three_writes_log
