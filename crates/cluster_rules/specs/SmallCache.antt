-- Logs that were worked out by hand, with caches of one page of one word: each page goes for the next one, and a written word first goes home.
use Rattle.std.specs.Prelude.{ℕ, pos, false, None, List, [], ◌∷◌}
use Rattle.cilk_meaning.specs.declared.ends.NodeEnd.TheVariants.{Finished}
use Rattle.machine_code.specs.Machine.{Code}
use Rattle.machine_code.specs.declared.instr.Instr.TheVariants.{Const, ReadShared, WriteShared, Add, PrintTop, Return}
use Rattle.page_words.specs.Limits.{IsWithinLimits}
use Rattle.page_messages.specs.declared.post.Note.TheVariants as note
use Rattle.page_messages.specs.declared.log.LoggedAct.TheVariants.{Read, Write, Print}
use Rattle.page_messages.specs.declared.log.Item.TheVariants.{Act, Drop, OwnFetch, OwnReconcile}
use Rattle.page_messages.specs.declared.log.Turn.{Turn}
use Rattle.cluster_rules.specs.Lives.{main_id}
use Rattle.cluster_rules.specs.Runs.{Cluster, IsRun}
use Rattle.cluster_rules.specs.Cases.{turn_of, ended_at, to, place_of_first, marked}

-- int a[3];
-- int main() { a[0] = 4; a[1] = 5; a[2] = a[0] + a[1]; print(a[2]); return 0; }
abbrev pub summing : Code
summing = record {
  procs = record { «cilk» = false; start = 0; params = 0; locals = 0; operands = 3 } ∷ [];
  instrs =
      Const (pos 0) ∷ Const (pos 4) ∷ WriteShared 0
      ∷ Const (pos 1) ∷ Const (pos 5) ∷ WriteShared 0
      ∷ Const (pos 2) ∷ Const (pos 0) ∷ ReadShared 0 ∷ Const (pos 1) ∷ ReadShared 0 ∷ Add ∷ WriteShared 0
      ∷ Const (pos 2) ∷ ReadShared 0 ∷ PrintTop ∷ Const (pos 0) ∷ Return ∷ Const (pos 0) ∷ Return ∷ [];
  shared = record { base = 0; words = 3 } ∷ [];
  main = 0;
  input_base = 0;
  input = [];
}

-- so many nodes, and one page in each cache
abbrev pub one_page_with : (nodes budget : ℕ) → IsWithinLimits nodes 1 1 budget → Cluster
one_page_with nodes budget limits = record { config = record { nodes = nodes; page_words = 1; cache_pages = 1; budget = budget; limits = limits }; code = summing }

-- on one node
abbrev pub small_cache_log : List Turn
small_cache_log =
    turn_of 0 (OwnFetch 0 (pos 0 ∷ []) ∷ []) [] None
    ∷ turn_of 0 (Act main_id 0 (Write 0 (pos 4)) ∷ []) [] None
    ∷ turn_of 0 (OwnReconcile (marked 0 (pos 4)) ∷ []) [] None
    ∷ turn_of 0 (Drop 0 ∷ OwnFetch 1 (pos 0 ∷ []) ∷ []) [] None
    ∷ turn_of 0 (Act main_id 1 (Write 1 (pos 5)) ∷ []) [] None
    ∷ turn_of 0 (OwnReconcile (marked 1 (pos 5)) ∷ []) [] None
    ∷ turn_of 0 (Drop 1 ∷ OwnFetch 0 (pos 4 ∷ []) ∷ []) [] None
    ∷ turn_of 0 (Act main_id 2 (Read 0 (pos 4)) ∷ []) [] None
    ∷ turn_of 0 (Drop 0 ∷ OwnFetch 1 (pos 5 ∷ []) ∷ []) [] None
    ∷ turn_of 0 (Act main_id 3 (Read 1 (pos 5)) ∷ []) [] None
    ∷ turn_of 0 (Drop 1 ∷ OwnFetch 2 (pos 0 ∷ []) ∷ []) [] None
    ∷ turn_of 0 (Act main_id 4 (Write 2 (pos 9)) ∷ []) [] None
    ∷ turn_of 0 (Act main_id 5 (Read 2 (pos 9)) ∷ []) [] None
    ∷ turn_of 0 (Act main_id 6 (Print (pos 9)) ∷ []) [] None
    ∷ turn_of 0 (OwnReconcile (marked 2 (pos 9)) ∷ []) [] None
    ∷ ended_at 0 Finished ∷ []

-- on two nodes, where page 1 comes from the other one
abbrev pub small_caches_log : List Turn
small_caches_log =
    turn_of 0 (OwnFetch 0 (pos 0 ∷ []) ∷ []) [] None
    ∷ turn_of 1 [] (to 0 note.Ask ∷ []) None
    ∷ turn_of 0 (Act main_id 0 (Write 0 (pos 4)) ∷ []) [] (place_of_first 1)
    ∷ turn_of 0 (OwnReconcile (marked 0 (pos 4)) ∷ []) [] None
    ∷ turn_of 0 (Drop 0 ∷ []) (to 1 (note.Fetch 1) ∷ []) None
    ∷ turn_of 1 [] [] (place_of_first 4)
    ∷ turn_of 1 [] (to 0 (note.Page 1 (pos 0 ∷ [])) ∷ []) None
    ∷ turn_of 0 [] [] (place_of_first 6)
    ∷ turn_of 0 (Act main_id 1 (Write 1 (pos 5)) ∷ []) [] None
    ∷ turn_of 0 [] (to 1 (note.Reconcile (marked 1 (pos 5) ∷ [])) ∷ []) None
    ∷ turn_of 1 [] [] (place_of_first 9)
    ∷ turn_of 1 [] (to 0 note.Ack ∷ []) None
    ∷ turn_of 0 [] [] (place_of_first 11)
    ∷ turn_of 0 (Drop 1 ∷ OwnFetch 0 (pos 4 ∷ []) ∷ []) [] None
    ∷ turn_of 0 (Act main_id 2 (Read 0 (pos 4)) ∷ []) [] None
    ∷ turn_of 0 (Drop 0 ∷ []) (to 1 (note.Fetch 1) ∷ []) None
    ∷ turn_of 1 [] [] (place_of_first 15)
    ∷ turn_of 1 [] (to 0 (note.Page 1 (pos 5 ∷ [])) ∷ []) None
    ∷ turn_of 0 [] [] (place_of_first 17)
    ∷ turn_of 0 (Act main_id 3 (Read 1 (pos 5)) ∷ []) [] None
    ∷ turn_of 0 (Drop 1 ∷ OwnFetch 2 (pos 0 ∷ []) ∷ []) [] None
    ∷ turn_of 0 (Act main_id 4 (Write 2 (pos 9)) ∷ []) [] None
    ∷ turn_of 0 (Act main_id 5 (Read 2 (pos 9)) ∷ []) [] None
    ∷ turn_of 0 (Act main_id 6 (Print (pos 9)) ∷ []) [] None
    ∷ turn_of 0 (OwnReconcile (marked 2 (pos 9)) ∷ []) [] None
    ∷ ended_at 0 Finished ∷ []

pub record SmallCache : Type 0 where
  pub alone : (limits : IsWithinLimits 1 1 1 2000000) → IsRun (one_page_with 1 2000000 limits) small_cache_log
  pub two_nodes : (limits : IsWithinLimits 2 1 1 1000000) → IsRun (one_page_with 2 1000000 limits) small_caches_log
