-- Logs that were worked out by hand: two procedures add to one word.
use Rattle.std.specs.Prelude.{ℕ, ℤ, pos, true, Some, None, List, [], ◌∷◌, replicate}
use Rattle.cilk_meaning.specs.declared.ends.NodeEnd.TheVariants.{Finished}
use Rattle.machine_code.specs.Machine.{Code}
use Rattle.machine_code.specs.declared.instr.Instr.TheVariants.{Const, Load, Store, ReadShared, AddShared, Add, PrintTop, Spawn as SpawnProcedure, SyncAll, Return}
use Rattle.page_words.specs.Limits.{IsWithinLimits}
use Rattle.page_messages.specs.declared.post.Note.TheVariants as note
use Rattle.page_messages.specs.declared.log.LoggedAct.TheVariants.{Read, Print, Spawn, Sync}
use Rattle.page_messages.specs.declared.log.Item.TheVariants.{Act, TakeUp, OwnFetch, Served}
use Rattle.page_messages.specs.declared.log.Turn.{Turn}
use Rattle.cluster_rules.specs.Lives.{main_id}
use Rattle.cluster_rules.specs.Runs.{Cluster, IsRun}
use Rattle.cluster_rules.specs.Cases.{turn_of, ended_at, to, place_of_first, frame, join}

-- int a[1];
-- cilk int one(int v) { int x; x = fetch_add(a[0], v); return x; }
-- cilk int main() { int x, y; x = spawn one(3); y = spawn one(4); sync; print(x + y); print(a[0]); return 0; }
abbrev pub two_adds : Code
two_adds = record {
  procs =
      record { «cilk» = true; start = 0; params = 1; locals = 2; operands = 2 }
      ∷ record { «cilk» = true; start = 12; params = 0; locals = 2; operands = 2 } ∷ [];
  instrs =
      Const (pos 0) ∷ Store 1 ∷ Const (pos 0) ∷ Load 0 ∷ AddShared 0 ∷ Store 1 ∷ SyncAll ∷ Load 1 ∷ Return ∷ SyncAll ∷ Const (pos 0) ∷ Return
      ∷ Const (pos 0) ∷ Store 0 ∷ Const (pos 0) ∷ Store 1
      ∷ Const (pos 3) ∷ SpawnProcedure 0 (Some 0) ∷ Const (pos 4) ∷ SpawnProcedure 0 (Some 1) ∷ SyncAll
      ∷ Load 0 ∷ Load 1 ∷ Add ∷ PrintTop ∷ Const (pos 0) ∷ ReadShared 0 ∷ PrintTop
      ∷ SyncAll ∷ Const (pos 0) ∷ Return ∷ SyncAll ∷ Const (pos 0) ∷ Return ∷ [];
  shared = record { base = 0; words = 1 } ∷ [];
  main = 1;
  input_base = 0;
  input = [];
}

-- so many nodes, with pages of 16 words
abbrev pub adders_with : (nodes budget : ℕ) → IsWithinLimits nodes 16 64 budget → Cluster
adders_with nodes budget limits = record { config = record { nodes = nodes; page_words = 16; cache_pages = 64; budget = budget; limits = limits }; code = two_adds }

-- the page behind both adds
abbrev pub seven : List ℤ
seven = pos 7 ∷ replicate 15 (pos 0)

-- on one node, which is the home of the word
abbrev pub own_adds_log : List Turn
own_adds_log =
    turn_of 0 (Act main_id 0 (Spawn (frame 0 1) 0 (pos 3 ∷ [])) ∷ []) [] None
    ∷ turn_of 0 (Served (frame 0 1) 0 0 (pos 0) (pos 3) ∷ []) [] None
    ∷ turn_of 0 (Act (frame 0 1) 1 Sync ∷ []) [] None
    ∷ turn_of 0 (Act main_id 1 (Spawn (frame 0 2) 0 (pos 4 ∷ [])) ∷ []) [] None
    ∷ turn_of 0 (Served (frame 0 2) 0 0 (pos 3) (pos 4) ∷ []) [] None
    ∷ turn_of 0 (Act (frame 0 2) 1 Sync ∷ []) [] None
    ∷ turn_of 0 (Act main_id 2 Sync ∷ []) [] None
    ∷ turn_of 0 (Act main_id 3 (Print (pos 3)) ∷ []) [] None
    ∷ turn_of 0 (OwnFetch 0 seven ∷ []) [] None
    ∷ turn_of 0 (Act main_id 4 (Read 0 (pos 7)) ∷ []) [] None
    ∷ turn_of 0 (Act main_id 5 (Print (pos 7)) ∷ []) [] None
    ∷ turn_of 0 (Act main_id 6 Sync ∷ []) [] None
    ∷ ended_at 0 Finished ∷ []

-- on two nodes, of which one asks the other for its add
abbrev pub two_adds_log : List Turn
two_adds_log =
    turn_of 0 (Act main_id 0 (Spawn (frame 0 1) 0 (pos 3 ∷ [])) ∷ []) [] None
    ∷ turn_of 1 [] (to 0 note.Ask ∷ []) None
    ∷ turn_of 0 (Served (frame 0 1) 0 0 (pos 0) (pos 3) ∷ []) [] (place_of_first 1)
    ∷ turn_of 0 [] (to 1 (note.Grant main_id) ∷ []) None
    ∷ turn_of 1 [] [] (place_of_first 3)
    ∷ turn_of 0 (Act (frame 0 1) 1 Sync ∷ []) [] None
    ∷ turn_of 1 (TakeUp main_id ∷ []) [] None
    ∷ turn_of 0 [] (to 0 (note.Done (join 0 0) 0 (pos 0)) ∷ []) None
    ∷ turn_of 1 (Act main_id 1 (Spawn (frame 1 0) 0 (pos 4 ∷ [])) ∷ []) [] None
    ∷ turn_of 0 [] (to 1 note.Ask ∷ []) (place_of_first 7)
    ∷ turn_of 1 [] (to 0 (note.Add (frame 1 0) 0 0 (pos 4)) ∷ []) (place_of_first 9)
    ∷ turn_of 0 [] [] (place_of_first 10)
    ∷ turn_of 0 (Served (frame 1 0) 0 0 (pos 3) (pos 4) ∷ []) (to 1 (note.Added (pos 3)) ∷ []) None
    ∷ turn_of 1 [] [] (place_of_first 12)
    ∷ turn_of 1 [] (to 0 (note.Grant main_id) ∷ []) None
    ∷ turn_of 0 [] [] (place_of_first 14)
    ∷ turn_of 1 (Act (frame 1 0) 1 Sync ∷ []) [] None
    ∷ turn_of 0 (TakeUp main_id ∷ []) [] None
    ∷ turn_of 1 [] (to 0 (note.Done (join 0 0) 1 (pos 3)) ∷ []) None
    ∷ turn_of 0 [] (to 0 (note.Park (join 0 0) main_id) ∷ []) (place_of_first 18)
    ∷ turn_of 1 [] (to 0 note.Ask ∷ []) None
    ∷ turn_of 0 [] (to 1 note.Ask ∷ []) (place_of_first 19)
    ∷ turn_of 1 [] [] (place_of_first 21)
    ∷ turn_of 0 (TakeUp main_id ∷ []) [] (place_of_first 20)
    ∷ turn_of 1 [] (to 0 note.Refuse ∷ []) None
    ∷ turn_of 0 (Act main_id 2 Sync ∷ []) [] (place_of_first 24)
    ∷ turn_of 0 (Act main_id 3 (Print (pos 3)) ∷ []) [] None
    ∷ turn_of 0 (OwnFetch 0 seven ∷ []) [] None
    ∷ turn_of 0 (Act main_id 4 (Read 0 (pos 7)) ∷ []) [] None
    ∷ turn_of 0 (Act main_id 5 (Print (pos 7)) ∷ []) [] None
    ∷ turn_of 0 (Act main_id 6 Sync ∷ []) [] None
    ∷ ended_at 0 Finished ∷ []

pub record TwoAdds : Type 0 where
  pub alone : (limits : IsWithinLimits 1 16 64 2000000) → IsRun (adders_with 1 2000000 limits) own_adds_log
  pub two_nodes : (limits : IsWithinLimits 2 16 64 1000000) → IsRun (adders_with 2 1000000 limits) two_adds_log
