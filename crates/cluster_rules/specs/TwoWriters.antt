-- A log on two nodes that was worked out by hand: `main` is stolen twice, once from each of its children, and waits at its join. Each
-- child writes one word of the same page.
use Rattle.std.specs.Prelude.{ℕ, ℤ, pos, true, Some, None, List, [], ◌∷◌, replicate}
use Rattle.cilk_meaning.specs.declared.ends.NodeEnd.TheVariants.{Finished}
use Rattle.machine_code.specs.Machine.{Code}
use Rattle.machine_code.specs.declared.instr.Instr.TheVariants.{Const, ReadShared, WriteShared, Add, PrintTop, Spawn as SpawnProcedure, SyncAll, Return}
use Rattle.page_words.specs.Limits.{IsWithinLimits}
use Rattle.page_messages.specs.declared.parts.Part.{Part}
use Rattle.page_messages.specs.declared.post.Note.TheVariants as note
use Rattle.page_messages.specs.declared.log.LoggedAct.TheVariants.{Read, Write, Print, Spawn, Sync}
use Rattle.page_messages.specs.declared.log.Item.TheVariants.{Act, Drop, TakeUp, OwnFetch, OwnReconcile}
use Rattle.page_messages.specs.declared.log.Turn.{Turn}
use Rattle.cluster_rules.specs.Lives.{main_id}
use Rattle.cluster_rules.specs.Runs.{Cluster, IsRun}
use Rattle.cluster_rules.specs.Cases.{turn_of, ended_at, to, place_of_first, frame, join}

-- int a[2];
-- cilk void first() { a[0] = 5; }
-- cilk void second() { a[1] = 7; }
-- cilk int main() { spawn first(); spawn second(); sync; print(a[0] + a[1]); return 0; }
abbrev pub two_writers : Code
two_writers = record {
  procs =
      record { «cilk» = true; start = 0; params = 0; locals = 0; operands = 2 }
      ∷ record { «cilk» = true; start = 6; params = 0; locals = 0; operands = 2 }
      ∷ record { «cilk» = true; start = 12; params = 0; locals = 0; operands = 2 } ∷ [];
  instrs =
      Const (pos 0) ∷ Const (pos 5) ∷ WriteShared 0 ∷ SyncAll ∷ Const (pos 0) ∷ Return
      ∷ Const (pos 1) ∷ Const (pos 7) ∷ WriteShared 0 ∷ SyncAll ∷ Const (pos 0) ∷ Return
      ∷ SpawnProcedure 0 None ∷ SpawnProcedure 1 None ∷ SyncAll
      ∷ Const (pos 0) ∷ ReadShared 0 ∷ Const (pos 1) ∷ ReadShared 0 ∷ Add ∷ PrintTop
      ∷ SyncAll ∷ Const (pos 0) ∷ Return ∷ SyncAll ∷ Const (pos 0) ∷ Return ∷ [];
  shared = record { base = 0; words = 2 } ∷ [];
  main = 2;
  input_base = 0;
  input = [];
}

-- two nodes, pages of 16 words
abbrev pub pair_with : Code → IsWithinLimits 2 16 64 1000000 → Cluster
pair_with code limits = record { config = record { nodes = 2; page_words = 16; cache_pages = 64; budget = 1000000; limits = limits }; code = code }

-- a page whose words are 0 but for the first two
abbrev pub two_words : ℕ → ℕ → List ℤ
two_words first second = pos first ∷ pos second ∷ replicate 14 (pos 0)

-- page 0 with such a mask
abbrev pub sent_words : ℕ → ℕ → ℕ → Part
sent_words mask first second = record { page = 0; mask = mask; words = two_words first second }

abbrev pub two_writers_log : List Turn
two_writers_log =
    turn_of 0 (Act main_id 0 (Spawn (frame 0 1) 0 []) ∷ []) [] None
    ∷ turn_of 1 [] (to 0 note.Ask ∷ []) None
    ∷ turn_of 0 (OwnFetch 0 (two_words 0 0) ∷ []) [] (place_of_first 1)
    ∷ turn_of 0 [] (to 1 (note.Grant main_id) ∷ []) None
    ∷ turn_of 1 [] [] (place_of_first 3)
    ∷ turn_of 0 (Act (frame 0 1) 0 (Write 0 (pos 5)) ∷ []) [] None
    ∷ turn_of 1 (TakeUp main_id ∷ []) [] None
    ∷ turn_of 0 (Act (frame 0 1) 1 Sync ∷ []) [] None
    ∷ turn_of 1 (Act main_id 1 (Spawn (frame 1 0) 1 []) ∷ []) [] None
    ∷ turn_of 0 (OwnReconcile (sent_words 1 5 0) ∷ []) [] None
    ∷ turn_of 1 [] (to 0 (note.Fetch 0) ∷ []) None
    ∷ turn_of 0 [] (to 0 (note.Done (join 0 0) 0 (pos 0)) ∷ []) (place_of_first 10)
    ∷ turn_of 0 [] (to 1 (note.Page 0 (two_words 5 0)) ∷ to 1 note.Ask ∷ []) (place_of_first 11)
    ∷ turn_of 1 [] [] (place_of_first 12)
    ∷ turn_of 1 (Act (frame 1 0) 0 (Write 1 (pos 7)) ∷ []) [] (Some (record { turn = 12; index = 1 }))
    ∷ turn_of 1 [] (to 0 (note.Reconcile (sent_words 2 5 7 ∷ [])) ∷ []) None
    ∷ turn_of 0 [] [] (place_of_first 15)
    ∷ turn_of 0 [] (to 1 note.Ack ∷ []) None
    ∷ turn_of 1 [] [] (place_of_first 17)
    ∷ turn_of 1 [] (to 0 (note.Grant main_id) ∷ []) None
    ∷ turn_of 0 [] [] (place_of_first 19)
    ∷ turn_of 1 (Act (frame 1 0) 1 Sync ∷ []) [] None
    ∷ turn_of 0 (TakeUp main_id ∷ Drop 0 ∷ []) [] None
    ∷ turn_of 1 [] (to 0 (note.Done (join 0 0) 1 (pos 0)) ∷ []) None
    ∷ turn_of 0 [] (to 0 (note.Park (join 0 0) main_id) ∷ []) (place_of_first 23)
    ∷ turn_of 1 [] (to 0 note.Ask ∷ []) None
    ∷ turn_of 0 [] (to 1 note.Ask ∷ []) (place_of_first 24)
    ∷ turn_of 1 [] [] (place_of_first 26)
    ∷ turn_of 0 (TakeUp main_id ∷ []) [] (place_of_first 25)
    ∷ turn_of 1 [] (to 0 note.Refuse ∷ []) None
    ∷ turn_of 0 (Act main_id 2 Sync ∷ []) [] (place_of_first 29)
    ∷ turn_of 0 (OwnFetch 0 (two_words 5 7) ∷ []) [] None
    ∷ turn_of 0 (Act main_id 3 (Read 0 (pos 5)) ∷ []) [] None
    ∷ turn_of 0 (Act main_id 4 (Read 1 (pos 7)) ∷ []) [] None
    ∷ turn_of 0 (Act main_id 5 (Print (pos 12)) ∷ []) [] None
    ∷ turn_of 0 (Act main_id 6 Sync ∷ []) [] None
    ∷ ended_at 0 Finished ∷ []

abbrev pub TwoWriters : Type 0
TwoWriters = (limits : IsWithinLimits 2 16 64 1000000) → IsRun (pair_with two_writers limits) two_writers_log
