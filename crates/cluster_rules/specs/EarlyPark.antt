-- A log on two nodes that was worked out by hand: `main` waits at its join while the child that it was stolen from still runs. The value of its
-- other child, which returned on the same node, is kept for the sync.
use Rattle.std.specs.Prelude.{pos, true, Some, None, List, [], ◌∷◌, ◌++◌, replicate}
use Rattle.cilk_meaning.specs.declared.ends.NodeEnd.TheVariants.{Finished}
use Rattle.machine_code.specs.Machine.{Code}
use Rattle.machine_code.specs.declared.instr.Instr.TheVariants.{Const, Load, Store, Sub, Gt, Jump, JumpIfZero, PrintTop, Turn as LoopTurn, Spawn as SpawnProcedure, SyncAll, Return}
use Rattle.page_words.specs.Limits.{IsWithinLimits}
use Rattle.page_messages.specs.declared.post.Note.TheVariants as note
use Rattle.page_messages.specs.declared.log.LoggedAct.TheVariants.{Print, Spawn, Sync}
use Rattle.page_messages.specs.declared.log.Item.TheVariants.{Act, Tick, TakeUp}
use Rattle.page_messages.specs.declared.log.Turn.{Turn}
use Rattle.cluster_rules.specs.Lives.{main_id}
use Rattle.cluster_rules.specs.Runs.{IsRun}
use Rattle.cluster_rules.specs.Cases.{turn_of, ended_at, to, place_of_first, frame, join}
use Rattle.cluster_rules.specs.TwoWriters.{pair_with}

-- cilk void say(int v, int n) { while (n > 0) n--; print(v); }
-- cilk int main() { spawn say(1, 200); spawn say(2, 0); sync; print(3); return 0; }
abbrev pub speakers : Code
speakers = record {
  procs =
      record { «cilk» = true; start = 0; params = 2; locals = 2; operands = 2 }
      ∷ record { «cilk» = true; start = 15; params = 0; locals = 0; operands = 2 } ∷ [];
  instrs =
      LoopTurn ∷ Load 1 ∷ Const (pos 0) ∷ Gt ∷ JumpIfZero 10 ∷ Load 1 ∷ Const (pos 1) ∷ Sub ∷ Store 1 ∷ Jump 0
      ∷ Load 0 ∷ PrintTop ∷ SyncAll ∷ Const (pos 0) ∷ Return
      ∷ Const (pos 1) ∷ Const (pos 200) ∷ SpawnProcedure 0 None
      ∷ Const (pos 2) ∷ Const (pos 0) ∷ SpawnProcedure 0 None ∷ SyncAll
      ∷ Const (pos 3) ∷ PrintTop ∷ SyncAll ∷ Const (pos 0) ∷ Return ∷ SyncAll ∷ Const (pos 0) ∷ Return ∷ [];
  shared = [];
  main = 1;
  input_base = 0;
  input = [];
}

abbrev pub speakers_log : List Turn
speakers_log =
    (turn_of 0 (Act main_id 0 (Spawn (frame 0 1) 0 (pos 1 ∷ pos 200 ∷ [])) ∷ []) [] None
    ∷ turn_of 1 [] (to 0 note.Ask ∷ []) None
    ∷ turn_of 0 (Tick (frame 0 1) ∷ []) [] (place_of_first 1)
    ∷ turn_of 0 [] (to 1 (note.Grant main_id) ∷ []) None
    ∷ turn_of 1 [] [] (place_of_first 3)
    ∷ turn_of 0 (Tick (frame 0 1) ∷ []) [] None
    ∷ turn_of 1 (TakeUp main_id ∷ []) [] None
    ∷ turn_of 0 (Tick (frame 0 1) ∷ []) [] None
    ∷ turn_of 1 (Act main_id 1 (Spawn (frame 1 0) 0 (pos 2 ∷ pos 0 ∷ [])) ∷ []) [] None
    ∷ turn_of 0 (Tick (frame 0 1) ∷ []) [] None
    ∷ turn_of 1 (Tick (frame 1 0) ∷ []) [] None
    ∷ turn_of 0 (Tick (frame 0 1) ∷ []) [] None
    ∷ turn_of 1 (Act (frame 1 0) 0 (Print (pos 2)) ∷ []) [] None
    ∷ turn_of 0 (Tick (frame 0 1) ∷ []) [] None
    ∷ turn_of 1 (Act (frame 1 0) 1 Sync ∷ []) [] None
    ∷ turn_of 0 (Tick (frame 0 1) ∷ []) [] None
    ∷ turn_of 0 (Tick (frame 0 1) ∷ []) [] None
    ∷ turn_of 1 [] (to 0 (note.Park (join 0 0) main_id) ∷ []) None
    ∷ turn_of 0 (Tick (frame 0 1) ∷ []) [] (place_of_first 17)
    ∷ turn_of 1 [] (to 0 note.Ask ∷ []) None
    ∷ turn_of 0 (Tick (frame 0 1) ∷ []) [] (place_of_first 19) ∷ [])
    ++ replicate 191 (turn_of 0 (Tick (frame 0 1) ∷ []) [] None)
    ++ (turn_of 0 (Act (frame 0 1) 0 (Print (pos 1)) ∷ []) [] None
    ∷ turn_of 0 (Act (frame 0 1) 1 Sync ∷ []) [] None
    ∷ turn_of 0 [] (to 0 (note.Done (join 0 0) 0 (pos 0)) ∷ to 1 note.Refuse ∷ []) None
    ∷ turn_of 1 [] [] (Some (record { turn = 214; index = 1 }))
    ∷ turn_of 0 [] (to 1 note.Ask ∷ []) (place_of_first 214)
    ∷ turn_of 1 [] (to 0 note.Ask ∷ []) (place_of_first 216)
    ∷ turn_of 0 (TakeUp main_id ∷ []) [] (place_of_first 217)
    ∷ turn_of 1 [] (to 0 note.Refuse ∷ []) None
    ∷ turn_of 0 (Act main_id 2 Sync ∷ []) [] (place_of_first 219)
    ∷ turn_of 0 (Act main_id 3 (Print (pos 3)) ∷ []) [] None
    ∷ turn_of 0 (Act main_id 4 Sync ∷ []) [] None
    ∷ ended_at 0 Finished ∷ [])

abbrev pub EarlyPark : Type 0
EarlyPark = (limits : IsWithinLimits 2 16 64 1000000) → IsRun (pair_with speakers limits) speakers_log
