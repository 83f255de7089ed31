-- What an instance may want, and how it may be answered.
use Rattle.std.specs.Prelude.{ℕ, ℤ, Bool, true, false, Option, List}
use Rattle.cilk_meaning.specs.declared.ends.TrapKind.{TrapKind}

-- What costs one tick when it is answered. A spawn has its target, its procedure and its arguments; a Call is a plain call, and a
-- LoopTurn a test of a loop.
pub data Request : Type 0 where
  Read : (word : ℕ) → Request
  Write : (word : ℕ) (value : ℤ) → Request
  Add : (word : ℕ) (addend : ℤ) → Request
  Print : (value : ℤ) → Request
  Spawn : (target : Option ℕ) (procedure : ℕ) (arguments : List ℤ) → Request
  Sync : Request
  Call : Request
  LoopTurn : Request

-- The last two end the instance and cost nothing.
pub data Want : Type 0 where
  Asks : (request : Request) → Want
  Returns : (value : ℤ) → Want
  Traps : (kind : TrapKind) → Want

-- what a child gives back: where its value goes, and the value
abbrev pub Deposit : Type 0
Deposit = Option ℕ × ℤ

-- A read is answered by the word's value and an add by its old one, a sync by what the children of its block give back, in the order of
-- their spawns, and every other request by Done.
pub data Answer : Type 0 where
  Value : (value : ℤ) → Answer
  Children : (deposits : List Deposit) → Answer
  Done : Answer

-- the answer is of the kind that the request gets
abbrev pub suits : Request → Answer → Bool
suits (Read word) (Value value) = true
suits (Add word addend) (Value value) = true
suits Sync (Children deposits) = true
suits (Write word value) Done = true
suits (Print value) Done = true
suits (Spawn target procedure arguments) Done = true
suits Call Done = true
suits LoopTurn Done = true
suits _ _ = false
