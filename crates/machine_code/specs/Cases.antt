-- Small codes and what they want, worked out from the rules in words.
use Rattle.std.specs.Prelude.{◌≡◌, ℕ, ℤ, pos, neg_ℤ, true, false, Option, Some, None, List, [], ◌∷◌, ◌++◌, drop, replicate}
use Rattle.cilk_meaning.specs.declared.ends.TrapKind.TheVariants.{DivideByZero, IndexOutOfRange, Overflow, TooDeep}
use Rattle.cilk_meaning.specs.Wants as want
use Rattle.cilk_meaning.specs.Wants.{Want, Asks, Returns, Traps, Answer, Value, Children, Done}
use Rattle.machine_code.specs.Early.{Event, Steps, Answered, Receives, Run, after_events, start_run}
use Rattle.machine_code.specs.Machine.{Code, wants, starts}
use Rattle.machine_code.specs.StandsFor.{start_words_of}
use Rattle.machine_code.specs.declared.code.Proc.{Proc}
use Rattle.machine_code.specs.declared.instr.Instr.{Instr}
use Rattle.machine_code.specs.declared.instr.Instr.TheVariants.{Const, Load, Store, Pop, Add, Sub, Mul, Div, Rem, Neg, Not, Eq, Ne, Lt, Le, Gt, Ge, Jump, JumpIfZero, ReadShared, WriteShared, AddShared, PrintTop, Turn, Call, Spawn, SyncAll, Return}

-- the greatest value and the least
abbrev most : ℤ
most = pos 9223372036854775807

abbrev least : ℤ
least = neg_ℤ (pos 9223372036854775808)

-- Procedure 0 is a `cilk` procedure with two locals, at place 0. Procedure 1 is a plain function of two parameters at place 20, which
-- gives the first less the second. Procedure 2 is a plain function at place 30 that calls itself. Array 0 has the words 0 and 1, and
-- array 1 the words 2, 3 and 4; the words 1 and 2 start with 8 and 9.
abbrev procs : List Proc
procs =
    record { «cilk» = true; start = 0; params = 0; locals = 2; operands = 4 }
    ∷ record { «cilk» = false; start = 20; params = 2; locals = 2; operands = 2 }
    ∷ record { «cilk» = false; start = 30; params = 0; locals = 0; operands = 1 } ∷ []

-- these instructions, with others behind them up to a place
abbrev filled : ℕ → List Instr → List Instr → List Instr
filled count instrs rest = instrs ++ (replicate count Pop ++ rest)

-- the code whose procedure 0 is these instructions, and so many more to fill 20 places
abbrev code : ℕ → List Instr → Code
code more instrs = record {
  procs = procs;
  instrs = filled more instrs (filled 6 (Load 0 ∷ Load 1 ∷ Sub ∷ Return ∷ []) (Call 2 ∷ Return ∷ []));
  shared = record { base = 0; words = 2 } ∷ record { base = 2; words = 3 } ∷ [];
  main = 0;
  input_base = 1;
  input = pos 8 ∷ pos 9 ∷ [];
}

-- what procedure 0 wants
abbrev run : ℕ → List Instr → List Answer → List Want
run more instrs answers = starts (code more instrs) 0 0 [] answers

-- what it wants that prints a value made of two others, and of one
abbrev of_two : ℤ → ℤ → Instr → List Want
of_two x y operator = run 14 (Const x ∷ Const y ∷ operator ∷ PrintTop ∷ Const (pos 0) ∷ Return ∷ []) (Done ∷ [])

abbrev of_one : ℤ → Instr → List Want
of_one x operator = run 15 (Const x ∷ operator ∷ PrintTop ∷ Const (pos 0) ∷ Return ∷ []) (Done ∷ [])

-- a value is printed, and then 0 is returned
abbrev prints : ℤ → List Want
prints v = Asks (want.Print v) ∷ Returns (pos 0) ∷ []

-- The left operand is below the right one.
pub record OperatorCases : Type 0 where
  pub add : of_two (pos 3) (pos 4) Add ≡ prints (pos 7)
  pub add_most : of_two most (pos 0) Add ≡ prints most
  pub add_too_much : of_two most (pos 1) Add ≡ Traps Overflow ∷ []
  pub sub : of_two (pos 7) (pos 2) Sub ≡ prints (pos 5)
  pub sub_least : of_two (neg_ℤ (pos 9223372036854775807)) (pos 1) Sub ≡ prints least
  pub sub_too_much : of_two least (pos 1) Sub ≡ Traps Overflow ∷ []
  pub mul : of_two (neg_ℤ (pos 6)) (pos 7) Mul ≡ prints (neg_ℤ (pos 42))
  pub mul_too_much : of_two (pos 3037000500) (pos 3037000500) Mul ≡ Traps Overflow ∷ []
  pub mul_just : of_two (pos 3037000499) (pos 3037000499) Mul ≡ prints (pos 9223372030926249001)
  pub div : of_two (neg_ℤ (pos 7)) (pos 2) Div ≡ prints (neg_ℤ (pos 3))
  pub div_zero : of_two (pos 7) (pos 0) Div ≡ Traps DivideByZero ∷ []
  pub div_least : of_two least (neg_ℤ (pos 1)) Div ≡ Traps Overflow ∷ []
  pub div_next : of_two (neg_ℤ (pos 9223372036854775807)) (neg_ℤ (pos 1)) Div ≡ prints most
  pub rem : of_two (neg_ℤ (pos 7)) (pos 2) Rem ≡ prints (neg_ℤ (pos 1))
  pub rem_zero : of_two (pos 7) (pos 0) Rem ≡ Traps DivideByZero ∷ []
  pub rem_least : of_two least (neg_ℤ (pos 1)) Rem ≡ prints (pos 0)
  pub neg : of_one (pos 5) Neg ≡ prints (neg_ℤ (pos 5))
  pub neg_least : of_one least Neg ≡ Traps Overflow ∷ []
  pub not_zero : of_one (pos 0) Not ≡ prints (pos 1)
  pub not_other : of_one (neg_ℤ (pos 2)) Not ≡ prints (pos 0)
  pub eq : of_two (pos 2) (pos 2) Eq ≡ prints (pos 1)
  pub ne : of_two (pos 2) (pos 2) Ne ≡ prints (pos 0)
  pub lt : of_two (neg_ℤ (pos 1)) (pos 0) Lt ≡ prints (pos 1)
  pub lt_equal : of_two (pos 2) (pos 2) Lt ≡ prints (pos 0)
  pub le_equal : of_two (pos 2) (pos 2) Le ≡ prints (pos 1)
  pub le_greater : of_two (pos 3) (pos 2) Le ≡ prints (pos 0)
  pub gt : of_two (pos 3) (pos 2) Gt ≡ prints (pos 1)
  pub gt_equal : of_two (pos 2) (pos 2) Gt ≡ prints (pos 0)
  pub ge_equal : of_two (pos 2) (pos 2) Ge ≡ prints (pos 1)
  pub ge_less : of_two (pos 1) (pos 2) Ge ≡ prints (pos 0)

-- a value from an array is printed, or stored, or added to
abbrev reading : ℕ → ℤ → List Answer → List Want
reading array index answers = run 15 (Const index ∷ ReadShared array ∷ PrintTop ∷ Const (pos 0) ∷ Return ∷ []) answers

abbrev writing : ℤ → List Instr → ℕ → List Want
writing index value more = run more (Const index ∷ (value ++ WriteShared 0 ∷ Const (pos 0) ∷ Return ∷ [])) (Done ∷ [])

abbrev adding : ℤ → List Answer → List Want
adding addend answers = run 14 (Const (pos 1) ∷ Const addend ∷ AddShared 1 ∷ PrintTop ∷ Const (pos 0) ∷ Return ∷ []) answers

-- Arrays lie one behind another; the value or addend is above the index, which is tested last.
pub record WordCases : Type 0 where
  pub read : reading 1 (pos 2) (Value (pos 9) ∷ Done ∷ []) ≡ Asks (want.Read 4) ∷ prints (pos 9)
  pub read_first : reading 1 (pos 0) [] ≡ Asks (want.Read 2) ∷ []
  pub read_behind : reading 1 (pos 3) [] ≡ Traps IndexOutOfRange ∷ []
  pub read_before : reading 1 (neg_ℤ (pos 1)) [] ≡ Traps IndexOutOfRange ∷ []
  pub read_done : reading 1 (pos 0) (Done ∷ []) ≡ Asks (want.Read 2) ∷ []
  pub write : writing (pos 1) (Const (pos 42) ∷ []) 15 ≡ Asks (want.Write 1 (pos 42)) ∷ Returns (pos 0) ∷ []
  pub write_behind : writing (pos 2) (Const (pos 42) ∷ []) 15 ≡ Traps IndexOutOfRange ∷ []
  pub write_value_first : writing (pos 2) (Const (pos 1) ∷ Const (pos 0) ∷ Div ∷ []) 13 ≡ Traps DivideByZero ∷ []
  pub add : adding (pos 5) (Value (pos 10) ∷ Done ∷ []) ≡ Asks (want.Add 3 (pos 5)) ∷ prints (pos 10)
  pub add_most : adding (pos 5) (Value (pos 9223372036854775802) ∷ Done ∷ []) ≡ Asks (want.Add 3 (pos 5)) ∷ prints (pos 9223372036854775802)
  pub add_too_much : adding (pos 5) (Value (pos 9223372036854775803) ∷ Done ∷ []) ≡ Asks (want.Add 3 (pos 5)) ∷ Traps Overflow ∷ []
  pub starts : (start_words_of (code 0 []) 0 ≡ pos 0) × (start_words_of (code 0 []) 1 ≡ pos 8) × (start_words_of (code 0 []) 2 ≡ pos 9) × (start_words_of (code 0 []) 3 ≡ pos 0)

-- goes on at another place, or not
abbrev testing : ℤ → List Want
testing v = run 12 (Const v ∷ JumpIfZero 4 ∷ Const (pos 1) ∷ Jump 5 ∷ Const (pos 2) ∷ PrintTop ∷ Const (pos 0) ∷ Return ∷ []) (Done ∷ [])

-- Control, locals and calls.
pub record ControlCases : Type 0 where
  pub at_zero : testing (pos 0) ≡ prints (pos 2)
  pub at_other : testing (neg_ℤ (pos 3)) ≡ prints (pos 1)
  pub locals : run 13 (Const (pos 6) ∷ Store 1 ∷ Load 1 ∷ Load 0 ∷ Pop ∷ PrintTop ∷ Turn ∷ []) (Done ∷ []) ≡ Asks (want.Print (pos 6)) ∷ Asks want.LoopTurn ∷ []
  -- the arguments are taken off, what is below them stays, and the value is pushed
  pub call : run 12 (Const (pos 100) ∷ Const (pos 7) ∷ Const (pos 2) ∷ Call 1 ∷ Add ∷ PrintTop ∷ Const (pos 0) ∷ Return ∷ []) (Done ∷ Done ∷ []) ≡ Asks want.Call ∷ prints (pos 105)
  -- 4,096 plain calls may be open
  pub call_deep : drop 4095 (run 17 (Call 2 ∷ Const (pos 0) ∷ Return ∷ []) (replicate 4095 Done)) ≡ Asks want.Call ∷ []
  pub call_too_deep : drop 4096 (run 17 (Call 2 ∷ Const (pos 0) ∷ Return ∷ []) (replicate 4096 Done)) ≡ Traps TooDeep ∷ []
  pub returns : run 18 (Const (pos 4) ∷ Return ∷ []) [] ≡ Returns (pos 4) ∷ []

-- a spawn at this depth
abbrev spawning : ℕ → List Answer → List Want
spawning depth answers =
    starts (code 12 (Const (pos 7) ∷ Const (pos 2) ∷ Spawn 1 (Some 0) ∷ SyncAll ∷ Load 0 ∷ PrintTop ∷ Const (pos 0) ∷ Return ∷ [])) depth 0 [] answers

-- the code of a spawn, and a plain call between it and its sync, which gives 9
abbrev waiting : Code
waiting = code 10 (Spawn 0 (Some 1) ∷ Const (pos 10) ∷ Const (pos 1) ∷ Call 1 ∷ PrintTop ∷ SyncAll ∷ Load 1 ∷ PrintTop ∷ Const (pos 0) ∷ Return ∷ [])

-- what it wants behind some events
abbrev wants_behind : Option Run → List Answer → List Want
wants_behind None answers = []
wants_behind (Some run) answers = wants waiting run.frame answers

abbrev behind : List Event → List Answer → List Want
behind events answers = wants_behind (after_events waiting events (start_run (record { «cilk» = true; start = 0; params = 0; locals = 2; operands = 4 }) [] 0)) answers

-- Spawns, syncs, and values that come early.
pub record SpawnCases : Type 0 where
  pub spawn : spawning 0 (Done ∷ Children ((Some 0, pos 5) ∷ []) ∷ Done ∷ []) ≡ Asks (want.Spawn (Some 0) 1 (pos 7 ∷ pos 2 ∷ [])) ∷ Asks want.Sync ∷ prints (pos 5)
  pub no_child : spawning 0 (Done ∷ Children [] ∷ Done ∷ []) ≡ Asks (want.Spawn (Some 0) 1 (pos 7 ∷ pos 2 ∷ [])) ∷ Asks want.Sync ∷ prints (pos 0)
  pub deep : spawning 4095 [] ≡ Asks (want.Spawn (Some 0) 1 (pos 7 ∷ pos 2 ∷ [])) ∷ []
  pub too_deep : spawning 4096 [] ≡ Traps TooDeep ∷ []
  -- a value that comes while the plain call is open goes to the frame's own function
  pub early : behind (Answered Done ∷ Steps ∷ Steps ∷ Answered Done ∷ Receives 1 (pos 3) ∷ []) (Done ∷ Children [] ∷ Done ∷ []) ≡ Asks (want.Print (pos 9)) ∷ Asks want.Sync ∷ prints (pos 3)
  -- at the sync it is the same
  pub late : behind (Answered Done ∷ Steps ∷ Steps ∷ Answered Done ∷ []) (Done ∷ Children ((Some 1, pos 3) ∷ []) ∷ Done ∷ []) ≡ Asks (want.Print (pos 9)) ∷ Asks want.Sync ∷ prints (pos 3)
  -- no value comes for a local that waits for none
  pub unasked : after_events waiting (Answered Done ∷ Receives 0 (pos 3) ∷ []) (start_run (record { «cilk» = true; start = 0; params = 0; locals = 2; operands = 4 }) [] 0) ≡ None
