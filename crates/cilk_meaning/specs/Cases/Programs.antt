-- Programs with calls, loops, spawns, syncs and adds: what they print, how they end, and their ticks. Beside each stands a text of the
-- same outcome: a declaration that is not looked at before it is assigned is left out of the tree, and `main` comes first.
use Rattle.std.specs.Prelude.{◌≡◌, ℕ, pos, negsuc, Some, None, [], ◌∷◌}
use Rattle.cilk_tree.specs.declared.tree.BinaryOp.TheVariants as op
use Rattle.cilk_meaning.specs.declared.ends.TrapKind.TheVariants.{DivideByZero, Overflow}
use Rattle.cilk_meaning.specs.Elision.{elision}
use Rattle.cilk_meaning.specs.Resolved.{Expr, Local, Get, Binary, Skip, Then, Assign, Put, Print, If, While, Call, Spawn, Add, Sync, Return, Program}
use Rattle.cilk_meaning.specs.World.{Event, Acts, Ticks, End, start_words, events_of}
use Rattle.cilk_meaning.specs.World as act
use Rattle.cilk_meaning.specs.Cases.Expressions.{divides, overflows}
use Rattle.cilk_meaning.specs.Cases.Words.{number, procedure, plain, program, plain_main, run, outcome, outcome_of, finishes, traps, spends}

-- cilk int main() { }
abbrev pub nothing : Program
nothing = program 0 (procedure 0 0 [] ∷ [])

-- cilk int fib(int n) { int x, y; if (n < 2) return n; x = spawn fib(n - 1); y = spawn fib(n - 2); sync; return x + y; }
-- cilk int main() { int r; r = spawn fib(N); sync; print(r); return 0; }
abbrev pub fib : ℕ → Program
fib n = program 0 (
    procedure 0 1 (Spawn (Some 0) 1 (number n ∷ []) ∷ Sync ∷ Print (Local 0) ∷ Return (number 0) ∷ []) ∷
    procedure 1 3 (
    If (Binary op.Lt (Local 0) (number 2)) (Return (Local 0)) Skip ∷
    Spawn (Some 1) 1 (Binary op.Sub (Local 0) (number 1) ∷ []) ∷
    Spawn (Some 2) 1 (Binary op.Sub (Local 0) (number 2) ∷ []) ∷
    Sync ∷
    Return (Binary op.Add (Local 1) (Local 2)) ∷ []) ∷ [])

-- int a[1]; cilk int look() { return a[0]; }
-- cilk int main() { int x, y; x = spawn look(); y = spawn look(); sync; a[0] = 1; x = spawn look(); y = a[0]; sync; print(x + y); return 0; }
abbrev pub looks : Program
looks = program 1 (
    procedure 0 2 (
    Spawn (Some 0) 1 [] ∷ Spawn (Some 1) 1 [] ∷ Sync ∷
    Put 0 (number 0) (number 1) ∷
    Spawn (Some 0) 1 [] ∷ Assign 1 (Get 0 (number 0)) ∷ Sync ∷
    Print (Binary op.Add (Local 0) (Local 1)) ∷ Return (number 0) ∷ []) ∷
    procedure 0 0 (Return (Get 0 (number 0)) ∷ []) ∷ [])

-- int a[1]; cilk void put(int v) { a[0] = v; }
-- cilk int main() { spawn put(1); spawn put(2); sync; print(a[0]); return 0; }
abbrev pub puts : Program
puts = program 1 (
    procedure 0 0 (Spawn None 1 (number 1 ∷ []) ∷ Spawn None 1 (number 2 ∷ []) ∷ Sync ∷ Print (Get 0 (number 0)) ∷ Return (number 0) ∷ []) ∷
    procedure 1 1 (Put 0 (number 0) (Local 0) ∷ []) ∷ [])

-- int a[1]; cilk int look() { return a[0]; }
-- cilk int main() { int x, y; x = spawn look(); y = spawn look(); sync; a[0] = x + y + 1; print(a[0]); return 0; }
abbrev pub counts : Program
counts = program 1 (
    procedure 0 2 (
    Spawn (Some 0) 1 [] ∷ Spawn (Some 1) 1 [] ∷ Sync ∷
    Put 0 (number 0) (Binary op.Add (Binary op.Add (Local 0) (Local 1)) (number 1)) ∷
    Print (Get 0 (number 0)) ∷ Return (number 0) ∷ []) ∷
    procedure 0 0 (Return (Get 0 (number 0)) ∷ []) ∷ [])

-- cilk void say(int v, int n) { while (n > 0) n--; print(v); }
-- cilk int main() { spawn say(1, 200); spawn say(2, 0); sync; print(3); return 0; }
abbrev pub says : Program
says = program 0 (
    procedure 0 0 (
    Spawn None 1 (number 1 ∷ number 200 ∷ []) ∷ Spawn None 1 (number 2 ∷ number 0 ∷ []) ∷ Sync ∷ Print (number 3) ∷ Return (number 0) ∷ []) ∷
    procedure 2 2 (
    While (Binary op.Gt (Local 1) (number 0)) (Assign 1 (Binary op.Sub (Local 1) (number 1))) ∷ Print (Local 0) ∷ []) ∷ [])

-- int a[1]; cilk int one(int v) { int x; x = fetch_add(a[0], v); return x; }
-- cilk int main() { int x, y; x = spawn one(3); y = spawn one(4); sync; print(x + y); print(a[0]); return 0; }
abbrev pub adds : Program
adds = program 1 (
    procedure 0 2 (
    Spawn (Some 0) 1 (number 3 ∷ []) ∷ Spawn (Some 1) 1 (number 4 ∷ []) ∷ Sync ∷
    Print (Binary op.Add (Local 0) (Local 1)) ∷ Print (Get 0 (number 0)) ∷ Return (number 0) ∷ []) ∷
    procedure 1 2 (Add (Some 1) 0 (number 0) (Local 0) ∷ Return (Local 1) ∷ []) ∷ [])

-- int a[2]; int main() { int x; a[0] = 9223372036854775807; x = fetch_add(a[0], 1); print(x); }
abbrev pub add_overflows : Program
add_overflows = plain_main 1 (Put 0 (number 0) (number 9223372036854775807) ∷ Add (Some 0) 0 (number 0) (number 1) ∷ Print (Local 0) ∷ [])

-- int a[2]; int main() { fetch_add(a[1], 5); fetch_add(a[1], -7); print(a[1]); fetch_add(a[2], 1 / 0); }
abbrev pub add_alone : Program
add_alone = plain_main 0 (
    Add None 0 (number 1) (number 5) ∷ Add None 0 (number 1) (Binary op.Sub (number 0) (number 7)) ∷ Print (Get 0 (number 1)) ∷
    Add None 0 (number 2) (Binary op.Div (number 1) (number 0)) ∷ [])

-- int g(int x) { return x + 1; } int f(int x) { int y; y = g(x); return y * 2; }
-- int main() { int r; r = f(4); f(0); print(r); }
abbrev pub nested : Program
nested = program 0 (
    plain 0 1 (Call (Some 0) 1 (number 4 ∷ []) ∷ Call None 1 (number 0 ∷ []) ∷ Print (Local 0) ∷ []) ∷
    plain 1 2 (Call (Some 1) 2 (Local 0 ∷ []) ∷ Return (Binary op.Mul (Local 1) (number 2)) ∷ []) ∷
    plain 1 1 (Return (Binary op.Add (Local 0) (number 1)) ∷ []) ∷ [])

-- cilk int first() { int i; while (1) { i = i + 1; if (i == 3) return i; } }
-- cilk int main() { int x; x = spawn first(); sync; print(x); return 0; }
abbrev pub returns_in_loop : Program
returns_in_loop = program 0 (
    procedure 0 1 (Spawn (Some 0) 1 [] ∷ Sync ∷ Print (Local 0) ∷ Return (number 0) ∷ []) ∷
    procedure 0 1 (
    While (number 1) (Then (Assign 0 (Binary op.Add (Local 0) (number 1))) (If (Binary op.Eq (Local 0) (number 3)) (Return (Local 0)) Skip)) ∷ []) ∷ [])

-- cilk int seven() { return 7; } cilk int twice() { int x; x = spawn seven(); return x * 2; }
-- cilk int main() { int x; x = spawn twice(); sync; print(x); return 0; }
abbrev pub returns_synced : Program
returns_synced = program 0 (
    procedure 0 1 (Spawn (Some 0) 1 [] ∷ Sync ∷ Print (Local 0) ∷ Return (number 0) ∷ []) ∷
    procedure 0 1 (Spawn (Some 0) 2 [] ∷ Return (Binary op.Mul (Local 0) (number 2)) ∷ []) ∷
    procedure 0 0 (Return (number 7) ∷ []) ∷ [])

-- cilk int none() { } int zero() { }
-- cilk int main() { int x, y; x = 5; y = 6; x = spawn none(); sync; y = zero(); print(x); print(y); }
abbrev pub gives_zero : Program
gives_zero = program 0 (
    procedure 0 2 (
    Assign 0 (number 5) ∷ Assign 1 (number 6) ∷ Spawn (Some 0) 1 [] ∷ Sync ∷ Call (Some 1) 2 [] ∷ Print (Local 0) ∷ Print (Local 1) ∷ []) ∷
    procedure 0 0 [] ∷ plain 0 0 [] ∷ [])

-- int input[4]; int main() { int i, s; for (i = 0; i < 4; i++) s += input[i]; print(s); return 0; }
abbrev pub sums : Program
sums = program 4 (plain 0 2 (
    Assign 0 (number 0) ∷
    While (Binary op.Lt (Local 0) (number 4)) (Then (Assign 1 (Binary op.Add (Local 1) (Get 0 (Local 0)))) (Assign 0 (Binary op.Add (Local 0) (number 1)))) ∷
    Print (Local 1) ∷ Return (number 0) ∷ []) ∷ [])

-- int a[2]; int main() { print(4); print(1 / 0); }
abbrev pub prints_and_traps : Program
prints_and_traps = plain_main 0 (Print (number 4) ∷ Print (Binary op.Div (number 1) (number 0)) ∷ [])

-- int a[2], input[3]; int main() { print(a[1]); print(input[0]); print(input[2]); }
abbrev pub input_behind_array : Program
input_behind_array = record {
  shared = record { base = 0; words = 2 } ∷ record { base = 2; words = 3 } ∷ [];
  functions = plain 0 0 (Print (Get 0 (number 1)) ∷ Print (Get 1 (number 0)) ∷ Print (Get 1 (number 2)) ∷ []) ∷ [];
  main = 0;
}

-- int a[2]; int main() { print(a[0] - a[1]); }
abbrev pub reads_twice : Program
reads_twice = plain_main 0 (Print (Binary op.Sub (Get 0 (number 0)) (Get 0 (number 1))) ∷ [])

-- int a[2]; int main() { int i; while (i < 1) i++; print(i); }
abbrev pub turns_once : Program
turns_once = plain_main 1 (While (Binary op.Lt (Local 0) (number 1)) (Assign 0 (Binary op.Add (Local 0) (number 1))) ∷ Print (Local 0) ∷ [])

-- int f(int x, int y) { } int main() { f(e, e'); }
abbrev pub calls_with : Expr → Expr → Program
calls_with e e' = program 0 (plain 0 0 (Call None 1 (e ∷ e' ∷ []) ∷ []) ∷ plain 2 2 [] ∷ [])

-- cilk void f(int x, int y) { } cilk int main() { spawn f(e, e'); }
abbrev pub spawns_with : Expr → Expr → Program
spawns_with e e' = program 0 (procedure 0 0 (Spawn None 1 (e ∷ e' ∷ []) ∷ []) ∷ procedure 2 2 [] ∷ [])

pub record SpawnCases : Type 0 where
  -- a sync at the end of the body
  pub nothing_finishes : outcome nothing 1 ≡ finishes [] 1
  pub nothing_spends : outcome nothing 0 ≡ spends [] 0
  -- five leaves with one sync, four others with two spawns and two syncs, four ticks of main
  pub fib_of_four : outcome (fib 4) 25 ≡ finishes (pos 3 ∷ []) 25
  pub fib_of_four_spends : outcome (fib 4) 24 ≡ spends (pos 3 ∷ []) 24
  -- 89 leaves, 88 others
  pub fib_of_ten : outcome (fib 10) 445 ≡ finishes (pos 55 ∷ []) 445
  pub fib_of_ten_spends : outcome (fib 10) 444 ≡ spends (pos 55 ∷ []) 444
  -- Each of three children reads and syncs; main spawns three times, writes, reads, prints, and syncs three times.
  pub looks_twice : outcome looks 100 ≡ finishes (pos 2 ∷ []) 15
  pub last_put_stays : outcome puts 100 ≡ finishes (pos 2 ∷ []) 10
  pub counts_looks : outcome counts 100 ≡ finishes (pos 1 ∷ []) 11
  -- 201 tests of the first child's loop and one of the second's
  pub says_in_order : outcome says 1000 ≡ finishes (pos 1 ∷ pos 2 ∷ pos 3 ∷ []) 211
  -- the sync stands before the expression
  pub returns_after_sync : outcome returns_synced 100 ≡ finishes (pos 14 ∷ []) 7
  pub first_argument_first : outcome (spawns_with divides overflows) 100 ≡ traps DivideByZero [] 0
  pub second_argument_second : outcome (spawns_with overflows divides) 100 ≡ traps Overflow [] 0
  pub bodies_give_zero : outcome gives_zero 100 ≡ finishes (pos 0 ∷ pos 0 ∷ []) 7

-- The events of `puts`, in order: a row is numbered as it starts, and a child's events stand directly behind its spawn.
pub record LogCases : Type 0 where
  pub puts_in_order : events_of (run puts 100) ≡
      Acts 0 (act.Spawn 1 1 (pos 1 ∷ [])) ∷ Acts 1 (act.Write 0 (pos 1)) ∷ Acts 1 act.Sync ∷
      Acts 0 (act.Spawn 2 1 (pos 2 ∷ [])) ∷ Acts 2 (act.Write 0 (pos 2)) ∷ Acts 2 act.Sync ∷
      Acts 0 act.Sync ∷ Acts 0 (act.Read 0 (pos 2)) ∷ Acts 0 (act.Print (pos 2)) ∷ Acts 0 act.Sync ∷ []
  pub adds_in_order : events_of (run adds 100) ≡
      Acts 0 (act.Spawn 1 1 (pos 3 ∷ [])) ∷ Acts 1 (act.Add 0 (pos 0) (pos 3)) ∷ Acts 1 act.Sync ∷
      Acts 0 (act.Spawn 2 1 (pos 4 ∷ [])) ∷ Acts 2 (act.Add 0 (pos 3) (pos 4)) ∷ Acts 2 act.Sync ∷
      Acts 0 act.Sync ∷ Acts 0 (act.Print (pos 3)) ∷ Acts 0 (act.Read 0 (pos 7)) ∷ Acts 0 (act.Print (pos 7)) ∷ Acts 0 act.Sync ∷ []
  pub calls_in_order : events_of (run nested 100) ≡ Ticks 0 ∷ Ticks 0 ∷ Ticks 0 ∷ Ticks 0 ∷ Acts 0 (act.Print (pos 10)) ∷ []
  -- A loop's test that fails is an event too.
  pub tests_in_order : events_of (run turns_once 100) ≡ Ticks 0 ∷ Ticks 0 ∷ Acts 0 (act.Print (pos 1)) ∷ []
  pub reads_in_order : events_of (elision reads_twice (start_words 0 (pos 7 ∷ pos 2 ∷ [])) 100) ≡
      Acts 0 (act.Read 0 (pos 7)) ∷ Acts 0 (act.Read 1 (pos 2)) ∷ Acts 0 (act.Print (pos 5)) ∷ []

pub record CallCases : Type 0 where
  -- four plain calls and a print
  pub calls_nest : outcome nested 100 ≡ finishes (pos 10 ∷ []) 5
  -- three tests, the child's sync, and four ticks of main
  pub returns_from_loop : outcome returns_in_loop 100 ≡ finishes (pos 3 ∷ []) 8
  pub input_is_summed : outcome_of (elision sums (start_words 0 (pos 10 ∷ negsuc 2 ∷ pos 5 ∷ [])) 100) ≡ finishes (pos 12 ∷ []) 10
  -- Words before the input's first and behind its last number start at 0.
  pub input_from_its_base : outcome_of (elision input_behind_array (start_words 2 (pos 5 ∷ pos 6 ∷ [])) 100) ≡ finishes (pos 0 ∷ pos 5 ∷ pos 0 ∷ []) 6
  pub no_input : outcome sums 100 ≡ finishes (pos 0 ∷ []) 10
  -- Arguments are evaluated from left to right.
  pub first_argument_first : outcome (calls_with divides overflows) 100 ≡ traps DivideByZero [] 0
  pub second_argument_second : outcome (calls_with overflows divides) 100 ≡ traps Overflow [] 0
  pub trap_after_print : outcome prints_and_traps 100 ≡ traps DivideByZero (pos 4 ∷ []) 1
  -- with its last tick spent on the print, it traps all the same
  pub trap_before_budget : outcome prints_and_traps 1 ≡ traps DivideByZero (pos 4 ∷ []) 1

pub record AddCases : Type 0 where
  pub adds_give_olds : outcome adds 100 ≡ finishes (pos 3 ∷ pos 7 ∷ []) 11
  pub addends_before_test : outcome add_alone 100 ≡ traps DivideByZero (negsuc 1 ∷ []) 4
  -- The add is made and counted, the word stays, and then the instance traps.
  pub sum_overflows : outcome add_overflows 100 ≡ traps Overflow [] 2
  pub word_stays : (run add_overflows 100).world.memory 0 ≡ pos 9223372036854775807
  pub overflow_is_logged : events_of (run add_overflows 100) ≡
      Acts 0 (act.Write 0 (pos 9223372036854775807)) ∷ Acts 0 (act.Add 0 (pos 9223372036854775807) (pos 1)) ∷ []
  pub last_tick_is_add : outcome add_overflows 2 ≡ traps Overflow [] 2
  pub no_tick_for_add : outcome add_overflows 1 ≡ spends [] 1
