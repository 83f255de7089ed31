-- How deep instances may nest, and how many plain calls may be open: at the limit of the language, and at one of two.
use Rattle.std.specs.Prelude.{◌≡◌, ℕ, pos, Some, None, [], ◌∷◌}
use Rattle.cilk_tree.specs.declared.tree.BinaryOp.TheVariants as op
use Rattle.cilk_meaning.specs.declared.ends.TrapKind.TheVariants.{DivideByZero, TooDeep}
use Rattle.cilk_meaning.specs.Elision.{elision_within}
use Rattle.cilk_meaning.specs.Instance.{Limits}
use Rattle.cilk_meaning.specs.Resolved.{Expr, Local, Binary, Skip, Then, Assign, Print, If, While, Call, Spawn, Sync, Return, Program}
use Rattle.cilk_meaning.specs.Cases.Words.{Outcome, number, procedure, plain, program, zeros, outcome, outcome_of, finishes, traps}

abbrev pub two : Limits
two = record { depth = 2; calls = 2 }

abbrev pub outcome_of_two : Program → ℕ → Outcome
outcome_of_two program budget = outcome_of (elision_within two program zeros budget)

abbrev pub less_one : Expr
less_one = Binary op.Sub (Local 0) (number 1)

-- cilk void down(int n) { if (n > 1) spawn down(n - 1); }
-- cilk int main() { spawn down(N); return 0; }
abbrev pub spawns_down : ℕ → Program
spawns_down n = program 0 (
    procedure 0 0 (Spawn None 1 (number n ∷ []) ∷ Return (number 0) ∷ []) ∷
    procedure 1 1 (If (Binary op.Gt (Local 0) (number 1)) (Spawn None 1 (less_one ∷ [])) Skip ∷ []) ∷ [])

-- int down(int n) { int r; if (n > 1) r = down(n - 1); return r + 1; }
-- int main() { int r; r = down(N); print(r); return 0; }
abbrev pub calls_down : ℕ → Program
calls_down n = program 0 (
    plain 0 1 (Call (Some 0) 1 (number n ∷ []) ∷ Print (Local 0) ∷ Return (number 0) ∷ []) ∷
    plain 1 2 (If (Binary op.Gt (Local 0) (number 1)) (Call (Some 1) 1 (less_one ∷ [])) Skip ∷ Return (Binary op.Add (Local 1) (number 1)) ∷ []) ∷ [])

-- int one() { return 1; } int main() { int i, s; while (i < 5) { i = one(); i = s + i; s = i; } print(s); }
abbrev pub calls_again : Program
calls_again = program 0 (
    plain 0 2 (
    While (Binary op.Lt (Local 0) (number 5))
    (Then (Call (Some 0) 1 []) (Then (Assign 0 (Binary op.Add (Local 1) (Local 0))) (Assign 1 (Local 0)))) ∷
    Print (Local 1) ∷ []) ∷
    plain 0 0 (Return (number 1) ∷ []) ∷ [])

-- cilk void leaf() { } cilk int main() { spawn leaf(); spawn leaf(); spawn leaf(); sync; spawn leaf(); }
abbrev pub spawns_again : Program
spawns_again = program 0 (
    procedure 0 0 (Spawn None 1 [] ∷ Spawn None 1 [] ∷ Spawn None 1 [] ∷ Sync ∷ Spawn None 1 [] ∷ []) ∷
    procedure 0 0 [] ∷ [])

-- int low(int n) { } int high(int n) { low(1 / 0); } int top(int n) { high(n); } int main() { top(1); }
abbrev pub argument_traps : Program
argument_traps = program 0 (
    plain 0 0 (Call None 1 (number 1 ∷ []) ∷ []) ∷
    plain 1 1 (Call None 2 (Local 0 ∷ []) ∷ []) ∷
    plain 1 1 (Call None 3 (Binary op.Div (number 1) (number 0) ∷ []) ∷ []) ∷
    plain 1 1 [] ∷ [])

-- cilk void low(int n) { } cilk void high(int n) { spawn low(1 / 0); } cilk void top(int n) { spawn high(n); } cilk int main() { spawn top(1); }
abbrev pub spawned_argument_traps : Program
spawned_argument_traps = program 0 (
    procedure 0 0 (Spawn None 1 (number 1 ∷ []) ∷ []) ∷
    procedure 1 1 (Spawn None 2 (Local 0 ∷ []) ∷ []) ∷
    procedure 1 1 (Spawn None 3 (Binary op.Div (number 1) (number 0) ∷ []) ∷ []) ∷
    procedure 1 1 [] ∷ [])

pub record LimitCases : Type 0 where
  -- 4,096 instances below main: a spawn and a sync for each, and main's sync
  pub deepest_spawn : outcome (spawns_down 4096) 8193 ≡ finishes [] 8193
  pub spawn_too_deep : outcome (spawns_down 4097) 8193 ≡ traps TooDeep [] 4096
  pub deepest_spawn_of_two : outcome_of_two (spawns_down 2) 100 ≡ finishes [] 5
  pub spawn_too_deep_of_two : outcome_of_two (spawns_down 3) 100 ≡ traps TooDeep [] 2
  -- 4,096 calls and a print
  pub most_calls : outcome (calls_down 4096) 5000 ≡ finishes (pos 4096 ∷ []) 4097
  pub call_too_deep : outcome (calls_down 4097) 5000 ≡ traps TooDeep [] 4096
  pub most_calls_of_two : outcome_of_two (calls_down 2) 100 ≡ finishes (pos 2 ∷ []) 3
  pub call_too_deep_of_two : outcome_of_two (calls_down 3) 100 ≡ traps TooDeep [] 2
  -- A call that has returned is open no more, and a child that has returned is no deeper one: five calls and six tests, four children.
  pub calls_one_by_one : outcome_of_two calls_again 100 ≡ finishes (pos 5 ∷ []) 12
  pub children_side_by_side : outcome_of_two spawns_again 100 ≡ finishes [] 10
  -- Arguments are evaluated before the limit is looked at, and the limit before a tick is asked for.
  pub argument_before_limit : outcome_of_two argument_traps 100 ≡ traps DivideByZero [] 2
  pub spawned_argument_before_limit : outcome_of_two spawned_argument_traps 100 ≡ traps DivideByZero [] 2
  pub limit_before_budget : outcome_of_two (calls_down 3) 2 ≡ traps TooDeep [] 2
  pub spawn_limit_before_budget : outcome_of_two (spawns_down 3) 2 ≡ traps TooDeep [] 2
