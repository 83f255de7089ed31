-- Instances by themselves: what they want after some answers.
use Rattle.std.specs.Prelude.{◌≡◌, ℕ, pos, Some, None, List, [], ◌∷◌}
use Rattle.cilk_meaning.specs.declared.ends.TrapKind.TheVariants.{Overflow, TooDeep}
use Rattle.cilk_meaning.specs.Alone.{AreFitting, acts_of, want_after}
use Rattle.cilk_meaning.specs.Instance.{wants}
use Rattle.cilk_meaning.specs.Wants.{Read, Add, Print, Spawn, Sync, Call, LoopTurn, Want, Asks, Returns, Traps, Answer, Value, Children, Done}
use Rattle.cilk_meaning.specs.Cases.Programs.{fib, looks, puts, adds, nested, says}

-- what `fib(n)` wants at depth 1
abbrev pub fib_wants : ℕ → List Answer → List Want
fib_wants n = wants (fib 10) 1 1 (pos n ∷ [])

abbrev pub first_spawn : Want
first_spawn = Asks (Spawn (Some 1) 1 (pos 4 ∷ []))

abbrev pub second_spawn : Want
second_spawn = Asks (Spawn (Some 2) 1 (pos 3 ∷ []))

pub record InstanceCases : Type 0 where
  pub leaf_syncs : fib_wants 1 [] ≡ Asks Sync ∷ []
  pub leaf_returns : fib_wants 1 (Children [] ∷ []) ≡ Asks Sync ∷ Returns (pos 1) ∷ []
  pub spawns_first : fib_wants 5 [] ≡ first_spawn ∷ []
  pub spawns_second : fib_wants 5 (Done ∷ []) ≡ first_spawn ∷ second_spawn ∷ []
  -- A child's value is there behind the sync.
  pub adds_children : fib_wants 5 (Done ∷ Done ∷ Children ((Some 1, pos 30) ∷ (Some 2, pos 12) ∷ []) ∷ Children [] ∷ []) ≡
      first_spawn ∷ second_spawn ∷ Asks Sync ∷ Asks Sync ∷ Returns (pos 42) ∷ []
  -- A child's value that goes nowhere is given back too, and is dropped.
  pub children_without_target : wants puts 0 0 [] (Done ∷ Done ∷ Children ((None, pos 0) ∷ (None, pos 0) ∷ []) ∷ Value (pos 2) ∷ Done ∷ Children [] ∷ []) ≡
      Asks (Spawn None 1 (pos 1 ∷ [])) ∷ Asks (Spawn None 1 (pos 2 ∷ [])) ∷ Asks Sync ∷ Asks (Read 0) ∷ Asks (Print (pos 2)) ∷ Asks Sync ∷ Returns (pos 0) ∷ []
  -- An answer of another kind, and one behind the end, lead to nothing.
  pub unfit_answer : fib_wants 5 (Value (pos 1) ∷ Done ∷ []) ≡ first_spawn ∷ []
  pub nothing_behind_return : fib_wants 1 (Children [] ∷ Done ∷ []) ≡ Asks Sync ∷ Returns (pos 1) ∷ []
  -- `return a[0];` syncs first
  pub sync_before_expression : wants looks 1 1 [] (Children [] ∷ Value (pos 9) ∷ []) ≡ Asks Sync ∷ Asks (Read 0) ∷ Returns (pos 9) ∷ []
  pub old_value_is_given : wants adds 1 1 (pos 3 ∷ []) (Value (pos 8) ∷ Children [] ∷ []) ≡ Asks (Add 0 (pos 3)) ∷ Asks Sync ∷ Returns (pos 8) ∷ []
  pub sum_overflows : wants adds 1 1 (pos 3 ∷ []) (Value (pos 9223372036854775805) ∷ []) ≡ Asks (Add 0 (pos 3)) ∷ Traps Overflow ∷ []
  -- A plain call and a test of a loop are wanted, and are no acts.
  pub calls_are_wanted : wants nested 0 0 [] (Done ∷ Done ∷ Done ∷ Done ∷ Done ∷ []) ≡
      Asks Call ∷ Asks Call ∷ Asks Call ∷ Asks Call ∷ Asks (Print (pos 10)) ∷ Returns (pos 0) ∷ []
  pub calls_are_no_acts : acts_of nested 0 0 [] (Done ∷ Done ∷ Done ∷ Done ∷ Done ∷ []) ≡ record { request = Print (pos 10); answer = Done } ∷ []
  pub tests_are_wanted : wants says 1 1 (pos 8 ∷ pos 1 ∷ []) (Done ∷ Done ∷ Done ∷ []) ≡ Asks LoopTurn ∷ Asks LoopTurn ∷ Asks (Print (pos 8)) ∷ Asks Sync ∷ []
  -- at the limit of depth, and one before
  pub deepest_traps : want_after (fib 10) 4096 1 (pos 5 ∷ []) [] ≡ Some (Traps TooDeep)
  pub deepest_parent_spawns : want_after (fib 10) 4095 1 (pos 5 ∷ []) [] ≡ Some first_spawn

-- what the children of `fib(5)` give back, in the order of their spawns
abbrev pub given_back : Answer
given_back = Children ((Some 1, pos 3) ∷ (Some 2, pos 2) ∷ [])

abbrev pub FitFib : List Answer → Type 0
FitFib answers = AreFitting (fib 10) 1 1 (pos 5 ∷ []) answers

pub record FittingCases : Type 0 where
  pub two_children : FitFib (Done ∷ Done ∷ given_back ∷ Children [] ∷ [])
  -- Children in another order, one of them alone, those of a block that has synced, another kind, and an answer behind the end do not fit.
  pub other_order : FitFib (Done ∷ Done ∷ Children ((Some 2, pos 2) ∷ (Some 1, pos 3) ∷ []) ∷ []) → ⊥
  pub one_child : FitFib (Done ∷ Done ∷ Children ((Some 1, pos 3) ∷ []) ∷ []) → ⊥
  pub children_again : FitFib (Done ∷ Done ∷ given_back ∷ given_back ∷ []) → ⊥
  pub other_kind : FitFib (Value (pos 1) ∷ []) → ⊥
  pub behind_end : FitFib (Done ∷ Done ∷ given_back ∷ Children [] ∷ Done ∷ []) → ⊥
  -- nor does a value that is no `i64`
  pub no_value : FitFib (Done ∷ Done ∷ Children ((Some 1, pos 9223372036854775808) ∷ (Some 2, pos 2) ∷ []) ∷ []) → ⊥
