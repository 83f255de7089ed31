-- Short words for the cases.
use Rattle.std.specs.Prelude.{ℕ, ℤ, pos, true, false, List, [], ◌∷◌}
use Rattle.cilk_tree.specs.declared.tree.UnaryOp.TheVariants.{Neg}
use Rattle.cilk_meaning.specs.declared.ends.NodeEnd.{NodeEnd}
use Rattle.cilk_meaning.specs.declared.ends.NodeEnd.TheVariants.{Finished, Trapped, Budget}
use Rattle.cilk_meaning.specs.declared.ends.TrapKind.{TrapKind}
use Rattle.cilk_meaning.specs.Elision.{elision}
use Rattle.cilk_meaning.specs.Resolved.{Expr, Number, Unary, Stmt, Skip, Then, Print, Function, Program}
use Rattle.cilk_meaning.specs.World.{End, output_of, ticks_of}

abbrev pub number : ℕ → Expr
number n = Number (pos n)

abbrev pub minus : Expr → Expr
minus operand = Unary Neg operand

abbrev pub in_order : List Stmt → Stmt
in_order [] = Skip
in_order (first ∷ rest) = Then first (in_order rest)

-- a `cilk` procedure: its parameters, its parameters and locals, and its statements
abbrev pub procedure : ℕ → ℕ → List Stmt → Function
procedure params locals body = record { «cilk» = true; params = params; locals = locals; body = in_order body }

-- a plain function
abbrev pub plain : ℕ → ℕ → List Stmt → Function
plain params locals body = record { «cilk» = false; params = params; locals = locals; body = in_order body }

-- a program with one array `a` of so many words, in which `main` stands first
abbrev pub program : ℕ → List Function → Program
program words functions = record { shared = record { base = 0; words = words } ∷ []; functions = functions; main = 0 }

-- `int a[2]; int main() { .. }`, where `main` has so many locals
abbrev pub plain_main : ℕ → List Stmt → Program
plain_main locals body = program 2 (plain 0 locals body ∷ [])

abbrev pub zeros : ℕ → ℤ
zeros word = pos 0

-- the elision for at most so many ticks, where each shared word starts at 0
abbrev pub run : Program → ℕ → End
run program budget = elision program zeros budget

-- what it prints, how it ends, and how many ticks it makes
pub record Outcome : Type 0 where
  pub output : List ℤ
  pub end : NodeEnd
  pub ticks : ℕ

abbrev pub outcome_of : End → Outcome
outcome_of end = record { output = output_of end; end = end.end; ticks = ticks_of end }

abbrev pub outcome : Program → ℕ → Outcome
outcome program budget = outcome_of (run program budget)

-- what comes of `int a[2]; int main() { print(e); }` within ten ticks
abbrev pub printing : Expr → Outcome
printing e = outcome (plain_main 0 (Print e ∷ [])) 10

-- it finishes with this output and these ticks
abbrev pub finishes : List ℤ → ℕ → Outcome
finishes output ticks = record { output = output; end = Finished; ticks = ticks }

abbrev pub traps : TrapKind → List ℤ → ℕ → Outcome
traps kind output ticks = record { output = output; end = Trapped kind; ticks = ticks }

-- it wants a tick more
abbrev pub spends : List ℤ → ℕ → Outcome
spends output ticks = record { output = output; end = Budget; ticks = ticks }

-- a print of one value
abbrev pub prints : ℤ → Outcome
prints value = finishes (value ∷ []) 1

-- a trap before the first tick
abbrev pub traps_at_once : TrapKind → Outcome
traps_at_once kind = traps kind [] 0
