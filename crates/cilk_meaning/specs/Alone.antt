-- An instance by itself: its want, its acts and what it returned with, and which answers it may get.
use Rattle.std.specs.Prelude.{◌≡◌, ℕ, ℤ, Bool, true, false, Option, Some, None, List, [], ◌∷◌, ◌++◌, map}
use Rattle.std.specs.List.{All, last_or}
use Rattle.cilk_meaning.specs.Instance.{wants}
use Rattle.cilk_meaning.specs.Resolved.{Program}
use Rattle.cilk_meaning.specs.Values.{fits}
use Rattle.cilk_meaning.specs.Wants as wanted
use Rattle.cilk_meaning.specs.Wants.{Request, Read, Add, Spawn, Sync, Call, LoopTurn, Want, Asks, Returns, Traps, Deposit, Answer, Value, Children, Done}

-- what an instance wants after some answers
abbrev pub want_after : Program → ℕ → ℕ → List ℤ → List Answer → Option Want
want_after program depth procedure arguments answers = last_or None (wants program depth procedure arguments answers)

-- it has returned with this value
abbrev pub HasReturned : Program → ℕ → ℕ → List ℤ → List Answer → ℤ → Type 0
HasReturned program depth procedure arguments answers value = want_after program depth procedure arguments answers ≡ Some (Returns value)

-- whether a request is an act: a plain call and a test of a loop are none
abbrev pub is_act : Request → Bool
is_act Call = false
is_act LoopTurn = false
is_act _ = true

-- a request and its answer
pub record Exchange : Type 0 where
  pub request : Request
  pub answer : Answer

abbrev pub exchange_if : Bool → Request → Answer → List Exchange
exchange_if true request answer = record { request = request; answer = answer } ∷ []
exchange_if false request answer = []

-- the acts among some wants, with their answers
abbrev pub acts_among : List Want → List Answer → List Exchange
acts_among (Asks request ∷ wants) (answer ∷ answers) = exchange_if (is_act request) request answer ++ acts_among wants answers
acts_among _ _ = []

-- the acts of an instance that got these answers
abbrev pub acts_of : Program → ℕ → ℕ → List ℤ → List Answer → List Exchange
acts_of program depth procedure arguments answers = acts_among (wants program depth procedure arguments answers) answers

-- the targets of the children of an instance's block: those spawned since its last Sync, in order
abbrev pub Block : Type 0
Block = List (Option ℕ)

-- the block after a request
abbrev pub block_after : Request → Block → Block
block_after (Spawn target procedure arguments) block = block ++ target ∷ []
block_after Sync block = []
block_after _ block = block

-- the block after some wants
abbrev pub block_of : Block → List Want → Block
block_of block [] = block
block_of block (Asks request ∷ wants) = block_of (block_after request block) wants
block_of block (_ ∷ wants) = block_of block wants

abbrev pub IsValue : ℤ → Type 0
IsValue value = fits value ≡ true

-- it has values alone
abbrev pub HasValues : Answer → Type 0
HasValues (Value value) = IsValue value
HasValues (Children deposits) = All (λ (deposit : Deposit). IsValue deposit.1) deposits
HasValues Done = Unit {0}

-- it has one value for each child of the block, to its target
abbrev pub IsOfBlock : Block → Answer → Type 0
IsOfBlock block (Value value) = Unit {0}
IsOfBlock block (Children deposits) = map (λ (deposit : Deposit). deposit.0) deposits ≡ block
IsOfBlock block Done = Unit {0}

-- the answer is one that the request may get where these children are out
pub record Fits (block : Block) (request : Request) (answer : Answer) : Type 0 where
  pub suits : wanted.suits request answer ≡ true
  pub values : HasValues answer
  pub children : IsOfBlock block answer

-- Each want is answered so, and behind the end nothing is answered.
abbrev pub AllFit : Block → List Want → List Answer → Type 0
AllFit block (Asks request ∷ wants) (answer ∷ answers) = Fits block request answer × AllFit (block_after request block) wants answers
AllFit block (Asks request ∷ wants) [] = Unit {0}
AllFit block (Returns value ∷ wants) answers = answers ≡ []
AllFit block (Traps kind ∷ wants) answers = answers ≡ []
AllFit block [] answers = Unit {0}

-- Answers that an instance may get.
abbrev pub AreFitting : Program → ℕ → ℕ → List ℤ → List Answer → Type 0
AreFitting program depth procedure arguments answers = AllFit [] (wants program depth procedure arguments answers) answers
