-- What is said of the order of a sync's values.
use Rattle.std.specs.Prelude.{◌≡◌, ℕ, ℤ, true, false, Some, None, List, [], ◌∷◌, ◌++◌, map}
use Rattle.std.specs.List.Sorted.{IsPermutation}
use Rattle.cilk_meaning.specs.Alone.{Block, block_after, HasValues, AreFitting}
use Rattle.cilk_meaning.specs.Instance as instance
use Rattle.cilk_meaning.specs.Resolved.{Program}
use Rattle.cilk_meaning.specs.Wants as wanted
use Rattle.cilk_meaning.specs.Wants.{Request, Want, Asks, Returns, Traps, Deposit, Answer, Value, Children, Done}
use Rattle.machine_code.specs.Early.{awaits}

-- where the values go
abbrev pub targets_of : List Deposit → Block
targets_of deposits = map (λ (deposit : Deposit). deposit.0) deposits

-- No target stands twice.
abbrev pub AreApart : Block → Type 0
AreApart [] = Unit {0}
AreApart (None ∷ block) = AreApart block
AreApart (Some target ∷ block) = (awaits target block ≡ false) × AreApart block

-- The values of a block's children in any order: in the order of their spawns they go to the targets of the block.
pub record IsInAnyOrder (block : Block) (deposits : List Deposit) : Type 0 where
  pub ordered : List Deposit
  pub same : IsPermutation ordered deposits
  pub targets : targets_of ordered ≡ block

-- ---- whole lists of answers

abbrev pub IsOfBlockInAnyOrder : Block → Answer → Type 0
IsOfBlockInAnyOrder block (Value value) = Unit {0}
IsOfBlockInAnyOrder block (Children deposits) = IsInAnyOrder block deposits
IsOfBlockInAnyOrder block Done = Unit {0}

-- the answer is one that the request may get where these children are out, but for the order of their values
pub record FitsInAnyOrder (block : Block) (request : Request) (answer : Answer) : Type 0 where
  pub suits : wanted.suits request answer ≡ true
  pub values : HasValues answer
  pub children : IsOfBlockInAnyOrder block answer

-- Each want is answered so, and behind the end nothing is answered.
abbrev pub AllFitInAnyOrder : Block → List Want → List Answer → Type 0
AllFitInAnyOrder block (Asks request ∷ wants) (answer ∷ answers) = FitsInAnyOrder block request answer × AllFitInAnyOrder (block_after request block) wants answers
AllFitInAnyOrder block (Asks request ∷ wants) [] = Unit {0}
AllFitInAnyOrder block (Returns value ∷ wants) answers = answers ≡ []
AllFitInAnyOrder block (Traps kind ∷ wants) answers = answers ≡ []
AllFitInAnyOrder block [] answers = Unit {0}

-- answers that an instance may get where the values of its children come in any order
abbrev pub AreFittingInAnyOrder : Program → ℕ → ℕ → List ℤ → List Answer → Type 0
AreFittingInAnyOrder program depth procedure arguments answers = AllFitInAnyOrder [] (instance.wants program depth procedure arguments answers) answers

-- one answer, but for the order of values
abbrev pub IsSame : Answer → Answer → Type 0
IsSame (Value value) answer = Value value ≡ answer
IsSame (Children ordered) (Value value) = ⊥
IsSame (Children ordered) (Children deposits) = IsPermutation ordered deposits
IsSame (Children ordered) Done = ⊥
IsSame Done answer = Done ≡ answer

abbrev pub AreSame : List Answer → List Answer → Type 0
AreSame [] [] = Unit {0}
AreSame [] (answer ∷ answers) = ⊥
AreSame (first ∷ ordered) [] = ⊥
AreSame (first ∷ ordered) (answer ∷ answers) = IsSame first answer × AreSame ordered answers

-- An instance goes on behind these answers as behind the same ones with the values of children in the order of their spawns, and those fit.
pub record GoesAsOrdered (program : Program) (depth procedure : ℕ) (arguments : List ℤ) (answers : List Answer) : Type 0 where
  pub ordered : List Answer
  pub same : AreSame ordered answers
  pub fitting : AreFitting program depth procedure arguments ordered
  pub goes : (rest : List Answer) → instance.wants program depth procedure arguments (ordered ++ rest) ≡ instance.wants program depth procedure arguments (answers ++ rest)
