-- Which histories a program has: each row is an instance that makes what it wants, with the answers that its acts tell.
use Rattle.std.specs.Prelude.{◌≡◌, ◌≢◌, ◌⊎◌, ℕ, suc, ◌<◌, ℤ, Option, Some, None, List, [], ◌∷◌, ◌++◌, length}
use Rattle.cilk_meaning.specs.Instance.{Meaning, wants}
use Rattle.cilk_meaning.specs.Resolved.{Program}
use Rattle.cilk_meaning.specs.Serve.{now, after}
use Rattle.cilk_meaning.specs.Wants as wanted
use Rattle.cilk_meaning.specs.Wants.{Request, Asks, Returns, Deposit, Answer, Value, Children, Done}
use Rattle.span_tree.specs.declared.act.Act.{Act}
use Rattle.span_tree.specs.declared.act.Act.TheVariants as act
use Rattle.span_tree.specs.declared.act.Place.{Place}
use Rattle.span_tree.specs.History.{History, IsNumbered, row_at}

-- the children of a block: those spawned since the row's last Sync, in order, the target and the row of each
abbrev pub Block : Type 0
Block = List (Option ℕ × ℕ)

-- each child of the block has returned, and these are the targets and the values
abbrev pub HaveReturned : (ℕ → Option ℤ) → Block → List Deposit → Type 0
HaveReturned returned [] [] = Unit {0}
HaveReturned returned [] (deposit ∷ deposits) = ⊥
HaveReturned returned (child ∷ block) [] = ⊥
HaveReturned returned (child ∷ block) (deposit ∷ deposits) =
    (child.0 ≡ deposit.0) × (returned child.1 ≡ Some deposit.1) × HaveReturned returned block deposits

-- the row is that of a child with this parent, procedure and arguments
pub record IsChild (history : History) (child : ℕ) (parent : Place) (procedure : ℕ) (arguments : List ℤ) : Type 0 where
  pub named : (row_at history child).parent ≡ Some parent
  pub procedure_is : (row_at history child).proc ≡ procedure
  pub arguments_are : (row_at history child).args ≡ arguments

-- The request is answered at this place, by this act and this answer; the block before and behind it. A Read is answered by the value in
-- the act, an Add by its old value, and a Sync, where each child of the block has returned, by their values.
pub data IsAnswered (history : History) (returned : ℕ → Option ℤ) (place : Place) : Request → Act → Answer → Block → Block → Type 0 where
  Read : (word : ℕ) (value : ℤ) (block : Block) → IsAnswered history returned place (wanted.Read word) (act.Read word value) (Value value) block block
  Write : (word : ℕ) (value : ℤ) (block : Block) → IsAnswered history returned place (wanted.Write word value) (act.Write word value) Done block block
  Add : (word : ℕ) (old addend : ℤ) (block : Block) → IsAnswered history returned place (wanted.Add word addend) (act.Add word old addend) (Value old) block block
  Print : (value : ℤ) (block : Block) → IsAnswered history returned place (wanted.Print value) (act.Print value) Done block block
  Spawn : (target : Option ℕ) (procedure : ℕ) (arguments : List ℤ) (child : ℕ) (block : Block) → IsChild history child place procedure arguments →
      IsAnswered history returned place (wanted.Spawn target procedure arguments) (act.Spawn child) Done block (block ++ (target, child) ∷ [])
  Sync : (block : Block) (deposits : List Deposit) → HaveReturned returned block deposits → IsAnswered history returned place wanted.Sync act.Sync (Children deposits) block []

-- a want that is answered by no act: a plain call or a test of a loop
abbrev pub IsQuiet : Meaning → Type 0
IsQuiet goes = (now goes ≡ Some (Asks wanted.Call)) ⊎ (now goes ≡ Some (Asks wanted.LoopTurn))

-- The alone run of a row, from the instance that begins: after these acts, and some plain calls and tests of loops, these children of its
-- block are out, and the instance goes on so.
pub data AloneRun (history : History) (returned : ℕ → Option ℤ) (row : ℕ) (begin : Meaning) : List Act → Block → Meaning → Type 0 where
  Begins : AloneRun history returned row begin [] [] begin
  Ticks : (acts : List Act) (block : Block) (goes : Meaning) → AloneRun history returned row begin acts block goes → IsQuiet goes →
      AloneRun history returned row begin acts block (after goes Done)
  Acts : (acts : List Act) (block behind : Block) (goes : Meaning) (request : Request) (made : Act) (answer : Answer) →
      AloneRun history returned row begin acts block goes → now goes ≡ Some (Asks request) →
      IsAnswered history returned (record { row = row; act = length acts }) request made answer block behind →
      AloneRun history returned row begin (acts ++ made ∷ []) behind (after goes answer)

-- `main` has depth 0, and a child is one deeper than its parent
pub data HasDepth (history : History) : ℕ → ℕ → Type 0 where
  Main : HasDepth history 0 0
  Child : (row : ℕ) (parent : Place) (depth : ℕ) → (row_at history row).parent ≡ Some parent → HasDepth history parent.row depth → HasDepth history row (suc depth)

-- What instances want, for a depth, a procedure and its arguments.
abbrev pub Starts : Type 0
Starts = ℕ → ℕ → List ℤ → Meaning

-- The acts of a row are the first acts of its alone run, which has returned where there is a value.
pub record IsRowOf (starts : Starts) (history : History) (returned : ℕ → Option ℤ) (row : ℕ) : Type 0 where
  pub depth : ℕ
  pub block : Block
  pub goes : Meaning
  pub has_depth : HasDepth history row depth
  pub alone_run : AloneRun history returned row (starts depth (row_at history row).proc (row_at history row).args) (row_at history row).acts block goes
  pub returns : (value : ℤ) → returned row ≡ Some value → now goes ≡ Some (Returns value)

-- A history of a program whose instances start so, from this procedure on; the rows with a value have returned.
pub record IsHistoryWith (starts : Starts) (main : ℕ) (history : History) (returned : ℕ → Option ℤ) : Type 0 where
  pub numbered : IsNumbered history
  pub main_is : (row_at history 0).proc ≡ main
  pub rows : (row : ℕ) → row < length history → IsRowOf starts history returned row

abbrev pub IsHistory : Starts → ℕ → History → Type 0
IsHistory starts main history = (returned : ℕ → Option ℤ) × IsHistoryWith starts main history returned

-- It is complete where every row has returned.
abbrev pub IsComplete : Starts → ℕ → History → Type 0
IsComplete starts main history =
    (returned : ℕ → Option ℤ) × IsHistoryWith starts main history returned × ((row : ℕ) → row < length history → returned row ≢ None)

-- a history of a program of the language, and a complete one
abbrev pub IsHistoryOf : Program → History → Type 0
IsHistoryOf program history = IsHistory (wants program) program.main history

abbrev pub IsCompleteOf : Program → History → Type 0
IsCompleteOf program history = IsComplete (wants program) program.main history
