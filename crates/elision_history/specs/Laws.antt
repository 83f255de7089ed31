-- Laws of the elision's own history.
use Rattle.std.specs.Prelude.{◌≡◌, ℕ, ℤ, Option, Some, map, List}
use Rattle.cilk_meaning.specs.declared.ends.NodeEnd.TheVariants.{Finished}
use Rattle.cilk_meaning.specs.Elision.{elision_within}
use Rattle.cilk_meaning.specs.Instance.{Limits, wants_within}
use Rattle.cilk_meaning.specs.Resolved.{Program}
use Rattle.cilk_meaning.specs.World as world
use Rattle.elision_history.specs.Logged.{acts_made, history_of, rows_made}
use Rattle.span_tree.specs.declared.act.Act.{Act}
use Rattle.span_tree.specs.declared.act.Act.TheVariants.{Read, Add}
use Rattle.span_tree.specs.declared.act.Place.{Place}
use Rattle.span_tree.specs.History.{History, act_at, serial_acts, serial_order}
use Rattle.span_tree.specs.Memory.{HasNoRace, IsLocationConsistent, ReadsSerially, last_write, output_of}
use Rattle.span_tree.specs.Program.{IsComplete, IsHistory, Starts}

-- However it ends, the elision's history is a history of the program; where it finished, a complete one.
abbrev pub ElisionIsHistory : Type 0
ElisionIsHistory = (most : Limits) (program : Program) (memory : ℕ → ℤ) (budget : ℕ) →
    IsHistory (wants_within most program) program.main (history_of program (elision_within most program memory budget))
    × ((elision_within most program memory budget).end ≡ Finished →
    IsComplete (wants_within most program) program.main (history_of program (elision_within most program memory budget)))

-- It makes its acts in the serial order of its history, each in the row of its place, so it prints that history's output.
abbrev pub ActsInOrder : Type 0
ActsInOrder = (most : Limits) (program : Program) (memory : ℕ → ℤ) (budget : ℕ) →
    (serial_acts (history_of program (elision_within most program memory budget)) ≡ acts_made (elision_within most program memory budget))
    × (map (λ (place : Place). place.row) (serial_order (history_of program (elision_within most program memory budget)))
    ≡ rows_made (elision_within most program memory budget))
    × (output_of (history_of program (elision_within most program memory budget)) ≡ world.output_of (elision_within most program memory budget))

-- Each Read and each Add of its history is answered by the last write in serial order.
abbrev pub ElisionReadsSerially : Type 0
ElisionReadsSerially = (most : Limits) (program : Program) (memory : ℕ → ℤ) (budget : ℕ) →
    ReadsSerially memory (history_of program (elision_within most program memory budget))

-- It leaves in each shared word what the last write in serial order left there.
abbrev pub MemoryIsLastWrites : Type 0
MemoryIsLastWrites = (most : Limits) (program : Program) (memory : ℕ → ℤ) (budget : ℕ) (word : ℕ) →
    (elision_within most program memory budget).world.memory word
    ≡ last_write word (memory word) (serial_acts (history_of program (elision_within most program memory budget)))

-- A complete history of the program in which each Read and each Add is answered by the last write in serial order is the elision's, which
-- finishes then.
abbrev pub CompleteIsElision : Type 0
CompleteIsElision = (most : Limits) (program : Program) (memory : ℕ → ℤ) (history : History) →
    IsComplete (wants_within most program) program.main history → ReadsSerially memory history →
    (budget : ℕ) × ((elision_within most program memory budget).end ≡ Finished) × (history_of program (elision_within most program memory budget) ≡ history)

-- A complete history of the program that is location consistent and has no race is the elision's, which finishes then.
abbrev pub RaceFreeIsElision : Type 0
RaceFreeIsElision = (most : Limits) (program : Program) (memory : ℕ → ℤ) (history : History) (orders : List (List Place)) →
    IsComplete (wants_within most program) program.main history → IsLocationConsistent memory history orders → HasNoRace history →
    (budget : ℕ) × ((elision_within most program memory budget).end ≡ Finished) × (history_of program (elision_within most program memory budget) ≡ history)

-- Reads, and adds, of the same are answered alike.
abbrev pub AnsweredAlike : Option Act → Option Act → Type 0
AnsweredAlike (Some (Read word value)) (Some (Read other value')) = word ≡ other → value ≡ value'
AnsweredAlike (Some (Add word old addend)) (Some (Add other old' addend')) = word ≡ other → addend ≡ addend' → old ≡ old'
AnsweredAlike _ _ = Unit {0}

-- A complete history is determined by what its reads and adds are answered: two of one program that are answered alike at each place are one.
abbrev pub AnswersDetermine : Type 0
AnswersDetermine = (starts : Starts) (main : ℕ) (history other : History) → IsComplete starts main history → IsComplete starts main other →
    ((place : Place) → AnsweredAlike (act_at history place) (act_at other place)) → history ≡ other
