-- The lines of statuses.
use Rattle.std.proofs.Common.{◌≡◌, ◌⊎◌, inl, inr, ℕ, List, [], ◌∷◌, ◌++◌, append_assoc, codes, sym, ap, ◌∙◌, subst, arith}
use Rattle.std.specs.Fmt.{decimal}
use Rattle.std.proofs.lemmas.Fmt.{decimal_digit}
use Rattle.cilk_tree.specs.declared.place.CheckPlace.{CheckPlace}
use Rattle.cilk_tree.specs.declared.tree.Program.{Program}
use Rattle.cilk_meaning.specs.declared.ends.TrapKind.{TrapKind}
use Rattle.cilk_meaning.specs.declared.ends.TrapKind.TheVariants.{DivideByZero, IndexOutOfRange, Overflow, TooDeep}
use Rattle.backer_top.specs.declared.status.Status.{Status}
use Rattle.backer_top.specs.declared.status.Status.TheVariants.{Done, Words, Source, ReadFault, WriteFault, Trap, Budget, Race, Memory}
use Rattle.backer_top.specs.declared.status.SourceRefusal.TheVariants.{TooLong, Read, Check}
use Rattle.backer_top.specs.Lines.{IsLineOf}
use Rattle.backer_top.specs.Status.{HasFixedLine, error_line, place_words}

-- the line of a trap on node 0
abbrev pub trap_text : TrapKind → List ℕ
trap_text DivideByZero = codes "backer: trap DivideByZero on node 0\n"
trap_text IndexOutOfRange = codes "backer: trap IndexOutOfRange on node 0\n"
trap_text Overflow = codes "backer: trap Overflow on node 0\n"
trap_text TooDeep = codes "backer: trap TooDeep on node 0\n"

abbrev trap_on : List ℕ → List ℕ → List ℕ
trap_on name node = codes "backer: " ++ (codes "trap " ++ name ++ codes " on node " ++ node) ++ 10 ∷ []

pub trap_line : (program : Program) (kind : TrapKind) → trap_text kind ≡ error_line program (Trap kind 0)
trap_line program DivideByZero = ap (trap_on (codes "DivideByZero")) (sym (decimal_digit 0 (omega arith)))
trap_line program IndexOutOfRange = ap (trap_on (codes "IndexOutOfRange")) (sym (decimal_digit 0 (omega arith)))
trap_line program Overflow = ap (trap_on (codes "Overflow")) (sym (decimal_digit 0 (omega arith)))
trap_line program TooDeep = ap (trap_on (codes "TooDeep")) (sym (decimal_digit 0 (omega arith)))

-- the line of a spent budget on node 0
pub budget_line : (program : Program) (node : ℕ) → node ≡ 0 → codes "backer: budget spent on node 0\n" ≡ error_line program (Budget node)
budget_line program node zero =
    ap (λ digits. codes "backer: " ++ (codes "budget spent on node " ++ digits) ++ 10 ∷ []) (sym (ap decimal zero ∙ decimal_digit 0 (omega arith)))

-- the line of a source that was not read
pub read_line : (program : Program) (kind offset : ℕ) → codes "backer: source refused: " ++ (decimal kind ++ (codes " at byte " ++ (decimal offset ++ codes "\n"))) ≡ error_line program (Source (Read kind offset))
read_line program kind offset = simp append_assoc

-- the line of a rule that is broken
pub breach : (program : Program) (kind : ℕ) (place : CheckPlace) → codes "backer: source refused: " ++ (decimal kind ++ codes " in ") ++ place_words program place ++ 10 ∷ [] ≡ error_line program (Source (Check kind place))
breach program kind place = simp append_assoc

-- a line that is the same each time tells its status whatever the text is
pub line_of_fixed : (text : List ℕ) (status : Status) (line : List ℕ) → HasFixedLine status → ((program : Program) → line ≡ error_line program status) → IsLineOf text status line
line_of_fixed text (Source TooLong) line fixed is = is
line_of_fixed text (Source (Read kind offset)) line fixed is = is
line_of_fixed text (Source (Check kind place)) line fixed is = absurd fixed
line_of_fixed text Done line fixed is = is
line_of_fixed text Words line fixed is = is
line_of_fixed text ReadFault line fixed is = is
line_of_fixed text WriteFault line fixed is = is
line_of_fixed text (Trap kind node) line fixed is = is
line_of_fixed text (Budget node) line fixed is = is
line_of_fixed text (Race race) line fixed is = is
line_of_fixed text Memory line fixed is = is

-- the same of the status' copy
pub line_of_status : (text : List ℕ) (status told : Status) (line : List ℕ) → HasFixedLine status → told ≡ status → ((program : Program) → line ≡ error_line program status) → IsLineOf text told line
line_of_status text status told line fixed same is = subst (λ s. IsLineOf text s line) (sym same) (line_of_fixed text status line fixed is)

-- the line of a source that was not read, or of want of memory
pub line_of_unread : (text : List ℕ) (kind offset : ℕ) (status : Status) (line : List ℕ) → (status ≡ Source (Read kind offset)) ⊎ (status ≡ Memory) → ((program : Program) → line ≡ error_line program status) → IsLineOf text status line
line_of_unread text kind offset status line (inl read) is =
    subst (λ s. IsLineOf text s line) (sym read) (subst (λ s. (program : Program) → line ≡ error_line program s) read is)
line_of_unread text kind offset status line (inr memory) is =
    subst (λ s. IsLineOf text s line) (sym memory) (subst (λ s. (program : Program) → line ≡ error_line program s) memory is)
