-- What the answers of the reader say of a text.
use Rattle.std.specs.Prelude.{◌≡◌, ℕ, List}
use Rattle.cilk_tree.specs.declared.kind.Kind.{Kind}
use Rattle.cilk_tree.specs.Kind.{kind_number}
use Rattle.cilk_tree.specs.Spelling.{IsRefusal}
use Rattle.cilk_reader.specs.declared.refusal.ReadRefusal.{ReadRefusal}
use Rattle.cilk_reader.specs.declared.refusal.ReadRefusal.TheVariants.{At, Memory}

-- the text is refused for this reason, which has this number, at this offset
abbrev pub IsRefusedAt : List ℕ → ℕ → ℕ → Type 0
IsRefusedAt text number offset = (kind : Kind) × (number ≡ kind_number kind) × IsRefusal text kind offset

-- why the text was not read
abbrev pub IsReason : List ℕ → ReadRefusal → Type 0
IsReason text (At number offset) = IsRefusedAt text number offset
IsReason text Memory = Unit {0}
