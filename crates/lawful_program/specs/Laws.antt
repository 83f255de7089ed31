-- What holds of the program without names of a lawful source.
use Rattle.std.specs.Prelude.{◌≤◌}
use Rattle.cilk_tree.specs.declared.tree.Program.{Program}
use Rattle.cilk_tree.specs.Lawful.Lawful.{IsLawful}
use Rattle.cilk_tree.specs.Lawful.Rules.{most_shared_words}
use Rattle.cilk_meaning.specs.Resolving.{resolved}
use Rattle.compiled_code.specs.Emitted.{compiled}
use Rattle.compiled_code.specs.Safe.{KeepsValues}
use Rattle.compiled_code.specs.WellFormed.{IsWellFormed}
use Rattle.machine_code.specs.StandsFor.{StandsFor}
use Rattle.machine_code.specs.Valid.{words_in}

-- Its numbers are in range, and it has no more shared words than a program may.
abbrev pub LawfulIsWellFormed : Type 0
LawfulIsWellFormed = (source : Program) → IsLawful source → IsWellFormed (resolved source) × (words_in (resolved source).shared ≤ most_shared_words)

-- No statement reads or sets a local that may still get a child's value.
abbrev pub LawfulKeepsValues : Type 0
LawfulKeepsValues = (source : Program) → IsLawful source → KeepsValues (resolved source)

-- So its code stands for it.
abbrev pub LawfulCode : Type 0
LawfulCode = (source : Program) → IsLawful source → StandsFor (compiled (resolved source)) (resolved source)
