-- Names that are numbered in a list.
use Rattle.std.specs.Prelude.{◌≡◌, ℕ, List, length, map}
use Rattle.std.specs.List.{position_from, position_or_len}
use Rattle.std.specs.Str.{bytes_eq}
use Rattle.cilk_checker.specs.Names.{value_at}
use Rattle.cilk_tree.specs.declared.tree.Program.{Program}
use Rattle.cilk_compiler.specs.declared.names.Names.{Names}

-- how many names stand before the first one that is this
abbrev pub number_in : List (List ℕ) → List ℕ → ℕ
number_in names name = position_or_len (λ other. bytes_eq other name) names

-- the table numbers these names
pub record IsNumbering (numbering : Names) (names : List (List ℕ)) : Type 0 where
  pub count : numbering.count ≡ length names
  pub agrees : (name : List ℕ) → value_at numbering.numbers name ≡ position_from (λ other. bytes_eq other name) 0 names

abbrev pub array_names : Program → List (List ℕ)
array_names program = map (λ array. array.name) program.shared

abbrev pub function_names : Program → List (List ℕ)
function_names program = map (λ function. function.name) program.functions
