-- What is known of a program that was checked, and of its refusal.
use Rattle.std.specs.Prelude.{ℕ, ◌≤◌}
use Rattle.cilk_tree.specs.declared.tree.Program.{Program}
use Rattle.cilk_tree.specs.Lawful.Lawful.{IsCheckRefusal, IsLawful}
use Rattle.cilk_tree.specs.Size.{program_size}
use Rattle.cilk_tree.specs.Writable.{IsWritable}
use Rattle.cilk_checker.specs.declared.refusal.CheckRefusal.{CheckRefusal}
use Rattle.cilk_checker.specs.declared.refusal.CheckRefusal.TheVariants.{At, Memory}

-- How large a program may be that is checked. A text of at most 1,048,576 bytes spells none that is larger.
abbrev pub largest_checked : ℕ
largest_checked = 2097152

-- it is lawful, has a text and is small
pub record IsSound (program : Program) : Type 0 where
  pub lawful : IsLawful program
  pub writable : IsWritable program
  pub small : program_size program ≤ largest_checked

-- the refusal is the one of the definition; want of memory says nothing
abbrev pub IsRefusal : Program → CheckRefusal → Type 0
IsRefusal program (At kind place) = IsCheckRefusal program kind place
IsRefusal program Memory = Unit {0}
