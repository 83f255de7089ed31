-- The numbers of the reasons for which a text is refused.
use Rattle.std.specs.Prelude.{ℕ}
use Rattle.cilk_tree.specs.declared.kind.Kind.{Kind}
use Rattle.cilk_tree.specs.declared.kind.Kind.TheVariants.{BadByte, BadNumber, Unexpected, TooDeep, TooMany}

-- the number that is shown
abbrev pub kind_number : Kind → ℕ
kind_number BadByte = 101
kind_number BadNumber = 102
kind_number Unexpected = 103
kind_number TooDeep = 104
kind_number TooMany = 105
