-- A stack with room for a fixed number of values.
use Rattle.std.specs.Prelude.{ℕ, ℤ, List}

-- its values, the top first, and for how many there is room
pub record Stack : Type 0 where
  pub values : List ℤ
  pub room : ℕ
