-- What a history keeps beside its rows.
use Rattle.std.specs.Prelude.{◌≡◌, List}
use Rattle.span_tree.specs.declared.act.Place.{Place}
use Rattle.span_tree.specs.History.{History, serial_order, IsNumbered, IsWithin32Bits}

pub record IsKept (history : History) (places : List Place) : Type 0 where
  pub numbered : IsNumbered history
  pub within : IsWithin32Bits history
  pub order : places ≡ serial_order history
