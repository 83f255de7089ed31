-- What is out, once something was written to the value.
use Rattle.turnstile.specs.Passes.{Holding}

abbrev pub with_value : {V E C : Type 0} → Holding V E C → V → Holding V E C
with_value held x = record held { value = x }
