-- The numbers of a pass.
use Rattle.std.specs.Prelude.{◌≡◌, ℕ}
use Rattle.std.specs.List.{range_with_len}
use Rattle.turnstile.specs.Passes.{Known, IsIdle}

-- no `Held` of the pass is out, and it has so many numbers from the first on
abbrev pub Has : {E C : Type 0} → Known E C → ℕ → ℕ → Type 0
Has pass first count = IsIdle pass × (pass.numbers ≡ range_with_len first count)
