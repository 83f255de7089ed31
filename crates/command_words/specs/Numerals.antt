-- Words that may be numbers in decimal.
use Rattle.std.specs.Prelude.{◌≡◌, ℕ, List, length, get_or}

-- neither a plus stands in front nor a zero before another byte
abbrev pub IsPlain : List ℕ → Type 0
IsPlain word = ¬ (get_or word 0 0 ≡ 43) × (get_or word 0 0 ≡ 48 → length word ≡ 1)
