-- The file that a shelf of files has open, by its name and the place that reads have reached in it.
use Rattle.std.specs.Prelude.{◌≡◌, ℕ, ◌+◌, ◌-◌, ◌^◌, ◌<◌, ◌≤◌, min, List}

-- A call for this place of this name reads on in the open file. At place 0 a file is opened anew.
abbrev pub ReadsOn : (open_name : List ℕ) → (reached : ℕ) → (name : List ℕ) → (at : ℕ) → Type 0
ReadsOn open_name reached name at = (open_name ≡ name) × (reached ≡ at) × (0 < at)

-- The open file has this name, and was read to the end of the bytes that a call at this place gave, this many.
abbrev pub IsReadTo : (open_name : List ℕ) → (reached : ℕ) → (name : List ℕ) → (at count : ℕ) → Type 0
IsReadTo open_name reached name at count = (open_name ≡ name) × (reached ≤ at + count) × (0 < count → reached ≡ min (at + count) (2 ^ 64 - 1))
