-- What is put on the sinks.
use Rattle.std.specs.Prelude.{◌≡◌, ℕ, ◌<◌, ◌≤◌, ℤ, Option, Some, IfSome, List, [], ◌∷◌, ◌++◌, length, take}
use Rattle.std.specs.Fmt.{signed_decimal}
use Rattle.std.specs.List.{flat_map}
use Rattle.outside.specs.Device.{Rose}
use Rattle.outside.specs.Shelf.{joined}

-- a value in decimal on a line of its own
abbrev pub line : ℤ → List ℕ
line value = signed_decimal value ++ 10 ∷ []

abbrev pub lines : List ℤ → List ℕ
lines = flat_map line

-- How a sink was used: what it tells, what its puts did, and the sink before and after.
pub record SinkUse (S : Type 0) : Type 1 where
  pub held : S → Option (List ℕ)
  pub faults : S → ℕ
  pub took : S → List ℕ → S → Type 0
  pub failed : S → List ℕ → S → Type 0
  pub old : S
  pub new : S

abbrev pub sink_use : {S : Type 0} → (S → Option (List ℕ)) → (S → ℕ) → (S → List ℕ → S → Type 0) → (S → List ℕ → S → Type 0) → S → S → SinkUse S
sink_use held faults took failed old new = record { held = held; faults = faults; took = took; failed = failed; old = old; new = new }

-- its count of faults rose
abbrev pub WriteFailed : {S : Type 0} → SinkUse S → Type 0
WriteFailed sink = Rose (sink.faults sink.old) (sink.faults sink.new)

-- pieces of 4,096 bytes, of which the last may be shorter, and none is empty
abbrev pub ArePieces : List (List ℕ) → Type 0
ArePieces [] = Unit {0}
ArePieces (last ∷ []) = (0 < length last) × (length last ≤ 4096)
ArePieces (piece ∷ next ∷ rest) = (length piece ≡ 4096) × ArePieces (next ∷ rest)

-- puts of these pieces one after another, each of them whole
abbrev pub Puts : {S : Type 0} → (S → List ℕ → S → Type 0) → S → List (List ℕ) → S → Type 0
Puts {S} took old [] new = new ≡ old
Puts {S} took old (piece ∷ pieces) new = (mid : S) × took old piece mid × Puts took mid pieces new

-- A put failed before all bytes were put: of the pieces that the bytes are cut into, those before it were taken whole, a
-- front of it may have been kept, and none after it was put.
pub record IsCutShort {S : Type 0} (held : S → Option (List ℕ)) (took failed : S → List ℕ → S → Type 0) (old new : S) (bytes : List ℕ) : Type 0 where
  pub pieces : List (List ℕ)
  pub piece : List ℕ
  pub later : List (List ℕ)
  pub last : S
  pub cut : joined (pieces ++ piece ∷ later) ≡ bytes
  pub sizes : ArePieces (pieces ++ piece ∷ later)
  pub puts : Puts took old pieces last
  pub broke : failed last piece new
  pub part : IfSome (held old) (λ before. (kept : ℕ) × (held new ≡ Some (before ++ joined pieces ++ take kept piece)))

-- The bytes are put on the sink, in pieces and whole.
pub record IsWritten {S : Type 0} (held : S → Option (List ℕ)) (took : S → List ℕ → S → Type 0) (old new : S) (bytes : List ℕ) : Type 0 where
  pub whole : IfSome (held old) (λ before. held new ≡ Some (before ++ bytes))
  pub pieces : List (List ℕ)
  pub cut : joined pieces ≡ bytes
  pub sizes : ArePieces pieces
  pub puts : Puts took old pieces new

-- one put of the line, which was taken whole
pub record IsTold {S : Type 0} (held : S → Option (List ℕ)) (took : S → List ℕ → S → Type 0) (old new : S) (line : List ℕ) : Type 0 where
  pub whole : IfSome (held old) (λ before. held new ≡ Some (before ++ line))
  pub put : took old line new

-- one put of the line, which failed, and a front of the line stands there
pub record IsHalfTold {S : Type 0} (held : S → Option (List ℕ)) (failed : S → List ℕ → S → Type 0) (old new : S) (line : List ℕ) : Type 0 where
  pub part : IfSome (held old) (λ before. (kept : ℕ) × (held new ≡ Some (before ++ take kept line)))
  pub put : failed old line new
