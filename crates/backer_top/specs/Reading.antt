-- What the calls on the shelf gave, and the text that a command speaks of.
use Rattle.std.specs.Prelude.{◌≡◌, ◌⊎◌, ℕ, ◌<◌, ◌≤◌, Option, Some, IfSome, IfNone, List, [], ◌∷◌, ◌++◌, length}
use Rattle.std.specs.FinMap as map
use Rattle.command_words.specs.declared.command.Offline.{Offline}
use Rattle.command_words.specs.declared.command.Offline.TheVariants.{Check, Serial, Race}
use Rattle.outside.specs.Device.{Rose}
use Rattle.outside.specs.Shelf.{AreSome, Reads, Texts, joined}
use Rattle.backer_top.specs.declared.status.SourceRefusal.TheVariants.{TooLong}
use Rattle.backer_top.specs.declared.status.Status.{Status}
use Rattle.backer_top.specs.declared.status.Status.TheVariants.{Source, ReadFault, Memory}

-- how many bytes a source may have
abbrev pub source_limit : ℕ
source_limit = 1048576

-- the file that a command names
abbrev pub file_of : Offline → List ℕ
file_of (Check file) = file
file_of (Serial file budget) = file
file_of (Race file budget) = file

-- How a shelf was used for a file: what it tells, what its calls did, and the shelf before and after.
pub record ShelfUse (S : Type 0) : Type 1 where
  pub texts : S → Option Texts
  pub faults : S → List ℕ → ℕ
  pub gave : S → List ℕ → ℕ → ℕ → List ℕ → S → Type 0
  pub failed : S → List ℕ → ℕ → ℕ → S → Type 0
  pub file : List ℕ
  pub old : S
  pub new : S

abbrev pub shelf_use : {S : Type 0} → (S → Option Texts) → (S → List ℕ → ℕ) → (S → List ℕ → ℕ → ℕ → List ℕ → S → Type 0) → (S → List ℕ → ℕ → ℕ → S → Type 0) → List ℕ → S → S → ShelfUse S
shelf_use texts faults gave failed file old new = record { texts = texts; faults = faults; gave = gave; failed = failed; file = file; old = old; new = new }

-- the count of faults of the file rose
abbrev pub ReadFailed : {S : Type 0} → ShelfUse S → Type 0
ReadFailed shelf = Rose (shelf.faults shelf.old shelf.file) (shelf.faults shelf.new shelf.file)

-- where the shelf tells its texts, this is the name's
abbrev pub IsHeld : Option Texts → List ℕ → List ℕ → Type 0
IsHeld texts name text = IfSome texts (λ held. map.get held name ≡ Some text)

-- where the shelf tells a text of the name, this is it
abbrev pub IsTextOf : Option Texts → List ℕ → List ℕ → Type 0
IsTextOf texts name text = IfSome texts (λ held. IfSome (map.get held name) (λ told. text ≡ told))

-- Where the shelf tells its texts, the file's is this one; where reading failed or memory ran out, the file may have none.
abbrev pub IsToldText : {S : Type 0} → ShelfUse S → List ℕ → Status → Type 0
IsToldText shelf text ReadFault = IsTextOf (shelf.texts shelf.old) shelf.file text
IsToldText shelf text Memory = IsTextOf (shelf.texts shelf.old) shelf.file text
IsToldText shelf text status = IsHeld (shelf.texts shelf.old) shelf.file text

-- The calls on the shelf gave the whole text: pieces of it, and then nothing.
pub record GaveWhole {S : Type 0} (shelf : ShelfUse S) (text : List ℕ) : Type 0 where
  pub pieces : List (List ℕ)
  pub some : AreSome pieces
  pub calls : Reads shelf.gave shelf.file shelf.old 0 (pieces ++ [] ∷ []) shelf.new
  pub same : text ≡ joined pieces

-- The calls gave more bytes than a source may have with the last of them. Where no text is told, the text is what they gave.
pub record GaveTooMuch {S : Type 0} (shelf : ShelfUse S) (text : List ℕ) : Type 0 where
  pub pieces : List (List ℕ)
  pub last : List ℕ
  pub some : AreSome (pieces ++ last ∷ [])
  pub calls : Reads shelf.gave shelf.file shelf.old 0 (pieces ++ last ∷ []) shelf.new
  pub within : length (joined pieces) ≤ source_limit
  pub long : source_limit < length (joined (pieces ++ last ∷ []))
  pub same : IfNone (shelf.texts shelf.old) (text ≡ joined (pieces ++ last ∷ []))

-- A call failed, after others that gave bytes, no more than a source may have.
pub record GaveUp {S : Type 0} (shelf : ShelfUse S) : Type 0 where
  pub pieces : List (List ℕ)
  pub last : S
  pub some : AreSome pieces
  pub calls : Reads shelf.gave shelf.file shelf.old 0 pieces last
  pub within : length (joined pieces) ≤ source_limit
  pub broke : shelf.failed last shelf.file (length (joined pieces)) 4096 shelf.new

-- The calls gave bytes, no more than a source may have; the last of them may have given none.
pub record GaveSome {S : Type 0} (shelf : ShelfUse S) : Type 0 where
  pub pieces : List (List ℕ)
  pub last : List ℕ
  pub some : AreSome pieces
  pub calls : Reads shelf.gave shelf.file shelf.old 0 (pieces ++ last ∷ []) shelf.new
  pub within : length (joined (pieces ++ last ∷ [])) ≤ source_limit

-- What the calls on the shelf gave, by how the command ended. Memory may run out before the first of them.
abbrev pub HasCalls : {S : Type 0} → ShelfUse S → List ℕ → Status → Type 0
HasCalls shelf text (Source TooLong) = GaveTooMuch shelf text
HasCalls shelf text ReadFault = GaveUp shelf
HasCalls shelf text Memory = (shelf.new ≡ shelf.old) ⊎ GaveSome shelf
HasCalls shelf text status = GaveWhole shelf text

-- why no text within the limit was read
abbrev pub IsUnread : {S : Type 0} → ShelfUse S → List ℕ → Status → Type 0
IsUnread shelf text (Source TooLong) = source_limit < length text
IsUnread shelf text ReadFault = ReadFailed shelf
IsUnread shelf text Memory = Unit {0}
IsUnread shelf text _ = ⊥

-- The shelf gave no text within the limit.
pub record StopsReading {S : Type 0} (shelf : ShelfUse S) (text : List ℕ) (status : Status) : Type 0 where
  pub told : IsToldText shelf text status
  pub calls : HasCalls shelf text status
  pub cause : IsUnread shelf text status

-- The shelf gave this text, which is within the limit.
pub record ReadsWhole {S : Type 0} (shelf : ShelfUse S) (text : List ℕ) : Type 0 where
  pub short : length text ≤ source_limit
  pub told : IsHeld (shelf.texts shelf.old) shelf.file text
  pub calls : GaveWhole shelf text
