-- What text spells what tree, and where and why a text spells none.
use Rattle.std.specs.Prelude.{◌≡◌, ℕ, suc, ◌<◌, ◌≤◌, Bool, true, not, ◌&&◌, ◌||◌, nat_le, ◌⊎◌, IsTrue, Some, List, [], ◌∷◌, ◌++◌, length, take, slice_get}
use Rattle.std.specs.List.{list_all}
use Rattle.cilk_tree.specs.declared.tree.Program.{Program}
use Rattle.cilk_tree.specs.declared.count.Count.{Count}
use Rattle.cilk_tree.specs.Counts.{passes_limit, is_long}
use Rattle.cilk_tree.specs.declared.kind.Kind.{Kind}
use Rattle.cilk_tree.specs.declared.kind.Kind.TheVariants.{BadByte, BadNumber, Unexpected, TooDeep, TooMany}
use Rattle.cilk_tree.specs.Kind.{kind_number}
use Rattle.cilk_tree.specs.Levels.{Spelled, spell_source, source_tokens}
use Rattle.cilk_tree.specs.declared.ending.Ending.{Ending}
use Rattle.cilk_tree.specs.declared.ending.Ending.TheVariants.{Reached, Stopped}
use Rattle.cilk_tree.specs.declared.token.Placed.{Placed}
use Rattle.cilk_tree.specs.Lexeme.{Divides, tokens_of}
use Rattle.cilk_tree.specs.Sugar.{source_tree}
use Rattle.cilk_tree.specs.Syntax.{Source, IsWellFormed}
use Rattle.cilk_tree.specs.declared.token.Token.{Token}

-- ---- limits

abbrev pub is_shallow : Spelled → Bool
is_shallow spelled = nat_le spelled.level 64

-- For each token whether a limit is passed with it, by a name that is too long or by a count, where these are the counts of the
-- tokens before.
abbrev pub passes : List Count → List Spelled → List Bool
passes before [] = []
passes before (spelled ∷ more) = (passes_limit before spelled.counts || is_long spelled.token) ∷ passes (before ++ spelled.counts) more

-- No token has a level above 64, and no limit is passed.
abbrev pub is_within_limits : Source → Bool
is_within_limits source = list_all is_shallow (spell_source source) && list_all not (passes [] (spell_source source))

-- ---- spellings

-- Some concrete syntax that keeps the rules has these tokens and stands for this tree.
pub record IsProgram (tokens : List Token) (program : Program) : Type 0 where
  pub source : Source
  pub formed : IsWellFormed source
  pub same : tokens ≡ source_tokens source
  pub limits : IsTrue (is_within_limits source)
  pub tree : program ≡ source_tree source

-- The text spells the tree.
abbrev pub Spells : List ℕ → Program → Type 0
Spells text program = (places : List Placed) × Divides 0 text places Reached × IsProgram (tokens_of places) program

-- ---- refusals

-- The well-formed syntax has tokens that begin with these.
pub record BeginsWith (source : Source) (tokens : List Token) : Type 0 where
  pub formed : IsWellFormed source
  pub rest : List Token
  pub same : source_tokens source ≡ tokens ++ rest

-- No program has tokens that begin with those up to this place.
abbrev pub IsUnexpected : List Token → ℕ → Type 0
IsUnexpected tokens place = (place < length tokens) × ((source : Source) → BeginsWith source (take (suc place) tokens) → ⊥)

-- Some program begins with the tokens up to this place, and has a level above 64 there. The tokens up to a place fix its
-- level, so one program speaks for all; its counts they do not always fix (`int NAME`).
pub record IsTooDeep (tokens : List Token) (place : ℕ) : Type 0 where
  pub inside : place < length tokens
  pub source : Source
  pub begins : BeginsWith source (take (suc place) tokens)
  pub spelled : Spelled
  pub there : slice_get (spell_source source) place ≡ Some spelled
  pub deep : 64 < spelled.level

-- Some program begins with the tokens up to this place or to a later one, and all that do pass a limit with the token at this
-- place. A later one is needed where `int NAME` begins an array or a function, which the token behind it alone shows.
pub record IsTooMany (tokens : List Token) (place : ℕ) : Type 0 where
  pub seen : ℕ
  pub behind : place < seen
  pub inside : seen ≤ length tokens
  pub source : Source
  pub begins : BeginsWith source (take seen tokens)
  pub passed : (other : Source) → BeginsWith other (take seen tokens) → slice_get (passes [] (spell_source other)) place ≡ Some true

-- what is wrong with a token
abbrev pub IsTokenFault : List Token → ℕ → Kind → Type 0
IsTokenFault tokens place BadByte = ⊥
IsTokenFault tokens place BadNumber = ⊥
IsTokenFault tokens place Unexpected = IsUnexpected tokens place
IsTokenFault tokens place TooDeep = IsTooDeep tokens place
IsTokenFault tokens place TooMany = IsTooMany tokens place

-- a token with a fault, of which the first byte has this offset
pub record IsFaultAt (places : List Placed) (kind : Kind) (offset : ℕ) : Type 0 where
  pub place : ℕ
  pub placed : Placed
  pub there : slice_get places place ≡ Some placed
  pub same : offset ≡ placed.offset
  pub fault : IsTokenFault (tokens_of places) place kind

-- What is wrong where the tokens end, in a text of this size: it stops before something that is no token, or its tokens are
-- those of no program.
abbrev pub IsEndFault : ℕ → List Token → Ending → Kind → ℕ → Type 0
IsEndFault size tokens Reached kind offset =
    (kind ≡ Unexpected) × (offset ≡ size) × ((source : Source) → IsWellFormed source → tokens ≡ source_tokens source → ⊥)
IsEndFault size tokens (Stopped reason place) kind offset = (kind ≡ reason) × (offset ≡ place)

abbrev pub IsFault : ℕ → List Placed → Ending → Kind → ℕ → Type 0
IsFault size places ending kind offset = IsFaultAt places kind offset ⊎ IsEndFault size (tokens_of places) ending kind offset

-- An offset before another, or the same one with a kind that comes no later.
abbrev pub IsNoLater : ℕ → Kind → ℕ → Kind → Type 0
IsNoLater offset kind other_offset other = (offset < other_offset) ⊎ ((offset ≡ other_offset) × (kind_number kind ≤ kind_number other))

-- The text is refused for what is wrong at the smallest offset, and at one offset for the kind with the smallest number.
pub record IsRefusal (text : List ℕ) (kind : Kind) (offset : ℕ) : Type 0 where
  pub places : List Placed
  pub ending : Ending
  pub divides : Divides 0 text places ending
  pub fault : IsFault (length text) places ending kind offset
  pub first : (other : Kind) (other_offset : ℕ) → IsFault (length text) places ending other other_offset → IsNoLater offset kind other_offset other
