-- Which messages, posts and items fit a configuration.
use Rattle.std.specs.Prelude.{◌≡◌, ℕ, ◌<◌, ◌^◌, ℤ, List, [], ◌∷◌, length}
use Rattle.page_words.specs.declared.config.Config.{Config}
use Rattle.page_messages.specs.declared.parts.Part.{Part}
use Rattle.page_messages.specs.declared.message.Body.{Body}
use Rattle.page_messages.specs.declared.message.Body.TheVariants.{Page, Reconcile}
use Rattle.page_messages.specs.declared.post.Note.{Note}
use Rattle.page_messages.specs.declared.post.Note.TheVariants as note
use Rattle.page_messages.specs.declared.log.Item.{Item}
use Rattle.page_messages.specs.declared.log.Item.TheVariants.{OwnFetch, OwnReconcile}

-- the words of one page, word k at place k
abbrev pub ArePageWords : Config → List ℤ → Type 0
ArePageWords config words = length words ≡ config.page_words

-- A part has the words of one page, and marks none beyond them.
pub record PartFits (config : Config) (part : Part) : Type 0 where
  pub words : ArePageWords config part.words
  pub marks : part.mask < 2 ^ config.page_words

-- each number is less than the next one
abbrev pub Ascending : List ℕ → Type 0
Ascending [] = Unit {0}
Ascending (first ∷ []) = Unit {0}
Ascending (first ∷ (second ∷ rest)) = (first < second) × Ascending (second ∷ rest)

abbrev pub pages_of : List Part → List ℕ
pages_of [] = []
pages_of (part ∷ parts) = part.page ∷ pages_of parts

abbrev pub EachFits : Config → List Part → Type 0
EachFits config [] = Unit {0}
EachFits config (part ∷ parts) = PartFits config part × EachFits config parts

-- The parts of one Reconcile fit, and stand by ascending page.
pub record PartsFit (config : Config) (parts : List Part) : Type 0 where
  pub each : EachFits config parts
  pub ascending : Ascending (pages_of parts)

-- What a message says fits the configuration.
abbrev pub BodyFits : Config → Body → Type 0
BodyFits config (Page page words) = ArePageWords config words
BodyFits config (Reconcile parts) = PartsFit config parts
BodyFits config _ = Unit {0}

-- the same of what a log keeps of it
abbrev pub NoteFits : Config → Note → Type 0
NoteFits config (note.Page page words) = ArePageWords config words
NoteFits config (note.Reconcile parts) = PartsFit config parts
NoteFits config _ = Unit {0}

-- What a node does fits the configuration.
abbrev pub ItemFits : Config → Item → Type 0
ItemFits config (OwnFetch page words) = ArePageWords config words
ItemFits config (OwnReconcile part) = PartFits config part
ItemFits config _ = Unit {0}
