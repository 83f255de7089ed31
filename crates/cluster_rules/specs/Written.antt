-- What the rules say in words, as places in the past of a node: since and last, with no recursion. Each follows from the rule as
-- it is defined.
use Rattle.std.specs.Prelude.{◌≡◌, ◌||◌, ℕ, ℤ, true, false, Some, None, List, ◌∷◌, ◌++◌}
use Rattle.std.specs.List.{list_any}
use Rattle.cluster_rules.specs.Walking.{given}
use Rattle.cluster_rules.specs.Turns.{Event, Past}
use Rattle.cluster_rules.specs.Node.{Node, page_of}
use Rattle.cluster_rules.specs.Cache.{brings, arrives, drops, written, writes}
use Rattle.cluster_rules.specs.Sendings.{sends}
use Rattle.cluster_rules.specs.Home.{changes}

-- Resident access: the page has been resident since this arrival, which had these words.
pub record Arrival (page : ℕ) (past : Past) (words : List ℤ) : Type 0 where
  pub newer : Past
  pub older : Past
  pub event : Event
  pub parts : past ≡ newer ++ event ∷ older
  pub brought : brings page event ≡ Some words
  pub kept : list_any (drops page) newer ≡ false
  pub last : list_any (arrives page) newer ≡ false

-- Cached read: the last Write of the word had this value.
pub record LastWrite (word : ℕ) (value : ℤ) (past : Past) : Type 0 where
  pub newer : Past
  pub older : Past
  pub event : Event
  pub parts : past ≡ newer ++ event ∷ older
  pub wrote : written word event ≡ Some value
  pub last : list_any (writes word) newer ≡ false

-- Marked reconcile: the word was written, and its page has neither arrived nor been sent since.
pub record IsUnsent (node : Node) (word : ℕ) (past : Past) : Type 0 where
  pub newer : Past
  pub older : Past
  pub event : Event
  pub parts : past ≡ newer ++ event ∷ older
  pub wrote : writes word event ≡ true
  pub not_since : list_any (λ event. arrives (page_of node word) event || sends (page_of node word) event) newer ≡ false

-- Home replies: the last change of the stored word left this.
pub record LastChange (node : Node) (word : ℕ) (value : ℤ) (past : Past) : Type 0 where
  pub newer : Past
  pub older : Past
  pub event : Event
  pub parts : past ≡ newer ++ event ∷ older
  pub changed : changes node word event ≡ Some value
  pub last : given (changes node word) newer ≡ None
