-- Lawful programs, and the refusal of the others.
use Rattle.std.specs.Prelude.{◌≡◌, ◌⊎◌, ℕ, ◌≤◌, ◌==◌, IsTrue, []}
use Rattle.std.specs.List.{list_any}
use Rattle.cilk_tree.specs.declared.place.CheckPlace.{CheckPlace}
use Rattle.cilk_tree.specs.declared.rule.Rule.TheVariants.{UsedBeforeSync}
use Rattle.cilk_tree.specs.declared.tree.Program.{Program}
use Rattle.cilk_tree.specs.Rule.{rule_number}
use Rattle.cilk_tree.specs.Lawful.Pending.{UsesBeforeSync}
use Rattle.cilk_tree.specs.Lawful.Place.{place_lt}
use Rattle.cilk_tree.specs.Lawful.Rules.{kinds_at}

-- none of 201 to 208, 210 and 211 is broken
abbrev pub KeepsRules : Program → Type 0
KeepsRules program = (place : CheckPlace) → kinds_at program place ≡ []

-- no rule is broken
pub record IsLawful (program : Program) : Type 0 where
  pub rules : KeepsRules program
  pub syncs : (place : CheckPlace) → ¬ UsesBeforeSync program place

-- one of 201 to 208, 210 and 211 is broken here
abbrev pub Breaks : Program → ℕ → CheckPlace → Type 0
Breaks program kind place = IsTrue (list_any (λ other. other == kind) (kinds_at program place))

-- the least place where one of these is broken, and the least kind there
pub record IsFirstBreach (program : Program) (kind : ℕ) (place : CheckPlace) : Type 0 where
  pub broken : Breaks program kind place
  pub no_place_before : (other : CheckPlace) → IsTrue (place_lt other place) → kinds_at program other ≡ []
  pub no_kind_below : (other : ℕ) → Breaks program other place → kind ≤ other

-- only 209 is broken, and this is the least place where it is
pub record IsFirstUse (program : Program) (kind : ℕ) (place : CheckPlace) : Type 0 where
  pub rules : KeepsRules program
  pub of_uses : kind ≡ rule_number UsedBeforeSync
  pub broken : UsesBeforeSync program place
  pub no_place_before : (other : CheckPlace) → IsTrue (place_lt other place) → ¬ UsesBeforeSync program other

-- The refusal of a program that is not lawful.
abbrev pub IsCheckRefusal : Program → ℕ → CheckPlace → Type 0
IsCheckRefusal program kind place = IsFirstBreach program kind place ⊎ IsFirstUse program kind place
