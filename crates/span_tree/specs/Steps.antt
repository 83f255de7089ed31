-- What a row keeps with its acts.
use Rattle.std.specs.Prelude.{◌≡◌, ℕ, ◌+◌, ◌<◌, ◌^◌, List, [], ◌∷◌, length, map}
use Rattle.span_tree.specs.declared.act.Act.{Act}
use Rattle.span_tree.specs.declared.act.Act.TheVariants.{Read, Write, Add, Print, Spawn, Sync}
use Rattle.span_tree.specs.declared.row.Step.{Step}

abbrev pub acts_of : List Step → List Act
acts_of steps = map (λ (step : Step). step.act) steps

-- the count of Syncs with this act
abbrev pub syncs_with : ℕ → Act → ℕ
syncs_with count Sync = count + 1
syncs_with count (Read word value) = count
syncs_with count (Write word value) = count
syncs_with count (Add word old addend) = count
syncs_with count (Print value) = count
syncs_with count (Spawn child) = count

-- each act has the count of the Syncs up to it
abbrev pub CountFrom : ℕ → List Step → Type 0
CountFrom count [] = Unit {0}
CountFrom count (step ∷ steps) = (step.syncs ≡ syncs_with count step.act) × CountFrom step.syncs steps

-- the count up to the last act
abbrev pub count_after : ℕ → List Step → ℕ
count_after count [] = count
count_after count (step ∷ steps) = count_after step.syncs steps

pub record AreCounted (steps : List Step) : Type 0 where
  pub syncs : CountFrom 0 steps
  pub within : length steps < 2 ^ 32
