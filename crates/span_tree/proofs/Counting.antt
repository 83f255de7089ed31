-- The counts of Syncs that a row keeps: two acts have the same one exactly where no Sync stands behind the first up to the second.
use Rattle.std.proofs.Common.{◌≡◌, ◌≢◌, ◌⊎◌, ℕ, zero, suc, ◌+◌, ◌-◌, ◌<◌, ◌≤◌, List, [], ◌∷◌, ◌++◌, length, get_or, Some, refl, sym, ap, ◌∙◌, inl, inr, arith}
use Rattle.std.specs.Prelude.{slice_get}
use Rattle.span_tree.specs.declared.act.Act.{Act}
use Rattle.span_tree.specs.declared.act.Act.TheVariants.{Read, Write, Add, Print, Spawn, Sync}
use Rattle.span_tree.specs.declared.row.Step.{Step}
use Rattle.span_tree.specs.Dag.{NoSync}
use Rattle.span_tree.specs.Steps.{acts_of, syncs_with, CountFrom, count_after}

-- ---- one step more

pub counted_more : (count : ℕ) (steps : List Step) (step : Step) → CountFrom count steps → step.syncs ≡ syncs_with (count_after count steps) step.act → CountFrom count (steps ++ step ∷ [])
counted_more count [] step h e = (e, tt)
counted_more count (s ∷ steps) step h e = (h.0, counted_more s.syncs steps step h.1 e)

pub acts_more : (steps : List Step) (step : Step) → acts_of (steps ++ step ∷ []) ≡ acts_of steps ++ step.act ∷ []
acts_more [] step = refl
acts_more (s ∷ steps) step = ap (λ l. s.act ∷ l) (acts_more steps step)

pub acts_length : (steps : List Step) → length (acts_of steps) ≡ length steps
acts_length [] = refl
acts_length (s ∷ steps) = ap suc (acts_length steps)

one_more : (count : ℕ) (act : Act) → syncs_with count act ≤ count + 1
one_more count Sync = omega arith
one_more count (Read word value) = omega arith
one_more count (Write word value) = omega arith
one_more count (Add word old addend) = omega arith
one_more count (Print value) = omega arith
one_more count (Spawn child) = omega arith

no_fewer : (count : ℕ) (act : Act) → count ≤ syncs_with count act
no_fewer count Sync = omega arith
no_fewer count (Read word value) = omega arith
no_fewer count (Write word value) = omega arith
no_fewer count (Add word old addend) = omega arith
no_fewer count (Print value) = omega arith
no_fewer count (Spawn child) = omega arith

-- there are no more Syncs than acts
pub count_within : (count : ℕ) (steps : List Step) → CountFrom count steps → count_after count steps ≤ count + length steps
count_within count [] h = omega arith
count_within count (s ∷ steps) h = omega (arith, h.0, one_more count s.act, count_within s.syncs steps h.1)

-- ---- two acts

abbrev Quiet : List Step → ℕ → Type 0
Quiet steps j = (k : ℕ) → k ≤ j → slice_get (acts_of steps) k ≢ Some Sync

rises : (count : ℕ) (steps : List Step) (j : ℕ) (d : Step) → CountFrom count steps → j < length steps → count ≤ (get_or steps j d).syncs
rises count [] j d h lt = absurd (omega arith)
rises count (s ∷ steps) zero d h lt = omega (arith, h.0, no_fewer count s.act)
rises count (s ∷ steps) (suc j) d h lt = omega (arith, h.0, no_fewer count s.act, rises s.syncs steps j d h.1 (omega (arith, lt)))

-- a Sync has counted
sync_counts : (count : ℕ) (act : Act) → act ≡ Sync → syncs_with count act ≡ count + 1
sync_counts count act e = ap (syncs_with count) e

same_or_sync : (count : ℕ) (act : Act) → (act ≡ Sync) ⊎ (syncs_with count act ≡ count)
same_or_sync count Sync = inl refl
same_or_sync count (Read word value) = inr refl
same_or_sync count (Write word value) = inr refl
same_or_sync count (Add word old addend) = inr refl
same_or_sync count (Print value) = inr refl
same_or_sync count (Spawn child) = inr refl

some_act : (a b : Act) → Some a ≡ Some b → a ≡ b
some_act a b e = cc

quiet_from : (count : ℕ) (steps : List Step) (j : ℕ) (d : Step) → CountFrom count steps → j < length steps → (get_or steps j d).syncs ≡ count → Quiet steps j
quiet_from count [] j d h lt e k le is = absurd (omega arith)
quiet_from count (s ∷ steps) zero d h lt e zero le is = let n = sync_counts count s.act (some_act s.act Sync is) in absurd (omega (arith, n, h.0, e))
quiet_from count (s ∷ steps) zero d h lt e (suc k) le is = absurd (omega arith)
quiet_from count (s ∷ steps) (suc j) d h lt e zero le is =
    let n = sync_counts count s.act (some_act s.act Sync is) in absurd (omega (arith, n, h.0, e, rises s.syncs steps j d h.1 (omega (arith, lt))))
quiet_from count (s ∷ steps) (suc j) d h lt e (suc k) le is =
    let same : (get_or steps j d).syncs ≡ s.syncs = omega (arith, h.0, e, no_fewer count s.act, rises s.syncs steps j d h.1 (omega (arith, lt))) in
    quiet_from s.syncs steps j d h.1 (omega (arith, lt)) same k (omega (arith, le)) is

count_still : (count : ℕ) (s : Step) (steps : List Step) (j : ℕ) → s.syncs ≡ syncs_with count s.act → Quiet (s ∷ steps) j → s.syncs ≡ count
count_still count s steps j e quiet = go (same_or_sync count s.act)
  where
    go : (s.act ≡ Sync) ⊎ (syncs_with count s.act ≡ count) → s.syncs ≡ count
    go (inl is) = absurd (quiet 0 (omega arith) (ap (λ a. Some a) is))
    go (inr is) = e ∙ is

count_from : (count : ℕ) (steps : List Step) (j : ℕ) (d : Step) → CountFrom count steps → j < length steps → Quiet steps j → (get_or steps j d).syncs ≡ count
count_from count [] j d h lt quiet = absurd (omega arith)
count_from count (s ∷ steps) zero d h lt quiet = count_still count s steps 0 h.0 quiet
count_from count (s ∷ steps) (suc j) d h lt quiet =
    count_from s.syncs steps j d h.1 (omega (arith, lt)) (λ k le. quiet (suc k) (omega (arith, le))) ∙ count_still count s steps (suc j) h.0 quiet

pub unsynced_from_counts : (count : ℕ) (steps : List Step) (i j : ℕ) (d e : Step) → CountFrom count steps → i < j → j < length steps →
    (get_or steps i d).syncs ≡ (get_or steps j e).syncs → NoSync (acts_of steps) i j
unsynced_from_counts count [] i j d e h lt within same k after before is = absurd (omega arith)
unsynced_from_counts count (s ∷ steps) zero zero d e h lt within same k after before is = absurd (omega arith)
unsynced_from_counts count (s ∷ steps) zero (suc j) d e h lt within same zero after before is = absurd (omega arith)
unsynced_from_counts count (s ∷ steps) zero (suc j) d e h lt within same (suc k) after before is =
    quiet_from s.syncs steps j e h.1 (omega (arith, within)) (sym same) k (omega (arith, before)) is
unsynced_from_counts count (s ∷ steps) (suc i) zero d e h lt within same k after before is = absurd (omega arith)
unsynced_from_counts count (s ∷ steps) (suc i) (suc j) d e h lt within same zero after before is = absurd (omega arith)
unsynced_from_counts count (s ∷ steps) (suc i) (suc j) d e h lt within same (suc k) after before is =
    unsynced_from_counts s.syncs steps i j d e h.1 (omega (arith, lt)) (omega (arith, within)) same k (omega (arith, after)) (omega (arith, before)) is

pub counts_from_unsynced : (count : ℕ) (steps : List Step) (i j : ℕ) (d e : Step) → CountFrom count steps → i < j → j < length steps →
    NoSync (acts_of steps) i j → (get_or steps i d).syncs ≡ (get_or steps j e).syncs
counts_from_unsynced count [] i j d e h lt within quiet = absurd (omega arith)
counts_from_unsynced count (s ∷ steps) zero zero d e h lt within quiet = absurd (omega arith)
counts_from_unsynced count (s ∷ steps) zero (suc j) d e h lt within quiet =
    sym (count_from s.syncs steps j e h.1 (omega (arith, within)) (λ k le. quiet (suc k) (omega arith) (omega (arith, le))))
counts_from_unsynced count (s ∷ steps) (suc i) zero d e h lt within quiet = absurd (omega arith)
counts_from_unsynced count (s ∷ steps) (suc i) (suc j) d e h lt within quiet =
    counts_from_unsynced s.syncs steps i j d e h.1 (omega (arith, lt)) (omega (arith, within)) (λ k after before. quiet (suc k) (omega (arith, after)) (omega (arith, before)))

-- the count of the last act
pub latest_count : (count : ℕ) (steps : List Step) (step : Step) → slice_get steps (length steps - 1) ≡ Some step → count_after count steps ≡ step.syncs
latest_count count [] step e = absurd cc
latest_count count (s ∷ []) step e = let same : s ≡ step = cc in ap (λ (t : Step). t.syncs) same
latest_count count (s ∷ t ∷ steps) step e =
    let last : length (s ∷ t ∷ steps) - 1 ≡ suc (length (t ∷ steps) - 1) = omega arith in
    latest_count s.syncs (t ∷ steps) step (ap (λ n. slice_get (s ∷ t ∷ steps) n) (sym last) ∙ e)
