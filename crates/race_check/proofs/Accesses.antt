-- Which words an act accesses.
use Rattle.std.proofs.Common.{◌≡◌, ℕ, Option, Some, None, refl, sym, ◌∙◌}
use Rattle.std.proofs.lemmas.Bool.{eqb-true}
use Rattle.std.specs.Prelude.{true}
use Rattle.span_tree.specs.declared.act.Act.{Act}
use Rattle.span_tree.specs.declared.act.Act.TheVariants.{Read, Write, Add, Print, Spawn, Sync}
use Rattle.span_tree.specs.declared.act.Place.{Place}
use Rattle.std.proofs.lemmas.Option.{slice_get_within}
use Rattle.span_tree.specs.History.{History, IsPlace, act_at, row_at}
use Rattle.span_tree.specs.Memory.{accesses, changes, holds_at, is_access, is_change}

-- an act accesses one word at most
pub one_word : (h : History) (place : Place) (a b : ℕ) → is_access h a place ≡ true → is_access h b place ≡ true → a ≡ b
one_word h place a b = of (act_at h place)
  where
    by : (act : Act) → accesses a act ≡ true → accesses b act ≡ true → a ≡ b
    by (Read word value) p q = eqb-true a word p ∙ sym (eqb-true b word q)
    by (Write word value) p q = eqb-true a word p ∙ sym (eqb-true b word q)
    by (Add word old addend) p q = eqb-true a word p ∙ sym (eqb-true b word q)
    by (Print value) p q = absurd cc
    by (Spawn child) p q = absurd cc
    by Sync p q = absurd cc

    of : (act : Option Act) → holds_at (accesses a) act ≡ true → holds_at (accesses b) act ≡ true → a ≡ b
    of None p q = absurd cc
    of (Some act) p q = by act p q

-- a change is an access
pub is_accessed : (h : History) (word : ℕ) (place : Place) → is_change h word place ≡ true → is_access h word place ≡ true
is_accessed h word place = of (act_at h place)
  where
    by : (act : Act) → changes word act ≡ true → accesses word act ≡ true
    by (Write at value) e = e
    by (Add at old addend) e = e
    by (Read at value) e = absurd cc
    by (Print value) e = absurd cc
    by (Spawn child) e = absurd cc
    by Sync e = absurd cc

    of : (act : Option Act) → holds_at (changes word) act ≡ true → holds_at (accesses word) act ≡ true
    of None e = absurd cc
    of (Some act) e = by act e

-- an access stands in its row
pub is_there : (h : History) (word : ℕ) (place : Place) → is_access h word place ≡ true → IsPlace h place
is_there h word place = of (act_at h place) refl
  where
    of : (act : Option Act) → act_at h place ≡ act → holds_at (accesses word) act ≡ true → IsPlace h place
    of None is e = absurd cc
    of (Some act) is e = slice_get_within (row_at h place.row).acts place.act act is
