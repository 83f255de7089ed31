-- The row that runs stays open.
use Rattle.std.proofs.Common.{◌≡◌, ◌≢◌, ℕ, zero, suc, ◌<◌, ◌≤◌, List, [], ◌∷◌, length, get_or, Option, Some, None, Result, Ok, Err, refl, sym, ap, ◌∙◌, subst, arith, length-append}
use Rattle.std.specs.Option.{IsSome}
use Rattle.std.specs.Prelude.{ℤ, true, OnOk, OnErr, slice_get}
use Rattle.span_tree.specs.declared.act.Act.{Act}
use Rattle.span_tree.specs.declared.act.Act.TheVariants.{Spawn}
use Rattle.span_tree.specs.declared.act.Place.{Place}
use Rattle.span_tree.specs.History.{Row, History, row_at, IsNumbered, IsParent}
use Rattle.span_tree.specs.Recording.{first_history, with_act, next_place, with_child, IsOpen, Main, Child, IsRunning, spawns_none}
use Rattle.span_tree.proofs.Ways.{parent_of, some_same, none_is}
use Rattle.span_tree.proofs.Keeping.{parent_read}
use Rattle.span_tree.proofs.Growing.{OneMore, with_parent, with_one, one', child_parent, new_row, open_inside, act_numbered, child_numbered, spawns_nothing}

-- a row above an open row is open
pub open_parent : (h : History) (row : ℕ) (place : Place) → row ≢ 0 → (row_at h row).parent ≡ Some place → IsOpen h row → IsOpen h place.row
open_parent h _ place ne e Main = absurd (ne refl)
open_parent h row place ne e (Child _ other f last up) = subst (λ (p : Place). IsOpen h p.row) (some_same other place (sym f ∙ e)) up

-- rows up to the one that has one act more are open as they were
still_open : (h : History) → IsNumbered h → (more : History) (row : ℕ) (act : Act) → OneMore h more row act → ((q : ℕ) → q ≤ row → (row_at more q).parent ≡ (row_at h q).parent) →
    (q : ℕ) → q ≤ row → IsOpen h q → IsOpen more q
still_open h numbered more row act one parents _ le Main = Main
still_open h numbered more row act one parents q le (Child _ place e last up) =
    let before : place.row < q = (parent_of h numbered q place e).before in
    Child q place (parents q le ∙ e) (ap length (one.others place.row (λ same. omega (arith, same, before, le))) ∙ last)
    (still_open h numbered more row act one parents place.row (omega (arith, before, le)) up)

module _ (h : History) (row : ℕ) (running : IsRunning h row) where
  abbrev inside : row < length h
  inside = open_inside h running.numbered row running.runs

  pub act_runs : (act : Act) → spawns_none act ≡ true → IsRunning (with_act row act h) row
  act_runs act plain = record {
    numbered = act_numbered h running.numbered row act running.runs plain;
    runs = still_open h running.numbered (with_act row act h) row act (with_one h row act inside (λ child e. absurd (spawns_nothing act child plain e)))
        (λ q le. with_parent h row act inside q) row (omega arith) running.runs;
  }

  pub act_runs_on : (act : Act) (h' : History) → spawns_none act ≡ true → {A B : Type 0} (result : Result A B) → OnOk result (h' ≡ with_act row act h) → OnErr result (h' ≡ h) → IsRunning h' row
  act_runs_on act h' plain (Ok value) made kept = subst (λ g. IsRunning g row) (sym made) (act_runs act plain)
  act_runs_on act h' plain (Err error) made kept = subst (λ g. IsRunning g row) (sym kept) running

  pub child_runs : (proc : ℕ) (args : List ℤ) → IsRunning (with_child row proc args h) (length h)
  child_runs proc args =
      let next = with_child row proc args h in
      let one = one' h row proc args inside in
      record {
        numbered = child_numbered h running.numbered row proc args running.runs;
        runs = Child (length h) (next_place row h) (ap (λ (r : Row). r.parent) (new_row h row proc args inside))
            (ap length one.here ∙ (omega (arith, length-append (row_at h row).acts (Spawn (length h) ∷ []))))
            (still_open h running.numbered next row (Spawn (length h)) one (λ q le. child_parent h row proc args inside q (omega (arith, le, inside))) row (omega arith) running.runs);
      }

-- before the first act
no_act : (main row k : ℕ) (act : Act) → slice_get (row_at (first_history main) row).acts k ≡ Some act → ⊥
no_act main zero k act e = none_is None act refl e
no_act main (suc row) k act e = none_is None act refl e

pub first_runs : (main : ℕ) → IsRunning (first_history main) 0
first_runs main = record {
  numbered = record {
    some = omega arith;
    main = refl;
    main_args = refl;
    preorder = refl;
    parent = λ row some lt. absurd (omega (arith, some, lt));
    child = λ place row e. absurd (no_act main place.row place.act (Spawn row) e);
  };
  runs = Main;
}

-- the parent of a row that is not `main`
module _ (h : History) (row : ℕ) (running : IsRunning h row) (ne : row ≢ 0) (read : Row) (is : read ≡ get_or h row read) where
  parent_there : (place : Place) × IsParent h row place
  parent_there = running.numbered.parent row (omega (arith, ne)) (open_inside h running.numbered row running.runs)

  pub has_parent : (o : Option Place) → o ≡ read.parent → IsSome o
  has_parent o e =
      subst (λ p. IsSome p) (sym (e ∙ parent_read h row read (open_inside h running.numbered row running.runs) is ∙ (parent_there).1.named)) refl

  pub parent_is : (o : Option Place) (place : Place) → o ≡ read.parent → o ≡ Some place → (row_at h row).parent ≡ Some place
  parent_is o place e some = sym (parent_read h row read (open_inside h running.numbered row running.runs) is) ∙ sym e ∙ some

  pub parent_runs : (o : Option Place) (place : Place) → o ≡ read.parent → o ≡ Some place → IsRunning h place.row
  parent_runs o place e some = record { numbered = running.numbered; runs = open_parent h row place ne (parent_is o place e some) running.runs }
