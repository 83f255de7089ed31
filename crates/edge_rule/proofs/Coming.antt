-- Whether the children before a place have come.
use Rattle.std.proofs.Common.{◌≡◌, ℕ, ◌+◌, ◌<◌, ◌≤◌, true, false, ◌&&◌, List, length, take, get_or, sym, ap, ◌∙◌}
use Rattle.std.proofs.lemmas.List.{take_all}
use Rattle.std.proofs.lemmas.List.Folds.{list_all_at, list_all_more}
use Rattle.std.specs.Prelude.{Bool, is_some}
use Rattle.std.specs.BTreeMap.{is_at}
use Rattle.std.specs.Map.{lookup}
use Rattle.std.specs.Ordering.{nat_cmp}
use Rattle.page_messages.specs.declared.closure.Child.{Child}
use Rattle.edge_rule.specs.Joins.{Values, have_come, value_of}
use Rattle.edge_rule.proofs.Changing.{read_at}

module _ (came : Values) (children : List Child) (place : ℕ) where
  abbrev has_come : Child → Bool
  has_come child = is_some (value_of came child.index)

  pub one_missing : (default : Child) → place < length children → is_some (lookup (is_at (nat_cmp (get_or children place default).index)) came) ≡ false → false ≡ have_come came children
  one_missing default within missing =
      sym (list_all_at has_come children place default within (ap is_some (sym (read_at (get_or children place default).index came)) ∙ missing))

  pub one_more : (default : Child) → place < length children → have_come came (take place children) ≡ true → is_some (lookup (is_at (nat_cmp (get_or children place default).index)) came) ≡ true →
      have_come came (take (place + 1) children) ≡ true
  one_more default within before here =
      list_all_more has_come children place default within
      ∙ (λ i. before i && (ap is_some (sym (read_at (get_or children place default).index came)) ∙ here) i)

  pub all_come : length children ≤ place → have_come came (take place children) ≡ true → true ≡ have_come came children
  all_come whole before = sym before ∙ ap (have_come came) (take_all place children whole)
