-- What the rules leave of the statements of a lawful source.
use Rattle.std.proofs.Common.{◌≡◌, ℕ, [], ◌++◌, Some, sym, ap, ◌∙◌}
use Rattle.std.specs.Option.{option_map_or}
use Rattle.std.specs.Prelude.{false, slice_get}
use Rattle.cilk_tree.specs.declared.place.CheckPlace.TheVariants as place
use Rattle.cilk_tree.specs.declared.rule.Rule.TheVariants as rule
use Rattle.cilk_tree.specs.declared.tree.Function.{Function}
use Rattle.cilk_tree.specs.declared.tree.Program.{Program}
use Rattle.cilk_tree.specs.Lawful.Flow.{Site, sites, flow_of}
use Rattle.cilk_tree.specs.Lawful.Lawful.{IsLawful}
use Rattle.cilk_tree.specs.Lawful.Rules.{head_uses, declares_again, uses_unknown, uses_wrong, has_wrong_arity, lacks_value, spawns_in_plain, calls_cilk, spawns_plain, kind_if, statement_kinds, kinds_in}
use Rattle.cilk_meaning.proofs.Parting.{Each, each_of, nil_left, nil_right, not_broken}
use Rattle.lawful_program.proofs.Uses.{AreRight, all_right}

-- a site of this function that keeps the rules on names, calls and spawns
pub record IsClean (source : Program) (function : Function) (site : Site) : Type 0 where
  pub right : AreRight source site.point.scope (head_uses site.head)
  pub arity : has_wrong_arity source site.point site.head ≡ false
  pub inside : spawns_in_plain function site.head ≡ false
  pub calls : calls_cilk source site.point site.head ≡ false
  pub spawns : spawns_plain source site.point site.head ≡ false

clean : (source : Program) (function : Function) (site : Site) → statement_kinds source function site ≡ [] → IsClean source function site
clean source function site e =
    let k1 = kind_if (declares_again source site.point site.head) rule.DuplicateName in
    let k2 = kind_if (uses_unknown source site.point site.head) rule.UnknownName in
    let k3 = kind_if (uses_wrong source site.point site.head) rule.WrongKind in
    let k4 = kind_if (has_wrong_arity source site.point site.head) rule.WrongArity in
    let k5 = kind_if (lacks_value source function site.point site.head) rule.NoValue in
    let k6 = kind_if (spawns_in_plain function site.head) rule.SpawnInPlain in
    let k7 = kind_if (calls_cilk source site.point site.head) rule.CallOfCilk in
    let k8 = kind_if (spawns_plain source site.point site.head) rule.SpawnOfPlain in
    let to7 = nil_left (k1 ++ k2 ++ k3 ++ k4 ++ k5 ++ k6 ++ k7) k8 e in
    let to6 = nil_left (k1 ++ k2 ++ k3 ++ k4 ++ k5 ++ k6) k7 to7 in
    let to5 = nil_left (k1 ++ k2 ++ k3 ++ k4 ++ k5) k6 to6 in
    let to4 = nil_left (k1 ++ k2 ++ k3 ++ k4) k5 to5 in
    let to3 = nil_left (k1 ++ k2 ++ k3) k4 to4 in
    let known = not_broken (uses_unknown source site.point site.head) rule.UnknownName (nil_right k1 k2 (nil_left (k1 ++ k2) k3 to3)) in
    let fit = not_broken (uses_wrong source site.point site.head) rule.WrongKind (nil_right (k1 ++ k2) k3 to3) in
    record {
      right = all_right source site.point.scope (head_uses site.head) known fit;
      arity = not_broken (has_wrong_arity source site.point site.head) rule.WrongArity (nil_right (k1 ++ k2 ++ k3) k4 to4);
      inside = not_broken (spawns_in_plain function site.head) rule.SpawnInPlain (nil_right (k1 ++ k2 ++ k3 ++ k4 ++ k5) k6 to6);
      calls = not_broken (calls_cilk source site.point site.head) rule.CallOfCilk (nil_right (k1 ++ k2 ++ k3 ++ k4 ++ k5 ++ k6) k7 to7);
      spawns = not_broken (spawns_plain source site.point site.head) rule.SpawnOfPlain (nil_right (k1 ++ k2 ++ k3 ++ k4 ++ k5 ++ k6 ++ k7) k8 e);
    }

-- each site of a function of a lawful source does
pub all_clean : (source : Program) → IsLawful source → (number : ℕ) (function : Function) → slice_get source.functions number ≡ Some function → Each (IsClean source function) (sites (flow_of function))
all_clean source lawful number function is = each_of (IsClean source function) (sites (flow_of function)) (λ k site is_site. clean source function site
    (ap (λ o. option_map_or (statement_kinds source function) o []) (sym is_site)
    ∙ ap (λ o. option_map_or (kinds_in source k) o []) (sym is)
    ∙ lawful.rules (place.Statement number k)))
