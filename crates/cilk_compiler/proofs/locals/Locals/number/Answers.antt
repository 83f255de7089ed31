use Rattle.std.proofs.Common.{◌≡◌, reverse, Some, None, ◌∙◌, ap, sym, rules, tests}
use Rattle.std.specs.List.{find}
use Rattle.std.specs.Option.{option_map}
use Rattle.std.specs.Str.{bytes_eq}
use Rattle.std.proofs.lemmas.Iterator.Adapters.{YieldsList-from_rev_slice}
use Rattle.std.proofs.lemmas.Iterator.Search.{find_from_yields_List}
use Rattle.cilk_tree.specs.Lawful.Scope.{Point}
use Rattle.cilk_meaning.specs.Resolving.{local_number}
use Rattle.cilk_compiler.specs.declared.locals.Local.{Local}
use Rattle.cilk_compiler.proofs.Stacks.{number_found}
use Rattle.cilk_compiler.proofs.locals.Locals.number.Goals as goal

pub returns-in-Some : goal.returns-in-Some
returns-in-Some c =
    let stack = c.self.inside.stack.items in
    let name = c.args.name.now in
    let found : option_map (λ y. y.now) c.find.result ≡ find (λ (local : Local). bytes_eq local.name.now name) (reverse stack) =
    find_from_yields_List (λ (local : Local). bytes_eq local.name.now name) _ _ c.find.result c.find.ensures.ran (YieldsList-from_rev_slice stack (cc)) (λ x b q k. search (rules, tests)) in
    number_found stack name (Some c.in-Some.local.now) (sym (ap (option_map (λ y. y.now)) c.in-Some.is) ∙ found)
    ∙ ap (λ (point : Point). local_number point.scope name) c.self.view_is

pub returns-in-None : goal.returns-in-None
returns-in-None c =
    let stack = c.self.inside.stack.items in
    let name = c.args.name.now in
    let found : option_map (λ y. y.now) c.find.result ≡ find (λ (local : Local). bytes_eq local.name.now name) (reverse stack) =
    find_from_yields_List (λ (local : Local). bytes_eq local.name.now name) _ _ c.find.result c.find.ensures.ran (YieldsList-from_rev_slice stack (cc)) (λ x b q k. search (rules, tests)) in
    number_found stack name None (sym (ap (option_map (λ y. y.now)) c.in-None.is) ∙ found)
    ∙ ap (λ (point : Point). local_number point.scope name) c.self.view_is
