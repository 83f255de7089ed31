use Rattle.std.proofs.Common.{◌<◌, length, rules, sym, ◌∙◌, subst}
use Rattle.std.specs.Option.{IsSome}
use Rattle.span_tree.specs.History.{IsParent}
use Rattle.span_tree.proofs.Keeping.{parent_read}
use Rattle.span_tree.proofs.Ways.{parent_of}
use Rattle.span_tree.proofs.history.History.branch_to.Goals as goal

pub unwrap-parent-requires : goal.unwrap-parent-requires
unwrap-parent-requires c =
    let rows = c.self.inside.rows.items in
    let within : c.args.row < length rows = subst (λ h. c.args.row < length h) (sym c.self.view_is) c.requires.inside in
    let found = c.self.invariant.numbered.parent c.args.row c.requires.some within in
    subst IsSome (sym (c.parent.ensures ∙ parent_read rows c.args.row c.index.result.now within c.index.ensures ∙ found.1.named)) (search rules)

pub returns-clause-parent : goal.returns-clause-parent
returns-clause-parent c =
    let rows = c.self.inside.rows.items in
    let within : c.args.row < length rows = subst (λ h. c.args.row < length h) (sym c.self.view_is) c.requires.inside in
    let named = sym (parent_read rows c.args.row c.index.result.now within c.index.ensures) ∙ sym c.parent.ensures ∙ c.unwrap-parent.ensures in
    subst (λ h. IsParent h c.args.row c.unwrap-parent.result) c.self.view_is (parent_of rows c.self.invariant.numbered c.args.row c.unwrap-parent.result named)
