use Rattle.std.proofs.Common.{◌≡◌, ◌≢◌, get_or, Some, sym, ap, ◌∙◌, subst}
use Rattle.span_tree.specs.History.{row_at}
use Rattle.span_tree.specs.Recording.{Recorded}
use Rattle.span_tree.proofs.Running.{has_parent, parent_is, parent_runs}
use Rattle.span_tree.proofs.recording.Recording.leave.Goals as goal

not_main : (c : goal.After-parent) → c.self.inside.row ≢ 0
not_main c = λ e. c.requires (sym (ap (λ (r : Recorded). r.row) c.self.view_is) ∙ e)

read : (c : goal.After-parent) → c.index-rows-self.result ≡ get_or c.self.inside.history c.self.inside.row c.index-rows-self.result
read c = c.index-rows-self.is ∙ ap (λ rows. get_or rows c.self.inside.row c.index-rows-self.result) c.rows.ensures.rows

pub unwrap-requires : goal.unwrap-requires
unwrap-requires c = has_parent c.self.inside.history c.self.inside.row c.self.invariant (not_main c) c.index-rows-self.result (read c) c.parent.result c.parent.ensures

pub invariant_of-self : goal.invariant_of-self
invariant_of-self c =
    parent_runs c.self.inside.history c.self.inside.row c.self.invariant (λ e. c.requires (sym (ap (λ (r : Recorded). r.row) c.self.view_is) ∙ e)) c.index-rows-self.result
    (c.index-rows-self.is ∙ ap (λ rows. get_or rows c.self.inside.row c.index-rows-self.result) c.rows.ensures.rows) c.parent.result c.unwrap.result c.parent.ensures c.unwrap.ensures

pub returns-clause-parent : goal.returns-clause-parent
returns-clause-parent c = (
  c.unwrap.result.act,
  subst (λ (r : Recorded). (row_at r.history r.row).parent ≡ Some c.unwrap.result) c.self.view_is
      (parent_is c.self.inside.history c.self.inside.row c.self.invariant (λ e. c.requires (sym (ap (λ (r : Recorded). r.row) c.self.view_is) ∙ e)) c.index-rows-self.result
      (c.index-rows-self.is ∙ ap (λ rows. get_or rows c.self.inside.row c.index-rows-self.result) c.rows.ensures.rows) c.parent.result c.unwrap.result c.parent.ensures c.unwrap.ensures),
)
