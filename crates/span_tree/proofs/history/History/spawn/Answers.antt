use Rattle.std.proofs.Common.{rules, ◌≡◌, ◌<◌, ◌^◌, ◌∷◌, [], length, arith, sym, ap, ◌∙◌, subst, length-append}
use Rattle.span_tree.specs.Recording.{IsOpen, with_child}
use Rattle.span_tree.proofs.Keeping.{inside, len_read, spawned, spawned_kept}
use Rattle.span_tree.proofs.history.History.spawn.Goals as goal

pub append-requires : goal.append-requires
append-requires c =
    let rows = c.self.inside.rows.items in
    let row = inside rows c.self.inside.order.items c.self.invariant c.args.row (subst (λ h. IsOpen h c.args.row) (sym c.self.view_is) c.requires.runs) in
    let more = ap length c.in_ok-push.ensures.items in
    omega (arith, row, more, length-append rows (c.new.result ∷ []))

runs : (c : goal.In_default) → IsOpen c.self.inside.rows.items c.args.row
runs c = subst (λ h. IsOpen h c.args.row) (sym c.self.view_is) c.requires.runs

grown : (c : goal.In_default) → c.append.new.rows.items ≡ with_child c.args.row c.args.proc c.args.args c.self.inside.rows.items
grown c =
    let rows = c.self.inside.rows.items in
    let places = c.self.inside.order.items in
    let row = inside rows places c.self.invariant c.args.row (runs c) in
    let number : c.in_ok-child.child ≡ length rows = search rules in
    let index : c.in_ok-act.act ≡ c.len-2.result = search rules in
    spawned rows places c.self.invariant c.args.row (runs c) c.args.proc c.args.args c.append.new.rows.items c.push.new.self.items c.new.result c.in_ok-act.act c.in_ok-child.child
    c.in_ok-push.ensures.items c.new.ensures (index ∙ c.len-2.ensures.acts ∙ len_read rows c.args.row c.index.result.now row c.index.ensures) number c.in_default.ensures.rows

pub invariant_of-self-in_default : goal.invariant_of-self-in_default
invariant_of-self-in_default c =
    let rows = c.self.inside.rows.items in
    let places = c.self.inside.order.items in
    let row = inside rows places c.self.invariant c.args.row (runs c) in
    let index : c.in_ok-act.act ≡ c.len-2.result = search rules in
    let few : length rows < 2 ^ 32 = search rules in
    spawned_kept rows places c.self.invariant c.args.row (runs c) c.args.proc c.args.args c.append.new.rows.items c.push.new.self.items c.append.new.order.items c.new.result c.in_ok-act.act
    c.in_ok-push.ensures.items c.new.ensures (index ∙ c.len-2.ensures.acts ∙ len_read rows c.args.row c.index.result.now row c.index.ensures) (grown c) c.in_default.ensures.order few c.in_default.ensures.within

pub returns-clause-ok : goal.returns-clause-ok
returns-clause-ok c = grown c ∙ ap (with_child c.args.row c.args.proc c.args.args) c.self.view_is
