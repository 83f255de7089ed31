use Rattle.std.proofs.Common.{◌≡◌, ◌+◌, ◌-◌, ◌≤◌, length, take, drop, reverse, ap, ◌∙◌, arith}
use Rattle.std.proofs.lemmas.List.{take_rest, length-reverse}
use Rattle.plain_machine.proofs.Stacks.{last_ones}
use Rattle.plain_machine.proofs.operands.Operands.last.Goals as goal

pub returns : goal.returns
returns c =
    let stack = ap (λ s. s.values) c.self.view_is in
    let reversed = length-reverse c.self.inside.values.items in
    let enough : c.args.count ≤ length c.self.inside.values.items = omega (arith, c.requires, ap length stack, reversed) in
    let items = ap length c.deref.ensures.value in
    let parts : (c.len.result - c.args.count) + c.args.count ≡ length c.self.inside.values.items =
    omega (arith, enough, c.len.ensures, c.deref.ensures.len, items) in
    take_rest c.deref.result.now (c.len.result - c.args.count)
    ∙ ap (drop (c.len.result - c.args.count)) c.deref.ensures.value
    ∙ last_ones c.self.inside.values.items (c.len.result - c.args.count) c.args.count parts
    ∙ ap (λ s. reverse (take c.args.count s.values)) c.self.view_is
