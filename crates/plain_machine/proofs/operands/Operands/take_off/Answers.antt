use Rattle.std.proofs.Common.{◌≡◌, ◌+◌, ◌-◌, ◌≤◌, length, drop, reverse, ap, ◌∙◌, vec_len, arith, rules}
use Rattle.std.proofs.lemmas.List.{length-reverse}
use Rattle.plain_machine.proofs.Stacks.{taken_off}
use Rattle.plain_machine.proofs.operands.Operands.take_off.Goals as goal

pub returns : goal.returns
returns c =
    let stack = ap (λ s. s.values) c.self.view_is in
    let reversed = length-reverse c.self.inside.values.items in
    let enough : c.args.taken ≤ length c.self.inside.values.items = omega (arith, c.requires, ap length stack, reversed) in
    let same : vec_len c.self.inside.values ≡ length c.self.inside.values.items = search rules in
    let parts : (c.len.result - c.args.taken) + c.args.taken ≡ length c.self.inside.values.items =
    omega (arith, enough, c.len.ensures, same) in
    let values : reverse c.truncate.new.self.items ≡ drop c.args.taken c.args.self.now.values =
    ap reverse c.truncate.ensures.items ∙ taken_off c.self.inside.values.items (c.len.result - c.args.taken) c.args.taken parts
    ∙ ap (λ s. drop c.args.taken s.values) c.self.view_is in
    let room = ap (λ s. s.room) c.self.view_is in
    cc
