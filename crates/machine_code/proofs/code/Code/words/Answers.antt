use Rattle.std.proofs.Common.{◌+◌, ◌-◌, ◌^◌, ◌<◌, ◌≡◌, length, ap, ◌∙◌, subst, arith, slice_get}
use Rattle.machine_code.specs.Machine.{Code}
use Rattle.machine_code.specs.Valid.{words_in}
use Rattle.machine_code.proofs.Arrays.{last_ends_all}
use Rattle.machine_code.proofs.code.Code.words.Goals as goal

ends : (c : goal.In-Some) → c.in-Some.extent.now.base + c.in-Some.extent.now.words ≡ words_in c.args.self.now.shared
ends c =
    let e = (c.in-Some.ensures {u = tt}).value in
    let same = c.deref.ensures.value in
    last_ends_all c.self.inside.shared.items c.in-Some.extent.now c.self.invariant.arrays (e ∙ ap (λ l. slice_get l (length l - 1)) same)
    ∙ ap (λ (code : Code). words_in code.shared) c.self.view_is

-- src/code.rt:56:29
pub overflow_add-result : goal.overflow_add-result
overflow_add-result c =
    let few = subst (λ (code : Code). words_in code.shared < 2 ^ 32) c.self.view_is c.self.invariant.few_words in
    let same = ends c in
    omega (arith, same, few)

-- src/code.rt:52:5
pub returns-in-Some : goal.returns-in-Some
returns-in-Some c = ends c
