use Rattle.std.proofs.Common.{◌≡◌, ap, arith, refl, sym, ◌∙◌, get_or, set, w64, to_z, of_z, FitsSigned, rules}
use Rattle.std.specs.Prelude.{ℤ}
use Rattle.std.proofs.lemmas.Int.{to_z-of_z}
use Rattle.cilk_meaning.specs.Wants as wanted
use Rattle.plain_machine.specs.declared.want.Answer.TheVariants as given
use Rattle.cilk_meaning.specs.World.{sum_or_old}
use Rattle.span_tree.specs.declared.act.Act.TheVariants.{Add}
use Rattle.span_tree.specs.Recording.{recorded}
use Rattle.serial_run.proofs.Requests.{answering, add_inside, add_serves}
use Rattle.serial_run.proofs.run.Run.add.Goals as goal

pub index-old-requires : goal.index-old-requires
index-old-requires c = let inside = add_inside c.args.code.now c.args.self.now c.requires.standing c.args.word c.args.addend c.requires.wants in omega (arith, inside, c.args.self.now.words.ok)

pub index_mut-requires : goal.index_mut-requires
index_mut-requires c = let inside = add_inside c.args.code.now c.args.self.now c.requires.standing c.args.word c.args.addend c.requires.wants in omega (arith, inside, c.args.self.now.words.ok)

pub answer-requires-clause-stands : goal.answer-requires-clause-stands
answer-requires-clause-stands c = c.requires.standing.1.fine

pub returns : goal.returns
returns c =
    let fits : FitsSigned w64 c.index-old.result.now = search rules in
    let old : ℤ = to_z w64 (of_z w64 c.index-old.result.now) in
    let same : old ≡ c.index-old.result.now = to_z-of_z w64 c.index-old.result.now fits in
    let addend : to_z w64 (of_z w64 c.args.addend) ≡ c.args.addend = let fits : FitsSigned w64 c.args.addend = search rules in to_z-of_z w64 c.args.addend fits in
    let left : FitsSigned w64 c.sum_or_old.result = search rules in
    let sum : to_z w64 (of_z w64 c.sum_or_old.result) ≡ sum_or_old old c.args.addend =
    to_z-of_z w64 c.sum_or_old.result left ∙ c.sum_or_old.ensures ∙ ap (sum_or_old old) addend in
    answering c.args.code.now c.args.self.now.frame.frame c.answer.new.self.frame (wanted.Add c.args.word c.args.addend) (given.Value old) c.requires.wants c.answer.ensures.stands
    c.answer.result c.answer.ensures.wants c.answer.ensures.resumed
    (add_serves c.args.code.now c.args.self.now _ refl refl c.args.word old c.args.addend
    (add_inside c.args.code.now c.args.self.now c.requires.standing c.args.word c.args.addend c.requires.wants)
    (same ∙ c.index-old.ensures ∙ ap (get_or c.args.self.now.words.items c.args.word) (sym same))
    ((c.in_ok-act.ensures {u = tt}).ok ∙ ap (λ addend. recorded (Add c.args.word old addend) c.args.self.now.recording) addend)
    (ap (set c.args.self.now.words.items c.args.word) sum))
