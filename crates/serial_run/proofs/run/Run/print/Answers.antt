use Rattle.std.proofs.Common.{◌≡◌, ap, refl, ◌∙◌, w64, to_z, of_z, FitsSigned, rules}
use Rattle.std.proofs.lemmas.Int.{to_z-of_z}
use Rattle.cilk_meaning.specs.Wants as wanted
use Rattle.plain_machine.specs.declared.want.Answer.TheVariants as given
use Rattle.span_tree.specs.declared.act.Act.TheVariants.{Print}
use Rattle.span_tree.specs.Recording.{recorded}
use Rattle.serial_run.proofs.Requests.{answering, print_serves}
use Rattle.serial_run.proofs.run.Run.print.Goals as goal

pub answer-requires-clause-stands : goal.answer-requires-clause-stands
answer-requires-clause-stands c = c.requires.standing.1.fine

pub returns : goal.returns
returns c =
    let same : to_z w64 (of_z w64 c.args.value) ≡ c.args.value = let fits : FitsSigned w64 c.args.value = search rules in to_z-of_z w64 c.args.value fits in
    answering c.args.code.now c.args.self.now.frame.frame c.answer.new.self.frame (wanted.Print c.args.value) given.Done c.requires.wants c.answer.ensures.stands
    c.answer.result c.answer.ensures.wants c.answer.ensures.resumed
    (print_serves c.args.code.now c.args.self.now _ refl refl c.args.value
    ((c.in_ok-act.ensures {u = tt}).ok ∙ ap (λ value. recorded (Print value) c.args.self.now.recording) same) refl)
