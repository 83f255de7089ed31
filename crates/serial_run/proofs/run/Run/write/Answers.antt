use Rattle.std.proofs.Common.{◌≡◌, ap, arith, refl, ◌∙◌, set, w64, to_z, of_z, FitsSigned, rules}
use Rattle.std.proofs.lemmas.Int.{to_z-of_z}
use Rattle.cilk_meaning.specs.Wants as wanted
use Rattle.plain_machine.specs.declared.want.Answer.TheVariants as given
use Rattle.span_tree.specs.declared.act.Act.TheVariants.{Write}
use Rattle.span_tree.specs.Recording.{recorded}
use Rattle.serial_run.proofs.Requests.{answering, write_inside, write_serves}
use Rattle.serial_run.proofs.run.Run.write.Goals as goal

pub index_mut-requires : goal.index_mut-requires
index_mut-requires c = let inside = write_inside c.args.code.now c.args.self.now c.requires.standing c.args.word c.args.value c.requires.wants in omega (arith, inside, c.args.self.now.words.ok)

pub answer-requires-clause-stands : goal.answer-requires-clause-stands
answer-requires-clause-stands c = c.requires.standing.1.fine

pub returns : goal.returns
returns c =
    let same : to_z w64 (of_z w64 c.args.value) ≡ c.args.value = let fits : FitsSigned w64 c.args.value = search rules in to_z-of_z w64 c.args.value fits in
    answering c.args.code.now c.args.self.now.frame.frame c.answer.new.self.frame (wanted.Write c.args.word c.args.value) given.Done c.requires.wants c.answer.ensures.stands
    c.answer.result c.answer.ensures.wants c.answer.ensures.resumed
    (write_serves c.args.code.now c.args.self.now _ refl refl c.args.word c.args.value
    ((c.in_ok-act.ensures {u = tt}).ok ∙ ap (λ value. recorded (Write c.args.word value) c.args.self.now.recording) same)
    (ap (set c.args.self.now.words.items c.args.word) same))
