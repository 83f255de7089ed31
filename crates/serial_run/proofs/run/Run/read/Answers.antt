use Rattle.std.proofs.Common.{◌≡◌, ap, arith, refl, sym, ◌∙◌, get_or, w64, to_z, of_z, FitsSigned, rules}
use Rattle.std.specs.Prelude.{ℤ}
use Rattle.std.proofs.lemmas.Int.{to_z-of_z}
use Rattle.cilk_meaning.specs.Wants as wanted
use Rattle.plain_machine.specs.declared.want.Answer.TheVariants as given
use Rattle.serial_run.proofs.Requests.{answering, read_inside, read_serves}
use Rattle.serial_run.proofs.run.Run.read.Goals as goal

pub index-value-requires : goal.index-value-requires
index-value-requires c = let inside = read_inside c.args.code.now c.args.self.now c.requires.standing c.args.word c.requires.wants in omega (arith, inside, c.args.self.now.words.ok)

pub answer-requires-clause-stands : goal.answer-requires-clause-stands
answer-requires-clause-stands c = c.requires.standing.1.fine

pub returns : goal.returns
returns c =
    let fits : FitsSigned w64 c.index-value.result.now = search rules in
    let value : ℤ = to_z w64 (of_z w64 c.index-value.result.now) in
    let same : value ≡ c.index-value.result.now = to_z-of_z w64 c.index-value.result.now fits in
    answering c.args.code.now c.args.self.now.frame.frame c.answer.new.self.frame (wanted.Read c.args.word) (given.Value value) c.requires.wants c.answer.ensures.stands
    c.answer.result c.answer.ensures.wants c.answer.ensures.resumed
    (read_serves c.args.code.now c.args.self.now _ refl refl c.args.word value
    (read_inside c.args.code.now c.args.self.now c.requires.standing c.args.word c.requires.wants)
    (same ∙ c.index-value.ensures ∙ ap (get_or c.args.self.now.words.items c.args.word) (sym same)) (c.in_ok-act.ensures {u = tt}).ok refl)
