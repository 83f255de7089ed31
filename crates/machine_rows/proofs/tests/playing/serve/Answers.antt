use Rattle.std.proofs.Common.{sym, ap, ◌∙◌}
use Rattle.std.specs.Option.{option_map}
use Rattle.cilk_meaning.specs.Serve.{now}
use Rattle.plain_machine.specs.Shown.{meant, shown_want}
use Rattle.machine_rows.proofs.Running.{answers_on, runs_both, steps_on}
use Rattle.machine_rows.proofs.Saying.{said_gets}
use Rattle.machine_rows.proofs.tests.playing.serve.Goals as goal

pub answer-requires-clause-suits : goal.answer-requires-clause-suits
answer-requires-clause-suits g c =
    said_gets c.args.code.now c.assert_wants.new.frame.frame c.want-said.result c.args.answer
    (ap (λ goes. option_map shown_want (now goes)) (c.assert_wants.ensures.same ∙ c.want-said.ensures.same) ∙ c.want-said.ensures.want)
    (sym c.gets.ensures ∙ c.if-not-gets.false)

pub returns-clause-runs : goal.returns-clause-runs
returns-clause-runs g c =
    let suits = said_gets c.args.code.now c.assert_wants.new.frame.frame c.want-said.result c.args.answer
    (ap (λ goes. option_map shown_want (now goes)) (c.assert_wants.ensures.same ∙ c.want-said.ensures.same) ∙ c.want-said.ensures.want)
    (sym c.gets.ensures ∙ c.if-not-gets.false) in
    let code = c.args.code.now in
    let old = c.args.frame.now.frame in
    let asked = c.want-said.new.self.frame in
    let again = c.assert_wants.new.frame.frame in
    let new = c.answer.new.self.frame in
    runs_both code old asked new (steps_on code old asked c.want-said.ensures.stepped)
    (runs_both code asked again new c.assert_wants.ensures.runs
    (answers_on code suits.request (meant suits.request c.args.answer) again new (c.in_ok-answer.ensures.resumed suits.request suits.next)))
