use Rattle.std.proofs.Common.{◌≡◌, ℕ, List, Err, refl, ap, ◌∙◌, subst, sym}
use Rattle.command_words.specs.declared.command.Command.TheVariants.{Offline}
use Rattle.backer_top.specs.Output.{sink_use}
use Rattle.backer_top.specs.Lines.{IsTelling}
use Rattle.backer_top.specs.Reading.{ShelfUse, file_of, shelf_use}
use Rattle.backer_top.specs.Run.{IsRun}
use Rattle.backer_top.specs.declared.status.Status.TheVariants.{Memory}
use Rattle.backer_top.proofs.Ends.{run_unstarted}
use Rattle.backer_top.proofs.Told.{line_of_status}
use Rattle.backer_top.proofs.top.backer.Goals as goal

pub returns-in-Ok-clause-command : goal.returns-in-Ok-clause-command
returns-in-Ok-clause-command g c = λ command is.
    let read : Offline c.offline_of.result.now ≡ Offline command = sym c.offline_of.ensures ∙ (c.in-Ok.ensures {u = tt}).only (Offline command) is in
    let same : c.offline_of.result.now ≡ command = cc in
    let shelf : List ℕ → ShelfUse _ = λ file. shelf_use g.L.Shelf.texts g.L.Shelf.faults g.L.Shelf.gave g.L.Shelf.failed file c.args.shelf.now c.offline.new.shelf in
    let out = sink_use g.O.Sink.held g.O.Sink.faults g.O.Sink.took g.O.Sink.failed c.args.out.now c.offline.new.out in
    subst (λ command. (text : List ℕ) × IsRun (shelf (file_of command)) out command text c.offline.result.status
    × IsTelling g.E.Sink.held g.E.Sink.took g.E.Sink.failed c.args.err.now c.offline.new.err text c.offline.result) same c.offline.ensures.run

pub returns-in-Err-Words-clause-command : goal.returns-in-Err-Words-clause-command
returns-in-Err-Words-clause-command g c = λ command is.
    absurd (c.read_words.ensures.words (c.in-Err-Words.is ∙ ap Err c.in-Err-Words.field-0-is) (Offline command) is)

pub returns-in-Err-Memory-clause-command : goal.returns-in-Err-Memory-clause-command
returns-in-Err-Memory-clause-command g c = λ command is.
    let shelf = shelf_use g.L.Shelf.texts g.L.Shelf.faults g.L.Shelf.gave g.L.Shelf.failed (file_of command) c.args.shelf.now c.args.shelf.now in
    let out = sink_use g.O.Sink.held g.O.Sink.faults g.O.Sink.took g.O.Sink.failed c.args.out.now c.args.out.now in
    let of = c.of-in-Err-Memory.ensures in
    let tell = c.tell-in-Err-Memory.ensures in
    let run = run_unstarted shelf out command refl refl in
    let status : c.tell-in-Err-Memory.result.status ≡ Memory = tell.status ∙ of.status in
    let line = line_of_status run.0 Memory c.tell-in-Err-Memory.result.status _ tt status of.line in (
      run.0,
      subst (IsRun shelf out command run.0) (sym status) run.1,
      record { told = λ unshown loud. (_, line, tell.told unshown loud); half_told = λ mute. (_, line, (tell.mute mute).1) },
    )
