use Rattle.std.proofs.Common.{◌≡◌, ℕ, List, [], refl, sym, ap, ◌∙◌, subst}
use Rattle.cilk_tree.specs.declared.tree.Program.{Program}
use Rattle.backer_top.specs.Lines.{line_bytes}
use Rattle.backer_top.specs.Output.{IsCutShort, IsWritten, sink_use}
use Rattle.backer_top.specs.Reading.{ReadsWhole, ShelfUse, StopsReading, file_of, shelf_use}
use Rattle.backer_top.specs.Run.{IsRun}
use Rattle.backer_top.specs.declared.status.Status.TheVariants.{WriteFault}
use Rattle.backer_top.specs.Status.{error_line, is_shown}
use Rattle.backer_top.proofs.Ends.{run_stopped, run_unread, run_unwritten, run_written}
use Rattle.backer_top.proofs.Pieces.{same_of_nothing}
use Rattle.backer_top.proofs.Told.{line_of_status}
use Rattle.backer_top.proofs.top.perform.Goals as goal

pub returns-in-Err-clause-run : goal.returns-in-Err-clause-run
returns-in-Err-clause-run g c =
    let source = c.in-Err.ensures {u = tt} in
    let command = c.args.command.now in
    let shelf : List ℕ → ShelfUse _ = λ file. shelf_use g.L.Shelf.texts g.L.Shelf.faults g.L.Shelf.gave g.L.Shelf.failed file c.args.shelf.now c.source.new.shelf in
    let out = sink_use g.O.Sink.held g.O.Sink.faults g.O.Sink.took g.O.Sink.failed c.args.out.now c.args.out.now in
    let stops = subst (λ file. (text : List ℕ) × StopsReading (shelf file) text c.in-Err.status) c.file_of.ensures source.stopped in (
      stops.0,
      subst (IsRun (shelf (file_of command)) out command stops.0) (sym c.of.ensures.status) (run_unread (shelf (file_of command)) out command stops.0 refl c.in-Err.status stops.1),
      line_of_status stops.0 c.in-Err.status c.of.result.status _ source.fixed c.of.ensures.status c.of.ensures.line,
    )

pub returns-in-Err-reply-clause-run : goal.returns-in-Err-reply-clause-run
returns-in-Err-reply-clause-run g c =
    let reply = c.in-Err-reply.ensures {u = tt} in
    let command = c.args.command.now in
    let text = c.as_slice.result.now in
    let shelf : List ℕ → ShelfUse _ = λ file. shelf_use g.L.Shelf.texts g.L.Shelf.faults g.L.Shelf.gave g.L.Shelf.failed file c.args.shelf.now c.source.new.shelf in
    let out = sink_use g.O.Sink.held g.O.Sink.faults g.O.Sink.took g.O.Sink.failed c.args.out.now c.args.out.now in
    let read = subst (λ file. ReadsWhole (shelf file) c.in-Ok.text.items) c.file_of.ensures (c.in-Ok.ensures {u = tt}).whole in
    let whole = subst (ReadsWhole (shelf (file_of command))) (sym c.as_slice.ensures.value) read in
    (text, run_stopped (shelf (file_of command)) out command text whole refl c.in-Err-reply.answer.status reply.stopped, reply.line)

pub returns-in-Ok-write_all-clause-run : goal.returns-in-Ok-write_all-clause-run
returns-in-Ok-write_all-clause-run g c =
    let command = c.args.command.now in
    let text = c.as_slice.result.now in
    let shelf : List ℕ → ShelfUse _ = λ file. shelf_use g.L.Shelf.texts g.L.Shelf.faults g.L.Shelf.gave g.L.Shelf.failed file c.args.shelf.now c.source.new.shelf in
    let out = sink_use g.O.Sink.held g.O.Sink.faults g.O.Sink.took g.O.Sink.failed c.args.out.now c.write_all.new.sink in
    let read = subst (λ file. ReadsWhole (shelf file) c.in-Ok.text.items) c.file_of.ensures (c.in-Ok.ensures {u = tt}).whole in
    let whole = subst (ReadsWhole (shelf (file_of command))) (sym c.as_slice.ensures.value) read in
    let reply = c.in-Ok-reply.reply in
    let made = c.in-Ok-reply.ensures {u = tt} in
    let status : c.of-in-Ok-write_all.result.status ≡ reply.status = c.of-in-Ok-write_all.ensures.status ∙ ap (λ r. r.status) c.reply-2.view_is in
    let line = subst (λ s. (program : Program) → line_bytes c.of-in-Ok-write_all.result.line ≡ error_line program s) (ap (λ r. r.status) c.reply-2.view_is) c.of-in-Ok-write_all.ensures.line in
    let written = subst (IsWritten out.held out.took out.old out.new) (c.as_slice-2.ensures.value ∙ ap (λ r. r.text) c.reply-2.view_is) (c.in-Ok-write_all.ensures {u = tt}).written in (
      text,
      subst (IsRun (shelf (file_of command)) out command text) (sym status) (run_written (shelf (file_of command)) out command text whole reply made.outcome written),
      line_of_status text reply.status c.of-in-Ok-write_all.result.status _ made.fixed status line,
    )

pub returns-in-Ok-write_all-clause-nothing_written : goal.returns-in-Ok-write_all-clause-nothing_written
returns-in-Ok-write_all-clause-nothing_written g c = λ unshown other.
    let sink = g.O.Sink in
    let status = c.of-in-Ok-write_all.ensures.status ∙ ap (λ r. r.status) c.reply-2.view_is in
    let silent = (c.in-Ok-reply.ensures {u = tt}).outcome.silent (sym (ap is_shown status) ∙ unshown) in
    let text : c.as_slice-2.result.now ≡ [] = c.as_slice-2.ensures.value ∙ ap (λ r. r.text) c.reply-2.view_is ∙ silent in
    same_of_nothing sink.held sink.took c.args.out.now c.write_all.new.sink c.as_slice-2.result.now text (c.in-Ok-write_all.ensures {u = tt}).written

pub returns-clause-run : goal.returns-clause-run
returns-clause-run g c =
    let command = c.args.command.now in
    let text = c.as_slice.result.now in
    let shelf : List ℕ → ShelfUse _ = λ file. shelf_use g.L.Shelf.texts g.L.Shelf.faults g.L.Shelf.gave g.L.Shelf.failed file c.args.shelf.now c.source.new.shelf in
    let out = sink_use g.O.Sink.held g.O.Sink.faults g.O.Sink.took g.O.Sink.failed c.args.out.now c.write_all.new.sink in
    let read = subst (λ file. ReadsWhole (shelf file) c.in-Ok.text.items) c.file_of.ensures (c.in-Ok.ensures {u = tt}).whole in
    let whole = subst (ReadsWhole (shelf (file_of command))) (sym c.as_slice.ensures.value) read in
    let reply = c.in-Ok-reply.reply in
    let failed = c.in-Err-write_all.ensures {u = tt} in
    let cut_short = subst (IsCutShort out.held out.took out.failed out.old out.new) (c.as_slice-2.ensures.value ∙ ap (λ r. r.text) c.reply-2.view_is) failed.cut_short in (
      text,
      subst (IsRun (shelf (file_of command)) out command text) (sym c.of-in-Err-write_all.ensures.status)
          (run_unwritten (shelf (file_of command)) out command text whole reply (c.in-Ok-reply.ensures {u = tt}).outcome failed.cause cut_short),
      line_of_status text WriteFault c.of-in-Err-write_all.result.status _ tt c.of-in-Err-write_all.ensures.status c.of-in-Err-write_all.ensures.line,
    )
