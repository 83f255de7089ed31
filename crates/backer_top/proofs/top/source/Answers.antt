use Rattle.std.proofs.Common.{◌≡◌, Err, ◌∷◌, [], ap, ◌∙◌}
use Rattle.outside.specs.declared.reading.TextRefusal.TheVariants as TextRefusal
use Rattle.backer_top.specs.Reading.{shelf_use}
use Rattle.backer_top.proofs.Ends.{front_some, source_failed, source_unread, source_too_long}
use Rattle.backer_top.proofs.top.source.Goals as goal

pub returns-in-Err-Fault-clause-stopped : goal.returns-in-Err-Fault-clause-stopped
returns-in-Err-Fault-clause-stopped g c =
    let shelf = g.L.Shelf in
    let refused : c.read_text.result ≡ Err TextRefusal.Fault = c.in-Err-Fault.is ∙ ap Err c.in-Err-Fault.field-0-is in
    let calls = c.read_text.ensures.fault_calls refused in
    source_failed (shelf_use shelf.texts shelf.faults shelf.gave shelf.failed c.args.file.now c.args.shelf.now c.read_text.new.shelf) (c.read_text.ensures.fault refused)
    (record { pieces = calls.0; last = calls.1; some = calls.2; calls = calls.5; within = calls.3; broke = calls.6 })

pub returns-in-Err-TooLong-clause-stopped : goal.returns-in-Err-TooLong-clause-stopped
returns-in-Err-TooLong-clause-stopped g c =
    let shelf = g.L.Shelf in
    let refused : c.read_text.result ≡ Err TextRefusal.TooLong = c.in-Err-TooLong.is ∙ ap Err c.in-Err-TooLong.field-0-is in
    let calls = c.read_text.ensures.too_long_calls refused in
    source_too_long (shelf_use shelf.texts shelf.faults shelf.gave shelf.failed c.args.file.now c.args.shelf.now c.read_text.new.shelf)
    calls.0 calls.1 calls.2 calls.6 calls.3 calls.4 (c.read_text.ensures.too_long refused)

pub returns-in-Err-Memory-clause-stopped : goal.returns-in-Err-Memory-clause-stopped
returns-in-Err-Memory-clause-stopped g c =
    let shelf = g.L.Shelf in
    let calls = c.read_text.ensures.memory_calls (c.in-Err-Memory.is ∙ ap Err c.in-Err-Memory.field-0-is) in
    source_unread (shelf_use shelf.texts shelf.faults shelf.gave shelf.failed c.args.file.now c.args.shelf.now c.read_text.new.shelf)
    (record { pieces = calls.0; last = calls.1; some = front_some calls.0 (calls.1 ∷ []) calls.2; calls = calls.5; within = calls.3 })
