-- Where the history of the elision has no race, its trace has none, and where it finished it is a serial execution.
use Rattle.elision_history.specs.Logged.{history_of}
use Rattle.elision_trace.proofs.Elisions.{elision_obeys, elision_reads, elision_returns}
use Rattle.elision_trace.proofs.Racing.{are_rows, in_serial_order}
use Rattle.elision_trace.specs.Laws.{end_of, finish_of, frames_of, ElisionIsSerial, ElisionRaceFree}
use Rattle.elision_trace.specs.Tracing.{events_in}
use Rattle.trace_rows.proofs.Races.{is_race_free}

pub elision_race_free : ElisionRaceFree
elision_race_free most program start budget none =
    is_race_free (events_in (end_of most program start budget).world.log) (finish_of most program start budget) (frames_of most program start budget)
    (history_of program (end_of most program start budget)) (are_rows most program start budget) (in_serial_order most program start budget) none

pub elision_is_serial : ElisionIsSerial
elision_is_serial most program start budget memory parted begins finished none =
    let returned = elision_returns most program start budget finished in
    record {
      obeys = elision_obeys most program start budget parted;
      reads = elision_reads most program start budget memory begins;
      result = returned.0;
      finished = returned.1;
      free = elision_race_free most program start budget none;
    }
