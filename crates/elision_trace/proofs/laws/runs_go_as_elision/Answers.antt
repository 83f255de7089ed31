use Rattle.cilk_meaning.specs.Instance.{wants_within}
use Rattle.determinacy.proofs.Determined.{then_serial}
use Rattle.elision_trace.specs.Laws.{elision_trace, finish_of}
use Rattle.elision_trace.proofs.NoRace.{elision_is_serial}
use Rattle.elision_trace.proofs.laws.runs_go_as_elision.Goals as goal

pub returns : goal.returns
returns c = λ most program start budget memory run now parted begins finished free runs.
    then_serial (wants_within most program) program.main run (elision_trace most program start budget) memory (finish_of most program start budget) runs
    (elision_is_serial most program start budget memory parted begins finished free) now
