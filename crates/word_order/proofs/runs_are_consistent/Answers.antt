use Rattle.word_order.proofs.RunsAreConsistent.{runs_are_consistent}
use Rattle.word_order.proofs.runs_are_consistent.Goals as goal

pub returns : goal.returns
returns c = λ cluster program log frames history valid stands parted run is_history.
    runs_are_consistent cluster log run valid.arrays program stands parted cluster.code.main frames history is_history
