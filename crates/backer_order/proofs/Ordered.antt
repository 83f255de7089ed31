-- A line of events under the rules is location consistent at each of its positions.
use Rattle.backer_order.specs.Dag.{LocationConsistent}
use Rattle.backer_order.proofs.Dags.{dag_kept}
use Rattle.backer_order.proofs.HomeLists.{home_list}
use Rattle.backer_order.proofs.ReadsLast.{reads_last}
use Rattle.backer_order.proofs.Tokens.{taken}

pub location_consistent : LocationConsistent
location_consistent events memory returns stack stage now caching edges ready = record {
  lists = λ word. home_list events memory caching now word;
  dag = λ node other word act later inside act_is later_is precedes.
      dag_kept events memory caching returns stack edges
      (taken events memory returns stack edges.frames stage ready) now node other word act later inside act_is later_is precedes;
  reads = reads_last events memory caching now;
}
