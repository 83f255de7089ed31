use Rattle.backer_order.proofs.ReadsLast.{reads_last}
use Rattle.cluster_order.specs.Reading.{events_of, memory_of}
use Rattle.cluster_rules.specs.Positions.{course_of}
use Rattle.cluster_order.proofs.Caching.{keeps_the_page_rules}
use Rattle.cluster_order.proofs.reads_last_in_home_order.Goals as goal

pub returns : goal.returns
returns c = λ cluster turns now lawful. reads_last (events_of cluster (course_of turns)) (memory_of cluster) (keeps_the_page_rules cluster turns lawful) now
