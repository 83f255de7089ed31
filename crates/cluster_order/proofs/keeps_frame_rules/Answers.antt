use Rattle.cluster_order.proofs.Stacking.{keeps_frames}
use Rattle.cluster_order.proofs.keeps_frame_rules.Goals as goal

pub returns : goal.returns
returns c = λ cluster turns lawful. keeps_frames cluster turns lawful
