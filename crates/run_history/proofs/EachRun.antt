-- Each run has a history.
use Rattle.std.proofs.Common.{ℕ, List, map, reverse, sym, ◌∙◌, ap, subst}
use Rattle.std.proofs.lemmas.List.{reverse-reverse}
use Rattle.page_messages.specs.declared.closure.FrameId.{FrameId}
use Rattle.page_messages.specs.declared.log.Item.{Item}
use Rattle.page_messages.specs.declared.log.Turn.{Turn}
use Rattle.span_tree.specs.History.{History}
use Rattle.std.specs.List.Sorted.{IsPermutation}
use Rattle.cluster_rules.specs.Turns.{WholeTurn}
use Rattle.cluster_rules.specs.Positions.{course_of}
use Rattle.cluster_rules.specs.Runs.{Cluster, IsLawful, IsRun, logged}
use Rattle.cluster_rules.specs.Histories.{frames_made, row_of, IsHistoryOf}
use Rattle.cluster_rules.proofs.Stepping.{lawful_stepped}
use Rattle.word_order.proofs.Items.{done_is}
use Rattle.run_history.proofs.Histories as made

-- of turns, the latest first
pub turns_have_a_history : (cluster : Cluster) (turns : List WholeTurn) → IsLawful cluster turns → (main : ℕ)
    → (frames : List FrameId) × (history : History) × IsHistoryOf main (map logged (reverse turns)) frames history
turns_have_a_history cluster turns lawful main =
    let course = course_of turns in
    let stepped = lawful_stepped cluster turns lawful in
    let frames = made.frames cluster main course stepped in (
      frames,
      made.history cluster main course stepped,
      record {
        each_once = subst (λ (items : List Item). IsPermutation (frames_made items) frames) (done_is turns) (made.once cluster main course stepped);
        rows = ap (λ (items : List Item). map (row_of frames main items) frames) (done_is turns);
        numbered = made.numbered cluster main course stepped;
      },
    )

-- and of the log of a run
pub each_run_has_a_history : (cluster : Cluster) (log : List Turn) → IsRun cluster log
    → (frames : List FrameId) × (history : History) × IsHistoryOf cluster.code.main log frames history
each_run_has_a_history cluster log run =
    let it = turns_have_a_history cluster (reverse run.turns) run.lawful cluster.code.main in
    (it.0, it.1, subst (λ one. IsHistoryOf cluster.code.main one it.0 it.1) (ap (map logged) (reverse-reverse run.turns) ∙ sym run.log_is) it.2)
