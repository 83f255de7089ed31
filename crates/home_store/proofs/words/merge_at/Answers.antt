use Rattle.std.proofs.Common.{◌+◌, ◌-◌, length, arith, ◌∙◌}
use Rattle.std.proofs.Math.ListN.{length-take, length-drop}
use Rattle.std.proofs.lemmas.Slice.{drop-put_mid}
use Rattle.home_store.proofs.words.merge_at.Goals as goal

pub returns-clause-behind : goal.returns-clause-behind
returns-clause-behind c =
    let end = c.args.first + length c.args.given.now in
    drop-put_mid c.args.first (end - c.args.first) c.args.words.now c.merge_words.new.words end (omega arith) (omega arith)
    (c.merge_words.ensures.places ∙ simp (length-take, length-drop) (omega arith))
