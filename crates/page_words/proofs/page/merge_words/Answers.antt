use Rattle.std.proofs.Common.{ℤ, w64, get_or, pos, FitsSigned, rules, arith}
use Rattle.std.specs.Int.{IsBitSet}
use Rattle.std.proofs.lemmas.Int.{to_z-of_z}
use Rattle.std.proofs.lemmas.Option.{slice_get-get_or}
use Rattle.page_words.proofs.Merging.{one_more_marked, one_more_left, all_merged}
use Rattle.page_words.proofs.page.merge_words.Goals as goal
use Rattle.page_words.proofs.page.merge_words.Goals.{then-mask-bit-ne0, else-mask-bit-ne0}

pub loop-k-preserved : goal.loop-k-preserved
loop-k-preserved c = elim c.if-mask-bit-ne0.branch [
  | then-mask-bit-ne0 w ↦
      let word : ℤ = get_or c.args.given.now c.loop-k.k (pos 0) in
      let fits : FitsSigned w64 word = search rules in
      let stored = w.words-is in
      let is_set : IsBitSet c.args.mask c.loop-k.k = rw (← c.bit.ensures) w.if-mask-bit-ne0.true in
      rw (stored, to_z-of_z w64 word fits) (one_more_marked c.args.mask c.args.given.now c.args.words.now c.loop-k.k c.loop-k.words c.loop-k.invariant word (omega arith) (slice_get-get_or c.args.given.now c.loop-k.k (pos 0) (omega arith)) is_set)
  | else-mask-bit-ne0 w ↦
      let unset : IsBitSet c.args.mask c.loop-k.k → ⊥ = λ h. h (rw (← c.bit.ensures) w.if-mask-bit-ne0.false) in
      rw w.words-is (one_more_left c.args.mask c.args.given.now c.args.words.now c.loop-k.k c.loop-k.words c.loop-k.invariant unset)
]

pub returns : goal.returns
returns c = all_merged c.args.mask c.args.given.now c.args.words.now c.loop-k.k c.loop-k.words c.loop-k.invariant (omega arith) c.requires.bits
