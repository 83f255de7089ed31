use Rattle.std.proofs.Common.{◌∙◌, ap}
use Rattle.std.proofs.lemmas.Nat.{or_lt, pow_below}
use Rattle.std.proofs.Math.ListN.{length-set}
use Rattle.page_words.proofs.page.Page.write.Goals as goal

-- The bit of a word that is used is below 2 to the size, and so are the marks with it.
pub invariant_of-self : goal.invariant_of-self
invariant_of-self c = record {
  some_word = c.self.invariant.some_word;
  at_most_64 = c.self.invariant.at_most_64;
  places = length-set _ _ _ ∙ c.self.invariant.places;
  marks = or_lt c.self.inside.size c.self.inside.dirty c.bit.result c.self.invariant.marks
      (rw c.bit.ensures (pow_below c.args.k c.self.inside.size (rw (ap (λ p. p.size) c.self.view_is) c.requires)));
}
