-- Two ways to say what a lender becomes.
use Rattle.std.proofs.Common.{◌≡◌, Option, Some, None, ap, refl, inl, inr}
use Rattle.std.specs.Option.{ghost_name_of, option_copied_mut}
use Rattle.std.specs.Borrow.{MutBor}
use borrow.Follows.Closed.{read_of}

-- they say the same where they agree on each value that may be written, if one is lent, and else on the lender
pub same_lending : {D E : Type 0} (lent : Option (MutBor E)) (after after' : E → D) (kept kept' : D) → ((was : E) → option_copied_mut lent ≡ Some was → (last : E) → after last ≡ after' last) → kept ≡ kept' → read_of (ghost_name_of lent) after kept ≡ read_of (ghost_name_of lent) after' kept'
same_lending None after after' kept kept' written same = ap inr same
same_lending (Some r) after after' kept kept' written same = ap (λ f. inl (r.ghost_name, f)) (λ i last. written r.now refl last i)
