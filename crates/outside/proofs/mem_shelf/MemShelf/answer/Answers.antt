use Rattle.std.proofs.Common.{◌≡◌, Some, None, false, IsTrue, refl, sym, ◌∙◌, inr, ⊎_elim}
use Rattle.outside.proofs.Places.{get-place, get-no_place}
use Rattle.outside.proofs.mem_shelf.MemShelf.answer.Goals as goal

pub returns-in_err-place-clause-fails : goal.returns-in_err-place-clause-fails
returns-in_err-place-clause-fails c = (λ _. inr (get-no_place c.args.self.now c.args.name.now (sym c.in_err-place.ensures.first)), λ _. rw c.from_residual.ensures refl)

pub returns-clause-fails : goal.returns-clause-fails
returns-clause-fails c =
    let found = get-place c.args.self.now c.args.name.now c.in_ok-place.place (sym c.in_ok-place.ensures.first) ∙ sym c.text.ensures in
    (λ e. absurd (cc), ⊎_elim (λ h. let failing : IsTrue false = c.if-is_failing.ensures.1 h in absurd (cc)) (λ none. let e : Some c.text.result.now ≡ None = sym found ∙ none in absurd (cc)))

pub returns-clause-told : goal.returns-clause-told
returns-clause-told c = get-place c.args.self.now c.args.name.now c.in_ok-place.place (sym c.in_ok-place.ensures.first) ∙ sym c.text.ensures
