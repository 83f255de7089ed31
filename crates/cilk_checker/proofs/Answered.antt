-- What a refusal that is told says of the program.
use Rattle.std.specs.Prelude.{◌≡◌, ◌⊎◌, ℕ}
use Rattle.std.proofs.Common.{sym, subst, ◌∙◌, inl, inr}
use Rattle.cilk_tree.specs.declared.place.CheckPlace.{CheckPlace}
use Rattle.cilk_tree.specs.declared.tree.Program.{Program}
use Rattle.cilk_tree.specs.Lawful.Lawful.{IsCheckRefusal, IsLawful}
use Rattle.cilk_checker.specs.declared.refusal.CheckRefusal.{CheckRefusal}
use Rattle.cilk_checker.specs.declared.refusal.CheckRefusal.TheVariants.{At, Memory}
use Rattle.cilk_checker.specs.Judged.{due, Tells}
use Rattle.cilk_checker.specs.Sound.{IsRefusal}
use Rattle.cilk_checker.proofs.Unique.{lawful_is_not_refused, one_refusal}
use Rattle.cilk_checker.proofs.Verdict.{due_is_refusal}

module _ (program : Program) (refusal : CheckRefusal) where
  -- it is that of the definition
  pub told_is_refusal : Tells (due program) refusal → IsRefusal program refusal
  told_is_refusal (inl memory) = subst (IsRefusal program) (sym memory) tt
  told_is_refusal (inr found) = let it = due_is_refusal program refusal found in subst (IsRefusal program) (sym it.is) it.refused

  -- a lawful program is refused for want of memory alone
  pub told_of_lawful : IsLawful program → Tells (due program) refusal → refusal ≡ Memory
  told_of_lawful lawful (inl memory) = memory
  told_of_lawful lawful (inr found) = let it = due_is_refusal program refusal found in absurd (lawful_is_not_refused program it.kind it.at lawful it.refused)

  -- and one with a refusal for that or want of memory
  pub told_exactly : (kind : ℕ) (place : CheckPlace) → IsCheckRefusal program kind place → Tells (due program) refusal → (refusal ≡ At kind place) ⊎ (refusal ≡ Memory)
  told_exactly kind place refused (inl memory) = inr memory
  told_exactly kind place refused (inr found) =
      let it = due_is_refusal program refusal found in
      let same = one_refusal program it.kind kind it.at place it.refused refused in
      inl (it.is ∙ λ i. At (same.0 i) (same.1 i))
