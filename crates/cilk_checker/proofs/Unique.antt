-- There is one refusal at most, and none of a lawful program.
use Rattle.std.specs.Prelude.{◌≡◌, ℕ, []}
use Rattle.std.proofs.Common.{sym, ap, subst, ◌∙◌, inl, inr, arith}
use Rattle.std.proofs.lemmas.Bool.{false≢true}
use Rattle.cilk_tree.specs.declared.place.CheckPlace.{CheckPlace}
use Rattle.cilk_tree.specs.declared.tree.Program.{Program}
use Rattle.cilk_tree.specs.Lawful.Lawful.{Breaks, IsCheckRefusal, IsFirstBreach, IsLawful}
use Rattle.cilk_tree.specs.Lawful.Rules.{kinds_at}
use Rattle.cilk_checker.proofs.Places.{Before, After, Same, order_of}
use Rattle.cilk_checker.proofs.LoopSets.{is_in}

module _ (program : Program) where
  none_broken : (kind : ℕ) (place : CheckPlace) → Breaks program kind place → kinds_at program place ≡ [] → ⊥
  none_broken kind place broken none = false≢true (sym (ap (λ kinds. is_in kinds kind) none) ∙ broken)

  -- two refusals are one
  abbrev pub IsSame : ℕ → CheckPlace → ℕ → CheckPlace → Type 0
  IsSame kind place kind2 place2 = (kind ≡ kind2) × (place ≡ place2)

  at_one_place : (kind kind2 : ℕ) (place place2 : CheckPlace) → place ≡ place2 → IsFirstBreach program kind place → IsFirstBreach program kind2 place2 → kind ≡ kind2
  at_one_place kind kind2 place place2 same p q =
      let below = p.no_kind_below kind2 (subst (λ other. Breaks program kind2 other) (sym same) q.broken) in
      let above = q.no_kind_below kind (subst (λ other. Breaks program kind other) same p.broken) in
      omega (arith, below, above)

  pub one_refusal : (kind kind2 : ℕ) (place place2 : CheckPlace) → IsCheckRefusal program kind place → IsCheckRefusal program kind2 place2 → IsSame kind place kind2 place2
  one_refusal kind kind2 place place2 (inl p) (inl q) = elim (order_of place place2) [
    | Before lt ↦ absurd (none_broken kind place p.broken (q.no_place_before place lt))
    | After lt ↦ absurd (none_broken kind2 place2 q.broken (p.no_place_before place2 lt))
    | Same e ↦ (at_one_place kind kind2 place place2 e p q, e)
  ]
  one_refusal kind kind2 place place2 (inl p) (inr q) = absurd (none_broken kind place p.broken (q.rules place))
  one_refusal kind kind2 place place2 (inr p) (inl q) = absurd (none_broken kind2 place2 q.broken (p.rules place2))
  one_refusal kind kind2 place place2 (inr p) (inr q) = elim (order_of place place2) [
    | Before lt ↦ absurd (q.no_place_before place lt p.broken)
    | After lt ↦ absurd (p.no_place_before place2 lt q.broken)
    | Same e ↦ (p.of_uses ∙ sym q.of_uses, e)
  ]

  pub lawful_is_not_refused : (kind : ℕ) (place : CheckPlace) → IsLawful program → IsCheckRefusal program kind place → ⊥
  lawful_is_not_refused kind place lawful (inl p) = none_broken kind place p.broken (lawful.rules place)
  lawful_is_not_refused kind place lawful (inr p) = lawful.syncs place p.broken
