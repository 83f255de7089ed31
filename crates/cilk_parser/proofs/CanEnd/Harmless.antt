-- Each token that waits may turn out to pass no limit.
use Rattle.std.proofs.Common.{◌≡◌, ◌⊎◌, inl, ℕ, zero, suc, codes, Some, option_and_then, option_map, List, [], ◌∷◌, ◌++◌, slice_get, refl, ap, ◌∙◌, subst}
use Rattle.std.proofs.lemmas.Option.{same_Some}
use Rattle.cilk_tree.specs.declared.token.Sign.TheVariants as sign
use Rattle.cilk_tree.specs.declared.token.Token.{Token}
use Rattle.cilk_tree.specs.declared.token.Token.TheVariants.{Name, Mark}
use Rattle.cilk_tree.specs.declared.count.Counted.TheVariants.{Operators}
use Rattle.cilk_tree.specs.declared.count.Count.TheVariants.{Anew}
use Rattle.cilk_tree.specs.Levels.{Spelled}
use Rattle.cilk_tree.specs.Syntax.{Source}
use Rattle.cilk_parser.specs.Run.{all_behind, walk}
use Rattle.cilk_parser.specs.Steps.{State, Items, AfterInt, AfterIntName, AfterRightName, goes, pending, step}
use Rattle.cilk_parser.proofs.CanEnd.Ends.{Ends, state_ends}
use Rattle.cilk_parser.proofs.Walks.{walk_append}

-- The token that waits at this place may stand in a source as one that counts as nothing or begins an expression.
pub record CanEndHarmless (state : State) (place : ℕ) (spelled : Spelled) : Type 0 where
  pub tokens : List Token
  pub source : Source
  pub emitted : List Spelled
  pub walked : walk state tokens ≡ Some (record { emitted = emitted; state = Items source })
  pub there : Spelled
  pub same : slice_get emitted place ≡ Some there
  pub level : there.level ≡ spelled.level
  pub token : there.token ≡ spelled.token
  pub harmless : (there.counts ≡ []) ⊎ (there.counts ≡ Anew Operators ∷ [])

-- It waits with that level, and is emitted so.
module _ (state : State) (place : ℕ) (waits : Spelled) where
  emitted_so : (next : State) (tokens : List Token) (first : List Spelled) → walk state tokens ≡ goes first next → ((more : List Spelled) → slice_get (first ++ more) place ≡ Some waits) →
      waits.counts ≡ [] → Ends next → CanEndHarmless state place waits
  emitted_so next tokens first walked there nothing ends = record {
    tokens = tokens ++ ends.tokens;
    source = ends.source;
    emitted = first ++ ends.emitted;
    walked =
        walk_append state tokens ends.tokens ∙ ap (option_and_then (λ n. option_map (all_behind n.emitted) (walk n.state ends.tokens))) walked
        ∙ ap (option_map (all_behind first)) ends.walked;
    there = waits;
    same = there ends.emitted;
    level = refl;
    token = refl;
    harmless = inl nothing;
  }

  waiting : (spelled : Spelled) → CanEndHarmless state place waits → Some waits ≡ Some spelled → CanEndHarmless state place spelled
  waiting spelled h e = subst (CanEndHarmless state place) (same_Some waits spelled e) h

pub can_end_harmless : (state : State) (place : ℕ) (spelled : Spelled) → slice_get (pending state) place ≡ Some spelled → CanEndHarmless state place spelled
unfolding step walk
can_end_harmless (AfterInt before) zero spelled e =
    waiting (AfterInt before) 0 _ spelled (emitted_so (AfterInt before) 0 _ _ (Name (codes "x") ∷ Mark sign.OpenBracket ∷ []) _ refl (λ more. refl) refl (state_ends _)) e
can_end_harmless (AfterIntName before name) zero spelled e =
    waiting (AfterIntName before name) 0 _ spelled (emitted_so (AfterIntName before name) 0 _ _ (Mark sign.OpenBracket ∷ []) _ refl (λ more. refl) refl (state_ends _)) e
can_end_harmless (AfterIntName before name) (suc zero) spelled e =
    waiting (AfterIntName before name) 1 _ spelled (emitted_so (AfterIntName before name) 1 _ _ (Mark sign.OpenParen ∷ []) _ refl (λ more. refl) refl (state_ends _)) e
can_end_harmless (AfterRightName outer name) zero spelled e =
    waiting (AfterRightName outer name) 0 _ spelled (emitted_so (AfterRightName outer name) 0 _ _ (Mark sign.OpenParen ∷ []) _ refl (λ more. refl) refl (state_ends _)) e
can_end_harmless state place spelled e = absurd (cc)
