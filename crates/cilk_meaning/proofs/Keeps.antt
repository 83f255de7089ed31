-- The generic induction on the service: what holds at first and is kept by each request and each return holds at the end.
use Rattle.std.proofs.Common.{◌≡◌, ℕ, zero, suc, List, [], ◌∷◌, Option, Some, None, refl}
use Rattle.std.specs.Prelude.{ℤ}
use Rattle.cilk_meaning.specs.declared.ends.NodeEnd.TheVariants.{Finished, Trapped, Budget}
use Rattle.cilk_meaning.specs.declared.ends.TrapKind.{TrapKind}
use Rattle.cilk_meaning.specs.Instance.{Meaning}
use Rattle.cilk_meaning.specs.Serve.{Entry, Parent, State, now, with_child, served, serve_want, serve_return, serve_request, serve}
use Rattle.cilk_meaning.specs.Wants.{Request, Want, Asks, Returns, Traps}
use Rattle.cilk_meaning.specs.World.{World, End}

-- With so many ticks left the invariant holds of a state, and the end is then as it should be.
pub record IsInvariant (start : ℕ → ℕ → List ℤ → Meaning) (Inv : ℕ → State → Type 0) (Post : End → Type 0) : Type 0 where
  pub spent : (s : State) (request : Request) → now s.running.goes ≡ Some (Asks request) → Inv 0 s → Post (record { end = Budget; world = s.world })
  pub lost : (left : ℕ) (s : State) → now s.running.goes ≡ None → Inv left s → Post (record { end = Budget; world = s.world })
  pub trapped : (left : ℕ) (s : State) (kind : TrapKind) → now s.running.goes ≡ Some (Traps kind) → Inv left s → Post (record { end = Trapped kind; world = s.world })
  pub finished : (left : ℕ) (e : Entry) (v : ℤ) (w : World) → now e.goes ≡ Some (Returns v) → Inv left (record { running = e; waiting = []; world = w }) → Post (record { end = Finished; world = w })
  pub returned : (left : ℕ) (e : Entry) (p : Parent) (ps : List Parent) (v : ℤ) (w : World) → now e.goes ≡ Some (Returns v) →
      Inv left (record { running = e; waiting = p ∷ ps; world = w }) → Inv left (record { running = with_child p v; waiting = ps; world = w })
  pub step : (left : ℕ) (s : State) (request : Request) → now s.running.goes ≡ Some (Asks request) → Inv (suc left) s → Inv left (served start request s)

module _ (start : ℕ → ℕ → List ℤ → Meaning) (Inv : ℕ → State → Type 0) (Post : End → Type 0) (invariant : IsInvariant start Inv Post) where
  abbrev RequestPost : ℕ → Type 0
  RequestPost left = (request : Request) (s : State) → now s.running.goes ≡ Some (Asks request) → Inv left s → Post (serve_request start left request s)

  want_post : (left : ℕ) → RequestPost left → (back : ℤ → World → End) (o : Option Want) (s : State) → now s.running.goes ≡ o → Inv left s →
      ((v : ℤ) → now s.running.goes ≡ Some (Returns v) → Post (back v s.world)) → Post (serve_want (serve_request start left) back o s)
  want_post left t back None s is inv k = invariant.lost left s is inv
  want_post left t back (Some (Asks request)) s is inv k = t request s is inv
  want_post left t back (Some (Returns v)) s is inv k = k v is
  want_post left t back (Some (Traps kind)) s is inv k = invariant.trapped left s kind is inv

  return_post : (left : ℕ) → RequestPost left → (e : Entry) (ps : List Parent) (v : ℤ) (w : World) → now e.goes ≡ Some (Returns v) → Inv left (record { running = e; waiting = ps; world = w }) →
      Post (serve_return (serve_request start left) ps v w)
  return_post left t e [] v w is inv = invariant.finished left e v w is inv
  return_post left t e (p ∷ ps) v w is inv =
      let inv' = invariant.returned left e p ps v w is inv in
      want_post left t (serve_return (serve_request start left) ps) (now p.entry.goes) (record { running = with_child p v; waiting = ps; world = w }) refl inv'
      (λ v' is'. return_post left t (with_child p v) ps v' w is' inv')

  with_post : (left : ℕ) → RequestPost left → (s : State) → Inv left s → Post (serve start left s)
  with_post left t s inv = want_post left t (serve_return (serve_request start left) s.waiting) (now s.running.goes) s refl inv (λ v is. return_post left t s.running s.waiting v s.world is inv)

  request_post : (left : ℕ) → RequestPost left
  request_post zero = λ request s is inv. invariant.spent s request is inv
  request_post (suc left) = λ request s is inv. with_post left (request_post left) (served start request s) (invariant.step left s request is inv)

  -- What holds at first holds at the end.
  pub serve_keeps : (left : ℕ) (s : State) → Inv left s → Post (serve start left s)
  serve_keeps left = with_post left (request_post left)
