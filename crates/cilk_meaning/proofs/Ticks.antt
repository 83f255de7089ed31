-- Services of one state for fewer ticks and for more: where these are enough, they are the same.
use Rattle.std.proofs.Common.{◌≡◌, ◌≢◌, ℕ, zero, suc, ◌+◌, ◌≤◌, List, [], ◌∷◌, length, Option, Some, None, refl, arith}
use Rattle.std.specs.Prelude.{ℤ}
use Rattle.cilk_meaning.specs.declared.ends.NodeEnd.TheVariants.{Budget}
use Rattle.cilk_meaning.specs.Instance.{Meaning}
use Rattle.cilk_meaning.specs.Serve.{Parent, State, now, with_child, served, serve_want, serve_return, serve_request, serve}
use Rattle.cilk_meaning.specs.Wants.{Request, Read, Write, Add, Print, Spawn, Sync, Call, LoopTurn, Want, Asks, Returns, Traps}
use Rattle.cilk_meaning.specs.World.{World, End, ticks_of}
use Rattle.cilk_meaning.proofs.Keeps.{IsInvariant, serve_keeps}

-- `Enough` says that so few ticks are enough from a world on, of the two ends that few and more lead to.
module _ (start : ℕ → ℕ → List ℤ → Meaning) (Enough : ℕ → World → End → End → Type 0) where
  abbrev RequestsLast : ℕ → ℕ → Type 0
  RequestsLast few most = (request : Request) (s : State) → Enough few s.world (serve_request start few request s) (serve_request start most request s) →
      serve_request start most request s ≡ serve_request start few request s

  module _ (few most : ℕ) (last : RequestsLast few most) where
    abbrev ReturnLasts : List Parent → Type 0
    ReturnLasts ps = (v : ℤ) (w : World) → Enough few w (serve_return (serve_request start few) ps v w) (serve_return (serve_request start most) ps v w) →
        serve_return (serve_request start most) ps v w ≡ serve_return (serve_request start few) ps v w

    want_lasts : (ps : List Parent) (o : Option Want) (s : State) → ReturnLasts ps →
        Enough few s.world (serve_want (serve_request start few) (serve_return (serve_request start few) ps) o s) (serve_want (serve_request start most) (serve_return (serve_request start most) ps) o s) →
        serve_want (serve_request start most) (serve_return (serve_request start most) ps) o s ≡ serve_want (serve_request start few) (serve_return (serve_request start few) ps) o s
    want_lasts ps None s back enough = refl
    want_lasts ps (Some (Asks request)) s back enough = last request s enough
    want_lasts ps (Some (Returns v)) s back enough = back v s.world enough
    want_lasts ps (Some (Traps kind)) s back enough = refl

    return_lasts : (ps : List Parent) → ReturnLasts ps
    return_lasts [] v w enough = refl
    return_lasts (p ∷ ps) v w enough = want_lasts ps (now p.entry.goes) (record { running = with_child p v; waiting = ps; world = w }) (return_lasts ps) enough

    with_lasts : (s : State) → Enough few s.world (serve start few s) (serve start most s) → serve start most s ≡ serve start few s
    with_lasts s enough = want_lasts s.waiting (now s.running.goes) s (return_lasts s.waiting) enough

  module _ (none : (most : ℕ) → RequestsLast 0 most)
      (step : (few : ℕ) (request : Request) (s : State) (f m : End) → Enough (suc few) s.world f m → Enough few (served start request s).world f m) where
    requests_last : (few most : ℕ) → few ≤ most → RequestsLast few most
    requests_last zero most le = none most
    requests_last (suc few) zero le = absurd (omega arith)
    requests_last (suc few) (suc most) le = λ request s enough.
        with_lasts few most (requests_last few most (omega arith)) (served start request s) (step few request s _ _ enough)

    lasts : (few most : ℕ) → few ≤ most → (s : State) → Enough few s.world (serve start few s) (serve start most s) → serve start most s ≡ serve start few s
    lasts few most le = with_lasts few most (requests_last few most le)

module _ (start : ℕ → ℕ → List ℤ → Meaning) where
  -- More ticks change nothing where the service did not end for want of them.
  pub more_ticks_served : (few most : ℕ) → few ≤ most → (s : State) → (serve start few s).end ≢ Budget → serve start most s ≡ serve start few s
  more_ticks_served = lasts start (λ few w f m. f.end ≢ Budget) (λ most request s more. absurd (more refl)) (λ few request s f m more. more)

  one_event : (request : Request) (s : State) → length (served start request s).world.log ≡ suc (length s.world.log)
  one_event (Read word) s = refl
  one_event (Write word value) s = refl
  one_event (Add word addend) s = refl
  one_event (Print value) s = refl
  one_event (Spawn target procedure arguments) s = refl
  one_event Sync s = refl
  one_event Call s = refl
  one_event LoopTurn s = refl

  grows : (least : ℕ) → IsInvariant start (λ left s. least ≤ length s.world.log) (λ e. least ≤ ticks_of e)
  grows least = record {
    spent = λ s request is le. le;
    lost = λ left s is le. le;
    trapped = λ left s kind is le. le;
    finished = λ left e v w is le. le;
    returned = λ left e p ps v w is le. le;
    step = λ left s request is le. omega (arith, le, one_event request s);
  }

  service_grows : (left : ℕ) (s : State) → length s.world.log ≤ ticks_of (serve start left s)
  service_grows left s = serve_keeps start _ _ (grows (length s.world.log)) left s (omega arith)

  abbrev Suffices : ℕ → World → End → End → Type 0
  Suffices few w f m = ticks_of m ≤ few + length w.log

  none_suffices : (most : ℕ) → RequestsLast start Suffices 0 most
  none_suffices zero = λ request s enough. refl
  none_suffices (suc most) = λ request s enough. absurd (omega (arith, enough, one_event request s, service_grows most (served start request s)))

  -- As many ticks as it makes with more are enough.
  pub ticks_suffice_served : (few most : ℕ) → few ≤ most → (s : State) → ticks_of (serve start most s) ≤ few + length s.world.log → serve start most s ≡ serve start few s
  ticks_suffice_served = lasts start Suffices none_suffices (λ few request s f m enough. omega (arith, enough, one_event request s))
