-- While answers of the right kind come, an instance wants something: so a service comes to an end by a tick that is wanted.
use Rattle.std.proofs.Common.{◌≡◌, ℕ, zero, suc, ◌+◌, ◌≤◌, List, [], ◌∷◌, length, Option, Some, None, refl, subst, arith}
use Rattle.std.specs.Prelude.{ℤ, Bool, true}
use Rattle.cilk_meaning.specs.declared.ends.NodeEnd.TheVariants.{Finished, Trapped, Budget}
use Rattle.cilk_meaning.specs.declared.ends.TrapKind.{TrapKind}
use Rattle.cilk_meaning.specs.Instance.{Limits, Meaning, ends, instance}
use Rattle.cilk_meaning.specs.Resolved.{Program}
use Rattle.cilk_meaning.specs.Serve.{Parent, State, now, after, served, serve, first_state}
use Rattle.cilk_meaning.specs.Wants.{Request, Read, Write, Add, Print, Spawn, Sync, Call, LoopTurn, Want, Asks, Returns, Traps, Answer, Value, Children, Done, suits}
use Rattle.cilk_meaning.specs.World.{End}
use Rattle.cilk_meaning.proofs.Asks.{IsKept}
use Rattle.cilk_meaning.proofs.Keeps.{IsInvariant, serve_keeps}
use Rattle.cilk_meaning.proofs.Walk.{instance_kept}

-- for so many answers of the right kind something is wanted
abbrev LivesAt : (Meaning → Type 0) → Option Want → Meaning → Type 0
LivesAt living None g = ⊥
LivesAt living (Some (Asks request)) g = (a : Answer) → suits request a ≡ true → living (after g a)
LivesAt living (Some (Returns v)) g = Unit {0}
LivesAt living (Some (Traps kind)) g = Unit {0}

abbrev pub Lives : ℕ → Meaning → Type 0
Lives zero = λ g. Unit {0}
Lives (suc k) = λ g. LivesAt (Lives k) (now g) g

lives_on_at : (more fewer : Meaning → Type 0) → ((g : Meaning) → more g → fewer g) → (o : Option Want) (g : Meaning) → LivesAt more o g → LivesAt fewer o g
lives_on_at more fewer le None g lives = lives
lives_on_at more fewer le (Some (Asks request)) g lives = λ a good. le (after g a) (lives a good)
lives_on_at more fewer le (Some (Returns v)) g lives = tt
lives_on_at more fewer le (Some (Traps kind)) g lives = tt

lives_less : (k m : ℕ) (g : Meaning) → k ≤ m → Lives m g → Lives k g
lives_less zero m g le lives = tt
lives_less (suc k) zero g le lives = absurd (omega arith)
lives_less (suc k) (suc m) g le lives = lives_on_at (Lives m) (Lives k) (λ h. lives_less k m h (omega arith)) (now g) g lives

traps_live : (k : ℕ) (kind : TrapKind) → Lives k (ends (Traps kind))
traps_live zero kind = tt
traps_live (suc k) kind = tt

returns_live : (k : ℕ) (v : ℤ) → Lives k (ends (Returns v))
returns_live zero v = tt
returns_live (suc k) v = tt

abbrev Living : Bool → ℕ → Meaning → Meaning → Type 0
Living out k g h = Lives k g

living_kept : IsKept true Living
living_kept = record {
  none = λ out g h. tt;
  less = λ out k m g h le lives. lives_less k m g le lives;
  settled = λ k g h lives. lives;
  traps = λ out k kind. traps_live k kind;
  returns = λ k v. returns_live k v;
  asks = λ out k request f f' may follows a good. follows.fit a good;
}

pub instance_lives : (most : Limits) (program : Program) (depth bound : ℕ) (f : ℕ) (vs : List ℤ) → Lives bound (instance most program depth bound f vs)
instance_lives most program depth bound f vs =
    instance_kept Living living_kept most program depth bound bound bound (omega arith) (omega arith) f vs (λ out v. returns_live bound v)

-- ---- how many ticks a service makes

abbrev AllLive : ℕ → List Parent → Type 0
AllLive k [] = Unit {0}
AllLive k (p ∷ ps) = Lives k p.entry.goes × AllLive k ps

all_live_less : (k m : ℕ) (ps : List Parent) → k ≤ m → AllLive m ps → AllLive k ps
all_live_less k m [] le h = tt
all_live_less k m (p ∷ ps) le h = (lives_less k m p.entry.goes le h.0, all_live_less k m ps le h.1)

-- so many ticks were made that with those left they are the budget, and all instances live on
record Counts (budget left : ℕ) (s : State) : Type 0 where
  counted : length s.world.log + left ≡ budget
  running : Lives (suc left) s.running.goes
  waiting : AllLive (suc left) s.waiting

pub record Counted (budget : ℕ) (e : End) : Type 0 where
  pub within : length e.world.log ≤ budget
  pub spent : e.end ≡ Budget → length e.world.log ≡ budget

module _ (most : Limits) (program : Program) (budget : ℕ) where
  abbrev pub start : ℕ → ℕ → List ℤ → Meaning
  start depth f vs = instance most program depth (suc budget) f vs

  not_lost : (left : ℕ) (g : Meaning) → now g ≡ None → Lives (suc left) g → ⊥
  not_lost left g is lives = subst (λ o. LivesAt (Lives left) o g) is lives

  lives_on : (left : ℕ) (g : Meaning) (request : Request) (a : Answer) → now g ≡ Some (Asks request) → suits request a ≡ true → Lives (suc left) g → Lives left (after g a)
  lives_on left g request a is good lives = (subst (λ o. LivesAt (Lives left) o g) is lives) a good

  step_counts : (left : ℕ) (s : State) (request : Request) → now s.running.goes ≡ Some (Asks request) → Counts budget (suc left) s → Counts budget left (served start request s)
  step_counts left s (Read word) is c = record { counted = omega (arith, c.counted); running = lives_on (suc left) s.running.goes (Read word) (Value (s.world.memory word)) is refl c.running; waiting = all_live_less (suc left) (suc (suc left)) s.waiting (omega arith) c.waiting }
  step_counts left s (Write word value) is c = record { counted = omega (arith, c.counted); running = lives_on (suc left) s.running.goes (Write word value) Done is refl c.running; waiting = all_live_less (suc left) (suc (suc left)) s.waiting (omega arith) c.waiting }
  step_counts left s (Add word addend) is c = record { counted = omega (arith, c.counted); running = lives_on (suc left) s.running.goes (Add word addend) (Value (s.world.memory word)) is refl c.running; waiting = all_live_less (suc left) (suc (suc left)) s.waiting (omega arith) c.waiting }
  step_counts left s (Print value) is c = record { counted = omega (arith, c.counted); running = lives_on (suc left) s.running.goes (Print value) Done is refl c.running; waiting = all_live_less (suc left) (suc (suc left)) s.waiting (omega arith) c.waiting }
  step_counts left s (Spawn target f vs) is c = record {
    counted = omega (arith, c.counted);
    running = lives_less (suc left) (suc budget) (start (suc (length s.waiting)) f vs) (omega (arith, c.counted)) (instance_lives most program (suc (length s.waiting)) (suc budget) f vs);
    waiting = (lives_on (suc left) s.running.goes (Spawn target f vs) Done is refl c.running, all_live_less (suc left) (suc (suc left)) s.waiting (omega arith) c.waiting);
  }
  step_counts left s Sync is c = record { counted = omega (arith, c.counted); running = lives_on (suc left) s.running.goes Sync (Children s.running.kept) is refl c.running; waiting = all_live_less (suc left) (suc (suc left)) s.waiting (omega arith) c.waiting }
  step_counts left s Call is c = record { counted = omega (arith, c.counted); running = lives_on (suc left) s.running.goes Call Done is refl c.running; waiting = all_live_less (suc left) (suc (suc left)) s.waiting (omega arith) c.waiting }
  step_counts left s LoopTurn is c = record { counted = omega (arith, c.counted); running = lives_on (suc left) s.running.goes LoopTurn Done is refl c.running; waiting = all_live_less (suc left) (suc (suc left)) s.waiting (omega arith) c.waiting }

  counts : IsInvariant start (Counts budget) (Counted budget)
  counts = record {
    spent = λ s request is c. record { within = omega (arith, c.counted); spent = λ e. omega (arith, c.counted) };
    lost = λ left s is c. absurd (not_lost left s.running.goes is c.running);
    trapped = λ left s kind is c. record { within = omega (arith, c.counted); spent = λ e. (let clash : Trapped kind ≡ Budget = e in absurd cc) };
    finished = λ left e v w is c. record { within = omega (arith, c.counted); spent = λ f. (let clash : Finished ≡ Budget = f in absurd cc) };
    returned = λ left e p ps v w is c. record { counted = c.counted; running = c.waiting.0; waiting = c.waiting.1 };
    step = step_counts;
  }

  pub service_counts : (memory : ℕ → ℤ) → Counted budget (serve start budget (first_state start program.main memory))
  service_counts memory =
      serve_keeps start (Counts budget) (Counted budget) counts budget (first_state start program.main memory)
      (record { counted = omega arith; running = instance_lives most program 0 (suc budget) program.main []; waiting = tt })
