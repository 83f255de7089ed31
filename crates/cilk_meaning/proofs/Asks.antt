-- A relation between two meanings that each want keeps: an answer of the right kind leads on, any other to nothing.
use Rattle.std.proofs.Common.{◌≡◌, ℕ, suc, ◌≤◌, List, Option, refl}
use Rattle.std.specs.Prelude.{ℤ, Bool, true, false}
use Rattle.cilk_meaning.specs.declared.ends.TrapKind.{TrapKind}
use Rattle.cilk_meaning.specs.Instance.{Meaning, ends, silent, ask, on_value, on_children, on_done}
use Rattle.cilk_meaning.specs.Wants.{Request, Read, Write, Add, Print, Spawn, Sync, Call, LoopTurn, Returns, Traps, Deposit, Answer, Value, Children, Done, suits}

-- requests that Done answers and that leave the block as it is
abbrev pub is_quiet : Request → Bool
is_quiet (Read word) = false
is_quiet (Write word value) = true
is_quiet (Add word addend) = false
is_quiet (Print value) = true
is_quiet (Spawn target procedure arguments) = false
is_quiet Sync = false
is_quiet Call = true
is_quiet LoopTurn = true

abbrev pub IsNoSpawn : Request → Type 0
IsNoSpawn (Read word) = Unit {0}
IsNoSpawn (Write word value) = Unit {0}
IsNoSpawn (Add word addend) = Unit {0}
IsNoSpawn (Print value) = Unit {0}
IsNoSpawn (Spawn target procedure arguments) = ⊥
IsNoSpawn Sync = Unit {0}
IsNoSpawn Call = Unit {0}
IsNoSpawn LoopTurn = Unit {0}

pub quiet_no_spawn : (request : Request) → is_quiet request ≡ true → IsNoSpawn request
quiet_no_spawn (Read word) is = tt
quiet_no_spawn (Write word value) is = tt
quiet_no_spawn (Add word addend) is = tt
quiet_no_spawn (Print value) is = tt
quiet_no_spawn (Spawn target procedure arguments) is = absurd cc
quiet_no_spawn Sync is = tt
quiet_no_spawn Call is = tt
quiet_no_spawn LoopTurn is = tt

-- whether a child may be out behind a request
abbrev pub out_after : Request → Bool → Bool
out_after (Read word) out = out
out_after (Write word value) out = out
out_after (Add word addend) out = out
out_after (Print value) out = out
out_after (Spawn target procedure arguments) out = true
out_after Sync out = false
out_after Call out = out
out_after LoopTurn out = out

-- what answers lead to: the relation, where they are of the right kind
pub record Follows (R : Bool → ℕ → Meaning → Meaning → Type 0) (request : Request) (out : Bool) (k : ℕ) (f f' : Answer → Meaning) : Type 0 where
  pub fit : (a : Answer) → suits request a ≡ true → R (out_after request out) k (f a) (f' a)
  pub unfit : (a : Answer) → suits request a ≡ false → (f a ≡ silent) × (f' a ≡ silent)

-- An index says below how many answers the relation holds, and a flag whether a child of the block may be out.
-- Where no spawn may come, none has to keep it.
pub record IsKept (may_spawn : Bool) (R : Bool → ℕ → Meaning → Meaning → Type 0) : Type 0 where
  pub none : (out : Bool) (g h : Meaning) → R out 0 g h
  pub less : (out : Bool) (k m : ℕ) (g h : Meaning) → k ≤ m → R out m g h → R out k g h
  pub settled : (k : ℕ) (g h : Meaning) → R true k g h → R false k g h
  pub traps : (out : Bool) (k : ℕ) (kind : TrapKind) → R out k (ends (Traps kind)) (ends (Traps kind))
  pub returns : (k : ℕ) (v : ℤ) → R false k (ends (Returns v)) (ends (Returns v))
  pub asks : (out : Bool) (k : ℕ) (request : Request) (f f' : Answer → Meaning) → (may_spawn ≡ false → IsNoSpawn request) → Follows R request out k f f' → R out (suc k) (ask request f) (ask request f')

module _ (R : Bool → ℕ → Meaning → Meaning → Type 0) where
  pub read_follows : (out : Bool) (k word : ℕ) (g h : ℤ → Meaning) → ((v : ℤ) → R out k (g v) (h v)) → Follows R (Read word) out k (on_value g) (on_value h)
  read_follows out k word g h r = record { fit = fit; unfit = unfit }
    where
      fit : (a : Answer) → suits (Read word) a ≡ true → R out k (on_value g a) (on_value h a)
      fit (Value v) is = r v
      fit (Children d) is = absurd cc
      fit Done is = absurd cc

      unfit : (a : Answer) → suits (Read word) a ≡ false → (on_value g a ≡ silent) × (on_value h a ≡ silent)
      unfit (Value v) is = absurd cc
      unfit (Children d) is = (refl, refl)
      unfit Done is = (refl, refl)

  pub add_follows : (out : Bool) (k word : ℕ) (addend : ℤ) (g h : ℤ → Meaning) → ((v : ℤ) → R out k (g v) (h v)) → Follows R (Add word addend) out k (on_value g) (on_value h)
  add_follows out k word addend g h r = record { fit = fit; unfit = unfit }
    where
      fit : (a : Answer) → suits (Add word addend) a ≡ true → R out k (on_value g a) (on_value h a)
      fit (Value v) is = r v
      fit (Children d) is = absurd cc
      fit Done is = absurd cc

      unfit : (a : Answer) → suits (Add word addend) a ≡ false → (on_value g a ≡ silent) × (on_value h a ≡ silent)
      unfit (Value v) is = absurd cc
      unfit (Children d) is = (refl, refl)
      unfit Done is = (refl, refl)

  pub sync_follows : (out : Bool) (k : ℕ) (g h : List Deposit → Meaning) → ((d : List Deposit) → R false k (g d) (h d)) → Follows R Sync out k (on_children g) (on_children h)
  sync_follows out k g h r = record { fit = fit; unfit = unfit }
    where
      fit : (a : Answer) → suits Sync a ≡ true → R false k (on_children g a) (on_children h a)
      fit (Value v) is = absurd cc
      fit (Children d) is = r d
      fit Done is = absurd cc

      unfit : (a : Answer) → suits Sync a ≡ false → (on_children g a ≡ silent) × (on_children h a ≡ silent)
      unfit (Value v) is = (refl, refl)
      unfit (Children d) is = absurd cc
      unfit Done is = (refl, refl)

  -- a request that Done answers
  pub record IsDone (request : Request) : Type 0 where
    pub value : (v : ℤ) → suits request (Value v) ≡ false
    pub children : (d : List Deposit) → suits request (Children d) ≡ false
    pub done : suits request Done ≡ true

  pub done_follows : (out : Bool) (k : ℕ) (request : Request) (g h : Meaning) → IsDone request → R (out_after request out) k g h → Follows R request out k (on_done g) (on_done h)
  done_follows out k request g h is r = record { fit = fit; unfit = unfit }
    where
      fit : (a : Answer) → suits request a ≡ true → R (out_after request out) k (on_done g a) (on_done h a)
      fit (Value v) good = let no_value = is.value v in absurd cc
      fit (Children d) good = let no_children = is.children d in absurd cc
      fit Done good = r

      unfit : (a : Answer) → suits request a ≡ false → (on_done g a ≡ silent) × (on_done h a ≡ silent)
      unfit (Value v) no_fit = (refl, refl)
      unfit (Children d) no_fit = (refl, refl)
      unfit Done no_fit = let good = is.done in absurd cc

  pub spawn_done : (target : Option ℕ) (procedure : ℕ) (arguments : List ℤ) → IsDone (Spawn target procedure arguments)
  spawn_done target procedure arguments = record { value = λ v. refl; children = λ d. refl; done = refl }

  pub quiet_follows : (out : Bool) (k : ℕ) (request : Request) (g h : Meaning) → is_quiet request ≡ true → R out k g h → Follows R request out k (on_done g) (on_done h)
  quiet_follows out k (Read word) g h is r = absurd cc
  quiet_follows out k (Write word value) g h is r = done_follows out k (Write word value) g h (record { value = λ v. refl; children = λ d. refl; done = refl }) r
  quiet_follows out k (Add word addend) g h is r = absurd cc
  quiet_follows out k (Print value) g h is r = done_follows out k (Print value) g h (record { value = λ v. refl; children = λ d. refl; done = refl }) r
  quiet_follows out k (Spawn target procedure arguments) g h is r = absurd cc
  quiet_follows out k Sync g h is r = absurd cc
  quiet_follows out k Call g h is r = done_follows out k Call g h (record { value = λ v. refl; children = λ d. refl; done = refl }) r
  quiet_follows out k LoopTurn g h is r = done_follows out k LoopTurn g h (record { value = λ v. refl; children = λ d. refl; done = refl }) r
