-- The trace of a service is sound, and where it finished `main` has returned.
use Rattle.std.proofs.Common.{◌≡◌, ℕ, ◌<◌, inl, inr, ℤ, true, Some, List, [], ◌∷◌, length, refl, sym, ◌∙◌, ap, subst, arith}
use Rattle.backer_order.specs.Log.{main_id, Act, Spawn, Sync, Nothing, Acts}
use Rattle.cilk_meaning.proofs.Keeps.{IsInvariant, serve_keeps}
use Rattle.cilk_meaning.specs.declared.ends.NodeEnd.TheVariants.{Finished, Trapped, Budget}
use Rattle.cilk_meaning.specs.Serve as serve
use Rattle.cilk_meaning.specs.Serve.{Entry, Parent, State, with_child, served, serve, first_state}
use Rattle.cilk_meaning.specs.Wants as wanted
use Rattle.cilk_meaning.specs.Wants.{Request, Asks, Returns}
use Rattle.cilk_meaning.specs.World as world
use Rattle.cilk_meaning.specs.World.{World, End}
use Rattle.determinacy.specs.Replies.{by, want_at}
use Rattle.elision_trace.proofs.Childless as childless
use Rattle.elision_trace.proofs.Extending.{gives, deposits_none}
use Rattle.elision_trace.proofs.Service.{Good, so_far, its_want, by_act, by_tick, plain_read, plain_write, plain_add, plain_print, plain_tick, plain_step, sync_step}
use Rattle.elision_trace.proofs.Sound.{Sound}
use Rattle.elision_trace.proofs.Spawning.{spawn_step}
use Rattle.elision_trace.proofs.Standing.{Stands}
use Rattle.elision_trace.proofs.Waiting.{stands_again}
use Rattle.elision_trace.specs.Tracing.{frame_at, trace_in}
use Rattle.page_messages.specs.declared.closure.FrameId.{FrameId}
use Rattle.span_tree.specs.Program.{Starts}

-- ---- before the first event

no_item : (frame : FrameId) → by frame Nothing ≡ true → ⊥
unfolding by
no_item frame is = cc

no_act : (node : ℕ) (frame : FrameId) (act : Act) → Nothing ≡ Acts node frame act → ⊥
no_act node frame act is = cc

first_sound : (starts : Starts) (main : ℕ) → Sound starts main (trace_in starts main []) 0
first_sound starts main = record {
  past = λ at after. refl;
  main_is = refl;
  wants = λ at frame is. absurd (no_item frame is);
  deeper = λ at node frame child is. absurd (no_act node frame (Spawn child) is);
  fresh = λ at again node other frame second child is is_again. absurd (no_act node frame (Spawn child) is);
  not_main = λ at node frame child is. absurd (no_act node frame (Spawn child) is);
  born = λ at frame is. absurd (no_item frame is);
  joined = λ at node frame child is on. absurd (no_act node frame Sync is);
}

module _ (starts : Starts) (main : ℕ) where
  first_stands : (memory : ℕ → ℤ) → Stands starts (trace_in starts main []) 0 (first_state starts main memory).running 0 []
  first_stands memory = record {
    goes = sym (childless.first_state starts (trace_in starts main []) main_id);
    kept = sym (deposits_none (gives starts (trace_in starts main []) 0));
    returned = λ child on. absurd on;
    spawned = λ child on. absurd on;
    born = inl refl;
    has_depth = refl;
  }

  pub first_good : (memory : ℕ → ℤ) → Good starts main (first_state starts main memory)
  first_good memory = record {
    sound = first_sound starts main;
    numbered = λ child spawned. absurd (no_act spawned.node spawned.parent (Spawn child) spawned.is);
    below = omega arith;
    top =
        subst (λ i. Stands starts (trace_in starts main []) 0 (first_state starts main memory).running 0 i)
        (sym (childless.first_block (trace_in starts main []) main_id)) (first_stands memory);
    waits = refl;
  }

  -- ---- each request

  pub step_good : (s : State) (request : Request) → serve.now s.running.goes ≡ Some (Asks request) → Good starts main s
      → Good starts main (served starts request s)
  step_good s (wanted.Read word) is good =
      plain_step starts main s good (world.Acts s.running.row (world.Read word (s.world.memory word))) (wanted.Value (s.world.memory word))
      (plain_read s.running.row word (s.world.memory word)) (by_act s.running.row (world.Read word (s.world.memory word)))
      (its_want starts main s good (wanted.Read word) is)
      s.world.memory
  step_good s (wanted.Write word value) is good =
      plain_step starts main s good (world.Acts s.running.row (world.Write word value)) wanted.Done
      (plain_write s.running.row word value) (by_act s.running.row (world.Write word value)) (its_want starts main s good (wanted.Write word value) is)
      (world.with_word word value s.world.memory)
  step_good s (wanted.Add word addend) is good =
      plain_step starts main s good (world.Acts s.running.row (world.Add word (s.world.memory word) addend)) (wanted.Value (s.world.memory word))
      (plain_add s.running.row word (s.world.memory word) addend) (by_act s.running.row (world.Add word (s.world.memory word) addend))
      (its_want starts main s good (wanted.Add word addend) is)
      (world.with_word word (world.sum_or_old (s.world.memory word) addend) s.world.memory)
  step_good s (wanted.Print value) is good =
      plain_step starts main s good (world.Acts s.running.row (world.Print value)) wanted.Done
      (plain_print s.running.row value) (by_act s.running.row (world.Print value)) (its_want starts main s good (wanted.Print value) is)
      s.world.memory
  step_good s (wanted.Spawn target procedure arguments) is good = spawn_step starts main s good target procedure arguments is
  step_good s wanted.Sync is good = sync_step starts main s good is
  step_good s wanted.Call is good =
      plain_step starts main s good (world.Ticks s.running.row) wanted.Done
      (plain_tick s.running.row) (by_tick s.running.row) (inl (its_want starts main s good wanted.Call is))
      s.world.memory
  step_good s wanted.LoopTurn is good =
      plain_step starts main s good (world.Ticks s.running.row) wanted.Done
      (plain_tick s.running.row) (by_tick s.running.row) (inr (its_want starts main s good wanted.LoopTurn is))
      s.world.memory

  -- ---- a return

  abbrev state : Entry → List Parent → World → State
  state entry parents made = record { running = entry; waiting = parents; world = made }

  its_return : (entry : Entry) (parents : List Parent) (value : ℤ) (made : World) → serve.now entry.goes ≡ Some (Returns value)
      → Good starts main (state entry parents made) →
      want_at starts (so_far starts main made.log) (length made.log) (frame_at entry.row) ≡ Some (Returns value)
  its_return entry parents value made is good = ap (λ i. serve.now i) (sym good.top.goes) ∙ is

  pub return_good : (entry : Entry) (parent : Parent) (parents : List Parent) (value : ℤ) (made : World) → serve.now entry.goes ≡ Some (Returns value) →
      Good starts main (state entry (parent ∷ parents) made) → Good starts main (state (with_child parent value) parents made)
  return_good entry parent parents value made is good =
      let waits = good.waits in
      let before : parent.entry.row < entry.row = (waits.0).before in
      record {
        sound = good.sound;
        numbered = good.numbered;
        below = omega (arith, before, good.below);
        top = stands_again starts (so_far starts main made.log) (length made.log) parent entry.row (length parents) value waits.0
            (its_return entry (parent ∷ parents) value made is good);
        waits = waits.1;
      }

  -- ---- the end

  pub record Ended (e : End) : Type 0 where
    pub sound : Sound starts main (so_far starts main e.world.log) (length e.world.log)
    pub finished : e.end ≡ Finished → (value : ℤ) × (want_at starts (so_far starts main e.world.log) (length e.world.log) main_id ≡ Some (Returns value))

  finished_good : (entry : Entry) (value : ℤ) (made : World) → serve.now entry.goes ≡ Some (Returns value) → Good starts main (state entry [] made) →
      Ended (record { end = Finished; world = made })
  finished_good entry value made is good =
      let waits : entry.row ≡ 0 = good.waits in
      record {
        sound = good.sound;
        finished =
            λ done. (
              value,
              ap (λ i. want_at starts (so_far starts main made.log) (length made.log) (frame_at i)) (sym waits)
                  ∙ its_return entry [] value made is good,
            );
      }

  good_kept : IsInvariant starts (λ left s. Good starts main s) Ended
  good_kept = record {
    spent = λ s request is good. record { sound = good.sound; finished = λ done. (let clash : Budget ≡ Finished = done in absurd cc) };
    lost = λ left s is good. record { sound = good.sound; finished = λ done. (let clash : Budget ≡ Finished = done in absurd cc) };
    trapped = λ left s kind is good. record { sound = good.sound; finished = λ done. (let clash : Trapped kind ≡ Finished = done in absurd cc) };
    finished = λ left entry value made is good. finished_good entry value made is good;
    returned = λ left entry parent parents value made is good. return_good entry parent parents value made is good;
    step = λ left s request is good. step_good s request is good;
  }

  pub service_ended : (memory : ℕ → ℤ) (budget : ℕ) → Ended (serve starts budget (first_state starts main memory))
  service_ended memory budget =
      serve_keeps starts (λ left s. Good starts main s) Ended good_kept budget (first_state starts main memory) (first_good memory)
