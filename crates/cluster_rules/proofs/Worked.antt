-- The logs that were worked out by hand are runs. In some `main` is stolen, and so its closures are given.
use Rattle.std.proofs.Common.{◌≡◌, ℕ, zero-le, List, [], ◌∷◌, Option, Some, None, ℤ, pos, true, false, refl}
use Rattle.machine_code.specs.Early.{Steps, Answered, at_sync}
use Rattle.cilk_meaning.specs.Wants.{Answer, Value, Children, Done}
use Rattle.machine_code.specs.Machine.{wants}
use Rattle.machine_code.specs.Valid.{IsValid}
use Rattle.machine_rows.proofs.Checking.{written}
use Rattle.page_words.specs.Limits.{IsWithinLimits}
use Rattle.page_messages.specs.declared.closure.Child.{Child}
use Rattle.page_messages.specs.declared.closure.Closure.{Closure}
use Rattle.page_messages.specs.declared.closure.Link.TheVariants.{Root}
use Rattle.cluster_rules.specs.Turns.{posted, past_of}
use Rattle.cluster_rules.specs.Cache.{by_use}
use Rattle.cluster_rules.specs.Home.{owed_home_replies, owed_adds, owed_olds}
use Rattle.cluster_rules.specs.Lives.{main_id}
use Rattle.cluster_rules.specs.Frames.{frames_of, next_frame, next_join, ticks_of}
use Rattle.cluster_rules.specs.Asks.{asks_of}
use Rattle.cluster_rules.specs.Runs.{IsRun}
use Rattle.cluster_rules.specs.Cases.{empty_main, alone_with, empty_main_log, EmptyMain, three_writes, two_with, three_writes_log, ThreeWrites, join}
use Rattle.cluster_rules.specs.EarlyPark.{speakers, speakers_log, EarlyPark}
use Rattle.cluster_rules.specs.SmallCache.{one_page_with, small_cache_log, small_caches_log, SmallCache}
use Rattle.cluster_rules.specs.TwoAdds.{two_adds, adders_with, own_adds_log, two_adds_log, TwoAdds}
use Rattle.cluster_rules.specs.TwoWriters.{two_writers, pair_with, two_writers_log, TwoWriters}
use Rattle.cluster_rules.proofs.DecidingClosures.{closure_by, goes_alike}
use Rattle.cluster_rules.proofs.DecidingRuns.{run_by}

pub empty_main_runs : EmptyMain
unfolding posted past_of by_use owed_home_replies owed_adds owed_olds frames_of next_frame next_join ticks_of asks_of
empty_main_runs limits = run_by (alone_with empty_main limits) empty_main_log [] refl tt refl

pub three_writes_run : ThreeWrites
unfolding posted past_of by_use owed_home_replies owed_adds owed_olds frames_of next_frame next_join ticks_of asks_of
three_writes_run limits = run_by (two_with three_writes limits) three_writes_log [] refl tt refl

small_cache : (limits : IsWithinLimits 1 1 1 2000000) → IsRun (one_page_with 1 2000000 limits) small_cache_log
unfolding posted past_of by_use owed_home_replies owed_adds owed_olds frames_of next_frame next_join ticks_of asks_of
small_cache limits = run_by (one_page_with 1 2000000 limits) small_cache_log [] refl tt refl

small_caches : (limits : IsWithinLimits 2 1 1 1000000) → IsRun (one_page_with 2 1000000 limits) small_caches_log
unfolding posted past_of by_use owed_home_replies owed_adds owed_olds frames_of next_frame next_join ticks_of asks_of
small_caches limits = run_by (one_page_with 2 1000000 limits) small_caches_log [] refl tt refl

pub small_cache_runs : SmallCache
small_cache_runs = record { alone = small_cache; two_nodes = small_caches }

-- ---- `main` on its way

-- at an instruction, with these locals, behind as many acts and with these children away
abbrev main_at : ℕ → List ℤ → ℕ → List Child → Closure
main_at pc locals acts away = record {
  id = main_id;
  frame = record {
    frame = record { running = record { pc = pc; locals = locals; operands = []; room = 2 }; callers = []; depth = 0; overflowed = false };
    arguments = [];
  };
  acts = acts;
  link = Root;
  spawned = record { index = 0; target = None };
  join = Some (join 0 0);
  away = away;
}

-- the child by the act of this index
abbrev child : ℕ → Option ℕ → Child
child index target = record { index = index; target = target }

-- ---- two writers

writers_valid : IsValid two_writers
writers_valid = written two_writers refl

abbrev writers_first : Closure
writers_first = main_at 13 [] 1 (child 0 None ∷ [])

-- it is stolen so, and parks so
abbrev writers_second : Closure
writers_second = main_at 14 [] 2 (child 0 None ∷ child 1 None ∷ [])

pub two_writers_run : TwoWriters
unfolding posted past_of by_use owed_home_replies owed_adds owed_olds frames_of next_frame next_join ticks_of asks_of
two_writers_run limits =
    run_by (pair_with two_writers limits) two_writers_log (writers_first ∷ writers_second ∷ writers_second ∷ []) refl (
      closure_by ([], None ∷ None ∷ [], None ∷ None ∷ [], refl) (goes_alike (λ answers. refl)) refl,
      (
        closure_by (Answered Done ∷ [], None ∷ [], None ∷ None ∷ [], refl) (goes_alike (λ answers. refl)) refl,
        (
          closure_by (
            Answered Done ∷ [],
            None ∷ [],
            record {
              valid = writers_valid;
              params = refl;
              deep = zero-le;
              has_run = record { proc = record { «cilk» = true; start = 12; params = 0; locals = 0; operands = 2 }; is = refl; comes = refl };
            },
          ) (goes_alike (λ answers. refl)) refl,
          tt,
        ),
      ),
    )
    refl

-- ---- two adds

adds_valid : IsValid two_adds
adds_valid = written two_adds refl

abbrev adds_first : Closure
adds_first = main_at 18 (pos 0 ∷ pos 0 ∷ []) 1 (child 0 (Some 0) ∷ [])

abbrev adds_second : Closure
adds_second = main_at 20 (pos 0 ∷ pos 0 ∷ []) 2 (child 0 (Some 0) ∷ child 1 (Some 1) ∷ [])

own_adds : (limits : IsWithinLimits 1 16 64 2000000) → IsRun (adders_with 1 2000000 limits) own_adds_log
unfolding posted past_of by_use owed_home_replies owed_adds owed_olds frames_of next_frame next_join ticks_of asks_of
own_adds limits = run_by (adders_with 1 2000000 limits) own_adds_log [] refl tt refl

asked_add : (limits : IsWithinLimits 2 16 64 1000000) → IsRun (adders_with 2 1000000 limits) two_adds_log
unfolding posted past_of by_use owed_home_replies owed_adds owed_olds frames_of next_frame next_join ticks_of asks_of
asked_add limits =
    run_by (adders_with 2 1000000 limits) two_adds_log (adds_first ∷ adds_second ∷ adds_second ∷ []) refl (
      closure_by ([], Some 0 ∷ Some 1 ∷ [], Some 0 ∷ Some 1 ∷ [], refl) (goes_alike (λ answers. refl)) refl,
      (
        closure_by (Steps ∷ Answered Done ∷ [], Some 0 ∷ [], Some 0 ∷ Some 1 ∷ [], refl) (goes_alike (λ answers. refl)) refl,
        (
          closure_by (
            Steps ∷ Steps ∷ Steps ∷ Steps ∷ Steps ∷ Answered Done ∷ [],
            Some 0 ∷ [],
            record {
              valid = adds_valid;
              params = refl;
              deep = zero-le;
              has_run = record { proc = record { «cilk» = true; start = 12; params = 0; locals = 2; operands = 2 }; is = refl; comes = refl };
            },
          ) (goes_alike (λ answers. refl)) refl,
          tt,
        ),
      ),
    )
    refl

pub two_adds_run : TwoAdds
two_adds_run = record { alone = own_adds; two_nodes = asked_add }

-- ---- an early park

speakers_valid : IsValid speakers
speakers_valid = written speakers refl

abbrev speaker_first : Closure
speaker_first = main_at 18 [] 1 (child 0 None ∷ [])

abbrev speaker_parks : Closure
speaker_parks = main_at 21 [] 2 (child 0 None ∷ [])

-- the kept value goes to no local
speaker_goes : (answers : List Answer) → wants speakers speaker_parks.frame.frame answers
    ≡ wants speakers speaker_parks.frame.frame (at_sync ((None, pos 0) ∷ []) answers)
speaker_goes [] = refl
speaker_goes (Value value ∷ answers) = refl
speaker_goes (Done ∷ answers) = refl
speaker_goes (Children deposits ∷ answers) = refl

pub early_park_run : EarlyPark
unfolding posted past_of by_use owed_home_replies owed_adds owed_olds frames_of next_frame next_join ticks_of asks_of
early_park_run limits =
    run_by (pair_with speakers limits) speakers_log (speaker_first ∷ speaker_parks ∷ []) refl (
      closure_by (Steps ∷ Steps ∷ Answered Done ∷ [], None ∷ [], None ∷ None ∷ [], refl) speaker_goes refl,
      (
        closure_by (
          Steps ∷ Steps ∷ Answered Done ∷ [],
          None ∷ [],
          record {
            valid = speakers_valid;
            params = refl;
            deep = zero-le;
            has_run = record { proc = record { «cilk» = true; start = 15; params = 0; locals = 0; operands = 2 }; is = refl; comes = refl };
          },
        ) (goes_alike (λ answers. refl)) refl,
        tt,
      ),
    )
    refl
