-- Each read of a service gives the last value of its word, and its memory holds the last values at the end.
use Rattle.std.proofs.Common.{◌≡◌, ℕ, zero, ◌<◌, ◌⊎◌, inl, inr, ℤ, true, false, Some, None, List, [], refl, sym, ◌∙◌, ap, arith}
use Rattle.std.proofs.lemmas.Bool.{eqb-true, eqb-false}
use Rattle.std.specs.Prelude.{◌==◌, ◌+ℤ◌}
use Rattle.backer_order.specs.Log as log
use Rattle.backer_order.specs.Log.{Nothing, Event, SharedMemory}
use Rattle.cilk_meaning.proofs.Keeps.{IsInvariant, serve_keeps}
use Rattle.cilk_meaning.specs.Serve.{State, served, serve, first_state}
use Rattle.cilk_meaning.specs.Values.{fits}
use Rattle.cilk_meaning.specs.Wants as wanted
use Rattle.cilk_meaning.specs.Wants.{Request}
use Rattle.cilk_meaning.specs.World as world
use Rattle.cilk_meaning.specs.World.{World, End, with_word, sum_or_old}
use Rattle.cluster_rules.specs.Home.{sum_in}
use Rattle.determinacy.proofs.Rows.{either_bool}
use Rattle.elision_trace.proofs.Lasting.{ObtainsBy, LeavesBy, obtains_by}
use Rattle.elision_trace.proofs.Reading.{no_obtains, Steps, Reads, more, read_steps, quiet_steps, write_steps, sum_fits, sum_lost, word_here, word_there}
use Rattle.elision_trace.specs.Tracing.{frame_at, event_of, events_in}
use Rattle.page_messages.specs.declared.closure.FrameId.{FrameId}
use Rattle.span_tree.specs.Program.{Starts}

some_none : (value : ℤ) → None ≡ Some value → ⊥
some_none value is = cc

module _ (memory : SharedMemory) (sums : (old addend : ℤ) → memory.sum old addend ≡ sum_in old addend) where
  module _ (row word : ℕ) (addend : ℤ) (words : ℕ → ℤ) where
    abbrev event : log.Event
    event = event_of (world.Acts row (world.Add word (words word) addend))

    abbrev behind : ℕ → ℤ
    behind = with_word word (sum_or_old (words word) addend) words

    added : (event' : log.Event) → event ≡ event' → (node other : ℕ) (frame : FrameId) (old more' : ℤ)
        → event' ≡ log.Acts node frame (log.Add other old more') →
        (other ≡ word) × (old ≡ words word) × (more' ≡ addend)
    added event' same node other frame old more' is = (cc, cc, cc)

    obtains : (node other : ℕ) (value : ℤ) → ObtainsBy event node other value → value ≡ words other
    obtains node other value (inl read) = let is = read.1 in absurd cc
    obtains node other value (inr add) = let is = added event refl node other add.0 value add.1 add.2 in is.1 ∙ ap words (sym is.0)

    no_other : (other : ℕ) → (other == word) ≡ false → (node : ℕ) (value : ℤ) → LeavesBy memory event node other value → ⊥
    no_other other differ node value (inl write) = let is = write.1 in cc
    no_other other differ node value (inr add) = eqb-false other word differ (added event refl node other add.0 add.1 add.2 add.3).0

    no_sum : fits (words word +ℤ addend) ≡ false → (other node : ℕ) (value : ℤ) → LeavesBy memory event node other value → ⊥
    no_sum lost other node value (inl write) = let is = write.1 in cc
    no_sum lost other node value (inr add) =
        let is = added event refl node other add.0 add.1 add.2 add.3 in
        some_none value (sym ((sum_lost memory (words word) addend lost).0) ∙ sym (sums (words word) addend)
        ∙ ap (λ i. memory.sum i addend) (sym is.1) ∙ ap (λ i. memory.sum add.1 i) (sym is.2) ∙ add.4)

    abbrev Left : ℕ → Type 0
    Left other = ((node : ℕ) × LeavesBy memory event node other (behind other))
        ⊎ (((node : ℕ) (value : ℤ) → LeavesBy memory event node other value → ⊥) × (behind other ≡ words other))

    left_here : (other : ℕ) → (other == word) ≡ true → (is_fit : (fits (words word +ℤ addend) ≡ true) ⊎ (fits (words word +ℤ addend) ≡ false)) → Left other
    left_here other is (inl fit) = inl (
      0,
      inr (
        frame_at row,
        words word,
        addend,
        ap (λ i. log.Acts 0 (frame_at row) (log.Add i (words word) addend)) (sym (eqb-true other word is)),
        sums (words word) addend ∙ sum_fits memory (words word) addend fit
            ∙ ap (λ i. Some i) (sym (word_here memory word other (sum_or_old (words word) addend) words is)),
      ),
    )
    left_here other is (inr lost) = inr (
      (λ node value. no_sum lost other node value),
      word_here memory word other (sum_or_old (words word) addend) words is ∙ (sum_lost memory (words word) addend lost).1
          ∙ ap words (sym (eqb-true other word is)),
    )

    left : (other : ℕ) → Left other
    left other = elim (either_bool (other == word)) [
      | inl is ↦ left_here other is (either_bool (fits (words word +ℤ addend)))
      | inr differ ↦ inr ((λ node value. no_other other differ node value), word_there memory word other (sum_or_old (words word) addend) words differ)
    ]

    add_steps : Steps memory (world.Acts row (world.Add word (words word) addend)) words behind
    add_steps = record { obtains = obtains; words = left }

  print_steps : (row : ℕ) (value : ℤ) (words : ℕ → ℤ) → Steps memory (world.Acts row (world.Print value)) words words
  print_steps row value words =
      quiet_steps memory (world.Acts row (world.Print value)) words (λ node word frame got is. absurd cc) (λ node word frame got is. absurd cc)
      (λ node word frame old addend is. absurd cc)

  spawn_steps : (row child procedure : ℕ) (arguments : List ℤ) (words : ℕ → ℤ)
      → Steps memory (world.Acts row (world.Spawn child procedure arguments)) words words
  spawn_steps row child procedure arguments words = quiet_steps memory (world.Acts row (world.Spawn child procedure arguments)) words
      (λ node word frame got is. absurd cc) (λ node word frame got is. absurd cc) (λ node word frame old addend is. absurd cc)

  sync_steps : (row : ℕ) (words : ℕ → ℤ) → Steps memory (world.Acts row world.Sync) words words
  sync_steps row words = quiet_steps memory (world.Acts row world.Sync) words (λ node word frame got is. absurd cc) (λ node word frame got is. absurd cc)
      (λ node word frame old addend is. absurd cc)

  tick_steps : (row : ℕ) (words : ℕ → ℤ) → Steps memory (world.Ticks row) words words
  tick_steps row words = quiet_steps memory (world.Ticks row) words (λ node word frame got is. absurd cc) (λ node word frame got is. absurd cc)
      (λ node word frame old addend is. absurd cc)

  module _ (starts : Starts) (main : ℕ) where
    step_reads : (s : State) (request : Request) → Reads memory s.world.memory s.world.log →
        Reads memory (served starts request s).world.memory (served starts request s).world.log
    step_reads s (wanted.Read word) reads =
        more memory s.world.log (world.Acts s.running.row (world.Read word (s.world.memory word))) s.world.memory s.world.memory reads
        (read_steps memory s.running.row word s.world.memory)
    step_reads s (wanted.Write word value) reads =
        more memory s.world.log (world.Acts s.running.row (world.Write word value)) s.world.memory (with_word word value s.world.memory) reads
        (write_steps memory s.running.row word value s.world.memory)
    step_reads s (wanted.Add word addend) reads =
        more memory s.world.log (world.Acts s.running.row (world.Add word (s.world.memory word) addend)) s.world.memory
        (with_word word (sum_or_old (s.world.memory word) addend) s.world.memory) reads (add_steps s.running.row word addend s.world.memory)
    step_reads s (wanted.Print value) reads =
        more memory s.world.log (world.Acts s.running.row (world.Print value)) s.world.memory s.world.memory reads
        (print_steps s.running.row value s.world.memory)
    step_reads s (wanted.Spawn target procedure arguments) reads =
        more memory s.world.log (world.Acts s.running.row (world.Spawn s.world.rows procedure arguments)) s.world.memory s.world.memory reads
        (spawn_steps s.running.row s.world.rows procedure arguments s.world.memory)
    step_reads s wanted.Sync reads =
        more memory s.world.log (world.Acts s.running.row world.Sync) s.world.memory s.world.memory reads (sync_steps s.running.row s.world.memory)
    step_reads s wanted.Call reads =
        more memory s.world.log (world.Ticks s.running.row) s.world.memory s.world.memory reads (tick_steps s.running.row s.world.memory)
    step_reads s wanted.LoopTurn reads =
        more memory s.world.log (world.Ticks s.running.row) s.world.memory s.world.memory reads (tick_steps s.running.row s.world.memory)

    reads_kept : IsInvariant starts (λ left s. Reads memory s.world.memory s.world.log) (λ e. Reads memory e.world.memory e.world.log)
    reads_kept = record {
      spent = λ s request is reads. reads;
      lost = λ left s is reads. reads;
      trapped = λ left s kind is reads. reads;
      finished = λ left entry value made is reads. reads;
      returned = λ left entry parent parents value made is reads. reads;
      step = λ left s request is reads. step_reads s request reads;
    }

    no_leaving : (at : ℕ) → at < zero → ⊥
    no_leaving at before = omega (arith, before)

    first_reads : (words : ℕ → ℤ) → ((word : ℕ) → memory.start word ≡ words word) → Reads memory words []
    first_reads words start = record {
      holds = λ word. inr (record { start = sym (start word); none = λ at before leaving. no_leaving at before });
      reads = λ node word at value gives. absurd (no_obtains node word value (obtains_by (events_in []) at Nothing node word value refl gives));
    }

    pub service_reads : (words : ℕ → ℤ) → ((word : ℕ) → memory.start word ≡ words word) → (budget : ℕ) →
        Reads memory (serve starts budget (first_state starts main words)).world.memory (serve starts budget (first_state starts main words)).world.log
    service_reads words start budget =
        serve_keeps starts (λ left s. Reads memory s.world.memory s.world.log) (λ e. Reads memory e.world.memory e.world.log) reads_kept
        budget (first_state starts main words) (first_reads words start)
