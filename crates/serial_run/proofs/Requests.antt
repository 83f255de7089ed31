-- Each request as the run serves it.
use Rattle.std.proofs.Common.{◌≡◌, ℕ, ◌<◌, List, [], length, set, get_or, Result, Ok, Err, refl, sym, ap, ◌∙◌, subst, ◌⊎◌, inl, inr, arith}
use Rattle.std.specs.Prelude.{ℤ, OnOk}
use Rattle.std.proofs.lemmas.Option.{get_or_from_slice_get}
use Rattle.std.specs.declared.alloc.AllocError.{AllocError}
use Rattle.cilk_meaning.specs.Serve.{State, after, answered, replied, served}
use Rattle.cilk_meaning.specs.Wants as wanted
use Rattle.cilk_meaning.specs.Wants.{Request, Asks, Deposit, Answer, Value, Children, Done}
use Rattle.cilk_meaning.specs.World as world
use Rattle.cilk_meaning.specs.World.{World, sum_or_old, with_word}
use Rattle.elision_history.specs.Logged.{logged}
use Rattle.machine_code.specs.Early.{TakesEarly}
use Rattle.machine_code.specs.Machine.{Code, Frame, starts, wants}
use Rattle.machine_code.specs.Valid.{words_in}
use Rattle.plain_machine.specs.Shown.{WantsNext, meant}
use Rattle.plain_machine.specs.declared.want.Answer as declared
use Rattle.plain_machine.specs.declared.want.Answer.TheVariants as given
use Rattle.plain_machine.specs.declared.want.Want as saying
use Rattle.plain_machine.specs.declared.want.Want.TheVariants as shown
use Rattle.plain_machine.specs.Standing.{StandsIn}
use Rattle.plain_machine.specs.Stepping.{HasResumed}
use Rattle.serial_run.specs.Elision.{AreWords}
use Rattle.serial_run.specs.Running.{GoesAs, IsStanding, Stands}
use Rattle.serial_run.specs.Serving.{Serves, ServesWant, meant_by}
use Rattle.serial_run.specs.declared.run.Run.{Run}
use Rattle.serial_run.proofs.Blind.{wants_words}
use Rattle.serial_run.proofs.Coming.{goes_answered, goes_synced}
use Rattle.serial_run.proofs.Standing.{Stays, replied_stands, words_set}
use Rattle.span_tree.specs.declared.act.Act.{Act}
use Rattle.span_tree.specs.declared.act.Act.TheVariants.{Read, Write, Add, Print, Sync}
use Rattle.span_tree.specs.History.{row_at}
use Rattle.span_tree.specs.Recording.{Recorded, recorded, with_act}
use Rattle.span_tree.proofs.Growing.{with_length, with_parent}

-- What an answer made of a frame.
pub record Answering (code : Code) (request : Request) (answer : Answer) (old new : Frame) : Type 0 where
  pub wants_so : wants code new ≡ after (wants code old) answer
  pub resumed : HasResumed code request answer old new
  pub fine : StandsIn code new

pub answering : (code : Code) (old new : Frame) (request : Request) (answer : declared.Answer) → WantsNext code old (Asks request) → StandsIn code new → {B : Type 0} (result : Result (Unit {0}) AllocError) →
    OnOk result ((request : Request) → WantsNext code old (Asks request) → wants code new ≡ after (wants code old) (meant request answer)) →
    OnOk result ((request : Request) → WantsNext code old (Asks request) → HasResumed code request (meant request answer) old new) →
    (Answering code request (meant request answer) old new → B) → OnOk result B
answering code old new request answer next fine {B} (Ok u) goes resumed h = h (record { wants_so = goes request next; resumed = resumed request next; fine = fine })
answering code old new request answer next fine {B} (Err u) goes resumed h = tt

-- a word that a frame wants is there
pub word_inside : (code : Code) (run : Run) → IsStanding code run → (word : ℕ) → word < words_in code.shared → word < length run.words.items
word_inside code run s word inside = let count = s.1.words.count_is in omega (arith, inside, count)

pub read_inside : (code : Code) (run : Run) → IsStanding code run → (word : ℕ) → WantsNext code run.frame.frame (Asks (wanted.Read word)) → word < length run.words.items
read_inside code run s word next = word_inside code run s word (wants_words code s.1.come.lasted.valid.arrays run.frame.frame (wanted.Read word) next)

pub write_inside : (code : Code) (run : Run) → IsStanding code run → (word : ℕ) (value : ℤ) → WantsNext code run.frame.frame (Asks (wanted.Write word value)) → word < length run.words.items
write_inside code run s word value next = word_inside code run s word (wants_words code s.1.come.lasted.valid.arrays run.frame.frame (wanted.Write word value) next)

pub add_inside : (code : Code) (run : Run) → IsStanding code run → (word : ℕ) (addend : ℤ) → WantsNext code run.frame.frame (Asks (wanted.Add word addend)) → word < length run.words.items
add_inside code run s word addend next = word_inside code run s word (wants_words code s.1.come.lasted.valid.arrays run.frame.frame (wanted.Add word addend) next)

-- what is read is what the word holds
held : (code : Code) (run : Run) (state : State) → Stands code run state → (word : ℕ) → word < length run.words.items → (value : ℤ) → value ≡ get_or run.words.items word value → value ≡ state.world.memory word
held code run state s word inside value e =
    let count = s.words.count_is in
    e ∙ get_or_from_slice_get run.words.items word (state.world.memory word) value (s.words.each_is word (omega (arith, inside, count)))

module _ (code : Code) (old new : Run) (parents : new.parents.items ≡ old.parents.items) (left : new.left ≡ old.left) where
  -- ---- requests that are no acts
  module _ (quiet : new.recording ≡ old.recording) (words : new.words.items ≡ old.words.items) where
    quiet_stays : Stays old new
    quiet_stays = record {
      parents = parents;
      row = ap (λ (r : Recorded). r.row) quiet;
      size = ap (λ (r : Recorded). length r.history) quiet;
      above = λ q inside. ap (λ (r : Recorded). (row_at r.history q).parent) quiet;
    }

    quiet_words : (state : State) → Stands code old state → AreWords (words_in code.shared) state.world.memory new.words.items
    quiet_words state s = subst (λ items. AreWords (words_in code.shared) state.world.memory items) (sym words) s.words

    pub call_serves : Answering code wanted.Call Done old.frame.frame new.frame.frame → Serves code wanted.Call old new
    call_serves a = record {
      left = left;
      stands = λ state s. replied_stands code old new state s quiet_stays wanted.Call Done Done state.running.kept (world.after_tick state.running.row state.world) a.resumed a.fine
          (λ early goes. goes_answered code old.frame.frame state.running goes new.frame.frame Done a.wants_so (λ answers. refl))
          (ap (λ (r : Recorded). r.history) quiet ∙ s.history) refl (quiet_words state s);
    }

    pub turn_serves : Answering code wanted.LoopTurn Done old.frame.frame new.frame.frame → Serves code wanted.LoopTurn old new
    turn_serves a = record {
      left = left;
      stands = λ state s. replied_stands code old new state s quiet_stays wanted.LoopTurn Done Done state.running.kept (world.after_tick state.running.row state.world) a.resumed a.fine
          (λ early goes. goes_answered code old.frame.frame state.running goes new.frame.frame Done a.wants_so (λ answers. refl))
          (ap (λ (r : Recorded). r.history) quiet ∙ s.history) refl (quiet_words state s);
    }

  -- ---- acts
  module _ (act : Act) (made : new.recording ≡ recorded act old.recording) where
    module _ (state : State) (s : Stands code old state) where
      inside : old.recording.row < length old.recording.history
      inside = let row = s.row in let inside = s.inside in omega (arith, row, inside)

      act_stays : Stays old new
      act_stays = record {
        parents = parents;
        row = ap (λ (r : Recorded). r.row) made;
        size = ap (λ (r : Recorded). length r.history) made ∙ with_length old.recording.history old.recording.row act inside;
        above = λ q before. ap (λ (r : Recorded). (row_at r.history q).parent) made ∙ with_parent old.recording.history old.recording.row act inside q;
      }

      act_history : new.recording.history ≡ with_act state.running.row act (logged code.main state.world.log)
      act_history = ap (λ (r : Recorded). r.history) made ∙ ap (λ row. with_act row act old.recording.history) s.row ∙ ap (with_act state.running.row act) s.history

  read_so : (word : ℕ) (value : ℤ) (state : State) → Stands code old state → new.recording ≡ recorded (Read word value) old.recording → new.words.items ≡ old.words.items → value ≡ state.world.memory word →
      Answering code (wanted.Read word) (Value value) old.frame.frame new.frame.frame → Stands code new (served (starts code) (wanted.Read word) state)
  read_so word value state s made words is a =
      subst (λ v. Stands code new (replied (Value v) state.running.kept (world.with_event (world.Acts state.running.row (world.Read word v)) state.world) state)) is
      (replied_stands code old new state s (act_stays (Read word value) made state s) (wanted.Read word) (Value value) (Value value) state.running.kept (world.with_event (world.Acts state.running.row (world.Read word value)) state.world) a.resumed a.fine
      (λ early goes. goes_answered code old.frame.frame state.running goes new.frame.frame (Value value) a.wants_so (λ answers. refl))
      (act_history (Read word value) made state s) refl
      (subst (λ items. AreWords (words_in code.shared) state.world.memory items) (sym words) s.words))

  pub read_serves : (word : ℕ) (value : ℤ) → word < length old.words.items → value ≡ get_or old.words.items word value → new.recording ≡ recorded (Read word value) old.recording → new.words.items ≡ old.words.items →
      Answering code (wanted.Read word) (Value value) old.frame.frame new.frame.frame → Serves code (wanted.Read word) old new
  read_serves word value there is made words a = record {
    left = left;
    stands = λ state s. read_so word value state s made words (held code old state s word there value is) a;
  }

  pub write_serves : (word : ℕ) (value : ℤ) → new.recording ≡ recorded (Write word value) old.recording → new.words.items ≡ set old.words.items word value →
      Answering code (wanted.Write word value) Done old.frame.frame new.frame.frame → Serves code (wanted.Write word value) old new
  write_serves word value made words a = record {
    left = left;
    stands = λ state s.
        replied_stands code old new state s (act_stays (Write word value) made state s) (wanted.Write word value) Done Done state.running.kept (world.after_write state.running.row word value state.world) a.resumed a.fine
        (λ early goes. goes_answered code old.frame.frame state.running goes new.frame.frame Done a.wants_so (λ answers. refl))
        (act_history (Write word value) made state s) refl
        (subst (λ items. AreWords (words_in code.shared) (with_word word value state.world.memory) items) (sym words) (words_set (words_in code.shared) state.world.memory old.words.items s.words word value));
  }

  add_so : (word : ℕ) (value addend : ℤ) (state : State) → Stands code old state → new.recording ≡ recorded (Add word value addend) old.recording →
      new.words.items ≡ set old.words.items word (sum_or_old value addend) → value ≡ state.world.memory word →
      Answering code (wanted.Add word addend) (Value value) old.frame.frame new.frame.frame → Stands code new (served (starts code) (wanted.Add word addend) state)
  add_so word value addend state s made words is a =
      let behind : ℤ → World = λ v. world.with_event (world.Acts state.running.row (world.Add word v addend)) (record { memory = with_word word (sum_or_old v addend) state.world.memory; rows = state.world.rows; log = state.world.log }) in
      subst (λ v. Stands code new (replied (Value v) state.running.kept (behind v) state)) is
      (replied_stands code old new state s (act_stays (Add word value addend) made state s) (wanted.Add word addend) (Value value) (Value value) state.running.kept (behind value) a.resumed a.fine
      (λ early goes. goes_answered code old.frame.frame state.running goes new.frame.frame (Value value) a.wants_so (λ answers. refl))
      (act_history (Add word value addend) made state s) refl
      (subst (λ items. AreWords (words_in code.shared) (with_word word (sum_or_old value addend) state.world.memory) items) (sym words)
      (words_set (words_in code.shared) state.world.memory old.words.items s.words word (sum_or_old value addend))))

  pub add_serves : (word : ℕ) (value addend : ℤ) → word < length old.words.items → value ≡ get_or old.words.items word value → new.recording ≡ recorded (Add word value addend) old.recording →
      new.words.items ≡ set old.words.items word (sum_or_old value addend) → Answering code (wanted.Add word addend) (Value value) old.frame.frame new.frame.frame → Serves code (wanted.Add word addend) old new
  add_serves word value addend there is made words a = record {
    left = left;
    stands = λ state s. add_so word value addend state s made words (held code old state s word there value is) a;
  }

  pub print_serves : (value : ℤ) → new.recording ≡ recorded (Print value) old.recording → new.words.items ≡ old.words.items →
      Answering code (wanted.Print value) Done old.frame.frame new.frame.frame → Serves code (wanted.Print value) old new
  print_serves value made words a = record {
    left = left;
    stands = λ state s.
        replied_stands code old new state s (act_stays (Print value) made state s) (wanted.Print value) Done Done state.running.kept (world.after_print state.running.row value state.world) a.resumed a.fine
        (λ early goes. goes_answered code old.frame.frame state.running goes new.frame.frame Done a.wants_so (λ answers. refl))
        (act_history (Print value) made state s) refl
        (subst (λ items. AreWords (words_in code.shared) state.world.memory items) (sym words) s.words);
  }

  pub sync_serves : new.recording ≡ recorded Sync old.recording → new.words.items ≡ old.words.items →
      Answering code wanted.Sync (Children []) old.frame.frame new.frame.frame → Serves code wanted.Sync old new
  sync_serves made words a = record {
    left = left;
    stands = λ state s.
        synced_stands state s a (λ early goes. goes_synced code old.frame.frame state.running goes new.frame.frame a.wants_so);
  }
    where
      synced_stands : (state : State) → Stands code old state → Answering code wanted.Sync (Children []) old.frame.frame new.frame.frame →
          (TakesEarly code → GoesAs code old.frame.frame state.running → GoesAs code new.frame.frame (answered (Children state.running.kept) [] state.running)) → Stands code new (served (starts code) wanted.Sync state)
      synced_stands state s a goes =
          replied_stands code old new state s (act_stays Sync made state s) wanted.Sync (Children []) (Children state.running.kept) [] (world.after_sync state.running.row state.world) a.resumed a.fine goes
          (act_history Sync made state s) refl
          (subst (λ items. AreWords (words_in code.shared) state.world.memory items) (sym words) s.words)

-- a want that is no act
pub quiet_serves : (code : Code) (old new : Run) → new.parents.items ≡ old.parents.items → new.left ≡ old.left → new.recording ≡ old.recording → new.words.items ≡ old.words.items →
    (said : saying.Want) (arguments : List ℤ) → (said ≡ shown.Call) ⊎ (said ≡ shown.LoopTurn) → WantsNext code old.frame.frame (meant_by said arguments) → StandsIn code new.frame.frame →
    (result : Result (Unit {0}) AllocError) →
    OnOk result ((request : Request) → WantsNext code old.frame.frame (Asks request) → wants code new.frame.frame ≡ after (wants code old.frame.frame) (meant request given.Done)) →
    OnOk result ((request : Request) → WantsNext code old.frame.frame (Asks request) → HasResumed code request (meant request given.Done) old.frame.frame new.frame.frame) → OnOk result (ServesWant code (meant_by said arguments) old new)
quiet_serves code old new parents left quiet words said arguments (inl is) next fine result goes resumed =
    subst (λ s. OnOk result (ServesWant code (meant_by s arguments) old new)) (sym is)
    (answering code old.frame.frame new.frame.frame wanted.Call given.Done (subst (λ s. WantsNext code old.frame.frame (meant_by s arguments)) is next) fine result goes resumed (call_serves code old new parents left quiet words))
quiet_serves code old new parents left quiet words said arguments (inr is) next fine result goes resumed =
    subst (λ s. OnOk result (ServesWant code (meant_by s arguments) old new)) (sym is)
    (answering code old.frame.frame new.frame.frame wanted.LoopTurn given.Done (subst (λ s. WantsNext code old.frame.frame (meant_by s arguments)) is next) fine result goes resumed (turn_serves code old new parents left quiet words))
