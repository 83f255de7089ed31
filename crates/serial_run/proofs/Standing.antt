-- What a run stands for behind each request.
use Rattle.std.proofs.Common.{◌≡◌, ◌⊎◌, ℕ, suc, ◌+◌, ◌<◌, ◌≤◌, List, [], ◌∷◌, ◌++◌, length, reverse, get_or, set, Some, refl, sym, ap, ◌∙◌, subst, inl, inr, arith}
use Rattle.std.specs.Prelude.{ℤ, Bool, true, false, ◌==◌, if◌then◌else◌, slice_get}
use Rattle.std.proofs.lemmas.Bool.{cases_lt, eqb-true, eqb-false}
use Rattle.std.proofs.lemmas.List.{length-append, length-reverse, length-set, get_or-set_same, get_or-set_other}
use Rattle.std.proofs.lemmas.Option.{slice_get-get_or, get_or_from_slice_get}
use Rattle.cilk_meaning.specs.Alone.{block_after}
use Rattle.cilk_meaning.specs.Serve as service
use Rattle.cilk_meaning.specs.Serve.{Entry, State, after, answered, now, replied, served, with_child}
use Rattle.cilk_meaning.specs.Wants.{Request, Deposit, Answer}
use Rattle.cilk_meaning.specs.World.{World, with_word}
use Rattle.elision_history.specs.Logged.{logged}
use Rattle.machine_code.specs.Early.{TakesEarly}
use Rattle.machine_code.specs.Machine.{Code}
use Rattle.machine_code.specs.Valid.{words_in}
use Rattle.plain_machine.specs.Standing.{StandsIn}
use Rattle.plain_machine.specs.Stepping.{HasResumed}
use Rattle.serial_run.specs.Elision.{AreWords}
use Rattle.serial_run.specs.Running.{AllWait, AreAbove, GoesAs, HasCome, Stands}
use Rattle.serial_run.specs.declared.run.Parent.{Parent}
use Rattle.serial_run.specs.declared.run.Run.{Run}
use Rattle.serial_run.proofs.Coming.{come_resumed}
use Rattle.span_tree.specs.History.{History, row_at}
use Rattle.span_tree.proofs.Growing.{get_front, get_last}

-- ---- rows

pub above_grows : (h more : History) → ((q : ℕ) → q < length h → (row_at more q).parent ≡ (row_at h q).parent) → (row : ℕ) → row < length h → (waiting : List service.Parent) →
    AreAbove h row waiting → AreAbove more row waiting
above_grows h more same row inside [] above = tt
above_grows h more same row inside (first ∷ rest) above =
    ((above.0.0, same row inside ∙ above.0.1), above.1, above_grows h more same first.entry.row (omega (arith, inside, above.1)) rest above.2)

pub waiting_length : (code : Code) (parents : List Parent) (waiting : List service.Parent) → AllWait code parents waiting → length parents ≡ length waiting
waiting_length code [] [] all = refl
waiting_length code [] (first ∷ rest) all = absurd all
waiting_length code (parent ∷ parents) [] all = absurd all
waiting_length code (parent ∷ parents) (first ∷ rest) all = ap suc (waiting_length code parents rest all.1)

pub parents_length : (code : Code) (run : Run) (state : State) → Stands code run state → length run.parents.items ≡ length state.waiting
parents_length code run state stands = sym (length-reverse run.parents.items) ∙ waiting_length code (reverse run.parents.items) state.waiting stands.waiting

-- ---- words

module _ (count : ℕ) (memory : ℕ → ℤ) (items : List ℤ) (words : AreWords count memory items) (word : ℕ) (value : ℤ) where
  set_here : (other : ℕ) → other < count → (b : Bool) → (other == word) ≡ b → slice_get (set items word value) other ≡ Some (if b then value else memory other)
  set_here other inside b e =
      let more = words.count_is in
      slice_get-get_or (set items word value) other value (omega (arith, inside, more, length-set items word value)) ∙ ap Some (go b e)
    where
      go : (b : Bool) → (other == word) ≡ b → get_or (set items word value) other value ≡ (if b then value else memory other)
      go true e =
          let same = eqb-true other word e in
          ap (λ k. get_or (set items word value) k value) same ∙ get_or-set_same items word value value (let more = words.count_is in omega (arith, inside, same, more))
      go false e = get_or-set_other items word other value value (eqb-false other word e) ∙ get_or_from_slice_get items other (memory other) value (words.each_is other inside)

  pub words_set : AreWords count (with_word word value memory) (set items word value)
  words_set = record { count_is = length-set items word value ∙ words.count_is; each_is = λ other inside. set_here other inside (other == word) refl }

pub no_words : (memory : ℕ → ℤ) (items : List ℤ) → items ≡ [] → AreWords 0 memory items
no_words memory items e = record { count_is = ap length e; each_is = λ word inside. absurd (omega (arith, inside)) }

-- a list with one word more
pub words_more : (count : ℕ) (memory : ℕ → ℤ) (items more : List ℤ) (value : ℤ) → AreWords count memory items → value ≡ memory count → more ≡ items ++ value ∷ [] → AreWords (count + 1) memory more
words_more count memory items more value words is e = record {
  count_is = let n = words.count_is in let m = ap length e in omega (arith, n, m, length-append items (value ∷ []));
  each_is = λ word inside. ap (λ l. slice_get l word) e ∙ go word (cases_lt word count) inside;
}
  where
    go : (word : ℕ) → (word < count) ⊎ (count ≤ word) → word < count + 1 → slice_get (items ++ value ∷ []) word ≡ Some (memory word)
    go word (inl before) inside = get_front items value (memory word) word (words.each_is word before)
    go word (inr behind) inside =
        let n = words.count_is in
        let here : word ≡ length items = omega (arith, behind, inside, n) in
        let last : word ≡ count = omega (arith, behind, inside) in
        ap (slice_get (items ++ value ∷ [])) here ∙ get_last items value ∙ ap Some (is ∙ ap memory (sym last))

-- ---- a request that the frame goes on from

-- what stays where no child is spawned
pub record Stays (old new : Run) : Type 0 where
  pub parents : new.parents.items ≡ old.parents.items
  pub row : new.recording.row ≡ old.recording.row
  pub size : length new.recording.history ≡ length old.recording.history
  pub above : (q : ℕ) → q < length old.recording.history → (row_at new.recording.history q).parent ≡ (row_at old.recording.history q).parent

module _ (code : Code) (old new : Run) (state : State) (stands : Stands code old state) (stays : Stays old new) where
  module _ (request : Request) (made answer : Answer) (kept : List Deposit) (world : World) (resumed : HasResumed code request made old.frame.frame new.frame.frame) (fine : StandsIn code new.frame.frame) where
    pub replied_stands : (TakesEarly code → GoesAs code old.frame.frame state.running → GoesAs code new.frame.frame (answered answer kept state.running)) →
        new.recording.history ≡ logged code.main world.log → world.rows ≡ state.world.rows → AreWords (words_in code.shared) world.memory new.words.items → Stands code new (replied answer kept world state)
    replied_stands goes history rows words = record {
      fine = fine;
      block = block_after request stands.block;
      come = subst (λ items. HasCome code (length items) new.frame.frame (block_after request stands.block)) (sym stays.parents)
          (come_resumed code (length old.parents.items) old.frame.frame stands.block stands.come request made new.frame.frame resumed);
      goes = λ early. goes early (stands.goes early);
      waiting = subst (λ items. AllWait code (reverse items) state.waiting) (sym stays.parents) stands.waiting;
      row = stays.row ∙ stands.row;
      inside = let n = stays.size in let inside = stands.inside in omega (arith, n, inside);
      above = above_grows old.recording.history new.recording.history stays.above state.running.row stands.inside state.waiting stands.above;
      history = history;
      rows = rows ∙ stands.rows ∙ sym stays.size;
      words = words;
    }
