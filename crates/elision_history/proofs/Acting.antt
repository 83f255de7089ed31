-- The service makes its acts in serial order, and answers from the last writes.
use Rattle.std.proofs.Common.{map, ◌≡◌, ◌⊎◌, ℕ, suc, List, [], ◌∷◌, ◌++◌, length, reverse, Some, None, refl, sym, ap, ◌∙◌, subst, inl, inr}
use Rattle.std.proofs.lemmas.Bool.{eqb-true}
use Rattle.std.proofs.lemmas.List.{append-nil, map-append, reverse-append}
use Rattle.std.proofs.lemmas.List.Elements.{filter_map-append}
use Rattle.std.specs.List.{filter_map, cons_option}
use Rattle.std.specs.Prelude.{ℤ, Bool, true, false, ◌==◌, ◌+ℤ◌, if◌then◌else◌, unwrap_or}
use Rattle.cilk_meaning.specs.declared.ends.NodeEnd.{NodeEnd}
use Rattle.cilk_meaning.specs.Serve.{State, now, served, serve, first_state}
use Rattle.cilk_meaning.specs.Values.{fits}
use Rattle.cilk_meaning.specs.Wants as wanted
use Rattle.cilk_meaning.specs.Wants.{Request, Asks, Returns, Traps}
use Rattle.cilk_meaning.specs.World as world
use Rattle.cilk_meaning.specs.World.{World, End, Event, with_word, sum_or_old, printed}
use Rattle.cilk_meaning.proofs.Keeps.{IsInvariant, serve_keeps}
use Rattle.span_tree.specs.declared.act.Act.{Act}
use Rattle.span_tree.specs.declared.act.Place.{Place}
use Rattle.span_tree.specs.declared.act.Act.TheVariants.{Read, Write, Add, Print, Spawn, Sync}
use Rattle.span_tree.specs.History.{History, serial_acts, serial_order}
use Rattle.span_tree.specs.Memory.{IsAnsweredFrom, ReadsLastWrites, last_write, left_in, printed_by}
use Rattle.span_tree.specs.Program.{Starts}
use Rattle.span_tree.specs.Recording.{with_act, with_child, next_place, IsRunning, spawns_none}
use Rattle.span_tree.proofs.Growing.{act_acts, act_order, child_acts, child_order}
use Rattle.elision_history.specs.Logged.{act_in, logged, row_in}
use Rattle.elision_history.proofs.Histories.{Inv, step_kept, return_kept, first_kept}

-- the acts of a log, in the order in which they were made
abbrev pub acts_in : List Event → List Act
acts_in log = filter_map act_in (reverse log)

-- the rows of the places of a history, in serial order
abbrev pub serial_rows : History → List ℕ
serial_rows h = map (λ (place : Place). place.row) (serial_order h)

-- the rows in which the acts of a log were made, in order
abbrev pub rows_in : List Event → List ℕ
rows_in log = filter_map row_in (reverse log)

-- ---- one event more

one_row_more : (event : Event) (log : List Event) → rows_in (event ∷ log) ≡ rows_in log ++ cons_option (row_in event) []
one_row_more event log = ap (filter_map row_in) (reverse-append (event ∷ []) log) ∙ filter_map-append row_in (reverse log) (event ∷ [])

one_more : (event : Event) (log : List Event) → acts_in (event ∷ log) ≡ acts_in log ++ cons_option (act_in event) []
one_more event log = ap (filter_map act_in) (reverse-append (event ∷ []) log) ∙ filter_map-append act_in (reverse log) (event ∷ [])

pub last_more : (word : ℕ) (value : ℤ) (acts : List Act) (act : Act) → last_write word value (acts ++ act ∷ []) ≡ unwrap_or (left_in word act) (last_write word value acts)
last_more word value [] act = refl
last_more word value (first ∷ acts) act = last_more word (unwrap_or (left_in word first) value) acts act

-- an act in a list that has one act more: it is that act, or was there before
split_more : (acts front back : List Act) (last act : Act) → acts ++ last ∷ [] ≡ front ++ act ∷ back → ((acts ≡ front) × (last ≡ act)) ⊎ ((rest : List Act) × (acts ≡ front ++ act ∷ rest))
split_more [] [] back last act e = inl (refl, cc)
split_more [] (f ∷ []) back last act e = absurd cc
split_more [] (f ∷ g ∷ front) back last act e = absurd cc
split_more (a ∷ acts) [] back last act e = inr (acts, (let same : a ≡ act = cc in ap (λ x. x ∷ acts) same))
split_more (a ∷ acts) (f ∷ front) back last act e =
    let heads : a ≡ f = cc in
    let tails : acts ++ last ∷ [] ≡ front ++ act ∷ back = cc in
    go heads (split_more acts front back last act tails)
  where
    go : a ≡ f → ((acts ≡ front) × (last ≡ act)) ⊎ ((rest : List Act) × (acts ≡ front ++ act ∷ rest)) → ((a ∷ acts ≡ f ∷ front) × (last ≡ act)) ⊎ ((rest : List Act) × (a ∷ acts ≡ f ∷ front ++ act ∷ rest))
    go heads (inl h) = inl (ap (λ x. x ∷ acts) heads ∙ ap (λ l. f ∷ l) h.0, h.1)
    go heads (inr h) = inr (h.0, ap (λ x. x ∷ acts) heads ∙ ap (λ l. f ∷ l) h.1)

reads_more : (start : ℕ → ℤ) (acts : List Act) (last : Act) → ReadsLastWrites start acts → IsAnsweredFrom (λ word. last_write word (start word) acts) last → ReadsLastWrites start (acts ++ last ∷ [])
reads_more start acts last reads answered front back act e = go (split_more acts front back last act e)
  where
    go : ((acts ≡ front) × (last ≡ act)) ⊎ ((rest : List Act) × (acts ≡ front ++ act ∷ rest)) → IsAnsweredFrom (λ word. last_write word (start word) front) act
    go (inl h) = subst (λ a. IsAnsweredFrom (λ word. last_write word (start word) front) a) h.1 (subst (λ l. IsAnsweredFrom (λ word. last_write word (start word) l) last) h.0 answered)
    go (inr h) = reads front h.0 act h.1

-- ---- the words

module _ (start : ℕ → ℤ) where
  -- the words hold the last writes, by which all were answered
  record Answers (memory : ℕ → ℤ) (acts : List Act) : Type 0 where
    holds : (word : ℕ) → memory word ≡ last_write word (start word) acts
    reads : ReadsLastWrites start acts

  answers_more : (memory memory' : ℕ → ℤ) (acts : List Act) (act : Act) → Answers memory acts → (IsAnsweredFrom (λ word. last_write word (start word) acts) act) →
      ((word : ℕ) → memory' word ≡ unwrap_or (left_in word act) (memory word)) → Answers memory' (acts ++ act ∷ [])
  answers_more memory memory' acts act is answered left = record {
    holds = λ word. left word ∙ ap (λ v. unwrap_or (left_in word act) v) (is.holds word) ∙ sym (last_more word (start word) acts act);
    reads = reads_more start acts act is.reads answered;
  }

pub wrote : (memory : ℕ → ℤ) (at : ℕ) (value : ℤ) (word : ℕ) → with_word at value memory word ≡ unwrap_or (left_in word (Write at value)) (memory word)
wrote memory at value word = go (word == at)
  where
    go : (b : Bool) → (if b then value else memory word) ≡ unwrap_or (if b then Some value else None) (memory word)
    go true = refl
    go false = refl

pub added : (memory : ℕ → ℤ) (at : ℕ) (addend : ℤ) (word : ℕ) → with_word at (sum_or_old (memory at) addend) memory word ≡ unwrap_or (left_in word (Add at (memory at) addend)) (memory word)
added memory at addend word = go (word == at) refl
  where
    sum : (b : Bool) → word ≡ at → (if b then memory at +ℤ addend else memory at) ≡ unwrap_or (if b then Some (memory at +ℤ addend) else None) (memory word)
    sum true same = refl
    sum false same = ap memory (sym same)

    go : (b : Bool) → (word == at) ≡ b → (if b then sum_or_old (memory at) addend else memory word) ≡ unwrap_or (if b then (if fits (memory at +ℤ addend) then Some (memory at +ℤ addend) else None) else None) (memory word)
    go true e = sum (fits (memory at +ℤ addend)) (eqb-true word at e)
    go false e = refl

-- ---- the service

module _ (starts : Starts) (main : ℕ) (start : ℕ → ℤ) where
  record Good (left : ℕ) (s : State) : Type 0 where
    kept : Inv starts main left s
    acts : serial_acts (logged main s.world.log) ≡ acts_in s.world.log
    rows : serial_rows (logged main s.world.log) ≡ rows_in s.world.log
    answers : Answers start s.world.memory (acts_in s.world.log)

  pub record Done (e : End) : Type 0 where
    pub acts : serial_acts (logged main e.world.log) ≡ acts_in e.world.log
    pub rows : serial_rows (logged main e.world.log) ≡ rows_in e.world.log
    pub holds : (word : ℕ) → e.world.memory word ≡ last_write word (start word) (acts_in e.world.log)
    pub reads : ReadsLastWrites start (acts_in e.world.log)

  done : (left : ℕ) (s : State) (how : NodeEnd) → Good left s → Done (record { end = how; world = s.world })
  done left s how good = record { acts = good.acts; rows = good.rows; holds = good.answers.holds; reads = good.answers.reads }

  rows_more : (h more : History) (row : ℕ) (event : Event) (log : List Event) → serial_order more ≡ serial_order h ++ next_place row h ∷ [] → row_in event ≡ Some row → serial_rows h ≡ rows_in log →
      serial_rows more ≡ rows_in (event ∷ log)
  rows_more h more row event log order is same =
      ap (map (λ (place : Place). place.row)) order ∙ map-append (λ (place : Place). place.row) (serial_order h) (next_place row h ∷ []) ∙ ap (λ l. l ++ row ∷ []) same
      ∙ sym (one_row_more event log ∙ ap (λ o. rows_in log ++ cons_option o []) is)

  quiet_rows : (h : History) (log : List Event) (row : ℕ) → serial_rows h ≡ rows_in log → serial_rows h ≡ rows_in (world.Ticks row ∷ log)
  quiet_rows h log row same = same ∙ sym (one_row_more (world.Ticks row) log ∙ append-nil (rows_in log))

  -- an act that spawns nothing
  act_more : (h : History) (row : ℕ) (act : Act) (event : Event) (log : List Event) → IsRunning h row → spawns_none act ≡ true → act_in event ≡ Some act → serial_acts h ≡ acts_in log →
      serial_acts (with_act row act h) ≡ acts_in (event ∷ log)
  act_more h row act event log running plain is same =
      act_acts h running.numbered row act running.runs plain ∙ ap (λ l. l ++ act ∷ []) same ∙ sym (one_more event log ∙ ap (λ o. acts_in log ++ cons_option o []) is)

  words_more : (memory memory' : ℕ → ℤ) (log : List Event) (event : Event) (act : Act) → act_in event ≡ Some act → Answers start memory (acts_in log) →
      IsAnsweredFrom (λ word. last_write word (start word) (acts_in log)) act → ((word : ℕ) → memory' word ≡ unwrap_or (left_in word act) (memory word)) → Answers start memory' (acts_in (event ∷ log))
  words_more memory memory' log event act is answers answered left =
      subst (λ l. Answers start memory' l) (sym (one_more event log ∙ ap (λ o. acts_in log ++ cons_option o []) is)) (answers_more start memory memory' (acts_in log) act answers answered left)

  quiet_words : (memory : ℕ → ℤ) (log : List Event) (row : ℕ) → Answers start memory (acts_in log) → Answers start memory (acts_in (world.Ticks row ∷ log))
  quiet_words memory log row answers = subst (λ l. Answers start memory l) (sym (one_more (world.Ticks row) log ∙ append-nil (acts_in log))) answers

  quiet_acts : (h : History) (log : List Event) (row : ℕ) → serial_acts h ≡ acts_in log → serial_acts h ≡ acts_in (world.Ticks row ∷ log)
  quiet_acts h log row same = same ∙ sym (one_more (world.Ticks row) log ∙ append-nil (acts_in log))

  step_good : (left : ℕ) (s : State) (request : Request) → now s.running.goes ≡ Some (Asks request) → Good (suc left) s → Good left (served starts request s)
  step_good left s request is good = record {
    kept = step_kept starts main left s request is good.kept;
    acts = acts request;
    rows = rows request;
    answers = answers request;
  }
    where
      acts : (r : Request) → serial_acts (logged main (served starts r s).world.log) ≡ acts_in (served starts r s).world.log
      acts (wanted.Read word) = act_more (logged main s.world.log) s.running.row _ _ s.world.log good.kept.running refl refl good.acts
      acts (wanted.Write word value) = act_more (logged main s.world.log) s.running.row _ _ s.world.log good.kept.running refl refl good.acts
      acts (wanted.Add word addend) = act_more (logged main s.world.log) s.running.row _ _ s.world.log good.kept.running refl refl good.acts
      acts (wanted.Print value) = act_more (logged main s.world.log) s.running.row _ _ s.world.log good.kept.running refl refl good.acts
      acts (wanted.Spawn target f vs) =
          child_acts (logged main s.world.log) good.kept.running.numbered s.running.row f vs good.kept.running.runs
          ∙ ap (λ l. l ++ Spawn (length (logged main s.world.log)) ∷ []) good.acts
          ∙ ap (λ n. acts_in s.world.log ++ Spawn n ∷ []) (sym good.kept.size)
          ∙ sym (one_more (world.Acts s.running.row (world.Spawn s.world.rows f vs)) s.world.log)
      acts wanted.Sync = act_more (logged main s.world.log) s.running.row _ _ s.world.log good.kept.running refl refl good.acts
      acts wanted.Call = quiet_acts (logged main s.world.log) s.world.log s.running.row good.acts
      acts wanted.LoopTurn = quiet_acts (logged main s.world.log) s.world.log s.running.row good.acts

      row_more : (made : Act) (event : Event) → spawns_none made ≡ true → row_in event ≡ Some s.running.row → serial_rows (with_act s.running.row made (logged main s.world.log)) ≡ rows_in (event ∷ s.world.log)
      row_more made event plain is =
          rows_more (logged main s.world.log) (with_act s.running.row made (logged main s.world.log)) s.running.row event s.world.log
          (act_order (logged main s.world.log) good.kept.running.numbered s.running.row made good.kept.running.runs plain) is good.rows

      rows : (r : Request) → serial_rows (logged main (served starts r s).world.log) ≡ rows_in (served starts r s).world.log
      rows (wanted.Read word) = row_more (Read word (s.world.memory word)) (world.Acts s.running.row (world.Read word (s.world.memory word))) refl refl
      rows (wanted.Write word value) = row_more (Write word value) (world.Acts s.running.row (world.Write word value)) refl refl
      rows (wanted.Add word addend) = row_more (Add word (s.world.memory word) addend) (world.Acts s.running.row (world.Add word (s.world.memory word) addend)) refl refl
      rows (wanted.Print value) = row_more (Print value) (world.Acts s.running.row (world.Print value)) refl refl
      rows (wanted.Spawn target f vs) =
          rows_more (logged main s.world.log) (with_child s.running.row f vs (logged main s.world.log)) s.running.row (world.Acts s.running.row (world.Spawn s.world.rows f vs)) s.world.log
          (child_order (logged main s.world.log) good.kept.running.numbered s.running.row f vs good.kept.running.runs) refl good.rows
      rows wanted.Sync = row_more Sync (world.Acts s.running.row world.Sync) refl refl
      rows wanted.Call = quiet_rows (logged main s.world.log) s.world.log s.running.row good.rows
      rows wanted.LoopTurn = quiet_rows (logged main s.world.log) s.world.log s.running.row good.rows

      answers : (r : Request) → Answers start (served starts r s).world.memory (acts_in (served starts r s).world.log)
      answers (wanted.Read word) = words_more s.world.memory s.world.memory s.world.log (world.Acts s.running.row (world.Read word (s.world.memory word))) (Read word (s.world.memory word)) refl good.answers (good.answers.holds word) (λ w. refl)
      answers (wanted.Write word value) =
          words_more s.world.memory (with_word word value s.world.memory) s.world.log (world.Acts s.running.row (world.Write word value)) (Write word value) refl good.answers tt (wrote s.world.memory word value)
      answers (wanted.Add word addend) =
          words_more s.world.memory (with_word word (sum_or_old (s.world.memory word) addend) s.world.memory) s.world.log (world.Acts s.running.row (world.Add word (s.world.memory word) addend)) (Add word (s.world.memory word) addend) refl
          good.answers (good.answers.holds word) (added s.world.memory word addend)
      answers (wanted.Print value) = words_more s.world.memory s.world.memory s.world.log (world.Acts s.running.row (world.Print value)) (Print value) refl good.answers tt (λ w. refl)
      answers (wanted.Spawn target f vs) = words_more s.world.memory s.world.memory s.world.log (world.Acts s.running.row (world.Spawn s.world.rows f vs)) (Spawn s.world.rows) refl good.answers tt (λ w. refl)
      answers wanted.Sync = words_more s.world.memory s.world.memory s.world.log (world.Acts s.running.row world.Sync) Sync refl good.answers tt (λ w. refl)
      answers wanted.Call = quiet_words s.world.memory s.world.log s.running.row good.answers
      answers wanted.LoopTurn = quiet_words s.world.memory s.world.log s.running.row good.answers

  good_kept : IsInvariant starts Good Done
  good_kept = record {
    spent = λ s request is good. done 0 s _ good;
    lost = λ left s is good. done left s _ good;
    trapped = λ left s kind is good. done left s _ good;
    finished = λ left e v w is good. done left (record { running = e; waiting = []; world = w }) _ good;
    returned = λ left e p ps v w is good. record { kept = return_kept starts main (logged main w.log) e p ps w.rows good.kept v is; acts = good.acts; rows = good.rows; answers = good.answers };
    step = step_good;
  }

  pub service_done : (budget : ℕ) → Done (serve starts budget (first_state starts main start))
  service_done budget =
      serve_keeps starts Good Done good_kept budget (first_state starts main start) (record {
        kept = first_kept starts main start;
        acts = refl;
        rows = refl;
        answers = record { holds = λ word. refl; reads = λ front back act e. absurd (nothing front back act e) };
      })
    where
      nothing : (front back : List Act) (act : Act) → [] ≡ front ++ act ∷ back → ⊥
      nothing [] back act e = cc
      nothing (f ∷ front) back act e = cc

-- what is printed
pub printed_alike : (log : List Event) → filter_map printed_by (filter_map act_in log) ≡ filter_map printed log
printed_alike [] = refl
printed_alike (world.Ticks row ∷ log) = printed_alike log
printed_alike (world.Acts row (world.Read word value) ∷ log) = printed_alike log
printed_alike (world.Acts row (world.Write word value) ∷ log) = printed_alike log
printed_alike (world.Acts row (world.Add word old addend) ∷ log) = printed_alike log
printed_alike (world.Acts row (world.Print value) ∷ log) = ap (λ l. value ∷ l) (printed_alike log)
printed_alike (world.Acts row (world.Spawn child f vs) ∷ log) = printed_alike log
printed_alike (world.Acts row world.Sync ∷ log) = printed_alike log
