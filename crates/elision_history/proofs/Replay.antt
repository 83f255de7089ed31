-- A complete history in which reads and adds are answered by the last writes is what the service makes: the service goes along each row's
-- alone run, and at a Spawn along that of the child.
use Rattle.std.proofs.Common.{◌≡◌, ◌≢◌, ℕ, zero, suc, ◌+◌, ◌<◌, ◌≤◌, List, [], ◌∷◌, ◌++◌, length, Option, Some, refl, sym, ap, ◌∙◌, subst, arith, append_assoc, length-append}
use Rattle.std.proofs.lemmas.List.Elements.{filter_map-append}
use Rattle.std.specs.List.{filter_map, cons_option, range_with_len}
use Rattle.std.specs.Prelude.{ℤ, true, slice_get}
use Rattle.cilk_meaning.specs.declared.ends.NodeEnd.TheVariants.{Finished}
use Rattle.cilk_meaning.specs.Instance.{Meaning}
use Rattle.cilk_meaning.specs.Serve.{Entry, Parent, State, now, after, served, serve, serve_want, serve_return, serve_request}
use Rattle.cilk_meaning.specs.Wants.{Request, Asks, Returns, Answer, Done}
use Rattle.cilk_meaning.specs.World.{World}
use Rattle.span_tree.specs.declared.act.Act.{Act}
use Rattle.span_tree.specs.declared.act.Act.TheVariants as act
use Rattle.span_tree.specs.declared.act.Place.{Place}
use Rattle.span_tree.specs.History.{Row, History, IsNumbered, act_at, row_at, with_child_places, places_from}
use Rattle.span_tree.specs.Program.{Block, IsAnswered, IsQuiet, AloneRun, Begins, Ticks, Acts, Starts}
use Rattle.span_tree.specs.Recording.{spawns_none}
use Rattle.span_tree.proofs.Ways.{below, below_is}

-- ---- lists

-- an item of a list of numbers that rise by one
pub range_at : (a n : ℕ) (xs ys : List ℕ) (c : ℕ) → xs ++ c ∷ ys ≡ range_with_len a n → c ≡ a + length xs
range_at a zero [] ys c e = absurd cc
range_at a zero (x ∷ xs) ys c e = absurd cc
range_at a (suc n) [] ys c e = let same : c ≡ a = cc in omega (arith, same)
range_at a (suc n) (x ∷ xs) ys c e = let rest : xs ++ c ∷ ys ≡ range_with_len (a + 1) n = cc in omega (arith, range_at (a + 1) n xs ys c rest)

-- ---- the rest of an alone run, its next act first

module _ (h : History) (returned : ℕ → Option ℤ) (row : ℕ) (fin : Meaning) where
  pub data Rest : List Act → ℕ → Block → Meaning → Type 0 where
    Ends : (index : ℕ) (block : Block) → Rest [] index block fin
    Tick : (acts : List Act) (index : ℕ) (block : Block) (goes : Meaning) → IsQuiet goes → Rest acts index block (after goes Done) → Rest acts index block goes
    Act' : (acts : List Act) (index : ℕ) (block behind : Block) (goes : Meaning) (request : Request) (made : Act) (answer : Answer) → now goes ≡ Some (Asks request) →
        IsAnswered h returned (record { row = row; act = index }) request made answer block behind → Rest acts (suc index) behind (after goes answer) → Rest (made ∷ acts) index block goes

  pub run_front : (begin goes : Meaning) (acts more : List Act) (block : Block) → AloneRun h returned row begin acts block goes → Rest more (length acts) block goes → Rest (acts ++ more) 0 [] begin
  run_front begin _ _ more _ Begins rest = rest
  run_front begin _ _ more _ (Ticks acts block goes run quiet) rest = run_front begin goes acts more block run (Tick more (length acts) block goes quiet rest)
  run_front begin _ _ more _ (Acts acts block behind goes request made answer run is answered) rest =
      subst (λ l. Rest l 0 [] begin) (sym (append_assoc acts (made ∷ []) more))
      (run_front begin goes acts (made ∷ more) block run
      (Act' more (length acts) block behind goes request made answer is answered
      (subst (λ n. Rest more n behind (after goes answer)) (let n : length (acts ++ made ∷ []) ≡ suc (length acts) = omega (arith, length-append acts (made ∷ [])) in n) rest)))

-- ---- acts in serial order

abbrev pub with_child_acts : (ℕ → List Act) → Act → List Act
with_child_acts under (act.Spawn child) = act.Spawn child ∷ under child
with_child_acts under (act.Read word value) = act.Read word value ∷ []
with_child_acts under (act.Write word value) = act.Write word value ∷ []
with_child_acts under (act.Add word old addend) = act.Add word old addend ∷ []
with_child_acts under (act.Print value) = act.Print value ∷ []
with_child_acts under act.Sync = act.Sync ∷ []

abbrev pub acts_from : (ℕ → List Act) → List Act → List Act
acts_from under [] = []
acts_from under (made ∷ acts) = with_child_acts under made ++ acts_from under acts

-- an act that spawns nothing stands alone
pub alone : (under : ℕ → List Act) (made : Act) (acts : List Act) → spawns_none made ≡ true → acts_from under (made ∷ acts) ≡ made ∷ acts_from under acts
alone under (act.Spawn child) acts plain = absurd cc
alone under (act.Read word value) acts plain = refl
alone under (act.Write word value) acts plain = refl
alone under (act.Add word old addend) acts plain = refl
alone under (act.Print value) acts plain = refl
alone under act.Sync acts plain = refl

module _ (h : History) (numbered : IsNumbered h) where
  -- the acts of a row and of those below it
  abbrev pub under : ℕ → List Act
  under q = filter_map (act_at h) (below h numbered q)

  abbrev at : ℕ → ℕ → Place
  at row index = record { row = row; act = index }

  one_walk : (q index : ℕ) (made : Act) → act_at h (at q index) ≡ Some made → filter_map (act_at h) (with_child_places (below h numbered) (at q index) made) ≡ with_child_acts under made
  one_walk q index (act.Spawn child) e = ap (λ o. cons_option o (under child)) e
  one_walk q index (act.Read word value) e = ap (λ o. cons_option o []) e
  one_walk q index (act.Write word value) e = ap (λ o. cons_option o []) e
  one_walk q index (act.Add word old addend) e = ap (λ o. cons_option o []) e
  one_walk q index (act.Print value) e = ap (λ o. cons_option o []) e
  one_walk q index act.Sync e = ap (λ o. cons_option o []) e

  walk : (q index : ℕ) (acts : List Act) → ((k : ℕ) → slice_get (row_at h q).acts (index + k) ≡ slice_get acts k) → filter_map (act_at h) (places_from (below h numbered) q index acts) ≡ acts_from under acts
  walk q index [] same = refl
  walk q index (made ∷ acts) same =
      let here : act_at h (at q index) ≡ Some made = ap (λ n. slice_get (row_at h q).acts n) (plus_zero index) ∙ same 0 in
      filter_map-append (act_at h) (with_child_places (below h numbered) (at q index) made) (places_from (below h numbered) q (suc index) acts)
      ∙ ap (λ l. l ++ filter_map (act_at h) (places_from (below h numbered) q (suc index) acts)) (one_walk q index made here)
      ∙ ap (λ l. with_child_acts under made ++ l) (walk q (suc index) acts (λ k. ap (λ n. slice_get (row_at h q).acts n) (plus_suc index k) ∙ same (suc k)))
    where
      plus_zero : (k : ℕ) → k ≡ k + 0
      plus_zero k = omega arith

      plus_suc : (n k : ℕ) → suc n + k ≡ n + suc k
      plus_suc n k = omega arith

  pub under_is : (q : ℕ) → under q ≡ acts_from under (row_at h q).acts
  under_is q = ap (filter_map (act_at h)) (below_is h numbered q) ∙ walk q 0 (row_at h q).acts (λ k. ap (λ n. slice_get (row_at h q).acts n) (zero_plus k))
    where
      zero_plus : (k : ℕ) → 0 + k ≡ k
      zero_plus k = omega arith

-- ---- how the service goes on

module _ (starts : Starts) where
  pub serve_step : (left : ℕ) (s : State) (request : Request) → now s.running.goes ≡ Some (Asks request) → serve starts (suc left) s ≡ serve starts left (served starts request s)
  serve_step left s request is = ap (λ o. serve_want (serve_request starts (suc left)) (serve_return (serve_request starts (suc left)) s.waiting) o s) is

  -- a child that returns hands its value to its parent
  pub serve_back : (left : ℕ) (e : Entry) (p : Parent) (ps : List Parent) (w : World) (v : ℤ) → now e.goes ≡ Some (Returns v) →
      serve starts left (record { running = e; waiting = p ∷ ps; world = w })
      ≡ serve starts left (record { running = record { goes = p.entry.goes; row = p.entry.row; kept = p.entry.kept ++ (p.target, v) ∷ [] }; waiting = ps; world = w })
  serve_back left e p ps w v is = ap (λ o. serve_want (serve_request starts left) (serve_return (serve_request starts left) (p ∷ ps)) o (record { running = e; waiting = p ∷ ps; world = w })) is

  pub serve_end : (left : ℕ) (e : Entry) (w : World) (v : ℤ) → now e.goes ≡ Some (Returns v) → serve starts left (record { running = e; waiting = []; world = w }) ≡ record { end = Finished; world = w }
  serve_end left e w v is = ap (λ o. serve_want (serve_request starts left) (serve_return (serve_request starts left) []) o (record { running = e; waiting = []; world = w })) is

-- ---- rows that a history has of another one

-- what a row is beside its acts
pub record SameHead (h g : History) (q : ℕ) : Type 0 where
  pub parent : (row_at g q).parent ≡ (row_at h q).parent
  pub proc : (row_at g q).proc ≡ (row_at h q).proc
  pub args : (row_at g q).args ≡ (row_at h q).args

-- From g to g' the row q has come to its end, and so has each new row; the others are as they were.
pub record Grown (h g g' : History) (q : ℕ) : Type 0 where
  pub longer : length g ≤ length g'
  pub mine : (row_at g' q).acts ≡ (row_at h q).acts
  pub others : (r : ℕ) → r < length g → r ≢ q → (row_at g' r).acts ≡ (row_at g r).acts
  pub new : (r : ℕ) → length g ≤ r → r < length g' → (row_at g' r).acts ≡ (row_at h r).acts
  pub heads : (r : ℕ) → r < length g' → SameHead h g' r

-- ---- the same rows

pub one_row : (g x : Row) → g.parent ≡ x.parent → g.proc ≡ x.proc → g.args ≡ x.args → g.acts ≡ x.acts → g ≡ x
one_row g x a b c d =
    ap (λ p. record { parent = p; proc = g.proc; args = g.args; acts = g.acts }) a ∙ ap (λ p. record { parent = x.parent; proc = p; args = g.args; acts = g.acts }) b
    ∙ ap (λ p. record { parent = x.parent; proc = x.proc; args = p; acts = g.acts }) c ∙ ap (λ p. record { parent = x.parent; proc = x.proc; args = x.args; acts = p }) d

pub same_history : (g x : History) → length g ≡ length x → ((r : ℕ) → r < length g → row_at g r ≡ row_at x r) → g ≡ x
same_history [] [] n same = refl
same_history [] (b ∷ x) n same = absurd (omega (arith, n))
same_history (a ∷ g) [] n same = absurd (omega (arith, n))
same_history (a ∷ g) (b ∷ x) n same =
    ap (λ r. r ∷ g) (same 0 (omega arith)) ∙ ap (λ l. b ∷ l) (same_history g x (omega (arith, n)) (λ r lt. same (suc r) (omega (arith, lt))))
