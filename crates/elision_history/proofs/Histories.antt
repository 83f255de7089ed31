-- The service of instances makes a history: what its log tells has each row's alone run.
use Rattle.std.proofs.Common.{◌≡◌, ◌≢◌, ◌⊎◌, ℕ, suc, ◌<◌, ◌≤◌, List, [], ◌∷◌, ◌++◌, length, Option, Some, None, refl, sym, ap, ◌∙◌, subst, inl, inr, arith}
use Rattle.std.proofs.lemmas.Bool.{eqb-true, eqb-false}
use Rattle.std.specs.Prelude.{ℤ, Bool, true, false, ◌==◌, if◌then◌else◌}
use Rattle.cilk_meaning.specs.declared.ends.NodeEnd.TheVariants.{Finished, Trapped, Budget}
use Rattle.cilk_meaning.specs.Serve.{Entry, Parent, State, now, after, answered, with_child, served, serve, first_state}
use Rattle.cilk_meaning.specs.Wants as wanted
use Rattle.cilk_meaning.specs.Wants.{Request, Asks, Returns, Traps, Deposit, Answer, Value, Children, Done}
use Rattle.cilk_meaning.specs.World.{End}
use Rattle.cilk_meaning.proofs.Keeps.{IsInvariant, serve_keeps}
use Rattle.span_tree.specs.declared.act.Act.{Act}
use Rattle.span_tree.specs.declared.act.Act.TheVariants as act
use Rattle.span_tree.specs.declared.act.Place.{Place}
use Rattle.span_tree.specs.History.{Row, History, row_at}
use Rattle.span_tree.specs.Program.{Block, HaveReturned, IsChild, IsAnswered, Read, Write, Add, Print, Spawn, Sync, IsQuiet, AloneRun, Begins, Ticks, Acts, HasDepth, Main, Child, Starts, IsRowOf, IsHistoryWith}
use Rattle.span_tree.specs.Recording as recording
use Rattle.span_tree.specs.Recording.{first_history, with_act, next_place, child_row, IsRunning, spawns_none}
use Rattle.span_tree.proofs.Ways.{some_same, none_is}
use Rattle.span_tree.proofs.Growing.{OneMore, same_or, open_inside, with_length, with_here, with_other, same_row, child_length, new_row, old_row, one'}
use Rattle.span_tree.proofs.Running.{open_parent, act_runs, child_runs, first_runs}
use Rattle.elision_history.specs.Logged.{logged}
use Rattle.elision_history.proofs.Growth.{Grows, returned_grows, run_grows, depth_grows, begin_grows, row_grows}

-- ---- values that were returned

abbrev pub Values : Type 0
Values = ℕ → Option ℤ

abbrev pub with_value : ℕ → ℤ → Values → Values
with_value row v returned q = if q == row then Some v else returned q

value_here : (returned : Values) (row q : ℕ) (v : ℤ) → q ≡ row → with_value row v returned q ≡ Some v
value_here returned row q v same = go (q == row) refl
  where
    go : (b : Bool) → (q == row) ≡ b → (if b then Some v else returned q) ≡ Some v
    go true e = refl
    go false e = absurd (eqb-false q row e same)

value_there : (returned : Values) (row q : ℕ) (v : ℤ) → q ≢ row → with_value row v returned q ≡ returned q
value_there returned row q v ne = go (q == row) refl
  where
    go : (b : Bool) → (q == row) ≡ b → (if b then Some v else returned q) ≡ returned q
    go true e = absurd (ne (eqb-true q row e))
    go false e = refl

pub returned_more : (returned : Values) (block : Block) (ds : List Deposit) (t : Option ℕ) (c : ℕ) (v : ℤ) → HaveReturned returned block ds → returned c ≡ Some v → HaveReturned returned (block ++ (t, c) ∷ []) (ds ++ (t, v) ∷ [])
returned_more returned [] [] t c v is e = (refl, e, tt)
returned_more returned [] (d ∷ ds) t c v is e = absurd is
returned_more returned (b ∷ block) [] t c v is e = absurd is
returned_more returned (b ∷ block) (d ∷ ds) t c v is e = (is.0, is.1, returned_more returned block ds t c v is.2 e)

module _ (starts : Starts) (main : ℕ) where
  -- ---- the invariant

  pub record Top (h : History) (returned : Values) (e : Entry) (depth : ℕ) : Type 0 where
    block : Block
    has_depth : HasDepth h e.row depth
    alone_run : AloneRun h returned e.row (starts depth (row_at h e.row).proc (row_at h e.row).args) (row_at h e.row).acts block e.goes
    kept : HaveReturned returned block e.kept
    unreturned : returned e.row ≡ None

  -- an instance that waits for its child
  pub record Waits (h : History) (returned : Values) (p : Parent) (child depth : ℕ) : Type 0 where
    parent : (place : Place) × ((row_at h child).parent ≡ Some place) × (place.row ≡ p.entry.row)
    before : p.entry.row < child
    block : Block
    has_depth : HasDepth h p.entry.row depth
    alone_run : AloneRun h returned p.entry.row (starts depth (row_at h p.entry.row).proc (row_at h p.entry.row).args) (row_at h p.entry.row).acts (block ++ (p.target, child) ∷ []) p.entry.goes
    kept : HaveReturned returned block p.entry.kept
    unreturned : returned p.entry.row ≡ None

  abbrev pub AllWait : History → Values → ℕ → List Parent → Type 0
  AllWait h returned child [] = Unit {0}
  AllWait h returned child (p ∷ ps) = Waits h returned p child (length ps) × AllWait h returned p.entry.row ps

  abbrev pub IsWaiting : ℕ → List Parent → Type 0
  IsWaiting q [] = ⊥
  IsWaiting q (p ∷ ps) = (q ≡ p.entry.row) ⊎ IsWaiting q ps

  pub record Kept (h : History) (e : Entry) (ps : List Parent) (rows : ℕ) : Type 0 where
    pub returned : Values
    pub running : IsRunning h e.row
    pub size : rows ≡ length h
    pub main_is : (row_at h 0).proc ≡ main
    pub none_new : (q : ℕ) → length h ≤ q → returned q ≡ None
    pub out : (q : ℕ) → q < length h → returned q ≡ None → (q ≡ e.row) ⊎ IsWaiting q ps
    pub all : (q : ℕ) → q < length h → IsRowOf starts h returned q
    pub top : Top h returned e (length ps)
    pub wait : AllWait h returned e.row ps

  abbrev pub Inv : ℕ → State → Type 0
  Inv left s = Kept (logged main s.world.log) s.running s.waiting s.world.rows

  pub record Told (e : End) : Type 0 where
    pub returned : Values
    pub history : IsHistoryWith starts main (logged main e.world.log) returned
    pub complete : e.end ≡ Finished → (q : ℕ) → q < length (logged main e.world.log) → returned q ≢ None

  top_row : (h : History) (returned : Values) (e : Entry) (depth : ℕ) → Top h returned e depth → IsRowOf starts h returned e.row
  top_row h returned e depth t = record {
    depth = depth;
    block = t.block;
    goes = e.goes;
    has_depth = t.has_depth;
    alone_run = t.alone_run;
    returns = λ v is. absurd (none_is (returned e.row) v t.unreturned is);
  }

  wait_grows : (h more : History) (returned returned' : Values) → Grows h more returned returned' → (child : ℕ) (ps : List Parent) → child < length h →
      ((q : ℕ) → q < child → (row_at more q).acts ≡ (row_at h q).acts) → ((q : ℕ) → q < child → returned' q ≡ returned q) → AllWait h returned child ps → AllWait more returned' child ps
  wait_grows h more returned returned' grows child [] lt same value is = tt
  wait_grows h more returned returned' grows child (p ∷ ps) lt same value is =
      let w = is.0 in
      let q = p.entry.row in
      let up : q < child = w.before in
      let inside : q < length h = omega (arith, up, lt) in (
        record {
          parent = (w.parent.0, grows.parent child lt ∙ w.parent.1, w.parent.2);
          before = up;
          block = w.block;
          has_depth = depth_grows h more returned returned' grows q (length ps) w.has_depth;
          alone_run = subst (λ acts. AloneRun more returned' q (starts (length ps) (row_at more q).proc (row_at more q).args) acts (w.block ++ (p.target, child) ∷ []) p.entry.goes) (sym (same q up))
              (begin_grows h more returned returned' grows starts q (length ps) (row_at h q).acts (w.block ++ (p.target, child) ∷ []) p.entry.goes inside w.alone_run);
          kept = returned_grows h more returned returned' grows w.block p.entry.kept w.kept;
          unreturned = value q up ∙ w.unreturned;
        },
        wait_grows h more returned returned' grows q ps inside (λ r l. same r (omega (arith, l, up))) (λ r l. value r (omega (arith, l, up))) is.1,
      )

  -- ---- one act more of the row that runs

  pub act_grows : (h : History) (row : ℕ) (running : IsRunning h row) (a : Act) (returned : Values) → Grows h (with_act row a h) returned returned
  act_grows h row running a returned =
      let inside = open_inside h running.numbered row running.runs in
      record {
        parent = λ q lt. same_row h row a inside (λ (r : Row). r.parent) refl q;
        proc = λ q lt. same_row h row a inside (λ (r : Row). r.proc) refl q;
        args = λ q lt. same_row h row a inside (λ (r : Row). r.args) refl q;
        stays = λ q v is. is;
      }

  module _ (h : History) (e : Entry) (ps : List Parent) (rows : ℕ) (kept : Kept h e ps rows) (request : Request) (is : now e.goes ≡ Some (Asks request)) where
    abbrev returned : Values
    returned = kept.returned

    abbrev inside : e.row < length h
    inside = open_inside h kept.running.numbered e.row kept.running.runs

    -- an act that spawns nothing
    module _ (a : Act) (plain : spawns_none a ≡ true) (answer : Answer) (behind : Block) (more : List Deposit)
        (is_answered : IsAnswered (with_act e.row a h) returned (next_place e.row h) request a answer kept.top.block behind) (have : HaveReturned returned behind more) where
      abbrev next : History
      next = with_act e.row a h

      grows : Grows h next returned returned
      grows = act_grows h e.row kept.running a returned

      size' : length next ≡ length h
      size' = with_length h e.row a inside

      here : (row_at next e.row).acts ≡ (row_at h e.row).acts ++ a ∷ []
      here = ap (λ (r : Row). r.acts) (with_here h e.row a inside)

      others : (q : ℕ) → q ≢ e.row → (row_at next q).acts ≡ (row_at h q).acts
      others q ne = ap (λ (r : Row). r.acts) (with_other h e.row a inside q ne)

      top' : Top next returned (answered answer more e) (length ps)
      top' = record {
        block = behind;
        has_depth = depth_grows h next returned returned grows e.row (length ps) kept.top.has_depth;
        alone_run = subst (λ acts. AloneRun next returned e.row (starts (length ps) (row_at next e.row).proc (row_at next e.row).args) acts behind (after e.goes answer)) (sym here)
            (Acts (row_at h e.row).acts kept.top.block behind e.goes request a answer
            (begin_grows h next returned returned grows starts e.row (length ps) (row_at h e.row).acts kept.top.block e.goes inside kept.top.alone_run) is is_answered);
        kept = have;
        unreturned = kept.top.unreturned;
      }

      row' : (q : ℕ) → q < length h → (q ≡ e.row) ⊎ (q ≢ e.row) → IsRowOf starts next returned q
      row' q lt (inl same) = subst (λ r. IsRowOf starts next returned r) (sym same) (top_row next returned (answered answer more e) (length ps) top')
      row' q lt (inr ne) = row_grows h next returned returned grows starts q lt (others q ne) refl (kept.all q lt)

      pub act_kept : Kept next (answered answer more e) ps rows
      act_kept = record {
        returned = returned;
        running = act_runs h e.row kept.running a plain;
        size = kept.size ∙ sym size';
        main_is = grows.proc 0 kept.running.numbered.some ∙ kept.main_is;
        none_new = λ q le. kept.none_new q (omega (arith, le, size'));
        out = λ q lt. kept.out q (omega (arith, lt, size'));
        all = λ q lt. row' q (omega (arith, lt, size')) (same_or q e.row);
        top = top';
        wait = wait_grows h next returned returned grows e.row ps inside (λ q lt. others q (λ same. omega (arith, same, lt))) (λ q lt. refl) kept.wait;
      }

    pub quiet_kept : (request ≡ wanted.Call) ⊎ (request ≡ wanted.LoopTurn) → Kept h (answered Done e.kept e) ps rows
    quiet_kept which = record {
      returned = returned;
      running = kept.running;
      size = kept.size;
      main_is = kept.main_is;
      none_new = kept.none_new;
      out = kept.out;
      all = kept.all;
      wait = kept.wait;
      top = record {
        block = kept.top.block;
        has_depth = kept.top.has_depth;
        kept = kept.top.kept;
        unreturned = kept.top.unreturned;
        alone_run = Ticks (row_at h e.row).acts kept.top.block e.goes kept.top.alone_run (quiet which);
      };
    }
      where
        quiet : (request ≡ wanted.Call) ⊎ (request ≡ wanted.LoopTurn) → IsQuiet e.goes
        quiet (inl same) = inl (is ∙ ap (λ r. Some (Asks r)) same)
        quiet (inr same) = inr (is ∙ ap (λ r. Some (Asks r)) same)

  -- ---- a spawn

  module _ (h : History) (e : Entry) (ps : List Parent) (rows : ℕ) (kept : Kept h e ps rows) (target : Option ℕ) (f : ℕ) (vs : List ℤ) (is : now e.goes ≡ Some (Asks (wanted.Spawn target f vs))) where
    abbrev returned'' : Values
    returned'' = kept.returned

    abbrev inside'' : e.row < length h
    inside'' = open_inside h kept.running.numbered e.row kept.running.runs

    abbrev grown : History
    grown = recording.with_child e.row f vs h

    abbrev child : Entry
    child = record { goes = starts (suc (length ps)) f vs; row = length h; kept = [] }

    abbrev parent : Parent
    parent = record { entry = answered Done e.kept e; target = target }

    size'' : length grown ≡ suc (length h)
    size'' = child_length h e.row f vs inside''

    one : OneMore h grown e.row (act.Spawn (length h))
    one = one' h e.row f vs inside''

    born : row_at grown (length h) ≡ child_row e.row f vs h
    born = new_row h e.row f vs inside''

    same_head : {A : Type 0} (g : Row → A) → g (record (row_at h e.row) { acts = (row_at h e.row).acts ++ act.Spawn (length h) ∷ [] }) ≡ g (row_at h e.row) → (q : ℕ) → q < length h → g (row_at grown q) ≡ g (row_at h q)
    same_head g same q lt =
        ap g (old_row h e.row f vs inside'' q lt) ∙ same_row h e.row (act.Spawn (length h)) inside'' g same q

    grows'' : Grows h grown returned'' returned''
    grows'' = record {
      parent = same_head (λ (r : Row). r.parent) refl;
      proc = same_head (λ (r : Row). r.proc) refl;
      args = same_head (λ (r : Row). r.args) refl;
      stays = λ q v is'. is';
    }

    is_child : IsChild grown (length h) (next_place e.row h) f vs
    is_child = record { named = ap (λ (r : Row). r.parent) born; procedure_is = ap (λ (r : Row). r.proc) born; arguments_are = ap (λ (r : Row). r.args) born }

    waits : Waits grown returned'' parent (length h) (length ps)
    waits = record {
      parent = (next_place e.row h, is_child.named, refl);
      before = inside'';
      block = kept.top.block;
      has_depth = depth_grows h grown returned'' returned'' grows'' e.row (length ps) kept.top.has_depth;
      alone_run = subst (λ acts. AloneRun grown returned'' e.row (starts (length ps) (row_at grown e.row).proc (row_at grown e.row).args) acts (kept.top.block ++ (target, length h) ∷ []) (after e.goes Done)) (sym one.here)
          (Acts (row_at h e.row).acts kept.top.block (kept.top.block ++ (target, length h) ∷ []) e.goes (wanted.Spawn target f vs) (act.Spawn (length h)) Done
          (begin_grows h grown returned'' returned'' grows'' starts e.row (length ps) (row_at h e.row).acts kept.top.block e.goes inside'' kept.top.alone_run) is
          (Spawn target f vs (length h) kept.top.block is_child));
      kept = returned_grows h grown returned'' returned'' grows'' kept.top.block e.kept kept.top.kept;
      unreturned = kept.top.unreturned;
    }

    top'' : Top grown returned'' child (suc (length ps))
    top'' = record {
      block = [];
      has_depth = Child (length h) (next_place e.row h) (length ps) is_child.named waits.has_depth;
      alone_run = subst (λ (r : Row). AloneRun grown returned'' (length h) (starts (suc (length ps)) r.proc r.args) r.acts [] (starts (suc (length ps)) f vs)) (sym born) Begins;
      kept = tt;
      unreturned = kept.none_new (length h) (omega arith);
    }

    row'' : (q : ℕ) → q < length grown → (q ≡ e.row) ⊎ (q ≢ e.row) → (q ≡ length h) ⊎ (q ≢ length h) → IsRowOf starts grown returned'' q
    row'' q lt mine (inl same) = subst (λ r. IsRowOf starts grown returned'' r) (sym same) (top_row grown returned'' child (suc (length ps)) top'')
    row'' q lt (inl same) (inr ne) = subst (λ r. IsRowOf starts grown returned'' r) (sym same) (record {
      depth = length ps;
      block = waits.block ++ (target, length h) ∷ [];
      goes = after e.goes Done;
      has_depth = waits.has_depth;
      alone_run = waits.alone_run;
      returns = λ v is'. absurd (none_is (returned'' e.row) v kept.top.unreturned is');
    })
    row'' q lt (inr apart) (inr ne) =
        let lt' : q < length h = omega (arith, lt, ne, size'') in
        row_grows h grown returned'' returned'' grows'' starts q lt' (one.others q apart) refl (kept.all q lt')

    out'' : (q : ℕ) → q < length grown → returned'' q ≡ None → (q ≡ length h) ⊎ (q ≢ length h) → (q ≡ child.row) ⊎ IsWaiting q (parent ∷ ps)
    out'' q lt none (inl same) = inl same
    out'' q lt none (inr ne) = inr (kept.out q (omega (arith, lt, ne, size'')) none)

    pub spawn_kept : Kept grown child (parent ∷ ps) (suc rows)
    spawn_kept = record {
      returned = returned'';
      running = child_runs h e.row kept.running f vs;
      size = ap suc kept.size ∙ sym size'';
      main_is = grows''.proc 0 kept.running.numbered.some ∙ kept.main_is;
      none_new = λ q le. kept.none_new q (omega (arith, le, size''));
      out = λ q lt none. out'' q lt none (same_or q (length h));
      all = λ q lt. row'' q lt (same_or q e.row) (same_or q (length h));
      top = top'';
      wait = (waits, wait_grows h grown returned'' returned'' grows'' e.row ps inside'' (λ q lt. one.others q (λ same. omega (arith, same, lt))) (λ q lt. refl) kept.wait);
    }

  -- ---- a return

  module _ (h : History) (e : Entry) (ps : List Parent) (rows : ℕ) (kept : Kept h e ps rows) (v : ℤ) (is : now e.goes ≡ Some (Returns v)) where
    abbrev old : Values
    old = kept.returned

    abbrev new : Values
    new = with_value e.row v old

    value_stays : (q : ℕ) (w : ℤ) → old q ≡ Some w → (q ≡ e.row) ⊎ (q ≢ e.row) → new q ≡ Some w
    value_stays q w there (inl same) = absurd (none_is (old e.row) w kept.top.unreturned (ap old (sym same) ∙ there))
    value_stays q w there (inr ne) = value_there old e.row q v ne ∙ there

    value_grows : Grows h h old new
    value_grows = record { parent = λ q lt. refl; proc = λ q lt. refl; args = λ q lt. refl; stays = λ q w there. value_stays q w there (same_or q e.row) }

    row_back : (q : ℕ) → q < length h → (q ≡ e.row) ⊎ (q ≢ e.row) → IsRowOf starts h new q
    row_back q lt (inl same) = subst (λ r. IsRowOf starts h new r) (sym same) (record {
      depth = length ps;
      block = kept.top.block;
      goes = e.goes;
      has_depth = kept.top.has_depth;
      alone_run = run_grows h h old new value_grows e.row _ _ kept.top.block e.goes kept.top.alone_run;
      returns = λ w there. is ∙ ap (λ x. Some (Returns x)) (some_same v w (sym (value_here old e.row e.row v refl) ∙ there));
    })
    row_back q lt (inr ne) = row_grows h h old new value_grows starts q lt refl (value_there old e.row q v ne) (kept.all q lt)

    out_back : (q : ℕ) → q < length h → new q ≡ None → (q ≡ e.row) ⊎ (q ≢ e.row) → IsWaiting q ps
    out_back q lt none (inl same) = absurd (none_is (new q) v none (value_here old e.row q v same))
    out_back q lt none (inr ne) = other (kept.out q lt (sym (value_there old e.row q v ne) ∙ none))
      where
        other : (q ≡ e.row) ⊎ IsWaiting q ps → IsWaiting q ps
        other (inl same) = absurd (ne same)
        other (inr waits) = waits

  pub return_kept : (h : History) (e : Entry) (p : Parent) (ps : List Parent) (rows : ℕ) (kept : Kept h e (p ∷ ps) rows) (v : ℤ) → now e.goes ≡ Some (Returns v) → Kept h (with_child p v) ps rows
  return_kept h e p ps rows kept v is =
      let w = kept.wait.0 in
      let up : p.entry.row < e.row = w.before in
      let next = new h e (p ∷ ps) rows kept v is in
      let grows = value_grows h e (p ∷ ps) rows kept v is in
      let inside = open_inside h kept.running.numbered e.row kept.running.runs in
      let apart : (q : ℕ) → q < e.row → next q ≡ kept.returned q = λ q lt. value_there kept.returned e.row q v (λ same. omega (arith, same, lt)) in
      record {
        returned = next;
        running = record {
          numbered = kept.running.numbered;
          runs = subst (λ r. recording.IsOpen h r) w.parent.2 (open_parent h e.row w.parent.0 (λ zero. omega (arith, zero, up)) w.parent.1 kept.running.runs);
        };
        size = kept.size;
        main_is = kept.main_is;
        none_new = λ q le. value_there kept.returned e.row q v (λ same. omega (arith, same, le, inside)) ∙ kept.none_new q le;
        out = λ q lt none. out_back h e (p ∷ ps) rows kept v is q lt none (same_or q e.row);
        all = λ q lt. row_back h e (p ∷ ps) rows kept v is q lt (same_or q e.row);
        top = record {
          block = w.block ++ (p.target, e.row) ∷ [];
          has_depth = w.has_depth;
          alone_run = run_grows h h kept.returned next grows p.entry.row _ _ _ p.entry.goes w.alone_run;
          kept = returned_more next w.block p.entry.kept p.target e.row v (returned_grows h h kept.returned next grows w.block p.entry.kept w.kept) (value_here kept.returned e.row e.row v refl);
          unreturned = apart p.entry.row up ∙ w.unreturned;
        };
        wait = wait_grows h h kept.returned next grows p.entry.row ps (omega (arith, up, inside)) (λ q lt. refl) (λ q lt. apart q (omega (arith, lt, up))) kept.wait.1;
      }

  -- ---- the service

  pub step_kept : (left : ℕ) (s : State) (request : Request) → now s.running.goes ≡ Some (Asks request) → Inv (suc left) s → Inv left (served starts request s)
  step_kept left s (wanted.Read word) is kept =
      act_kept (logged main s.world.log) s.running s.waiting s.world.rows kept (wanted.Read word) is (act.Read word (s.world.memory word)) refl (Value (s.world.memory word)) kept.top.block s.running.kept
      (Read word (s.world.memory word) kept.top.block) kept.top.kept
  step_kept left s (wanted.Write word value) is kept =
      act_kept (logged main s.world.log) s.running s.waiting s.world.rows kept (wanted.Write word value) is (act.Write word value) refl Done kept.top.block s.running.kept (Write word value kept.top.block) kept.top.kept
  step_kept left s (wanted.Add word addend) is kept =
      act_kept (logged main s.world.log) s.running s.waiting s.world.rows kept (wanted.Add word addend) is (act.Add word (s.world.memory word) addend) refl (Value (s.world.memory word)) kept.top.block s.running.kept
      (Add word (s.world.memory word) addend kept.top.block) kept.top.kept
  step_kept left s (wanted.Print value) is kept =
      act_kept (logged main s.world.log) s.running s.waiting s.world.rows kept (wanted.Print value) is (act.Print value) refl Done kept.top.block s.running.kept (Print value kept.top.block) kept.top.kept
  step_kept left s (wanted.Spawn target f vs) is kept =
      subst (λ n. Kept (recording.with_child s.running.row f vs (logged main s.world.log)) (record { goes = starts (suc (length s.waiting)) f vs; row = n; kept = [] })
      (record { entry = answered Done s.running.kept s.running; target = target } ∷ s.waiting) (suc s.world.rows)) (sym kept.size)
      (spawn_kept (logged main s.world.log) s.running s.waiting s.world.rows kept target f vs is)
  step_kept left s wanted.Sync is kept =
      act_kept (logged main s.world.log) s.running s.waiting s.world.rows kept wanted.Sync is act.Sync refl (Children s.running.kept) [] [] (Sync kept.top.block s.running.kept kept.top.kept) tt
  step_kept left s wanted.Call is kept = quiet_kept (logged main s.world.log) s.running s.waiting s.world.rows kept wanted.Call is (inl refl)
  step_kept left s wanted.LoopTurn is kept = quiet_kept (logged main s.world.log) s.running s.waiting s.world.rows kept wanted.LoopTurn is (inr refl)

  is_history : (h : History) (e : Entry) (ps : List Parent) (rows : ℕ) (kept : Kept h e ps rows) → IsHistoryWith starts main h kept.returned
  is_history h e ps rows kept = record { numbered = kept.running.numbered; main_is = kept.main_is; rows = kept.all }

  pub invariant : IsInvariant starts Inv Told
  invariant = record {
    spent = λ s request is kept. record { returned = kept.returned; history = is_history _ s.running s.waiting s.world.rows kept; complete = λ e. (let clash : Budget ≡ Finished = e in absurd cc) };
    lost = λ left s is kept. record { returned = kept.returned; history = is_history _ s.running s.waiting s.world.rows kept; complete = λ e. (let clash : Budget ≡ Finished = e in absurd cc) };
    trapped = λ left s kind is kept. record { returned = kept.returned; history = is_history _ s.running s.waiting s.world.rows kept; complete = λ e. (let clash : Trapped kind ≡ Finished = e in absurd cc) };
    finished = λ left e v w is kept. record {
      returned = with_value e.row v kept.returned;
      history = record { numbered = kept.running.numbered; main_is = kept.main_is; rows = λ q lt. row_back (logged main w.log) e [] w.rows kept v is q lt (same_or q e.row) };
      complete = λ f q lt none. out_back (logged main w.log) e [] w.rows kept v is q lt none (same_or q e.row);
    };
    returned = λ left e p ps v w is kept. return_kept (logged main w.log) e p ps w.rows kept v is;
    step = step_kept;
  }

  pub first_kept : (memory : ℕ → ℤ) → Inv 0 (first_state starts main memory)
  first_kept memory = record {
    returned = λ q. None;
    running = first_runs main;
    size = refl;
    main_is = refl;
    none_new = λ q le. refl;
    out = λ q lt none. inl (omega (arith, lt));
    all = λ q lt. subst (λ r. IsRowOf starts (first_history main) (λ q. None) r) (let zero : 0 ≡ q = omega (arith, lt) in zero)
        (top_row (first_history main) (λ q. None) (record { goes = starts 0 main []; row = 0; kept = [] }) 0 top);
    top = top;
    wait = tt;
  }
    where
      top : Top (first_history main) (λ q. None) (record { goes = starts 0 main []; row = 0; kept = [] }) 0
      top = record { block = []; has_depth = Main; alone_run = Begins; kept = tt; unreturned = refl }

  -- What the log of a service tells is a history, complete where it finished.
  pub service_told : (memory : ℕ → ℤ) (budget : ℕ) → Told (serve starts budget (first_state starts main memory))
  service_told memory budget = serve_keeps starts Inv Told invariant budget (first_state starts main memory) (first_kept memory)
