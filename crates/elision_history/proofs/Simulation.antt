-- The service along a complete history.
use Rattle.std.proofs.Common.{◌≡◌, ◌≢◌, ◌⊎◌, ℕ, zero, suc, ◌+◌, ◌<◌, ◌≤◌, List, [], ◌∷◌, ◌++◌, length, Option, Some, None, refl, sym, ap, ◌∙◌, subst, inl, inr, arith, append_assoc, length-append}
use Rattle.std.proofs.lemmas.Bool.{cases_lt}
use Rattle.std.proofs.lemmas.List.{append-nil}
use Rattle.std.proofs.lemmas.List.Elements.{filter_map-append}
use Rattle.std.proofs.lemmas.List.FromFn.{length-range_with_len}
use Rattle.std.specs.List.{filter_map, range_with_len}
use Rattle.std.specs.Prelude.{ℤ, true, unwrap_or}
use Rattle.cilk_meaning.specs.declared.ends.NodeEnd.TheVariants.{Finished}
use Rattle.cilk_meaning.specs.Instance.{Meaning}
use Rattle.cilk_meaning.specs.Serve.{Parent, State, now, after, served, serve, first_state}
use Rattle.cilk_meaning.specs.Wants as wanted
use Rattle.cilk_meaning.specs.Wants.{Request, Asks, Returns, Deposit, Answer, Value, Children, Done}
use Rattle.cilk_meaning.specs.World as world
use Rattle.cilk_meaning.specs.World.{World, End, after_read, after_write, after_add, after_print, after_sync, after_tick, after_spawn, with_word, sum_or_old}
use Rattle.span_tree.specs.declared.act.Act.{Act}
use Rattle.span_tree.specs.declared.act.Act.TheVariants as act
use Rattle.span_tree.specs.declared.act.Place.{Place}
use Rattle.span_tree.specs.History.{Row, History, row_at, serial_acts, spawned_by}
use Rattle.span_tree.specs.Memory.{IsAnsweredFrom, ReadsLastWrites, last_write, left_in}
use Rattle.span_tree.specs.Program.{Block, HaveReturned, IsChild, IsAnswered, Read, Write, Add, Print, Spawn, Sync, AloneRun, HasDepth, Main, Child, Starts, IsHistoryWith}
use Rattle.span_tree.specs.Recording.{first_history, with_act, with_child, child_row, spawns_none}
use Rattle.span_tree.proofs.Ways.{some_same, none_is, parent_of}
use Rattle.span_tree.proofs.Growing.{OneMore, same_or, with_length, with_one, same_row, child_length, new_row, old_row, one', spawns_nothing}
use Rattle.elision_history.specs.Logged.{logged}
use Rattle.elision_history.proofs.Acting.{last_more, wrote, added}
use Rattle.elision_history.proofs.Growth.{is_there}
use Rattle.elision_history.proofs.Histories.{returned_more}
use Rattle.elision_history.proofs.Replay.{range_at, Rest, Ends, Tick, Act', run_front, acts_from, alone, under, under_is, serve_step, serve_back, serve_end, SameHead, Grown, one_row, same_history}

-- the children's values are determined
same_deposits : (returned : ℕ → Option ℤ) (block : Block) (ds es : List Deposit) → HaveReturned returned block ds → HaveReturned returned block es → ds ≡ es
same_deposits returned [] [] [] is is' = refl
same_deposits returned [] [] (e ∷ es) is is' = absurd is'
same_deposits returned [] (d ∷ ds) es is is' = absurd is
same_deposits returned (c ∷ block) [] es is is' = absurd is
same_deposits returned (c ∷ block) (d ∷ ds) [] is is' = absurd is'
same_deposits returned (c ∷ block) (d ∷ ds) (e ∷ es) is is' =
    let targets : d.0 ≡ e.0 = sym is.0 ∙ is'.0 in
    let values : d.1 ≡ e.1 = some_same d.1 e.1 (sym is.1 ∙ is'.1) in
    ap (λ x. (x, d.1) ∷ ds) targets ∙ ap (λ x. (e.0, x) ∷ ds) values ∙ ap (λ l. e ∷ l) (same_deposits returned block ds es is.2 is'.2)

-- a row has one depth
pub one_depth : (h : History) → (row_at h 0).parent ≡ None → (row depth depth' : ℕ) → HasDepth h row depth → HasDepth h row depth' → depth ≡ depth'
one_depth h top _ _ _ Main Main = refl
one_depth h top _ _ _ Main (Child _ place depth e d) = absurd (none_is _ place top e)
one_depth h top _ _ _ (Child _ place depth e d) Main = absurd (none_is _ place top e)
one_depth h top row _ _ (Child _ place depth e d) (Child _ place' depth' e' d') =
    ap suc (one_depth h top place.row depth depth' d (subst (λ (p : Place). HasDepth h p.row depth') (some_same place' place (sym e' ∙ e)) d'))

-- acts before and behind
pub regroup : (made : Act) (A xs back whole : List Act) → whole ≡ A ++ ((made ∷ xs) ++ back) → whole ≡ (A ++ made ∷ []) ++ (xs ++ back)
regroup made A xs back whole e = e ∙ sym (append_assoc A (made ∷ []) (xs ++ back))

module _ (starts : Starts) (main : ℕ) (h : History) (returned : ℕ → Option ℤ) (history : IsHistoryWith starts main h returned)
    (all : (row : ℕ) → row < length h → returned row ≢ None) (start : ℕ → ℤ) (reads : ReadsLastWrites start (serial_acts h)) where
  abbrev rest_acts : List Act → List Act
  rest_acts = acts_from (under h history.numbered)

  -- the world behind these acts
  record Good (w : World) (A : List Act) : Type 0 where
    rows : w.rows ≡ length (logged main w.log)
    spawned : length (logged main w.log) ≡ suc (length (filter_map spawned_by A))
    holds : (word : ℕ) → w.memory word ≡ last_write word (start word) A

  -- the row has made all its acts but these
  record In (g : History) (q index : ℕ) (acts : List Act) : Type 0 where
    inside : q < length g
    size : length (row_at g q).acts ≡ index
    split : (row_at h q).acts ≡ (row_at g q).acts ++ acts
    heads : (r : ℕ) → r < length g → SameHead h g r

  -- the service goes along the rest of a row, and all that lies below it
  record Ran (depth q : ℕ) (goes fin : Meaning) (acts : List Act) (kept : List Deposit) (w : World) (A : List Act) : Type 0 where
    ticks : ℕ
    world : World
    kept' : List Deposit
    good : Good world (A ++ rest_acts acts)
    grown : Grown h (logged main w.log) (logged main world.log) q
    serves : (waiting : List Parent) → length waiting ≡ depth → (left : ℕ) →
        serve starts (ticks + left) (record { running = record { goes = goes; row = q; kept = kept }; waiting = waiting; world = w })
        ≡ serve starts left (record { running = record { goes = fin; row = q; kept = kept' }; waiting = waiting; world = world })

  -- ---- one act

  with_head : (g : History) (q : ℕ) (made : Act) → q < length g → (r : ℕ) → SameHead h g r → SameHead h (with_act q made g) r
  with_head g q made inside r head = record {
    parent = same_row g q made inside (λ (x : Row). x.parent) refl r ∙ head.parent;
    proc = same_row g q made inside (λ (x : Row). x.proc) refl r ∙ head.proc;
    args = same_row g q made inside (λ (x : Row). x.args) refl r ∙ head.args;
  }

  plain_spawned : (A : List Act) (made : Act) → spawns_none made ≡ true → length (filter_map spawned_by (A ++ made ∷ [])) ≡ length (filter_map spawned_by A)
  plain_spawned A made plain = ap length (filter_map-append spawned_by A (made ∷ []) ∙ none made plain ∙ append-nil (filter_map spawned_by A))
    where
      none : (made : Act) → spawns_none made ≡ true → filter_map spawned_by A ++ filter_map spawned_by (made ∷ []) ≡ filter_map spawned_by A ++ []
      none (act.Spawn child) e = absurd cc
      none (act.Read word value) e = refl
      none (act.Write word value) e = refl
      none (act.Add word old addend) e = refl
      none (act.Print value) e = refl
      none act.Sync e = refl

  -- an act that spawns nothing, and then the rest
  module _ (depth q : ℕ) (goes fin : Meaning) (made : Act) (acts : List Act) (kept kept1 : List Deposit) (w w1 : World) (A back : List Act) (index : ℕ) (request : Request) (answer : Answer)
      (is : now goes ≡ Some (Asks request)) (plain : spawns_none made ≡ true) (good : Good w A) (here : In (logged main w.log) q index (made ∷ acts))
      (log1 : logged main w1.log ≡ with_act q made (logged main w.log)) (rows1 : w1.rows ≡ w.rows) (left : (word : ℕ) → w1.memory word ≡ unwrap_or (left_in word made) (w.memory word))
      (served_is : (waiting : List Parent) → served starts request (record { running = record { goes = goes; row = q; kept = kept }; waiting = waiting; world = w })
      ≡ record { running = record { goes = after goes answer; row = q; kept = kept1 }; waiting = waiting; world = w1 })
      (whole : serial_acts h ≡ A ++ (rest_acts (made ∷ acts) ++ back)) where
    abbrev g : History
    g = logged main w.log

    one : OneMore g (with_act q made g) q made
    one = with_one g q made here.inside (λ child e. absurd (spawns_nothing made child plain e))

    size1 : length (logged main w1.log) ≡ length g
    size1 = ap length log1 ∙ with_length g q made here.inside

    good1 : Good w1 (A ++ made ∷ [])
    good1 = record {
      rows = rows1 ∙ good.rows ∙ sym size1;
      spawned = size1 ∙ good.spawned ∙ ap suc (sym (plain_spawned A made plain));
      holds = λ word. left word ∙ ap (λ v. unwrap_or (left_in word made) v) (good.holds word) ∙ sym (last_more word (start word) A made);
    }

    in1 : In (logged main w1.log) q (suc index) acts
    in1 = subst (λ x. In x q (suc index) acts) (sym log1) (record {
      inside = (let n = with_length g q made here.inside in omega (arith, n, here.inside));
      size = ap length one.here ∙ (omega (arith, here.size, length-append (row_at g q).acts (made ∷ [])));
      split = here.split ∙ sym (append_assoc (row_at g q).acts (made ∷ []) acts) ∙ ap (λ l. l ++ acts) (sym one.here);
      heads = λ r lt. with_head g q made here.inside r (here.heads r (let n = with_length g q made here.inside in omega (arith, n, lt)));
    })

    whole1 : serial_acts h ≡ (A ++ made ∷ []) ++ (rest_acts acts ++ back)
    whole1 = regroup made A (rest_acts acts) back (serial_acts h) (whole ∙ ap (λ l. A ++ (l ++ back)) (alone (under h history.numbered) made acts plain))

    ran1 : Ran depth q (after goes answer) fin acts kept1 w1 (A ++ made ∷ []) → Ran depth q goes fin (made ∷ acts) kept w A
    ran1 ran = record {
      ticks = suc ran.ticks;
      world = ran.world;
      kept' = ran.kept';
      good = subst (λ l. Good ran.world l) (append_assoc A (made ∷ []) (rest_acts acts) ∙ ap (λ l. A ++ l) (sym (alone (under h history.numbered) made acts plain))) ran.good;
      grown = record {
        longer = omega (arith, size1, ran.grown.longer);
        mine = ran.grown.mine;
        others = λ r lt ne. ran.grown.others r (omega (arith, lt, size1)) ne ∙ ap (λ x. (row_at x r).acts) log1 ∙ one.others r ne;
        new = λ r le lt. ran.grown.new r (omega (arith, le, size1)) lt;
        heads = ran.grown.heads;
      };
      serves = λ waiting deep more.
          ap (λ n. serve starts n (record { running = record { goes = goes; row = q; kept = kept }; waiting = waiting; world = w })) (let n : suc ran.ticks + more ≡ suc (ran.ticks + more) = omega arith in n)
          ∙ serve_step starts (ran.ticks + more) (record { running = record { goes = goes; row = q; kept = kept }; waiting = waiting; world = w }) request is
          ∙ ap (λ s. serve starts (ran.ticks + more) s) (served_is waiting) ∙ ran.serves waiting deep more;
    }

  -- ---- a row

  abbrev ChildRuns : ℕ → Type 0
  ChildRuns n = (c depth : ℕ) (v : ℤ) (w : World) (A back : List Act) → length h ≤ n + c → c < length h → HasDepth h c depth → returned c ≡ Some v → Good w A → In (logged main w.log) c 0 (row_at h c).acts →
      serial_acts h ≡ A ++ (under h history.numbered c ++ back) → (fin : Meaning) × (now fin ≡ Some (Returns v)) × Ran depth c (starts depth (row_at h c).proc (row_at h c).args) fin (row_at h c).acts [] w A

  some_value : (q : ℕ) → q < length h → (v : ℤ) × (returned q ≡ Some v)
  some_value q lt = go (returned q) refl
    where
      go : (o : Option ℤ) → returned q ≡ o → (v : ℤ) × (returned q ≡ Some v)
      go None e = absurd (all q lt e)
      go (Some v) e = (v, e)

  -- the answer of a read or an add
  answered_by : (A xs : List Act) (made : Act) → serial_acts h ≡ A ++ made ∷ xs → IsAnsweredFrom (λ word. last_write word (start word) A) made
  answered_by A xs made e = reads A xs made e

  module _ (n q depth : ℕ) (fin : Meaning) (inside : q < length h) (near : length h ≤ suc n + q) (deep : HasDepth h q depth) (children : ChildRuns n) where
    abbrev RunsOn : List Act → ℕ → Block → Meaning → Type 0
    RunsOn acts index block goes = (kept : List Deposit) (w : World) (A back : List Act) → HaveReturned returned block kept → Good w A → In (logged main w.log) q index acts →
        serial_acts h ≡ A ++ (rest_acts acts ++ back) → Ran depth q goes fin acts kept w A

    ended : (index : ℕ) (block : Block) → RunsOn [] index block fin
    ended index block kept w A back have good here whole = record {
      ticks = 0;
      world = w;
      kept' = kept;
      good = subst (λ l. Good w l) (sym (append-nil A)) good;
      grown = record {
        longer = omega arith;
        mine = sym (here.split ∙ append-nil (row_at (logged main w.log) q).acts);
        others = λ r lt ne. refl;
        new = λ r le lt. absurd (omega (arith, le, lt));
        heads = here.heads;
      };
      serves = λ waiting deep' left. ap (λ m. serve starts m (record { running = record { goes = fin; row = q; kept = kept }; waiting = waiting; world = w })) (let m : 0 + left ≡ left = omega arith in m);
    }

    ticked : (acts : List Act) (index : ℕ) (block : Block) (goes : Meaning) (request : Request) → now goes ≡ Some (Asks request) → (request ≡ wanted.Call) ⊎ (request ≡ wanted.LoopTurn) →
        RunsOn acts index block (after goes Done) → RunsOn acts index block goes
    ticked acts index block goes request is which on kept w A back have good here whole =
        let w1 = after_tick q w in
        let ran = on kept w1 A back have (record { rows = good.rows; spawned = good.spawned; holds = good.holds }) here whole in
        record {
          ticks = suc ran.ticks;
          world = ran.world;
          kept' = ran.kept';
          good = ran.good;
          grown = record { longer = ran.grown.longer; mine = ran.grown.mine; others = ran.grown.others; new = ran.grown.new; heads = ran.grown.heads };
          serves = λ waiting deep' left.
              ap (λ m. serve starts m (record { running = record { goes = goes; row = q; kept = kept }; waiting = waiting; world = w })) (let m : suc ran.ticks + left ≡ suc (ran.ticks + left) = omega arith in m)
              ∙ serve_step starts (ran.ticks + left) (record { running = record { goes = goes; row = q; kept = kept }; waiting = waiting; world = w }) request is
              ∙ ap (λ s. serve starts (ran.ticks + left) s) (quiet which waiting kept w) ∙ ran.serves waiting deep' left;
        }
      where
        quiet : (request ≡ wanted.Call) ⊎ (request ≡ wanted.LoopTurn) → (waiting : List Parent) (kept : List Deposit) (w : World) →
            served starts request (record { running = record { goes = goes; row = q; kept = kept }; waiting = waiting; world = w })
            ≡ record { running = record { goes = after goes Done; row = q; kept = kept }; waiting = waiting; world = after_tick q w }
        quiet (inl same) waiting kept w = ap (λ r. served starts r (record { running = record { goes = goes; row = q; kept = kept }; waiting = waiting; world = w })) same
        quiet (inr same) waiting kept w = ap (λ r. served starts r (record { running = record { goes = goes; row = q; kept = kept }; waiting = waiting; world = w })) same

    -- a spawn: the child runs to its end, and then the row goes on
    module _ (acts : List Act) (index : ℕ) (block : Block) (goes : Meaning) (target : Option ℕ) (f : ℕ) (vs : List ℤ) (c : ℕ) (is : now goes ≡ Some (Asks (wanted.Spawn target f vs)))
        (child : IsChild h c (record { row = q; act = index }) f vs) (kept : List Deposit) (w : World) (A back : List Act) (have : HaveReturned returned block kept) (good : Good w A)
        (here : In (logged main w.log) q index (act.Spawn c ∷ acts)) (whole : serial_acts h ≡ A ++ (rest_acts (act.Spawn c ∷ acts) ++ back)) where
      abbrev g0 : History
      g0 = logged main w.log

      abbrev w1 : World
      w1 = after_spawn q f vs w

      abbrev A1 : List Act
      A1 = A ++ act.Spawn c ∷ []

      abbrev g1 : History
      g1 = with_child q f vs g0

      abbrev below_c : List Act
      below_c = under h history.numbered c

      there : c < length h
      there = is_there h c (record { row = q; act = index }) child.named

      whole' : serial_acts h ≡ A ++ act.Spawn c ∷ (below_c ++ (rest_acts acts ++ back))
      whole' = whole ∙ ap (λ l. A ++ act.Spawn c ∷ l) (append_assoc below_c (rest_acts acts) back)

      -- it has the next number
      number : c ≡ length g0
      number =
          let order : 0 ∷ filter_map spawned_by A ++ c ∷ filter_map spawned_by (below_c ++ (rest_acts acts ++ back)) ≡ range_with_len 0 (length h) =
          sym (ap (λ l. 0 ∷ l) (ap (filter_map spawned_by) whole' ∙ filter_map-append spawned_by A (act.Spawn c ∷ (below_c ++ (rest_acts acts ++ back))))) ∙ history.numbered.preorder in
          let at = range_at 0 (length h) (0 ∷ filter_map spawned_by A) (filter_map spawned_by (below_c ++ (rest_acts acts ++ back))) c order in
          omega (arith, at, good.spawned)

      grown_size : length g1 ≡ suc (length g0)
      grown_size = child_length g0 q f vs here.inside

      grown_one : OneMore g0 g1 q (act.Spawn (length g0))
      grown_one = one' g0 q f vs here.inside

      born : row_at g1 (length g0) ≡ child_row q f vs g0
      born = new_row g0 q f vs here.inside

      born_c : row_at g1 c ≡ child_row q f vs g0
      born_c = ap (λ r. row_at g1 r) number ∙ born

      old_head : (r : ℕ) → r < length g0 → SameHead h g1 r
      old_head r lt = let head = here.heads r lt in record {
        parent = ap (λ (x : Row). x.parent) (old_row g0 q f vs here.inside r lt) ∙ same_row g0 q (act.Spawn (length g0)) here.inside (λ (x : Row). x.parent) refl r ∙ head.parent;
        proc = ap (λ (x : Row). x.proc) (old_row g0 q f vs here.inside r lt) ∙ same_row g0 q (act.Spawn (length g0)) here.inside (λ (x : Row). x.proc) refl r ∙ head.proc;
        args = ap (λ (x : Row). x.args) (old_row g0 q f vs here.inside r lt) ∙ same_row g0 q (act.Spawn (length g0)) here.inside (λ (x : Row). x.args) refl r ∙ head.args;
      }

      new_head : SameHead h g1 c
      new_head = record {
        parent = ap (λ (x : Row). x.parent) born_c ∙ ap (λ k. Some (record { row = q; act = k })) here.size ∙ sym child.named;
        proc = ap (λ (x : Row). x.proc) born_c ∙ sym child.procedure_is;
        args = ap (λ (x : Row). x.args) born_c ∙ sym child.arguments_are;
      }

      head1 : (r : ℕ) → r < length g1 → SameHead h g1 r
      head1 r lt = go (cases_lt r (length g0))
        where
          go : (r < length g0) ⊎ (length g0 ≤ r) → SameHead h g1 r
          go (inl old) = old_head r old
          go (inr le) = subst (λ x. SameHead h g1 x) (let same : c ≡ r = omega (arith, le, lt, grown_size, number) in same) new_head

      child_good : Good w1 A1
      child_good = record {
        rows = ap suc good.rows ∙ sym grown_size;
        spawned = grown_size ∙ ap suc (good.spawned ∙ (let more = ap length (filter_map-append spawned_by A (act.Spawn c ∷ [])) in omega (arith, more, length-append (filter_map spawned_by A) (c ∷ []))));
        holds = λ word. good.holds word ∙ sym (last_more word (start word) A (act.Spawn c));
      }

      child_in : In g1 c 0 (row_at h c).acts
      child_in = record {
        inside = omega (arith, grown_size, number);
        size = ap (λ (x : Row). length x.acts) born_c;
        split = ap (λ l. l ++ (row_at h c).acts) (sym (ap (λ (x : Row). x.acts) born_c));
        heads = head1;
      }

      after_q : q < c
      after_q = (parent_of h history.numbered c (record { row = q; act = index }) child.named).before

      value_c : (v : ℤ) × (returned c ≡ Some v)
      value_c = some_value c there

      child_ran : (fin' : Meaning) × (now fin' ≡ Some (Returns value_c.0)) × Ran (suc depth) c (starts (suc depth) (row_at h c).proc (row_at h c).args) fin' (row_at h c).acts [] w1 A1
      child_ran =
          children c (suc depth) value_c.0 w1 A1 (rest_acts acts ++ back) (omega (arith, near, after_q)) there (Child c (record { row = q; act = index }) depth child.named deep) value_c.1 child_good child_in
          (whole' ∙ sym (append_assoc A (act.Spawn c ∷ []) (below_c ++ (rest_acts acts ++ back))))

      abbrev ran_c : Ran (suc depth) c (starts (suc depth) (row_at h c).proc (row_at h c).args) child_ran.0 (row_at h c).acts [] w1 A1
      ran_c = child_ran.2

      abbrev w2 : World
      w2 = ran_c.world

      abbrev A2 : List Act
      A2 = A1 ++ below_c

      good2 : Good w2 A2
      good2 = subst (λ l. Good w2 (A1 ++ l)) (sym (under_is h history.numbered c)) ran_c.good

      mine1 : (row_at (logged main w2.log) q).acts ≡ (row_at g0 q).acts ++ act.Spawn c ∷ []
      mine1 = ran_c.grown.others q (omega (arith, here.inside, grown_size)) (λ same. omega (arith, same, after_q)) ∙ grown_one.here ∙ ap (λ k. (row_at g0 q).acts ++ act.Spawn k ∷ []) (sym number)

      in2 : In (logged main w2.log) q (suc index) acts
      in2 = record {
        inside = omega (arith, here.inside, grown_size, ran_c.grown.longer);
        size = ap length mine1 ∙ (omega (arith, here.size, length-append (row_at g0 q).acts (act.Spawn c ∷ [])));
        split = here.split ∙ sym (append_assoc (row_at g0 q).acts (act.Spawn c ∷ []) acts) ∙ ap (λ l. l ++ acts) (sym mine1);
        heads = ran_c.grown.heads;
      }

      whole2 : serial_acts h ≡ A2 ++ (rest_acts acts ++ back)
      whole2 = whole' ∙ sym (append_assoc A (act.Spawn c ∷ []) (below_c ++ (rest_acts acts ++ back))) ∙ sym (append_assoc A1 below_c (rest_acts acts ++ back))

      abbrev kept2 : List Deposit
      kept2 = kept ++ (target, value_c.0) ∷ []

      have2 : HaveReturned returned (block ++ (target, c) ∷ []) kept2
      have2 = returned_more returned block kept target c value_c.0 have value_c.1

      start_is : starts (suc depth) (row_at h c).proc (row_at h c).args ≡ starts (suc depth) f vs
      start_is = ap (λ p. starts (suc depth) p (row_at h c).args) child.procedure_is ∙ ap (λ l. starts (suc depth) f l) child.arguments_are

      goes_on : Ran depth q (after goes Done) fin acts kept2 w2 A2 → Ran depth q goes fin (act.Spawn c ∷ acts) kept w A
      goes_on ran = record {
        ticks = suc (ran_c.ticks + ran.ticks);
        world = ran.world;
        kept' = ran.kept';
        good = subst (λ l. Good ran.world l) (append_assoc A1 below_c (rest_acts acts) ∙ append_assoc A (act.Spawn c ∷ []) (below_c ++ rest_acts acts)) ran.good;
        grown = record {
          longer = omega (arith, grown_size, ran_c.grown.longer, ran.grown.longer);
          mine = ran.grown.mine;
          others = λ r lt ne. ran.grown.others r (omega (arith, lt, grown_size, ran_c.grown.longer)) ne ∙ ran_c.grown.others r (omega (arith, lt, grown_size)) (λ same. omega (arith, same, lt, number)) ∙ grown_one.others r ne;
          new = new_rows ran;
          heads = ran.grown.heads;
        };
        serves = λ waiting deep' left.
            let s : State = record { running = record { goes = goes; row = q; kept = kept }; waiting = waiting; world = w } in
            let p : Parent = record { entry = record { goes = after goes Done; row = q; kept = kept }; target = target } in
            ap (λ m. serve starts m s) (let m : suc (ran_c.ticks + ran.ticks) + left ≡ suc (ran_c.ticks + (ran.ticks + left)) = omega arith in m)
            ∙ serve_step starts (ran_c.ticks + (ran.ticks + left)) s (wanted.Spawn target f vs) is
            ∙ ap (λ m. serve starts (ran_c.ticks + (ran.ticks + left)) (record { running = record { goes = starts (suc m) f vs; row = w.rows; kept = [] }; waiting = p ∷ waiting; world = w1 })) deep'
            ∙ ap (λ m. serve starts (ran_c.ticks + (ran.ticks + left)) (record { running = record { goes = starts (suc depth) f vs; row = m; kept = [] }; waiting = p ∷ waiting; world = w1 })) (good.rows ∙ sym number)
            ∙ ap (λ x. serve starts (ran_c.ticks + (ran.ticks + left)) (record { running = record { goes = x; row = c; kept = [] }; waiting = p ∷ waiting; world = w1 })) (sym start_is)
            ∙ ran_c.serves (p ∷ waiting) (ap suc deep') (ran.ticks + left)
            ∙ serve_back starts (ran.ticks + left) (record { goes = child_ran.0; row = c; kept = ran_c.kept' }) p waiting w2 value_c.0 child_ran.1
            ∙ ran.serves waiting deep' left;
      }
        where
          new_rows : (ran : Ran depth q (after goes Done) fin acts kept2 w2 A2) → (r : ℕ) → length g0 ≤ r → r < length (logged main ran.world.log) → (row_at (logged main ran.world.log) r).acts ≡ (row_at h r).acts
          new_rows ran r le lt = go (cases_lt r (length (logged main w2.log)))
            where
              apart : r ≢ q
              apart same = omega (arith, same, le, here.inside)

              child_row' : (r ≡ c) ⊎ (r ≢ c) → r < length (logged main w2.log) → (row_at (logged main w2.log) r).acts ≡ (row_at h r).acts
              child_row' (inl same) near' = subst (λ x. (row_at (logged main w2.log) x).acts ≡ (row_at h x).acts) (sym same) ran_c.grown.mine
              child_row' (inr ne) near' = ran_c.grown.new r (omega (arith, le, ne, grown_size, number)) near'

              go : (r < length (logged main w2.log)) ⊎ (length (logged main w2.log) ≤ r) → (row_at (logged main ran.world.log) r).acts ≡ (row_at h r).acts
              go (inl near') = ran.grown.others r near' apart ∙ child_row' (same_or r c) near'
              go (inr far) = ran.grown.new r far lt

    -- the running row, and the world
    abbrev state : Meaning → List Deposit → List Parent → World → State
    state goes kept waiting w = record { running = record { goes = goes; row = q; kept = kept }; waiting = waiting; world = w }

    -- what answering a request by an act that spawns nothing makes of the world
    record Makes (goes : Meaning) (request : Request) (made : Act) (answer : Answer) (kept kept1 : List Deposit) (w w1 : World) : Type 0 where
      plain : spawns_none made ≡ true
      logs : logged main w1.log ≡ with_act q made (logged main w.log)
      rows : w1.rows ≡ w.rows
      leaves : (word : ℕ) → w1.memory word ≡ unwrap_or (left_in word made) (w.memory word)
      serves : (waiting : List Parent) → served starts request (state goes kept waiting w) ≡ state (after goes answer) kept1 waiting w1

    makes_on : (acts : List Act) (index : ℕ) (behind : Block) (goes : Meaning) (request : Request) (made : Act) (answer : Answer) → now goes ≡ Some (Asks request) →
        (kept kept1 : List Deposit) (w w1 : World) (A back : List Act) → Makes goes request made answer kept kept1 w w1 → HaveReturned returned behind kept1 → RunsOn acts (suc index) behind (after goes answer) →
        Good w A → In (logged main w.log) q index (made ∷ acts) → serial_acts h ≡ A ++ (rest_acts (made ∷ acts) ++ back) → Ran depth q goes fin (made ∷ acts) kept w A
    makes_on acts index behind goes request made answer is kept kept1 w w1 A back m have on good here whole =
        ran1 depth q goes fin made acts kept kept1 w w1 A back index request answer is m.plain good here m.logs m.rows m.leaves m.serves whole
        (on kept1 w1 (A ++ made ∷ []) back have
        (good1 depth q goes fin made acts kept kept1 w w1 A back index request answer is m.plain good here m.logs m.rows m.leaves m.serves whole)
        (in1 depth q goes fin made acts kept kept1 w w1 A back index request answer is m.plain good here m.logs m.rows m.leaves m.serves whole)
        (whole1 depth q goes fin made acts kept kept1 w w1 A back index request answer is m.plain good here m.logs m.rows m.leaves m.serves whole))

    -- a read or an add is answered by what its word holds
    from_words : (A back acts : List Act) (made : Act) → spawns_none made ≡ true → serial_acts h ≡ A ++ (rest_acts (made ∷ acts) ++ back) → IsAnsweredFrom (λ word. last_write word (start word) A) made
    from_words A back acts made plain whole = reads A (rest_acts acts ++ back) made (whole ∙ ap (λ l. A ++ (l ++ back)) (alone (under h history.numbered) made acts plain))

    acted : (acts : List Act) (index : ℕ) (block behind : Block) (goes : Meaning) (request : Request) (made : Act) (answer : Answer) → now goes ≡ Some (Asks request) →
        IsAnswered h returned (record { row = q; act = index }) request made answer block behind → RunsOn acts (suc index) behind (after goes answer) → RunsOn (made ∷ acts) index block goes
    acted acts index _ _ goes _ _ _ is (Read word v block) on kept w A back have good here whole =
        let same : w.memory word ≡ v = good.holds word ∙ sym (from_words A back acts (act.Read word v) refl whole) in
        makes_on acts index block goes (wanted.Read word) (act.Read word v) (Value v) is kept kept w (world.with_event (world.Acts q (world.Read word v)) w) A back
        (record {
          plain = refl;
          logs = refl;
          rows = refl;
          leaves = λ x. refl;
          serves = λ waiting. ap (λ x. state (after goes (Value x)) kept waiting (world.with_event (world.Acts q (world.Read word x)) w)) same;
        }) have on good here whole
    acted acts index _ _ goes _ _ _ is (Write word v block) on kept w A back have good here whole =
        makes_on acts index block goes (wanted.Write word v) (act.Write word v) Done is kept kept w (after_write q word v w) A back
        (record { plain = refl; logs = refl; rows = refl; leaves = wrote w.memory word v; serves = λ waiting. refl }) have on good here whole
    acted acts index _ _ goes _ _ _ is (Add word old addend block) on kept w A back have good here whole =
        let same : w.memory word ≡ old = good.holds word ∙ sym (from_words A back acts (act.Add word old addend) refl whole) in
        makes_on acts index block goes (wanted.Add word addend) (act.Add word old addend) (Value old) is kept kept w (added_world w word old addend) A back
        (record {
          plain = refl;
          logs = refl;
          rows = refl;
          leaves = λ x. subst (λ o. with_word word (sum_or_old o addend) w.memory x ≡ unwrap_or (left_in x (act.Add word o addend)) (w.memory x)) same (added w.memory word addend x);
          serves = λ waiting. ap (λ o. state (after goes (Value o)) kept waiting (added_world w word o addend)) same;
        }) have on good here whole
      where
        added_world : World → ℕ → ℤ → ℤ → World
        added_world w word old addend =
            world.with_event (world.Acts q (world.Add word old addend)) (record { memory = with_word word (sum_or_old old addend) w.memory; rows = w.rows; log = w.log })
    acted acts index _ _ goes _ _ _ is (Print v block) on kept w A back have good here whole =
        makes_on acts index block goes (wanted.Print v) (act.Print v) Done is kept kept w (after_print q v w) A back
        (record { plain = refl; logs = refl; rows = refl; leaves = λ x. refl; serves = λ waiting. refl }) have on good here whole
    acted acts index _ _ goes _ _ _ is (Sync block deposits returns) on kept w A back have good here whole =
        let same : kept ≡ deposits = same_deposits returned block kept deposits have returns in
        makes_on acts index [] goes wanted.Sync act.Sync (Children deposits) is kept [] w (after_sync q w) A back
        (record {
          plain = refl;
          logs = refl;
          rows = refl;
          leaves = λ x. refl;
          serves = λ waiting. ap (λ ds. state (after goes (Children ds)) [] waiting (after_sync q w)) same;
        }) tt on good here whole
    acted acts index _ _ goes _ _ _ is (Spawn target f vs c block child) on kept w A back have good here whole =
        goes_on acts index block goes target f vs c is child kept w A back have good here whole
        (on (kept2 acts index block goes target f vs c is child kept w A back have good here whole) (w2 acts index block goes target f vs c is child kept w A back have good here whole)
        (A2 acts index block goes target f vs c is child kept w A back have good here whole) back
        (have2 acts index block goes target f vs c is child kept w A back have good here whole) (good2 acts index block goes target f vs c is child kept w A back have good here whole)
        (in2 acts index block goes target f vs c is child kept w A back have good here whole) (whole2 acts index block goes target f vs c is child kept w A back have good here whole))

    runs_on : (acts : List Act) (index : ℕ) (block : Block) (goes : Meaning) → Rest h returned q fin acts index block goes → RunsOn acts index block goes
    runs_on _ _ _ _ (Ends index block) = ended index block
    runs_on _ _ _ _ (Tick acts index block goes (inl quiet) rest) = ticked acts index block goes wanted.Call quiet (inl refl) (runs_on acts index block (after goes Done) rest)
    runs_on _ _ _ _ (Tick acts index block goes (inr quiet) rest) = ticked acts index block goes wanted.LoopTurn quiet (inr refl) (runs_on acts index block (after goes Done) rest)
    runs_on _ _ _ _ (Act' acts index block behind goes request made answer is answered rest) =
        acted acts index block behind goes request made answer is answered (runs_on acts (suc index) behind (after goes answer) rest)

  -- ---- all rows

  row_runs : (n : ℕ) → ChildRuns n → ChildRuns (suc n)
  row_runs n children c depth v w A back near inside deep value good here whole =
      let is = history.rows c inside in
      let same : is.depth ≡ depth = one_depth h history.numbered.main c is.depth depth is.has_depth deep in
      let begin = starts depth (row_at h c).proc (row_at h c).args in
      let run = subst (λ d. AloneRun h returned c (starts d (row_at h c).proc (row_at h c).args) (row_at h c).acts is.block is.goes) same is.alone_run in
      let front : Rest h returned c is.goes ((row_at h c).acts ++ []) 0 [] begin = run_front h returned c is.goes begin is.goes (row_at h c).acts [] is.block run (Ends (length (row_at h c).acts) is.block) in
      let rest : Rest h returned c is.goes (row_at h c).acts 0 [] begin = subst (λ l. Rest h returned c is.goes l 0 [] begin) (append-nil (row_at h c).acts) front in (
        is.goes,
        is.returns v value,
        runs_on n c depth is.goes inside near deep children (row_at h c).acts 0 [] begin rest [] w A back tt good here
            (whole ∙ ap (λ l. A ++ (l ++ back)) (under_is h history.numbered c)),
      )

  rows_run : (n : ℕ) → ChildRuns n
  rows_run zero = λ c depth v w A back near inside deep value good here whole. absurd (omega (arith, near, inside))
  rows_run (suc n) = row_runs n (rows_run n)

  first_heads : (r : ℕ) → r < 1 → SameHead h (first_history main) r
  first_heads zero lt = record { parent = sym history.numbered.main; proc = sym history.main_is; args = sym history.numbered.main_args }
  first_heads (suc r) lt = absurd (omega (arith, lt))

  main_value : (v : ℤ) × (returned 0 ≡ Some v)
  main_value = some_value 0 history.numbered.some

  main_ran : (fin : Meaning) × (now fin ≡ Some (Returns main_value.0)) × Ran 0 0 (starts 0 (row_at h 0).proc (row_at h 0).args) fin (row_at h 0).acts [] (world.first_world start) []
  main_ran =
      rows_run (length h) 0 0 main_value.0 (world.first_world start) [] [] (omega arith) history.numbered.some Main main_value.1
      (record { rows = refl; spawned = refl; holds = λ word. refl })
      (record { inside = omega arith; size = refl; split = refl; heads = first_heads })
      (sym (append-nil (serial_acts h)))

  abbrev last : History
  last = logged main (main_ran.2).world.log

  same_length : length last ≡ length h
  same_length =
      let good = subst (λ l. Good (main_ran.2).world l) (sym (under_is h history.numbered 0)) (main_ran.2).good in
      let size : suc (length (filter_map spawned_by (serial_acts h))) ≡ length h = ap length history.numbered.preorder ∙ length-range_with_len 0 (length h) in
      good.spawned ∙ size

  same_rows : (r : ℕ) → r < length last → row_at last r ≡ row_at h r
  same_rows r lt =
      let head = (main_ran.2).grown.heads r lt in
      one_row (row_at last r) (row_at h r) head.parent head.proc head.args (acts (same_or r 0))
    where
      acts : (r ≡ 0) ⊎ (r ≢ 0) → (row_at last r).acts ≡ (row_at h r).acts
      acts (inl same) = subst (λ x. (row_at last x).acts ≡ (row_at h x).acts) (sym same) (main_ran.2).grown.mine
      acts (inr ne) = (main_ran.2).grown.new r (omega (arith, ne)) lt

  -- With enough ticks the service comes to its end, and its log tells this history.
  pub record Replayed : Type 0 where
    pub ticks : ℕ
    pub end : End
    pub is_end : serve starts ticks (first_state starts main start) ≡ end
    pub finished : end.end ≡ Finished
    pub tells : logged main end.world.log ≡ h

  pub replayed : Replayed
  replayed = record {
    ticks = (main_ran.2).ticks + 0;
    end = record { end = Finished; world = (main_ran.2).world };
    is_end =
        ap (λ f. serve starts ((main_ran.2).ticks + 0) (record { running = record { goes = starts 0 f []; row = 0; kept = [] }; waiting = []; world = world.first_world start })) (sym history.main_is)
        ∙ ap (λ vs. serve starts ((main_ran.2).ticks + 0) (record { running = record { goes = starts 0 (row_at h 0).proc vs; row = 0; kept = [] }; waiting = []; world = world.first_world start })) (sym history.numbered.main_args)
        ∙ (main_ran.2).serves [] refl 0
        ∙ serve_end starts 0 (record { goes = main_ran.0; row = 0; kept = (main_ran.2).kept' }) (main_ran.2).world main_value.0 main_ran.1;
    finished = refl;
    tells = same_history last h same_length same_rows;
  }
