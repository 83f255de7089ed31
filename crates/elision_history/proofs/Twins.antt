-- Two complete histories of one program whose reads and adds are answered alike go along together.
use Rattle.std.proofs.Common.{◌≡◌, ◌≢◌, ◌⊎◌, ℕ, zero, suc, ◌+◌, ◌<◌, ◌≤◌, List, [], ◌∷◌, ◌++◌, length, Option, Some, None, refl, sym, ap, ◌∙◌, subst, inl, inr, arith, append_assoc, length-append}
use Rattle.std.proofs.lemmas.Bool.{cases_lt}
use Rattle.std.proofs.lemmas.List.{append-nil}
use Rattle.std.proofs.lemmas.List.Elements.{filter_map-append}
use Rattle.std.proofs.lemmas.List.FromFn.{length-range_with_len}
use Rattle.std.specs.List.{filter_map, range_with_len}
use Rattle.std.specs.Prelude.{ℤ, true, slice_get}
use Rattle.cilk_meaning.specs.Instance.{Meaning}
use Rattle.cilk_meaning.specs.Serve.{now, after}
use Rattle.cilk_meaning.specs.Wants as wanted
use Rattle.cilk_meaning.specs.Wants.{Request, Want, Asks, Returns, Deposit, Answer, Value, Children, Done}
use Rattle.span_tree.specs.declared.act.Act.{Act}
use Rattle.span_tree.specs.declared.act.Act.TheVariants as act
use Rattle.span_tree.specs.declared.act.Place.{Place}
use Rattle.span_tree.specs.History.{History, act_at, row_at, serial_acts, spawned_by}
use Rattle.span_tree.specs.Program.{Block, HaveReturned, IsChild, IsAnswered, Read, Write, Add, Print, Spawn, Sync, IsQuiet, AloneRun, HasDepth, Main, Child, Starts, IsHistoryWith}
use Rattle.span_tree.proofs.Ways.{some_same, parent_of}
use Rattle.span_tree.proofs.Growing.{same_or}
use Rattle.elision_history.specs.Laws.{AnsweredAlike, AnswersDetermine}
use Rattle.elision_history.proofs.Growth.{is_there}
use Rattle.elision_history.proofs.Replay.{range_at, alone, Rest, Ends, Tick, Act', run_front, acts_from, under, under_is, one_row, same_history}
use Rattle.elision_history.proofs.Simulation.{one_depth, regroup}
use Rattle.span_tree.specs.Recording.{spawns_none}

-- wants are one thing
request_same : (a b : Request) → Some (Asks a) ≡ Some (Asks b) → a ≡ b
request_same a b e = cc

returns_same : (v u : ℤ) → Some (Returns v) ≡ Some (Returns u) → v ≡ u
returns_same v u e = cc

no_return : (request : Request) (v : ℤ) → Some (Asks request) ≡ Some (Returns v) → ⊥
no_return request v e = cc

abbrev IsTick : Request → Type 0
IsTick request = (request ≡ wanted.Call) ⊎ (request ≡ wanted.LoopTurn)

-- what is answered by an act is no tick
no_tick : {h : History} {returned : ℕ → Option ℤ} {place : Place} {request : Request} {made : Act} {answer : Answer} {block behind : Block} → IsAnswered h returned place request made answer block behind → IsTick request → ⊥
no_tick (Read word v block) (inl e) = cc
no_tick (Read word v block) (inr e) = cc
no_tick (Write word v block) (inl e) = cc
no_tick (Write word v block) (inr e) = cc
no_tick (Add word old addend block) (inl e) = cc
no_tick (Add word old addend block) (inr e) = cc
no_tick (Print v block) (inl e) = cc
no_tick (Print v block) (inr e) = cc
no_tick (Spawn target f vs c block child) (inl e) = cc
no_tick (Spawn target f vs c block child) (inr e) = cc
no_tick (Sync block ds have) (inl e) = cc
no_tick (Sync block ds have) (inr e) = cc

-- how often some acts spawn
abbrev spawns : List Act → ℕ
spawns acts = length (filter_map spawned_by acts)

spawns_append : (xs ys : List Act) → spawns (xs ++ ys) ≡ spawns xs + spawns ys
spawns_append xs ys = ap length (filter_map-append spawned_by xs ys) ∙ length-append (filter_map spawned_by xs) (filter_map spawned_by ys)

plain_spawns : (made : Act) → spawns_none made ≡ true → spawns (made ∷ []) ≡ 0
plain_spawns (act.Spawn child) e = absurd cc
plain_spawns (act.Read word value) e = refl
plain_spawns (act.Write word value) e = refl
plain_spawns (act.Add word old addend) e = refl
plain_spawns (act.Print value) e = refl
plain_spawns act.Sync e = refl

module _ (starts : Starts) (main : ℕ) (h1 h2 : History) (r1 r2 : ℕ → Option ℤ) (one : IsHistoryWith starts main h1 r1) (two : IsHistoryWith starts main h2 r2)
    (all1 : (row : ℕ) → row < length h1 → r1 row ≢ None) (all2 : (row : ℕ) → row < length h2 → r2 row ≢ None)
    (alike : (place : Place) → AnsweredAlike (act_at h1 place) (act_at h2 place)) where
  abbrev rest1 : List Act → List Act
  rest1 = acts_from (under h1 one.numbered)

  abbrev rest2 : List Act → List Act
  rest2 = acts_from (under h2 two.numbered)

  -- children of a block give the same
  abbrev Agree : Block → Type 0
  Agree [] = Unit {0}
  Agree (child ∷ block) = ((v u : ℤ) → r1 child.1 ≡ Some v → r2 child.1 ≡ Some u → v ≡ u) × Agree block

  agree_more : (block : Block) (target : Option ℕ) (c : ℕ) → Agree block → ((v u : ℤ) → r1 c ≡ Some v → r2 c ≡ Some u → v ≡ u) → Agree (block ++ (target, c) ∷ [])
  agree_more [] target c agree same = (same, tt)
  agree_more (child ∷ block) target c agree same = (agree.0, agree_more block target c agree.1 same)

  same_deposits : (block : Block) (ds es : List Deposit) → Agree block → HaveReturned r1 block ds → HaveReturned r2 block es → ds ≡ es
  same_deposits [] [] [] agree is is' = refl
  same_deposits [] [] (e ∷ es) agree is is' = absurd is'
  same_deposits [] (d ∷ ds) es agree is is' = absurd is
  same_deposits (c ∷ block) [] es agree is is' = absurd is
  same_deposits (c ∷ block) (d ∷ ds) [] agree is is' = absurd is'
  same_deposits (c ∷ block) (d ∷ ds) (e ∷ es) agree is is' =
      let targets : d.0 ≡ e.0 = sym is.0 ∙ is'.0 in
      let values : d.1 ≡ e.1 = agree.0 d.1 e.1 is.1 is'.1 in
      ap (λ x. (x, d.1) ∷ ds) targets ∙ ap (λ x. (e.0, x) ∷ ds) values ∙ ap (λ l. e ∷ l) (same_deposits block ds es agree.1 is.2 is'.2)

  -- a spawn on both sides
  record BothSpawn (place : Place) (made1 made2 : Act) (answer1 answer2 : Answer) (block1 behind1 behind2 : Block) : Type 0 where
    target : Option ℕ
    f : ℕ
    vs : List ℤ
    c : ℕ
    d : ℕ
    made1_is : made1 ≡ act.Spawn c
    made2_is : made2 ≡ act.Spawn d
    answers : answer1 ≡ answer2
    behind1_is : behind1 ≡ block1 ++ (target, c) ∷ []
    behind2_is : behind2 ≡ block1 ++ (target, d) ∷ []
    child1 : IsChild h1 c place f vs
    child2 : IsChild h2 d place f vs

  -- one act on both sides, or a spawn
  abbrev Both : Place → Act → Act → Answer → Answer → Block → Block → Block → Type 0
  Both place made1 made2 answer1 answer2 block1 behind1 behind2 =
      ((made1 ≡ made2) × (answer1 ≡ answer2) × (behind1 ≡ behind2) × (spawns_none made1 ≡ true) × Agree behind1) ⊎ BothSpawn place made1 made2 answer1 answer2 block1 behind1 behind2

  both : (place : Place) (q1 q2 : Request) (made1 made2 : Act) (answer1 answer2 : Answer) (block1 block2 behind1 behind2 : Block) → q1 ≡ q2 → block1 ≡ block2 → Agree block1 → AnsweredAlike (Some made1) (Some made2) →
      IsAnswered h1 r1 place q1 made1 answer1 block1 behind1 → IsAnswered h2 r2 place q2 made2 answer2 block2 behind2 → Both place made1 made2 answer1 answer2 block1 behind1 behind2
  both place _ _ _ _ _ _ _ _ _ _ e k agree same (Read word v block) (Read word' v' block') =
      let words : word ≡ word' = cc in
      let values : v ≡ v' = same words in
      inl (ap (λ w. act.Read w v) words ∙ ap (λ x. act.Read word' x) values, ap Value values, k, refl, agree)
  both place _ _ _ _ _ _ _ _ _ _ e k agree same (Read word v block) (Write word' v' block') = absurd cc
  both place _ _ _ _ _ _ _ _ _ _ e k agree same (Read word v block) (Add word' old' addend' block') = absurd cc
  both place _ _ _ _ _ _ _ _ _ _ e k agree same (Read word v block) (Print v' block') = absurd cc
  both place _ _ _ _ _ _ _ _ _ _ e k agree same (Read word v block) (Spawn target' f' vs' c' block' child') = absurd cc
  both place _ _ _ _ _ _ _ _ _ _ e k agree same (Read word v block) (Sync block' ds' have') = absurd cc
  both place _ _ _ _ _ _ _ _ _ _ e k agree same (Write word v block) (Read word' v' block') = absurd cc
  both place _ _ _ _ _ _ _ _ _ _ e k agree same (Write word v block) (Write word' v' block') =
      let words : word ≡ word' = cc in
      let values : v ≡ v' = cc in
      inl (ap (λ w. act.Write w v) words ∙ ap (λ x. act.Write word' x) values, refl, k, refl, agree)
  both place _ _ _ _ _ _ _ _ _ _ e k agree same (Write word v block) (Add word' old' addend' block') = absurd cc
  both place _ _ _ _ _ _ _ _ _ _ e k agree same (Write word v block) (Print v' block') = absurd cc
  both place _ _ _ _ _ _ _ _ _ _ e k agree same (Write word v block) (Spawn target' f' vs' c' block' child') = absurd cc
  both place _ _ _ _ _ _ _ _ _ _ e k agree same (Write word v block) (Sync block' ds' have') = absurd cc
  both place _ _ _ _ _ _ _ _ _ _ e k agree same (Add word old addend block) (Read word' v' block') = absurd cc
  both place _ _ _ _ _ _ _ _ _ _ e k agree same (Add word old addend block) (Write word' v' block') = absurd cc
  both place _ _ _ _ _ _ _ _ _ _ e k agree same (Add word old addend block) (Add word' old' addend' block') =
      let words : word ≡ word' = cc in
      let addends : addend ≡ addend' = cc in
      let olds : old ≡ old' = same words addends in
      inl (ap (λ w. act.Add w old addend) words ∙ ap (λ x. act.Add word' x addend) olds ∙ ap (λ x. act.Add word' old' x) addends, ap Value olds, k, refl, agree)
  both place _ _ _ _ _ _ _ _ _ _ e k agree same (Add word old addend block) (Print v' block') = absurd cc
  both place _ _ _ _ _ _ _ _ _ _ e k agree same (Add word old addend block) (Spawn target' f' vs' c' block' child') = absurd cc
  both place _ _ _ _ _ _ _ _ _ _ e k agree same (Add word old addend block) (Sync block' ds' have') = absurd cc
  both place _ _ _ _ _ _ _ _ _ _ e k agree same (Print v block) (Read word' v' block') = absurd cc
  both place _ _ _ _ _ _ _ _ _ _ e k agree same (Print v block) (Write word' v' block') = absurd cc
  both place _ _ _ _ _ _ _ _ _ _ e k agree same (Print v block) (Add word' old' addend' block') = absurd cc
  both place _ _ _ _ _ _ _ _ _ _ e k agree same (Print v block) (Print v' block') =
      let values : v ≡ v' = cc in
      inl (ap (λ x. act.Print x) values, refl, k, refl, agree)
  both place _ _ _ _ _ _ _ _ _ _ e k agree same (Print v block) (Spawn target' f' vs' c' block' child') = absurd cc
  both place _ _ _ _ _ _ _ _ _ _ e k agree same (Print v block) (Sync block' ds' have') = absurd cc
  both place _ _ _ _ _ _ _ _ _ _ e k agree same (Spawn target f vs c block child) (Read word' v' block') = absurd cc
  both place _ _ _ _ _ _ _ _ _ _ e k agree same (Spawn target f vs c block child) (Write word' v' block') = absurd cc
  both place _ _ _ _ _ _ _ _ _ _ e k agree same (Spawn target f vs c block child) (Add word' old' addend' block') = absurd cc
  both place _ _ _ _ _ _ _ _ _ _ e k agree same (Spawn target f vs c block child) (Print v' block') = absurd cc
  both place _ _ _ _ _ _ _ _ _ _ e k agree same (Spawn target f vs c block child) (Spawn target' f' vs' c' block' child') =
      let targets : target ≡ target' = cc in
      let procedures : f ≡ f' = cc in
      let arguments : vs ≡ vs' = cc in
      inr (record {
        target = target;
        f = f;
        vs = vs;
        c = c;
        d = c';
        made1_is = refl;
        made2_is = refl;
        answers = refl;
        behind1_is = refl;
        behind2_is = ap (λ b. b ++ (target', c') ∷ []) (sym k) ∙ ap (λ t. block ++ (t, c') ∷ []) (sym targets);
        child1 = child;
        child2 = subst (λ p. IsChild h2 c' place p vs) (sym procedures) (subst (λ a. IsChild h2 c' place f' a) (sym arguments) child');
      })
  both place _ _ _ _ _ _ _ _ _ _ e k agree same (Spawn target f vs c block child) (Sync block' ds' have') = absurd cc
  both place _ _ _ _ _ _ _ _ _ _ e k agree same (Sync block ds have) (Read word' v' block') = absurd cc
  both place _ _ _ _ _ _ _ _ _ _ e k agree same (Sync block ds have) (Write word' v' block') = absurd cc
  both place _ _ _ _ _ _ _ _ _ _ e k agree same (Sync block ds have) (Add word' old' addend' block') = absurd cc
  both place _ _ _ _ _ _ _ _ _ _ e k agree same (Sync block ds have) (Print v' block') = absurd cc
  both place _ _ _ _ _ _ _ _ _ _ e k agree same (Sync block ds have) (Spawn target' f' vs' c' block' child') = absurd cc
  both place _ _ _ _ _ _ _ _ _ _ e k agree same (Sync block ds have) (Sync block' ds' have') =
      inl (refl, ap Children (same_deposits block ds ds' agree have (subst (λ b. HaveReturned r2 b ds') (sym k) have')), refl, refl, tt)

  -- ---- two rows

  record Alike (A acts1 acts2 : List Act) (v1 v2 : ℤ) : Type 0 where
    acts : acts1 ≡ acts2
    value : v1 ≡ v2
    walk : rest1 acts1 ≡ rest2 acts2
    rows : (r : ℕ) → suc (spawns A) ≤ r → r < suc (spawns A + spawns (rest1 acts1)) → row_at h1 r ≡ row_at h2 r

  -- what is left of a row stands so in its history
  record Side (h : History) (rest : List Act → List Act) (q index : ℕ) (acts A back : List Act) : Type 0 where
    stands : (k : ℕ) → slice_get (row_at h q).acts (index + k) ≡ slice_get acts k
    whole : serial_acts h ≡ A ++ (rest acts ++ back)

  abbrev ChildTwins : ℕ → Type 0
  ChildTwins n = (c depth : ℕ) (A back1 back2 : List Act) (v1 v2 : ℤ) → length h1 ≤ n + c → c < length h1 → c < length h2 → HasDepth h1 c depth → HasDepth h2 c depth →
      (row_at h1 c).proc ≡ (row_at h2 c).proc → (row_at h1 c).args ≡ (row_at h2 c).args → r1 c ≡ Some v1 → r2 c ≡ Some v2 →
      serial_acts h1 ≡ A ++ (under h1 one.numbered c ++ back1) → serial_acts h2 ≡ A ++ (under h2 two.numbered c ++ back2) → Alike A (row_at h1 c).acts (row_at h2 c).acts v1 v2

  -- the first act that is left
  head_at : (h : History) (q index : ℕ) (acts : List Act) (made : Act) → ((k : ℕ) → slice_get (row_at h q).acts (index + k) ≡ slice_get (made ∷ acts) k) → act_at h (record { row = q; act = index }) ≡ Some made
  head_at h q index acts made stands = ap (λ n. slice_get (row_at h q).acts n) (let n : index ≡ index + 0 = omega arith in n) ∙ stands 0

  tail_at : (h : History) (q index : ℕ) (acts : List Act) (made : Act) → ((k : ℕ) → slice_get (row_at h q).acts (index + k) ≡ slice_get (made ∷ acts) k) → (k : ℕ) → slice_get (row_at h q).acts (suc index + k) ≡ slice_get acts k
  tail_at h q index acts made stands k = ap (λ n. slice_get (row_at h q).acts n) (let n : suc index + k ≡ index + suc k = omega arith in n) ∙ stands (suc k)

  some_value : (h : History) (r : ℕ → Option ℤ) → ((row : ℕ) → row < length h → r row ≢ None) → (q : ℕ) → q < length h → (v : ℤ) × (r q ≡ Some v)
  some_value h r all q lt = go (r q) refl
    where
      go : (o : Option ℤ) → r q ≡ o → (v : ℤ) × (r q ≡ Some v)
      go None e = absurd (all q lt e)
      go (Some v) e = (v, e)

  -- the next row's number, by the spawns so far
  number_of : (h : History) (starts' : Starts) (main' : ℕ) (r : ℕ → Option ℤ) (is : IsHistoryWith starts' main' h r) (A xs : List Act) (c : ℕ) → serial_acts h ≡ A ++ act.Spawn c ∷ xs → c ≡ suc (spawns A)
  number_of h starts' main' r is A xs c e =
      let order : 0 ∷ filter_map spawned_by A ++ c ∷ filter_map spawned_by xs ≡ range_with_len 0 (length h) =
      sym (ap (λ l. 0 ∷ l) (ap (filter_map spawned_by) e ∙ filter_map-append spawned_by A (act.Spawn c ∷ xs))) ∙ is.numbered.preorder in
      let at = range_at 0 (length h) (0 ∷ filter_map spawned_by A) (filter_map spawned_by xs) c order in
      omega (arith, at)

  module _ (n q depth : ℕ) (fin1 fin2 : Meaning) (v1 v2 : ℤ) (is1 : now fin1 ≡ Some (Returns v1)) (is2 : now fin2 ≡ Some (Returns v2)) (inside : q < length h1) (near : length h1 ≤ suc n + q)
      (deep1 : HasDepth h1 q depth) (deep2 : HasDepth h2 q depth) (children : ChildTwins n) where
    abbrev Twin : List Act → List Act → ℕ → Block → Block → Meaning → Meaning → Type 0
    Twin acts1 acts2 index block1 block2 goes1 goes2 = (A back1 back2 : List Act) → goes1 ≡ goes2 → block1 ≡ block2 → Agree block1 → Side h1 rest1 q index acts1 A back1 → Side h2 rest2 q index acts2 A back2 →
        Alike A acts1 acts2 v1 v2

    -- a spawn of both
    module _ (acts1 acts2 : List Act) (index c d : ℕ) (target : Option ℕ) (f : ℕ) (vs : List ℤ) (block1 : Block) (A back1 back2 : List Act) (child1 : IsChild h1 c (record { row = q; act = index }) f vs)
        (child2 : IsChild h2 d (record { row = q; act = index }) f vs) (side1 : Side h1 rest1 q index (act.Spawn c ∷ acts1) A back1) (side2 : Side h2 rest2 q index (act.Spawn d ∷ acts2) A back2) where
      abbrev under1 : List Act
      under1 = under h1 one.numbered c

      whole1 : serial_acts h1 ≡ A ++ act.Spawn c ∷ (under1 ++ (rest1 acts1 ++ back1))
      whole1 = side1.whole ∙ ap (λ l. A ++ act.Spawn c ∷ l) (append_assoc under1 (rest1 acts1) back1)

      whole2 : serial_acts h2 ≡ A ++ act.Spawn d ∷ (under h2 two.numbered d ++ (rest2 acts2 ++ back2))
      whole2 = side2.whole ∙ ap (λ l. A ++ act.Spawn d ∷ l) (append_assoc (under h2 two.numbered d) (rest2 acts2) back2)

      number1 : c ≡ suc (spawns A)
      number1 = number_of h1 starts main r1 one A (under1 ++ (rest1 acts1 ++ back1)) c whole1

      same_child : c ≡ d
      same_child = number1 ∙ sym (number_of h2 starts main r2 two A (under h2 two.numbered d ++ (rest2 acts2 ++ back2)) d whole2)

      child2' : IsChild h2 c (record { row = q; act = index }) f vs
      child2' = subst (λ x. IsChild h2 x (record { row = q; act = index }) f vs) (sym same_child) child2

      abbrev under2 : List Act
      under2 = under h2 two.numbered c

      whole2' : serial_acts h2 ≡ A ++ act.Spawn c ∷ (under2 ++ (rest2 acts2 ++ back2))
      whole2' = subst (λ x. serial_acts h2 ≡ A ++ act.Spawn x ∷ (under h2 two.numbered x ++ (rest2 acts2 ++ back2))) (sym same_child) whole2

      there1 : c < length h1
      there1 = is_there h1 c (record { row = q; act = index }) child1.named

      there2 : c < length h2
      there2 = is_there h2 c (record { row = q; act = index }) child2'.named

      after_q : q < c
      after_q = (parent_of h1 one.numbered c (record { row = q; act = index }) child1.named).before

      value1 : (v : ℤ) × (r1 c ≡ Some v)
      value1 = some_value h1 r1 all1 c there1

      value2 : (v : ℤ) × (r2 c ≡ Some v)
      value2 = some_value h2 r2 all2 c there2

      abbrev A1 : List Act
      A1 = A ++ act.Spawn c ∷ []

      child_alike : Alike A1 (row_at h1 c).acts (row_at h2 c).acts value1.0 value2.0
      child_alike =
          children c (suc depth) A1 (rest1 acts1 ++ back1) (rest2 acts2 ++ back2) value1.0 value2.0 (omega (arith, near, after_q)) there1 there2
          (Child c (record { row = q; act = index }) depth child1.named deep1) (Child c (record { row = q; act = index }) depth child2'.named deep2)
          (child1.procedure_is ∙ sym child2'.procedure_is) (child1.arguments_are ∙ sym child2'.arguments_are) value1.1 value2.1
          (whole1 ∙ sym (append_assoc A (act.Spawn c ∷ []) (under1 ++ (rest1 acts1 ++ back1)))) (whole2' ∙ sym (append_assoc A (act.Spawn c ∷ []) (under2 ++ (rest2 acts2 ++ back2))))

      same_under : under1 ≡ under2
      same_under = under_is h1 one.numbered c ∙ child_alike.walk ∙ sym (under_is h2 two.numbered c)

      same_child_row : row_at h1 c ≡ row_at h2 c
      same_child_row =
          one_row (row_at h1 c) (row_at h2 c) (child1.named ∙ sym child2'.named) (child1.procedure_is ∙ sym child2'.procedure_is) (child1.arguments_are ∙ sym child2'.arguments_are) child_alike.acts

      child_agrees : (v u : ℤ) → r1 c ≡ Some v → r2 c ≡ Some u → v ≡ u
      child_agrees v u e e' = some_same v value1.0 (sym e ∙ value1.1) ∙ child_alike.value ∙ some_same value2.0 u (sym value2.1 ∙ e')

      abbrev A2 : List Act
      A2 = A1 ++ under1

      next1 : Side h1 rest1 q (suc index) acts1 A2 back1
      next1 = record {
        stands = tail_at h1 q index acts1 (act.Spawn c) side1.stands;
        whole = whole1 ∙ sym (append_assoc A (act.Spawn c ∷ []) (under1 ++ (rest1 acts1 ++ back1))) ∙ sym (append_assoc A1 under1 (rest1 acts1 ++ back1));
      }

      next2 : Side h2 rest2 q (suc index) acts2 A2 back2
      next2 = record {
        stands = tail_at h2 q index acts2 (act.Spawn d) side2.stands;
        whole = whole2' ∙ sym (append_assoc A (act.Spawn c ∷ []) (under2 ++ (rest2 acts2 ++ back2))) ∙ ap (λ l. A1 ++ (l ++ (rest2 acts2 ++ back2))) (sym same_under) ∙ sym (append_assoc A1 under1 (rest2 acts2 ++ back2));
      }

      counts1 : spawns A1 ≡ suc (spawns A)
      counts1 = let more = spawns_append A (act.Spawn c ∷ []) in omega (arith, more)

      counts2 : spawns A2 ≡ suc (spawns A) + spawns under1
      counts2 = let more = spawns_append A1 under1 in omega (arith, more, counts1)

      spawned_alike : Alike A2 acts1 acts2 v1 v2 → Alike A (act.Spawn c ∷ acts1) (act.Spawn d ∷ acts2) v1 v2
      spawned_alike on = record {
        acts = ap (λ l. act.Spawn c ∷ l) on.acts ∙ ap (λ x. act.Spawn x ∷ acts2) same_child;
        value = on.value;
        walk = ap (λ l. act.Spawn c ∷ (l ++ rest1 acts1)) same_under ∙ ap (λ l. act.Spawn c ∷ (under2 ++ l)) on.walk ∙ ap (λ x. act.Spawn x ∷ (under h2 two.numbered x ++ rest2 acts2)) same_child;
        rows = rows;
      }
        where
          walk_spawns : spawns (rest1 (act.Spawn c ∷ acts1)) ≡ suc (spawns under1 + spawns (rest1 acts1))
          walk_spawns = ap suc (spawns_append under1 (rest1 acts1))

          child_spawns : spawns (rest1 (row_at h1 c).acts) ≡ spawns under1
          child_spawns = ap spawns (sym (under_is h1 one.numbered c))

          rows : (r : ℕ) → suc (spawns A) ≤ r → r < suc (spawns A + spawns (rest1 (act.Spawn c ∷ acts1))) → row_at h1 r ≡ row_at h2 r
          rows r le lt = go (cases_lt r (suc (spawns A2)))
            where
              child : (r ≡ c) ⊎ (r ≢ c) → r < suc (spawns A2) → row_at h1 r ≡ row_at h2 r
              child (inl same) less = subst (λ x. row_at h1 x ≡ row_at h2 x) (sym same) same_child_row
              child (inr ne) less = child_alike.rows r (omega (arith, le, ne, number1, counts1)) (omega (arith, less, counts1, counts2, child_spawns))

              go : (r < suc (spawns A2)) ⊎ (suc (spawns A2) ≤ r) → row_at h1 r ≡ row_at h2 r
              go (inl less) = child (same_or r c) less
              go (inr more) = on.rows r more (omega (arith, lt, counts2, walk_spawns))

    -- one act that spawns nothing
    plain_alike : (acts1 acts2 : List Act) (made1 made2 : Act) (A : List Act) → made1 ≡ made2 → spawns_none made1 ≡ true → Alike (A ++ made1 ∷ []) acts1 acts2 v1 v2 → Alike A (made1 ∷ acts1) (made2 ∷ acts2) v1 v2
    plain_alike acts1 acts2 made1 made2 A same plain on =
        let walk1 = alone (under h1 one.numbered) made1 acts1 plain in
        let walk2 = alone (under h2 two.numbered) made2 acts2 (ap spawns_none (sym same) ∙ plain) in
        let counts : spawns (A ++ made1 ∷ []) ≡ spawns A = (let more = spawns_append A (made1 ∷ []) in let none = plain_spawns made1 plain in omega (arith, more, none)) in
        let walks : spawns (rest1 (made1 ∷ acts1)) ≡ spawns (rest1 acts1) =
        ap spawns walk1 ∙ spawns_append (made1 ∷ []) (rest1 acts1) ∙ (let none = plain_spawns made1 plain in omega (arith, none)) in
        record {
          acts = ap (λ m. m ∷ acts1) same ∙ ap (λ l. made2 ∷ l) on.acts;
          value = on.value;
          walk = walk1 ∙ ap (λ m. m ∷ rest1 acts1) same ∙ ap (λ l. made2 ∷ l) on.walk ∙ sym walk2;
          rows = λ r le lt. on.rows r (omega (arith, le, counts)) (omega (arith, lt, counts, walks));
        }

    plain_side : (h : History) (under' : ℕ → List Act) (acts : List Act) (index : ℕ) (made : Act) (A back : List Act) → spawns_none made ≡ true → Side h (acts_from under') q index (made ∷ acts) A back →
        Side h (acts_from under') q (suc index) acts (A ++ made ∷ []) back
    plain_side h under' acts index made A back plain side = record {
      stands = tail_at h q index acts made side.stands;
      whole = regroup made A (acts_from under' acts) back (serial_acts h) (side.whole ∙ ap (λ l. A ++ (l ++ back)) (alone under' made acts plain));
    }

    both_on : (acts1 acts2 : List Act) (index : ℕ) (block1 block2 behind1 behind2 : Block) (goes1 goes2 : Meaning) (made1 made2 : Act) (answer1 answer2 : Answer) →
        Twin acts1 acts2 (suc index) behind1 behind2 (after goes1 answer1) (after goes2 answer2) → (A back1 back2 : List Act) → goes1 ≡ goes2 → Agree block1 → Side h1 rest1 q index (made1 ∷ acts1) A back1 →
        Side h2 rest2 q index (made2 ∷ acts2) A back2 → Both (record { row = q; act = index }) made1 made2 answer1 answer2 block1 behind1 behind2 → Alike A (made1 ∷ acts1) (made2 ∷ acts2) v1 v2
    both_on acts1 acts2 index block1 block2 behind1 behind2 goes1 goes2 made1 made2 answer1 answer2 twin A back1 back2 same agree side1 side2 (inl b) =
        let next : after goes1 answer1 ≡ after goes2 answer2 = ap (λ g. after g answer1) same ∙ ap (λ a. after goes2 a) b.1 in
        plain_alike acts1 acts2 made1 made2 A b.0 b.3
        (twin (A ++ made1 ∷ []) back1 back2 next b.2 b.4 (plain_side h1 (under h1 one.numbered) acts1 index made1 A back1 b.3 side1)
        (subst (λ m. Side h2 rest2 q (suc index) acts2 (A ++ m ∷ []) back2) (sym b.0) (plain_side h2 (under h2 two.numbered) acts2 index made2 A back2 (ap spawns_none (sym b.0) ∙ b.3) side2)))
    both_on acts1 acts2 index block1 block2 behind1 behind2 goes1 goes2 made1 made2 answer1 answer2 twin A back1 back2 same agree side1 side2 (inr b) =
        let s1 = subst (λ m. Side h1 rest1 q index (m ∷ acts1) A back1) b.made1_is side1 in
        let s2 = subst (λ m. Side h2 rest2 q index (m ∷ acts2) A back2) b.made2_is side2 in
        let next : after goes1 answer1 ≡ after goes2 answer2 = ap (λ g. after g answer1) same ∙ ap (λ a. after goes2 a) b.answers in
        let child = same_child acts1 acts2 index b.c b.d b.target b.f b.vs block1 A back1 back2 b.child1 b.child2 s1 s2 in
        let blocks : behind1 ≡ behind2 = b.behind1_is ∙ ap (λ x. block1 ++ (b.target, x) ∷ []) child ∙ sym b.behind2_is in
        let agree' : Agree behind1 = subst Agree (sym b.behind1_is) (agree_more block1 b.target b.c agree (child_agrees acts1 acts2 index b.c b.d b.target b.f b.vs block1 A back1 back2 b.child1 b.child2 s1 s2)) in
        subst (λ m. Alike A (m ∷ acts1) (made2 ∷ acts2) v1 v2) (sym b.made1_is) (subst (λ m. Alike A (act.Spawn b.c ∷ acts1) (m ∷ acts2) v1 v2) (sym b.made2_is)
        (spawned_alike acts1 acts2 index b.c b.d b.target b.f b.vs block1 A back1 back2 b.child1 b.child2 s1 s2
        (twin (A2 acts1 acts2 index b.c b.d b.target b.f b.vs block1 A back1 back2 b.child1 b.child2 s1 s2) back1 back2 next blocks agree'
        (next1 acts1 acts2 index b.c b.d b.target b.f b.vs block1 A back1 back2 b.child1 b.child2 s1 s2) (next2 acts1 acts2 index b.c b.d b.target b.f b.vs block1 A back1 back2 b.child1 b.child2 s1 s2))))

    quiet_now : (goes : Meaning) → IsQuiet goes → (request : Request) × IsTick request × (now goes ≡ Some (Asks request))
    quiet_now goes (inl e) = (wanted.Call, inl refl, e)
    quiet_now goes (inr e) = (wanted.LoopTurn, inr refl, e)

    no_quiet_act : (goes goes' : Meaning) (request : Request) → goes ≡ goes' → IsQuiet goes → now goes' ≡ Some (Asks request) → IsTick request
    no_quiet_act goes goes' request same quiet e =
        let t = quiet_now goes quiet in subst IsTick (request_same t.0 request (sym t.2 ∙ ap now same ∙ e)) t.1

    twins : (acts1 acts2 : List Act) (index : ℕ) (block1 block2 : Block) (goes1 goes2 : Meaning) → Rest h1 r1 q fin1 acts1 index block1 goes1 → Rest h2 r2 q fin2 acts2 index block2 goes2 → Twin acts1 acts2 index block1 block2 goes1 goes2
    twins _ _ _ _ _ _ _ (Ends index block) (Ends _ block') A back1 back2 same blocks agree side1 side2 = record {
      acts = refl;
      value = returns_same v1 v2 (sym is1 ∙ ap now same ∙ is2);
      walk = refl;
      rows = λ r le lt. absurd (omega (arith, le, lt));
    }
    twins _ _ _ _ _ _ goes2 (Ends index block) (Tick acts _ block' _ quiet rest) A back1 back2 same blocks agree side1 side2 =
        let t = quiet_now goes2 quiet in absurd (no_return t.0 v1 (sym t.2 ∙ sym (ap now same) ∙ is1))
    twins _ _ _ _ _ _ _ (Ends index block) (Act' acts _ block' behind goes2 request made answer is answered rest) A back1 back2 same blocks agree side1 side2 =
        absurd (no_return request v1 (sym is ∙ sym (ap now same) ∙ is1))
    twins _ _ _ _ _ goes1 _ (Tick acts index block _ quiet rest) (Ends _ block') A back1 back2 same blocks agree side1 side2 =
        let t = quiet_now goes1 quiet in absurd (no_return t.0 v2 (sym t.2 ∙ ap now same ∙ is2))
    twins _ _ _ _ _ _ _ (Tick acts1 index block1 goes1 quiet rest) (Tick acts2 _ block2 goes2 quiet' rest') A back1 back2 same blocks agree side1 side2 =
        twins acts1 acts2 index block1 block2 (after goes1 Done) (after goes2 Done) rest rest' A back1 back2 (ap (λ g. after g Done) same) blocks agree side1 side2
    twins _ _ _ _ _ _ _ (Tick acts1 index block1 goes1 quiet rest) (Act' acts2 _ block2 behind goes2 request made answer is answered rest') A back1 back2 same blocks agree side1 side2 =
        absurd (no_tick answered (no_quiet_act goes1 goes2 request same quiet is))
    twins _ _ _ _ _ _ _ (Act' acts1 index block1 behind goes1 request made answer is answered rest) (Ends _ block2) A back1 back2 same blocks agree side1 side2 =
        absurd (no_return request v2 (sym is ∙ ap now same ∙ is2))
    twins _ _ _ _ _ _ _ (Act' acts1 index block1 behind goes1 request made answer is answered rest) (Tick acts2 _ block2 goes2 quiet rest') A back1 back2 same blocks agree side1 side2 =
        absurd (no_tick answered (no_quiet_act goes2 goes1 request (sym same) quiet is))
    twins _ _ _ _ _ _ _ (Act' acts1 index block1 behind1 goes1 request1 made1 answer1 is answered1 rest) (Act' acts2 _ block2 behind2 goes2 request2 made2 answer2 is' answered2 rest') A back1 back2 same blocks agree side1 side2 =
        let place : Place = record { row = q; act = index } in
        let here : AnsweredAlike (Some made1) (Some made2) =
        subst (λ o. AnsweredAlike o (Some made2)) (head_at h1 q index acts1 made1 side1.stands) (subst (λ o. AnsweredAlike (act_at h1 place) o) (head_at h2 q index acts2 made2 side2.stands) (alike place)) in
        both_on acts1 acts2 index block1 block2 behind1 behind2 goes1 goes2 made1 made2 answer1 answer2
        (twins acts1 acts2 (suc index) behind1 behind2 (after goes1 answer1) (after goes2 answer2) rest rest') A back1 back2 same agree side1 side2
        (both place request1 request2 made1 made2 answer1 answer2 block1 block2 behind1 behind2 (request_same request1 request2 (sym is ∙ ap now same ∙ is')) blocks agree here answered1 answered2)

  -- ---- all rows

  front_of : (h : History) (r : ℕ → Option ℤ) (is : IsHistoryWith starts main h r) (c depth : ℕ) (inside : c < length h) → HasDepth h c depth →
      Rest h r c (is.rows c inside).goes (row_at h c).acts 0 [] (starts depth (row_at h c).proc (row_at h c).args)
  front_of h r is c depth inside deep =
      let row = is.rows c inside in
      let begin = starts depth (row_at h c).proc (row_at h c).args in
      let same : row.depth ≡ depth = one_depth h is.numbered.main c row.depth depth row.has_depth deep in
      let run = subst (λ d. AloneRun h r c (starts d (row_at h c).proc (row_at h c).args) (row_at h c).acts row.block row.goes) same row.alone_run in
      subst (λ l. Rest h r c row.goes l 0 [] begin) (append-nil (row_at h c).acts) (run_front h r c row.goes begin row.goes (row_at h c).acts [] row.block run (Ends (length (row_at h c).acts) row.block))

  zero_plus : (k : ℕ) → 0 + k ≡ k
  zero_plus k = omega arith

  row_twins : (n : ℕ) → ChildTwins n → ChildTwins (suc n)
  row_twins n children c depth A back1 back2 v1 v2 near inside1 inside2 deep1 deep2 procs args value1 value2 whole1 whole2 =
      twins n c depth (one.rows c inside1).goes (two.rows c inside2).goes v1 v2 ((one.rows c inside1).returns v1 value1) ((two.rows c inside2).returns v2 value2) inside1 near deep1 deep2 children
      (row_at h1 c).acts (row_at h2 c).acts 0 [] [] (starts depth (row_at h1 c).proc (row_at h1 c).args) (starts depth (row_at h2 c).proc (row_at h2 c).args)
      (front_of h1 r1 one c depth inside1 deep1) (front_of h2 r2 two c depth inside2 deep2) A back1 back2
      (ap (λ p. starts depth p (row_at h1 c).args) procs ∙ ap (λ a. starts depth (row_at h2 c).proc a) args) refl tt
      (record { stands = λ k. ap (λ m. slice_get (row_at h1 c).acts m) (zero_plus k); whole = whole1 ∙ ap (λ l. A ++ (l ++ back1)) (under_is h1 one.numbered c) })
      (record { stands = λ k. ap (λ m. slice_get (row_at h2 c).acts m) (zero_plus k); whole = whole2 ∙ ap (λ l. A ++ (l ++ back2)) (under_is h2 two.numbered c) })

  rows_twin : (n : ℕ) → ChildTwins n
  rows_twin zero = λ c depth A back1 back2 v1 v2 near inside1 inside2 deep1 deep2 procs args value1 value2 whole1 whole2. absurd (omega (arith, near, inside1))
  rows_twin (suc n) = row_twins n (rows_twin n)

  value_of_main1 : (v : ℤ) × (r1 0 ≡ Some v)
  value_of_main1 = some_value h1 r1 all1 0 one.numbered.some

  value_of_main2 : (v : ℤ) × (r2 0 ≡ Some v)
  value_of_main2 = some_value h2 r2 all2 0 two.numbered.some

  mains : Alike [] (row_at h1 0).acts (row_at h2 0).acts value_of_main1.0 value_of_main2.0
  mains =
      rows_twin (length h1) 0 0 [] [] [] value_of_main1.0 value_of_main2.0 (omega arith) one.numbered.some two.numbered.some Main Main
      (one.main_is ∙ sym two.main_is) (one.numbered.main_args ∙ sym two.numbered.main_args) value_of_main1.1 value_of_main2.1 (sym (append-nil (serial_acts h1))) (sym (append-nil (serial_acts h2)))

  same_serial : serial_acts h1 ≡ serial_acts h2
  same_serial = under_is h1 one.numbered 0 ∙ mains.walk ∙ sym (under_is h2 two.numbered 0)

  count : (h : History) (r : ℕ → Option ℤ) (is : IsHistoryWith starts main h r) → length h ≡ suc (spawns (serial_acts h))
  count h r is = sym (ap length is.numbered.preorder ∙ length-range_with_len 0 (length h))

  same_rows : (r : ℕ) → r < length h1 → row_at h1 r ≡ row_at h2 r
  same_rows r lt = go (same_or r 0)
    where
      go : (r ≡ 0) ⊎ (r ≢ 0) → row_at h1 r ≡ row_at h2 r
      go (inl same) = subst (λ x. row_at h1 x ≡ row_at h2 x) (sym same)
          (one_row (row_at h1 0) (row_at h2 0) (one.numbered.main ∙ sym two.numbered.main) (one.main_is ∙ sym two.main_is) (one.numbered.main_args ∙ sym two.numbered.main_args) mains.acts)
      go (inr ne) = let size = count h1 r1 one ∙ ap (λ l. suc (spawns l)) (under_is h1 one.numbered 0) in mains.rows r (omega (arith, ne)) (omega (arith, lt, size))

  pub twin_histories : h1 ≡ h2
  twin_histories = same_history h1 h2 (count h1 r1 one ∙ ap (λ l. suc (spawns l)) same_serial ∙ sym (count h2 r2 two)) same_rows

pub answers_determine : AnswersDetermine
answers_determine starts main history other complete complete' alike =
    twin_histories starts main history other complete.0 complete'.0 complete.1 complete'.1 complete.2 complete'.2 alike
