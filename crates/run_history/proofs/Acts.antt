-- What a frame did in a course, as its row has it: its Spawn acts are the births of its children, each at its index.
use Rattle.std.proofs.Common.{◌≡◌, ◌⊎◌, inl, inr, ℕ, zero, suc, List, [], ◌∷◌, ◌++◌, Some, None, Bool, true, false, cond, length, refl, sym, ◌∙◌, ap, subst, length-append, arith}
use Rattle.std.specs.Prelude.{slice_get}
use Rattle.std.proofs.lemmas.List.Elements.{filter_map-append, Contains-append_cases}
use Rattle.std.specs.List.{Contains, filter_map, cons_option}
use Rattle.page_messages.specs.declared.closure.FrameId.{FrameId}
use Rattle.page_messages.specs.declared.log.LoggedAct.TheVariants as act
use Rattle.page_messages.specs.declared.log.Item.TheVariants as item
use Rattle.span_tree.specs.declared.act.Act.{Act}
use Rattle.span_tree.specs.declared.act.Act.TheVariants as row
use Rattle.span_tree.proofs.Growing.{get_last}
use Rattle.cluster_rules.specs.Lives.{same_frame}
use Rattle.cluster_rules.specs.Turns.{Event, Did, Sent, Took, Ended}
use Rattle.cluster_rules.specs.Positions.{Moved, Course}
use Rattle.cluster_rules.specs.Runs.{Cluster}
use Rattle.cluster_rules.specs.Histories.{Birth, act_in, act_of, row_number}
use Rattle.cluster_rules.proofs.Marks as marks
use Rattle.cluster_rules.proofs.Marks.{same_self, same_name}
use Rattle.cluster_rules.proofs.Stepping.{Stepped}
use Rattle.cluster_rules.proofs.Claiming.{acts_before, claims_event}
use Rattle.cluster_rules.proofs.Indexing.{index_is_count}
use Rattle.word_order.proofs.Items.{done_by, done_in}
use Rattle.run_history.proofs.Births.{born_in, Bears, BearsNone, bears, born_none, born_one}

module _ (frames : List FrameId) where
  -- the acts of a frame in a course
  abbrev pub acts_in : FrameId → Course → List Act
  acts_in frame course = filter_map (act_in frames frame) (done_in course)

  abbrev pub acts_by : FrameId → Event → List Act
  acts_by frame event = filter_map (act_in frames frame) (done_by event)

  pub acts_more : (frame : FrameId) (moved : Moved) (course : Course) → acts_in frame (moved ∷ course) ≡ acts_in frame course ++ acts_by frame moved.event
  acts_more frame moved course = filter_map-append (act_in frames frame) (done_in course) (done_by moved.event)

  -- ---- how many

  how_many : (frame : FrameId) (event : Event) → length (acts_by frame event) ≡ claims_event frame event
  how_many frame (Did (item.Act other index done)) = on (same_frame other frame)
    where
      on : (b : Bool) → length (cons_option (cond b (Some (act_of frames done)) None) []) ≡ marks.one b
      on true = refl
      on false = refl
  how_many frame (Did (item.Served other index word old addend)) = on (same_frame other frame)
    where
      on : (b : Bool) → length (cons_option (cond b (Some (row.Add word old addend)) None) []) ≡ marks.one b
      on true = refl
      on false = refl
  how_many frame (Did (item.Tick other)) = refl
  how_many frame (Did (item.Drop page)) = refl
  how_many frame (Did (item.TakeUp other)) = refl
  how_many frame (Did (item.OwnFetch page words)) = refl
  how_many frame (Did (item.OwnReconcile part)) = refl
  how_many frame (Sent message) = refl
  how_many frame (Took message) = refl
  how_many frame (Ended end) = refl

  pub acts_counted : (frame : FrameId) (course : Course) → length (acts_in frame course) ≡ acts_before frame course
  acts_counted frame [] = refl
  acts_counted frame (moved ∷ course) =
      let more = ap length (acts_more frame moved course) ∙ length-append (acts_in frame course) (acts_by frame moved.event) in
      let here = how_many frame moved.event in
      let rest = acts_counted frame course in
      omega (arith, more, here, rest)

  -- ---- a birth stands at its index

  born_act : (birth : Birth) (event : Event) → Bears birth event → acts_by birth.parent event ≡ row.Spawn (row_number frames birth.child) ∷ []
  born_act birth event is =
      ap (acts_by birth.parent) is ∙ ap (λ b. cons_option (cond b (Some (row.Spawn (row_number frames birth.child))) None) []) (same_self birth.parent)

  get_behind : (front back : List Act) (place : ℕ) (done : Act) → slice_get front place ≡ Some done → slice_get (front ++ back) place ≡ Some done
  get_behind [] back place done found = absurd cc
  get_behind (first ∷ front) back zero done found = found
  get_behind (first ∷ front) back (suc place) done found = get_behind front back place done found

  abbrev StandsBirth : Course → Birth → Type 0
  StandsBirth course birth = slice_get (acts_in birth.parent course) birth.index ≡ Some (row.Spawn (row_number frames birth.child))

  birth_later : (moved : Moved) (course : Course) (birth : Birth) → StandsBirth course birth → StandsBirth (moved ∷ course) birth
  birth_later moved course birth stands =
      subst (λ list. slice_get list birth.index ≡ Some (row.Spawn (row_number frames birth.child))) (sym (acts_more birth.parent moved course))
      (get_behind (acts_in birth.parent course) (acts_by birth.parent moved.event) birth.index (row.Spawn (row_number frames birth.child)) stands)

  only_one : (first one : Birth) → Contains (first ∷ []) one → first ≡ one
  only_one first one (zero, less, is) = is
  only_one first one (suc place, less, is) = absurd (omega (arith, less))

  pub birth_stands : (cluster : Cluster) (course : Course) → Stepped cluster course → (birth : Birth) → Contains (born_in course) birth
      → StandsBirth course birth
  birth_stands cluster [] stepped birth is = let less = is.1 in absurd (omega (arith, less))
  birth_stands cluster (moved ∷ course) stepped birth is = on (bears moved.event) (birth_stands cluster course stepped.0 birth)
    where
      on : BearsNone moved.event ⊎ ((born : Birth) × Bears born moved.event) → (Contains (born_in course) birth → StandsBirth course birth)
          → StandsBirth (moved ∷ course) birth
      on (inl none) rest = birth_later moved course birth (rest (subst (λ list. Contains list birth) (born_none moved course none.0) is))
      on (inr born) rest =
          elim (Contains-append_cases (born_in course) (born.0 ∷ []) birth (subst (λ list. Contains list birth) (born_one moved course born.0 born.1) is)) [
            | inl older ↦ birth_later moved course birth (rest older)
            | inr here ↦
                let same : born.0 ≡ birth = only_one born.0 birth here in
                let bearing : Bears birth moved.event = subst (λ it. Bears it moved.event) same born.1 in
                let done = item.Act birth.parent birth.index (act.Spawn birth.child birth.procedure birth.arguments) in
                let count = index_is_count cluster course moved stepped done bearing birth.parent birth.index (refl, refl) in
                let place : length (acts_in birth.parent course) ≡ birth.index = acts_counted birth.parent course ∙ sym count in
                let acts = acts_more birth.parent moved course ∙ ap (λ list. acts_in birth.parent course ++ list) (born_act birth moved.event bearing) in
                subst (λ list. slice_get list birth.index ≡ Some (row.Spawn (row_number frames birth.child))) (sym acts)
                (subst (λ it. slice_get (acts_in birth.parent course ++ row.Spawn (row_number frames birth.child) ∷ []) it
                ≡ Some (row.Spawn (row_number frames birth.child))) place
                (get_last (acts_in birth.parent course) (row.Spawn (row_number frames birth.child))))
          ]
