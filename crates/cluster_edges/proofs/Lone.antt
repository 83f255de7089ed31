-- A frame is in one place at most. So what holds of it on the stack of a node holds of it wherever it is.
use Rattle.std.proofs.Common.{◌≡◌, ◌≢◌, ◌⊎◌, inl, inr, ℕ, ◌+◌, ◌<◌, ◌≤◌, List, [], ◌∷◌, ◌++◌, sym, ◌∙◌, ap, subst, arith}
use Rattle.cilk_meaning.specs.Instance.{Meaning}
use Rattle.machine_code.specs.Machine.{Code, wants}
use Rattle.page_messages.specs.declared.closure.FrameId.{FrameId}
use Rattle.page_messages.specs.declared.message.Body.{Body}
use Rattle.page_messages.specs.declared.message.Body.TheVariants as body
use Rattle.cluster_rules.specs.Lives.{Life, same_frame}
use Rattle.cluster_rules.specs.Frames.{Frames, Parked, frames_of, stack_of}
use Rattle.cluster_rules.specs.Positions.{Course, own}
use Rattle.cluster_rules.specs.Runs.{Cluster, node_at}
use Rattle.cluster_rules.proofs.Stepping.{Stepped}
use Rattle.cluster_rules.proofs.Letters.{Letter, letters_of, amount_of}
use Rattle.cluster_rules.proofs.Summing.{sum_below, sum_one, sum_two, one_or_two}
use Rattle.cluster_rules.proofs.Marks.{one, many, named, marks, parked_marks, other_marks, marks_of, many_append, marks_append, same_self}
use Rattle.cluster_rules.proofs.Passing.{closure_marks}
use Rattle.cluster_rules.proofs.Holding.{at_node, in_message, held, held_once}
use Rattle.cluster_edges.proofs.Anywhere.{Saying, Each, EachParked, OfBody, EachLetter, InFrames, Everywhere, each_append}

module _ (frame : FrameId) (Q : Meaning → Type 0) where
  -- it is said of this frame alone
  abbrev pub Only : Saying
  Only id goes = id ≡ frame → Q goes

  -- it is not this frame
  not_it : (id : FrameId) (goes : Meaning) → one (same_frame id frame) ≡ 0 → Only id goes
  not_it id goes none = λ is. (let some : one (same_frame id frame) ≡ 1 =
      ap (λ it. one (same_frame it frame)) is ∙ ap one (same_self frame) in absurd (omega (arith, some, none)))

  pub none_each : (lives : List Life) → many (named frame) (marks lives) ≡ 0 → Each Only lives
  none_each [] none = tt
  none_each (life ∷ lives) none = (not_it life.id life.goes (omega (arith, none)), none_each lives (omega (arith, none)))

  pub none_parked : (code : Code) (parked : List Parked) → many (named frame) (parked_marks parked) ≡ 0 → EachParked code Only parked
  none_parked code [] none = tt
  none_parked code (first ∷ parked) none =
      (not_it first.closure.id (wants code first.closure.frame.frame) (omega (arith, none)), none_parked code parked (omega (arith, none)))

  none_body : (code : Code) (said : Body) → many (named frame) (closure_marks said) ≡ 0 → OfBody code Only said
  none_body code (body.Fetch page) none = tt
  none_body code (body.Page page words) none = tt
  none_body code (body.Reconcile parts) none = tt
  none_body code body.Ack none = tt
  none_body code body.Ask none = tt
  none_body code (body.Grant closure) none = not_it closure.id (wants code closure.frame.frame) (omega (arith, none))
  none_body code body.Refuse none = tt
  none_body code (body.Done join index value) none = tt
  none_body code (body.Park join closure) none = not_it closure.id (wants code closure.frame.frame) (omega (arith, none))
  none_body code (body.Add frame index word addend) none = tt
  none_body code (body.Added old) none = tt

  pub none_letters : (code : Code) (letters : List Letter) → amount_of (in_message (named frame)) letters ≡ 0 → EachLetter code Only letters
  none_letters code [] none = tt
  none_letters code (letter ∷ letters) none = (none_body code letter.message.body (omega (arith, none)), none_letters code letters (omega (arith, none)))

  pub none_frames : (code : Code) (frames : Frames) → many (named frame) (marks_of frames) ≡ 0 → InFrames code Only frames
  none_frames code frames none =
      let a = many_append (named frame) (marks frames.stack) (other_marks frames) in
      let b = many_append (named frame) (marks frames.ready) (parked_marks frames.parked) in
      record {
        stack = none_each frames.stack (omega (arith, a, none));
        ready = none_each frames.ready (omega (arith, a, b, none));
        parked = none_parked code frames.parked (omega (arith, a, b, none));
      }

  -- So it is of a frame that is nowhere.
  pub nowhere : (cluster : Cluster) (course : Course) → held cluster course frame ≡ 0 → Everywhere cluster course Only
  nowhere cluster course none = record {
    at = λ number less.
        let here = sum_one cluster.config.nodes (at_node cluster course (named frame)) number less in
        none_frames cluster.code (frames_of (node_at cluster number) (own number course)) (omega (arith, none, here));
    letters = none_letters cluster.code (letters_of course) (omega (arith, none));
  }

  its_mark : (life : Life) → life.id ≡ frame → one (same_frame life.id frame) ≡ 1
  its_mark life is = ap (λ it. one (same_frame it frame)) is ∙ ap one (same_self frame)

  -- it is on the stack of this node
  module _ (front back : List Life) (life : Life) (is : life.id ≡ frame) (holds : Q life.goes) where
    in_stack : many (named frame) (marks (front ++ life ∷ back)) ≡ many (named frame) (marks front) + (1 + many (named frame) (marks back))
    in_stack =
        let parts = ap (many (named frame)) (marks_append front (life ∷ back)) ∙ many_append (named frame) (marks front) (marks (life ∷ back)) in
        let mark = its_mark life is in omega (arith, parts, mark)

    stack_only : many (named frame) (marks (front ++ life ∷ back)) ≤ 1 → Each Only (front ++ life ∷ back)
    stack_only once =
        let count = in_stack in
        each_append Only front (life ∷ back) (none_each front (omega (arith, once, count))) (λ same. holds, none_each back (omega (arith, once, count)))

    frames_only : (code : Code) (frames : Frames) → frames.stack ≡ front ++ life ∷ back → many (named frame) (marks_of frames) ≤ 1 → InFrames code Only frames
    frames_only code frames parts once =
        let a = many_append (named frame) (marks frames.stack) (other_marks frames) in
        let b = many_append (named frame) (marks frames.ready) (parked_marks frames.parked) in
        let count : many (named frame) (marks frames.stack) ≡ many (named frame) (marks front) + (1 + many (named frame) (marks back)) =
        ap (λ it. many (named frame) (marks it)) parts ∙ in_stack in
        record {
          stack = subst (Each Only) (sym parts) (stack_only (subst (λ it. many (named frame) (marks it) ≤ 1) parts (omega (arith, a, once))));
          ready = none_each frames.ready (omega (arith, a, b, once, count));
          parked = none_parked code frames.parked (omega (arith, a, b, once, count));
        }

    pub at_least : (frames : Frames) → frames.stack ≡ front ++ life ∷ back → 1 ≤ many (named frame) (marks_of frames)
    at_least frames parts =
        let a = many_append (named frame) (marks frames.stack) (other_marks frames) in
        let count : many (named frame) (marks frames.stack) ≡ many (named frame) (marks front) + (1 + many (named frame) (marks back)) =
        ap (λ it. many (named frame) (marks it)) parts ∙ in_stack in
        omega (arith, a, count)

    -- What holds of the frame there holds of it anywhere.
    pub lone : (cluster : Cluster) (course : Course) → Stepped cluster course → (number : ℕ) → number < cluster.config.nodes
        → stack_of (node_at cluster number) (own number course) ≡ front ++ life ∷ back
        → Everywhere cluster course Only
    lone cluster course stepped number less parts = record {
      at = λ other below. on other below (one_or_two other number);
      letters = none_letters cluster.code (letters_of course) (omega (arith, once, here, within));
    }
      where
        once : held cluster course frame ≤ 1
        once = held_once cluster course stepped frame

        here : 1 ≤ at_node cluster course (named frame) number
        here = at_least (frames_of (node_at cluster number) (own number course)) parts

        within : at_node cluster course (named frame) number ≤ sum_below cluster.config.nodes (at_node cluster course (named frame))
        within = sum_one cluster.config.nodes (at_node cluster course (named frame)) number less

        on : (other : ℕ) → other < cluster.config.nodes → (other ≡ number) ⊎ (other ≢ number)
            → InFrames cluster.code Only (frames_of (node_at cluster other) (own other course))
        on other below (inl same) =
            subst (λ it. InFrames cluster.code Only (frames_of (node_at cluster it) (own it course))) (sym same)
            (frames_only cluster.code (frames_of (node_at cluster number) (own number course)) parts (omega (arith, once, within)))
        on other below (inr apart) =
            let both = sum_two cluster.config.nodes (at_node cluster course (named frame)) other number below less apart in
            none_frames cluster.code (frames_of (node_at cluster other) (own other course)) (omega (arith, once, here, both))
