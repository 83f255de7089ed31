-- What holds of every frame anywhere in a cluster: on a stack, on a ready list, parked, or in a closure that travels.
use Rattle.std.proofs.Common.{◌≡◌, inl, inr, ℕ, ◌<◌, ℤ, List, [], ◌∷◌, ◌++◌, Option, Some, None, Bool, true, false, cond, eqb, refl, subst}
use Rattle.cilk_meaning.specs.Instance.{Meaning}
use Rattle.cilk_meaning.specs.Wants.{Deposit}
use Rattle.machine_code.specs.Machine.{Code, starts, wants}
use Rattle.page_messages.specs.declared.closure.FrameId.{FrameId}
use Rattle.page_messages.specs.declared.closure.Closure.{Closure}
use Rattle.page_messages.specs.declared.message.Msg.{Msg}
use Rattle.page_messages.specs.declared.message.Body.{Body}
use Rattle.page_messages.specs.declared.message.Body.TheVariants as body
use Rattle.page_messages.specs.declared.log.PostAt.{PostAt}
use Rattle.cluster_rules.specs.Turns.{Past, same_place}
use Rattle.cluster_rules.specs.Node.{Node}
use Rattle.cluster_rules.specs.Lives.{Life, main_id, returned, with_kept, live_from, live}
use Rattle.cluster_rules.specs.Frames.{Frames, Parked, is_complete, all_joined, still_parked, with_joined, frames_of}
use Rattle.cluster_rules.specs.Runs.{Cluster, node_at}
use Rattle.cluster_rules.specs.Positions.{Course, own}
use Rattle.cluster_rules.proofs.Letters.{Letter, without_letter, letters_of, Holds}

-- ---- what is said of frames

-- What is said of a frame, by its name and by what it wants for any further answers.
abbrev pub Saying : Type 1
Saying = FrameId → Meaning → Type 0

abbrev pub Each : Saying → List Life → Type 0
Each P [] = Unit {0}
Each P (life ∷ lives) = P life.id life.goes × Each P lives

abbrev pub OfClosure : Code → Saying → Closure → Type 0
OfClosure code P closure = P closure.id (wants code closure.frame.frame)

abbrev pub EachParked : Code → Saying → List Parked → Type 0
EachParked code P [] = Unit {0}
EachParked code P (first ∷ parked) = OfClosure code P first.closure × EachParked code P parked

-- of the frame that a message carries
abbrev pub OfBody : Code → Saying → Body → Type 0
OfBody code P (body.Fetch page) = Unit {0}
OfBody code P (body.Page page words) = Unit {0}
OfBody code P (body.Reconcile parts) = Unit {0}
OfBody code P body.Ack = Unit {0}
OfBody code P body.Ask = Unit {0}
OfBody code P (body.Grant closure) = OfClosure code P closure
OfBody code P body.Refuse = Unit {0}
OfBody code P (body.Done join index value) = Unit {0}
OfBody code P (body.Park join closure) = OfClosure code P closure
OfBody code P (body.Add frame index word addend) = Unit {0}
OfBody code P (body.Added old) = Unit {0}

abbrev pub EachLetter : Code → Saying → List Letter → Type 0
EachLetter code P [] = Unit {0}
EachLetter code P (letter ∷ letters) = OfBody code P letter.message.body × EachLetter code P letters

pub record InFrames (code : Code) (P : Saying) (frames : Frames) : Type 0 where
  pub stack : Each P frames.stack
  pub ready : Each P frames.ready
  pub parked : EachParked code P frames.parked

-- It holds of every frame of the nodes, and of those that travel.
pub record Everywhere (cluster : Cluster) (course : Course) (P : Saying) : Type 0 where
  pub at : (number : ℕ) → number < cluster.config.nodes → InFrames cluster.code P (frames_of (node_at cluster number) (own number course))
  pub letters : EachLetter cluster.code P (letters_of course)

-- ---- two things said together

abbrev pub Both : Saying → Saying → Saying → Type 0
Both P Q R = (id : FrameId) (goes : Meaning) → P id goes → Q id goes → R id goes

module _ (P Q R : Saying) (both : Both P Q R) where
  pub each_both : (lives : List Life) → Each P lives → Each Q lives → Each R lives
  each_both [] first second = tt
  each_both (life ∷ lives) first second = (both life.id life.goes first.0 second.0, each_both lives first.1 second.1)

  module _ (code : Code) where
    parked_both : (parked : List Parked) → EachParked code P parked → EachParked code Q parked → EachParked code R parked
    parked_both [] first second = tt
    parked_both (one ∷ parked) first second = (both one.closure.id (wants code one.closure.frame.frame) first.0 second.0, parked_both parked first.1 second.1)

    body_both : (said : Body) → OfBody code P said → OfBody code Q said → OfBody code R said
    body_both (body.Fetch page) first second = tt
    body_both (body.Page page words) first second = tt
    body_both (body.Reconcile parts) first second = tt
    body_both body.Ack first second = tt
    body_both body.Ask first second = tt
    body_both (body.Grant closure) first second = both closure.id (wants code closure.frame.frame) first second
    body_both body.Refuse first second = tt
    body_both (body.Done join index value) first second = tt
    body_both (body.Park join closure) first second = both closure.id (wants code closure.frame.frame) first second
    body_both (body.Add frame index word addend) first second = tt
    body_both (body.Added old) first second = tt

    pub letters_both : (letters : List Letter) → EachLetter code P letters → EachLetter code Q letters → EachLetter code R letters
    letters_both [] first second = tt
    letters_both (letter ∷ letters) first second = (body_both letter.message.body first.0 second.0, letters_both letters first.1 second.1)

    pub frames_both : (frames : Frames) → InFrames code P frames → InFrames code Q frames → InFrames code R frames
    frames_both frames first second = record {
      stack = each_both frames.stack first.stack second.stack;
      ready = each_both frames.ready first.ready second.ready;
      parked = parked_both frames.parked first.parked second.parked;
    }

  pub everywhere_both : (cluster : Cluster) (course : Course) → Everywhere cluster course P → Everywhere cluster course Q → Everywhere cluster course R
  everywhere_both cluster course first second = record {
    at = λ number less. frames_both cluster.code (frames_of (node_at cluster number) (own number course)) (first.at number less) (second.at number less);
    letters = letters_both cluster.code (letters_of course) first.letters second.letters;
  }

-- ---- frame by frame

-- it is said of this frame alone
abbrev pub If : FrameId → Saying → Saying
If frame P id goes = id ≡ frame → P id goes

module _ (P : Saying) where
  each_for : (lives : List Life) → ((frame : FrameId) → Each (If frame P) lives) → Each P lives
  each_for [] all = tt
  each_for (life ∷ lives) all = ((all life.id).0 refl, each_for lives (λ frame. (all frame).1))

  parked_for : (code : Code) (parked : List Parked) → ((frame : FrameId) → EachParked code (If frame P) parked) → EachParked code P parked
  parked_for code [] all = tt
  parked_for code (first ∷ parked) all = ((all first.closure.id).0 refl, parked_for code parked (λ frame. (all frame).1))

  body_for : (code : Code) (said : Body) → ((frame : FrameId) → OfBody code (If frame P) said) → OfBody code P said
  body_for code (body.Fetch page) all = tt
  body_for code (body.Page page words) all = tt
  body_for code (body.Reconcile parts) all = tt
  body_for code body.Ack all = tt
  body_for code body.Ask all = tt
  body_for code (body.Grant closure) all = all closure.id refl
  body_for code body.Refuse all = tt
  body_for code (body.Done join index value) all = tt
  body_for code (body.Park join closure) all = all closure.id refl
  body_for code (body.Add frame index word addend) all = tt
  body_for code (body.Added old) all = tt

  letters_for : (code : Code) (letters : List Letter) → ((frame : FrameId) → EachLetter code (If frame P) letters) → EachLetter code P letters
  letters_for code [] all = tt
  letters_for code (letter ∷ letters) all = (body_for code letter.message.body (λ frame. (all frame).0), letters_for code letters (λ frame. (all frame).1))

  -- What holds of each single frame holds of all.
  pub everywhere_for : (cluster : Cluster) (course : Course) → ((frame : FrameId) → Everywhere cluster course (If frame P)) → Everywhere cluster course P
  everywhere_for cluster course all = record {
    at = λ number less. (let here = frames_of (node_at cluster number) (own number course) in record {
      stack = each_for here.stack (λ frame. ((all frame).at number less).stack);
      ready = each_for here.ready (λ frame. ((all frame).at number less).ready);
      parked = parked_for cluster.code here.parked (λ frame. ((all frame).at number less).parked);
    });
    letters = letters_for cluster.code (letters_of course) (λ frame. (all frame).letters);
  }

  module _ (holds : (id : FrameId) (goes : Meaning) → P id goes) where
    pub each_always : (lives : List Life) → Each P lives
    each_always [] = tt
    each_always (life ∷ lives) = (holds life.id life.goes, each_always lives)

    pub parked_always : (code : Code) (parked : List Parked) → EachParked code P parked
    parked_always code [] = tt
    parked_always code (first ∷ parked) = (holds first.closure.id (wants code first.closure.frame.frame), parked_always code parked)

    pub body_always : (code : Code) (said : Body) → OfBody code P said
    body_always code (body.Fetch page) = tt
    body_always code (body.Page page words) = tt
    body_always code (body.Reconcile parts) = tt
    body_always code body.Ack = tt
    body_always code body.Ask = tt
    body_always code (body.Grant closure) = holds closure.id (wants code closure.frame.frame)
    body_always code body.Refuse = tt
    body_always code (body.Done join index value) = tt
    body_always code (body.Park join closure) = holds closure.id (wants code closure.frame.frame)
    body_always code (body.Add frame index word addend) = tt
    body_always code (body.Added old) = tt

    letters_always : (code : Code) (letters : List Letter) → EachLetter code P letters
    letters_always code [] = tt
    letters_always code (letter ∷ letters) = (body_always code letter.message.body, letters_always code letters)

    pub everywhere_always : (cluster : Cluster) (course : Course) → Everywhere cluster course P
    everywhere_always cluster course = record {
      at = λ number less. (let here = frames_of (node_at cluster number) (own number course) in
          record { stack = each_always here.stack; ready = each_always here.ready; parked = parked_always cluster.code here.parked });
      letters = letters_always cluster.code (letters_of course);
    }

-- ---- lists

module _ (P : Saying) where
  pub each_append : (front back : List Life) → Each P front → Each P back → Each P (front ++ back)
  each_append [] back first second = second
  each_append (life ∷ front) back first second = (first.0, each_append front back first.1 second)

  pub each_parts : (front back : List Life) → Each P (front ++ back) → Each P front × Each P back
  each_parts [] back all = (tt, all)
  each_parts (life ∷ front) back all = let rest = each_parts front back all.1 in ((all.0, rest.0), rest.1)

  pub parked_append : (code : Code) (front back : List Parked) → EachParked code P front → EachParked code P back → EachParked code P (front ++ back)
  parked_append code [] back first second = second
  parked_append code (one ∷ front) back first second = (first.0, parked_append code front back first.1 second)

  live_on : (deposits : List Deposit) (life : Life) (below : List Life) (value : Option ℤ) → Each P (life ∷ below)
      → ((given : List Deposit) → Each P (live_from given below))
      → Each P (elim value [ None ↦ with_kept deposits life ∷ below | Some it ↦ live_from ((life.spawned.target, it) ∷ []) below ])
  live_on deposits life below None all rest = all
  live_on deposits life below (Some it) all rest = rest ((life.spawned.target, it) ∷ [])

  live_from_each : (deposits : List Deposit) (stack : List Life) → Each P stack → Each P (live_from deposits stack)
  live_from_each deposits [] all = tt
  live_from_each deposits (life ∷ below) all = live_on deposits life below (returned life) all (λ given. live_from_each given below all.1)

  pub live_each : (stack : List Life) → Each P stack → Each P (live stack)
  live_each stack all = live_from_each [] stack all

  -- a frame that comes from its join wants what it wanted as it was parked
  joined_each : (node : Node) (past : Past) (parked : List Parked) → EachParked node.code P parked → Each P (all_joined node past parked)
  joined_each node past [] all = tt
  joined_each node past (first ∷ parked) all = on (is_complete past first) refl (joined_each node past parked all.1)
    where
      on : (b : Bool) → is_complete past first ≡ b → Each P (all_joined node past parked) → Each P (all_joined node past (first ∷ parked))
      on true is rest = rw is (all.0, rest)
      on false is rest = rw is rest

  still_each : (code : Code) (past : Past) (parked : List Parked) → EachParked code P parked → EachParked code P (still_parked past parked)
  still_each code past [] all = tt
  still_each code past (first ∷ parked) all = on (is_complete past first) refl (still_each code past parked all.1)
    where
      on : (b : Bool) → is_complete past first ≡ b → EachParked code P (still_parked past parked) → EachParked code P (still_parked past (first ∷ parked))
      on true is rest = rw is rest
      on false is rest = rw is (all.0, rest)

  pub with_joined_each : (node : Node) (past : Past) (frames : Frames) → InFrames node.code P frames → InFrames node.code P (with_joined node past frames)
  with_joined_each node past frames all = record {
    stack = all.stack;
    ready = each_append frames.ready (all_joined node past frames.parked) all.ready (joined_each node past frames.parked all.parked);
    parked = still_each node.code past frames.parked all.parked;
  }

  pub without_each : (code : Code) (place : PostAt) (letters : List Letter) → EachLetter code P letters → EachLetter code P (without_letter place letters)
  without_each code place [] all = tt
  without_each code place (letter ∷ letters) all = on (same_place letter.place place) (without_each code place letters all.1)
    where
      on : (b : Bool) → EachLetter code P (without_letter place letters) → EachLetter code P (cond b letters (letter ∷ without_letter place letters))
      on true rest = all.1
      on false rest = (all.0, rest)

  pub letter_of : (code : Code) (place : PostAt) (message : Msg) (letters : List Letter) → Holds place message letters → EachLetter code P letters
      → OfBody code P message.body
  letter_of code place message [] holds all = absurd holds
  letter_of code place message (letter ∷ letters) (inl both) all = subst (λ (it : Msg). OfBody code P it.body) both.1 all.0
  letter_of code place message (letter ∷ letters) (inr both) all = letter_of code place message letters both.1 all.1

-- At the start `main` alone is anywhere.
pub everywhere_first : (cluster : Cluster) (P : Saying) → P main_id (starts cluster.code 0 cluster.code.main []) → Everywhere cluster [] P
unfolding frames_of
everywhere_first cluster P main = record { at = λ number less. on number (eqb number 0) refl; letters = tt }
  where
    on : (number : ℕ) (b : Bool) → eqb number 0 ≡ b → InFrames cluster.code P (frames_of (node_at cluster number) [])
    on number true is = rw is (record { stack = (main, tt); ready = tt; parked = tt })
    on number false is = rw is (record { stack = tt; ready = tt; parked = tt })
