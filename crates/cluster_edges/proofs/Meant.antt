-- What a frame wants by the answers that its instance got, and the block of children that it has spawned by them.
use Rattle.std.proofs.Common.{◌≡◌, ℕ, zero, suc, ℤ, ◌≤◌, List, [], ◌∷◌, ◌++◌, append_assoc, length, length-append, take, drop, Option, Some, None, true, is_some, refl, sym, ◌∙◌, ap, subst, arith}
use Rattle.std.specs.List.{last_or}
use Rattle.std.proofs.lemmas.List.{append-nil}
use Rattle.cilk_meaning.specs.Alone.{Block, block_after, block_of}
use Rattle.cilk_meaning.specs.Instance as instance
use Rattle.cilk_meaning.specs.Instance.{Meaning, limits}
use Rattle.cilk_meaning.specs.Parted.{IsParted}
use Rattle.cilk_meaning.specs.Resolved.{Program}
use Rattle.cilk_meaning.specs.Serve.{first_of, rest_of, now, after}
use Rattle.cilk_meaning.specs.Wants.{Request, Want, Asks, Returns, Traps, Deposit, Answer, Value, Children, Done}
use Rattle.cilk_meaning.proofs.Wanting.{wants_are_kept, returns_synced}
use Rattle.machine_code.specs.Early.{at_sync}
use Rattle.cluster_rules.specs.Lives.{value_in}

-- ---- values for the next sync

pub none_at_sync : (answers : List Answer) → at_sync [] answers ≡ answers
none_at_sync [] = refl
none_at_sync (Value v ∷ answers) = ap (λ it. Value v ∷ it) (none_at_sync answers)
none_at_sync (Done ∷ answers) = ap (λ it. Done ∷ it) (none_at_sync answers)
none_at_sync (Children more ∷ answers) = refl

pub more_at_sync : (kept more : List Deposit) (answers : List Answer) → at_sync kept (at_sync more answers) ≡ at_sync (kept ++ more) answers
more_at_sync kept more [] = refl
more_at_sync kept more (Value v ∷ answers) = ap (λ it. Value v ∷ it) (more_at_sync kept more answers)
more_at_sync kept more (Done ∷ answers) = ap (λ it. Done ∷ it) (more_at_sync kept more answers)
more_at_sync kept more (Children rest ∷ answers) = ap (λ it. Children it ∷ answers) (sym (append_assoc kept more rest))

-- ---- lists of wants

take_bound : {A : Type 0} (count : ℕ) (list : List A) → length (take count list) ≤ count
take_bound zero list = omega arith
take_bound (suc count) [] = omega arith
take_bound (suc count) (item ∷ list) = let rest = take_bound count list in omega (arith, rest)

one_only : {A : Type 0} (list : List A) → length list ≤ 0 → list ≡ []
one_only [] less = refl
one_only (item ∷ list) less = absurd (omega (arith, less))

-- a list that is one longer at most, and has something behind
last_split : (count : ℕ) (list : List Want) (want : Want) → length list ≤ suc count → first_of (drop count list) ≡ Some want
    → list ≡ take count list ++ want ∷ []
last_split zero [] want less is = absurd (cc)
last_split zero (item ∷ list) want less is =
    let none : list ≡ [] = one_only list (omega (arith, less)) in
    let same : item ≡ want = cc in
    ap (λ it. item ∷ it) none ∙ ap (λ it. it ∷ []) same
last_split (suc count) [] want less is = absurd (cc)
last_split (suc count) (item ∷ list) want less is = ap (λ it. item ∷ it) (last_split count list want (omega (arith, less)) is)

pub rest_drop : (count : ℕ) (list : List Want) → rest_of (drop count list) ≡ drop (suc count) list
rest_drop zero [] = refl
rest_drop zero (item ∷ list) = refl
rest_drop (suc count) [] = refl
rest_drop (suc count) (item ∷ list) = rest_drop count list

last_is : (start : Option Want) (list : List Want) (want : Want) → last_or start (list ++ want ∷ []) ≡ Some want
last_is start [] want = refl
last_is start (item ∷ list) want = last_is (Some item) list want

block_asks : (block : Block) (list : List Want) (request : Request) → block_of block (list ++ Asks request ∷ []) ≡ block_after request (block_of block list)
block_asks block [] request = refl
block_asks block (Asks first ∷ list) request = block_asks (block_after first block) list request
block_asks block (Returns value ∷ list) request = block_asks block list request
block_asks block (Traps kind ∷ list) request = block_asks block list request

block_returns : (block : Block) (list : List Want) (value : ℤ) → block_of block (list ++ Returns value ∷ []) ≡ block_of block list
block_returns block [] value = refl
block_returns block (Asks first ∷ list) value = block_returns (block_after first block) list value
block_returns block (Returns other ∷ list) value = block_returns block list value
block_returns block (Traps kind ∷ list) value = block_returns block list value

-- ---- by answers

-- The frame wants what an instance wants behind these answers, where these values come with those of its next sync.
pub record Meant (begins : ℕ → ℕ → List ℤ → Meaning) (goes : Meaning) : Type 0 where
  pub depth : ℕ
  pub procedure : ℕ
  pub arguments : List ℤ
  pub answers : List Answer
  pub deposits : List Deposit
  pub is : (rest : List Answer) → goes rest ≡ drop (length answers) (begins depth procedure arguments (answers ++ at_sync deposits rest))

module _ (begins : ℕ → ℕ → List ℤ → Meaning) where
  -- the wants that were answered
  abbrev pub answered_wants : (goes : Meaning) → Meant begins goes → List Want
  answered_wants goes meant = take (length meant.answers) (begins meant.depth meant.procedure meant.arguments meant.answers)

  -- the targets of the children that it has spawned since its last sync
  abbrev pub block_so : (goes : Meaning) → Meant begins goes → Block
  block_so goes meant = block_of [] (answered_wants goes meant)

  pub meant_first : (depth procedure : ℕ) (arguments : List ℤ)
      → (meant : Meant begins (begins depth procedure arguments)) × (block_so (begins depth procedure arguments) meant ≡ [])
  meant_first depth procedure arguments = (
    record {
      depth = depth;
      procedure = procedure;
      arguments = arguments;
      answers = [];
      deposits = [];
      is = λ rest. ap (begins depth procedure arguments) (sym (none_at_sync rest));
    },
    refl,
  )

  pub meant_closed : (goes other : Meaning) (kept : List Deposit) (meant : Meant begins goes)
      → ((answers : List Answer) → other answers ≡ goes (at_sync kept answers))
      → (closed : Meant begins other) × (block_so other closed ≡ block_so goes meant)
  meant_closed goes other kept meant equal = (
    record {
      depth = meant.depth;
      procedure = meant.procedure;
      arguments = meant.arguments;
      answers = meant.answers;
      deposits = meant.deposits ++ kept;
      is = λ rest. equal rest ∙ meant.is (at_sync kept rest)
          ∙ ap (λ it. drop (length meant.answers) (begins meant.depth meant.procedure meant.arguments (meant.answers ++ it)))
          (more_at_sync meant.deposits kept rest);
    },
    refl,
  )

  -- what an answer is for the instance, and what is left of the values for its next sync
  abbrev given : List Deposit → Answer → Answer
  given deposits (Value v) = Value v
  given deposits Done = Done
  given deposits (Children more) = Children (deposits ++ more)

  abbrev left : List Deposit → Answer → List Deposit
  left deposits (Value v) = deposits
  left deposits Done = deposits
  left deposits (Children more) = []

  given_first : (deposits : List Deposit) (answer : Answer) (rest : List Answer)
      → at_sync deposits (answer ∷ rest) ≡ given deposits answer ∷ at_sync (left deposits answer) rest
  given_first deposits (Value v) rest = refl
  given_first deposits Done rest = refl
  given_first deposits (Children more) rest = ap (λ it. Children (deposits ++ more) ∷ it) (sym (none_at_sync rest))

  one_more : (answers : List Answer) (answer : Answer) → length (answers ++ answer ∷ []) ≡ suc (length answers)
  one_more answers answer = let sum = length-append answers (answer ∷ []) in omega (arith, sum)

  module _ (steady : (depth procedure : ℕ) (arguments : List ℤ) (answers more : List Answer) →
      take (suc (length answers)) (begins depth procedure arguments (answers ++ more)) ≡ begins depth procedure arguments answers) where
    bounded : (depth procedure : ℕ) (arguments : List ℤ) (answers : List Answer) → length (begins depth procedure arguments answers) ≤ suc (length answers)
    bounded depth procedure arguments answers =
        subst (λ it. length it ≤ suc (length answers)) (steady depth procedure arguments answers [])
        (take_bound (suc (length answers)) (begins depth procedure arguments (answers ++ [])))

    -- the want that is not answered stands behind those that were
    wants_so : (goes : Meaning) (meant : Meant begins goes) (want : Want) → now goes ≡ Some want
        → begins meant.depth meant.procedure meant.arguments meant.answers ≡ answered_wants goes meant ++ want ∷ []
    wants_so goes meant want wants =
        let all = begins meant.depth meant.procedure meant.arguments in
        let here : goes [] ≡ drop (length meant.answers) (all meant.answers) =
        meant.is [] ∙ ap (λ it. drop (length meant.answers) (all it)) (append-nil meant.answers) in
        last_split (length meant.answers) (all meant.answers) want (bounded meant.depth meant.procedure meant.arguments meant.answers)
        (ap first_of (sym here) ∙ wants)

    pub meant_answered : (goes : Meaning) (meant : Meant begins goes) (request : Request) (answer : Answer) → now goes ≡ Some (Asks request)
        → (behind : Meant begins (after goes answer)) × (block_so (after goes answer) behind ≡ block_after request (block_so goes meant))
    meant_answered goes meant request answer wants = (
      record {
        depth = meant.depth;
        procedure = meant.procedure;
        arguments = meant.arguments;
        answers = more;
        deposits = left meant.deposits answer;
        is = λ rest.
            ap rest_of (meant.is (answer ∷ rest)) ∙ rest_drop (length meant.answers) (all (meant.answers ++ at_sync meant.deposits (answer ∷ rest)))
            ∙ ap (λ it. drop (suc (length meant.answers)) (all (meant.answers ++ it))) (given_first meant.deposits answer rest)
            ∙ ap (λ it. drop (suc (length meant.answers)) (all it))
            (sym (append_assoc meant.answers (given meant.deposits answer ∷ []) (at_sync (left meant.deposits answer) rest)))
            ∙ ap (λ it. drop it (all (more ++ at_sync (left meant.deposits answer) rest))) (sym (one_more meant.answers (given meant.deposits answer)));
      },
      ap (λ it. block_of [] (take it (all more))) (one_more meant.answers (given meant.deposits answer))
          ∙ ap (block_of []) (steady meant.depth meant.procedure meant.arguments meant.answers (given meant.deposits answer ∷ []))
          ∙ ap (block_of []) (wants_so goes meant (Asks request) wants) ∙ block_asks [] (answered_wants goes meant) request,
    )
      where
        all : Meaning
        all = begins meant.depth meant.procedure meant.arguments

        more : List Answer
        more = meant.answers ++ given meant.deposits answer ∷ []

    -- where it returns, the last of the wants is that
    pub returns_last : (goes : Meaning) (meant : Meant begins goes) (value : ℤ) → now goes ≡ Some (Returns value)
        → (last_or None (begins meant.depth meant.procedure meant.arguments meant.answers) ≡ Some (Returns value))
        × (block_of [] (begins meant.depth meant.procedure meant.arguments meant.answers) ≡ block_so goes meant)
    returns_last goes meant value wants =
        let parts = wants_so goes meant (Returns value) wants in (
          ap (last_or None) parts ∙ last_is None (answered_wants goes meant) (Returns value),
          ap (block_of []) parts ∙ block_returns [] (answered_wants goes meant) value,
        )

-- ---- of a program

module _ (program : Program) where
  abbrev pub wants : ℕ → ℕ → List ℤ → Meaning
  wants = instance.wants program

  pub steady_wants : (depth procedure : ℕ) (arguments : List ℤ) (answers more : List Answer)
      → take (suc (length answers)) (wants depth procedure arguments (answers ++ more)) ≡ wants depth procedure arguments answers
  steady_wants depth procedure arguments answers more = wants_are_kept limits program depth procedure arguments answers more

  returned_value : (want : Option Want) → is_some (value_in want) ≡ true → (value : ℤ) × (want ≡ Some (Returns value))
  returned_value None is = absurd (cc)
  returned_value (Some (Asks request)) is = absurd (cc)
  returned_value (Some (Returns value)) is = (value, refl)
  returned_value (Some (Traps kind)) is = absurd (cc)

  -- A frame that has returned has spawned nothing since its last sync.
  pub returned_block : IsParted program → (goes : Meaning) (meant : Meant wants goes) → is_some (value_in (now goes)) ≡ true → block_so wants goes meant ≡ []
  returned_block parted goes meant is =
      let value = returned_value (now goes) is in
      let last = returns_last wants steady_wants goes meant value.0 value.1 in
      sym last.1 ∙ returns_synced program parted meant.depth meant.procedure meant.arguments meant.answers value.0 last.0
