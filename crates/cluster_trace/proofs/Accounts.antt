-- The account of a frame somewhere in a cluster: which children of its block have given back what is in the frame, which have given what is
-- kept for its Sync, and which are out. So it wants what its instance in the execution does, where the former is given at the next Sync.
use Rattle.std.proofs.Common.{◌≡◌, ℕ, suc, ℤ, List, [], ◌∷◌, ◌++◌, append_assoc, map, Some, true, false, refl, sym, ◌∙◌, ap, subst}
use Rattle.std.proofs.lemmas.List.{append-nil, map-append}
use Rattle.std.specs.List.Sorted.{IsPermutation}
use Rattle.std.proofs.lemmas.List.Sorted.{IsPermutation-to_front, IsPermutation-append_right, IsPermutation-cons, IsPermutation-middle, IsPermutation-trans}
use Rattle.cilk_meaning.specs.Instance.{Meaning}
use Rattle.cilk_meaning.specs.Resolved.{Program}
use Rattle.cilk_meaning.specs.Serve.{after, rest_of}
use Rattle.cilk_meaning.specs.Wants.{Returns, Deposit, Answer, Done}
use Rattle.machine_code.specs.Early.{at_sync}
use Rattle.machine_code.specs.Machine.{starts}
use Rattle.machine_code.specs.StandsFor.{StandsFor}
use Rattle.page_messages.specs.declared.closure.FrameId.{FrameId}
use Rattle.cluster_rules.specs.Runs.{Cluster}
use Rattle.cluster_edges.proofs.Meant.{more_at_sync}
use Rattle.determinacy.specs.Replies as replies
use Rattle.determinacy.specs.Replies.{Trace, by, children, children_after, reply_to, answer_of, state_at, want_at, Answers}
use Rattle.cluster_trace.proofs.Blocks.{given_at, state_same, state_next, children_same, children_next, returned_stays}

module _ (cluster : Cluster) (program : Program) (stands : StandsFor cluster.code program) (trace : Trace) where
  abbrev begins : ℕ → ℕ → List ℤ → Meaning
  begins = starts cluster.code

  -- what a child gives back
  abbrev pub gift : ℕ → FrameId → Deposit
  gift at child = (trace.target child, replies.value_in (want_at begins trace at child))

  abbrev pub gifts : ℕ → List FrameId → List Deposit
  gifts at kids = map (gift at) kids

  abbrev pub Returned : ℕ → FrameId → Type 0
  Returned at child = (value : ℤ) × (want_at begins trace at child ≡ Some (Returns value))

  abbrev pub AllReturned : ℕ → List FrameId → Type 0
  AllReturned at [] = Unit {0}
  AllReturned at (child ∷ kids) = Returned at child × AllReturned at kids

  pub returned_append : (at : ℕ) (front back : List FrameId) → AllReturned at front → AllReturned at back → AllReturned at (front ++ back)
  returned_append at [] back one two = two
  returned_append at (child ∷ front) back one two = (one.0, returned_append at front back one.1 two)

  -- The frame wants what its instance does, where its next Sync gets besides what those inside gave. The others have given what is kept.
  -- These have returned, and with those above it on the stack and those that are gone to other nodes they are the children of its block.
  pub record Account (at : ℕ) (id : FrameId) (goes : Meaning) (kept : List Deposit) (above gone : List FrameId) : Type 0 where
    pub inside : List FrameId
    pub giving : List FrameId
    pub goes_is : (rest : List Answer) → goes rest ≡ state_at begins trace at id (at_sync (gifts at inside) rest)
    pub kept_is : kept ≡ gifts at giving
    pub inside_so : AllReturned at inside
    pub giving_so : AllReturned at giving
    pub all : IsPermutation ((inside ++ giving) ++ (above ++ gone)) (children trace.events at id)

  -- ---- at one position

  -- a child above has returned, and gives its value
  pub account_given : (at : ℕ) (id : FrameId) (goes : Meaning) (kept : List Deposit) (gone : List FrameId) (child : FrameId) → Returned at child
      → Account at id goes kept (child ∷ []) gone → Account at id goes (kept ++ gift at child ∷ []) [] gone
  account_given at id goes kept gone child returned it = record {
    inside = it.inside;
    giving = it.giving ++ child ∷ [];
    goes_is = it.goes_is;
    kept_is = ap (λ given. given ++ gift at child ∷ []) it.kept_is ∙ sym (map-append (gift at) it.giving (child ∷ []));
    inside_so = it.inside_so;
    giving_so = returned_append at it.giving (child ∷ []) it.giving_so (returned, tt);
    all = subst (λ list. IsPermutation list (children trace.events at id)) moves it.all;
  }
    where
      moves : (it.inside ++ it.giving) ++ ((child ∷ []) ++ gone) ≡ (it.inside ++ (it.giving ++ child ∷ [])) ++ ([] ++ gone)
      moves = sym (append_assoc (it.inside ++ it.giving) (child ∷ []) gone) ∙ ap (λ list. list ++ gone) (append_assoc it.inside it.giving (child ∷ []))

  -- the child above is separated from it
  pub account_away : (at : ℕ) (id : FrameId) (goes : Meaning) (kept : List Deposit) (gone : List FrameId) (child : FrameId)
      → Account at id goes kept (child ∷ []) gone → Account at id goes kept [] (gone ++ child ∷ [])
  account_away at id goes kept gone child it = record {
    inside = it.inside;
    giving = it.giving;
    goes_is = it.goes_is;
    kept_is = it.kept_is;
    inside_so = it.inside_so;
    giving_so = it.giving_so;
    all =
        IsPermutation-trans ((it.inside ++ it.giving) ++ (gone ++ child ∷ [])) ((it.inside ++ it.giving) ++ (child ∷ gone)) (children trace.events at id)
        (IsPermutation-append_right (it.inside ++ it.giving) (gone ++ child ∷ []) (child ∷ gone) (IsPermutation-to_front gone child)) it.all;
  }

  -- it goes into a closure, with what is kept for it
  pub account_closed : (at : ℕ) (id : FrameId) (goes other : Meaning) (kept : List Deposit) (above gone : List FrameId)
      → ((answers : List Answer) → other answers ≡ goes (at_sync kept answers)) → Account at id goes kept above gone → Account at id other [] above gone
  account_closed at id goes other kept above gone equal it = record {
    inside = it.inside ++ it.giving;
    giving = [];
    goes_is = λ rest.
        equal rest ∙ it.goes_is (at_sync kept rest) ∙ ap (state_at begins trace at id) (more_at_sync (gifts at it.inside) kept rest)
        ∙ ap (λ given. state_at begins trace at id (at_sync given rest))
        (ap (λ given. gifts at it.inside ++ given) it.kept_is ∙ sym (map-append (gift at) it.inside it.giving));
    kept_is = refl;
    inside_so = returned_append at it.inside it.giving it.inside_so it.giving_so;
    giving_so = tt;
    all = subst (λ list. IsPermutation (list ++ (above ++ gone)) (children trace.events at id)) (sym (append-nil (it.inside ++ it.giving))) it.all;
  }

  none_giving : (at : ℕ) (kids : List FrameId) → [] ≡ gifts at kids → kids ≡ []
  none_giving at [] is = refl
  none_giving at (child ∷ kids) is = absurd (cc)

  -- those that are gone have all told their values to its join
  pub account_joined : (at : ℕ) (id : FrameId) (goes : Meaning) (gone : List FrameId) → AllReturned at gone → Account at id goes [] [] gone
      → Account at id goes (gifts at gone) [] []
  account_joined at id goes gone returned it = record {
    inside = it.inside;
    giving = gone;
    goes_is = it.goes_is;
    kept_is = refl;
    inside_so = it.inside_so;
    giving_so = returned;
    all = subst (λ list. IsPermutation list (children trace.events at id)) moves it.all;
  }
    where
      moves : (it.inside ++ it.giving) ++ ([] ++ gone) ≡ (it.inside ++ gone) ++ ([] ++ [])
      moves =
          ap (λ kids. (it.inside ++ kids) ++ gone) (none_giving at it.giving it.kept_is) ∙ ap (λ list. list ++ gone) (append-nil it.inside)
          ∙ sym (append-nil (it.inside ++ gone))

  -- ---- one event more

  module _ (at : ℕ) (wants : (frame : FrameId) → by frame (trace.events at) ≡ true → Answers trace (trace.events at) (want_at begins trace at frame)) where
    abbrev returned_next : (child : FrameId) → Returned at child → Returned (suc at) child
    returned_next child returned = (returned.0, returned_stays cluster program stands trace at wants child returned.0 returned.1)

    pub all_returned_next : (kids : List FrameId) → AllReturned at kids → AllReturned (suc at) kids
    all_returned_next [] returned = tt
    all_returned_next (child ∷ kids) returned = (returned_next child returned.0, all_returned_next kids returned.1)

    gifts_next : (kids : List FrameId) → AllReturned at kids → gifts at kids ≡ gifts (suc at) kids
    gifts_next [] returned = refl
    gifts_next (child ∷ kids) returned =
        let same : want_at begins trace at child ≡ want_at begins trace (suc at) child = returned.0.1 ∙ sym (returned_next child returned.0).1 in
        ap (λ (want : _). (trace.target child, replies.value_in want) ∷ gifts at kids) same
        ∙ ap (λ rest. gift (suc at) child ∷ rest) (gifts_next kids returned.1)

    -- the account of a frame that has no item there
    pub account_same : (id : FrameId) (goes : Meaning) (kept : List Deposit) (above gone : List FrameId) → by id (trace.events at) ≡ false
        → Account at id goes kept above gone → Account (suc at) id goes kept above gone
    account_same id goes kept above gone other it = record {
      inside = it.inside;
      giving = it.giving;
      goes_is = λ rest.
          it.goes_is rest ∙ ap (λ given. state_at begins trace at id (at_sync given rest)) (gifts_next it.inside it.inside_so)
          ∙ ap (λ (state : Meaning). state (at_sync (gifts (suc at) it.inside) rest)) (sym (state_same cluster program stands trace at id other));
      kept_is = it.kept_is ∙ gifts_next it.giving it.giving_so;
      inside_so = all_returned_next it.inside it.inside_so;
      giving_so = all_returned_next it.giving it.giving_so;
      all = subst (IsPermutation ((it.inside ++ it.giving) ++ (above ++ gone))) (sym (children_same cluster program stands trace at id other)) it.all;
    }

    -- an item that is answered at once, by no children
    abbrev Plain : Answer → Type 0
    Plain answer = (given : List Deposit) (rest : List Answer) → at_sync given (answer ∷ rest) ≡ answer ∷ at_sync given rest

    done_plain : Plain Done
    done_plain = λ given rest. refl

    -- what it wants behind an item
    goes_next : (id : FrameId) (goes : Meaning) (answer : Answer) → by id (trace.events at) ≡ true
        → answer_of (reply_to (trace.events at) (given_at cluster program stands trace at id)) ≡ answer → Plain answer → (inside : List FrameId)
        → AllReturned at inside
        → ((rest : List Answer) → goes rest ≡ state_at begins trace at id (at_sync (gifts at inside) rest)) → (rest : List Answer)
        → after goes answer rest ≡ state_at begins trace (suc at) id (at_sync (gifts (suc at) inside) rest)
    goes_next id goes answer acts tells plain inside returned is rest =
        ap rest_of (is (answer ∷ rest) ∙ ap (state_at begins trace at id) (plain (gifts at inside) rest))
        ∙ ap (λ told. after (state_at begins trace at id) told (at_sync (gifts at inside) rest)) (sym tells)
        ∙ ap (λ (state : Meaning). state (at_sync (gifts at inside) rest)) (sym (state_next cluster program stands trace at id acts))
        ∙ ap (λ given. state_at begins trace (suc at) id (at_sync given rest)) (gifts_next inside returned)

    -- behind an item that has this answer, and leaves the children of its block
    pub account_item : (id : FrameId) (goes : Meaning) (kept : List Deposit) (above gone : List FrameId) (answer : Answer) → by id (trace.events at) ≡ true
        → answer_of (reply_to (trace.events at) (given_at cluster program stands trace at id)) ≡ answer → Plain answer
        → children_after (trace.events at) (children trace.events at id) ≡ children trace.events at id
        → Account at id goes kept above gone → Account (suc at) id (after goes answer) kept above gone
    account_item id goes kept above gone answer acts tells plain same it = record {
      inside = it.inside;
      giving = it.giving;
      goes_is = λ rest. goes_next id goes answer acts tells plain it.inside it.inside_so it.goes_is rest;
      kept_is = it.kept_is ∙ gifts_next it.giving it.giving_so;
      inside_so = all_returned_next it.inside it.inside_so;
      giving_so = all_returned_next it.giving it.giving_so;
      all = subst (IsPermutation ((it.inside ++ it.giving) ++ (above ++ gone))) (sym (children_next cluster program stands trace at id acts ∙ same)) it.all;
    }

    -- behind a Spawn, where no child is above it
    pub account_spawn : (id : FrameId) (goes : Meaning) (kept : List Deposit) (gone : List FrameId) (child : FrameId) → by id (trace.events at) ≡ true
        → answer_of (reply_to (trace.events at) (given_at cluster program stands trace at id)) ≡ Done
        → children_after (trace.events at) (children trace.events at id) ≡ child ∷ children trace.events at id
        → Account at id goes kept [] gone → Account (suc at) id (after goes Done) kept (child ∷ []) gone
    account_spawn id goes kept gone child acts tells more it = record {
      inside = it.inside;
      giving = it.giving;
      goes_is = λ rest. goes_next id goes Done acts tells done_plain it.inside it.inside_so it.goes_is rest;
      kept_is = it.kept_is ∙ gifts_next it.giving it.giving_so;
      inside_so = all_returned_next it.inside it.inside_so;
      giving_so = all_returned_next it.giving it.giving_so;
      all =
          subst (IsPermutation ((it.inside ++ it.giving) ++ (child ∷ gone))) (sym (children_next cluster program stands trace at id acts ∙ more))
          (IsPermutation-trans ((it.inside ++ it.giving) ++ (child ∷ gone)) (child ∷ ((it.inside ++ it.giving) ++ gone)) (child ∷ children trace.events at id)
          (IsPermutation-middle (it.inside ++ it.giving) child gone)
          (IsPermutation-cons child ((it.inside ++ it.giving) ++ gone) (children trace.events at id) it.all));
    }
