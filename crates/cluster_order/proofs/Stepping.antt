-- The stacks of the nodes before and behind an event, and the ways in which an event changes the stack of its node.
use Rattle.std.proofs.Common.{◌≡◌, ◌≢◌, inl, inr, ℕ, suc, ◌<◌, List, [], ◌∷◌, ◌++◌, Some, None, Bool, true, false, eqb, is_some, refl, sym, ◌∙◌, ap, subst, append_assoc, arith}
use Rattle.std.proofs.lemmas.Bool.Decides.{nat_tests}
use Rattle.std.proofs.lemmas.List.{append-nil}
use Rattle.page_messages.specs.declared.closure.FrameId.{FrameId}
use Rattle.cluster_rules.specs.Turns.{WholeTurn, Event, Past}
use Rattle.cluster_rules.specs.Node.{Node}
use Rattle.cluster_rules.specs.Lives.{Life, returned, live}
use Rattle.cluster_rules.specs.Frames.{frames_on, frames_of, stack_of, highest}
use Rattle.cluster_rules.specs.Paging.{HasReturned}
use Rattle.cluster_rules.specs.Positions.{Moved, Course, course_of, own, at, before, Happens}
use Rattle.cluster_rules.specs.Runs.{Cluster, IsLawful, node_at}
use Rattle.backer_order.specs.Edges.{Stacks, Returns, IsOn, Each, Others, Moves, Pops, Empties}
use Rattle.cluster_order.specs.Standing.{first, stack_in, stacks_of, has_returned, returns_of}
use Rattle.cluster_order.proofs.Between.{own_first, own_other}
use Rattle.cluster_order.proofs.Fronts.{first_next, first_same, first_at}
use Rattle.cluster_order.proofs.Shedding.{names, names_append, AllReturned, returned_front, each_returned, Shed, shed, first_is, last_is, no_names}
use Rattle.cluster_order.proofs.Returning.{node_below, stands_so, returned_so}

-- the stack behind an event
abbrev pub stack_behind : Node → Event → Past → List Life
stack_behind node event past = (frames_on node event past (frames_of node past)).stack

pub behind_is : (node : Node) (event : Event) (past : Past) → stack_of node (event ∷ past) ≡ stack_behind node event past
unfolding frames_of
behind_is node event past = refl

is_last : (frame : FrameId) (front : List FrameId) → IsOn frame (front ++ frame ∷ [])
is_last frame [] = inl refl
is_last frame (first ∷ front) = inr (is_last frame front)

module _ (cluster : Cluster) (turns : List WholeTurn) (lawful : IsLawful cluster turns) where
  abbrev course : Course
  course = course_of turns

  abbrev node : ℕ → Node
  node number = node_at cluster number

  abbrev past : ℕ → ℕ → Past
  past number position = own number (before course position)

  abbrev stacks : Stacks
  stacks = stacks_of cluster course

  abbrev returns : Returns
  returns = returns_of cluster course

  -- ---- before and behind

  pub stack_before : (number position : ℕ) (moved : Moved) → at course position ≡ Some moved
      → stacks position number ≡ names (stack_of (node number) (past number position))
  stack_before number position moved found = ap (stack_in cluster number) (first_at position course moved found)

  pub stack_after : (number position : ℕ) (event : Event) → Happens course number position event
      → stacks (suc position) number ≡ names (stack_behind (node number) event (past number position))
  stack_after number position event happens =
      ap (stack_in cluster number) (first_next position course (happens.moved) (happens.is))
      ∙ ap (λ it. names (stack_of (node number) it)) (own_first number (happens.moved) (before course position) (happens.by))
      ∙ ap (λ it. names (stack_of (node number) (it ∷ past number position))) (happens.event_is)
      ∙ ap names (behind_is (node number) event (past number position))

  pub stack_other : (number position : ℕ) (event : Event) → Happens course number position event → Others stacks position number
  stack_other number position event happens other not =
      ap (stack_in cluster other) (first_next position course (happens.moved) (happens.is))
      ∙ ap (λ it. names (stack_of (node other) it))
      (own_other other (happens.moved) (before course position) (differs (happens.moved.node) number other (happens.by) not))
      ∙ sym (stack_before other position (happens.moved) (happens.is))
    where
      differs : (by number other : ℕ) → by ≡ number → (other ≡ number → ⊥) → eqb by other ≡ false
      differs by number other same not = let unequal : other ≢ number = not in grind (arith, nat_tests)

  -- past the last event no stack changes
  pub stack_still : (position : ℕ) → at course position ≡ None → (any : ℕ) → stacks (suc position) any ≡ stacks position any
  stack_still position none any = ap (stack_in cluster any) (first_same position course none)

  -- nor where the event leaves that of its node alone
  pub unchanged : (number position : ℕ) (event : Event) → Happens course number position event
      → names (stack_behind (node number) event (past number position)) ≡ names (stack_of (node number) (past number position)) → (any : ℕ)
      → stacks (suc position) any ≡ stacks position any
  unchanged number position event happens same any = on (eqb any number) refl
    where
      on : (b : Bool) → eqb any number ≡ b → stacks (suc position) any ≡ stacks position any
      on true is =
          let equal : any ≡ number = grind (arith, nat_tests) in
          subst (λ it. stacks (suc position) it ≡ stacks position it) (sym equal)
          (stack_after number position event happens ∙ same ∙ sym (stack_before number position (happens.moved) (happens.is)))
      on false is = stack_other number position event happens any (λ same. grind (arith, nat_tests))

  -- ---- returned frames

  -- what has returned on the stack of a node has returned at the position
  pub returned_there : (number position : ℕ) (moved : Moved) → at course position ≡ Some moved → number < cluster.config.nodes
      → (front back : List Life) (life : Life)
      → stack_of (node number) (past number position) ≡ front ++ life ∷ back → is_some (returned life) ≡ true → returns position life.id ≡ true
  returned_there number position moved found less front back life parts is =
      ap (has_returned cluster life.id) (first_at position course moved found)
      ∙ returned_so cluster life.id (before course position) (stands_so cluster number (before course position) front back life less parts is)

  pub above_returned : (number position : ℕ) (event : Event) → Happens course number position event → (above below : List Life)
      → stack_of (node number) (past number position) ≡ above ++ below → AllReturned above → Each (λ one. returns position one ≡ true) (names above)
  above_returned number position event happens above below parts all =
      each_returned (λ one. returns position one ≡ true) above all
      (λ front back life split is. returned_there number position (happens.moved) (happens.is) below_nodes front (back ++ below) life
      (parts ∙ ap (λ it. it ++ below) split ∙ append_assoc front (life ∷ back) below) is)
    where
      below_nodes : number < cluster.config.nodes
      below_nodes = subst (λ it. it < cluster.config.nodes) (happens.by) (node_below cluster turns lawful position (happens.moved) (happens.is))

  -- ---- ways of change

  -- the highest frame that has not returned goes on
  pub moves : (number position : ℕ) (event : Event) → Happens course number position event → (life : Life) (top : List FrameId)
      → highest (node number) (past number position) ≡ Some life
      → ((below : List Life) → live (stack_of (node number) (past number position)) ≡ life ∷ below
      → names (stack_behind (node number) event (past number position)) ≡ top ++ life.id ∷ names below)
      → Moves returns stacks position number life.id top
  moves number position event happens life top is goes = record {
    above = names (it.above);
    below = names (rest.0);
    old = stack_before number position (happens.moved) (happens.is) ∙ ap names (it.parts) ∙ names_append (it.above) (it.below)
        ∙ ap (λ all. names (it.above) ++ all) (sym (it.same) ∙ ap names (rest.1));
    returned = above_returned number position event happens (it.above) (it.below) (it.parts) (it.returned);
    new = stack_after number position event happens ∙ goes (rest.0) (rest.1);
    others = stack_other number position event happens;
  }
    where
      it : Shed (stack_of (node number) (past number position)) (live (stack_of (node number) (past number position)))
      it = shed (stack_of (node number) (past number position))

      rest : (below : List Life) × (live (stack_of (node number) (past number position)) ≡ life ∷ below)
      rest = first_is (live (stack_of (node number) (past number position))) life is

  -- the returned frames on top leave
  pub pops : (number position : ℕ) (event : Event) → Happens course number position event
      → stack_behind (node number) event (past number position) ≡ live (stack_of (node number) (past number position)) → Pops returns stacks position number
  pops number position event happens goes = record {
    above = names (it.above);
    below = names (it.below);
    old = stack_before number position (happens.moved) (happens.is) ∙ ap names (it.parts) ∙ names_append (it.above) (it.below);
    returned = above_returned number position event happens (it.above) (it.below) (it.parts) (it.returned);
    new = stack_after number position event happens ∙ ap names goes ∙ it.same;
    others = stack_other number position event happens;
  }
    where
      it : Shed (stack_of (node number) (past number position)) (live (stack_of (node number) (past number position)))
      it = shed (stack_of (node number) (past number position))

  -- all frames leave, and the bottom one alone may not have returned
  pub empties : (number position : ℕ) (event : Event) → Happens course number position event → (life : Life)
      → stack_behind (node number) event (past number position) ≡ [] → live (stack_of (node number) (past number position)) ≡ life ∷ []
      → Empties returns stacks position number life.id
  empties number position event happens life goes alone = record {
    front = names (it.above);
    old =
        stack_before number position (happens.moved) (happens.is) ∙ ap names (it.parts) ∙ names_append (it.above) (it.below)
        ∙ ap (λ all. names (it.above) ++ all) (sym (it.same) ∙ ap names alone);
    returned = above_returned number position event happens (it.above) (it.below) (it.parts) (it.returned);
    new = stack_after number position event happens ∙ ap names goes;
    others = stack_other number position event happens;
  }
    where
      it : Shed (stack_of (node number) (past number position)) (live (stack_of (node number) (past number position)))
      it = shed (stack_of (node number) (past number position))

  -- all frames of the stack have returned
  all_returned : (number position : ℕ) → live (stack_of (node number) (past number position)) ≡ [] → AllReturned (stack_of (node number) (past number position))
  all_returned number position none =
      let it = shed (stack_of (node number) (past number position)) in
      let none_below : it.below ≡ [] = no_names (it.below) (ap names (sym none) ∙ it.same) in
      subst AllReturned (sym (it.parts ∙ ap (λ all. it.above ++ all) none_below ∙ append-nil (it.above))) (it.returned)

  -- the whole stack has returned, and leaves
  pub empties_returned : (number position : ℕ) (event : Event) → Happens course number position event → (life : Life)
      → stack_behind (node number) event (past number position) ≡ [] → HasReturned (node number) (past number position) life
      → Empties returns stacks position number life.id × (returns position life.id ≡ true)
  empties_returned number position event happens life goes back = (
    record {
      front = names (split.0);
      old = stack_before number position (happens.moved) (happens.is) ∙ ap names (split.1) ∙ names_append (split.0) (life ∷ []);
      returned = above_returned number position event happens (split.0) (life ∷ []) (split.1) (parts.0);
      new = stack_after number position event happens ∙ ap names goes;
      others = stack_other number position event happens;
    },
    above_returned number position event happens (stack_of (node number) (past number position)) []
        (sym (append-nil (stack_of (node number) (past number position)))) all life.id on_stack,
  )
    where
      split : (front : List Life) × (stack_of (node number) (past number position) ≡ front ++ life ∷ [])
      split = last_is (stack_of (node number) (past number position)) life (back.at_bottom)

      all : AllReturned (stack_of (node number) (past number position))
      all = all_returned number position (back.none_left)

      parts : AllReturned (split.0) × AllReturned (life ∷ [])
      parts = returned_front (split.0) (life ∷ []) (subst AllReturned (split.1) all)

      on_stack : IsOn life.id (names (stack_of (node number) (past number position)))
      on_stack = subst (λ it. IsOn life.id it) (sym (ap names (split.1) ∙ names_append (split.0) (life ∷ []))) (is_last life.id (names (split.0)))
