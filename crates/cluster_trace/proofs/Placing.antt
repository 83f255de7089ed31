-- The accounts of frames as they change places: into a closure, to another node, to a join and from it.
use Rattle.std.proofs.Common.{◌≡◌, ℕ, ℤ, List, [], ◌∷◌, ◌++◌, Option, Some, None, Bool, true, false, ◌||◌, is_some, eqb, refl, sym, ◌∙◌, ap, subst, inl, inr, arith}
use Rattle.std.proofs.lemmas.Bool.Decides.{nat_tests}
use Rattle.std.specs.List.{list_any, list_all}
use Rattle.cilk_meaning.specs.Resolved.{Program}
use Rattle.cilk_meaning.specs.Wants.{Returns, Deposit}
use Rattle.machine_code.specs.Machine.{starts, wants}
use Rattle.machine_code.specs.StandsFor.{StandsFor}
use Rattle.page_messages.specs.declared.closure.FrameId.{FrameId}
use Rattle.page_messages.specs.declared.closure.JoinId.{JoinId}
use Rattle.page_messages.specs.declared.closure.Link.{Link}
use Rattle.page_messages.specs.declared.closure.Child.{Child}
use Rattle.page_messages.specs.declared.closure.Closure.{Closure}
use Rattle.page_messages.specs.declared.message.Msg.{Msg}
use Rattle.page_messages.specs.declared.message.Body.{Body}
use Rattle.page_messages.specs.declared.message.Body.TheVariants as body
use Rattle.cluster_rules.specs.Walking.{given}
use Rattle.cluster_rules.specs.Turns.{Event, Took, Past}
use Rattle.cluster_rules.specs.Node.{Node}
use Rattle.cluster_rules.specs.Lives.{Life, carried}
use Rattle.cluster_rules.specs.Frames.{Parked, done_in, done_by, is_done, deposit_of, done_deposits, is_complete, joined, all_joined, still_parked}
use Rattle.cluster_rules.specs.Edges.{IsClosure, join_for, parted}
use Rattle.cluster_rules.specs.Positions.{Course}
use Rattle.cluster_rules.specs.Runs.{Cluster, node_at}
use Rattle.cluster_rules.proofs.Testing.{both_true}
use Rattle.cluster_edges.proofs.Ties.{Among, Born, Named}
use Rattle.cluster_edges.proofs.Completing.{BearsOnce, done_event}
use Rattle.cluster_edges.proofs.Granting.{same_join_self}
use Rattle.determinacy.specs.Replies as replies
use Rattle.determinacy.specs.Replies.{Trace, want_at}
use Rattle.cluster_trace.proofs.Accounts.{gift, gifts, AllReturned, Account, account_away, account_closed, account_joined}
use Rattle.cluster_trace.proofs.Standing.{Aligned, LifeAccount, Aims, Stacked, gives}

same_number : (index : ℕ) → eqb index index ≡ true
same_number index = grind (arith, nat_tests)

done_self : (join : JoinId) (index : ℕ) (value : ℤ) → done_in join index (body.Done join index value) ≡ Some value
done_self join index value = rw (same_join_self join, same_number index) refl

module _ (cluster : Cluster) (program : Program) (stands : StandsFor cluster.code program) (trace : Trace) (at : ℕ) (course : Course) where
  abbrev Has : Life → List FrameId → Type 0
  Has life above = LifeAccount cluster program stands trace at course life above

  abbrev On : List FrameId → List Life → Type 0
  On above stack = Stacked cluster program stands trace at course above stack

  -- of a frame in a closure
  abbrev pub ClosureAccount : Closure → Type 0
  ClosureAccount closure = Has (carried (node_at cluster 0) closure) []

  abbrev pub AllLives : List Life → Type 0
  AllLives [] = Unit {0}
  AllLives (life ∷ lives) = Has life [] × AllLives lives

  abbrev pub AllParked : List Parked → Type 0
  AllParked [] = Unit {0}
  AllParked (first ∷ parked) = ClosureAccount first.closure × AllParked parked

  pub lives_append : (front back : List Life) → AllLives front → AllLives back → AllLives (front ++ back)
  lives_append [] back first second = second
  lives_append (life ∷ front) back first second = (first.0, lives_append front back first.1 second)

  pub parked_append : (front back : List Parked) → AllParked front → AllParked back → AllParked (front ++ back)
  parked_append [] back first second = second
  parked_append (one ∷ front) back first second = (first.0, parked_append front back first.1 second)

  -- ---- into a closure

  pub closed : (number : ℕ) (life : Life) (closure : Closure) → IsClosure (node_at cluster number) life closure → Has life [] → ClosureAccount closure
  closed number life closure state it = record {
    gone = it.gone;
    aligned = subst (λ id. Aligned cluster program stands trace course id closure.away it.gone) (sym state.id)
        (subst (λ away. Aligned cluster program stands trace course life.id away it.gone) (sym state.away) it.aligned);
    none_away = λ none. state.away ∙ it.none_away (sym state.join ∙ none);
    depth = state.depth ∙ it.depth ∙ ap (λ id. (trace.instance id).depth) (sym state.id);
    account = subst (λ id. Account cluster program stands trace at id (wants cluster.code closure.frame.frame) [] [] it.gone) (sym state.id)
        (account_closed cluster program stands trace at life.id life.goes (wants cluster.code closure.frame.frame) life.kept [] it.gone state.goes it.account);
  }

  -- ---- at a Grant

  aligned_one : (id : FrameId) (away : List Child) (gone : List FrameId) (entry : Child) (child : FrameId) → Born id entry.index child course
      → entry.target ≡ trace.target child
      → Aligned cluster program stands trace course id away gone → Aligned cluster program stands trace course id (away ++ entry ∷ []) (gone ++ child ∷ [])
  aligned_one id [] [] entry child born aims aligned = (born, aims, tt)
  aligned_one id [] (other ∷ gone) entry child born aims aligned = absurd aligned
  aligned_one id (other ∷ away) [] entry child born aims aligned = absurd aligned
  aligned_one id (other ∷ away) (first ∷ gone) entry child born aims aligned = (aligned.0, aligned.1, aligned_one id away gone entry child born aims aligned.2)

  joins_none : (node : Node) (past : Past) (join : Option JoinId) → join_for node past join ≡ None → ⊥
  joins_none node past None none = absurd (cc)
  joins_none node past (Some join) none = absurd (cc)

  pub separated : (node : Node) (past : Past) (child parent : Life) → Born parent.id child.spawned.index child.id course
      → child.spawned.target ≡ trace.target child.id
      → Has parent (child.id ∷ []) → Has (parted node past child parent) []
  separated node past child parent born aims it = record {
    gone = it.gone ++ child.id ∷ [];
    aligned = aligned_one parent.id parent.away it.gone child.spawned child.id born aims it.aligned;
    none_away = λ none. absurd (joins_none node past parent.join none);
    depth = it.depth;
    account = account_away cluster program stands trace at parent.id parent.goes parent.kept it.gone child.id it.account;
  }

  relinked : (child : Life) (link : Link) (above : List FrameId) → Has child above → Has (record child { link = link }) above
  relinked child link above it = record { gone = it.gone; aligned = it.aligned; none_away = it.none_away; depth = it.depth; account = it.account }

  aims_bottom : (life : Life) (above : List Life) (child parent : Life) (link : Link)
      → Aims cluster program stands trace life (above ++ (child ∷ (parent ∷ [])))
      → Aims cluster program stands trace life (above ++ (record child { link = link } ∷ []))
  aims_bottom life [] child parent link aims = aims
  aims_bottom life (second ∷ above) child parent link aims = aims

  -- the bottom frame is taken off
  pub bottom_off : (tops : List FrameId) (above : List Life) (child parent : Life) (link : Link) → On tops (above ++ (child ∷ (parent ∷ [])))
      → On tops (above ++ (record child { link = link } ∷ [])) × Has parent (child.id ∷ []) × (child.spawned.target ≡ trace.target child.id)
  bottom_off tops [] child parent link all = ((relinked child link tops all.0, tt, tt), all.2.0, all.1)
  bottom_off tops (life ∷ above) child parent link all =
      let rest = bottom_off (life.id ∷ []) above child parent link all.2 in ((all.0, aims_bottom life above child parent link all.1, rest.0), rest.1, rest.2)

  -- ---- from a join

  -- the child of this index returned this value
  pub record Tells (join : JoinId) (index : ℕ) (value : ℤ) : Type 0 where
    pub parent : FrameId
    pub child : FrameId
    pub named : Named join parent course
    pub born : Born parent index child course
    pub returns : want_at (starts cluster.code) trace at child ≡ Some (Returns value)

  abbrev pub Says : Body → Type 0
  Says said = (join : JoinId) (index : ℕ) (value : ℤ) → said ≡ body.Done join index value → Tells join index value

  module _ (once : BearsOnce course) (past : Past) (took : (message : Msg) → Among (Took message) past → Says message.body) where
    -- the latest that gives something
    given_from : {B : Type 0} (by : Event → Option B) (events : Past) → list_any (λ event. is_some (by event)) events ≡ true
        → (event : Event) × (value : B) × Among event events × (by event ≡ Some value) × (given by events ≡ Some value)
    given_from by [] any = absurd (cc)
    given_from {B} by (first ∷ events) any = on (by first) refl any (given_from by events)
      where
        on : (found : Option B) → by first ≡ found → is_some found || list_any (λ event. is_some (by event)) events ≡ true
            → (list_any (λ event. is_some (by event)) events ≡ true
            → (event : Event) × (value : B) × Among event events × (by event ≡ Some value) × (given by events ≡ Some value))
            → (event : Event) × (value : B) × Among event (first ∷ events) × (by event ≡ Some value) × (given by (first ∷ events) ≡ Some value)
        on (Some value) is any rest = (first, value, inl refl, is, rw is refl)
        on None is any rest =
            let it = rest any in (it.0, it.1, inr it.2, it.3, rw is it.4)

    done_value : (join : JoinId) (index : ℕ) (event : Event) (value : ℤ) → done_by join index event ≡ Some value → Among event past → Tells join index value
    done_value join index event value is among =
        let done = done_event join index event (ap is_some is) in
        let told : Some done.1 ≡ Some value = sym (done_self join index done.1) ∙ ap (done_in join index) (sym done.3) ∙ ap (done_by join index) (sym done.2)
        ∙ is in
        let same : done.1 ≡ value = cc in
        took done.0 (subst (λ it. Among it past) done.2 among) join index value (done.3 ∙ ap (body.Done join index) same)

    one_named : (join : JoinId) (one other : FrameId) → Named join one course → Named join other course → one ≡ other
    one_named join one other first second = let both : Some one ≡ Some other = sym first ∙ second in cc

    gift_is : (child : FrameId) (target : Option ℕ) (value : ℤ) → target ≡ trace.target child
        → want_at (starts cluster.code) trace at child ≡ Some (Returns value)
        → ◌≡◌ {A = Deposit} (target, value) (gift cluster program stands trace at child)
    gift_is child target value aims returns =
        let told : replies.value_in (want_at (starts cluster.code) trace at child) ≡ value = ap replies.value_in returns
        ∙ gives cluster program stands trace value in
        cc

    pub gave : (join : JoinId) (id : FrameId) (away : List Child) (gone : List FrameId) → Named join id course → list_all (is_done join past) away ≡ true
        → Aligned cluster program stands trace course id away gone
        → (done_deposits join away past ≡ gifts cluster program stands trace at gone) × AllReturned cluster program stands trace at gone
    gave join id [] [] named all aligned = (refl, tt)
    gave join id [] (child ∷ gone) named all aligned = absurd aligned
    gave join id (entry ∷ away) [] named all aligned = absurd aligned
    gave join id (entry ∷ away) (child ∷ gone) named all aligned =
        let both = both_true (is_done join past entry) (list_all (is_done join past) away) all in
        let rest = gave join id away gone named both.1 aligned.2 in
        let it = given_from (done_by join entry.index) past both.0 in
        let tells = done_value join entry.index it.0 it.1 it.3 it.2 in
        let parent = one_named join tells.parent id tells.named named in
        let same : tells.child ≡ child = once id entry.index tells.child child
        (subst (λ frame. Born frame entry.index tells.child course) parent tells.born) aligned.0 in
        let returns : want_at (starts cluster.code) trace at child ≡ Some (Returns it.1) = ap (want_at (starts cluster.code) trace at) (sym same)
        ∙ tells.returns in (
          ap (λ found. deposit_of entry found ++ done_deposits join away past) it.4
              ∙ ap (λ one. one ∷ done_deposits join away past) (gift_is child entry.target it.1 aligned.1 returns)
              ∙ ap (λ more. gift cluster program stands trace at child ∷ more) rest.0,
          ((it.1, returns), rest.1),
        )

    -- The frame of a complete join.
    pub from_join : (number : ℕ) (first : Parked) → Named first.join first.closure.id course → is_complete past first ≡ true → ClosureAccount first.closure
        → Has (joined (node_at cluster number) past first) []
    from_join number first named complete it =
        let gifted = gave first.join first.closure.id first.closure.away it.gone named complete it.aligned in
        record {
          gone = [];
          aligned = tt;
          none_away = λ none. refl;
          depth = it.depth;
          account =
              subst (λ kept. Account cluster program stands trace at first.closure.id (wants cluster.code first.closure.frame.frame) kept [] []) (sym gifted.0)
              (account_joined cluster program stands trace at first.closure.id (wants cluster.code first.closure.frame.frame) it.gone gifted.1 it.account);
        }

    abbrev pub AllNamed : List Parked → Type 0
    AllNamed [] = Unit {0}
    AllNamed (first ∷ parked) = Named first.join first.closure.id course × AllNamed parked

    pub all_from : (number : ℕ) (parked : List Parked) → AllNamed parked → AllParked parked
        → AllLives (all_joined (node_at cluster number) past parked) × AllParked (still_parked past parked)
    all_from number [] named all = (tt, tt)
    all_from number (first ∷ parked) named all = on (is_complete past first) refl (all_from number parked named.1 all.1)
      where
        on : (b : Bool) → is_complete past first ≡ b → AllLives (all_joined (node_at cluster number) past parked) × AllParked (still_parked past parked)
            → AllLives (all_joined (node_at cluster number) past (first ∷ parked)) × AllParked (still_parked past (first ∷ parked))
        on true is rest = rw is ((from_join number first named.0 is all.0, rest.0), rest.1)
        on false is rest = rw is (rest.0, (all.0, rest.1))
