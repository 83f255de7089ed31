-- A frame is taken up once for each Grant or Park of it, and from a Park only where its join is complete. What stands on the stacks at a
-- position is known from the take-ups before it, so both go along the run together.
use Rattle.std.proofs.Common.{◌≡◌, ◌≢◌, ℕ, zero, suc, ◌<◌, ◌⊎◌, inl, inr, refl, sym, subst, arith}
use Rattle.page_messages.specs.declared.closure.FrameId.{FrameId}
use Rattle.backer_order.specs.Log.{Park, TakeUp, Post, Events, SharedMemory}
use Rattle.backer_order.specs.Moments.{NoneBetween}
use Rattle.backer_order.specs.Edges.{Stacks, Returns, TakesUp, FromGrant, FromJoin, Away, HasDone, Taken, Frames}
use Rattle.backer_order.specs.Ready.{Stage, Flying, Parked, Ready, Up, Stages, SendsFrame, Rises, ReadyRules}
use Rattle.backer_order.proofs.Search.{Less3, Same3, More3, compare}
use Rattle.backer_order.proofs.Places as places

module _ (events : Events) (memory : SharedMemory) (has_returned : Returns) (stack : Stacks) (frames : Frames events memory has_returned stack) (stage : Stages)
    (ready : ReadyRules events stack stage) where
  abbrev Invs : ℕ → Type 0
  Invs now = places.Invs events memory has_returned stack frames now

  abbrev Tok : ℕ → Type 0
  Tok now = (k node : ℕ) (frame : FrameId) → k < now → SendsFrame events k node frame → stage now k ≢ Up → NoneBetween (TakesUp events frame) k now

  ready_not_up : (a : Stage) → a ≡ Ready → a ≢ Up
  ready_not_up a h h' = cc

  pub tok_next : (now : ℕ) → Invs now → Tok now → Tok (suc now)
  tok_next now invs tok k node frame l sd live i h h' (other, is) = elim (compare k now) [
    | Same3 same ↦ absurd (omega arith)
    | More3 l' ↦ absurd (omega arith)
    | Less3 l' ↦
        let live' : stage now k ≢ Up = λ u. live (ready.stays_up now k u) in
        let none = tok k node frame l' sd live' in
        elim (compare i now) [
          | Less3 m ↦ none i h m (other, is)
          | More3 m ↦ absurd (omega arith)
          | Same3 m ↦
              let is' : events now ≡ TakeUp other frame = subst (λ j. events j ≡ TakeUp other frame) m is in
              let r = ready.up now other frame is' in
              let none' = tok r.post other frame r.before r.sends (ready_not_up (stage now r.post) r.ready) in
              let same = places.same_token events memory has_returned stack frames now k r.post node other frame invs l' r.before sd r.sends none none' in
              live (subst (λ j. stage (suc now) j ≡ Up) (sym same) r.up)
        ]
  ]

  tok_first : Tok 0
  tok_first k node frame l sd live i h h' tk = absurd (omega arith)

  -- each ready frame that parked has its block's children done
  abbrev Dones : ℕ → Type 0
  Dones now =
      (k node other : ℕ) (frame d : FrameId) → k < now → events k ≡ Post other node (Park frame) → stage now k ≡ Ready → Away events stack now frame d
      → HasDone events now frame d

  more_done : (now : ℕ) (frame d : FrameId) → HasDone events now frame d → HasDone events (suc now) frame d
  more_done now frame d h = record { post = h.post; sender = h.sender; receiver = h.receiver; is = h.is; before = omega (arith, h.before) }

  ready_or_not : (a : Stage) → (a ≡ Ready) ⊎ (a ≢ Ready)
  ready_or_not Flying = inr (λ h. cc)
  ready_or_not Parked = inr (λ h. cc)
  ready_or_not Ready = inl refl
  ready_or_not Up = inr (λ h. cc)

  pub dones_next : (now : ℕ) → Invs now → Tok now → Dones now → Dones (suc now)
  dones_next now invs tok dn k node other frame d l is r a = elim (ready_or_not (stage now k)) [
    | inr ne ↦ ready.complete now k node other frame d is ne r a
    | inl old ↦ elim (compare k now) [
      | More3 l' ↦ absurd (omega arith)
      | Same3 same ↦ absurd (ready.not_at_once k node other frame is (subst (λ j. stage (suc j) k ≡ Ready) (sym same) r))
      | Less3 l' ↦ elim (places.away_step events memory has_returned stack frames now frame d a) [
        | inl a' ↦ more_done now frame d (dn k node other frame d l' is old a')
        | inr (u, v, gr) ↦
            let sd : SendsFrame events k node frame = (other, inr is) in
            let none = tok k node frame l' sd (ready_not_up (stage now k) old) in
            absurd (places.out_since events memory has_returned stack frames now k node frame invs l' sd none now l' (omega arith) u
            (places.grant_mem events memory has_returned stack frames now u v frame gr))
      ]
    ]
  ]

  -- so the rule for a TakeUp holds at n
  pub rule_at : (now : ℕ) → Tok now → Dones now → (node : ℕ) (frame : FrameId) → events now ≡ TakeUp node frame →
      FromGrant events now node frame ⊎ FromJoin events stack now node frame
  rule_at now tok dn node frame is = go (ready.up now node frame is)
    where
      go : Rises events stage now node frame → FromGrant events now node frame ⊎ FromJoin events stack now node frame
      go r = let (other, which) = r.sends in elim which [
        | inl g ↦ inl (record {
          post = r.post;
          sender = other;
          is = g;
          before = r.before;
          none = tok r.post node frame r.before r.sends (ready_not_up (stage now r.post) r.ready);
        })
        | inr g ↦ inr (record {
          post = r.post;
          sender = other;
          is = g;
          before = r.before;
          none = tok r.post node frame r.before r.sends
              (ready_not_up (stage now r.post) r.ready);
          complete = λ d a. dn r.post node other frame d r.before g r.ready a;
        })
      ]

  -- all together, along the log
  record Along (now : ℕ) : Type 0 where
    invs : Invs now
    tok : Tok now
    dones : Dones now

  dones_first : Dones 0
  dones_first k node other frame d l is r a = absurd (omega arith)

  along : (now : ℕ) → Along now
  along zero =
      record {
        invs = λ i h. subst (λ j. places.Inv events memory has_returned stack frames j) (omega arith)
            (places.first_inv events memory has_returned stack frames);
        tok = tok_first;
        dones = dones_first;
      }
  along (suc now) =
      let a = along now in
      let next = places.next_inv events memory has_returned stack frames now a.invs (rule_at now a.tok a.dones) in
      record {
        invs = λ i h. elim (compare i (suc now)) [
          | Less3 l ↦ a.invs i (omega arith)
          | Same3 same ↦ subst (λ j. places.Inv events memory has_returned stack frames j) (sym same) next
          | More3 l ↦ absurd (omega arith)
        ];
        tok = tok_next now a.invs a.tok;
        dones = dones_next now a.invs a.tok a.dones;
      }

  pub taken : Taken events stack
  taken now node frame is = rule_at now ((along now).tok) ((along now).dones) node frame is
