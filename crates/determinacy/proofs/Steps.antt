-- An item keeps the correspondence where its read agrees.
use Rattle.std.proofs.Common.{◌≡◌, ℕ, suc, ◌<◌, inl, inr, ℤ, true, Option, Some, List, [], ◌∷◌, ◌++◌, refl, sym, ◌∙◌, ap, subst, arith}
use Rattle.backer_order.proofs.Search.{Less3, Same3, More3, compare}
use Rattle.backer_order.specs.Edges.{IsOn}
use Rattle.backer_order.specs.Log.{Act, Read, Write, Add, Print, Spawn, Sync, Event, Acts, Tick}
use Rattle.backer_order.specs.Moments.{Obtains}
use Rattle.cilk_meaning.specs.Wants.{Want, Returns, Deposit, Value, Children}
use Rattle.determinacy.proofs.Blocks.{child_born, no_children_first}
use Rattle.determinacy.proofs.Matches as matches
use Rattle.determinacy.proofs.Matches.{Two, Is, Alike, Meets}
use Rattle.determinacy.proofs.Rows as rows
use Rattle.determinacy.proofs.Rows.{by_acts, by_one, given, born_more}
use Rattle.determinacy.proofs.Twins.{Twins, Reads, Writes, Adds, Prints, Spawns, Syncs, Ticks, twins_of, twin_spawn, twins_back}
use Rattle.determinacy.specs.Following.{Spawned, Pairs, Level, AllFollow}
use Rattle.determinacy.specs.Replies.{Trace, OfAct, by, children_after, children, value_in, deposits, reply_to, want_of, replies, want_at, Obeys}
use Rattle.page_messages.specs.declared.closure.FrameId.{FrameId}
use Rattle.span_tree.specs.Program.{Starts}

-- ---- lists

pub pairs_empty : (Related : FrameId → FrameId → Type 0) (firsts seconds : List FrameId) → firsts ≡ [] → seconds ≡ [] → Pairs Related firsts seconds
pairs_empty Related firsts seconds none none_there = subst (λ i. Pairs Related i seconds) (sym none) (subst (λ i. Pairs Related [] i) (sym none_there) tt)

pub pairs_deposits : (Related : FrameId → FrameId → Type 0) (gives others : FrameId → Deposit) (firsts seconds : List FrameId) → Pairs Related firsts seconds →
    ((first second : FrameId) → IsOn first firsts → IsOn second seconds → Related first second → gives first ≡ others second) →
    deposits gives firsts ≡ deposits others seconds
unfolding deposits
pairs_deposits Related gives others [] [] pairs each = refl
pairs_deposits Related gives others [] (second ∷ seconds) pairs each = absurd pairs
pairs_deposits Related gives others (first ∷ firsts) [] pairs each = absurd pairs
pairs_deposits Related gives others (first ∷ firsts) (second ∷ seconds) pairs each =
    let one = each first second (inl refl) (inl refl) pairs.0 in
    let rest = pairs_deposits Related gives others firsts seconds pairs.1 (λ i j on on_there related. each i j (inr on) (inr on_there) related) in
    ap (λ i. i ++ gives first ∷ []) rest ∙ ap (λ i. deposits others seconds ++ i ∷ []) one

same_value : (want other : Option Want) (value next : ℤ) → want ≡ Some (Returns value) → other ≡ Some (Returns next) → value ≡ next →
    value_in want ≡ value_in other
unfolding value_in
same_value want other value next is is_there same = ap value_in is ∙ same ∙ sym (ap value_in is_there)

abbrev IsDeposit : Deposit → Deposit → Type 0
IsDeposit first second = first ≡ second

same_deposit : (target other : Option ℕ) (value next : ℤ) → target ≡ other → value ≡ next → IsDeposit (target, value) (other, next)
same_deposit target other value next targets values = ap (λ i. (i, value)) targets ∙ ap (λ i. (other, i)) values

returns_one : (value next : ℤ) → Some (Returns value) ≡ Some (Returns next) → value ≡ next
returns_one value next is = cc

-- what has returned has returned one value
pub one_value : (starts : Starts) (main : ℕ) (trace : Trace) (obeys : Obeys starts main trace) (frame : FrameId) (at other : ℕ) (value next : ℤ) →
    want_at starts trace at frame ≡ Some (Returns value) → want_at starts trace other frame ≡ Some (Returns next) → value ≡ next
one_value starts main trace obeys frame at other value next first second = elim (compare at other) [
  | Same3 same ↦ returns_one value next (sym first ∙ ap (λ i. want_at starts trace i frame) same ∙ second)
  | Less3 l ↦
      let told = (rows.settled starts main trace obeys frame at value first other (omega arith)).told in
      returns_one value next (sym first ∙ ap (λ i. want_of starts (trace.instance frame) i) (sym told) ∙ second)
  | More3 l ↦
      let told = (rows.settled starts main trace obeys frame other next second at (omega arith)).told in
      returns_one value next (sym first ∙ ap (λ i. want_of starts (trace.instance frame) i) told ∙ second)
]

pub none_told : (starts : Starts) (trace : Trace) (frame : FrameId) → replies starts trace 0 frame ≡ []
unfolding replies
none_told starts trace frame = refl

module _ (two : Two) where
  -- the place at which the row that corresponds to the frame answers the same want
  pub record Found (finish at : ℕ) (frame : FrameId) : Type 0 where
    pub row : FrameId
    pub place : ℕ
    pub inside : place < finish
    pub same : Is two frame row
    pub by_row : by row (two.serial.events place) ≡ true
    pub alike : Alike two at frame place row
    pub block : Pairs (Is two) (children two.run.events at frame) (children two.serial.events place row)

  pub found_match : (finish at : ℕ) (frame : FrameId) → by frame (two.run.events at) ≡ true → (found : Found finish at frame) → Meets two at (found.place)
  found_match finish at frame acts found =
      record { frame = frame; row = found.row; same = found.same; by_frame = acts; by_row = found.by_row; alike = found.alike }

  -- a frame that has returned here has returned there with this value
  pub level_returns : (now place : ℕ) (frame : FrameId) (value : ℤ) → want_at two.starts two.run now frame ≡ Some (Returns value) →
      (level : Level two.starts two.run two.serial now place frame) → want_at two.starts two.serial place (level.row) ≡ Some (Returns value)
  level_returns now place frame value returns level =
      sym (matches.want_same two frame level.row now place (matches.same_instance two frame level.row level.same) level.alike) ∙ returns

  -- as many replies, so the same value
  child_value : (finish at place node other : ℕ) (frame row : FrameId) → AllFollow two.starts two.run two.serial finish at →
      two.run.events at ≡ Acts node frame Sync →
      two.serial.events place ≡ Acts other row Sync → (child next : FrameId) → IsOn child (children two.run.events at frame) →
      IsOn next (children two.serial.events place row) → Is two child next →
      value_in (want_at two.starts two.run at child) ≡ value_in (want_at two.starts two.serial place next)
  child_value finish at place node other frame row follow is is_there child next on on_there same =
      let (value, returns) = two.run_obeys.joined at node frame child is on in
      let (value', returns') = two.serial_obeys.joined place other row next is_there on_there in
      let born = child_born two.run at frame child on in
      let its = follow child (inr (record { at = born.at; node = born.node; parent = frame; before = born.before; is = born.is })) in
      let its_row = matches.one_row two child its.level.row next its.level.same same in
      let there = subst (λ i. want_at two.starts two.serial its.place i ≡ Some (Returns value)) its_row
      (level_returns at its.place child value returns its.level) in
      same_value (want_at two.starts two.run at child) (want_at two.starts two.serial place next) value value' returns returns'
      (one_value two.starts two.main two.serial two.serial_obeys next its.place place value value' there returns')

  child_target : (at place : ℕ) (frame row child next : FrameId) → IsOn child (children two.run.events at frame) → Is two child next →
      two.run.target child ≡ two.serial.target next
  child_target at place frame row child next on same = elim (matches.origin two child next same) [
    | inr from ↦ matches.same_target two child next from
    | inl mains ↦ let born = child_born two.run at frame child on in absurd (two.run_obeys.not_main born.at born.node frame child born.is mains.0)
  ]

  -- What both items tell, and how they change the block.
  pub record Agree (at place : ℕ) (frame row : FrameId) : Type 0 where
    pub reply : reply_to (two.run.events at) (given two.starts two.run at frame) ≡ reply_to (two.serial.events place) (given two.starts two.serial place row)
    pub block : Pairs (Is two) (children_after (two.run.events at) (children two.run.events at frame))
        (children_after (two.serial.events place) (children two.serial.events place row))

  -- both obtain the same
  abbrev pub SameObtained : ℕ → ℕ → Type 0
  SameObtained at place = (node other word : ℕ) (here there : ℤ) → Obtains two.run.events node word at here →
      Obtains two.serial.events other word place there → here ≡ there

  module _ (finish at place : ℕ) (frame row : FrameId) (follow : AllFollow two.starts two.run two.serial finish at) (same : Is two frame row)
      (by_frame : by frame (two.run.events at) ≡ true) (by_row : by row (two.serial.events place) ≡ true) (alike : Alike two at frame place row)
      (pairs : Pairs (Is two) (children two.run.events at frame) (children two.serial.events place row)) (obtained : SameObtained at place) where
    abbrev IsReply : Event → Event → Type 0
    IsReply event other = reply_to event (given two.starts two.run at frame) ≡ reply_to other (given two.starts two.serial place row)

    abbrev IsBlock : Event → Event → Type 0
    IsBlock event other = Pairs (Is two) (children_after event (children two.run.events at frame)) (children_after other (children two.serial.events place row))

    set : (event other : Event) → two.run.events at ≡ event → two.serial.events place ≡ other → IsReply event other → IsBlock event other →
        Agree at place frame row
    set event other is is_there reply block = record {
      reply = subst (λ i. IsReply i (two.serial.events place)) (sym is) (subst (λ i. IsReply event i) (sym is_there) reply);
      block = subst (λ i. IsBlock i (two.serial.events place)) (sym is) (subst (λ i. IsBlock event i) (sym is_there) block);
    }

    its_frame : (node : ℕ) (actor : FrameId) (act : Act) → two.run.events at ≡ Acts node actor act → actor ≡ frame
    its_frame node actor act is = by_one actor frame (two.run.events at) (by_acts node actor act (two.run.events at) is) by_frame

    its_row : (node : ℕ) (actor : FrameId) (act : Act) → two.serial.events place ≡ Acts node actor act → actor ≡ row
    its_row node actor act is = by_one actor row (two.serial.events place) (by_acts node actor act (two.serial.events place) is) by_row

    kin : (node other : ℕ) (actor second child next : FrameId) → two.run.events at ≡ Acts node actor (Spawn child) →
        two.serial.events place ≡ Acts other second (Spawn next) → Is two child next
    kin node other actor second child next is is_there =
        Spawned at place node other frame row (subst (λ i. two.run.events at ≡ Acts node i (Spawn child)) (its_frame node actor (Spawn child) is) is)
        (subst (λ i. two.serial.events place ≡ Acts other i (Spawn next)) (its_row other second (Spawn next) is_there) is_there) same alike

    synced : (node other : ℕ) (actor second : FrameId) → two.run.events at ≡ Acts node actor Sync → two.serial.events place ≡ Acts other second Sync →
        given two.starts two.run at frame ≡ given two.starts two.serial place row
    synced node other actor second is is_there =
        let here = subst (λ i. two.run.events at ≡ Acts node i Sync) (its_frame node actor Sync is) is in
        let there = subst (λ i. two.serial.events place ≡ Acts other i Sync) (its_row other second Sync is_there) is_there in
        pairs_deposits (Is two) (λ child. (two.run.target child, value_in (want_at two.starts two.run at child)))
        (λ child. (two.serial.target child, value_in (want_at two.starts two.serial place child)))
        (children two.run.events at frame) (children two.serial.events place row) pairs
        (λ child next on on_there its. same_deposit (two.run.target child) (two.serial.target next) (value_in (want_at two.starts two.run at child))
        (value_in (want_at two.starts two.serial place next)) (child_target at place frame row child next on its)
        (child_value finish at place node other frame row follow here there child next on on_there its))

    agree_at : (event other : Event) → Twins event other → two.run.events at ≡ event → two.serial.events place ≡ other → Agree at place frame row
    unfolding reply_to children_after
    agree_at event other (Reads node there actor second word value next) is is_there =
        set (Acts node actor (Read word value)) (Acts there second (Read word next)) is is_there
        (ap (λ i. OfAct (Value i)) (obtained node there word value next (inl (record { frame = actor; is = is }))
        (inl (record { frame = second; is = is_there }))))
        pairs
    agree_at event other (Adds node there actor second word value next addend) is is_there =
        set (Acts node actor (Add word value addend)) (Acts there second (Add word next addend)) is is_there
        (ap (λ i. OfAct (Value i)) (obtained node there word value next (inr (record { frame = actor; addend = addend; is = is }))
        (inr (record { frame = second; addend = addend; is = is_there }))))
        pairs
    agree_at event other (Writes node there actor second word value) is is_there =
        set (Acts node actor (Write word value)) (Acts there second (Write word value)) is is_there refl pairs
    agree_at event other (Prints node there actor second value) is is_there =
        set (Acts node actor (Print value)) (Acts there second (Print value)) is is_there refl pairs
    agree_at event other (Spawns node there actor second child next) is is_there =
        set (Acts node actor (Spawn child)) (Acts there second (Spawn next)) is is_there refl (kin node there actor second child next is is_there, pairs)
    agree_at event other (Syncs node there actor second) is is_there =
        set (Acts node actor Sync) (Acts there second Sync) is is_there (ap (λ i. OfAct (Children i)) (synced node there actor second is is_there)) tt
    agree_at event other (Ticks node there actor second) is is_there =
        set (Tick node actor) (Tick there second) is is_there refl pairs

    pub agree : Agree at place frame row
    agree = agree_at (two.run.events at) (two.serial.events place)
        (twins_of two at place (record { frame = frame; row = row; same = same; by_frame = by_frame; by_row = by_row; alike = alike })) refl refl

  -- two children that are spawned so are level
  pub level_birth : (at place node : ℕ) (frame child row : FrameId) → two.run.events at ≡ Acts node frame (Spawn child) → Is two frame row →
      by row (two.serial.events place) ≡ true → Alike two at frame place row → Level two.starts two.run two.serial (suc at) (suc place) child
  level_birth at place node frame child row is same by_row alike =
      let match : Meets two at place = record {
        frame = frame;
        row = row;
        same = same;
        by_frame = by_acts node frame (Spawn child) (two.run.events at) is;
        by_row = by_row;
        alike = alike;
      } in
      let (other, actor, next, is_there) = twin_spawn (two.serial.events place) (two.run.events at)
      (twins_back (two.run.events at) (two.serial.events place) (twins_of two at place match)) node frame child is in
      let actors = by_one actor row (two.serial.events place) (by_acts other actor (Spawn next) (two.serial.events place) is_there) by_row in
      let there = subst (λ i. two.serial.events place ≡ Acts other i (Spawn next)) actors is_there in
      let fresh = rows.unborn two.starts two.main two.run two.run_obeys at node frame child is in
      let fresh_there = rows.unborn two.starts two.main two.serial two.serial_obeys place other row next there in
      record {
        row = next;
        same = Spawned at place node other frame row is there same alike;
        born = inr (record { at = place; node = other; parent = row; before = omega arith; is = there });
        alike = fresh.told ∙ none_told two.starts two.run child ∙ sym (none_told two.starts two.serial next) ∙ sym fresh_there.told;
        block = pairs_empty (Is two) (children two.run.events (suc at) child) (children two.serial.events (suc place) next)
            (fresh.block ∙ no_children_first two.run child) (fresh_there.block ∙ no_children_first two.serial next);
      }
