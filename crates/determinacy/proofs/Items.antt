-- Which events are items, and whose.
use Rattle.std.proofs.Common.{◌≡◌, true, refl}
use Rattle.backer_order.specs.Log.{Event, Nothing, Acts, Tick, Drop, TakeUp, OwnFetch, OwnReconcile, Post, Took, End}
use Rattle.determinacy.proofs.Rows.{same_self}
use Rattle.determinacy.specs.Ending.{is_item}
use Rattle.determinacy.specs.Replies.{by}
use Rattle.page_messages.specs.declared.closure.FrameId.{FrameId}

pub record Acting (event : Event) : Type 0 where
  pub frame : FrameId
  pub acts : by frame event ≡ true

pub actor : (event : Event) → is_item event ≡ true → Acting event
unfolding is_item by
actor (Acts node frame act) is = record { frame = frame; acts = same_self frame }
actor (Tick node frame) is = record { frame = frame; acts = same_self frame }
actor Nothing is = absurd cc
actor (Drop node page) is = absurd cc
actor (OwnFetch node page words) is = absurd cc
actor (OwnReconcile node part) is = absurd cc
actor (TakeUp node frame) is = absurd cc
actor (Post node receiver note) is = absurd cc
actor (Took node post) is = absurd cc
actor (End node) is = absurd cc

pub item_is : (frame : FrameId) (event : Event) → by frame event ≡ true → is_item event ≡ true
unfolding is_item by
item_is frame (Acts node actor act) is = refl
item_is frame (Tick node actor) is = refl
item_is frame Nothing is = is
item_is frame (Drop node page) is = is
item_is frame (OwnFetch node page words) is = is
item_is frame (OwnReconcile node part) is = is
item_is frame (TakeUp node actor) is = is
item_is frame (Post node receiver note) is = is
item_is frame (Took node post) is = is
item_is frame (End node) is = is
