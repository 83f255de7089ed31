-- What is counted in a log.
use Rattle.std.specs.Prelude.{◌==◌, ◌&&◌, ◌+◌, if◌then◌else◌, not, ℕ, zero, Bool, true, false, Option, Some, None, List, [], ◌∷◌, ◌++◌, length, map, slice_get, count_ones}
use Rattle.std.specs.List.{count_by, filter_map, list_any, range_with_len, sum_by}
use Rattle.page_messages.specs.declared.closure.FrameId.{FrameId}
use Rattle.page_messages.specs.declared.parts.Part.{Part}
use Rattle.page_messages.specs.declared.post.Note.{Note}
use Rattle.page_messages.specs.declared.post.Note.TheVariants.{Page, Reconcile, Grant, Add}
use Rattle.page_messages.specs.declared.post.Post.{Post}
use Rattle.page_messages.specs.declared.log.Item.{Item}
use Rattle.page_messages.specs.declared.log.Item.TheVariants as item
use Rattle.page_messages.specs.declared.log.PostAt.{PostAt}
use Rattle.page_messages.specs.declared.log.Turn.{Turn}
use Rattle.cluster_rules.specs.Lives.{same_frame}
use Rattle.cluster_rules.specs.Histories.{items_of}

abbrev pub posts_of : List Turn → List Post
posts_of [] = []
posts_of (turn ∷ turns) = turn.posts ++ posts_of turns

abbrev pub post_in : Option Turn → ℕ → Option Post
post_in None index = None
post_in (Some turn) index = slice_get turn.posts index

abbrev pub post_taken : List Turn → Option PostAt → Option Post
post_taken log None = None
post_taken log (Some place) = post_in (slice_get log place.turn) place.index

-- the posts that were taken
abbrev pub taken_of : List Turn → List Post
taken_of log = filter_map (λ turn. post_taken log turn.took) log

abbrev pub is_grant : Note → Bool
is_grant (Grant frame) = true
is_grant _ = false

abbrev pub is_page : Note → Bool
is_page (Page page words) = true
is_page _ = false

abbrev pub is_own_fetch : Item → Bool
is_own_fetch (item.OwnFetch page words) = true
is_own_fetch _ = false

abbrev pub is_drop : Item → Bool
is_drop (item.Drop page) = true
is_drop _ = false

abbrev pub parts_posted : Note → List Part
parts_posted (Reconcile parts) = parts
parts_posted _ = []

abbrev pub parts_kept : Item → List Part
parts_kept (item.OwnReconcile part) = part ∷ []
parts_kept _ = []

abbrev pub all_parts : {A : Type 0} → (A → List Part) → List A → List Part
all_parts parts [] = []
all_parts parts (first ∷ rest) = parts first ++ all_parts parts rest

-- all sendings
abbrev pub sendings_of : List Turn → List Part
sendings_of log = all_parts parts_kept (items_of log) ++ all_parts (λ post. parts_posted post.note) (posts_of log)

-- ---- ticks

abbrev pub asks_for : FrameId → ℕ → Note → Bool
asks_for frame index (Add other at word addend) = same_frame other frame && (at == index)
asks_for frame index _ = false

-- the add is asked for by a message, so it is no own add
abbrev pub is_asked : List Turn → FrameId → ℕ → Bool
is_asked log frame index = list_any (λ post. asks_for frame index post.note) (posts_of log)

abbrev pub item_ticks : List Turn → Item → Bool
item_ticks log (item.Act frame index act) = true
item_ticks log (item.Tick frame) = true
item_ticks log (item.Served frame index word old addend) = not (is_asked log frame index)
item_ticks log _ = false

abbrev pub is_add : Note → Bool
is_add (Add frame index word addend) = true
is_add _ = false

abbrev pub turn_ticks : List Turn → ℕ → Turn → ℕ
turn_ticks log node turn =
    if turn.node == node then count_by (item_ticks log) turn.items + count_by (λ post. is_add post.note) turn.posts else zero

-- A node's Act and Tick items, its own adds, and the Adds that it posted.
abbrev pub ticks_in : List Turn → ℕ → ℕ
ticks_in log node = sum_by (turn_ticks log node) log

-- ---- counts

-- Grants that were taken, arrivals of pages, sendings, marked words in them, Drops, and the ticks of each node.
pub record Counts : Type 0 where
  pub steals : ℕ
  pub fetches : ℕ
  pub pages_reconciled : ℕ
  pub words_reconciled : ℕ
  pub pages_dropped : ℕ
  pub ticks : List ℕ

abbrev pub counts_of : ℕ → List Turn → Counts
counts_of nodes log = record {
  steals = count_by (λ post. is_grant post.note) (taken_of log);
  fetches = count_by (λ post. is_page post.note) (taken_of log) + count_by is_own_fetch (items_of log);
  pages_reconciled = length (sendings_of log);
  words_reconciled = sum_by (λ part. count_ones part.mask) (sendings_of log);
  pages_dropped = count_by is_drop (items_of log);
  ticks = map (ticks_in log) (range_with_len 0 nodes);
}
