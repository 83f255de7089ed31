-- The BACKER rules for pages: when one is brought in, sent home or dropped, and what is emptied at a take-up.
use Rattle.std.specs.Prelude.{◌≡◌, ◌≢◌, ◌<◌, ◌≤◌, ◌⊎◌, ◌==◌, not, ℕ, ℤ, pos, Bool, true, false, Option, Some, None, List, [], ◌∷◌, ◌++◌, length, map, slice_index_or}
use Rattle.std.specs.List.{list_any}
use Rattle.cilk_meaning.specs.Wants as want
use Rattle.cilk_meaning.specs.Wants.{Want, Asks}
use Rattle.page_messages.specs.Fitting.{PartFits, Ascending, pages_of}
use Rattle.page_messages.specs.declared.closure.FrameId.{FrameId}
use Rattle.page_messages.specs.declared.closure.JoinId.{JoinId}
use Rattle.page_messages.specs.declared.message.Msg.{Msg}
use Rattle.page_messages.specs.declared.message.Body.{Body}
use Rattle.page_messages.specs.declared.message.Body.TheVariants.{Fetch, Add}
use Rattle.page_messages.specs.declared.parts.Part.{Part}
use Rattle.page_messages.specs.declared.log.Item.{Item}
use Rattle.page_messages.specs.declared.log.Item.TheVariants.{Drop, TakeUp, OwnFetch, Served}
use Rattle.cluster_rules.specs.Walking.{latest, last_of}
use Rattle.cluster_rules.specs.Turns.{Event, Did, Past}
use Rattle.cluster_rules.specs.Node.{Node, page_of, home_of, word_of}
use Rattle.cluster_rules.specs.Cache.{is_resident, stay, cached, is_among, by_use}
use Rattle.cluster_rules.specs.Sendings.{marks, is_dirty, ForAck, awaits, IsQuiet, AllSettled}
use Rattle.cluster_rules.specs.Home.{stored_page}
use Rattle.cluster_rules.specs.Lives.{Life, want_of, live}
use Rattle.cluster_rules.specs.Frames.{frames_of, stack_of, highest}
use Rattle.cluster_rules.specs.Asks.{keeps_ask}
use Rattle.cluster_rules.specs.Acting.{Wants}

-- ---- pages that come

abbrev pub word_wanted : Option Want → Option ℕ
word_wanted (Some (Asks (want.Read word))) = Some word
word_wanted (Some (Asks (want.Write word value))) = Some word
word_wanted _ = None

-- The highest frame that has not returned wants to read or write a word of the page, which is not resident.
pub record WantsPage (node : Node) (past : Past) (page : ℕ) : Type 0 where
  pub life : Life
  pub is : highest node past ≡ Some life
  pub word : ℕ
  pub wanted : word_wanted (want_of life) ≡ Some word
  pub of_page : page_of node word ≡ page
  pub absent : is_resident page past ≡ false

-- Bounded cache: such a page is brought in from its home, where fewer pages are resident than the cache holds.
pub record MayBring (node : Node) (past : Past) (home page : ℕ) : Type 0 where
  pub wanted : WantsPage node past page
  pub room : length (by_use node past) < node.config.cache_pages
  pub at_home : home ≡ home_of node page

-- From the node's own home it comes at once, with the stored words.
pub record MayLoad (node : Node) (past : Past) (page : ℕ) (words : List ℤ) : Type 0 where
  pub bring : MayBring node past node.me page
  pub words_are : words ≡ stored_page node page past

-- From another home it is fetched, and only where nothing else is waited for.
pub record MayFetch (node : Node) (past : Past) (receiver page : ℕ) : Type 0 where
  pub bring : MayBring node past receiver page
  pub other : receiver ≢ node.me
  pub quiet : IsQuiet past

-- ---- causes

-- The cache is full, and the page is the least recently used.
pub record IsVictim (node : Node) (past : Past) (page : ℕ) : Type 0 where
  pub full : length (by_use node past) ≡ node.config.cache_pages
  pub least : last_of (by_use node past) ≡ Some page

-- All frames of the stack have returned, and this is the bottom one.
pub record HasReturned (node : Node) (past : Past) (life : Life) : Type 0 where
  pub at_bottom : last_of (stack_of node past) ≡ Some life
  pub none_left : live (stack_of node past) ≡ []

-- The bottom frame alone has not returned, wants Sync, and was granted in this block.
pub record IsAtJoin (node : Node) (past : Past) (life : Life) (join : JoinId) : Type 0 where
  pub alone : live (stack_of node past) ≡ life ∷ []
  pub wanted : Wants life want.Sync
  pub granted : life.join ≡ Some join

-- The node keeps an Ask, and has a frame for it.
pub record CanGrant (node : Node) (past : Past) : Type 0 where
  pub keeps : keeps_ask node past ≡ true
  pub two : 2 ≤ length (stack_of node past)

pub record NeedsRoom (node : Node) (past : Past) (page : ℕ) : Type 0 where
  pub victim : IsVictim node past page
  pub other : ℕ
  pub wanted : WantsPage node past other

-- The highest frame that has not returned wants an add of a word of the page.
pub record WantsAddOf (node : Node) (past : Past) (page : ℕ) : Type 0 where
  pub life : Life
  pub is : highest node past ≡ Some life
  pub word : ℕ
  pub addend : ℤ
  pub wanted : Wants life (want.Add word addend)
  pub of_page : page_of node word ≡ page

-- Why a page is sent home: for room, for an edge (a Grant, a return, a Sync at a join), or for an add of one of its words.
pub data HasCause (node : Node) (past : Past) (page : ℕ) : Type 0 where
  Room : NeedsRoom node past page → HasCause node past page
  Granting : CanGrant node past → HasCause node past page
  Returning : (life : Life) → HasReturned node past life → HasCause node past page
  Joining : (life : Life) (join : JoinId) → IsAtJoin node past life join → HasCause node past page
  Adding : WantsAddOf node past page → HasCause node past page

-- ---- sendings

abbrev pub IsWord : Node → ℕ → Type 0
IsWord node place = place < node.config.page_words

-- Marked reconcile: a resident page is sent to its home for a cause, with exactly its dirty words marked, at least one, and their cached
-- words.
pub record IsSending (node : Node) (past : Past) (home : ℕ) (part : Part) : Type 0 where
  pub at_home : home ≡ home_of node part.page
  pub is_in : is_resident part.page past ≡ true
  pub fits : PartFits node.config part
  pub some_mark : (place : ℕ) × IsWord node place × (marks part.mask place ≡ true)
  pub dirty : (place : ℕ) → IsWord node place → marks part.mask place ≡ is_dirty node (word_of node part.page place) past
  pub words : (place : ℕ) → IsWord node place → marks part.mask place ≡ true →
      slice_index_or part.words place (pos 0) ≡ cached node (word_of node part.page place) past
  pub cause : HasCause node past part.page

abbrev pub EachIsSending : Node → Past → ℕ → List Part → Type 0
EachIsSending node past home [] = Unit {0}
EachIsSending node past home (part ∷ parts) = IsSending node past home part × EachIsSending node past home parts

-- Marked reconcile: a Reconcile has at least one part, all of pages of one other home, by ascending page. No Reconcile to that home waits
-- for its Ack, so there is one of them in a turn.
pub record MayReconcile (node : Node) (past : Past) (receiver : ℕ) (parts : List Part) : Type 0 where
  pub other : receiver ≢ node.me
  pub some_part : parts ≢ []
  pub ascending : Ascending (pages_of parts)
  pub sendings : EachIsSending node past receiver parts
  pub alone : awaits (ForAck receiver) past ≡ false

-- ---- drops

-- Clean drop: each Write of a word of the page since its arrival was afterwards in a settled sending.
abbrev pub IsClean : Node → ℕ → Past → Type 0
IsClean node page past = (word : ℕ) → page_of node word ≡ page → AllSettled node word (stay page past)

-- an item stands directly before such an item, or directly before the posts, which hold such a message
abbrev pub stands_before : (Item → Bool) → (Body → Bool) → List Item → List Msg → Bool
stands_before item body [] posts = list_any (λ message. body message.body) posts
stands_before item body (next ∷ rest) posts = item next

abbrev pub loads_other : ℕ → Item → Bool
loads_other page (OwnFetch other words) = not (other == page)
loads_other page _ = false

abbrev pub fetches_other : ℕ → Body → Bool
fetches_other page (Fetch other) = not (other == page)
fetches_other page _ = false

abbrev pub adds_to : Node → ℕ → Item → Bool
adds_to node page (Served frame index word old addend) = page_of node word == page
adds_to node page _ = false

abbrev pub posts_add_to : Node → ℕ → Body → Bool
posts_add_to node page (Add frame index word addend) = page_of node word == page
posts_add_to node page _ = false

-- Bounded cache: the victim goes directly before another page is brought in.
pub record IsForRoom (node : Node) (past : Past) (page : ℕ) (rest : List Item) (posts : List Msg) : Type 0 where
  pub victim : IsVictim node past page
  pub place : stands_before (loads_other page) (fetches_other page) rest posts ≡ true

-- or a page goes directly before an add of one of its words
abbrev pub IsForAdd : Node → ℕ → List Item → List Msg → Type 0
IsForAdd node page rest posts = stands_before (adds_to node page) (posts_add_to node page) rest posts ≡ true

abbrev pub takes_up : Option Event → Bool
takes_up (Some (Did (TakeUp frame))) = true
takes_up _ = false

abbrev pub drops_some : Event → Bool
drops_some (Did (Drop page)) = true
drops_some _ = false

-- since a TakeUp only Drops happened
abbrev pub is_at_take_up : Past → Bool
is_at_take_up past = takes_up (latest (λ event. not (drops_some event)) past)

-- Clean drop: a resident clean page is dropped at a take-up, for room or for an add.
pub record MayDrop (node : Node) (past : Past) (page : ℕ) (rest : List Item) (posts : List Msg) : Type 0 where
  pub is_in : is_resident page past ≡ true
  pub clean : IsClean node page past
  pub cause : (is_at_take_up past ≡ true) ⊎ (IsForRoom node past page rest posts ⊎ IsForAdd node page rest posts)

-- ---- take-ups

-- Empty cache at take-up: the oldest frame of the ready list is taken up where the stack is empty, and directly behind it all resident
-- pages are dropped, by ascending number.
pub record MayTakeUp (node : Node) (past : Past) (frame : FrameId) (rest : List Item) : Type 0 where
  pub idle : stack_of node past ≡ []
  pub life : Life
  pub younger : List Life
  pub oldest : (frames_of node past).ready ≡ life ∷ younger
  pub named : frame ≡ life.id
  pub pages : List ℕ
  pub ascending : Ascending pages
  pub all : (page : ℕ) → is_among page pages ≡ is_resident page past
  pub others : List Item
  pub drops : rest ≡ map (λ page. Drop page) pages ++ others
