-- Searches for a proof that a node may bring, send or drop a page.
use Rattle.std.proofs.Common.{◌≡◌, ◌≢◌, ◌<◌, ◌^◌, ◌==◌, ℕ, zero, suc, ℤ, pos, List, [], ◌∷◌, ◌++◌, length, map, inl, inr, ◌⊎◌, Option, Some, None, Bool, true, false, cond, eqb, ◌||◌, is_some, refl, sym, ◌∙◌, ap, subst, slice_index_or, arith}
use Rattle.std.proofs.lemmas.Bool.Decides.{nat_tests}
use Rattle.std.specs.List.{list_any, list_all}
use Rattle.cilk_meaning.specs.Wants as want
use Rattle.page_messages.specs.Fitting.{PartFits, Ascending, pages_of}
use Rattle.page_messages.specs.declared.closure.FrameId.{FrameId}
use Rattle.page_messages.specs.declared.closure.JoinId.{JoinId}
use Rattle.page_messages.specs.declared.message.Msg.{Msg}
use Rattle.page_messages.specs.declared.message.Body.{Body}
use Rattle.page_messages.specs.declared.message.Body.TheVariants.{Fetch, Page, Reconcile, Ack, Ask, Grant, Refuse, Done, Park, Add, Added}
use Rattle.page_messages.specs.declared.parts.Part.{Part}
use Rattle.page_messages.specs.declared.log.LoggedAct.{LoggedAct}
use Rattle.page_messages.specs.declared.log.LoggedAct.TheVariants.{Read, Write, Print, Spawn, Sync}
use Rattle.page_messages.specs.declared.log.Item.{Item}
use Rattle.page_messages.specs.declared.log.Item.TheVariants.{Act, Tick, Drop, TakeUp, OwnFetch, OwnReconcile, Served}
use Rattle.cluster_rules.specs.Walking.{since, last_of}
use Rattle.cluster_rules.specs.Turns.{Event, Did, Sent, Took, Ended, Past}
use Rattle.cluster_rules.specs.Node.{Node, page_of, home_of, word_of}
use Rattle.cluster_rules.specs.Cache.{arrives, drops, writes, is_resident, stay, cached, without, is_among, used, by_use, by_use_act, by_use_item, by_use_body}
use Rattle.cluster_rules.specs.Sendings.{marks, is_dirty, ForAck, awaits, IsQuiet, AllSettled}
use Rattle.cluster_rules.specs.Home.{stored_page}
use Rattle.cluster_rules.specs.Lives.{Life, want_of, live}
use Rattle.cluster_rules.specs.Frames.{frames_of, stack_of, highest}
use Rattle.cluster_rules.specs.Asks.{keeps_ask}
use Rattle.cluster_rules.specs.Paging.{word_wanted, WantsPage, MayBring, MayLoad, MayFetch, IsVictim, HasReturned, IsAtJoin, CanGrant, NeedsRoom, WantsAddOf, HasCause, Room, Granting, Returning, Joining, Adding, IsSending, EachIsSending, MayReconcile, IsClean, stands_before, loads_other, fetches_other, adds_to, posts_add_to, IsForRoom, IsForAdd, is_at_take_up, MayDrop, MayTakeUp}
use Rattle.cluster_rules.specs.Edges.{IsAllClean}
use Rattle.cluster_rules.proofs.Quieting.{open_waits, quiet_by}
use Rattle.cluster_rules.proofs.Settling.{settled_unwritten, are_sent_home, settled_by, all_sent_home}
use Rattle.cluster_rules.proofs.Testing.{both_true}
use Rattle.cluster_rules.proofs.Deciding.{◌>>=◌, or_try, where_true, holds, fails, same, differ, less, at_most, same_bool, same_int, same_option, same_list, found, none, split, same_frame_id, asks, adds, where_needed}

abbrev pub quiet : (past : Past) → Option (IsQuiet past)
quiet past = do
  is ← none (open_waits past)
  Some (quiet_by past is)

-- ---- clean words

abbrev pub words_in_act : LoggedAct → List ℕ
words_in_act (Write word value) = word ∷ []
words_in_act _ = []

abbrev pub words_in_item : Item → List ℕ
words_in_item (Act frame index act) = words_in_act act
words_in_item _ = []

abbrev pub words_in : Event → List ℕ
words_in (Did item) = words_in_item item
words_in _ = []

-- the words that were written
abbrev pub written_words : Past → List ℕ
written_words [] = []
written_words (event ∷ past) = words_in event ++ written_words past

unwritten_act : (word other : ℕ) (value : ℤ) (b : Bool) (words : List ℕ) (past : Past) → (other == word) ≡ b → b || is_among word words ≡ false
    → (is_among word words ≡ false → list_any (writes word) past ≡ false) → is_some (cond b (Some value) None) || list_any (writes word) past ≡ false
unwritten_act word other value true words past is none before = absurd (cc)
unwritten_act word other value false words past is none before = before none

unwritten_in_act : (word : ℕ) (frame : FrameId) (index : ℕ) (act : LoggedAct) (past : Past) → is_among word (words_in_act act ++ written_words past) ≡ false
    → (is_among word (written_words past) ≡ false → list_any (writes word) past ≡ false) → list_any (writes word) (Did (Act frame index act) ∷ past) ≡ false
unwritten_in_act word frame index (Write other value) past none before =
    unwritten_act word other value (other == word) (written_words past) past refl none before
unwritten_in_act word frame index (Read other value) past none before = before none
unwritten_in_act word frame index (Print value) past none before = before none
unwritten_in_act word frame index (Spawn child procedure arguments) past none before = before none
unwritten_in_act word frame index Sync past none before = before none

unwritten_in : (word : ℕ) (item : Item) (past : Past) → is_among word (words_in_item item ++ written_words past) ≡ false
    → (is_among word (written_words past) ≡ false → list_any (writes word) past ≡ false) → list_any (writes word) (Did item ∷ past) ≡ false
unwritten_in word (Act frame index act) past none before = unwritten_in_act word frame index act past none before
unwritten_in word (Tick frame) past none before = before none
unwritten_in word (Drop page) past none before = before none
unwritten_in word (TakeUp frame) past none before = before none
unwritten_in word (OwnFetch page words) past none before = before none
unwritten_in word (OwnReconcile part) past none before = before none
unwritten_in word (Served frame index other old addend) past none before = before none

-- no other word was written
unwritten : (word : ℕ) (past : Past) → is_among word (written_words past) ≡ false → list_any (writes word) past ≡ false
unwritten word [] none = refl
unwritten word (Did item ∷ past) none = unwritten_in word item past none (unwritten word past)
unwritten word (Sent message ∷ past) none = unwritten word past none
unwritten word (Took message ∷ past) none = unwritten word past none
unwritten word (Ended end ∷ past) none = unwritten word past none

sent_among_on : (node : Node) (word first : ℕ) (words : List ℕ) (past : Past) (b : Bool) → (first == word) ≡ b → are_sent_home node first [] past ≡ true
    → b || is_among word words ≡ true
    → (is_among word words ≡ true → are_sent_home node word [] past ≡ true) → are_sent_home node word [] past ≡ true
sent_among_on node word first words past true is sent among before =
    let one : first ≡ word = grind (arith, nat_tests) in subst (λ it. are_sent_home node it [] past ≡ true) one sent
sent_among_on node word first words past false is sent among before = before among

sent_among : (node : Node) (word : ℕ) (words : List ℕ) (past : Past) → all_sent_home node words past ≡ true → is_among word words ≡ true
    → are_sent_home node word [] past ≡ true
sent_among node word [] past all among = absurd (cc)
sent_among node word (first ∷ words) past all among =
    let both = both_true (are_sent_home node first [] past) (all_sent_home node words past) all in
    sent_among_on node word first words past (first == word) refl both.0 among (sent_among node word words past both.1)

settled_on : (node : Node) (word : ℕ) (past : Past) (b : Bool) → is_among word (written_words past) ≡ b → all_sent_home node (written_words past) past ≡ true
    → AllSettled node word past
settled_on node word past true is all = settled_by node word past (sent_among node word (written_words past) past all is)
settled_on node word past false is all = settled_unwritten node word past (unwritten word past is)

-- All Writes are settled, where those of the written words are.
pub all_settled : (node : Node) (past : Past) → all_sent_home node (written_words past) past ≡ true → (word : ℕ) → AllSettled node word past
all_settled node past all word = settled_on node word past (is_among word (written_words past)) refl all

abbrev pub settled : (node : Node) (past : Past) → Option ((word : ℕ) → AllSettled node word past)
settled node past = where_true (all_sent_home node (written_words past) past) (all_settled node past)

abbrev pub all_clean : (node : Node) (past : Past) → Option (IsAllClean node past)
all_clean node past = settled node past

abbrev pub clean : (node : Node) (page : ℕ) (past : Past) → Option (IsClean node page past)
clean node page past = do
  all ← settled node (stay page past)
  Some (λ word of_page. all word)

-- ---- resident pages

among_without_on : (page other first : ℕ) (pages : List ℕ) (a b : Bool) → (first == other) ≡ a → (first == page) ≡ b → (other == page) ≡ false
    → is_among page (without other pages) ≡ is_among page pages
    → is_among page (cond a (without other pages) (first ∷ without other pages)) ≡ b || is_among page pages
among_without_on page other first pages true true same is apart before =
    let one : first ≡ other = grind (arith, nat_tests) in
    let two : first ≡ page = grind (arith, nat_tests) in
    let three : (other == page) ≡ true = grind (arith, nat_tests) in absurd (cc)
among_without_on page other first pages true false same is apart before = before
among_without_on page other first pages false true same is apart before = rw is refl
among_without_on page other first pages false false same is apart before = rw is before

among_without : (page other : ℕ) (pages : List ℕ) → (other == page) ≡ false → is_among page (without other pages) ≡ is_among page pages
among_without page other [] apart = refl
among_without page other (first ∷ pages) apart =
    among_without_on page other first pages (first == other) (first == page) refl refl apart (among_without page other pages apart)

none_without_on : (page first : ℕ) (pages : List ℕ) (b : Bool) → (first == page) ≡ b → is_among page (without page pages) ≡ false
    → is_among page (cond b (without page pages) (first ∷ without page pages)) ≡ false
none_without_on page first pages true is before = before
none_without_on page first pages false is before = rw is before

none_without : (page : ℕ) (pages : List ℕ) → is_among page (without page pages) ≡ false
none_without page [] = refl
none_without page (first ∷ pages) = none_without_on page first pages (first == page) refl (none_without page pages)

-- a page that comes
among_first : (page other : ℕ) (pages : List ℕ) (b : Bool) → (other == page) ≡ b → b || is_among page (without other pages) ≡ b || is_among page pages
among_first page other pages true is = refl
among_first page other pages false is = among_without page other pages is

-- a page that goes
among_gone : (page other : ℕ) (pages : List ℕ) (b : Bool) → (other == page) ≡ b → is_among page (without other pages) ≡ cond b false (is_among page pages)
among_gone page other pages true is =
    let one : other ≡ page = grind (arith, nat_tests) in subst (λ it. is_among page (without it pages) ≡ false) (sym one) (none_without page pages)
among_gone page other pages false is = among_without page other pages is

among_used_on : (page other : ℕ) (pages : List ℕ) (in_them b : Bool) → is_among other pages ≡ in_them → (other == page) ≡ b
    → is_among page (cond in_them (other ∷ without other pages) pages) ≡ is_among page pages
among_used_on page other pages false b is test = refl
among_used_on page other pages true true is test =
    let one : other ≡ page = grind (arith, nat_tests) in
    let in_pages : is_among page pages ≡ true = subst (λ it. is_among it pages ≡ true) one is in
    rw (test, in_pages) refl
among_used_on page other pages true false is test = rw test (among_without page other pages test)

among_used : (page other : ℕ) (pages : List ℕ) → is_among page (used other pages) ≡ is_among page pages
among_used page other pages = among_used_on page other pages (is_among other pages) (other == page) refl refl

arrival : (b resident : Bool) (words : List ℤ) → b || resident ≡ is_some (cond b (Some words) None) || resident
arrival true resident words = refl
arrival false resident words = refl

departure : (page other : ℕ) (past : Past) (b : Bool)
    → cond b false (is_resident page past) ≡ list_any (arrives page) (cond b [] (Did (Drop other) ∷ since (drops page) past))
departure page other past true = refl
departure page other past false = refl

by_act : (node : Node) (page : ℕ) (act : LoggedAct) (pages : List ℕ) → is_among page (by_use_act node act pages) ≡ is_among page pages
by_act node page (Read word value) pages = among_used page (page_of node word) pages
by_act node page (Write word value) pages = among_used page (page_of node word) pages
by_act node page (Print value) pages = refl
by_act node page (Spawn child procedure arguments) pages = refl
by_act node page Sync pages = refl

by_item : (node : Node) (page : ℕ) (item : Item) (past : Past) (pages : List ℕ) → is_among page pages ≡ is_resident page past
    → is_among page (by_use_item node item pages) ≡ is_resident page (Did item ∷ past)
by_item node page (Act frame index act) past pages before = by_act node page act pages ∙ before
by_item node page (Tick frame) past pages before = before
by_item node page (Drop other) past pages before =
    among_gone page other pages (other == page) refl ∙ ap (λ it. cond (other == page) false it) before ∙ departure page other past (other == page)
by_item node page (TakeUp frame) past pages before = before
by_item node page (OwnFetch other words) past pages before =
    among_first page other pages (other == page) refl ∙ ap (λ it. (other == page) || it) before ∙ arrival (other == page) (is_resident page past) words
by_item node page (OwnReconcile part) past pages before = before
by_item node page (Served frame index word old addend) past pages before = before

by_body : (page : ℕ) (sender receiver : ℕ) (body : Body) (past : Past) (pages : List ℕ) → is_among page pages ≡ is_resident page past
    → is_among page (by_use_body body pages) ≡ is_resident page (Took (record { sender = sender; receiver = receiver; body = body }) ∷ past)
by_body page sender receiver (Page other words) past pages before =
    among_first page other pages (other == page) refl ∙ ap (λ it. (other == page) || it) before ∙ arrival (other == page) (is_resident page past) words
by_body page sender receiver (Fetch other) past pages before = before
by_body page sender receiver (Reconcile parts) past pages before = before
by_body page sender receiver Ack past pages before = before
by_body page sender receiver Ask past pages before = before
by_body page sender receiver (Grant closure) past pages before = before
by_body page sender receiver Refuse past pages before = before
by_body page sender receiver (Done join index value) past pages before = before
by_body page sender receiver (Park join closure) past pages before = before
by_body page sender receiver (Add frame index word addend) past pages before = before
by_body page sender receiver (Added old) past pages before = before

-- The order of use lists the resident pages.
pub used_is_resident : (node : Node) (page : ℕ) (past : Past) → is_among page (by_use node past) ≡ is_resident page past
unfolding by_use
used_is_resident node page [] = refl
used_is_resident node page (Did item ∷ past) = by_item node page item past (by_use node past) (used_is_resident node page past)
used_is_resident node page (Sent message ∷ past) = used_is_resident node page past
used_is_resident node page (Took message ∷ past) =
    by_body page message.sender message.receiver message.body past (by_use node past) (used_is_resident node page past)
used_is_resident node page (Ended end ∷ past) = used_is_resident node page past

-- ---- pages that come

abbrev pub wants_page : (node : Node) (past : Past) (page : ℕ) → Option (WantsPage node past page)
wants_page node past page = do
  top ← found (highest node past)
  word ← found (word_wanted (want_of top.0))
  of_page ← same (page_of node word.0) page
  absent ← fails (is_resident page past)
  Some (record { life = top.0; is = top.1; word = word.0; wanted = word.1; of_page = of_page; absent = absent })

abbrev pub may_bring : (node : Node) (past : Past) (home page : ℕ) → Option (MayBring node past home page)
may_bring node past home page = do
  wanted ← wants_page node past page
  room ← less (length (by_use node past)) node.config.cache_pages
  at_home ← same home (home_of node page)
  Some (record { wanted = wanted; room = room; at_home = at_home })

abbrev pub may_load : (node : Node) (past : Past) (page : ℕ) (words : List ℤ) → Option (MayLoad node past page words)
may_load node past page words = do
  bring ← may_bring node past node.me page
  words_are ← same_list same_int words (stored_page node page past)
  Some (record { bring = bring; words_are = words_are })

abbrev pub may_fetch : (node : Node) (past : Past) (receiver page : ℕ) → Option (MayFetch node past receiver page)
may_fetch node past receiver page = do
  bring ← may_bring node past receiver page
  other ← differ receiver node.me
  is_quiet ← quiet past
  Some (record { bring = bring; other = other; quiet = is_quiet })

-- ---- causes

abbrev pub is_victim : (node : Node) (past : Past) (page : ℕ) → Option (IsVictim node past page)
is_victim node past page = do
  full ← same (length (by_use node past)) node.config.cache_pages
  least ← same_option same (last_of (by_use node past)) (Some page)
  Some (record { full = full; least = least })

abbrev pub has_returned : (node : Node) (past : Past) → Option ((life : Life) × HasReturned node past life)
has_returned node past = do
  bottom ← found (last_of (stack_of node past))
  none_left ← none (live (stack_of node past))
  Some (bottom.0, record { at_bottom = bottom.1; none_left = none_left })

abbrev pub single : {A : Type 0} → (list : List A) → Option ((only : A) × (list ≡ only ∷ []))
single [] = None
single (only ∷ []) = Some (only, refl)
single (first ∷ second ∷ rest) = None

abbrev pub at_join : (node : Node) (past : Past) → Option ((life : Life) × (join : JoinId) × IsAtJoin node past life join)
at_join node past = do
  alone ← single (live (stack_of node past))
  wanted ← asks (want_of alone.0) want.Sync
  join ← found alone.0.join
  Some (alone.0, join.0, record { alone = alone.1; wanted = wanted; granted = join.1 })

abbrev pub can_grant : (node : Node) (past : Past) → Option (CanGrant node past)
can_grant node past = do
  keeps ← holds (keeps_ask node past)
  two ← at_most 2 (length (stack_of node past))
  Some (record { keeps = keeps; two = two })

abbrev pub needs_room : (node : Node) (past : Past) (page : ℕ) → Option (NeedsRoom node past page)
needs_room node past page = do
  victim ← is_victim node past page
  top ← found (highest node past)
  word ← found (word_wanted (want_of top.0))
  wanted ← wants_page node past (page_of node word.0)
  Some (record { victim = victim; other = page_of node word.0; wanted = wanted })

abbrev pub wants_add_of : (node : Node) (past : Past) (page : ℕ) → Option (WantsAddOf node past page)
wants_add_of node past page = do
  top ← found (highest node past)
  add ← adds (want_of top.0)
  of_page ← same (page_of node add.0) page
  Some (record { life = top.0; is = top.1; word = add.0; addend = add.1; wanted = add.2; of_page = of_page })

abbrev pub has_cause : (node : Node) (past : Past) (page : ℕ) → Option (HasCause node past page)
has_cause node past page =
    or_try (needs_room node past page >>= λ room. Some (Room room))
    (or_try (can_grant node past >>= λ can. Some (Granting can))
    (or_try (has_returned node past >>= λ returned. Some (Returning returned.0 returned.1))
    (or_try (at_join node past >>= λ waits. Some (Joining waits.0 waits.1 waits.2)) (wants_add_of node past page >>= λ add. Some (Adding add)))))

-- ---- sendings

pub none_below : (P : ℕ → Type 0) (place : ℕ) → place < 0 → P place
none_below P place within = absurd (omega (arith, within))

with_last_on : (P : ℕ → Type 0) (count place : ℕ) (b : Bool) → eqb place count ≡ b → ((it : ℕ) → it < count → P it) → P count → place < suc count → P place
with_last_on P count place true is before last within = let one : place ≡ count = grind (arith, nat_tests) in subst P (sym one) last
with_last_on P count place false is before last within = before place (grind (arith, nat_tests))

pub with_last : (P : ℕ → Type 0) (count : ℕ) → ((it : ℕ) → it < count → P it) → P count → (place : ℕ) → place < suc count → P place
with_last P count before last place within = with_last_on P count place (eqb place count) refl before last within

-- a proof for each place
abbrev pub each_below : {P : ℕ → Type 0} → ((place : ℕ) → Option (P place)) → (count : ℕ) → Option ((place : ℕ) → place < count → P place)
each_below {P} search zero = Some (none_below P)
each_below {P} search (suc count) = do
  before ← each_below search count
  last ← search count
  Some (with_last P count before last)

pub one_more : (place count : ℕ) → place < count → place < suc count
one_more place count within = omega (arith, within)

pub last_place : (count : ℕ) → count < suc count
last_place count = omega arith

abbrev pub first_marked : (mask count : ℕ) → Option ((place : ℕ) × (place < count) × (marks mask place ≡ true))
first_marked mask zero = None
first_marked mask (suc count) =
    or_try (holds (marks mask count) >>= λ is. Some (count, last_place count, is))
    (first_marked mask count >>= λ first. Some (first.0, one_more first.0 count first.1, first.2))

abbrev pub part_fits : (node : Node) (part : Part) → Option (PartFits node.config part)
part_fits node part = do
  words ← same (length part.words) node.config.page_words
  marked ← less part.mask (2 ^ node.config.page_words)
  Some (record { words = words; marks = marked })

abbrev pub is_sending : (node : Node) (past : Past) (home : ℕ) (part : Part) → Option (IsSending node past home part)
is_sending node past home part = do
  at_home ← same home (home_of node part.page)
  is_in ← holds (is_resident part.page past)
  fits ← part_fits node part
  some_mark ← first_marked part.mask node.config.page_words
  dirty ← each_below (λ place. same_bool (marks part.mask place) (is_dirty node (word_of node part.page place) past)) node.config.page_words
  words ← each_below (λ place. where_needed (marks part.mask place)
      (same_int (slice_index_or part.words place (pos 0)) (cached node (word_of node part.page place) past))) node.config.page_words
  cause ← has_cause node past part.page
  Some (record { at_home = at_home; is_in = is_in; fits = fits; some_mark = some_mark; dirty = dirty; words = words; cause = cause })

abbrev pub each_is_sending : (node : Node) (past : Past) (home : ℕ) (parts : List Part) → Option (EachIsSending node past home parts)
each_is_sending node past home [] = Some tt
each_is_sending node past home (part ∷ parts) = do
  first ← is_sending node past home part
  rest ← each_is_sending node past home parts
  Some (first, rest)

abbrev pub ascending : (pages : List ℕ) → Option (Ascending pages)
ascending [] = Some tt
ascending (first ∷ []) = Some tt
ascending (first ∷ (second ∷ rest)) = do
  before ← less first second
  others ← ascending (second ∷ rest)
  Some (before, others)

pub not_nil : {A : Type 0} (first : A) (rest list : List A) → list ≡ first ∷ rest → list ≢ []
not_nil first rest list is empty = absurd (cc)

abbrev pub may_reconcile : (node : Node) (past : Past) (receiver : ℕ) (parts : List Part) → Option (MayReconcile node past receiver parts)
may_reconcile node past receiver parts = do
  other ← differ receiver node.me
  some_part ← split parts
  in_order ← ascending (pages_of parts)
  sendings ← each_is_sending node past receiver parts
  alone ← fails (awaits (ForAck receiver) past)
  Some (record { other = other; some_part = not_nil some_part.0 some_part.1 parts some_part.2; ascending = in_order; sendings = sendings; alone = alone })

-- ---- drops

abbrev pub is_for_room : (node : Node) (past : Past) (page : ℕ) (rest : List Item) (posts : List Msg) → Option (IsForRoom node past page rest posts)
is_for_room node past page rest posts = do
  victim ← is_victim node past page
  place ← holds (stands_before (loads_other page) (fetches_other page) rest posts)
  Some (record { victim = victim; place = place })

abbrev pub why_dropped : (node : Node) (past : Past) (page : ℕ) (rest : List Item) (posts : List Msg)
    → Option ((is_at_take_up past ≡ true) ⊎ (IsForRoom node past page rest posts ⊎ IsForAdd node page rest posts))
why_dropped node past page rest posts =
    or_try (holds (is_at_take_up past) >>= λ at. Some (inl at))
    (or_try (is_for_room node past page rest posts >>= λ room. Some (inr (inl room)))
    (holds (stands_before (adds_to node page) (posts_add_to node page) rest posts) >>= λ add. Some (inr (inr add))))

abbrev pub may_drop : (node : Node) (past : Past) (page : ℕ) (rest : List Item) (posts : List Msg) → Option (MayDrop node past page rest posts)
may_drop node past page rest posts = do
  is_in ← holds (is_resident page past)
  is_clean ← clean node page past
  cause ← why_dropped node past page rest posts
  Some (record { is_in = is_in; clean = is_clean; cause = cause })

-- ---- take-ups

-- the Drops in front
pub record Drops (items : List Item) : Type 0 where
  pub pages : List ℕ
  pub others : List Item
  pub parts : items ≡ map (λ page. Drop page) pages ++ others

abbrev pub with_drop : (item : Item) (rest : List Item) → Drops rest → Drops (item ∷ rest)
with_drop (Drop page) rest behind = record { pages = page ∷ behind.pages; others = behind.others; parts = ap (λ it. Drop page ∷ it) behind.parts }
with_drop item rest behind = record { pages = []; others = item ∷ rest; parts = refl }

abbrev pub drops_in_front : (items : List Item) → Drops items
drops_in_front [] = record { pages = []; others = []; parts = refl }
drops_in_front (item ∷ rest) = with_drop item rest (drops_in_front rest)

abbrev pub all_among : List ℕ → List ℕ → Bool
all_among pages others = list_all (λ page. is_among page others) pages

among_all_on : (page first : ℕ) (pages others : List ℕ) (b : Bool) → (first == page) ≡ b → is_among first others ≡ true → b || is_among page pages ≡ true
    → (is_among page pages ≡ true → is_among page others ≡ true) → is_among page others ≡ true
among_all_on page first pages others true is in_others among before =
    let one : first ≡ page = grind (arith, nat_tests) in subst (λ it. is_among it others ≡ true) one in_others
among_all_on page first pages others false is in_others among before = before among

among_all : (page : ℕ) (pages others : List ℕ) → all_among pages others ≡ true → is_among page pages ≡ true → is_among page others ≡ true
among_all page [] others all among = absurd (cc)
among_all page (first ∷ pages) others all among =
    let both = both_true (is_among first others) (all_among pages others) all in
    among_all_on page first pages others (first == page) refl both.0 among (among_all page pages others both.1)

same_truth : (a b : Bool) → (a ≡ true → b ≡ true) → (b ≡ true → a ≡ true) → a ≡ b
same_truth true true forth back = refl
same_truth true false forth back = sym (forth refl)
same_truth false true forth back = back refl
same_truth false false forth back = refl

pub all_resident : (node : Node) (past : Past) (pages : List ℕ) → all_among pages (by_use node past) ≡ true → all_among (by_use node past) pages ≡ true
    → (page : ℕ) → is_among page pages ≡ is_resident page past
all_resident node past pages forth back page =
    same_truth (is_among page pages) (is_among page (by_use node past)) (among_all page pages (by_use node past) forth)
    (among_all page (by_use node past) pages back)
    ∙ used_is_resident node page past

abbrev pub may_take_up : (node : Node) (past : Past) (frame : FrameId) (rest : List Item) → Option (MayTakeUp node past frame rest)
may_take_up node past frame rest = do
  idle ← none (stack_of node past)
  oldest ← split (frames_of node past).ready
  named ← same_frame_id frame oldest.0.id
  in_order ← ascending (drops_in_front rest).pages
  forth ← holds (all_among (drops_in_front rest).pages (by_use node past))
  back ← holds (all_among (by_use node past) (drops_in_front rest).pages)
  Some (record {
    idle = idle;
    life = oldest.0;
    younger = oldest.1;
    oldest = oldest.2;
    named = named;
    pages = (drops_in_front rest).pages;
    ascending = in_order;
    all = all_resident node past (drops_in_front rest).pages forth back;
    others = (drops_in_front rest).others;
    drops = (drops_in_front rest).parts;
  })
