-- What a node must not do is refused by the rule that says so.
use Rattle.std.proofs.Common.{◌≡◌, ◌≢◌, ◌<◌, inl, inr, ℕ, List, [], ◌∷◌, ◌++◌, Some, None, Bool, true, false, not, map, ◌||◌, ◌==◌, refl, sym, ◌∙◌, subst}
use Rattle.std.specs.List.{list_any}
use Rattle.page_messages.specs.declared.closure.Closure.{Closure}
use Rattle.page_messages.specs.declared.closure.FrameId.{FrameId}
use Rattle.page_messages.specs.declared.closure.JoinId.{JoinId}
use Rattle.page_messages.specs.declared.message.Msg.{Msg}
use Rattle.page_messages.specs.declared.parts.Part.{Part}
use Rattle.page_messages.specs.declared.log.Item.{Item}
use Rattle.page_messages.specs.declared.log.Item.TheVariants.{Drop}
use Rattle.page_messages.specs.declared.log.LoggedAct.TheVariants.{Sync}
use Rattle.page_messages.specs.declared.log.PostAt.{PostAt}
use Rattle.cluster_rules.specs.Turns.{WholeTurn, Past, Waits, takes_at}
use Rattle.cluster_rules.specs.Node.{Node, page_of, word_of}
use Rattle.cluster_rules.specs.Cache.{drops_item, writes, is_resident, is_among, stay}
use Rattle.cluster_rules.specs.Sendings.{marks, sends_word, is_dirty, AllSettled}
use Rattle.cluster_rules.specs.Home.{owed_home_replies}
use Rattle.cluster_rules.specs.Lives.{Life}
use Rattle.cluster_rules.specs.Frames.{highest}
use Rattle.cluster_rules.specs.Asks.{Asked, asks_of, has_frames}
use Rattle.cluster_rules.specs.Acting.{MayAct}
use Rattle.cluster_rules.specs.Paging.{IsSending, MayDrop, MayTakeUp}
use Rattle.cluster_rules.specs.Edges.{MayGrant}
use Rattle.cluster_rules.specs.Runs.{MaySend, AreKept, OwesNothing}
use Rattle.cluster_rules.proofs.Backward.{any_latest, none_front, not_at}

-- ---- settled writes

-- a word that was written and never sent is not settled
unsettled : (node : Node) (word : ℕ) (past : Past) → list_any (writes word) past ≡ true → list_any (sends_word node word) past ≡ false
    → ¬ AllSettled node word past
unsettled node word past wrote unsent all =
    let found = any_latest (writes word) past wrote in
    let settled = all found.1.newer found.1.older found.0 found.1.parts found.1.such in
    let later : list_any (sends_word node word) found.1.newer ≡ false =
    none_front (sends_word node word) found.1.newer (found.0 ∷ found.1.older) (subst (λ it. list_any (sends_word node word) it ≡ false) found.1.parts unsent) in
    let none : sends_word node word settled.event ≡ false =
    not_at (sends_word node word) settled.newer settled.event settled.older (subst (λ it. list_any (sends_word node word) it ≡ false) settled.parts later) in
    let sends = settled.sends in
    absurd (cc)

pub grant_refused : (node : Node) (past : Past) (receiver : ℕ) (closure : Closure) (word : ℕ) → list_any (writes word) past ≡ true
    → list_any (sends_word node word) past ≡ false
    → ¬ MayGrant node past receiver closure
grant_refused node past receiver closure word wrote unsent = λ may. unsettled node word past wrote unsent (may.clean word)

pub drop_refused : (node : Node) (past : Past) (word : ℕ) (rest : List Item) (posts : List Msg) → list_any (writes word) (stay (page_of node word) past) ≡ true
    → list_any (sends_word node word) (stay (page_of node word) past) ≡ false → ¬ MayDrop node past (page_of node word) rest posts
drop_refused node past word rest posts wrote unsent = λ may. unsettled node word (stay (page_of node word) past) wrote unsent (may.clean word refl)

-- ---- take-ups

drops_among_on : (page first : ℕ) (pages : List ℕ) (others : List Item) (b : Bool) → (first == page) ≡ b → b || is_among page pages ≡ true
    → (is_among page pages ≡ true → list_any (drops_item page) (map (λ it. Drop it) pages ++ others) ≡ true)
    → list_any (drops_item page) (Drop first ∷ (map (λ it. Drop it) pages ++ others)) ≡ true
drops_among_on page first pages others true is among before = rw is refl
drops_among_on page first pages others false is among before = rw (is) (before among)

drops_among : (page : ℕ) (pages : List ℕ) (others : List Item) → is_among page pages ≡ true
    → list_any (drops_item page) (map (λ it. Drop it) pages ++ others) ≡ true
drops_among page [] others among = absurd (cc)
drops_among page (first ∷ pages) others among = drops_among_on page first pages others (first == page) refl among (drops_among page pages others)

pub take_up_refused : (node : Node) (past : Past) (frame : FrameId) (rest : List Item) (page : ℕ) → is_resident page past ≡ true
    → list_any (drops_item page) rest ≡ false
    → ¬ MayTakeUp node past frame rest
take_up_refused node past frame rest page resident kept = λ may.
    let among : is_among page may.pages ≡ true = may.all page ∙ resident in
    let dropped = drops_among page may.pages may.others among in
    let none : list_any (drops_item page) (map (λ it. Drop it) may.pages ++ may.others) ≡ false =
    subst (λ it. list_any (drops_item page) it ≡ false) may.drops kept in
    absurd (cc)

-- ---- sendings and replies

pub sending_refused : (node : Node) (past : Past) (home : ℕ) (part : Part) (place : ℕ) → place < node.config.page_words → marks part.mask place ≡ true
    → is_dirty node (word_of node part.page place) past ≡ false → ¬ IsSending node past home part
sending_refused node past home part place within marked clean = λ may. let is = may.dirty place within in absurd (cc)

first_of_both : (due other : Msg) (later rest : List Msg) → due ∷ later ≡ other ∷ rest → other ≡ due
first_of_both due other later rest same = cc

pub reply_refused : (node : Node) (past : Past) (due message : Msg) (later : List Msg) → owed_home_replies node past ≡ due ∷ later → message ≢ due
    → ¬ MaySend node past message
reply_refused node past due message later owed other = λ may. elim may [
  | inl is_due ↦ other (first_of_both due message later is_due.0 (sym owed ∙ is_due.1))
  | inr sends ↦ (let none : due ∷ later ≡ [] = sym owed ∙ sends.none_owed in absurd (cc))
]

-- ---- syncs, deliveries and asks

one_life : (first second : Life) → Some first ≡ Some second → first ≡ second
one_life first second same = cc

pub sync_refused : (node : Node) (past : Past) (life : Life) (join : JoinId) (frame : FrameId) (index : ℕ) → highest node past ≡ Some life
    → life.join ≡ Some join
    → ¬ MayAct node past frame index Sync
sync_refused node past life join frame index is granted = λ may.
    let same : may.life ≡ life = one_life may.life life (sym may.acts.is ∙ is) in
    let none : life.join ≡ None = subst (λ (it : Life). it.join ≡ None) same may.makes.joined in
    let both : Some join ≡ None = sym granted ∙ none in
    absurd (cc)

pub taking_refused : (older : List WholeTurn) (receiver : ℕ) (place : PostAt) (message : Msg) → list_any (λ turn. takes_at place turn.took) older ≡ true
    → ¬ Waits older receiver place message
taking_refused older receiver place message taken = λ waits. let none = waits.not_taken in absurd (cc)

unkept_on : (busy kept : Bool) (asks : List Asked) → not kept || list_any (λ ask. not ask.kept) asks ≡ true → (kept ≡ true) × (busy ≡ true) × AreKept busy asks
    → (list_any (λ ask. not ask.kept) asks ≡ true → ¬ AreKept busy asks) → ⊥
unkept_on busy true asks some kept before = before some kept.2
unkept_on busy false asks some kept before = let is : false ≡ true = kept.0 in absurd (cc)

unkept : (busy : Bool) (asks : List Asked) → list_any (λ ask. not ask.kept) asks ≡ true → ¬ AreKept busy asks
unkept busy [] some kept = absurd (cc)
unkept busy (ask ∷ asks) some kept = unkept_on busy ask.kept asks some kept (unkept busy asks)

pub ask_refused : (node : Node) (past : Past) → list_any (λ ask. not ask.kept) (asks_of node past) ≡ true → ¬ OwesNothing node past
ask_refused node past some = λ owes. unkept (has_frames node past) (asks_of node past) some owes.asks
