-- The cache of a node: which pages are resident, in which order they were used, and what their words are.
use Rattle.std.specs.Prelude.{◌==◌, if◌then◌else◌, ℕ, ℤ, pos, Bool, false, Option, Some, None, is_some, unwrap_or, List, [], ◌∷◌, slice_index_or}
use Rattle.std.specs.List.{list_any}
use Rattle.page_messages.specs.declared.message.Body.{Body}
use Rattle.page_messages.specs.declared.message.Body.TheVariants.{Page}
use Rattle.page_messages.specs.declared.log.LoggedAct.{LoggedAct}
use Rattle.page_messages.specs.declared.log.LoggedAct.TheVariants.{Read, Write}
use Rattle.page_messages.specs.declared.log.Item.{Item}
use Rattle.page_messages.specs.declared.log.Item.TheVariants.{Act, Drop, OwnFetch}
use Rattle.cluster_rules.specs.Walking.{given, since}
use Rattle.cluster_rules.specs.Turns.{Event, Did, Took, Past}
use Rattle.cluster_rules.specs.Node.{Node, page_of, place_of}

-- ---- arrivals

abbrev pub page_in : ℕ → Body → Option (List ℤ)
page_in page (Page other words) = if other == page then Some words else None
page_in page _ = None

abbrev pub own_page_in : ℕ → Item → Option (List ℤ)
own_page_in page (OwnFetch other words) = if other == page then Some words else None
own_page_in page _ = None

-- the words with which a page arrives
abbrev pub brings : ℕ → Event → Option (List ℤ)
brings page (Took message) = page_in page message.body
brings page (Did item) = own_page_in page item
brings page _ = None

-- An arrival of a page: a Page of it is taken, or it is loaded from the node's own home.
abbrev pub arrives : ℕ → Event → Bool
arrives page event = is_some (brings page event)

-- ---- residence

abbrev pub drops_item : ℕ → Item → Bool
drops_item page (Drop other) = other == page
drops_item page _ = false

abbrev pub drops : ℕ → Event → Bool
drops page (Did item) = drops_item page item
drops page _ = false

-- A page is resident from an arrival to the next Drop of it.
abbrev pub is_resident : ℕ → Past → Bool
is_resident page past = list_any (arrives page) (since (drops page) past)

-- what happened since its arrival
abbrev pub stay : ℕ → Past → Past
stay page past = since (arrives page) past

-- ---- cached words

abbrev pub written_act : ℕ → LoggedAct → Option ℤ
written_act word (Write other value) = if other == word then Some value else None
written_act word _ = None

abbrev pub written_item : ℕ → Item → Option ℤ
written_item word (Act frame index act) = written_act word act
written_item word _ = None

-- the value that a Write act puts into a word
abbrev pub written : ℕ → Event → Option ℤ
written word (Did item) = written_item word item
written word _ = None

abbrev pub writes : ℕ → Event → Bool
writes word event = is_some (written word event)

-- the word in the arrival of its page
abbrev pub arrived : Node → ℕ → Past → ℤ
arrived node word past = slice_index_or (unwrap_or (given (brings (page_of node word)) past) []) (place_of node word) (pos 0)

-- A cached word: the last Write of it since the arrival of its page, and where there is none the word in that arrival.
abbrev pub cached : Node → ℕ → Past → ℤ
cached node word past = unwrap_or (given (written word) (stay (page_of node word) past)) (arrived node word past)

-- ---- the order of use

abbrev pub without : ℕ → List ℕ → List ℕ
without page [] = []
without page (other ∷ pages) = if other == page then without page pages else other ∷ without page pages

abbrev pub is_among : ℕ → List ℕ → Bool
is_among page pages = list_any (λ other. other == page) pages

abbrev pub used : ℕ → List ℕ → List ℕ
used page pages = if is_among page pages then page ∷ without page pages else pages

abbrev pub by_use_act : Node → LoggedAct → List ℕ → List ℕ
by_use_act node (Read word value) pages = used (page_of node word) pages
by_use_act node (Write word value) pages = used (page_of node word) pages
by_use_act node _ pages = pages

abbrev pub by_use_item : Node → Item → List ℕ → List ℕ
by_use_item node (Act frame index act) pages = by_use_act node act pages
by_use_item node (Drop page) pages = without page pages
by_use_item node (OwnFetch page words) pages = page ∷ without page pages
by_use_item node _ pages = pages

abbrev pub by_use_body : Body → List ℕ → List ℕ
by_use_body (Page page words) pages = page ∷ without page pages
by_use_body _ pages = pages

abbrev pub by_use_on : Node → Event → List ℕ → List ℕ
by_use_on node (Did item) pages = by_use_item node item pages
by_use_on node (Took message) pages = by_use_body message.body pages
by_use_on node _ pages = pages

-- The resident pages, the last used first. An arrival, a Read and a Write are uses.
unfoldable pub by_use : Node → Past → List ℕ
by_use node [] = []
by_use node (event ∷ past) = by_use_on node event (by_use node past)
