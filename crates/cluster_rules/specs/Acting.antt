-- The rules for what frames do: which frame may act, and what each of its acts needs.
use Rattle.std.specs.Prelude.{◌≡◌, ◌≢◌, ◌<◌, ◌⊎◌, ℕ, ℤ, true, false, Option, Some, None, List, [], ◌∷◌}
use Rattle.std.specs.List.{list_all}
use Rattle.cilk_meaning.specs.Wants as want
use Rattle.cilk_meaning.specs.Wants.{Request, Asks}
use Rattle.page_messages.specs.declared.closure.FrameId.{FrameId}
use Rattle.page_messages.specs.declared.message.Msg.{Msg}
use Rattle.page_messages.specs.declared.message.Body.TheVariants.{Add, Added}
use Rattle.page_messages.specs.declared.log.LoggedAct.{LoggedAct}
use Rattle.page_messages.specs.declared.log.LoggedAct.TheVariants.{Read, Write, Print, Spawn, Sync}
use Rattle.cluster_rules.specs.Turns.{Past}
use Rattle.cluster_rules.specs.Node.{Node, page_of, home_of}
use Rattle.cluster_rules.specs.Cache.{is_resident, cached}
use Rattle.cluster_rules.specs.Sendings.{IsQuiet}
use Rattle.cluster_rules.specs.Home.{stored, from_me, owed_adds, owed_olds}
use Rattle.cluster_rules.specs.Lives.{Life, want_of, live}
use Rattle.cluster_rules.specs.Frames.{stack_of, highest, next_frame, ticks_of}
use Rattle.cluster_rules.specs.Asks.{asks_of, keeps_ask}

-- the frame makes this request next
abbrev pub Wants : Life → Request → Type 0
Wants life request = want_of life ≡ Some (Asks request)

-- Stack order: only the highest frame that has not returned acts, and each act costs a tick. While an Ask is kept it is the bottom frame.
pub record Acts (node : Node) (past : Past) (frame : FrameId) (life : Life) : Type 0 where
  pub is : highest node past ≡ Some life
  pub named : frame ≡ life.id
  pub budget : ticks_of past < node.config.budget
  pub alone : keeps_ask node past ≡ true → live (stack_of node past) ≡ life ∷ []

-- Resident access, and cached read: the word's page is resident, and the value is the cached word.
pub record MayRead (node : Node) (past : Past) (word : ℕ) (value : ℤ) (life : Life) : Type 0 where
  pub wanted : Wants life (want.Read word)
  pub is_in : is_resident (page_of node word) past ≡ true
  pub value_is : value ≡ cached node word past

-- Resident access: the word's page is resident.
pub record MayWrite (node : Node) (past : Past) (word : ℕ) (value : ℤ) (life : Life) : Type 0 where
  pub wanted : Wants life (want.Write word value)
  pub is_in : is_resident (page_of node word) past ≡ true

-- A child is named by this node and its next number.
pub record MaySpawn (node : Node) (past : Past) (child : FrameId) (procedure : ℕ) (arguments : List ℤ) (life : Life) : Type 0 where
  pub target : Option ℕ
  pub wanted : Wants life (want.Spawn target procedure arguments)
  pub name : child ≡ record { node = node.me; number = next_frame node past }

-- A frame that was granted in this block comes to its Sync from its complete join.
pub record MaySync (life : Life) : Type 0 where
  pub wanted : Wants life want.Sync
  pub joined : life.join ≡ None

abbrev pub MayMake : Node → Past → LoggedAct → Life → Type 0
MayMake node past (Read word value) life = MayRead node past word value life
MayMake node past (Write word value) life = MayWrite node past word value life
MayMake node past (Print value) life = Wants life (want.Print value)
MayMake node past (Spawn child procedure arguments) life = MaySpawn node past child procedure arguments life
MayMake node past Sync life = MaySync life

-- An act is the next one that its frame wants, and has the next index.
pub record MayAct (node : Node) (past : Past) (frame : FrameId) (index : ℕ) (act : LoggedAct) : Type 0 where
  pub life : Life
  pub acts : Acts node past frame life
  pub index_is : index ≡ life.acts
  pub makes : MayMake node past act life

-- A tick is a plain call or a test of a loop.
pub record MayTick (node : Node) (past : Past) (frame : FrameId) : Type 0 where
  pub life : Life
  pub acts : Acts node past frame life
  pub wanted : Wants life want.Call ⊎ Wants life want.LoopTurn

-- ---- adds

-- Add at home: a wanted add of a word whose page is not resident is done at its home.
pub record MayAdd (node : Node) (past : Past) (home : ℕ) (frame : FrameId) (index word : ℕ) (addend : ℤ) : Type 0 where
  pub life : Life
  pub acts : Acts node past frame life
  pub index_is : index ≡ life.acts
  pub wanted : Wants life (want.Add word addend)
  pub absent : is_resident (page_of node word) past ≡ false
  pub at_home : home ≡ home_of node (page_of node word)

-- An own add: this node is the home, and the old value is the stored word.
pub record MayAddHere (node : Node) (past : Past) (frame : FrameId) (index word : ℕ) (old addend : ℤ) : Type 0 where
  pub add : MayAdd node past node.me frame index word addend
  pub old_is : old ≡ stored node word past

-- An Add is posted to a home that is another node, and only where nothing else is waited for.
pub record MayPostAdd (node : Node) (past : Past) (receiver : ℕ) (frame : FrameId) (index word : ℕ) (addend : ℤ) : Type 0 where
  pub add : MayAdd node past receiver frame index word addend
  pub other : receiver ≢ node.me
  pub quiet : IsQuiet past

-- The home does the oldest Add that it owes; the old value is the stored word.
pub record Serves (node : Node) (past : Past) (frame : FrameId) (index word : ℕ) (old addend : ℤ) : Type 0 where
  pub add : Msg
  pub later : List Msg
  pub oldest : owed_adds past ≡ add ∷ later
  pub asked : add.body ≡ Add frame index word addend
  pub old_is : old ≡ stored node word past

-- The home tells the oldest old value that it owes, when each Ask that is not kept is refused.
pub record Tells (node : Node) (past : Past) (receiver : ℕ) (old : ℤ) : Type 0 where
  pub later : List Msg
  pub oldest : owed_olds node past ≡ from_me node receiver (Added old) ∷ later
  pub refused : list_all (λ ask. ask.kept) (asks_of node past) ≡ true
