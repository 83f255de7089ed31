-- What stays of a history that grows: the alone runs and depths of its rows.
use Rattle.std.proofs.Common.{◌≡◌, ◌⊎◌, ℕ, ◌<◌, ◌≤◌, List, [], ◌∷◌, length, Option, Some, None, refl, sym, ap, ◌∙◌, subst, inl, inr}
use Rattle.std.proofs.lemmas.Bool.{cases_lt}
use Rattle.std.specs.Prelude.{ℤ}
use Rattle.cilk_meaning.specs.Instance.{Meaning}
use Rattle.cilk_meaning.specs.Wants.{Request, Deposit, Answer}
use Rattle.span_tree.specs.declared.act.Act.{Act}
use Rattle.span_tree.specs.declared.act.Place.{Place}
use Rattle.span_tree.specs.History.{Row, History, row_at}
use Rattle.span_tree.specs.Program.{Block, HaveReturned, IsChild, IsAnswered, Read, Write, Add, Print, Spawn, Sync, AloneRun, Begins, Ticks, Acts, HasDepth, Main, Child, Starts, IsRowOf}
use Rattle.span_tree.proofs.Ways.{none_is, no_row_past}

-- Rows that are there stay what they are, and so do values that were returned.
pub record Grows (h more : History) (returned returned' : ℕ → Option ℤ) : Type 0 where
  pub parent : (q : ℕ) → q < length h → (row_at more q).parent ≡ (row_at h q).parent
  pub proc : (q : ℕ) → q < length h → (row_at more q).proc ≡ (row_at h q).proc
  pub args : (q : ℕ) → q < length h → (row_at more q).args ≡ (row_at h q).args
  pub stays : (q : ℕ) (v : ℤ) → returned q ≡ Some v → returned' q ≡ Some v

-- a row with a parent is there
pub is_there : (h : History) (q : ℕ) (place : Place) → (row_at h q).parent ≡ Some place → q < length h
is_there h q place e = go (cases_lt q (length h))
  where
    go : (q < length h) ⊎ (length h ≤ q) → q < length h
    go (inl lt) = lt
    go (inr le) = absurd (none_is None place refl (sym (ap (λ (r : Row). r.parent) (no_row_past h q le)) ∙ e))

module _ (h more : History) (returned returned' : ℕ → Option ℤ) (grows : Grows h more returned returned') where
  pub returned_grows : (block : Block) (ds : List Deposit) → HaveReturned returned block ds → HaveReturned returned' block ds
  returned_grows [] [] is = tt
  returned_grows [] (d ∷ ds) is = absurd is
  returned_grows (c ∷ block) [] is = absurd is
  returned_grows (c ∷ block) (d ∷ ds) is = (is.0, grows.stays c.1 d.1 is.1, returned_grows block ds is.2)

  child_grows : (child : ℕ) (place : Place) (procedure : ℕ) (arguments : List ℤ) → IsChild h child place procedure arguments → IsChild more child place procedure arguments
  child_grows child place procedure arguments is =
      let lt = is_there h child place is.named in
      record { named = grows.parent child lt ∙ is.named; procedure_is = grows.proc child lt ∙ is.procedure_is; arguments_are = grows.args child lt ∙ is.arguments_are }

  answered_grows : (place : Place) (request : Request) (made : Act) (answer : Answer) (block behind : Block) → IsAnswered h returned place request made answer block behind →
      IsAnswered more returned' place request made answer block behind
  answered_grows place _ _ _ _ _ (Read word value block) = Read word value block
  answered_grows place _ _ _ _ _ (Write word value block) = Write word value block
  answered_grows place _ _ _ _ _ (Add word old addend block) = Add word old addend block
  answered_grows place _ _ _ _ _ (Print value block) = Print value block
  answered_grows place _ _ _ _ _ (Spawn target procedure arguments child block is) = Spawn target procedure arguments child block (child_grows child place procedure arguments is)
  answered_grows place _ _ _ _ _ (Sync block ds is) = Sync block ds (returned_grows block ds is)

  pub run_grows : (row : ℕ) (begin : Meaning) (acts : List Act) (block : Block) (goes : Meaning) → AloneRun h returned row begin acts block goes → AloneRun more returned' row begin acts block goes
  run_grows row begin _ _ _ Begins = Begins
  run_grows row begin _ _ _ (Ticks acts block goes run quiet) = Ticks acts block goes (run_grows row begin acts block goes run) quiet
  run_grows row begin _ _ _ (Acts acts block behind goes request made answer run is answered) =
      Acts acts block behind goes request made answer (run_grows row begin acts block goes run) is
      (answered_grows (record { row = row; act = length acts }) request made answer block behind answered)

  pub depth_grows : (row depth : ℕ) → HasDepth h row depth → HasDepth more row depth
  depth_grows _ _ Main = Main
  depth_grows row _ (Child _ parent depth e d) = Child row parent depth (grows.parent row (is_there h row parent e) ∙ e) (depth_grows parent.row depth d)

  -- a run from a row's begin
  pub begin_grows : (starts : Starts) (row depth : ℕ) (acts : List Act) (block : Block) (goes : Meaning) → row < length h →
      AloneRun h returned row (starts depth (row_at h row).proc (row_at h row).args) acts block goes →
      AloneRun more returned' row (starts depth (row_at more row).proc (row_at more row).args) acts block goes
  begin_grows starts row depth acts block goes lt run =
      subst (λ f. AloneRun more returned' row (starts depth f (row_at more row).args) acts block goes) (sym (grows.proc row lt))
      (subst (λ vs. AloneRun more returned' row (starts depth (row_at h row).proc vs) acts block goes) (sym (grows.args row lt))
      (run_grows row (starts depth (row_at h row).proc (row_at h row).args) acts block goes run))

  -- a row that has no act more, and no value more
  pub row_grows : (starts : Starts) (row : ℕ) → row < length h → (row_at more row).acts ≡ (row_at h row).acts → returned' row ≡ returned row →
      IsRowOf starts h returned row → IsRowOf starts more returned' row
  row_grows starts row lt same value is = record {
    depth = is.depth;
    block = is.block;
    goes = is.goes;
    has_depth = depth_grows row is.depth is.has_depth;
    alone_run = subst (λ acts. AloneRun more returned' row (starts is.depth (row_at more row).proc (row_at more row).args) acts is.block is.goes) (sym same)
        (begin_grows starts row is.depth (row_at h row).acts is.block is.goes lt is.alone_run);
    returns = λ v e. is.returns v (sym value ∙ e);
  }
