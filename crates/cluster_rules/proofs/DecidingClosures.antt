-- A search for a proof that a closure is the state of its frame: where that comes from and what it wants is given, all else is found.
use Rattle.std.proofs.Common.{◌≡◌, List, [], ◌∷◌, Option, Some, None, true, is_some, refl, sym, ◌∙◌, ap}
use Rattle.cilk_meaning.specs.Instance.{Meaning}
use Rattle.cilk_meaning.specs.Wants.{Answer, Value, Children, Done}
use Rattle.machine_code.specs.Early.{at_sync}
use Rattle.machine_code.specs.Machine.{wants}
use Rattle.page_messages.specs.declared.closure.Child.{Child}
use Rattle.page_messages.specs.declared.closure.Closure.{Closure}
use Rattle.page_messages.specs.declared.closure.Link.{Link}
use Rattle.page_messages.specs.declared.closure.Link.TheVariants.{Root, Here, Away}
use Rattle.cluster_rules.specs.Node.{Node}
use Rattle.cluster_rules.specs.Lives.{Life}
use Rattle.cluster_rules.specs.Edges.{ComesFrom, IsClosure}
use Rattle.cluster_rules.proofs.Backward.{gives_some}
use Rattle.cluster_rules.proofs.Deciding.{◌>>=◌, same, same_option, same_list, same_frame_id, same_join_id}

none_at_sync : (answers : List Answer) → at_sync [] answers ≡ answers
none_at_sync [] = refl
none_at_sync (Value v ∷ answers) = ap (λ l. Value v ∷ l) (none_at_sync answers)
none_at_sync (Done ∷ answers) = ap (λ l. Done ∷ l) (none_at_sync answers)
none_at_sync (Children more ∷ answers) = refl

abbrev pub same_child : (a b : Child) → Option (a ≡ b)
same_child a b = do
  indices ← same a.index b.index
  targets ← same_option same a.target b.target
  Some (λ i. record { index = indices i; target = targets i })

abbrev pub same_link : (a b : Link) → Option (a ≡ b)
same_link Root Root = Some refl
same_link Here Here = Some refl
same_link (Away join) (Away other) = do
  is ← same_join_id join other
  Some (ap Away is)
same_link _ _ = None

-- what is plain data
pub record SameData (life : Life) (closure : Closure) : Type 0 where
  pub id : closure.id ≡ life.id
  pub depth : closure.frame.frame.depth ≡ life.depth
  pub acts : closure.acts ≡ life.acts
  pub link : closure.link ≡ life.link
  pub spawned : closure.spawned ≡ life.spawned
  pub join : closure.join ≡ life.join
  pub away : closure.away ≡ life.away

abbrev pub same_data : (life : Life) (closure : Closure) → Option (SameData life closure)
same_data life closure = do
  id ← same_frame_id closure.id life.id
  depth ← same closure.frame.frame.depth life.depth
  acts ← same closure.acts life.acts
  link ← same_link closure.link life.link
  spawned ← same_child closure.spawned life.spawned
  join ← same_option same_join_id closure.join life.join
  away ← same_list same_child closure.away life.away
  Some (record { id = id; depth = depth; acts = acts; link = link; spawned = spawned; join = join; away = away })

-- what a frame wants, where nothing is kept for its next sync
pub goes_alike : {own goes : Meaning} → ((answers : List Answer) → own answers ≡ goes answers) → (answers : List Answer)
    → own answers ≡ goes (at_sync [] answers)
goes_alike {goes = goes} alike answers = alike answers ∙ ap goes (sym (none_at_sync answers))

pub closure_by : {node : Node} {life : Life} {closure : Closure} → ComesFrom node life.origin life.depth closure.frame.frame
    → ((answers : List Answer) → wants node.code closure.frame.frame answers ≡ life.goes (at_sync life.kept answers)) → is_some (same_data life closure) ≡ true
    → IsClosure node life closure
closure_by {life = life} {closure = closure} comes goes is =
    let data_is = (gives_some (same_data life closure) is).0 in
    record {
      id = data_is.id;
      comes = comes;
      depth = data_is.depth;
      goes = goes;
      acts = data_is.acts;
      link = data_is.link;
      spawned = λ other. data_is.spawned;
      join = data_is.join;
      away = data_is.away;
    }
