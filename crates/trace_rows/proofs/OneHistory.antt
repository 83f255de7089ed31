-- Two executions with one history of frames have one history of rows.
use Rattle.std.proofs.Common.{◌≡◌, inl, inr, ℕ, zero, suc, ◌<◌, ◌≤◌, List, [], ◌∷◌, ◌++◌, Some, Bool, true, false, cond, refl, sym, ◌∙◌, ap, subst, arith}
use Rattle.std.specs.Prelude.{slice_get}
use Rattle.page_messages.specs.declared.closure.FrameId.{FrameId}
use Rattle.span_tree.specs.declared.act.Act.{Act}
use Rattle.span_tree.specs.declared.act.Act.TheVariants as row
use Rattle.span_tree.specs.History.{History, row_at}
use Rattle.span_tree.specs.Program.{Starts}
use Rattle.span_tree.proofs.Ways.{some_same}
use Rattle.cluster_rules.specs.Histories.{row_number}
use Rattle.cluster_rules.specs.Lives.{same_frame}
use Rattle.backer_order.specs.Log as log
use Rattle.backer_order.specs.Log.{main_id, Event, Events}
use Rattle.determinacy.specs.Ending.{OneHistory}
use Rattle.determinacy.specs.Following.{Same, Mains, Spawned, Match}
use Rattle.determinacy.specs.Replies.{Instance, Trace, by, reply_to, replies, Born, Obeys}
use Rattle.determinacy.proofs.Matches.{Two, same_instance}
use Rattle.determinacy.proofs.Rows.{either_bool, same_is, given, grew, still}
use Rattle.determinacy.proofs.Twins.{Twins, Reads, Writes, Adds, Prints, Spawns, Syncs, Ticks, twins_of}
use Rattle.word_order.proofs.Rows.{act_by, acts_before, number_get}
use Rattle.word_order.proofs.Places.{AreRows, number_is}
use Rattle.trace_rows.proofs.Alone.{nothing_more, no_act}
use Rattle.trace_rows.proofs.InStep.{Pairwise, pairwise_both, Alike, Plain, BothSpawn, AreInStep, same_history}
use Rattle.trace_rows.proofs.RunAs.{within, first_is_main, main_first, spawning, row_of_child}
use Rattle.trace_rows.specs.RunAs.{RunAs}

-- the act, where it is the frame's
one_each : (Rows : ℕ → ℕ → Type 0) (first second : Bool) (act made : Act) → first ≡ true → second ≡ true → Alike Rows act made →
    Pairwise (Alike Rows) (cond first (act ∷ []) []) (cond second (made ∷ []) [])
one_each Rows true true act made is is_there alike = (alike, tt)
one_each Rows true false act made is is_there alike = absurd cc
one_each Rows false second act made is is_there alike = absurd cc

-- what is no item of the frame leaves its acts as they were
acts_still : (frames : List FrameId) (events : Events) (frame : FrameId) (at : ℕ) → by frame (events at) ≡ false →
    acts_before frames events frame (suc at) ≡ acts_before frames events frame at
unfolding acts_before
acts_still frames events frame at none =
    ap (λ list. acts_before frames events frame at ++ list) (no_act frames frame (events at) none) ∙ nothing_more (acts_before frames events frame at)

module _ (two : Two) (now finish : ℕ) (frames seconds : List FrameId) (history other : History)
    (rows : AreRows two.run.events now frames history) (other_rows : AreRows two.serial.events finish seconds other)
    (runs : RunAs two.run frames history) (other_runs : RunAs two.serial seconds other) where
  -- these are the rows of corresponding frames
  record Corresponds (number second : ℕ) : Type 0 where
    frame : FrameId
    twin : FrameId
    is : slice_get frames number ≡ Some frame
    is_there : slice_get seconds second ≡ Some twin
    same : Same two.starts two.run two.serial frame twin

  abbrev Acts : List Act → List Act → Type 0
  Acts acts others = Pairwise (Alike Corresponds) acts others

  children_correspond : (at place node there : ℕ) (frame twin child next : FrameId) → at < now → place < finish →
      two.run.events at ≡ log.Acts node frame (log.Spawn child) →
      two.serial.events place ≡ log.Acts there twin (log.Spawn next) → Same two.starts two.run two.serial frame twin →
      replies two.starts two.run at frame ≡ replies two.starts two.serial place twin → Corresponds (row_number frames child) (row_number seconds next)
  children_correspond at place node there frame twin child next inside inside_there is is_there same alike = record {
    frame = child;
    twin = next;
    is = number_get frames child (row_of_child two.starts two.main two.run two.run_obeys now frames history rows at node frame child inside is).there;
    is_there = number_get seconds next
        (row_of_child two.starts two.main two.serial two.serial_obeys finish seconds other other_rows place there twin next inside_there is_there).there;
    same = Spawned at place node there frame twin is is_there same alike;
  }

  module _ (frame twin : FrameId) (same : Same two.starts two.run two.serial frame twin) where
    abbrev acts_here : ℕ → List Act
    acts_here at = acts_before frames two.run.events frame at

    abbrev acts_there : ℕ → List Act
    acts_there place = acts_before seconds two.serial.events twin place

    abbrev Told : ℕ → ℕ → Type 0
    Told at place = replies two.starts two.run at frame ≡ replies two.starts two.serial place twin

    module _ (at place : ℕ) (inside : at < now) (inside_there : place < finish) (alike : Told at place) where
      -- two items that were told the same are acts that correspond
      twin_acts : (event next : Event) → Twins event next → two.run.events at ≡ event → two.serial.events place ≡ next → by frame event ≡ true →
          by twin next ≡ true →
          reply_to event (given two.starts two.run at frame) ≡ reply_to next (given two.starts two.serial place twin) →
          Acts (act_by frames frame event) (act_by seconds twin next)
      unfolding by reply_to
      twin_acts event next (Reads node there actor second word value value') is is_there acts acts_there told =
          let same_value : value ≡ value' = cc in
          one_each Corresponds (same_frame actor frame) (same_frame second twin) (row.Read word value) (row.Read word value') acts acts_there
          (subst (λ it. Alike Corresponds (row.Read word value) (row.Read word it)) same_value (Plain (row.Read word value) refl))
      twin_acts event next (Writes node there actor second word value) is is_there acts acts_there told =
          one_each Corresponds (same_frame actor frame) (same_frame second twin) (row.Write word value) (row.Write word value) acts acts_there
          (Plain (row.Write word value) refl)
      twin_acts event next (Adds node there actor second word old old' addend) is is_there acts acts_there told =
          let same_old : old ≡ old' = cc in
          one_each Corresponds (same_frame actor frame) (same_frame second twin) (row.Add word old addend) (row.Add word old' addend) acts acts_there
          (subst (λ it. Alike Corresponds (row.Add word old addend) (row.Add word it addend)) same_old (Plain (row.Add word old addend) refl))
      twin_acts event next (Prints node there actor second value) is is_there acts acts_there told =
          one_each Corresponds (same_frame actor frame) (same_frame second twin) (row.Print value) (row.Print value) acts acts_there
          (Plain (row.Print value) refl)
      twin_acts event next (Spawns node there actor second child born) is is_there acts acts_there told =
          one_each Corresponds (same_frame actor frame) (same_frame second twin) (row.Spawn (row_number frames child))
          (row.Spawn (row_number seconds born)) acts acts_there
          (BothSpawn (row_number frames child) (row_number seconds born) (children_correspond at place node there frame twin child born inside inside_there
          (is ∙ ap (λ it. log.Acts node it (log.Spawn child)) (same_is actor frame acts))
          (is_there ∙ ap (λ it. log.Acts there it (log.Spawn born)) (same_is second twin acts_there))
          same alike))
      twin_acts event next (Syncs node there actor second) is is_there acts acts_there told =
          one_each Corresponds (same_frame actor frame) (same_frame second twin) row.Sync row.Sync acts acts_there (Plain row.Sync refl)
      twin_acts event next (Ticks node there actor second) is is_there acts acts_there told = tt

    abbrev Goal : ℕ → ℕ → Type 0
    Goal at place = at ≤ now → place ≤ finish → Told at place → Acts (acts_here at) (acts_there place)

    skip_there : (at place : ℕ) → by twin (two.serial.events place) ≡ false → Goal at place → Goal at (suc place)
    skip_there at place none goal inside inside_there told =
        subst (λ list. Acts (acts_here at) list) (sym (acts_still seconds two.serial.events twin place none))
        (goal inside (omega (arith, inside_there)) (told ∙ still two.starts two.serial place twin none))

    skip_here : (at place : ℕ) → by frame (two.run.events at) ≡ false → Goal at place → Goal (suc at) place
    skip_here at place none goal inside inside_there told =
        subst (λ list. Acts list (acts_there place)) (sym (acts_still frames two.run.events frame at none))
        (goal (omega (arith, inside)) inside_there (sym (still two.starts two.run at frame none) ∙ told))

    one_more : (at place : ℕ) → by frame (two.run.events at) ≡ true → by twin (two.serial.events place) ≡ true → Goal at place → Goal (suc at) (suc place)
    unfolding acts_before
    one_more at place made made_there goal inside inside_there told =
        let whole = sym (grew two.starts two.run at frame made) ∙ told ∙ grew two.starts two.serial place twin made_there in
        let earlier : Told at place = cc in
        let match : Match two.starts two.run two.serial at place =
        record { frame = frame; row = twin; same = same; by_frame = made; by_row = made_there; alike = earlier } in
        pairwise_both (Alike Corresponds) (acts_here at) (acts_there place) (act_by frames frame (two.run.events at))
        (act_by seconds twin (two.serial.events place))
        (goal (omega (arith, inside)) (omega (arith, inside_there)) earlier)
        (twin_acts at place (omega (arith, inside)) (omega (arith, inside_there)) earlier (two.run.events at) (two.serial.events place)
        (twins_of two at place match) refl refl made made_there cc)

    first_told : (trace : Trace) (it : FrameId) → replies two.starts trace 0 it ≡ []
    unfolding replies
    first_told trace it = refl

    at_first : (place : ℕ) → Goal 0 place
    unfolding acts_before
    at_first zero inside inside_there told = tt
    at_first (suc place) inside inside_there told = elim (either_bool (by twin (two.serial.events place))) [
      | inl made ↦ let none = sym (first_told two.run frame) ∙ told ∙ grew two.starts two.serial place twin made in absurd cc
      | inr none ↦ skip_there 0 place none (λ less less_there same_told. at_first place less less_there same_told) inside inside_there told
    ]

    behind_one : (at : ℕ) → ((place : ℕ) → Goal at place) → by frame (two.run.events at) ≡ true → (place : ℕ) → Goal (suc at) place
    behind_one at before made zero inside inside_there told =
        let none = sym (first_told two.serial twin) ∙ sym told ∙ grew two.starts two.run at frame made in absurd cc
    behind_one at before made (suc place) inside inside_there told = elim (either_bool (by twin (two.serial.events place))) [
      | inl made_there ↦ one_more at place made made_there (before place) inside inside_there told
      | inr none ↦ skip_there (suc at) place none
          (λ less less_there same_told. behind_one at before made place less less_there same_told) inside inside_there told
    ]

    -- Corresponding frames that were told the same did the same.
    did_same : (at place : ℕ) → Goal at place
    did_same zero place inside inside_there told = at_first place inside inside_there told
    did_same (suc at) place inside inside_there told = elim (either_bool (by frame (two.run.events at))) [
      | inl made ↦ behind_one at (λ sooner. did_same at sooner) made place inside inside_there told
      | inr none ↦ skip_here at place none (did_same at place) inside inside_there told
    ]

  -- ---- rows

  born : (number : ℕ) (frame : FrameId) → slice_get frames number ≡ Some frame → Born two.run.events now frame
  born zero frame is = inl (first_is_main two.starts two.main two.run two.run_obeys now frames history rows runs frame is)
  born (suc number) frame is =
      let it = spawning two.starts two.main two.run two.run_obeys now frames history rows number frame is in
      inr (record { at = it.at; node = it.node; parent = it.parent; before = it.inside; is = it.is })

  module _ (one : OneHistory two.starts two.run two.serial now finish) where
    alike : (frame twin : FrameId) → Same two.starts two.run two.serial frame twin → Born two.run.events now frame →
        replies two.starts two.run now frame ≡ replies two.starts two.serial finish twin
    alike frame twin same born_here =
        let its = one.rows frame born_here in its.alike ∙ ap (λ it. replies two.starts two.serial finish it) (one.one_row frame its.row twin its.same same)

    row_acts : (number second : ℕ) → Corresponds number second → Acts (row_at history number).acts (row_at other second).acts
    row_acts number second it =
        subst (λ list. Acts list (row_at other second).acts) (sym (rows.acts number it.frame it.is))
        (subst (λ list. Acts (acts_before frames two.run.events it.frame now) list) (sym (other_rows.acts second it.twin it.is_there))
        (did_same it.frame it.twin it.same now finish (omega arith) (omega arith) (alike it.frame it.twin it.same (born number it.frame it.is))))

    one_number : (number second third : ℕ) → Corresponds number second → Corresponds number third → second ≡ third
    one_number number second third it that =
        let frame : that.frame ≡ it.frame = some_same that.frame it.frame (sym that.is ∙ it.is) in
        let twin = one.one_row it.frame it.twin that.twin it.same (subst (λ one_of. Same two.starts two.run two.serial one_of that.twin) frame that.same) in
        sym (number_is two.serial.events finish seconds other other_rows second it.twin it.is_there) ∙ ap (row_number seconds) twin
        ∙ number_is two.serial.events finish seconds other other_rows third that.twin that.is_there

    in_step : AreInStep history other Corresponds
    in_step = record {
      mains = record {
        frame = main_id;
        twin = main_id;
        is = main_first two.starts two.main two.run two.run_obeys now frames history rows runs;
        is_there = main_first two.starts two.main two.serial two.serial_obeys finish seconds other other_rows other_runs;
        same = Mains;
      };
      inside = λ number second it. within two.starts two.main two.run two.run_obeys now frames history rows number it.frame it.is;
      one_row = one_number;
      procedure = λ number second it. runs.procedure number it.frame it.is
          ∙ ap (λ (run : Instance). run.procedure) (same_instance two it.frame it.twin it.same) ∙ sym (other_runs.procedure second it.twin it.is_there);
      arguments = λ number second it. runs.arguments number it.frame it.is
          ∙ ap (λ (run : Instance). run.arguments) (same_instance two it.frame it.twin it.same) ∙ sym (other_runs.arguments second it.twin it.is_there);
      acts = row_acts;
    }

    same_rows : history ≡ other
    same_rows = same_history history other rows.numbered other_rows.numbered Corresponds in_step

-- Two executions of a program whose frames correspond one for one, run the same and were told the same have one history.
pub one_history : (starts : Starts) (main : ℕ) (run serial : Trace) → Obeys starts main run → Obeys starts main serial →
    (now finish : ℕ) (frames seconds : List FrameId) (history other : History)
    → AreRows run.events now frames history → AreRows serial.events finish seconds other → RunAs run frames history → RunAs serial seconds other
    → OneHistory starts run serial now finish → history ≡ other
one_history starts main run serial run_obeys serial_obeys now finish frames seconds history other rows other_rows runs other_runs one =
    same_rows (record { starts = starts; main = main; run = run; serial = serial; run_obeys = run_obeys; serial_obeys = serial_obeys })
    now finish frames seconds history other rows other_rows runs other_runs one
