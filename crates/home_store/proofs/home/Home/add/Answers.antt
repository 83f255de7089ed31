use Rattle.std.proofs.Common.{◌≡◌, ℕ, ℤ, ◌+◌, ◌%◌, ◌∙◌, ap, sym, subst, w64, to_z, of_z, FitsSigned, rules}
use Rattle.std.proofs.Math.ListN.{length-set, set}
use Rattle.std.proofs.lemmas.Int.{to_z-of_z}
use Rattle.cilk_meaning.specs.World.{sum_or_old}
use Rattle.home_store.specs.Home.{Home, HasWord, HasChanged, held, left_by_add}
use Rattle.home_store.specs.Places.{first_place, place_of}
use Rattle.home_store.proofs.Changing.{add_changes, held_there}
use Rattle.home_store.proofs.Storing.{same_room}
use Rattle.home_store.proofs.home.Home.add.Goals as goal

pub invariant_of-self : goal.invariant_of-self
invariant_of-self c = same_room c.self.inside.config c.self.inside.shared c.self.inside.node c.self.inside.words.items _ (length-set _ _ _) c.self.invariant

pub returns-clause-old : goal.returns-clause-old
returns-clause-old c =
    let home : Home = record { node = c.self.inside.node; config = c.self.inside.config; shared = c.self.inside.shared; words = c.self.inside.words.items } in
    let has : HasWord home c.args.word = subst (λ (h : Home). HasWord h c.args.word) (sym c.self.view_is) c.requires in
    let place : ℕ = c.first_place.result + c.args.word % home.config.page_words in
    let at : place ≡ place_of home.config c.args.word = ap (λ n. n + c.args.word % home.config.page_words) (c.first_place.ensures ∙ ap (first_place home.config) c.page_of-page.ensures) in
    let fits : FitsSigned w64 c.index-old.result.now = search rules in
    subst (λ (h : Home). to_z w64 (of_z w64 c.index-old.result.now) ≡ held h c.args.word) c.self.view_is
    (to_z-of_z w64 c.index-old.result.now fits ∙ held_there home c.args.word place has c.self.invariant at c.index-old.result.now c.index-old.ensures)

pub returns-clause-words : goal.returns-clause-words
returns-clause-words c =
    let home : Home = record { node = c.self.inside.node; config = c.self.inside.config; shared = c.self.inside.shared; words = c.self.inside.words.items } in
    let has : HasWord home c.args.word = subst (λ (h : Home). HasWord h c.args.word) (sym c.self.view_is) c.requires in
    let place : ℕ = c.first_place.result + c.args.word % home.config.page_words in
    let at : place ≡ place_of home.config c.args.word = ap (λ n. n + c.args.word % home.config.page_words) (c.first_place.ensures ∙ ap (first_place home.config) c.page_of-page.ensures) in
    let old : ℤ = c.index-old.result.now in
    let old_fits : FitsSigned w64 old = search rules in
    let addend_fits : FitsSigned w64 c.args.addend = search rules in
    let sum_fits : FitsSigned w64 c.sum_or_old.result = search rules in
    let sum : to_z w64 (of_z w64 c.sum_or_old.result) ≡ sum_or_old old c.args.addend =
    to_z-of_z w64 c.sum_or_old.result sum_fits ∙ (c.sum_or_old.ensures
    ∙ (ap (λ v. sum_or_old v (to_z w64 (of_z w64 c.args.addend))) (to_z-of_z w64 old old_fits) ∙ ap (sum_or_old old) (to_z-of_z w64 c.args.addend addend_fits))) in
    let is = held_there home c.args.word place has c.self.invariant at old c.index-old.ensures in
    let change = add_changes home c.args.word place has c.self.invariant at old c.args.addend (to_z w64 (of_z w64 c.sum_or_old.result)) is sum in
    subst (λ (h : Home). HasChanged (left_by_add c.args.word (held h c.args.word) c.args.addend) h (record home { words = set home.words place (to_z w64 (of_z w64 c.sum_or_old.result)) })) c.self.view_is change
