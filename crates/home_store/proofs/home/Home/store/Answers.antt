use Rattle.std.proofs.Common.{◌≡◌, ◌∙◌, ap, sym, subst, length, List, ℤ}
use Rattle.std.proofs.lemmas.List.{with_items_is}
use Rattle.std.specs.Vec.{vec_len, with_items}
use Rattle.page_messages.specs.Fitting.{PartFits}
use Rattle.home_store.specs.Home.{Home, HasPage, HasChanged, left_by_part}
use Rattle.home_store.specs.Places.{IsStore}
use Rattle.home_store.proofs.Merging.{IsMergedAt}
use Rattle.home_store.proofs.Changing.{part_changes}
use Rattle.home_store.proofs.Storing.{same_room}
use Rattle.home_store.proofs.home.Home.store.Goals as goal

pub invariant_of-self : goal.invariant_of-self
invariant_of-self c =
    let size : length c.merge_at.new.words ≡ vec_len c.self.inside.words = c.merge_at.auto.words ∙ c.deref_mut.ensures.len in
    let is = with_items_is c.self.inside.words c.merge_at.new.words size in
    subst (λ (words : List ℤ). IsStore c.self.inside.config c.self.inside.shared c.self.inside.node words) (sym is)
    (same_room c.self.inside.config c.self.inside.shared c.self.inside.node c.self.inside.words.items c.merge_at.new.words (c.merge_at.auto.words ∙ ap length c.deref_mut.ensures.value) c.self.invariant)

pub returns : goal.returns
returns c =
    let home : Home = record { node = c.self.inside.node; config = c.self.inside.config; shared = c.self.inside.shared; words = c.self.inside.words.items } in
    let has : HasPage home c.args.part.now.page = subst (λ (h : Home). HasPage h c.args.part.now.page) (sym c.self.view_is) c.requires.page in
    let fits : PartFits home.config c.args.part.now = subst (λ (h : Home). PartFits h.config c.args.part.now) (sym c.self.view_is) c.requires.fits in
    let size : length c.merge_at.new.words ≡ vec_len c.self.inside.words = c.merge_at.auto.words ∙ c.deref_mut.ensures.len in
    let is = with_items_is c.self.inside.words c.merge_at.new.words size in
    let merged : IsMergedAt c.first_place-first.result c.args.part.now.mask c.items.result.now c.deref_mut.result.now c.merge_at.new.words =
    record { before = c.merge_at.ensures.before; page = c.merge_at.ensures.merged; behind = c.merge_at.ensures.behind } in
    let change = part_changes home c.args.part.now c.first_place-first.result c.items.result.now c.deref_mut.result.now c.merge_at.new.words has fits
    c.first_place-first.ensures c.items.ensures c.deref_mut.ensures.value merged in
    subst (λ (h : Home). HasChanged (left_by_part h.config c.args.part.now) h (record home { words = (with_items c.self.inside.words c.merge_at.new.words).items })) c.self.view_is
    (subst (λ (words : List ℤ). HasChanged (left_by_part home.config c.args.part.now) home (record home { words = words })) (sym is) change)
