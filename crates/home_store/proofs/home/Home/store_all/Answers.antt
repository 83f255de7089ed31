use Rattle.std.proofs.Common.{◌≡◌, ◌+◌, ◌∷◌, ◌∙◌, ap, sym, subst, drop, suc, List, add-one}
use Rattle.std.proofs.Math.Seq.{drop-cons}
use Rattle.page_words.specs.declared.config.Config.{Config}
use Rattle.page_messages.specs.Fitting.{Ascending, PartFits, pages_of}
use Rattle.page_messages.specs.declared.parts.Part.{Part}
use Rattle.home_store.specs.Home.{Home, HasChanged, left_by_part}
use Rattle.home_store.proofs.Parting.{IsMerging, ascending_from, fits_at, part_merged}
use Rattle.home_store.proofs.home.Home.store_all.Goals as goal

pub store-requires-clause-fits : goal.store-requires-clause-fits
store-requires-clause-fits c =
    let part : Part = c.part-item.result in
    let config : c.loop-part.self.config ≡ c.args.self.now.config = ap (λ (h : Home). h.config) c.loop-part.invariant.rest in
    subst (λ (layout : Config). PartFits layout part) (sym config)
    (subst (λ (p : Part). PartFits c.args.self.now.config p) (sym c.part-item.is) (fits_at c.args.self.now.config c.args.parts.now c.loop-part.part-index part c.requires.fits.each c.loop-part-test.true))

pub loop-part-preserved : goal.loop-part-preserved
loop-part-preserved c =
    let part : Part = c.part-item.result in
    let at = c.loop-part.part-index in
    let left : drop at c.args.parts.now ≡ part ∷ drop (at + 1) c.args.parts.now =
    drop-cons c.args.parts.now at part c.loop-part-test.true ∙ (ap (λ p. p ∷ drop (suc at) c.args.parts.now) (sym c.part-item.is) ∙ ap (λ n. part ∷ drop n c.args.parts.now) (sym (add-one at))) in
    let config : c.loop-part.self.config ≡ c.args.self.now.config = ap (λ (h : Home). h.config) c.loop-part.invariant.rest in
    part_merged c.args.parts.now c.args.self.now c.loop-part.self part (drop (at + 1) c.args.parts.now) c.store.new.self
    (subst (λ (parts : List Part). Ascending (pages_of parts)) left (ascending_from c.args.parts.now at c.requires.fits.ascending))
    (subst (λ (parts : List Part). IsMerging c.args.parts.now parts c.args.self.now c.loop-part.self) left c.loop-part.invariant)
    (subst (λ (layout : Config). HasChanged (left_by_part layout part) c.loop-part.self c.store.new.self) config c.store.ensures)
