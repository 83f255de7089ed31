use Rattle.std.proofs.Common.{◌≡◌, sym, subst}
use Rattle.home_store.specs.Home.{Home, HasPage, words_of}
use Rattle.home_store.proofs.Changing.{page_loaded}
use Rattle.home_store.proofs.home.Home.load.Goals as goal

pub returns : goal.returns
returns c =
    let home : Home = record { node = c.self.inside.node; config = c.self.inside.config; shared = c.self.inside.shared; words = c.self.inside.words.items } in
    let has : HasPage home c.args.page = subst (λ (h : Home). HasPage h c.args.page) (sym c.self.view_is) c.requires in
    subst (λ (h : Home). c.loop-word.words ≡ words_of h c.args.page) c.self.view_is
    (page_loaded home c.args.page c.loop-word.words c.deref.result.now c.first_place-first.result c.loop-word.word-index has c.self.invariant
    c.first_place-first.ensures c.deref.ensures.value c.loop-word-test.false c.loop-word.invariant)
