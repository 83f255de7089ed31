use Rattle.std.proofs.Common.{◌*◌, ◌<◌, ◌∙◌, ap, sym, subst}
use Rattle.std.specs.Int.{div_ceil}
use Rattle.page_words.specs.Layout.{home_of}
use Rattle.home_store.proofs.Rounds.{page_below, place_used, few_places, page_at, home_at}
use Rattle.home_store.proofs.Deciding.{some_word, few_words}
use Rattle.home_store.proofs.places.places.Goals as goal

pub returns-clause-places : goal.returns-clause-places
returns-clause-places c =
    let config = c.args.config.now in
    let ceil = c.div_ceil-rounds.ensures ∙ ap (λ words. div_ceil words (config.nodes * config.page_words)) c.saturating_sub.ensures in
    λ page is. page_below config.nodes config.page_words c.args.node c.args.shared c.div_ceil-rounds.result ceil (some_word config) c.if-node-config.false page is.used is.home

pub returns-clause-used : goal.returns-clause-used
returns-clause-used c =
    let config = c.args.config.now in
    let ceil = c.div_ceil-rounds.ensures ∙ ap (λ words. div_ceil words (config.nodes * config.page_words)) c.saturating_sub.ensures in
    λ place below.
    let page = page_at config.nodes config.page_words c.args.node place (some_word config) in
    record {
      used = subst (λ p. p * config.page_words < c.args.shared) (sym page)
          (place_used config.nodes config.page_words c.args.node c.args.shared c.div_ceil-rounds.result ceil (some_word config) c.if-node-config.false place below);
      home = ap (home_of config) page ∙ home_at config.nodes config.page_words c.args.node place c.if-node-config.false;
    }

pub returns-clause-few : goal.returns-clause-few
returns-clause-few c =
    let config = c.args.config.now in
    let ceil = c.div_ceil-rounds.ensures ∙ ap (λ words. div_ceil words (config.nodes * config.page_words)) c.saturating_sub.ensures in
    few_places config.nodes config.page_words c.args.node c.args.shared c.div_ceil-rounds.result ceil (some_word config) c.if-node-config.false c.ranges.shared.fits config.limits.at_most_16_nodes (few_words config)
