use Rattle.std.proofs.Common.{◌≡◌, ◌∙◌, refl, arith, w64, to_z, of_z, FitsSigned, rules}
use Rattle.std.proofs.lemmas.Int.{to_z-of_z}
use Rattle.machine_code.specs.StandsFor.{start_words_of}
use Rattle.home_store.proofs.First.{first_more, first_room, first_words}
use Rattle.home_store.proofs.home.Home.new.Goals as goal

pub loop-place-preserved : goal.loop-place-preserved
loop-place-preserved c =
    let fits : FitsSigned w64 c.start_word.result = search rules in
    first_more c.args.config.now c.args.node c.loop-place.place c.word_at.result (start_words_of c.args.code.now) c.loop-place.words.items c.push.new.self.items
    (to_z w64 (of_z w64 c.start_word.result)) c.loop-place.invariant (c.in_ok-push.ensures {u = tt}).items (to_z-of_z w64 c.start_word.result fits ∙ c.start_word.ensures) c.word_at.ensures

pub invariant_of-result : goal.invariant_of-result
invariant_of-result c =
    let all : c.loop-place.place ≡ c.places-places.result = omega arith in
    first_room c.args.config.now c.args.node c.words-shared.result c.places-places.result c.loop-place.place (start_words_of c.args.code.now) c.loop-place.words.items all
    c.loop-place.invariant c.places-places.ensures.places c.places-places.ensures.used

pub returns : goal.returns
returns c =
    let all : c.loop-place.place ≡ c.places-places.result = omega arith in
    record {
      node = refl;
      config = refl;
      shared = c.words-shared.ensures;
      words = first_words c.args.config.now c.args.node c.words-shared.result c.places-places.result c.loop-place.place (start_words_of c.args.code.now) c.loop-place.words.items all
          c.loop-place.invariant c.places-places.ensures.places;
    }
