use Rattle.std.proofs.Common.{◌≡◌, arith, ◌∙◌, subst, w64, to_z, of_z, FitsSigned, rules}
use Rattle.std.proofs.lemmas.Int.{to_z-of_z}
use Rattle.machine_code.specs.StandsFor.{start_words_of}
use Rattle.serial_run.specs.Elision.{AreWords}
use Rattle.serial_run.proofs.Standing.{no_words, words_more}
use Rattle.serial_run.proofs.words.start_words.Goals as goal

pub loop-word-init : goal.loop-word-init
loop-word-init c = no_words (start_words_of c.args.code.now) c.in_ok-words.words.items (c.in_ok-words.ensures {u = tt}).items

pub loop-word-preserved : goal.loop-word-preserved
loop-word-preserved c =
    let fits : FitsSigned w64 c.start_word.result = search rules in
    words_more c.loop-word.word (start_words_of c.args.code.now) c.loop-word.words.items c.push.new.self.items (to_z w64 (of_z w64 c.start_word.result)) c.loop-word.invariant
    (to_z-of_z w64 c.start_word.result fits ∙ c.start_word.ensures) (c.in_ok-push.ensures {u = tt}).items

pub returns : goal.returns
returns c =
    let count : c.loop-word.word ≡ c.words-count.result = omega arith in
    subst (λ n. AreWords n (start_words_of c.args.code.now) c.loop-word.words.items) (count ∙ c.words-count.ensures) c.loop-word.invariant
