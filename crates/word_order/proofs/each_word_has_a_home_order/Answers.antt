use Rattle.word_order.proofs.HomesThere.{each_word_has_a_home_order}
use Rattle.word_order.proofs.each_word_has_a_home_order.Goals as goal

pub returns : goal.returns
returns c = λ cluster turns word lawful. each_word_has_a_home_order cluster turns lawful word
