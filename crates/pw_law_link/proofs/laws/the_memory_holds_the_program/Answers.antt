use Rattle.pw_law_link.proofs.Memory.{words_held, items_held, rest_is_zero}
use Rattle.pw_law_link.proofs.laws.the_memory_holds_the_program.Goals as goal

pub returns-clause-words : goal.returns-clause-words
returns-clause-words c = words_held c.text_words.ensures

pub returns-clause-items : goal.returns-clause-items
returns-clause-items c = items_held c.data_bytes.ensures.item

pub returns-clause-zero : goal.returns-clause-zero
returns-clause-zero c = rest_is_zero c.data_bytes.ensures.other
