-- The arguments of a call stand in a list.
use Rattle.pw_law_promises.proofs.NumberLemmas.{call_words, call_value_words}
use Rattle.pw_law_promises.proofs.numbers.+expr_words.Goals as goal

pub node_words-returns-in-Call : goal.node_words-returns-in-Call
node_words-returns-in-Call t c = λ h. call_words c.args.e.now.form c.in-Call.field-0 c.in-Call.args _ c.in-Call.is c.deref-in-Call.ensures.value c.words_of_all.ensures

pub node_words-returns-in-CallValue : goal.node_words-returns-in-CallValue
node_words-returns-in-CallValue t c =
    call_value_words c.args.e.now.form c.in-CallValue.field-0 c.in-CallValue.args _ c.in-CallValue.is c.deref-in-CallValue.ensures.value c.words_of_all-in-CallValue.ensures
