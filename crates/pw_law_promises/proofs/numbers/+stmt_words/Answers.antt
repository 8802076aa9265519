-- The parts of a block and the arms of an `if` stand in lists.
use Rattle.pw_law_promises.proofs.NumberLemmas.{block_words, if_words}
use Rattle.pw_law_promises.proofs.numbers.+stmt_words.Goals as goal

pub stmt_words-returns-in-Block : goal.stmt_words-returns-in-Block
stmt_words-returns-in-Block t c =
    block_words c.args.s.now.token c.args.s.now.form c.in-Block.first c.in-Block.count c.in-Block.initialisers c.in-Block.items _ _ c.in-Block.is c.deref.ensures.value c.deref-in-Block.ensures.value c.words_of_initialisers.ensures
    c.words_of_statements.ensures

pub stmt_words-returns-in-If : goal.stmt_words-returns-in-If
stmt_words-returns-in-If t c = if_words c.args.s.now.token c.args.s.now.form c.in-If.arms c.in-If.otherwise _ c.in-If.is c.deref-in-If.ensures.value c.arm_words.ensures c.else_words.ensures
