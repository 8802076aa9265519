use Rattle.std.proofs.Common.{drop}
use Rattle.pw_typed.specs.Views as view
use Rattle.pw_law_checked.specs.Words.{WordsInArms, WordsInStatements}
use Rattle.pw_law_promises.proofs.numbers.+stmt_words.Given as goal

-- if those that are left are words, all are
abbrev pub invariant-arm_words-loop-arm : goal.invariant-arm_words-loop-arm
invariant-arm_words-loop-arm l = WordsInArms (view.view_arms (drop l.arm-index l.arms)) → WordsInArms (view.view_arms l.arms)

abbrev pub invariant-words_of_statements-loop-s : goal.invariant-words_of_statements-loop-s
invariant-words_of_statements-loop-s l = WordsInStatements (view.view_stmts (drop l.s-index l.all)) → WordsInStatements (view.view_stmts l.all)
