use Rattle.std.proofs.Common.{◌≤◌, drop, IfSome}
use Rattle.pw_types.specs.Spines.{first_of}
use Rattle.pw_typed.specs.Views as view
use Rattle.pw_typed.specs.declared.tree.TForm.{size-TForm}
use Rattle.pw_law_checked.specs.Lawful.{AreWords, AreWordsOf}
use Rattle.pw_law_promises.proofs.numbers.+expr_words.Given as goal

-- if those of the first operand, which is left, are words, all are
abbrev pub invariant-expr_words-loop-first : goal.invariant-expr_words-loop-first
invariant-expr_words-loop-first l =
    (IfSome (first_of (view.view_expr l.node)) AreWords → AreWords (view.view_expr l.e))
    × (size-TForm l.node.form ≤ size-TForm l.e.form)

abbrev pub decreases-expr_words-loop-first : goal.decreases-expr_words-loop-first
decreases-expr_words-loop-first l = size-TForm l.node.form

-- if those that are left are words, all are
abbrev pub invariant-words_of_all-loop-e : goal.invariant-words_of_all-loop-e
invariant-words_of_all-loop-e l = AreWordsOf (view.view_exprs (drop l.e-index l.all)) → AreWordsOf (view.view_exprs l.all)
