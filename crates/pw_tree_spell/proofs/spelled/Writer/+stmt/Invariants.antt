-- What is left of the list is still to come.
use Rattle.std.proofs.Common.{drop}
use Rattle.pw_tree.specs.Spelling as spell
use Rattle.pw_tree.specs.Views as view
use Rattle.pw_tree_spell.specs.Writing.{Goes, GoesBefore}
use Rattle.pw_tree_spell.proofs.spelled.Writer.+stmt.Given as goal

abbrev pub invariant-else_ifs-loop-else_if : goal.invariant-else_ifs-loop-else_if
invariant-else_ifs-loop-else_if l =
    GoesBefore (λ rest. spell.spell_alternative (view.view_else_ifs (drop l.else_if-index l.else_ifs) rest)) (λ rest. spell.spell_alternative (view.view_else_ifs l.else_ifs rest)) l.initial.self l.self

abbrev pub invariant-stmts-loop-statement : goal.invariant-stmts-loop-statement
invariant-stmts-loop-statement l =
    Goes (spell.spell_stmts (view.view_stmts (drop l.statement-index l.statements))) (spell.spell_stmts (view.view_stmts l.statements)) l.initial.self l.self
