use Rattle.std.proofs.Common.{ap, sym, ◌∙◌}
use Rattle.pw_cpp_expand.specs.Numbered.{named}
use Rattle.pw_cpp_expand.proofs.Whole.{any-macro, no-macro, no-word}
use Rattle.pw_cpp_expand.proofs.expansion.macro_of.Goals as goal
use Rattle.pw_cpp_macros.specs.Macros.{find}
use Rattle.pw_cpp_sets.specs.Sets.{contains, set_at}

pub returns-then-not-is_word : goal.returns-then-not-is_word
returns-then-not-is_word c =
    sym (no-word c.args.ground.source.now c.args.ground.macros.now (named c.args.sets.now c.args.lexeme) (sym c.is_word.ensures ∙ c.if-not-is_word.true))

pub returns-then-contains : goal.returns-then-contains
returns-then-contains c =
    sym (no-macro c.args.ground.source.now c.args.ground.macros.now (named c.args.sets.now c.args.lexeme)
    (ap (contains (set_at c.args.sets.now c.args.lexeme.hidden)) (sym c.spelled-name.ensures) ∙ sym c.contains.ensures ∙ c.if-contains.true))

pub returns : goal.returns
returns c =
    c.find.ensures ∙ ap (find c.args.ground.macros.now) c.spelled-name.ensures
    ∙ sym (any-macro c.args.ground.source.now c.args.ground.macros.now (named c.args.sets.now c.args.lexeme) (sym c.is_word.ensures ∙ c.if-not-is_word.false)
    (ap (contains (set_at c.args.sets.now c.args.lexeme.hidden)) (sym c.spelled-name.ensures) ∙ sym c.contains.ensures ∙ c.if-contains.false))
