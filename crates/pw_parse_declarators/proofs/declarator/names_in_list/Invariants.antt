use Rattle.std.proofs.Common.{◌-◌, []}
use Rattle.pw_parse_grammar.specs.Declarators.{name_in_list, names_in_list}
use Rattle.pw_parse_grammar.specs.Input.{turn_with, unless_comma, ◌<$>◌, ◌>>=◌}
use Rattle.pw_parse_cursor.specs.CursorViews.{binding_first}
use Rattle.pw_parse_cursor.specs.PartViews.{word_first}
use Rattle.pw_parse_cursor.proofs.Loops.{Reading, prepend}
use Rattle.pw_parse_declarators.proofs.declarator.names_in_list.Given as goal

abbrev pub invariant-loop-turn : goal.invariant-loop-turn
invariant-loop-turn l =
    Reading (name_in_list >>= λ first. turn_with first <$> unless_comma ([], [])) (names_in_list l.fn.tokens)
    (λ more. (prepend word_first l.words.items more.0, prepend binding_first l.bindings.items more.1)) (l._turn-end - l._turn) l.tokens
