use Rattle.std.proofs.Common.{◌-◌}
use Rattle.pw_parse_grammar.specs.Specifiers.{enumerator, some_enumerators}
use Rattle.pw_parse_grammar.specs.Input.{turn_with, unless_comma, ◌<$>◌, ◌>>=◌}
use Rattle.pw_tree.specs.Views.{view_enumerator}
use Rattle.pw_tree.specs.Trees.{NoEnumerator}
use Rattle.pw_parse_cursor.proofs.Loops.{Reading, prepend}
use Rattle.pw_parse_specifiers.proofs.specifier.some_enumerators.Given as goal

abbrev pub invariant-loop-turn : goal.invariant-loop-turn
invariant-loop-turn g l = Reading (enumerator (g.P.SmallerParts.parsers l.parts) >>= λ first. turn_with first <$> unless_comma NoEnumerator) (some_enumerators (g.P.SmallerParts.parsers l.parts) l.fn.tokens) (prepend view_enumerator l.found.items) (l._turn-end - l._turn) l.tokens
