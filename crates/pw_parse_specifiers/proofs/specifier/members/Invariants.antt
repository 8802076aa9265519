use Rattle.std.proofs.Common.{◌-◌}
use Rattle.pw_parse_grammar.specs.Specifiers.{member, members}
use Rattle.pw_parse_grammar.specs.Input.{turn_with, ◌<$>◌, ◌>>=◌}
use Rattle.pw_parse_specifiers.specs.Views.{member_first}
use Rattle.pw_parse_grammar.specs.Specifiers.{closes_members}
use Rattle.pw_parse_cursor.proofs.Loops.{Reading, prepend}
use Rattle.pw_parse_specifiers.proofs.specifier.members.Given as goal

abbrev pub invariant-loop-turn : goal.invariant-loop-turn
invariant-loop-turn g l = Reading (member (g.P.SmallerParts.parsers l.parts) >>= λ first. turn_with first <$> closes_members) (members (g.P.SmallerParts.parsers l.parts) l.fn.tokens) (prepend member_first l.found.items) (l._turn-end - l._turn) l.tokens
