use Rattle.std.proofs.Common.{◌-◌}
use Rattle.pw_parse_grammar.specs.Specifiers.{member_declarator, member_declarators}
use Rattle.pw_parse_grammar.specs.Input.{turn_with, unless_comma, ◌<$>◌, ◌>>=◌}
use Rattle.pw_tree.specs.Views.{view_member_declarator}
use Rattle.pw_tree.specs.Trees.{NoMemberDeclarator}
use Rattle.pw_parse_cursor.proofs.Loops.{Reading, prepend}
use Rattle.pw_parse_specifiers.proofs.specifier.member_declarators.Given as goal

abbrev pub invariant-loop-turn : goal.invariant-loop-turn
invariant-loop-turn g l = Reading (member_declarator (g.P.SmallerParts.parsers l.parts) l.typed >>= λ first. turn_with first <$> unless_comma NoMemberDeclarator) (member_declarators (g.P.SmallerParts.parsers l.parts) l.typed l.fn.tokens) (prepend view_member_declarator l.found.items) (l._turn-end - l._turn) l.tokens
