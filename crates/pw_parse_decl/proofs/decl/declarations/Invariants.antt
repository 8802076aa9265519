use Rattle.std.proofs.Common.{◌-◌, [], Some, None}
use Rattle.pw_parse_grammar.specs.Declarations.{declaration_next, declarations}
use Rattle.pw_parse_grammar.specs.Input.{turn_of, ◌<$>◌}
use Rattle.pw_parse_decl.specs.Views.{decl_first}
use Rattle.pw_parse_cursor.proofs.Loops.{Reading, prepend}
use Rattle.pw_parse_decl.proofs.decl.declarations.Given as goal

abbrev pub invariant-loop-turn : goal.invariant-loop-turn
invariant-loop-turn g l = Reading (turn_of [] <$> declaration_next (g.P.DeclParts.limit l.parts) l.labels) (declarations (g.P.DeclParts.limit l.parts) l.labels l.fn.tokens) (prepend decl_first l.found.items) (l._turn-end - l._turn) l.tokens
