use Rattle.std.proofs.Common.{◌-◌, []}
use Rattle.pw_tree.specs.Views.{view_init_declarator}
use Rattle.pw_parse_grammar.specs.Declarations.{other_declarator, init_declarators}
use Rattle.pw_parse_grammar.specs.Input.{turn_of, ◌<$>◌}
use Rattle.pw_parse_decl.specs.Views.{init_declarator_first}
use Rattle.pw_parse_cursor.proofs.Loops.{Reading, prepend}
use Rattle.pw_parse_decl.proofs.decl.init_declarators.Given as goal

abbrev pub invariant-loop-turn : goal.invariant-loop-turn
invariant-loop-turn g l =
    Reading (turn_of [] <$> other_declarator (g.P.DeclParts.limit l.parts) l.typed l.is_typedef) (init_declarators (g.P.DeclParts.limit l.parts) l.typed l.is_typedef (view_init_declarator l.fn.first) l.fn.tokens)
    (prepend init_declarator_first l.found.items) (l._turn-end - l._turn) l.tokens
