use Rattle.std.proofs.Common.{◌-◌}
use Rattle.pw_tree.specs.Trees.{Listed}
use Rattle.pw_parse_grammar.specs.Declarations.{inits, inits_end}
use Rattle.pw_parse_grammar.specs.Input.{turn_with, ◌<$>◌, ◌>>=◌}
use Rattle.pw_parse_decl.specs.Views.{init_first}
use Rattle.pw_parse_cursor.proofs.Loops.{Reading, prepend}
use Rattle.pw_parse_decl.proofs.decl.inits.Given as goal

abbrev pub invariant-loop-turn : goal.invariant-loop-turn
invariant-loop-turn g l =
    Reading (((λ x more. (Listed x more.0, more.1)) <$> g.P.InitParts.parser l.parts) >>= λ first. turn_with first <$> inits_end) (inits (g.P.InitParts.parser l.parts) l.fn.tokens)
    (prepend init_first l.found.items) (l._turn-end - l._turn) l.tokens
