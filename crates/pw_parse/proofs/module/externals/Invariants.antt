use Rattle.std.proofs.Common.{◌-◌}
use Rattle.pw_parse_grammar.specs.Modules.{external, externals}
use Rattle.pw_parse_grammar.specs.Input.{turn_with, ◌<$>◌, ◌>>=◌}
use Rattle.pw_parse.specs.Views.{external_first}
use Rattle.pw_parse_grammar.specs.Modules.{ends_text}
use Rattle.pw_parse_cursor.proofs.Loops.{Reading, prepend}
use Rattle.pw_parse.proofs.module.externals.Given as goal

abbrev pub invariant-loop-turn : goal.invariant-loop-turn
invariant-loop-turn l = Reading (external l.limit >>= λ first. turn_with first <$> ends_text l.limit) (externals l.limit l.fn.tokens) (prepend external_first l.found.items) (l._turn-end - l._turn) l.tokens
