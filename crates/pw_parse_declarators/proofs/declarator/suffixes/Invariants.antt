use Rattle.std.proofs.Common.{◌-◌, None}
use Rattle.std.specs.Option.{option_or}
use Rattle.pw_tree.specs.Trees.{NoSuffix}
use Rattle.pw_tree.specs.Views.{view_suffix}
use Rattle.pw_parse_grammar.specs.Declarators.{suffix, suffixes}
use Rattle.pw_parse_grammar.specs.Input.{turn_of, ◌<$>◌}
use Rattle.pw_parse_cursor.specs.PartViews.{view_behind}
use Rattle.pw_parse_cursor.proofs.Loops.{Reading, prepend}
use Rattle.pw_parse_declarators.proofs.declarator.suffixes.Given as goal

abbrev pub invariant-loop-turn : goal.invariant-loop-turn
invariant-loop-turn g l =
    Reading (turn_of (NoSuffix, None) <$> suffix (g.P.SmallerParts.parsers l.parts) l.named) (suffixes (g.P.SmallerParts.parsers l.parts) l.named l.fn.tokens)
    (λ more. (prepend view_suffix l.found.items more.0, option_or (view_behind l.first) more.1)) (l._turn-end - l._turn) l.tokens
