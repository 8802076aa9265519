use Rattle.std.proofs.Common.{◌-◌}
use Rattle.pw_parse_grammar.specs.Specifiers.{specifiers_of}
use Rattle.pw_parse_specifiers.proofs.TypedLoop.{Typed}
use Rattle.pw_parse_specifiers.proofs.specifier.specifiers_of.Given as goal

abbrev pub invariant-loop-turn : goal.invariant-loop-turn
invariant-loop-turn g l = Typed (g.P.SmallerParts.parsers l.parts) l.storage (specifiers_of (g.P.SmallerParts.parsers l.parts) l.storage l.fn.tokens) l.found.items (l._turn-end - l._turn) l.typed l.tokens
