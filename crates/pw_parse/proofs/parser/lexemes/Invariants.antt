use Rattle.std.proofs.Common.{◌≡◌, map, take}
use Rattle.pw_tree.specs.Lexemes.{view_lexeme}
use Rattle.pw_parse.specs.Parsing.{symbol_in}
use Rattle.pw_parse.proofs.parser.lexemes.Given as goal

abbrev pub invariant-loop-token : goal.invariant-loop-token
invariant-loop-token l = map view_lexeme l.found.items ≡ map (symbol_in l.text) (take l.token-index l.tokens)
