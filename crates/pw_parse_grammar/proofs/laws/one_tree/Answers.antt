use Rattle.pw_parse_grammar.proofs.Written.Laws.{same-tree}
use Rattle.pw_parse_grammar.proofs.laws.one_tree.Goals as goal

pub returns : goal.returns
returns c = same-tree c.symbols_have_one_spelling.ensures.of_symbol
