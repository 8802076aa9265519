use Rattle.pw_parse_grammar.proofs.Exact.{exact}
use Rattle.pw_parse_grammar.proofs.laws.reading_is_exact.Goals as goal

pub returns : goal.returns
returns c = exact c.symbols_have_one_spelling.ensures.of_symbol
