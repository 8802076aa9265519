use Rattle.pw_parse_grammar.proofs.FaultLaw.{fault-sound}
use Rattle.pw_parse_grammar.proofs.laws.where_reading_stops.Goals as goal

pub returns : goal.returns
returns c = fault-sound c.symbols_have_one_spelling.ensures.of_symbol
