use Rattle.std.proofs.Common.{refl}
use Rattle.pw_parse_grammar.proofs.Written.Module.{behind_all}
use Rattle.pw_parse_grammar.proofs.Written.Laws.{tree-read}
use Rattle.pw_parse_grammar.proofs.laws.what_is_written_is_read.Goals as goal

pub returns : goal.returns
returns c = λ tokens tree h. (behind_all tree, refl, tree-read c.symbols_have_one_spelling.ensures.of_symbol tokens tree h)
