use Rattle.pw_parse_grammar.proofs.Sound.Laws.{tree-sound}
use Rattle.pw_parse_grammar.proofs.laws.what_is_read_is_written.Goals as goal

pub returns : goal.returns
returns c = tree-sound
