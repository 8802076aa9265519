use Rattle.pw_tree.specs.Views.{view_module}
use Rattle.pw_parse.proofs.Exact.{parses_as, only_answer}
use Rattle.pw_parse.proofs.parser.parse.Goals as goal

pub returns-clause-parses : goal.returns-clause-parses
returns-clause-parses c = parses_as c.reading_is_exact.ensures view_module c.args.text.now c.args.tokens.now c.parse_tokens.result c.parse_tokens.ensures

pub returns-clause-only : goal.returns-clause-only
returns-clause-only c = only_answer c.reading_is_exact.ensures view_module c.args.text.now c.args.tokens.now c.parse_tokens.result c.parse_tokens.ensures
