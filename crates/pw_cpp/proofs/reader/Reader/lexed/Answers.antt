-- lexed
use Rattle.pw_cpp.proofs.reader.Reader.lexed.Goals as goal

pub returns-in-Ok-clause-behind : goal.returns-in-Ok-clause-behind
returns-in-Ok-clause-behind c = c.lines_go_on.ensures.lexed c.args.text.now c.args.at c.in-Ok.line c.in-Ok.ensures.answers
