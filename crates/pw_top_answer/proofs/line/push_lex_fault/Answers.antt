use Rattle.std.proofs.Common.{append_assoc}
use Rattle.pw_top_answer.proofs.line.push_lex_fault.Goals as goal

pub returns-in_ok-push_numbered-in-Bad : goal.returns-in_ok-push_numbered-in-Bad
returns-in_ok-push_numbered-in-Bad c = rw (c.in-Bad.is, c.in_ok-push_numbered-in-Bad.ensures) (simp append_assoc)

pub returns-in_ok-push_numbered-in-TooMany : goal.returns-in_ok-push_numbered-in-TooMany
returns-in_ok-push_numbered-in-TooMany c = rw (c.in-TooMany.is, c.in_ok-push_numbered-in-TooMany.ensures) (simp append_assoc)
