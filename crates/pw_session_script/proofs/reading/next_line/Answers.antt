use Rattle.pw_session_script.proofs.ReadingLemmas.{line_found_so, parts_on}
use Rattle.pw_session_script.proofs.reading.next_line.Goals as goal

pub returns-in_err-line_behind-in-Some-clause-part : goal.returns-in_err-line_behind-in-Some-clause-part
returns-in_err-line_behind-in-Some-clause-part g c =
    parts_on (g.I.Source.rest c.args.input.now) (g.I.Source.rest c.next_head.new.input) (g.I.Source.rest c.line_behind.new.input) c.in_ok-head.ensures.part c.line_behind.ensures.part

pub returns-in_ok-line_behind-in-Some-clause-line : goal.returns-in_ok-line_behind-in-Some-clause-line
returns-in_ok-line_behind-in-Some-clause-line g c =
    line_found_so (g.I.Source.rest c.args.input.now) (g.I.Source.rest c.next_head.new.input) (g.I.Source.rest c.line_behind.new.input) c.in_ok-head.field-0 c.in-Some.head c.deref.result.now c.in_ok-line_behind-in-Some.field-0
    c.in-Some.is c.deref.ensures.value c.in_ok-head.ensures.head c.in_ok-line_behind-in-Some.ensures.line

pub returns-in_ok-line_behind-in-Some-clause-part : goal.returns-in_ok-line_behind-in-Some-clause-part
returns-in_ok-line_behind-in-Some-clause-part g c =
    parts_on (g.I.Source.rest c.args.input.now) (g.I.Source.rest c.next_head.new.input) (g.I.Source.rest c.line_behind.new.input) c.in_ok-head.ensures.part c.line_behind.ensures.part
