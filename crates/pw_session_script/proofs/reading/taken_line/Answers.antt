use Rattle.std.proofs.Common.{◌+◌, refl}
use Rattle.pw_session_script.specs.Reading.{command_view}
use Rattle.pw_session_script.proofs.ReadingLemmas.{taken_line}
use Rattle.pw_session_script.proofs.reading.taken_line.Goals as goal

pub returns-clause-line : goal.returns-clause-line
returns-clause-line g c =
    taken_line (command_view c.args.command) c.args.before c.content_length.result (g.I.Source.rest c.args.input.now) (g.I.Source.rest c.line_of.new.input) c.in_ok-line.line
    (record { line = c.in_ok-line.line; length = c.args.before + c.content_length.result }) c.in_ok-line.ensures.line refl refl c.content_length.ensures
