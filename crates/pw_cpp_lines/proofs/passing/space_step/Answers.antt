use Rattle.std.proofs.Common.{◌≡◌, false, arith}
use Rattle.pw_cpp_lines.specs.Lines.{is_line_end}
use Rattle.pw_cpp_lines.proofs.Cutting.{found-within, no-step, rest-found, space-step}
use Rattle.pw_cpp_lines.proofs.passing.space_step.Goals as goal

pub returns-then-len-eq0-clause-step : goal.returns-then-len-eq0-clause-step
returns-then-len-eq0-clause-step c =
    let text = c.args.text.now in
    let at = c.args.at in
    no-step text at c.piece_at.result c.space_len-len.result (rest-found false text at c.piece_at.result c.piece_at.ensures.exact)
    (found-within text at c.piece_at.result c.piece_at.ensures.within) c.space_len-len.ensures c.if-len-eq0.true

pub returns-clause-step : goal.returns-clause-step
returns-clause-step c =
    let text = c.args.text.now in
    let at = c.args.at in
    let goes_on : is_line_end text at ≡ false = cc in
    space-step text at c.piece_at.result c.space_len-len.result goes_on (rest-found false text at c.piece_at.result c.piece_at.ensures.exact)
    c.space_len-len.ensures (omega (arith, c.if-len-eq0.false))
