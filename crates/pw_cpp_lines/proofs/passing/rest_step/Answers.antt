use Rattle.std.proofs.Common.{◌≡◌, false, arith}
use Rattle.pw_cpp_lines.specs.Passing.{is_bare_newline, is_raw_end}
use Rattle.pw_cpp_lines.proofs.Cutting.{inside}
use Rattle.pw_cpp_lines.proofs.passing.rest_step.Goals as goal

pub returns-clause-within : goal.returns-clause-within
returns-clause-within c =
    let text = c.args.text.now in
    let at = c.args.at in
    let goes_on : is_raw_end text at ≡ false = cc in
    let within = inside text at (is_bare_newline text at) goes_on in
    (omega arith, omega (arith, within))
